-- Bits of masks.
use Rattle.std.proofs.{Common.{◌≡◌, ℕ, ◌-◌, true, arith, refl}, lemmas.{Bool.{eqb-true}, Nat.Bits.{bit_at_and, bit_at-lt}}}
use Rattle.std.specs.{Prelude.min, Int.bit_at}
use Rattle.slots.specs.Slots.{has_bit}
use Rattle.hba_fbs.specs.Bits.{without}

-- a bit that is left was there
pub still_in : (x y k : ℕ) → has_bit (without x y) k ≡ true → has_bit x k ≡ true
still_in x y k h =
    let one : bit_at (without x y) k ≡ 1 = eqb-true (bit_at (without x y) k) 1 h in
    let both : bit_at (without x y) k ≡ min (bit_at x k) (bit_at (4294967295 - y) k) = bit_at_and x (4294967295 - y) k in
    let is : bit_at x k ≡ 1 = omega (arith, one, both, bit_at-lt x k, bit_at-lt (4294967295 - y) k) in
    rw is refl

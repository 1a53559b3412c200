-- Nobody has a turn where the mask is empty.
use Rattle.std.proofs.{Common.{◌≡◌, ℕ, ◌∙◌, false, None, ap}, lemmas.Nat.Bits.{bit_at-zero}}
use Rattle.std.specs.{Prelude.{◌==◌}, Option.option_map}
use Rattle.slots.specs.Slots.{has_bit}
use Rattle.slots.proofs.Door.{lowest_none}
use Rattle.ahci_controller.specs.Circle.{first_behind, is_behind}

none_there : (mask k : ℕ) → mask ≡ 0 → has_bit mask k ≡ false
none_there mask k is = ap (λ (m : ℕ). has_bit m k) is ∙ ap (λ (b : ℕ). b == 1) (bit_at-zero k)

pub none_behind : (count mask last : ℕ) → mask ≡ 0 → first_behind count mask last ≡ None
none_behind count mask last is =
    ap (option_map (is_behind count last)) (lowest_none (λ step. has_bit mask (is_behind count last step)) count (λ k below. none_there mask (is_behind count last k) is))

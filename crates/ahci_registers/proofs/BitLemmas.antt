-- Dwords as sets of bits: what an addition and a clear keep and take.
use Rattle.std.proofs.{Common.{◌≡◌, ℕ, ◌-◌, ◌^◌, ◌<◌, min, max, true, false, sym, ap, ◌∙◌, arith, w32, bit_and, bit_or}, lemmas.Bool.{eqb-true}}
use Rattle.std.proofs.lemmas.{Bool.{ne_eqb, eq-eqb, true≢false}, Nat.{and_assoc, and_comm, and_le_r, and_or_self, and_or_apart, Bits.{bit_at-lt}}}
use Rattle.std.proofs.lemmas.Nat.Bits.{bit_at-zero, bit_at_and, bit_at_or, bit_at_not, same_from_bits, same_from_bits_below}
use Rattle.std.specs.{Prelude.{◌==◌}, Int.{bit_at, Bits.{and_self, and_zero_r}}}
use Rattle.ahci_registers.specs.Bits.{without, clearable, known, shadows}

or_bit : (p x r : ℕ) → min p r ≡ r → min (max p x) r ≡ r
or_bit p x r h = omega (arith, h)

kept_bit : (p q r : ℕ) → p < 2 → q < 2 → r < 2 → min p r ≡ r → min r q ≡ 0 → min (min p (1 - q)) r ≡ r
kept_bit p q r a b c h k = omega (arith, h, k)

taken_bit : (p q : ℕ) → q < 2 → min (min p (1 - q)) q ≡ 0
taken_bit p q b = omega arith

shared_bit : (p q r : ℕ) → min p r ≡ r → min p q ≡ 0 → min r q ≡ 0
shared_bit p q r h k = omega (arith, h, k)

-- the bits of an equation between two sets
each : (x y z i : ℕ) → bit_and x y ≡ z → min (bit_at x i) (bit_at y i) ≡ bit_at z i
each x y z i h = sym (bit_at_and x y i) ∙ ap (λ (n : ℕ). bit_at n i) h

-- what is added takes nothing
pub or_keeps : (s x b : ℕ) → bit_and s b ≡ b → bit_and (bit_or s x) b ≡ b
or_keeps s x b h = same_from_bits (bit_and (bit_or s x) b) b (λ i.
    bit_at_and (bit_or s x) b i ∙ ap (λ (n : ℕ). min n (bit_at b i)) (bit_at_or s x i)
    ∙ or_bit (bit_at s i) (bit_at x i) (bit_at b i) (each s b b i h))

-- what is added stands
pub or_adds : (s b k : ℕ) → bit_and b k ≡ b → bit_and (bit_or s (bit_and b k)) b ≡ b
or_adds s b k h = ap (λ (x : ℕ). bit_and (bit_or s x) b) h ∙ and_or_self b s

-- a bit of what is left without y
left_bit : (s y i : ℕ) → y < 2 ^ 32 → i < 32 → bit_at (without s y) i ≡ min (bit_at s i) (1 - bit_at y i)
left_bit s y i fits below = bit_at_and s (4294967295 - y) i ∙ ap (λ (n : ℕ). min (bit_at s i) n) (bit_at_not w32 y i fits below)

-- a clear takes only what it names
pub without_keeps : (s y b : ℕ) → y < 2 ^ 32 → b < 2 ^ 32 → bit_and s b ≡ b → bit_and b y ≡ 0 → bit_and (without s y) b ≡ b
without_keeps s y b fits small h k =
    let low : bit_and (without s y) b < 2 ^ 32 = omega (arith, and_le_r (without s y) b) in
    same_from_bits_below 32 (bit_and (without s y) b) b low small (λ i below.
    bit_at_and (without s y) b i ∙ ap (λ (n : ℕ). min n (bit_at b i)) (left_bit s y i fits below)
    ∙ kept_bit (bit_at s i) (bit_at y i) (bit_at b i) (bit_at-lt s i) (bit_at-lt y i) (bit_at-lt b i) (each s b b i h) (each b y 0 i k ∙ bit_at-zero i))

-- a clear takes what it names
pub without_takes : (s y : ℕ) → y < 2 ^ 32 → bit_and (without s y) y ≡ 0
without_takes s y fits =
    let low : bit_and (without s y) y < 2 ^ 32 = omega (arith, and_le_r (without s y) y) in
    same_from_bits_below 32 (bit_and (without s y) y) 0 low (omega arith) (λ i below.
    bit_at_and (without s y) y i ∙ ap (λ (n : ℕ). min n (bit_at y i)) (left_bit s y i fits below)
    ∙ taken_bit (bit_at s i) (bit_at y i) (bit_at-lt y i) ∙ sym (bit_at-zero i))

-- if s shares nothing with m, neither do bits that stand in s
shared : (s b m : ℕ) → bit_and s b ≡ b → bit_and s m ≡ 0 → bit_and b m ≡ 0
shared s b m h k = same_from_bits (bit_and b m) 0 (λ i.
    bit_at_and b m i ∙ shared_bit (bit_at s i) (bit_at m i) (bit_at b i) (each s b b i h) (each s m 0 i k ∙ bit_at-zero i)
    ∙ sym (bit_at-zero i))

pub still_shares : (s b m : ℕ) → bit_and s b ≡ b → (bit_and b m == 0) ≡ false → (bit_and s m == 0) ≡ false
still_shares s b m h some = ne_eqb (bit_and s m) 0 (λ z. true≢false (sym (eq-eqb (bit_and b m) 0 (shared s b m h z)) ∙ some))

-- if s shares nothing with m, neither does a part of s
pub still_apart : (s y m : ℕ) → (bit_and s m == 0) ≡ true → (bit_and (bit_and s y) m == 0) ≡ true
still_apart s y m none = eq-eqb (bit_and (bit_and s y) m) 0 (ap (λ (x : ℕ). bit_and x m) (and_comm s y) ∙ and_assoc m y s
    ∙ ap (bit_and y) (eqb-true (bit_and s m) 0 none) ∙ and_zero_r y)

-- what is added shares something if the whole does and the old bits do not
pub new_shares : (s x m : ℕ) → bit_and s m ≡ 0 → (bit_and (bit_or s x) m == 0) ≡ false → (bit_and x m == 0) ≡ false
new_shares s x m none some = ne_eqb (bit_and x m) 0 (λ z. true≢false (sym (eq-eqb (bit_and (bit_or s x) m) 0 (and_or_apart m s x z ∙ none)) ∙ some))

both_bit : (p q r : ℕ) → min p r ≡ p → min q r ≡ q → min (max p q) r ≡ max p q
both_bit p q r h k = omega (arith, h, k)

less_bit : (p q r : ℕ) → min p r ≡ p → min (min p q) r ≡ min p q
less_bit p q r h = omega (arith, h)

-- two parts of k together are a part of it
pub or_within : (x y k : ℕ) → bit_and x k ≡ x → bit_and y k ≡ y → bit_and (bit_or x y) k ≡ bit_or x y
or_within x y k h g = same_from_bits (bit_and (bit_or x y) k) (bit_or x y) (λ i.
    bit_at_and (bit_or x y) k i ∙ ap (λ (n : ℕ). min n (bit_at k i)) (bit_at_or x y i)
    ∙ both_bit (bit_at x i) (bit_at y i) (bit_at k i) (each x k x i h) (each y k y i g) ∙ sym (bit_at_or x y i))

-- so is what is left of one
pub and_within : (x y k : ℕ) → bit_and x k ≡ x → bit_and (bit_and x y) k ≡ bit_and x y
and_within x y k h = same_from_bits (bit_and (bit_and x y) k) (bit_and x y) (λ i.
    bit_at_and (bit_and x y) k i ∙ ap (λ (n : ℕ). min n (bit_at k i)) (bit_at_and x y i)
    ∙ less_bit (bit_at x i) (bit_at y i) (bit_at k i) (each x k x i h) ∙ sym (bit_at_and x y i))

-- what is cut to k is a part of it
pub cut_within : (x k : ℕ) → bit_and (bit_and x k) k ≡ bit_and x k
cut_within x k = and_assoc k x k ∙ ap (bit_and x) (and_self k)

none_bit : (b e v c : ℕ) → min b e ≡ b → min e c ≡ 0 → min b (min v c) ≡ 0
none_bit b e v c h k = omega (arith, h, k)

-- a part of e shares nothing with a part of c if e and c share nothing
pub parts_apart : (b e v c : ℕ) → bit_and b e ≡ b → bit_and e c ≡ 0 → bit_and b (bit_and v c) ≡ 0
parts_apart b e v c h k = same_from_bits (bit_and b (bit_and v c)) 0 (λ i.
    bit_at_and b (bit_and v c) i ∙ ap (λ (n : ℕ). min (bit_at b i) n) (bit_at_and v c i)
    ∙ none_bit (bit_at b i) (bit_at e i) (bit_at v i) (bit_at c i) (each b e b i h) (each e c 0 i k ∙ bit_at-zero i)
    ∙ sym (bit_at-zero i))

-- the bits that writes name are bits of a dword
pub causes_fit : (b : ℕ) → bit_and b known ≡ b → b < 2 ^ 32
causes_fit b h = omega (arith, h, and_le_r b known)

pub clearable_fits : (v : ℕ) → bit_and v clearable < 2 ^ 32
clearable_fits v = omega (arith, and_le_r v clearable)

pub shadows_fit : (v : ℕ) → shadows v < 2 ^ 32
shadows_fit v = omega (arith, bit_at-lt v 25, bit_at-lt v 26, bit_at-lt v 16)

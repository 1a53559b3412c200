-- Numbers as sets of bits: what is left without some, and the number of a test.
use Rattle.std.proofs.Common.{◌≡◌, ◌≢◌, ℕ, zero, suc, ◌+◌, ◌-◌, ◌*◌, ◌%◌, ◌^◌, ◌<◌, min, Bool, true, false, refl, sym, ap, ◌∙◌, arith, w32, bit_and}
use Rattle.std.proofs.{Common.{bit_or, if◌then◌else◌, not, List, length, slice_index_or}, lemmas.{Bool.{ne_eqb, eq-eqb}, List.get_or_default}}
use Rattle.std.proofs.lemmas.Nat.{and_le_l, xor_lt, or_comm, or_shifted, one_shl, Bits.{bit_at-lt, bit_at_and, bit_at_xor, bit_at_not}}
use Rattle.std.proofs.lemmas.Nat.Bits.{same_from_bits_below}
use Rattle.std.specs.Int.{bit_at}
use Rattle.pm_registers.specs.{Bits.{without, shares, bits_where}, declared.port.PortRegisters.PortRegisters, Port.opening_port}

one_bit : (x y : ℕ) → x < 2 → y < 2 → min x (1 - y) ≡ (x + min x y) % 2
one_bit x y small other = omega arith

-- what `x & !y` computes
pub cleared_bits : (x y : ℕ) → x < 2 ^ 32 → y < 2 ^ 32 → bit_and x (4294967295 - y) ≡ without x y
cleared_bits x y fits other =
    let kept : bit_and x y < 2 ^ 32 = omega (arith, and_le_l x y) in
    let small : bit_and x (4294967295 - y) < 2 ^ 32 = omega (arith, and_le_l x (4294967295 - y)) in
    same_from_bits_below 32 (bit_and x (4294967295 - y)) (without x y) small (xor_lt 32 x (bit_and x y) fits kept) (λ i below.
    bit_at_and x (4294967295 - y) i ∙ ap (λ (b : ℕ). min (bit_at x i) b) (bit_at_not w32 y i other below)
    ∙ one_bit (bit_at x i) (bit_at y i) (bit_at-lt x i) (bit_at-lt y i)
    ∙ sym (bit_at_xor x (bit_and x y) i ∙ ap (λ (b : ℕ). (bit_at x i + b) % 2) (bit_at_and x y i)))

pub bits_where_fits : (test : ℕ → Bool) (n : ℕ) → bits_where test n < 2 ^ n
unfolding bits_where
bits_where_fits test zero = omega arith
bits_where_fits test (suc n) =
    let rest : bits_where test n < 2 ^ n = bits_where_fits test n in
    elim (test n) as (λ b. bits_where test n + (if b then 2 ^ n else 0) < 2 ^ suc n) [ true ↦ omega arith | false ↦ omega arith ]

pub bits_where_set : (test : ℕ → Bool) (n bits : ℕ) → n < 32 → bits ≡ bits_where test n → test n ≡ true → bit_or bits (1 * 2 ^ n % 2 ^ 32) ≡ bits_where test (n + 1)
unfolding bits_where
bits_where_set test n bits small is passes =
    let fits : bits < 2 ^ n = omega (arith, bits_where_fits test n) in
    let joined : bit_or (1 * 2 ^ n) bits ≡ 1 * 2 ^ n + bits = or_shifted 1 n bits fits in
    let next : bits_where test (suc n) ≡ bits_where test n + 2 ^ n = ap (λ (b : Bool). bits_where test n + (if b then 2 ^ n else 0)) passes in
    let more : n + 1 ≡ suc n = omega arith in
    let one : 1 * 2 ^ n ≡ 2 ^ n = omega arith in
    ap (λ (x : ℕ). bit_or bits x) (one_shl n 32 small ∙ sym one) ∙ or_comm bits (1 * 2 ^ n) ∙ joined ∙ omega arith ∙ sym next ∙ ap (bits_where test) (sym more)

pub bits_where_same : (test : ℕ → Bool) (n bits : ℕ) → bits ≡ bits_where test n → test n ≡ false → bits ≡ bits_where test (n + 1)
unfolding bits_where
bits_where_same test n bits is fails =
    let next : bits_where test (suc n) ≡ bits_where test n + 0 = ap (λ (b : Bool). bits_where test n + (if b then 2 ^ n else 0)) fails in
    let more : n + 1 ≡ suc n = omega arith in
    is ∙ omega arith ∙ sym next ∙ ap (bits_where test) (sym more)

pub bits_where_none : (test : ℕ → Bool) → bits_where test 0 ≡ 0
unfolding bits_where
bits_where_none test = refl

-- whether a port asks for attention, whatever stands for a port that is not there
pub asks_true : (bank : List PortRegisters) (i j mask : ℕ) (d : PortRegisters) → j ≡ i → i < length bank → bit_and (slice_index_or bank j d).error mask ≢ 0 → shares (slice_index_or bank i opening_port).error mask ≡ true
asks_true bank i j mask d is within h =
    let e : slice_index_or bank j d ≡ slice_index_or bank i opening_port = ap (λ (k : ℕ). slice_index_or bank k d) is ∙ get_or_default bank i d opening_port within in
    let h' : bit_and (slice_index_or bank i opening_port).error mask ≢ 0 = λ z. h (ap (λ (p : PortRegisters). bit_and p.error mask) e ∙ z) in
    ap not (ne_eqb (bit_and (slice_index_or bank i opening_port).error mask) 0 h')

pub asks_false : (bank : List PortRegisters) (i j mask : ℕ) (d : PortRegisters) → j ≡ i → i < length bank → bit_and (slice_index_or bank j d).error mask ≡ 0 → shares (slice_index_or bank i opening_port).error mask ≡ false
asks_false bank i j mask d is within h =
    let e : slice_index_or bank j d ≡ slice_index_or bank i opening_port = ap (λ (k : ℕ). slice_index_or bank k d) is ∙ get_or_default bank i d opening_port within in
    ap not (eq-eqb (bit_and (slice_index_or bank i opening_port).error mask) 0 (ap (λ (p : PortRegisters). bit_and p.error mask) (sym e) ∙ h))

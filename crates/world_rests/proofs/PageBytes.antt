-- For `rested_have_done`. The bytes of the PIO Setup FIS before a page.
use Rattle.std.proofs.Common.{◌≡◌, ℕ, zero, suc, ◌+◌, ◌-◌, ◌*◌, ◌/◌, ◌%◌, ◌^◌, ◌<◌, ◌≤◌, ◌⊎◌, Bool, true, false, List, [], ◌∷◌, refl, arith, inl, inr}
use Rattle.std.proofs.{Math.Nat.{zero-div}, lemmas.Bool.{cases_lt, leb-true}}
use Rattle.std.specs.{Prelude.{nat_le, ◌&&◌, ◌||◌}, Int.bit_at}
use Rattle.fis_view.specs.{Bits.{bit, bits}, Built.{IsBuilt, Outside, cut, pio_setup_given}, Seen.seen, Table.{Kind, Name, Part, Run, Gap, Pio}}
use Rattle.fis_view.specs.Table.{places, field, spelled, PmPort, I, D, Status, Error, Lba, Device, Count, EStatus, Transfer}
use Rattle.fis_view.specs.declared.build.PioSetupFields.{PioSetupFields}

-- bit i of the frame is in no field
abbrev IsUnnamed : Kind → ℕ → Type 0
IsUnnamed kind i = (name : Name) → Outside (places kind name) i

-- in the bytes from byte k on no bit is set that is in no field
abbrev IsClear : Kind → ℕ → List ℕ → Type 0
IsClear kind k [] = Unit {0}
IsClear kind k (b ∷ bs) = ((j : ℕ) → j < 8 → IsUnnamed kind (8 * k + j) → bit_at b j ≡ 0) × IsClear kind (suc k) bs

clear_bit : (kind : Kind) (k : ℕ) (f : List ℕ) (i : ℕ) → IsClear kind k f → IsUnnamed kind (8 * k + i) → bit f i ≡ 0
clear_bit kind k [] i h free = rw (zero-div (2 ^ (i % 8))) refl
clear_bit kind k (b ∷ bs) i h free =
    elim (cases_lt i 8) [
      | inl lt ↦
          let byte : i / 8 ≡ 0 = omega arith in
          let low : i % 8 ≡ i = omega arith in
          rw (byte, low) (h.0 i lt free)
      | inr le ↦
          let m = i - 8 in
          let byte : i / 8 ≡ suc (m / 8) = omega arith in
          let low : i % 8 ≡ m % 8 = omega arith in
          let at : 8 * k + i ≡ 8 * suc k + m = omega arith in
          rw (byte, low) (clear_bit kind (suc k) bs m h.1 (rw at at free))
    ]

-- the same past the first byte
other_bit : (kind : Kind) (b : ℕ) (bs : List ℕ) (i : ℕ) → 8 ≤ i → IsClear kind 1 bs → IsUnnamed kind i → bit (b ∷ bs) i ≡ 0
other_bit kind b bs i h clear free =
    let m = i - 8 in
    let byte : i / 8 ≡ suc (m / 8) = omega arith in
    let low : i % 8 ≡ m % 8 = omega arith in
    let at : i ≡ 8 * 1 + m = omega arith in
    rw (byte, low) (clear_bit kind 1 bs m clear (rw at at free))

-- whether a field has byte k whole
abbrev has_byte : List Part → ℕ → Bool
has_byte [] k = false
has_byte (Run byte low n ∷ parts) k = (nat_le (8 * byte + low) (8 * k) && nat_le (8 * k + 8) (8 * byte + low + n)) || has_byte parts k
has_byte (Gap n ∷ parts) k = has_byte parts k

tests : (x y r : Bool) → (x && y) || r ≡ true → ((x ≡ true) × (y ≡ true)) ⊎ (r ≡ true)
tests true true r h = inl (refl, refl)
tests true false r h = inr h
tests false y r h = inr h

not_outside : (parts : List Part) (k j : ℕ) → j < 8 → has_byte parts k ≡ true → Outside parts (8 * k + j) → ⊥
unfolding Outside
not_outside [] k j lt has out = cc
not_outside (Run byte low n ∷ parts) k j lt has out =
    elim (tests (nat_le (8 * byte + low) (8 * k)) (nat_le (8 * k + 8) (8 * byte + low + n)) (has_byte parts k) has) [
      | inl both ↦
          let from : 8 * byte + low ≤ 8 * k = leb-true (8 * byte + low) (8 * k) both.0 in
          let to : 8 * k + 8 ≤ 8 * byte + low + n = leb-true (8 * k + 8) (8 * byte + low + n) both.1 in
          elim out.0 [ inl below ↦ omega arith | inr above ↦ omega arith ]
      | inr later ↦ not_outside parts k j lt later out.1
    ]
not_outside (Gap n ∷ parts) k j lt has out = not_outside parts k j lt has out

owned : (kind : Kind) (k b : ℕ) (name : Name) → has_byte (places kind name) k ≡ true → (j : ℕ) → j < 8 → IsUnnamed kind (8 * k + j) → bit_at b j ≡ 0
owned kind k b name has j lt free = absurd (not_outside (places kind name) k j lt has (free name))

blank : (kind : Kind) (k : ℕ) (j : ℕ) → j < 8 → IsUnnamed kind (8 * k + j) → bit_at 0 j ≡ 0
blank kind k j lt free = rw (zero-div (2 ^ j)) refl

-- ---- one block of 512 bytes to the host

abbrev pub page_fields : PioSetupFields
page_fields = record { pm_port = 0; i = true; d = true; status = 0x58; error = 0; lba = 0; device = 0; count = 0; e_status = 0x50; transfer = 512 }

abbrev pub page_list : List ℕ
page_list = 0x5F ∷ 0x60 ∷ 0x58 ∷ 0 ∷ 0 ∷ 0 ∷ 0 ∷ 0 ∷ 0 ∷ 0 ∷ 0 ∷ 0 ∷ 0 ∷ 0 ∷ 0 ∷ 0x50 ∷ 0 ∷ 2 ∷ 0 ∷ 0 ∷ []

fields : (name : Name) → field Pio name page_list ≡ cut (places Pio name) (pio_setup_given page_fields name)
unfolding field spelled places cut bits
fields PmPort = refl
fields D = refl
fields I = refl
fields Status = refl
fields Error = refl
fields Lba = refl
fields Device = refl
fields Count = refl
fields EStatus = refl
fields Transfer = refl
fields name = refl

head_bits : (j : ℕ) → j < 8 → IsUnnamed Pio (8 + j) → bit_at 0x60 j ≡ 0
unfolding places Outside
head_bits zero lt free = refl
head_bits (suc zero) lt free = refl
head_bits (suc (suc zero)) lt free = refl
head_bits (suc (suc (suc zero))) lt free = refl
head_bits (suc (suc (suc (suc zero)))) lt free = refl
head_bits (suc (suc (suc (suc (suc zero))))) lt free = elim (free D).0 [ inl below ↦ absurd (omega arith) | inr above ↦ absurd (omega arith) ]
head_bits (suc (suc (suc (suc (suc (suc zero)))))) lt free = elim (free I).0 [ inl below ↦ absurd (omega arith) | inr above ↦ absurd (omega arith) ]
head_bits (suc (suc (suc (suc (suc (suc (suc zero))))))) lt free = refl
head_bits (suc (suc (suc (suc (suc (suc (suc (suc j)))))))) lt free = absurd (omega (arith, lt))

clear : IsClear Pio 1 (0x60 ∷ 0x58 ∷ 0 ∷ 0 ∷ 0 ∷ 0 ∷ 0 ∷ 0 ∷ 0 ∷ 0 ∷ 0 ∷ 0 ∷ 0 ∷ 0 ∷ 0x50 ∷ 0 ∷ 2 ∷ 0 ∷ 0 ∷ [])
unfolding places
clear = (head_bits, (owned Pio 2 _ Status refl, (owned Pio 3 _ Error refl, (owned Pio 4 _ Lba refl, (owned Pio 5 _ Lba refl, (owned Pio 6 _ Lba refl, (owned Pio 7 _ Device refl, (owned Pio 8 _ Lba refl, (owned Pio 9 _ Lba refl, (owned Pio 10 _ Lba refl, (blank Pio 11, (owned Pio 12 _ Count refl, (owned Pio 13 _ Count refl, (blank Pio 14, (owned Pio 15 _ EStatus refl, (owned Pio 16 _ Transfer refl, (owned Pio 17 _ Transfer refl, (blank Pio 18, (blank Pio 19, tt)))))))))))))))))))

pub page_built : IsBuilt Pio (pio_setup_given page_fields) page_list
unfolding seen
page_built = record {
  viewed = refl;
  fields = fields;
  others = λ i past free. other_bit Pio 0x5F (0x60 ∷ 0x58 ∷ 0 ∷ 0 ∷ 0 ∷ 0 ∷ 0 ∷ 0 ∷ 0 ∷ 0 ∷ 0 ∷ 0 ∷ 0 ∷ 0 ∷ 0x50 ∷ 0 ∷ 2 ∷ 0 ∷ 0 ∷ []) i past clear free;
}

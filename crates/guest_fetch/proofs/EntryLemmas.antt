-- Facts about the entries of a table as they are read.
use Rattle.std.proofs.Common.{◌≡◌, ℕ, zero, suc, ◌+◌, ◌-◌, ◌*◌, ◌<◌, ◌≤◌, Option, Some, None, List, [], ◌∷◌, refl, ap, ◌∙◌, arith}
use Rattle.std.proofs.lemmas.Bool.Decides.{nat_tests}
use Rattle.guest_fetch.specs.{declared.entry.{Entry.Entry, EntryFault.EntryFault, FaultyEntry.FaultyEntry}, Entries.{IsEntry, entry_at, entries_at}}
use Rattle.guest_fetch.specs.Entries.{entry_fault, fault_or, first_fault, reached}

-- the entries from the i-th on are that one and those after it
pub entries_next : (raw : List ℕ) (count i : ℕ) → i < count → entries_at raw (16 * i) (count - i) ≡ entry_at raw (16 * i) ∷ entries_at raw (16 * (i + 1)) (count - (i + 1))
entries_next raw count i below =
    let left : count - i ≡ suc (count - (i + 1)) = omega arith in
    let on : 16 * i + 16 ≡ 16 * (i + 1) = omega arith in
    ap (entries_at raw (16 * i)) left ∙ ap (λ n. entry_at raw (16 * i) ∷ entries_at raw n (count - (i + 1))) on

-- as far as bytes are left
pub reached_cons : (left : ℕ) (e : Entry) (rest : List Entry) → 0 < left → reached left (e ∷ rest) ≡ e ∷ reached (left - e.bytes) rest
reached_cons zero e rest some = absurd (omega arith)
reached_cons (suc n) e rest some = refl

pub reached_none : (entries : List Entry) → reached 0 entries ≡ []
reached_none [] = refl
reached_none (e ∷ rest) = refl

pub fault_cons : (index left : ℕ) (e : Entry) (rest : List Entry) → 0 < left → first_fault index left (e ∷ rest) ≡ fault_or index (entry_fault e) (first_fault (index + 1) (left - e.bytes) rest)
fault_cons index zero e rest some = absurd (omega arith)
fault_cons index (suc n) e rest some = refl

pub fault_none : (index : ℕ) (entries : List Entry) → first_fault index 0 entries ≡ None
fault_none index [] = refl
fault_none index (e ∷ rest) = refl

pub none_of : (index : ℕ) (fault : Option EntryFault) (rest : Option FaultyEntry) → fault_or index fault rest ≡ None → (fault ≡ None) × (rest ≡ None)
none_of index None rest h = (refl, h)
none_of index (Some f) rest h = cc

-- an entry that is not forbidden may be kept
pub entry_is : (e : Entry) → entry_fault e ≡ None → 0 < e.bytes → e.bytes ≤ 4194304 → IsEntry e
entry_is e none some most = record {
  even = grind (arith, nat_tests);
  whole = grind (arith, nat_tests);
  some = some;
  most = omega arith;
  inside = grind (arith, nat_tests);
}

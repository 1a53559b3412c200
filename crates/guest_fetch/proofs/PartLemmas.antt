-- Entries in parts.
use Rattle.std.proofs.Common.{◌≡◌, ℕ, zero, suc, ◌+◌, ◌-◌, ◌<◌, Option, Some, None, List, [], ◌∷◌, ◌++◌, length, refl, sym, ap, ◌∙◌, arith}
use Rattle.std.proofs.Common.{append_assoc, length-append}
use Rattle.guest_fetch.specs.{declared.entry.{Entry.Entry, EntryFault.EntryFault, FaultyEntry.FaultyEntry}, Entries.{entry_fault, fault_or}}
use Rattle.guest_fetch.specs.{Entries.{first_fault, reached}, Places.{Places, total_of}, Spans.{left_of, with_entries}}
use Rattle.guest_fetch.proofs.EntryLemmas.{fault_none, reached_none}

pub append-nil : (xs : List Entry) → xs ++ [] ≡ xs
append-nil [] = refl
append-nil (x ∷ xs) = ap (λ ys. x ∷ ys) (append-nil xs)

pub total_append : (xs ys : List Entry) → total_of (xs ++ ys) ≡ total_of xs + total_of ys
total_append [] ys = omega arith
total_append (x ∷ xs) ys = let on = total_append xs ys in omega (arith, on)

-- how far the bytes reach in a first part, and then in a second
pub reached_append : (left : ℕ) (xs ys : List Entry) → reached left (xs ++ ys) ≡ reached left xs ++ reached (left - total_of (reached left xs)) ys
reached_append left [] ys = let all : left ≡ left - 0 = omega arith in ap (λ n. reached n ys) all
reached_append zero (x ∷ xs) ys = let none : 0 ≡ 0 - 0 = omega arith in sym (reached_none ys) ∙ ap (λ n. reached n ys) none
reached_append (suc n) (x ∷ xs) ys =
    let left = suc n - x.bytes in
    let less : left - total_of (reached left xs) ≡ suc n - (x.bytes + total_of (reached left xs)) = omega arith in
    ap (λ es. x ∷ es) (reached_append left xs ys ∙ ap (λ k. reached left xs ++ reached k ys) less)

-- the first of two
abbrev pub either : Option FaultyEntry → Option FaultyEntry → Option FaultyEntry
either None second = second
either (Some f) second = Some f

fault_either : (index : ℕ) (fault : Option EntryFault) (first second : Option FaultyEntry) → fault_or index fault (either first second) ≡ either (fault_or index fault first) second
fault_either index None first second = refl
fault_either index (Some f) first second = refl

pub fault_append : (index left : ℕ) (xs ys : List Entry) → first_fault index left (xs ++ ys) ≡ either (first_fault index left xs) (first_fault (index + length (reached left xs)) (left - total_of (reached left xs)) ys)
fault_append index left [] ys =
    let here : index ≡ index + 0 = omega arith in
    let all : left ≡ left - 0 = omega arith in
    ap (λ k. first_fault k left ys) here ∙ ap (λ n. first_fault (index + 0) n ys) all
fault_append index zero (x ∷ xs) ys = let none : 0 ≡ 0 - 0 = omega arith in sym (fault_none (index + 0) ys) ∙ ap (λ n. first_fault (index + 0) n ys) none
fault_append index (suc n) (x ∷ xs) ys =
    let left = suc n - x.bytes in
    let some = reached left xs in
    let less : left - total_of some ≡ suc n - (x.bytes + total_of some) = omega arith in
    let on : index + 1 + length some ≡ index + suc (length some) = omega arith in
    ap (fault_or index (entry_fault x)) (fault_append (index + 1) left xs ys ∙ ap (λ k. either (first_fault (index + 1) left xs) (first_fault k (left - total_of some) ys)) on
    ∙ ap (λ k. either (first_fault (index + 1) left xs) (first_fault (index + suc (length some)) k ys)) less)
    ∙ fault_either index (entry_fault x) (first_fault (index + 1) left xs) (first_fault (index + suc (length some)) (suc n - (x.bytes + total_of some)) ys)

-- a part that has too few bytes is reached to its end
pub all_reached : (left : ℕ) (xs : List Entry) → total_of (reached left xs) < left → reached left xs ≡ xs
all_reached left [] h = refl
all_reached zero (x ∷ xs) h = absurd (omega arith)
all_reached (suc n) (x ∷ xs) h = ap (λ es. x ∷ es) (all_reached (suc n - x.bytes) xs (omega arith))

-- ---- tables

pub left_with : (table : Places) (xs : List Entry) → left_of (with_entries table xs) ≡ left_of table - total_of (reached (left_of table) xs)
left_with table xs = let sum = total_append table.entries (reached (left_of table) xs) in omega (arith, sum)

pub count_with : (table : Places) (xs : List Entry) → length (with_entries table xs).entries ≡ length table.entries + length (reached (left_of table) xs)
count_with table xs = length-append table.entries (reached (left_of table) xs)

-- one part after another is both at once
pub with_both : (table : Places) (xs ys : List Entry) → with_entries (with_entries table xs) ys ≡ with_entries table (xs ++ ys)
with_both table xs ys =
    let some = reached (left_of table) xs in
    ap (λ es. record { entries = es; len = table.len })
    (ap (λ n. (table.entries ++ some) ++ reached n ys) (left_with table xs) ∙ append_assoc table.entries some (reached (left_of table - total_of some) ys)
    ∙ ap (λ es. table.entries ++ es) (sym (reached_append (left_of table) xs ys)))

-- where nothing of a second part is reached, the first is all
pub with_first : (table : Places) (xs ys : List Entry) → reached (left_of table - total_of (reached (left_of table) xs)) ys ≡ [] → with_entries table (xs ++ ys) ≡ with_entries table xs
with_first table xs ys none =
    let some = reached (left_of table) xs in
    ap (λ es. record { entries = table.entries ++ es; len = table.len }) (reached_append (left_of table) xs ys ∙ ap (λ es. some ++ es) none ∙ append-nil some)

-- A table that was written reads back.
use Rattle.std.proofs.Common.{◌≡◌, ℕ, suc, ◌+◌, ◌-◌, ◌*◌, ◌%◌, ◌^◌, ◌<◌, ◌≤◌, List, [], ◌∷◌, ◌++◌, take, drop, length, refl, sym, ap, ◌∙◌, arith}
use Rattle.std.proofs.{Common.{append_assoc, All}, lemmas.List.{length-append, length-take-le, drop-drop, append-nil, take-append-drop}}
use Rattle.std.proofs.{Math.Seq.{take-append_seam, drop-append_seam, drop-append-add}, lemmas.Bool.{le-ltb}}
use Rattle.std.specs.{List.AllByRecursion, Prelude.{false, true, None, nat_lt, ◌==◌}}
use borrow.Rule.Slice.PartMut.{put_mid}
use Rattle.byteorder.specs.{Endian.{little_bytes, little_number}, Numbers.{little_number-reads_back}}
use Rattle.host_memory.specs.{declared.table.Prd.Prd, Memory.{overwritten, client_start}, Reading.{dword_at, upper_at, prd_at, prds_at, entry_fault}}
use Rattle.host_memory.specs.{Reading.{first_fault, have_overlap, read_fault}, Writing.{CanBeWritten, IsUsable, entry_bytes, table_bytes}}

-- each entry has 16 bytes
pub length-table_bytes : (prds : List Prd) → length (table_bytes prds) ≡ 16 * length prds
unfolding table_bytes
length-table_bytes [] = refl
length-table_bytes (prd ∷ rest) = rw (length-append (entry_bytes prd) (table_bytes rest), length-table_bytes rest) (omega arith)

pub table_bytes-append : (front back : List Prd) → table_bytes (front ++ back) ≡ table_bytes front ++ table_bytes back
unfolding table_bytes
table_bytes-append [] back = refl
table_bytes-append (prd ∷ front) back = ap (λ (xs : List ℕ). entry_bytes prd ++ xs) (table_bytes-append front back) ∙ sym (append_assoc (entry_bytes prd) (table_bytes front) (table_bytes back))

-- writing goes on
pub overwritten-more : (old : List ℕ) (at n : ℕ) (written more : List ℕ) → length written ≡ n → at + n + length more ≤ length old → overwritten (overwritten old at written) (at + n) more ≡ overwritten old at (written ++ more)
overwritten-more old at n written more long room =
    let front = take at old ++ written in
    let back = drop (at + length written) old in
    let front_long : length front ≡ at + n = simp (length-append, length-take-le at old (omega arith)) (omega arith) in
    let before : take (at + n) (front ++ back) ≡ front = ap (λ k. take k (front ++ back)) (sym front_long) ∙ take-append_seam front back in
    let after : drop (at + n + length more) (front ++ back) ≡ drop (length more) back = ap (λ k. drop (k + length more) (front ++ back)) (sym front_long) ∙ drop-append-add front back (length more) in
    let both : drop (length more) back ≡ drop (at + length (written ++ more)) old =
    drop-drop (length more) (at + length written) old ∙ ap (λ k. drop k old) (let e : at + length written + length more ≡ at + length (written ++ more) = rw (length-append written more) (omega arith) in e) in
    rw (before, after, both) (ap (λ (xs : List ℕ). xs ++ drop (at + length (written ++ more)) old) (append_assoc (take at old) written more))

-- an entry that stands there reads as what was written
entry_read : (s : List ℕ) (at : ℕ) (prd : Prd) (rest : List ℕ) → CanBeWritten prd → prd.address < 4294967296 → drop at s ≡ entry_bytes prd ++ rest → prd_at s at ≡ prd
entry_read s at prd rest fits small is =
    let low : List ℕ = (0 ∷ 0 ∷ 0 ∷ 0 ∷ 0 ∷ 0 ∷ 0 ∷ 0 ∷ []) ++ little_bytes 4 (prd.bytes - 1) ++ rest in
    let address : dword_at s at ≡ prd.address = ap (little_number 4) is ∙ little_number-reads_back 4 prd.address low small in
    let there : drop (at + 12) s ≡ little_bytes 4 (prd.bytes - 1) ++ rest = sym (drop-drop 12 at s) ∙ ap (drop 12) is in
    let less : prd.bytes - 1 < 4294967296 = omega (arith, fits.0, fits.1) in
    let count : dword_at s (at + 12) ≡ prd.bytes - 1 = ap (little_number 4) there ∙ little_number-reads_back 4 (prd.bytes - 1) rest less in
    let bytes : dword_at s (at + 12) % 2 ^ 22 + 1 ≡ prd.bytes = omega (arith, count, fits.0, fits.1) in
    rw (address, bytes) refl

-- an entry that has its bytes and an address of 32 bits
abbrev pub IsEntry : Prd → Type 0
IsEntry prd = CanBeWritten prd × (prd.address < 4294967296)

pub entries_more : (prds : List Prd) (prd : Prd) → AllByRecursion IsEntry prds → IsEntry prd → AllByRecursion IsEntry (prds ++ prd ∷ [])
entries_more [] prd all here = (here, tt)
entries_more (first ∷ prds) prd all here = (all.0, entries_more prds prd all.1 here)

-- what stands from there on reads as the entries
pub prds_read : (s : List ℕ) (at : ℕ) (prds : List Prd) (rest : List ℕ) → AllByRecursion IsEntry prds → drop at s ≡ table_bytes prds ++ rest → prds_at s at (length prds) ≡ prds
unfolding table_bytes
prds_read s at [] rest fit is = refl
prds_read s at (prd ∷ prds) rest fit is =
    let here : drop at s ≡ entry_bytes prd ++ (table_bytes prds ++ rest) = is ∙ append_assoc (entry_bytes prd) (table_bytes prds) rest in
    let later : drop (at + 16) s ≡ table_bytes prds ++ rest = sym (drop-drop 16 at s) ∙ ap (drop 16) here in
    let first = entry_read s at prd (table_bytes prds ++ rest) fit.0.0 fit.0.1 here in
    let others = prds_read s (at + 16) prds rest fit.1 later in
    rw (first, others)

-- where a list begins, and what is written there
pub drop_overwritten : (old : List ℕ) (at : ℕ) (written : List ℕ) → at ≤ length old → drop at (overwritten old at written) ≡ written ++ drop (at + length written) old
drop_overwritten old at written room =
    let long : length (take at old) ≡ at = length-take-le at old room in
    let back = drop (at + length written) old in
    ap (λ k. drop k (take at old ++ written ++ back)) (sym long)
    ∙ ap (drop (length (take at old))) (append_assoc (take at old) written back)
    ∙ drop-append_seam (take at old) (written ++ back)

post_is : (a k : ℕ) (xs ys : List ℕ) → length ys ≡ k → put_mid a k xs ys ≡ overwritten xs a ys
post_is a k xs ys long =
    let back : drop k (drop a xs) ≡ drop (a + length ys) xs = ap (λ j. drop j (drop a xs)) (sym long) ∙ drop-drop (length ys) a xs in
    ap (λ (zs : List ℕ). take a xs ++ (ys ++ zs)) back ∙ sym (append_assoc (take a xs) ys (drop (a + length ys) xs))

-- one more entry is written
pub entry_written : (old now : List ℕ) (at k : ℕ) (front : List Prd) (prd : Prd) (bytes : List ℕ) → now ≡ overwritten old at (table_bytes front) → at + 16 * length front + 16 ≤ length old → bytes ≡ entry_bytes prd → k ≡ 16
    → put_mid (at + 16 * length front) k now bytes ≡ overwritten old at (table_bytes (front ++ prd ∷ []))
unfolding table_bytes
entry_written old now at k front prd bytes was room is sixteen =
    let long : length bytes ≡ 16 = ap length is in
    let next : overwritten (overwritten old at (table_bytes front)) (at + 16 * length front) bytes ≡ overwritten old at (table_bytes front ++ bytes) =
    overwritten-more old at (16 * length front) (table_bytes front) bytes (length-table_bytes front) (omega (arith, long)) in
    let all : table_bytes (front ++ prd ∷ []) ≡ table_bytes front ++ bytes =
    table_bytes-append front (prd ∷ []) ∙ ap (λ (xs : List ℕ). table_bytes front ++ xs) (append-nil (entry_bytes prd) ∙ sym is) in
    post_is (at + 16 * length front) k now bytes (long ∙ sym sixteen) ∙ ap (λ (xs : List ℕ). overwritten xs (at + 16 * length front) bytes) was ∙ next ∙ ap (overwritten old at) (sym all)

pub nothing_written : (old : List ℕ) (at : ℕ) → old ≡ overwritten old at (table_bytes [])
unfolding table_bytes
nothing_written old at =
    let same : at + 0 ≡ at = omega arith in
    sym (ap (λ (xs : List ℕ). xs ++ drop (at + 0) old) (append-nil (take at old)) ∙ ap (λ k. take at old ++ drop k old) same ∙ take-append-drop at old)

no_fault : (s : List ℕ) (len at : ℕ) → (prd_at s at).address % 2 ≡ 0 → (prd_at s at).bytes % 2 ≡ 0 → upper_at s at ≡ 0 → client_start ≤ (prd_at s at).address → (prd_at s at).address + (prd_at s at).bytes ≤ client_start + len → entry_fault s len at ≡ None
no_fault s len at even even_count upper from to =
    let a : ((prd_at s at).address % 2 == 1) ≡ false = rw even refl in
    let b : ((prd_at s at).bytes % 2 == 1) ≡ false = rw even_count refl in
    let c : (upper_at s at == 0) ≡ true = rw upper refl in
    let d : nat_lt (prd_at s at).address client_start ≡ false = le-ltb (prd_at s at).address client_start from in
    let e : nat_lt (client_start + len) ((prd_at s at).address + (prd_at s at).bytes) ≡ false = le-ltb (client_start + len) ((prd_at s at).address + (prd_at s at).bytes) to in
    rw (a, b, c, d, e) refl

-- nothing is wrong with an entry that may be there
entry_usable : (s : List ℕ) (len at : ℕ) (prd : Prd) (rest : List ℕ) → IsEntry prd → IsUsable len prd → drop at s ≡ entry_bytes prd ++ rest → entry_fault s len at ≡ None
entry_usable s len at prd rest entry usable is =
    let read = entry_read s at prd rest entry.0 entry.1 is in
    let address : (prd_at s at).address ≡ prd.address = ap (λ (p : Prd). p.address) read in
    let bytes : (prd_at s at).bytes ≡ prd.bytes = ap (λ (p : Prd). p.bytes) read in
    let there : drop (at + 4) s ≡ (0 ∷ 0 ∷ 0 ∷ 0 ∷ 0 ∷ 0 ∷ 0 ∷ 0 ∷ []) ++ little_bytes 4 (prd.bytes - 1) ++ rest = sym (drop-drop 4 at s) ∙ ap (drop 4) is in
    let upper : upper_at s at ≡ 0 = ap (little_number 4) there in
    let even : (prd_at s at).address % 2 ≡ 0 = ap (λ n. n % 2) address ∙ usable.0 in
    let even_count : (prd_at s at).bytes % 2 ≡ 0 = ap (λ n. n % 2) bytes ∙ usable.1 in
    let from : client_start ≤ (prd_at s at).address = omega (arith, address, usable.2.0) in
    let to : (prd_at s at).address + (prd_at s at).bytes ≤ client_start + len = omega (arith, address, bytes, usable.2.1) in
    no_fault s len at even even_count upper from to

first_usable : (s : List ℕ) (len at : ℕ) (prds : List Prd) (rest : List ℕ) → AllByRecursion IsEntry prds → AllByRecursion (IsUsable len) prds → drop at s ≡ table_bytes prds ++ rest → first_fault s len at (length prds) ≡ None
unfolding table_bytes
first_usable s len at [] rest entries usable is = refl
first_usable s len at (prd ∷ prds) rest entries usable is =
    let here : drop at s ≡ entry_bytes prd ++ (table_bytes prds ++ rest) = is ∙ append_assoc (entry_bytes prd) (table_bytes prds) rest in
    let later : drop (at + 16) s ≡ table_bytes prds ++ rest = sym (drop-drop 16 at s) ∙ ap (drop 16) here in
    rw (entry_usable s len at prd (table_bytes prds ++ rest) entries.0 usable.0 here, first_usable s len (at + 16) prds rest entries.1 usable.1 later)

-- a table of such entries, which do not overlap, is read
pub table_usable : (s : List ℕ) (len at : ℕ) (prds : List Prd) (rest : List ℕ) → AllByRecursion IsEntry prds → AllByRecursion (IsUsable len) prds → have_overlap prds ≡ false → length prds ≤ 248 → at + 16 * length prds ≤ length s
    → drop at s ≡ table_bytes prds ++ rest → read_fault s len at (length prds) ≡ None
table_usable s len at prds rest entries usable apart few room is =
    let lies : nat_lt (length s) (at + 16 * length prds) ≡ false = le-ltb (length s) (at + 16 * length prds) room in
    let short : nat_lt 248 (length prds) ≡ false = le-ltb 248 (length prds) few in
    let none = first_usable s len at prds rest entries usable is in
    let reads = prds_read s at prds rest entries is in
    let separate : have_overlap (prds_at s at (length prds)) ≡ false = ap have_overlap reads ∙ apart in
    rw (lies, short, none, separate) refl

-- what holds of each element, one after the other
pub all_by_recursion : (P : Prd → Type 0) (prds : List Prd) → All P prds → AllByRecursion P prds
all_by_recursion P [] all = tt
all_by_recursion P (prd ∷ prds) all = (all 0 prd (omega arith), all_by_recursion P prds (λ k d below. all (suc k) d (omega arith)))

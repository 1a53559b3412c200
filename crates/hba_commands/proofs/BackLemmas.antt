-- A command that was written is read as what it was written of.
use Rattle.std.proofs.Common.{◌≡◌, ℕ, ◌+◌, ◌-◌, ◌*◌, ◌%◌, ◌≤◌, Bool, true, false, List, [], ◌∷◌, ◌++◌, drop, length, Option, Some, None, refl, sym}
use Rattle.std.proofs.{Common.{ap, ◌∙◌, arith, append_assoc, inl, inr}, lemmas.{List.{drop-drop}, Bool.{le-ltb, cases_lt}}}
use Rattle.std.specs.{Prelude.{◌==◌, ◌&&◌, ◌||◌, not, nat_lt, if◌then◌else◌}, List.list_all, Option.{is_none, option_or}}
use Rattle.byteorder.specs.Endian.{little_bytes, little_number}
use Rattle.host_memory.specs.{Place.total_of, Reading.{upper_at, prd_at, prds_at, is_outside, entry_fault, first_fault, have_overlap}}
use Rattle.host_memory.specs.{Writing.{entry_bytes, table_bytes}, declared.table.{Prd.Prd, PrdError.{PrdError, TheVariants.BadEntry}}}
use Rattle.host_memory.specs.{declared.table.PrdError.TheVariants.{OutsideClient, Overlap}, Memory.Memory}
use Rattle.fis_view.specs.declared.build.H2dFields.{H2dFields}
use Rattle.hba_commands.specs.{Commands.{cfis_at, command_at, command_under, total_at, total_if_sound}, Writing.{IsWritten, command_of, is_usable}}
use Rattle.hba_commands.specs.Writing.{total_if_usable}

-- a number is even or odd
even_test : (n : ℕ) → (n % 2 == 0) ≡ not (n % 2 == 1)
even_test n =
    elim (cases_lt (n % 2) 1) [
      | inl less ↦ let e : n % 2 ≡ 0 = omega arith in rw e refl
      | inr more ↦ let e : n % 2 ≡ 1 = omega arith in rw e refl
    ]

no_fault_test : (x y o : Bool) → is_none (if x || not true || y then Some BadEntry else if o then Some OutsideClient else None) ≡ (not x && not y && not o)
no_fault_test true y o = refl
no_fault_test false true o = refl
no_fault_test false false true = refl
no_fault_test false false false = refl

entry_sound : (s : List ℕ) (len at : ℕ) (prd : Prd) → prd_at s at ≡ prd → upper_at s at ≡ 0 → is_none (entry_fault s len at) ≡ is_usable len prd
entry_sound s len at prd is upper =
    let p = prd_at s at in
    let clear : (upper_at s at == 0) ≡ true = ap (λ (n : ℕ). n == 0) upper in
    let test : is_none (entry_fault s len at) ≡ (not (p.address % 2 == 1) && not (p.bytes % 2 == 1) && not (is_outside len p)) = rw clear (no_fault_test (p.address % 2 == 1) (p.bytes % 2 == 1) (is_outside len p)) in
    test ∙ rw (sym (even_test p.address), sym (even_test p.bytes)) (ap (is_usable len) is)

both_none : (o p : Option PrdError) → is_none (option_or o p) ≡ (is_none o && is_none p)
both_none None p = refl
both_none (Some x) p = refl

-- nothing is wrong with entries exactly where each is usable
entries_sound : (s : List ℕ) (len at : ℕ) (prds : List Prd) (rest : List ℕ) → prds_at s at (length prds) ≡ prds → drop at s ≡ table_bytes prds ++ rest → is_none (first_fault s len at (length prds)) ≡ list_all (is_usable len) prds
unfolding table_bytes
entries_sound s len at [] rest reads is = refl
entries_sound s len at (prd ∷ prds) rest reads is =
    let here : prd_at s at ≡ prd = cc in
    let others : prds_at s (at + 16) (length prds) ≡ prds = cc in
    let stands : drop at s ≡ entry_bytes prd ++ (table_bytes prds ++ rest) = is ∙ append_assoc (entry_bytes prd) (table_bytes prds) rest in
    let there : drop (at + 4) s ≡ (0 ∷ 0 ∷ 0 ∷ 0 ∷ 0 ∷ 0 ∷ 0 ∷ 0 ∷ []) ++ little_bytes 4 (prd.bytes - 1) ++ (table_bytes prds ++ rest) = sym (drop-drop 4 at s) ∙ ap (drop 4) stands in
    let upper : upper_at s at ≡ 0 = ap (little_number 4) there in
    let later : drop (at + 16) s ≡ table_bytes prds ++ rest = sym (drop-drop 16 at s) ∙ ap (drop 16) stands in
    let first = entry_sound s len at prd here upper in
    let more = entries_sound s len (at + 16) prds rest others later in
    both_none (entry_fault s len at) (first_fault s len (at + 16) (length prds)) ∙ rw (first, more) refl

sound_test : (o : Option PrdError) (overlap : Bool) (total : ℕ) → total_if_sound (option_or o (if overlap then Some Overlap else None)) total ≡ (if is_none o && not overlap then Some total else None)
sound_test (Some x) overlap total = refl
sound_test None true total = refl
sound_test None false total = refl

-- the bytes of the entries of a table that was written
pub total_back : (s : List ℕ) (len table : ℕ) (prds : List Prd) (rest : List ℕ) → length prds ≤ 248 → table + 128 + 16 * length prds ≤ length s → prds_at s (table + 128) (length prds) ≡ prds
    → drop (table + 128) s ≡ table_bytes prds ++ rest → total_at s len table (length prds) ≡ total_if_usable len prds
total_back s len table prds rest few room reads is =
    let n = length prds in
    let lies : nat_lt (length s) (table + 128 + 16 * n) ≡ false = le-ltb (length s) (table + 128 + 16 * n) room in
    let short : nat_lt 248 n ≡ false = le-ltb 248 n few in
    let sound = entries_sound s len (table + 128) prds rest reads is in
    rw (lies, short) (sound_test (first_fault s len (table + 128) n) (have_overlap (prds_at s (table + 128) n)) (total_of (prds_at s (table + 128) n)) ∙ rw (sound, reads) refl)

-- the command that stands in the slot
pub command_back : (memory : Memory) (clb slot table : ℕ) (fields : H2dFields) (prds : List Prd) (old : List ℕ) → IsWritten clb slot table fields prds old memory.structure → (armed : Bool)
    → command_at memory clb slot armed ≡ command_of fields (cfis_at memory.structure table) prds table slot armed (length memory.client)
unfolding command_under command_of
command_back memory clb slot table fields prds old written armed = rw (written.header, written.request, written.total (length memory.client)) refl

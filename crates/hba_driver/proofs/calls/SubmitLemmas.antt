-- For `Driver::submit`. What is known of a request to which no refusal applies.
use Rattle.std.proofs.Common.{◌≡◌, ◌≢◌, ℕ, zero, suc, ◌+◌, ◌*◌, ◌%◌, ◌<◌, ◌≤◌, Bool, true, false, List, [], ◌∷◌, Option, Some, None, length, get_or, refl, sym, subst, ◌∙◌, arith, All, inl, inr}
use Rattle.std.specs.{Prelude.{nat_lt, ◌==◌, ◌||◌, ◌&&◌, not, if◌then◌else◌}, List.list_any, Option.option_or}
use Rattle.std.proofs.lemmas.{Bool.Decides.nat_tests, Bool.{cases_lt, false≢true, or_parts}, List.get_or_past}
use Rattle.host_memory.specs.{Reading.{have_overlap, share_with}, declared.table.Prd.Prd, Memory.Memory, Place.total_of, Writing.CanBeWritten}
use Rattle.hba_driver.specs.declared.{request.Request.Request, request.SubmitError.SubmitError}
use Rattle.hba_driver.specs.Drivers.{Driver, Entry, device_at, entry_at, is_read}
use Rattle.hba_driver.specs.Requests.{conflicts, device_refusal, is_bad_count, is_bad_prd, is_full, is_mismatch, overlaps, room_refusal}
use Rattle.hba_driver.specs.{Requests.shape_refusal, Submits.{end_of, other_refusal, queue_refusal, submit_refusal}, Between.IsTaken}

abbrev no_entry : Option Entry
no_entry = None

-- a test that refuses does not apply
unrefused : (b : Bool) (e : SubmitError) (rest : Option SubmitError) → (if b then Some e else rest) ≡ None → (b ≡ false) × (rest ≡ None)
unrefused true e rest h = cc
unrefused false e rest h = (refl, h)

later : (first rest : Option SubmitError) → option_or first rest ≡ None → rest ≡ None
later None rest h = h
later (Some e) rest h = cc

earlier : (first rest : Option SubmitError) → option_or first rest ≡ None → first ≡ None
earlier None rest h = refl
earlier (Some e) rest h = cc

short : (n total wanted : ℕ) → (nat_lt 248 n || not (total == wanted)) ≡ false → n ≤ 248
short n total wanted h = grind (arith, nat_tests)

differs : (n m : ℕ) → (n == m) ≡ false → n ≢ m
differs n m h = grind (arith, nat_tests)

pub is_taken : (d : Driver) (memory : Memory) (dev : ℕ) (request : Request) → submit_refusal d memory dev request ≡ None → IsTaken d memory request
unfolding submit_refusal
is_taken d memory dev request none =
    let other : Option SubmitError = other_refusal d.plan.mode dev d.entries in
    let queue : option_or (queue_refusal d dev request) (option_or (shape_refusal (end_of memory) request) (option_or (room_refusal d request) other)) ≡ None =
    later (device_refusal (device_at d.plan dev)) _ none in
    let rest : option_or (shape_refusal (end_of memory) request) (option_or (room_refusal d request) other) ≡ None = later (queue_refusal d dev request) _ queue in
    let shape : shape_refusal (end_of memory) request ≡ None = earlier _ (option_or (room_refusal d request) other) rest in
    let last : option_or (room_refusal d request) other ≡ None = later (shape_refusal (end_of memory) request) _ rest in
    let room : room_refusal d request ≡ None = earlier _ other last in
    let count = unrefused (is_bad_count request) _ _ shape in
    let mismatch = unrefused (is_mismatch request) _ _ count.1 in
    let bad = unrefused (list_any (is_bad_prd (end_of memory)) request.prds.items) _ _ mismatch.1 in
    let overlap = unrefused (overlaps d request) _ _ room in
    let full = unrefused (is_full d.entries) _ _ overlap.1 in
    let spent = unrefused (d.given == 4294967295) _ _ full.1 in
    record {
      counted = count.0;
      matched = mismatch.0;
      few = short (length request.prds.items) (total_of request.prds.items) (request.sectors * 512) mismatch.0;
      good = bad.0;
      apart = overlap.0;
      room = full.0;
      below = differs d.given 4294967295 spent.0;
    }

-- an entry that no test refuses
entry_good : (end : ℕ) (prd : Prd) → is_bad_prd end prd ≡ false → (1 ≤ prd.bytes) × (prd.bytes ≤ 4194304)
entry_good end prd h = parts prd.address prd.bytes end h
  where
    parts : (a b e : ℕ) → ((a % 2 == 1) || (b % 2 == 1) || (b == 0) || nat_lt 4194304 b || nat_lt a 1049088 || nat_lt e (a + b)) ≡ false → (1 ≤ b) × (b ≤ 4194304)
    parts a b e h = (grind (arith, nat_tests), grind (arith, nat_tests))

-- a test that no element passes
none_passes : (p : Prd → Bool) (prds : List Prd) (k : ℕ) (d : Prd) → list_any p prds ≡ false → k < length prds → p (get_or prds k d) ≡ false
none_passes p [] k d h below = absurd (omega arith)
none_passes p (prd ∷ prds) zero d h below = (or_parts (p prd) (list_any p prds) h).0
none_passes p (prd ∷ prds) (suc k) d h below = none_passes p prds k d (or_parts (p prd) (list_any p prds) h).1 (omega arith)

pub can_be_written : (d : Driver) (memory : Memory) (request : Request) → IsTaken d memory request → All CanBeWritten request.prds.items
can_be_written d memory request taken k e below =
    entry_good (end_of memory) (get_or request.prds.items k e) (none_passes (is_bad_prd (end_of memory)) request.prds.items k e taken.good below)

-- an entry that is there and conflicts
and_false : (a b : Bool) → a ≡ true → (a && b) ≡ false → b ≡ false
and_false true b h k = k
and_false false b h k = absurd (false≢true h)

pub none_conflict : (test : Option Entry → Bool) (entries : List (Option Entry)) (k : ℕ) → list_any test entries ≡ false → k < length entries → test (get_or entries k None) ≡ false
none_conflict test [] k h below = absurd (omega arith)
none_conflict test (x ∷ xs) zero h below = (or_parts (test x) (list_any test xs) h).0
none_conflict test (x ∷ xs) (suc k) h below = none_conflict test xs k (or_parts (test x) (list_any test xs) h).1 (omega arith)

past_none : (entries : List (Option Entry)) (s : ℕ) (e : Entry) → length entries ≤ s → entry_at entries s ≡ Some e → ⊥
past_none entries s e past h = none_some (sym (get_or_past entries s None past) ∙ h)
  where
    none_some : no_entry ≡ Some e → ⊥
    none_some h = cc

pub no_conflict : (d : Driver) (memory : Memory) (request : Request) → IsTaken d memory request → (s : ℕ) (e : Entry) → entry_at d.entries s ≡ Some e
    → (is_read request.work || is_read e.head.work) ≡ true → share_with request.prds.items e.prds ≡ false
no_conflict d memory request taken s e here reads = elim (cases_lt s (length d.entries)) [
  | inl below ↦
      let all : list_any (conflicts request.work request.prds.items) d.entries ≡ false = (or_parts (have_overlap request.prds.items) _ taken.apart).1 in
      let one : conflicts request.work request.prds.items (Some e) ≡ false = subst (λ (o : Option Entry). conflicts request.work request.prds.items o ≡ false) here (none_conflict (conflicts request.work request.prds.items) d.entries s all below) in
      and_false (is_read request.work || is_read e.head.work) _ reads one
  | inr past ↦ absurd (past_none d.entries s e past here)
]

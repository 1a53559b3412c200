-- The rules of restored commands, whole or in part: what is tested is what every value keeps.
use Rattle.std.proofs.Common.{◌≡◌, ℕ, ◌+◌, ◌<◌, ◌≤◌, ◌^◌, Bool, true, Option, Some, None, List, [], ◌∷◌, Err, refl, sym, ap, ◌∙◌, arith}
use Rattle.std.proofs.{Math.Dec.{leb, ltb, eqb}, lemmas.Bool.{and_from, and_parts, eq-eqb, eqb-true, le-leb, leb-true, lt-ltb, ltb-true}}
use Rattle.std.specs.Prelude.{◌&&◌, is_none}
use Rattle.guest_fetch.specs.{declared.{fetch.Step.{Step, TheVariants.{AtHeader, AtFis, AtEntries}}, header.Header.Header}, Commands.Fetched}
use Rattle.guest_fetch.specs.{Commands.IsCommand, Fetch.Fetching, Fetching.{IsFetching, IsStep, wants_more}, Headers.{IsTaken, header_refusal}}
use Rattle.guest_fetch.specs.{Places.reach_of, Saved.{is_header, is_taken, table_words}, SavedCommands.{CommandParts, KeepsCommand, KeepsFetch}}
use Rattle.guest_fetch.specs.SavedCommands.{KeepsStep, command_of_parts, command_parts, fetch_parts, is_command, is_fetching, head_words, is_step}
use Rattle.guest_fetch.specs.SavedCommands.{of_command, of_fetch, put_step}
use Rattle.saved_state.specs.{declared.words.RestoreError.{RestoreError, TheVariants.{OutOfMemory, Short, NoSuch, Broken}}, Parts.both}
use Rattle.saved_state.specs.State.{NotSaved, Restores}

none_then : {A : Type 0} (o : Option A) → is_none o ≡ true → o ≡ None
none_then None e = refl
none_then (Some a) e = absurd (cc)

-- ---- headers

taken_is : (h : Header) → is_taken h ≡ true → IsTaken h
taken_is h e =
    let all = and_parts (is_header h) (is_none (header_refusal h)) e in
    let two = and_parts _ (ltb h.dwords 32) all.0 in
    let three = and_parts _ (ltb h.pm_port 16) two.0 in
    let first = and_parts (ltb h.entries 65536) (leb (h.table + 128) (2 ^ 64)) three.0 in
    record {
      is = record {
        aligned = leb-true (h.table + 128) (2 ^ 64) first.1;
        entries = ltb-true h.entries 65536 first.0;
        port = ltb-true h.pm_port 16 three.1;
        dwords = ltb-true h.dwords 32 two.1;
      };
      taken = none_then (header_refusal h) all.1;
    }

is_none_of : {A : Type 0} (o : Option A) → o ≡ None → is_none o ≡ true
is_none_of None e = refl
is_none_of (Some a) e = absurd (cc)

taken_fits : (h : Header) → IsTaken h → is_taken h ≡ true
taken_fits h taken =
    and_from (is_header h) (is_none (header_refusal h))
    (and_from _ _ (and_from _ _ (and_from _ _ (lt-ltb h.entries 65536 taken.is.entries) (le-leb (h.table + 128) (2 ^ 64) taken.is.aligned))
    (lt-ltb h.pm_port 16 taken.is.port)) (lt-ltb h.dwords 32 taken.is.dwords))
    (is_none_of (header_refusal h) taken.taken)

-- ---- what has come of a command

step_is : (s : Step) → is_step s ≡ true → IsStep s
step_is AtHeader e = tt
step_is (AtFis header) e = taken_is header e
step_is (AtEntries head table) e =
    let all = and_parts _ (wants_more head table) e in
    let two = and_parts (is_taken head.header) (eqb table.len head.work.len) all.0 in
    record {
      header = taken_is head.header two.0;
      len = eqb-true table.len head.work.len two.1;
      more = all.1;
    }

step_fits : (s : Step) → IsStep s → is_step s ≡ true
step_fits AtHeader is = refl
step_fits (AtFis header) is = taken_fits header is
step_fits (AtEntries head table) is =
    and_from _ _ (and_from _ _ (taken_fits head.header is.header) (eq-eqb table.len head.work.len is.len)) is.more

pub fetching_is : (p : ℕ × Step) → is_fetching p ≡ true → IsFetching (record { at = p.0; step = p.1 })
fetching_is p e =
    let two = and_parts (leb (p.0 + 32) (2 ^ 64)) (is_step p.1) e in
    record { there = leb-true (p.0 + 32) (2 ^ 64) two.0; step = step_is p.1 two.1 }

pub fetching_fits : (f : Fetching) → KeepsFetch f → is_fetching (fetch_parts f) ≡ true
fetching_fits f k = and_from _ _ (le-leb (f.at + 32) (2 ^ 64) k.1.there) (step_fits f.step k.1.step)

-- ---- commands

pub command_is : (p : CommandParts) → is_command p ≡ true → IsCommand (command_of_parts p)
command_is p e =
    let all = and_parts _ (leb p.1.1 (reach_of p.1.0)) e in
    let most = and_parts _ (eqb p.1.0.len p.0.1.work.len) all.0 in
    let two = and_parts (leb (p.0.0 + 32) (2 ^ 64)) (is_taken p.0.1.header) most.0 in
    record {
      place = leb-true (p.0.0 + 32) (2 ^ 64) two.0;
      header = taken_is p.0.1.header two.1;
      len = eqb-true p.1.0.len p.0.1.work.len most.1;
      some = leb-true p.1.1 (reach_of p.1.0) all.1;
    }

pub command_fits : (c : Fetched) → KeepsCommand c → is_command (command_parts c) ≡ true
command_fits c k =
    and_from _ _ (and_from _ _ (and_from _ _ (le-leb (c.at + 32) (2 ^ 64) k.1.place) (taken_fits c.head.header k.1.header))
    (eq-eqb c.table.len c.head.work.len k.1.len)) (le-leb c.moved (reach_of c.table) k.1.some)

-- words of no head and table are words of no step with them
no_entries : (mid : List ℕ) → NotSaved (both head_words table_words).put (both head_words table_words).keeps mid
    → (v : Step) (rest : List ℕ) → KeepsStep v → (2 ∷ mid) ≡ put_step v rest → ⊥
no_entries mid gone AtHeader rest k e = absurd (cc)
no_entries mid gone (AtFis header) rest k e = absurd (cc)
no_entries mid gone (AtEntries head table) rest k e =
    let inner : mid ≡ head_words.put head (table_words.put table rest) = cc in gone (head, table) rest k inner

pub entries_refused : (old mid new : List ℕ) (error : RestoreError) → old ≡ (2 ∷ mid)
    → Restores (both head_words table_words).put (both head_words table_words).keeps mid (Err error) new
    → Restores put_step KeepsStep old (Err error) new
entries_refused old mid new OutOfMemory is gone = tt
entries_refused old mid new Short is gone = λ v rest k e. no_entries mid gone v rest k (sym is ∙ e)
entries_refused old mid new NoSuch is gone = λ v rest k e. no_entries mid gone v rest k (sym is ∙ e)
entries_refused old mid new Broken is gone = λ v rest k e. no_entries mid gone v rest k (sym is ∙ e)

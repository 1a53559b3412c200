-- The rules of a table and what is tested of it say the same.
use Rattle.std.proofs.Common.{◌≡◌, ℕ, zero, suc, ◌+◌, ◌*◌, ◌%◌, ◌<◌, ◌≤◌, Bool, true, false, not, ◌&&◌, ◌||◌, nat_eq, nat_lt, nat_le, List, [], ◌∷◌}
use Rattle.std.proofs.{Common.{get_or, length, replicate, refl, sym, ◌∙◌, ap, arith, subst, inl, inr, Option, Some, None}, lemmas.Bool.and_from}
use Rattle.std.proofs.lemmas.Bool.{and_parts, cases_lt, eq-eqb, eqb-true, false≢true, le-leb, leb-true, lt-ltb, ltb-true, ne_eqb, not-false, not-true}
use Rattle.std.proofs.lemmas.{Bool.not_from_false, List.get_or_past}
use Rattle.std.specs.{Prelude.MatchOption, Bool.beq, List.AllByRecursion, Option.{is_none, is_some, option_map}}
use Rattle.slots.specs.{declared.{slot.Issued.Issued, table.Context.Context}, Bytes.{any_over, stretches_of}, Issued.{issued_of, with_flags}}
use Rattle.slots.specs.{RunLaws.{over_runs, runs_apart}, Runs.runs_of, Saved.{KeepsIssue, KeepsSlot, KeepsTableParts}, Setup.is_full_at}
use Rattle.slots.specs.{Setup.is_outstanding, Slots.{Issue, Slots, context_of, holds, is_control, is_queued_issue, is_under_way, is_waiting}}
use Rattle.slots.specs.{Slots.{issue_at, lowest, lowest_below, match_some, owned_by, own_issue, own_of, waiting}, Stretches.over_of, Table.IsContext}
use Rattle.slots.specs.{Table.{IsContextOf, IsIssue, IsTable, waits_for}, Tested.{are_contexts_proper, are_slots_proper, has_context}}
use Rattle.slots.specs.{Tested.{is_context_proper, is_first_waiting, is_moving, is_open, is_proper, is_slot_proper, is_table}, Work.is_read}
use Rattle.slots.proofs.{ApartLemmas.{count_seen, stretch_count}, FlagLemmas.over_nothing, MaskLemmas.{lowest_is, lowest_none, none_below}}
use Rattle.slots.proofs.TableLemmas.{own_at, owned_own, owns_from}

-- ---- tests of several parts

three : (a b c : Bool) → (a && b && c) ≡ true → (a ≡ true) × (b ≡ true) × (c ≡ true)
three true true true h = (refl, refl, refl)
three true true false h = absurd (false≢true h)
three true false c h = absurd (false≢true h)
three false b c h = absurd (false≢true h)

from_three : (a b c : Bool) → a ≡ true → b ≡ true → c ≡ true → (a && b && c) ≡ true
from_three a b c ha hb hc = rw (ha, hb, hc) refl

four : (a b c d : Bool) → (a && b && c && d) ≡ true → (a ≡ true) × (b ≡ true) × (c ≡ true) × (d ≡ true)
four true true true true h = (refl, refl, refl, refl)
four true true true false h = absurd (false≢true h)
four true true false d h = absurd (false≢true h)
four true false c d h = absurd (false≢true h)
four false b c d h = absurd (false≢true h)

from_four : (a b c d : Bool) → a ≡ true → b ≡ true → c ≡ true → d ≡ true → (a && b && c && d) ≡ true
from_four a b c d ha hb hc hd = rw (ha, hb, hc, hd) refl

five : (a b c d e : Bool) → (a && b && c && d && e) ≡ true → (a ≡ true) × (b ≡ true) × (c ≡ true) × (d ≡ true) × (e ≡ true)
five true true true true true h = (refl, refl, refl, refl, refl)
five true true true true false h = absurd (false≢true h)
five true true true false e h = absurd (false≢true h)
five true true false d e h = absurd (false≢true h)
five true false c d e h = absurd (false≢true h)
five false b c d e h = absurd (false≢true h)

from_five : (a b c d e : Bool) → a ≡ true → b ≡ true → c ≡ true → d ≡ true → e ≡ true → (a && b && c && d && e) ≡ true
from_five a b c d e ha hb hc hd he = rw (ha, hb, hc, hd, he) refl

then : (x y : Bool) → (not x || y) ≡ true → x ≡ true → y ≡ true
then true y h e = h
then false y h e = absurd (false≢true e)

from_then : (x y : Bool) → (x ≡ true → y ≡ true) → (not x || y) ≡ true
from_then true y h = h refl
from_then false y h = refl

unless : (x y : Bool) → (x || y) ≡ true → x ≡ false → y ≡ true
unless true y h e = absurd (false≢true (sym e))
unless false y h e = h

from_unless : (x y : Bool) → (x ≡ false → y ≡ true) → (x || y) ≡ true
from_unless true y h = refl
from_unless false y h = h refl

same : (x y : Bool) → beq x y ≡ true → x ≡ y
same true true h = refl
same false false h = refl
same true false h = absurd (false≢true h)
same false true h = absurd (false≢true h)

from_same : (x y : Bool) → x ≡ y → beq x y ≡ true
from_same true true h = refl
from_same false false h = refl
from_same true false h = absurd (false≢true (sym h))
from_same false true h = absurd (false≢true h)

none_is : (o : Option ℕ) → is_none o ≡ true → o ≡ None
none_is None h = refl
none_is (Some n) h = absurd (false≢true h)

-- ---- an issue

no_items : {A : Type 0} (xs : List A) → length xs ≡ 0 → xs ≡ []
no_items [] h = refl
no_items (x ∷ xs) h = absurd (omega (arith, h))

untouched : (over : List Bool) (n : ℕ) → length over ≡ n → stretches_of over (4 * length over) ≡ 0 → over ≡ replicate n false
untouched over n long none =
    let count = count_seen (length over) (runs_of over) over (over_runs over) (runs_apart over) in
    let empty : runs_of over ≡ [] = no_items (runs_of over) (count ∙ none) in
    sym (over_runs over) ∙ ap (over_of (length over)) empty ∙ over_nothing (length over) ∙ ap (λ (m : ℕ). replicate m false) long

no_runs : (over : List Bool) (n : ℕ) → length over ≡ n → over ≡ replicate n false → stretches_of over (4 * length over) ≡ 0
no_runs over n long is =
    ap (λ (m : ℕ). stretches_of over (4 * m)) long ∙ ap (λ (l : List Bool). stretches_of l (4 * n)) (is ∙ sym (over_nothing n)) ∙ stretch_count n [] tt

proper_is : (issue : Issue) → KeepsIssue issue → is_proper issue ≡ true → IsIssue issue
proper_is issue k h =
    let parts = four (nat_lt issue.dev 16) (not issue.answered || is_queued_issue issue && issue.sent) (not issue.sent || not (is_control issue.work.kind))
    (issue.sent || nat_eq (stretches_of issue.over (4 * length issue.over)) 0) h in
    let long : 4 * length issue.over ≡ issue.work.len = omega (arith, k.1, k.2.0) in
    record {
      dev_below = ltb-true issue.dev 16 parts.0;
      work = k.2;
      room = k.1;
      answers = λ is. and_parts (is_queued_issue issue) issue.sent (then issue.answered (is_queued_issue issue && issue.sent) parts.1 is);
      few = subst (λ (n : ℕ). stretches_of issue.over n ≤ 64) long k.0.1.1;
      controls = λ is. not-true (is_control issue.work.kind) (then issue.sent (not (is_control issue.work.kind)) parts.2 is);
      unsent = λ is. untouched issue.over _ k.1
          (eqb-true (stretches_of issue.over (4 * length issue.over)) 0 (unless issue.sent (nat_eq (stretches_of issue.over (4 * length issue.over)) 0) parts.3 is));
    }

is_then_proper : (issue : Issue) → IsIssue issue → is_proper issue ≡ true
is_then_proper issue is =
    from_four (nat_lt issue.dev 16) (not issue.answered || is_queued_issue issue && issue.sent) (not issue.sent || not (is_control issue.work.kind))
    (issue.sent || nat_eq (stretches_of issue.over (4 * length issue.over)) 0)
    (lt-ltb issue.dev 16 is.dev_below)
    (from_then issue.answered (is_queued_issue issue && issue.sent) (λ e. let both = is.answers e in and_from (is_queued_issue issue) issue.sent both.0 both.1))
    (from_then issue.sent (not (is_control issue.work.kind)) (λ e. not_from_false (is_control issue.work.kind) (is.controls e)))
    (from_unless issue.sent (nat_eq (stretches_of issue.over (4 * length issue.over)) 0)
    (λ e. eq-eqb (stretches_of issue.over (4 * length issue.over)) 0 (no_runs issue.over _ is.room (is.unsent e))))

-- ---- a context

context_is : (dev : ℕ) (c : Context) (issue : Issue) → has_context dev c issue ≡ true → IsContextOf dev c issue
context_is dev c issue h =
    let all = three (nat_eq issue.dev dev) (is_open c issue) (is_moving c issue) h in
    let free = five (nat_le (c.next + c.left) issue.work.len) (nat_eq (c.next % 4) 0) (nat_eq (c.left % 4) 0) (not (any_over issue.over c.next c.left))
    (nat_eq c.left 0 || not (is_full_at issue c.next)) all.1 in
    let moving = three (beq (is_read issue.work.kind) c.to_host) (is_outstanding issue || is_under_way issue) (not c.activated || not c.to_host && nat_lt 0 c.left) all.2 in
    record {
      of_dev = eqb-true issue.dev dev all.0;
      fits = leb-true (c.next + c.left) issue.work.len free.0;
      next_dwords = eqb-true (c.next % 4) 0 free.1;
      left_dwords = eqb-true (c.left % 4) 0 free.2;
      fresh = not-true (any_over issue.over c.next c.left) free.3;
      room = λ some. not-true (is_full_at issue c.next) (unless (nat_eq c.left 0) (not (is_full_at issue c.next)) free.4 (ne_eqb c.left 0 (λ e. omega (arith, some, e))));
      way = same (is_read issue.work.kind) c.to_host moving.0;
      goes = moving.1;
      activates = λ e. let both = and_parts (not c.to_host) (nat_lt 0 c.left) (then c.activated (not c.to_host && nat_lt 0 c.left) moving.2 e) in
          (not-true c.to_host both.0, ltb-true 0 c.left both.1);
    }

some_left : (n : ℕ) → nat_eq n 0 ≡ false → 0 < n
some_left zero e = absurd (false≢true (sym e))
some_left (suc n) e = omega arith

is_then_context : (dev : ℕ) (c : Context) (issue : Issue) → IsContextOf dev c issue → has_context dev c issue ≡ true
is_then_context dev c issue is =
    from_three (nat_eq issue.dev dev) (is_open c issue) (is_moving c issue) (eq-eqb issue.dev dev is.of_dev)
    (from_five (nat_le (c.next + c.left) issue.work.len) (nat_eq (c.next % 4) 0) (nat_eq (c.left % 4) 0) (not (any_over issue.over c.next c.left))
    (nat_eq c.left 0 || not (is_full_at issue c.next))
    (le-leb (c.next + c.left) issue.work.len is.fits) (eq-eqb (c.next % 4) 0 is.next_dwords) (eq-eqb (c.left % 4) 0 is.left_dwords)
    (not_from_false (any_over issue.over c.next c.left) is.fresh)
    (from_unless (nat_eq c.left 0) (not (is_full_at issue c.next)) (λ e. not_from_false (is_full_at issue c.next) (is.room (some_left c.left e)))))
    (from_three (beq (is_read issue.work.kind) c.to_host) (is_outstanding issue || is_under_way issue) (not c.activated || not c.to_host && nat_lt 0 c.left)
    (from_same (is_read issue.work.kind) c.to_host is.way) is.goes
    (from_then c.activated (not c.to_host && nat_lt 0 c.left)
    (λ e. let both = is.activates e in and_from (not c.to_host) (nat_lt 0 c.left) (not_from_false c.to_host both.0) (lt-ltb 0 c.left both.1))))

-- ---- a slot beside the others

pub first_after : (issues : List (Option Issue)) (slot : ℕ) (o : Option Issue) (issued : Issued) → get_or issues slot None ≡ o → option_map issued_of o ≡ Some issued
    → true ≡ match_some o true is_proper → is_first_waiting issues slot (with_flags issued []) ≡ is_slot_proper issues slot
first_after issues slot None issued at is proper = absurd (cc)
first_after issues slot (Some issue) issued at is proper =
    let same_issued : issued_of issue ≡ issued = cc in
    sym (ap (λ o. match_some o true (λ i. is_proper i && is_first_waiting issues slot i)) at ∙ ap (λ (b : Bool). b && is_first_waiting issues slot issue) (sym proper)
    ∙ ap (λ i. is_first_waiting issues slot (with_flags i [])) same_issued)

some_waits : (o : Option Issue) → holds is_waiting o ≡ true → is_some o ≡ true
some_waits None h = absurd (false≢true h)
some_waits (Some issue) h = refl

-- the slot of a device that waits is the first that does
waits_first : (issues : List (Option Issue)) (dev slot : ℕ) (o : Option Issue) (w : Option ℕ) → get_or issues slot None ≡ o → slot < length issues → length issues ≡ 32
    → waiting (own_of dev issues) ≡ w → holds is_waiting (owned_by dev o) ≡ true → match_some o true (λ issue. is_proper issue && is_first_waiting issues slot issue) ≡ true
    → waiting (own_of dev issues) ≡ Some slot
waits_first issues dev slot None w at low long is waits proper = absurd (false≢true waits)
waits_first issues dev slot (Some issue) None at low long is waits proper =
    let t : Slots = record { issues = issues; contexts = [] } in
    let not_it = none_below (λ k. holds is_waiting (own_issue (own_of dev issues) k)) 32 is slot (omega (arith, low, long)) in
    absurd (false≢true (sym not_it ∙ ap (holds is_waiting) (own_at dev t slot low ∙ ap (owned_by dev) at) ∙ waits))
waits_first issues dev slot (Some issue) (Some first) at low long is waits proper =
    let own : issue.dev ≡ dev = owns_from dev (Some issue) (some_waits (owned_by dev (Some issue)) waits) in
    let waiting_here : is_waiting issue ≡ true = sym (ap (holds is_waiting) (owned_own dev issue own)) ∙ waits in
    let parts = and_parts (is_proper issue) (is_first_waiting issues slot issue) proper in
    let found = then (is_waiting issue) (match_some (waiting (own_of issue.dev issues)) true (λ k. nat_eq k slot)) parts.1 waiting_here in
    let of_dev : waiting (own_of issue.dev issues) ≡ Some first = ap (λ (d : ℕ). waiting (own_of d issues)) own ∙ is in
    let equal : first ≡ slot = eqb-true first slot (sym (ap (λ (x : Option ℕ). match_some x true (λ k. nat_eq k slot)) of_dev) ∙ found) in
    is ∙ ap Some equal

first_by : (issues : List (Option Issue)) (contexts : List (Option Context)) (slot : ℕ) (issue : Issue) (w : Option ℕ) → IsTable (record { issues = issues; contexts = contexts })
    → get_or issues slot None ≡ Some issue → waiting (own_of issue.dev issues) ≡ w → is_waiting issue ≡ true → match_some w true (λ first. nat_eq first slot) ≡ true
first_by issues contexts slot issue None is at found waits = refl
first_by issues contexts slot issue (Some first) is at found waits =
    let t : Slots = record { issues = issues; contexts = contexts } in
    let low = lowest_is (λ k. holds is_waiting (own_issue (own_of issue.dev issues) k)) 32 first found in
    let there : waits_for issue.dev t first ≡ true = ap (holds is_waiting) (sym (own_at issue.dev t first (omega (arith, low.below, is.slots)))) ∙ low.passes in
    let here : waits_for issue.dev t slot ≡ true = ap (λ (o : Option Issue). holds is_waiting (owned_by issue.dev o)) at ∙ ap (holds is_waiting) (owned_own issue.dev issue refl) ∙ waits in
    eq-eqb first slot (is.one_waits issue.dev first slot there here)

slot_proper : (issues : List (Option Issue)) (contexts : List (Option Context)) (slot : ℕ) (o : Option Issue) → IsTable (record { issues = issues; contexts = contexts })
    → get_or issues slot None ≡ o → MatchOption o (Unit {0}) IsIssue → match_some o true (λ issue. is_proper issue && is_first_waiting issues slot issue) ≡ true
slot_proper issues contexts slot None is at of = refl
slot_proper issues contexts slot (Some issue) is at of =
    and_from (is_proper issue) (is_first_waiting issues slot issue) (is_then_proper issue of)
    (from_then (is_waiting issue) (match_some (waiting (own_of issue.dev issues)) true (λ first. nat_eq first slot))
    (first_by issues contexts slot issue (waiting (own_of issue.dev issues)) is at refl))

slot_is : (issues : List (Option Issue)) (slot : ℕ) (o : Option Issue) → KeepsSlot o
    → match_some o true (λ issue. is_proper issue && is_first_waiting issues slot issue) ≡ true → MatchOption o (Unit {0}) IsIssue
slot_is issues slot None k h = tt
slot_is issues slot (Some issue) k h = proper_is issue k (and_parts (is_proper issue) (is_first_waiting issues slot issue) h).0

-- ---- a table

at_each : {A : Type 0} (P : A → Type 0) (xs : List A) (k : ℕ) (d : A) → AllByRecursion P xs → k < length xs → P (get_or xs k d)
at_each P [] k d all lt = absurd (omega (arith, lt))
at_each P (x ∷ xs) zero d all lt = all.0
at_each P (x ∷ xs) (suc k) d all lt = at_each P xs k d all.1 (omega (arith, lt))

within_is : (dev : ℕ) (c : Context) (o : Option Issue) → match_some o false (has_context dev c) ≡ true → MatchOption o ⊥ (IsContextOf dev c)
within_is dev c None h = false≢true h
within_is dev c (Some issue) h = context_is dev c issue h

within_proper : (dev : ℕ) (c : Context) (o : Option Issue) → MatchOption o ⊥ (IsContextOf dev c) → match_some o false (has_context dev c) ≡ true
within_proper dev c None h = absurd h
within_proper dev c (Some issue) h = is_then_context dev c issue h

own_context_is : (t : Slots) (dev : ℕ) (o : Option Context)
    → match_some o true (λ c. nat_lt c.slot 32 && match_some (get_or t.issues c.slot None) false (has_context dev c)) ≡ true → MatchOption o (Unit {0}) (IsContext dev t)
own_context_is t dev None h = tt
own_context_is t dev (Some c) h =
    let both = and_parts (nat_lt c.slot 32) (match_some (get_or t.issues c.slot None) false (has_context dev c)) h in
    (ltb-true c.slot 32 both.0, within_is dev c (get_or t.issues c.slot None) both.1)

own_context_proper : (t : Slots) (dev : ℕ) (o : Option Context) → MatchOption o (Unit {0}) (IsContext dev t)
    → match_some o true (λ c. nat_lt c.slot 32 && match_some (get_or t.issues c.slot None) false (has_context dev c)) ≡ true
own_context_proper t dev None h = refl
own_context_proper t dev (Some c) h =
    and_from (nat_lt c.slot 32) (match_some (get_or t.issues c.slot None) false (has_context dev c)) (lt-ltb c.slot 32 h.0) (within_proper dev c (get_or t.issues c.slot None) h.1)

pub table_is : (issues : List (Option Issue)) (contexts : List (Option Context)) → KeepsTableParts (issues, contexts) → is_table issues contexts ≡ true
    → IsTable (record { issues = issues; contexts = contexts })
table_is issues contexts k h =
    let t : Slots = record { issues = issues; contexts = contexts } in
    let both = and_parts (are_slots_proper issues) (are_contexts_proper issues contexts) h in
    let slot_at : (s : ℕ) → s < 32 → is_slot_proper issues s ≡ true = λ s lt. not-false (is_slot_proper issues s)
    (none_below (λ slot. not (is_slot_proper issues slot)) 32 (none_is (lowest (λ slot. not (is_slot_proper issues slot))) both.0) s lt) in
    let context_at : (d : ℕ) → d < 16 → is_context_proper issues contexts d ≡ true = λ d lt. not-false (is_context_proper issues contexts d)
    (none_below (λ dev. not (is_context_proper issues contexts dev)) 16 (none_is (lowest_below (λ dev. not (is_context_proper issues contexts dev)) 16) both.1) d lt) in
    let first : (dev s : ℕ) → waits_for dev t s ≡ true → waiting (own_of dev issues) ≡ Some s = λ dev s waits. elim (cases_lt s 32) [
      | inl lt ↦ waits_first issues dev s (get_or issues s None) (waiting (own_of dev issues)) refl (omega (arith, lt, k.0.0)) k.0.0 refl waits (slot_at s lt)
      | inr ge ↦ absurd (false≢true (sym (ap (λ (o : Option Issue). holds is_waiting (owned_by dev o)) (get_or_past issues s None (omega (arith, ge, k.0.0)))) ∙ waits))
    ] in
    record {
      slots = k.0.0;
      devices = k.1.0;
      issues = λ s. elim (cases_lt s 32) [
        | inl lt ↦ slot_is issues s (get_or issues s None) (at_each KeepsSlot issues s None k.0.1 (omega (arith, lt, k.0.0))) (slot_at s lt)
        | inr ge ↦ rw (get_or_past issues s None (omega (arith, ge, k.0.0))) tt
      ];
      contexts = λ dev. elim (cases_lt dev 16) [
        | inl lt ↦ own_context_is t dev (get_or contexts dev None) (context_at dev lt)
        | inr ge ↦ rw (get_or_past contexts dev None (omega (arith, ge, k.1.0))) tt
      ];
      one_waits = λ dev r s hr hs. let both_are : Some r ≡ Some s = sym (first dev r hr) ∙ first dev s hs in cc;
    }

pub is_then_table : (t : Slots) → IsTable t → is_table t.issues t.contexts ≡ true
is_then_table t is =
    and_from (are_slots_proper t.issues) (are_contexts_proper t.issues t.contexts)
    (ap (λ (o : Option ℕ). is_none o) (lowest_none (λ slot. not (is_slot_proper t.issues slot)) 32
    (λ s lt. ap not (slot_proper t.issues t.contexts s (issue_at t s) is refl (is.issues s)))))
    (ap (λ (o : Option ℕ). is_none o) (lowest_none (λ dev. not (is_context_proper t.issues t.contexts dev)) 16
    (λ dev lt. ap not (own_context_proper t dev (context_of t dev) (is.contexts dev)))))

-- what waits is the first, or nothing waits
pub first_told : (s a : Bool) (o p : Option ℕ) (slot : ℕ) → not s ≡ false → a ≡ false → p ≡ o → match_some p true (λ first. nat_eq first slot) ≡ (not (s && not a) || match_some o true (λ first. nat_eq first slot))
first_told false a o p slot hs ha e = absurd (false≢true (sym hs))
first_told true true o p slot hs ha e = absurd (false≢true (sym ha))
first_told true false o p slot hs ha e = ap (λ (x : Option ℕ). match_some x true (λ first. nat_eq first slot)) e

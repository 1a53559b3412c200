-- The next bytes of a device's context are transferred.
use Rattle.std.proofs.Common.{◌≡◌, ℕ, ◌+◌, ◌*◌, ◌%◌, ◌<◌, ◌≤◌, Bool, true, List, get_or, set, length, refl, sym, ◌∙◌, ap, subst, arith, inl, inr}
use Rattle.std.proofs.{Common.{Option, Some, None, get_or-set_same, get_or-set_other}, lemmas.Bool.{and_parts, cases_eq, cases_lt, or_cases}}
use Rattle.std.proofs.lemmas.{Bool.{false≢true}, List.{get_or_default, set-set}}
use Rattle.std.specs.{Prelude.MatchOption, Option.option_map}
use Rattle.slots.specs.{declared.table.Context.Context, Bytes.{stretches_of, with_bytes}, Data.{gone_over, moved_on, moved_over}}
use Rattle.slots.specs.{Setup.is_outstanding, Slots.{Issue, Slots, DeviceSlots, issue_at, context_of, owned_by, slots_of, holds, is_queued_issue}}
use Rattle.slots.specs.{Slots.{is_under_way, is_waiting}, Table.{IsIssue, IsContextOf, IsTable, waits_for}, Work.needs_all, Between.Owns}
use Rattle.slots.proofs.{ByteLemmas.length_with_bytes, StretchLemmas.{few_then, fresh_then, room_then, with_none}, TableLemmas.context_in}
use Rattle.slots.proofs.TableLemmas.{context_some, own_changed, own_with_context, owned_own, owns_where, table_with_context, table_with_issue}
use Rattle.slots.proofs.TableLemmas.{with_context, with_issue}

-- what is issued in the slot of a context
pub record InContext (dev : ℕ) (c : Context) (t : Slots) : Type 0 where
  pub issue : Issue
  pub at : issue_at t c.slot ≡ Some issue
  pub is : IsContextOf dev c issue

in_context_at : (dev : ℕ) (c : Context) (t : Slots) (o : Option Issue) → issue_at t c.slot ≡ o → MatchOption o ⊥ (IsContextOf dev c) → InContext dev c t
in_context_at dev c t None at h = absurd h
in_context_at dev c t (Some issue) at h = record { issue = issue; at = at; is = h }

pub in_context : (dev : ℕ) (c : Context) (t : Slots) → IsTable t → context_of t dev ≡ Some c → InContext dev c t
in_context dev c t is e = in_context_at dev c t (issue_at t c.slot) refl (context_some t dev c is e).1

pub slot_of_context : (dev : ℕ) (c : Context) (t : Slots) → IsTable t → context_of t dev ≡ Some c → c.slot < 32
slot_of_context dev c t is e = (context_some t dev c is e).0

pub owns_context : (dev : ℕ) (c : Context) (t : Slots) → IsTable t → context_of t dev ≡ Some c → Owns dev (issue_at t c.slot)
owns_context dev c t is e =
    let f = in_context dev c t is e in
    subst (λ (o : Option Issue). Owns dev o) (sym f.at) f.is.of_dev

-- the device's context is the only one for its slot
only_context : (dev other s : ℕ) (c : Context) (t : Slots) (i : Issue) → IsTable t → dev < 16 → issue_at t s ≡ Some i → i.dev ≡ dev → context_of (with_context t dev None) other ≡ Some c → c.slot ≡ s → ⊥
only_context dev other s c t i is below at owner e same = elim (cases_eq other dev) [
  | inl one ↦
      let gone : context_of (with_context t dev None) other ≡ None = ap (context_of (with_context t dev None)) one ∙ get_or-set_same t.contexts dev None None (omega (arith, is.devices)) in
      cc
  | inr apart ↦
      let before : context_of t other ≡ Some c = sym (get_or-set_other t.contexts dev other None None apart) ∙ e in
      apart (sym (context_in t other s c i (context_some t other c is before) same at).of_dev ∙ owner)
]

-- a command with a context was sent
context_sent : (dev : ℕ) (c : Context) (i : Issue) → IsIssue i → IsContextOf dev c i → i.sent ≡ true
context_sent dev c i r g = elim (or_cases (is_outstanding i) (is_under_way i) g.goes) [
  | inl o ↦ (r.answers (and_parts (is_queued_issue i) i.answered o).1).1
  | inr p ↦ (and_parts i.sent (needs_all i.work.kind) p).0
]

-- the issue after bytes of its context were transferred
moved_issue : (dev n : ℕ) (c : Context) (i : Issue) → IsIssue i → IsContextOf dev c i → n ≤ c.left → n % 4 ≡ 0 → IsIssue (moved_over c.next n i)
moved_issue dev n c i r g within dwords = record {
  dev_below = r.dev_below;
  work = r.work;
  room = length_with_bytes i.over c.next n ∙ r.room;
  answers = r.answers;
  few = elim (cases_lt 0 c.left) [
    | inl some ↦ few_then i.over c.next n i.work.len g.next_dwords dwords (omega (arith, r.room, r.work.0)) r.few (g.room some)
    | inr none ↦ let same : with_bytes i.over c.next n ≡ i.over = (let e : n ≡ 0 = omega arith in ap (with_bytes i.over c.next) e) ∙ with_none i.over c.next g.next_dwords in
        subst (λ (x : List Bool). stretches_of x i.work.len ≤ 64) (sym same) r.few
  ];
  controls = r.controls;
  unsent = λ h. absurd (false≢true (sym h ∙ context_sent dev c i r g));
}

-- and the context
moved_context : (dev n : ℕ) (c : Context) (i : Issue) → IsIssue i → IsContextOf dev c i → n ≤ c.left → n % 4 ≡ 0 → IsContextOf dev (moved_on n c) (moved_over c.next n i)
moved_context dev n c i r g within dwords =
    let inside : c.next + c.left ≤ 4 * length i.over = omega (arith, g.fits, r.room, r.work.0) in
    record {
      of_dev = g.of_dev;
      fits = omega (arith, g.fits);
      next_dwords = omega (arith, g.next_dwords);
      left_dwords = omega (arith, g.left_dwords);
      fresh = fresh_then i.over c.next n c.left g.next_dwords dwords within inside g.fresh;
      room = room_then i.over c.next n c.left i.work.len g.next_dwords dwords within inside g.fresh g.room;
      way = g.way;
      goes = g.goes;
      activates = λ h. absurd (false≢true h);
    }

-- they are at most 64 stretches then
pub few_moved : (dev n : ℕ) (c : Context) (t : Slots) (i : Issue) (d : Option Issue) → IsTable t → context_of t dev ≡ Some c → n ≤ c.left → n % 4 ≡ 0 → get_or t.issues c.slot d ≡ Some i
    → stretches_of (with_bytes i.over c.next n) i.work.len ≤ 64
few_moved dev n c t i d is e within dwords at =
    let lt : c.slot < length t.issues = omega (arith, slot_of_context dev c t is e, is.slots) in
    let there : issue_at t c.slot ≡ Some i = sym (get_or_default t.issues c.slot d None lt) ∙ at in
    let r : IsIssue i = subst (λ (x : Option Issue). MatchOption x (Unit {0}) IsIssue) there (is.issues c.slot) in
    let g : IsContextOf dev c i = subst (λ (x : Option Issue). MatchOption x ⊥ (IsContextOf dev c)) there (context_some t dev c is e).1 in
    (moved_issue dev n c i r g within dwords).few

waits_still : (d s n : ℕ) (c : Context) (t : Slots) (i : Issue) → issue_at t s ≡ Some i → holds is_waiting (owned_by d (Some (moved_over c.next n i))) ≡ true → waits_for d t s ≡ true
waits_still d s n c t i at h =
    let own : i.dev ≡ d = owns_where is_waiting d (Some (moved_over c.next n i)) h in
    let here : is_waiting i ≡ true = ap (holds is_waiting) (sym (owned_own d (moved_over c.next n i) own)) ∙ h in
    ap (λ (x : Option Issue). holds is_waiting (owned_by d x)) at ∙ ap (holds is_waiting) (owned_own d i own) ∙ here

pub table_moved : (dev n : ℕ) (c : Context) (t : Slots) (o d : Option Issue) → IsTable t → dev < 16 → context_of t dev ≡ Some c → n ≤ c.left → n % 4 ≡ 0
    → o ≡ option_map (moved_over c.next n) (get_or t.issues c.slot d) → IsTable (with_context (with_issue t c.slot o) dev (Some (moved_on n c)))
table_moved dev n c t o d is below at within dwords e =
    let s = c.slot in
    let slot : s < 32 = slot_of_context dev c t is at in
    let lt : s < length t.issues = omega (arith, is.slots) in
    let f = in_context dev c t is at in
    let i = f.issue in
    let r : IsIssue i = subst (λ (x : Option Issue). MatchOption x (Unit {0}) IsIssue) f.at (is.issues s) in
    let after : Option Issue = Some (moved_over c.next n i) in
    let now : o ≡ after = e ∙ ap (option_map (moved_over c.next n)) (get_or_default t.issues s d None lt ∙ f.at) in
    let ended : Slots = with_context t dev None in
    let first : IsTable ended = table_with_context t dev None is below tt in
    let second : IsTable (with_issue ended s after) = table_with_issue ended s after first slot (moved_issue dev n c i r f.is within dwords)
    (λ other b h same. absurd (only_context dev other s b t i is below f.at f.is.of_dev h same))
    (λ q p here there. is.one_waits q p s there (waits_still q s n c t i f.at here)) in
    let held : MatchOption (get_or (set t.issues s after) s None) ⊥ (IsContextOf dev (moved_on n c)) =
    subst (λ (x : Option Issue). MatchOption x ⊥ (IsContextOf dev (moved_on n c))) (sym (get_or-set_same t.issues s after None lt)) (moved_context dev n c i r f.is within dwords) in
    let third : IsTable (with_context (with_issue ended s after) dev (Some (moved_on n c))) = table_with_context (with_issue ended s after) dev (Some (moved_on n c)) second below (slot, held) in
    let same : with_context (with_issue ended s after) dev (Some (moved_on n c)) ≡ with_context (with_issue t s o) dev (Some (moved_on n c)) =
    ap (λ (x : List (Option Context)). record { issues = set t.issues s after; contexts = x }) (set-set t.contexts dev None (Some (moved_on n c)))
    ∙ ap (λ (x : Option Issue). with_context (with_issue t s x) dev (Some (moved_on n c))) (sym now) in
    subst IsTable same third

pub own_moved : (dev n : ℕ) (c : Context) (t : Slots) (o d : Option Issue) → IsTable t → dev < 16 → context_of t dev ≡ Some c → o ≡ option_map (moved_over c.next n) (get_or t.issues c.slot d)
    → slots_of dev (with_context (with_issue t c.slot o) dev (Some (moved_on n c))) ≡ gone_over n c (slots_of dev t)
own_moved dev n c t o d is below at e =
    let slot : c.slot < length t.issues = omega (arith, slot_of_context dev c t is at, is.slots) in
    let first = own_changed dev c.slot t (moved_over c.next n) (λ i. refl) o d slot e in
    own_with_context dev (with_issue t c.slot o) (Some (moved_on n c)) (omega (arith, is.devices)) ∙ ap (λ (own : DeviceSlots). record { issues = own.issues; context = Some (moved_on n c) }) first

-- What holds for every table still holds after a call.
use Rattle.std.proofs.Common.{◌≡◌, ℕ, ◌/◌, ◌<◌, Bool, true, false, not, ◌&&◌, ◌||◌, List, [], get_or, length, cond, refl, sym, ◌∙◌, ap, subst, arith}
use Rattle.std.proofs.{Common.{inl, inr, Option, Some, None, get_or-set_same}, lemmas.Bool.{cases_lt, and_parts, or_left, or_right, or_cases}}
use Rattle.std.proofs.lemmas.{Bool.{cond-true, cond-false, not-true, false≢true}, List.{get_or_default, get_or_past, length-map, length-replicate}}
use Rattle.std.specs.{Prelude.{MatchOption, IfSome, IsSome, is_none}, Bool.then_some, Option.{is_some, option_map}}
use Rattle.slots.specs.{declared.table.Context.Context, Commands.{MayBeSent, after_pio_done, after_sent, answer_for, answer_of, answered_issue}}
use Rattle.slots.specs.{Commands.{is_slot, may_begin, may_go, sent_issue, whole_pio, with_sent}, declared.{slot.Issued.Issued, work.Work.Work}}
use Rattle.slots.specs.{Work.{IsWork, needs_all}, Issued.{issued_of, with_flags}, Slots.{Issue, Slots, DeviceSlots, issue_at, owned_by, own_issue}}
use Rattle.slots.specs.Slots.{slots_of, freed, has_bit, holds, is_control, is_out_issue, is_queued_issue, is_sent_pio, is_under_way, is_waiting}
use Rattle.slots.specs.{Slots.{is_whole_issue, match_some, new_issue, sent_out, sent_pio, waiting}, Setup.{after_setup_pio, begun, came}}
use Rattle.slots.specs.{Setup.{is_outstanding, new_context, pio_fault, pio_issue, with_own_context}, declared.answer.Answered.Answered}
use Rattle.slots.specs.{declared.answer.SetupError.SetupError, Table.{IsIssue, IsContextOf, IsFresh, IsTable, waits_for}, Between.Owns}
use Rattle.slots.proofs.{StretchLemmas.few_first, MaskLemmas.none_below, TableLemmas.{Keeps, context_some, own_at, owned_own, owned_same, owns_where}}
use Rattle.slots.proofs.TableLemmas.{table_changed, table_with_issue, with_issue}

-- what is issued in a slot, if it is the device's and a test holds for it
pub record Found (test : Issue → Bool) (dev s : ℕ) (t : Slots) : Type 0 where
  pub issue : Issue
  pub at : issue_at t s ≡ Some issue
  pub own : issue.dev ≡ dev
  pub passes : test issue ≡ true

found_in : (test : Issue → Bool) (dev s : ℕ) (t : Slots) (o : Option Issue) → issue_at t s ≡ o → Owns dev o → holds test o ≡ true → Found test dev s t
found_in test dev s t None at own h = absurd (false≢true h)
found_in test dev s t (Some issue) at own h = record { issue = issue; at = at; own = own; passes = h }

pub found : (test : Issue → Bool) (dev s : ℕ) (t : Slots) → s < length t.issues → holds test (own_issue (slots_of dev t) s) ≡ true → Found test dev s t
found test dev s t lt h =
    let here : holds test (owned_by dev (issue_at t s)) ≡ true = ap (holds test) (sym (own_at dev t s lt)) ∙ h in
    let owns : Owns dev (issue_at t s) = owns_where test dev (issue_at t s) here in
    found_in test dev s t (issue_at t s) refl owns (ap (holds test) (sym (owned_same dev (issue_at t s) owns)) ∙ here)

same_found : (test : Issue → Bool) (dev s : ℕ) (t : Slots) (issue : Issue) → issue_at t s ≡ Some issue → s < length t.issues → holds test (own_issue (slots_of dev t) s) ≡ true → test issue ≡ true
same_found test dev s t issue at lt h =
    let f = found test dev s t lt h in
    let e : f.issue ≡ issue = cc (f.at, at) in
    ap test (sym e) ∙ f.passes

both_false : (b : Bool) → (b && false) ≡ true → ⊥
both_false true h = false≢true h
both_false false h = false≢true h

not_waiting : (issue : Issue) → is_waiting (answered_issue issue) ≡ true → ⊥
not_waiting issue h = both_false issue.sent h

pub table_answered : (dev s : ℕ) (t : Slots) (o d : Option Issue) → IsTable t → s < 32 → holds is_waiting (own_issue (slots_of dev t) s) ≡ true → holds is_queued_issue (own_issue (slots_of dev t) s) ≡ true
    → o ≡ option_map answered_issue (get_or t.issues s d) → IsTable (with_issue t s o)
table_answered dev s t o d is below waits queued e =
    let lt : s < length t.issues = omega (arith, is.slots) in
    let f = found is_waiting dev s t lt waits in
    let i = f.issue in
    let q : is_queued_issue i ≡ true = same_found is_queued_issue dev s t i f.at lt queued in
    let sent : i.sent ≡ true = (and_parts i.sent (not i.answered) f.passes).0 in
    let now : o ≡ Some (answered_issue i) = e ∙ ap (option_map answered_issue) (get_or_default t.issues s d None lt ∙ f.at) in
    let keeps : Keeps answered_issue i = record {
      owner = refl;
      rules = λ r. record { dev_below = r.dev_below; work = r.work; room = r.room; answers = λ _. (q, sent); few = r.few; controls = r.controls; unsent = r.unsent };
      context = λ n c r. record { of_dev = r.of_dev; fits = r.fits; next_dwords = r.next_dwords; left_dwords = r.left_dwords; fresh = r.fresh; room = r.room; way = r.way; goes = or_left (is_queued_issue i && true) (is_under_way i) (ap (λ (b : Bool). b && true) q); activates = r.activates };
    } in
    subst (λ (x : Option Issue). IsTable (with_issue t s x)) (sym now) (table_changed t s answered_issue i is below f.at keeps (λ r here. absurd (not_waiting i here)))

-- ---- issued

none_in : (dev : ℕ) (c : Context) (o : Option Issue) → o ≡ None → MatchOption o ⊥ (IsContextOf dev c) → ⊥
none_in dev c None e h = h
none_in dev c (Some i) e h = cc

never_waits : (d dev : ℕ) (work : Work) → holds is_waiting (owned_by d (Some (new_issue dev work))) ≡ true → ⊥
never_waits d dev work h =
    let own : dev ≡ d = owns_where is_waiting d (Some (new_issue dev work)) h in
    false≢true (ap (holds is_waiting) (sym (owned_own d (new_issue dev work) own)) ∙ h)

-- work is issued in a free slot
pub table_issued : (s dev : ℕ) (work : Work) (t : Slots) (o : Option Issue) → IsTable t → s < 32 → dev < 16 → IsWork work → issue_at t s ≡ None → o ≡ Some (new_issue dev work) → IsTable (with_issue t s o)
table_issued s dev work t o is below low fits free e =
    let i : IsIssue (new_issue dev work) = record {
      dev_below = low;
      work = fits;
      room = length-replicate (work.len / 4) false;
      answers = λ h. absurd (false≢true h);
      few = few_first work.len;
      controls = λ h. absurd (false≢true h);
      unsent = λ h. refl;
    } in
    let first : IsTable (with_issue t s (Some (new_issue dev work))) = table_with_issue t s (Some (new_issue dev work)) is below i
    (λ d c at same. absurd (none_in d c (issue_at t s) free (subst (λ (k : ℕ). MatchOption (issue_at t k) ⊥ (IsContextOf d c)) same (context_some t d c is at).1)))
    (λ d r here there. absurd (never_waits d dev work here)) in
    subst (λ (x : Option Issue). IsTable (with_issue t s x)) (sym e) first

-- ---- sent

sent_goes : (i : Issue) → (is_outstanding i || is_under_way i) ≡ true → (is_outstanding i || needs_all i.work.kind) ≡ true
sent_goes i h = elim (or_cases (is_outstanding i) (is_under_way i) h) [
  | inl o ↦ or_left (is_outstanding i) (needs_all i.work.kind) o
  | inr p ↦ or_right (is_outstanding i) (needs_all i.work.kind) (and_parts i.sent (needs_all i.work.kind) p).1
]

past_end : (dev : ℕ) (o : Option Issue) → o ≡ None → holds is_waiting (owned_by dev o) ≡ true → ⊥
past_end dev None e h = false≢true h
past_end dev (Some issue) e h = cc

-- no slot of the device waits
pub none_waits : (dev : ℕ) (t : Slots) (r : ℕ) → length t.issues ≡ 32 → waiting (slots_of dev t) ≡ None → waits_for dev t r ≡ true → ⊥
none_waits dev t r long h waits = elim (cases_lt r 32) [
  | inl lt ↦ false≢true (sym (ap (holds is_waiting) (sym (own_at dev t r (omega (arith, long)))) ∙ none_below (λ slot. holds is_waiting (own_issue (slots_of dev t) slot)) 32 h r lt) ∙ waits)
  | inr ge ↦ past_end dev (issue_at t r) (get_or_past t.issues r None (omega (arith, long))) waits
]

pub table_sent : (s : ℕ) (t : Slots) (i : Issue) (o d : Option Issue) → IsTable t → s < 32 → issue_at t s ≡ Some i → is_control i.work.kind ≡ false → waiting (slots_of i.dev t) ≡ None
    → o ≡ option_map sent_issue (get_or t.issues s d) → IsTable (with_issue t s o)
table_sent s t i o d is below at kind alone e =
    let lt : s < length t.issues = omega (arith, is.slots) in
    let now : o ≡ Some (sent_issue i) = e ∙ ap (option_map sent_issue) (get_or_default t.issues s d None lt ∙ at) in
    let keeps : Keeps sent_issue i = record {
      owner = refl;
      rules = λ r. record { dev_below = r.dev_below; work = r.work; room = r.room; answers = λ h. ((r.answers h).0, refl); few = r.few; controls = λ _. kind; unsent = λ h. absurd (false≢true (sym h)) };
      context = λ n c r. record { of_dev = r.of_dev; fits = r.fits; next_dwords = r.next_dwords; left_dwords = r.left_dwords; fresh = r.fresh; room = r.room; way = r.way; goes = sent_goes i r.goes; activates = r.activates };
    } in
    subst (λ (x : Option Issue). IsTable (with_issue t s x)) (sym now) (table_changed t s sent_issue i is below at keeps (λ r here there. absurd (none_waits i.dev t r is.slots alone there)))

pub table_sent_at : (dev s : ℕ) (t : Slots) (at o d : Option Issue) → IsTable t → s < 32 → issue_at t s ≡ at → MatchOption at ⊥ (λ issue. (issue.dev ≡ dev) × (is_control issue.work.kind ≡ false)) → waiting (slots_of dev t) ≡ None
    → o ≡ option_map sent_issue (get_or t.issues s d) → IsTable (with_issue t s o)
table_sent_at dev s t None o d is below e h alone ends = absurd h
table_sent_at dev s t (Some i) o d is below e h alone ends = table_sent s t i o d is below e h.1 (ap (λ (n : ℕ). waiting (slots_of n t)) h.0 ∙ alone) ends

pub owns_sent : (dev : ℕ) (o : Option Issue) → MatchOption o ⊥ (λ issue. (issue.dev ≡ dev) × (is_control issue.work.kind ≡ false)) → Owns dev o
owns_sent dev None h = h
owns_sent dev (Some i) h = h.0

-- ---- a slot that goes out

own_is : (s : ℕ) (t : Slots) (i : Issue) → s < length t.issues → issue_at t s ≡ Some i → own_issue (slots_of i.dev t) s ≡ Some i
own_is s t i lt at = own_at i.dev t s lt ∙ ap (owned_by i.dev) at ∙ owned_own i.dev i refl

control_of : (s : ℕ) (t : Slots) (i : Issue) (b : Bool) → s < length t.issues → issue_at t s ≡ Some i → is_control i.work.kind ≡ b → holds (λ issue. is_control issue.work.kind) (own_issue (slots_of i.dev t) s) ≡ b
control_of s t i b lt at h = ap (holds (λ issue. is_control issue.work.kind)) (own_is s t i lt at) ∙ h

control_by : (s : ℕ) (t u : Slots) (i : Issue) (h : Issued) → s < length t.issues → issue_at t s ≡ Some i → issued_of i ≡ h → is_control h.work.kind ≡ true
    → slots_of h.dev u ≡ freed (is_slot s) (slots_of h.dev t) → slots_of i.dev u ≡ after_sent (slots_of i.dev t) s
control_by s t u i h lt at is kind own =
    let d : h.dev ≡ i.dev = ap (λ (x : Issued). x.dev) (sym is) in
    let k : is_control i.work.kind ≡ true = ap (λ (x : Issued). is_control x.work.kind) is ∙ kind in
    subst (λ (n : ℕ). slots_of n u ≡ freed (is_slot s) (slots_of n t)) d own ∙ sym (cond-true (holds (λ issue. is_control issue.work.kind) (own_issue (slots_of i.dev t) s)) _ _ (control_of s t i true lt at k))

other_by : (s : ℕ) (t u : Slots) (i : Issue) (h : Issued) → s < length t.issues → issue_at t s ≡ Some i → issued_of i ≡ h → is_control h.work.kind ≡ false
    → slots_of h.dev u ≡ begun s h.work (with_sent (slots_of h.dev t) s) → slots_of i.dev u ≡ after_sent (slots_of i.dev t) s
other_by s t u i h lt at is kind own =
    let d : h.dev ≡ i.dev = ap (λ (x : Issued). x.dev) (sym is) in
    let w : h.work ≡ i.work = ap (λ (x : Issued). x.work) (sym is) in
    let k : is_control i.work.kind ≡ false = ap (λ (x : Issued). is_control x.work.kind) is ∙ kind in
    let mine : DeviceSlots = slots_of i.dev t in
    subst (λ (n : ℕ). slots_of n u ≡ begun s h.work (with_sent (slots_of n t) s)) d own
    ∙ ap (λ (x : Work). begun s x (with_sent mine s)) w
    ∙ sym (ap (λ (o : Option Issue). match_some o (with_sent mine s) (λ issue. begun s issue.work (with_sent mine s))) (own_is s t i lt at))
    ∙ sym (cond-false (holds (λ issue. is_control issue.work.kind) (own_issue mine s)) _ _ (control_of s t i false lt at k))

head_is : (i : Issue) (h : Issued) → option_map issued_of (Some i) ≡ Some h → issued_of i ≡ h
head_is i h e = cc

pub sent_control : (s : ℕ) (t u : Slots) (o : Option Issue) (h : Issued) → s < length t.issues → issue_at t s ≡ o → option_map issued_of o ≡ Some h → is_control h.work.kind ≡ true
    → slots_of h.dev u ≡ freed (is_slot s) (slots_of h.dev t) → IfSome o (λ issue. slots_of issue.dev u ≡ after_sent (slots_of issue.dev t) s)
sent_control s t u None h lt at is kind own = tt
sent_control s t u (Some i) h lt at is kind own = control_by s t u i h lt at (head_is i h is) kind own

pub sent_other : (s : ℕ) (t u : Slots) (o : Option Issue) (h : Issued) → s < length t.issues → issue_at t s ≡ o → option_map issued_of o ≡ Some h → is_control h.work.kind ≡ false
    → slots_of h.dev u ≡ begun s h.work (with_sent (slots_of h.dev t) s) → IfSome o (λ issue. slots_of issue.dev u ≡ after_sent (slots_of issue.dev t) s)
sent_other s t u None h lt at is kind own = tt
sent_other s t u (Some i) h lt at is kind own = other_by s t u i h lt at (head_is i h is) kind own

-- what was sent now is fresh
fresh_own : (s : ℕ) (t u : Slots) (i : Issue) (h : Issued) → IsTable t → s < 32 → issue_at t s ≡ Some i → issued_of i ≡ h → i.sent ≡ false → slots_of h.dev u ≡ with_sent (slots_of h.dev t) s
    → MatchOption (own_issue (slots_of h.dev u) s) ⊥ (IsFresh h.work)
fresh_own s t u i h table below at is unsent own =
    let d : i.dev ≡ h.dev = ap (λ (x : Issued). x.dev) is in
    let lt : s < length t.issues = omega (arith, below, table.slots) in
    let mine : DeviceSlots = slots_of h.dev t in
    let before : own_issue mine s ≡ Some i = subst (λ (n : ℕ). own_issue (slots_of n t) s ≡ Some i) d (own_is s t i lt at) in
    let long : s < length mine.issues = omega (arith, lt, length-map t.issues (owned_by h.dev)) in
    let after : own_issue (slots_of h.dev u) s ≡ Some (sent_issue i) =
    ap (λ (o : DeviceSlots). own_issue o s) own ∙ get_or-set_same mine.issues s (option_map sent_issue (own_issue mine s)) None long ∙ ap (option_map sent_issue) before in
    let r : IsIssue i = subst (λ (o : Option Issue). MatchOption o (Unit {0}) IsIssue) at (table.issues s) in
    let it : IsFresh h.work (sent_issue i) = record { of_work = ap (λ (x : Issued). x.work) is; sent = refl; none = r.unsent unsent } in
    subst (λ (o : Option Issue). MatchOption o ⊥ (IsFresh h.work)) (sym after) it

pub fresh_sent : (s : ℕ) (t u : Slots) (o : Option Issue) (h : Issued) → IsTable t → s < 32 → issue_at t s ≡ o → option_map issued_of o ≡ Some h
    → MatchOption o ⊥ (λ issue. (issue.sent ≡ false) × (is_control issue.work.kind ≡ false → waiting (slots_of issue.dev t) ≡ None)) → slots_of h.dev u ≡ with_sent (slots_of h.dev t) s
    → MatchOption (own_issue (slots_of h.dev u) s) ⊥ (IsFresh h.work)
fresh_sent s t u None h table below at is may own = absurd may
fresh_sent s t u (Some i) h table below at is may own = fresh_own s t u i h table below at (head_is i h is) may.0 own

-- ---- the next slot

is_none_is : (o : Option ℕ) → is_none o ≡ true → o ≡ None
is_none_is None h = refl
is_none_is (Some n) h = absurd (false≢true h)

may_be_sent_at : (ready faulty : ℕ) (t : Slots) (o : Option Issue) → holds (may_go ready faulty t) o ≡ true → MatchOption o ⊥ (λ issue. (issue.sent ≡ false) × (is_control issue.work.kind ≡ false → waiting (slots_of issue.dev t) ≡ None))
may_be_sent_at ready faulty t None h = absurd (false≢true h)
may_be_sent_at ready faulty t (Some i) h =
    let both = and_parts (not i.sent && not (has_bit faulty i.dev)) (is_control i.work.kind || has_bit ready i.dev && is_none (waiting (slots_of i.dev t)) && may_begin (slots_of i.dev t) i) h in
    let first = and_parts (not i.sent) (not (has_bit faulty i.dev)) both.0 in (
      not-true i.sent first.0,
      λ kind. elim (or_cases (is_control i.work.kind) (has_bit ready i.dev && is_none (waiting (slots_of i.dev t)) && may_begin (slots_of i.dev t) i) both.1) [
        | inl control ↦ absurd (false≢true (sym kind ∙ control))
        | inr idle ↦
            let first = (and_parts (has_bit ready i.dev && is_none (waiting (slots_of i.dev t))) (may_begin (slots_of i.dev t) i) idle).0 in
            is_none_is (waiting (slots_of i.dev t)) (and_parts (has_bit ready i.dev) (is_none (waiting (slots_of i.dev t))) first).1
      ],
    )

pub may_be_sent : (ready faulty s : ℕ) (t : Slots) → holds (may_go ready faulty t) (issue_at t s) ≡ true → MayBeSent t s
may_be_sent ready faulty s t h = may_be_sent_at ready faulty t (issue_at t s) h

pub may_go_is : (ready faulty : ℕ) (t : Slots) (o : Option Issue) (h : Issued) → option_map issued_of o ≡ Some h → may_go ready faulty t (with_flags h []) ≡ holds (may_go ready faulty t) o
may_go_is ready faulty t None h e = cc
may_go_is ready faulty t (Some i) h e = ap (λ (x : Issued). may_go ready faulty t (with_flags x [])) (sym (head_is i h e))

-- ---- a free slot

none_from : (o : Option Issue) → is_some (option_map issued_of o) ≡ false → o ≡ None
none_from None h = refl
none_from (Some issue) h = cc

pub free_slot : (issues : List (Option Issue)) (slot : ℕ) (d : Option Issue) → slot < length issues → is_some (option_map issued_of (get_or issues slot d)) ≡ false → get_or issues slot None ≡ None
free_slot issues slot d within free = get_or_default issues slot None d within ∙ none_from (get_or issues slot d) free

-- ---- the slot that was found

-- what a test found is the issue of the slot
own_found : (test : Issue → Bool) (dev s : ℕ) (t : Slots) (o : Option Issue) → o ≡ issue_at t s → s < length t.issues → holds test (own_issue (slots_of dev t) s) ≡ true → own_issue (slots_of dev t) s ≡ o
own_found test dev s t o is lt h =
    let owns : Owns dev (issue_at t s) = owns_where test dev (issue_at t s) (ap (holds test) (sym (own_at dev t s lt)) ∙ h) in
    own_at dev t s lt ∙ owned_same dev (issue_at t s) owns ∙ sym is

pub answer_is : (dev s : ℕ) (t : Slots) (o : Option Issue) → o ≡ issue_at t s → s < length t.issues → waiting (slots_of dev t) ≡ Some s → holds is_waiting (own_issue (slots_of dev t) s) ≡ true
    → answer_of (slots_of dev t) ≡ match_some o Answered.Nobody (answer_for s)
answer_is dev s t o is lt first waits =
    let own : DeviceSlots = slots_of dev t in
    ap (λ (m : Option ℕ). match_some m Answered.Nobody (λ slot. match_some (own_issue own slot) Answered.Nobody (answer_for slot))) first
    ∙ ap (λ (o : Option Issue). match_some o Answered.Nobody (answer_for s)) (own_found is_waiting dev s t o is lt waits)

pub pio_issue_is : (dev s : ℕ) (t : Slots) (o : Option Issue) → o ≡ issue_at t s → s < length t.issues → sent_pio (slots_of dev t) ≡ Some s → holds is_sent_pio (own_issue (slots_of dev t) s) ≡ true → pio_issue (slots_of dev t) ≡ o
pio_issue_is dev s t o is lt first h =
    let own : DeviceSlots = slots_of dev t in
    let none : Option Issue = None in
    ap (λ (m : Option ℕ). match_some m none (own_issue own)) first ∙ own_found is_sent_pio dev s t o is lt h

pub pio_set_up : (dev s count : ℕ) (to_host : Bool) (t : Slots) (o : Option Issue) → o ≡ issue_at t s → s < length t.issues → sent_pio (slots_of dev t) ≡ Some s → holds is_sent_pio (own_issue (slots_of dev t) s) ≡ true
    → pio_fault (pio_issue (slots_of dev t)) count to_host ≡ None → after_setup_pio (slots_of dev t) count to_host ≡ with_own_context (slots_of dev t) (new_context s (match_some o 0 came) count to_host)
pio_set_up dev s count to_host t o is lt first h fault =
    let own : DeviceSlots = slots_of dev t in
    let f = found is_sent_pio dev s t lt h in
    let own_is_it : own_issue own s ≡ Some f.issue = own_at dev t s lt ∙ ap (owned_by dev) f.at ∙ owned_own dev f.issue f.own in
    let at : Some f.issue ≡ o = sym f.at ∙ sym is in
    let set : ℕ → Issue → DeviceSlots = λ slot issue. with_own_context own (new_context slot (came issue) count to_host) in
    let ok : DeviceSlots = match_some (sent_pio own) own (λ slot. match_some (own_issue own slot) own (set slot)) in
    cond-false (is_some (pio_fault (pio_issue own) count to_host)) own ok (ap is_some fault)
    ∙ ap (λ (m : Option ℕ). match_some m own (λ slot. match_some (own_issue own slot) own (set slot))) first
    ∙ ap (λ (o : Option Issue). match_some o own (set s)) own_is_it
    ∙ ap (λ (o : Option Issue). with_own_context own (new_context s (match_some o 0 came) count to_host)) at

pub pio_whole : (dev s : ℕ) (t : Slots) (o : Option Issue) → o ≡ issue_at t s → s < length t.issues → sent_pio (slots_of dev t) ≡ Some s → holds is_sent_pio (own_issue (slots_of dev t) s) ≡ true → holds is_whole_issue o ≡ true
    → whole_pio (slots_of dev t) ≡ Some s
pio_whole dev s t o is lt first h whole =
    let own : DeviceSlots = slots_of dev t in
    let none : Option ℕ = None in
    ap (λ (m : Option ℕ). match_some m none (λ slot. cond (holds is_whole_issue (own_issue own slot)) (Some slot) none)) first
    ∙ ap (λ (b : Bool). cond b (Some s) none) (ap (holds is_whole_issue) (own_found is_sent_pio dev s t o is lt h) ∙ whole)

pub pio_refused : (dev count : ℕ) (to_host : Bool) (t : Slots) (fault : SetupError) → pio_fault (pio_issue (slots_of dev t)) count to_host ≡ Some fault → slots_of dev t ≡ after_setup_pio (slots_of dev t) count to_host
pio_refused dev count to_host t fault h = sym (cond-true (is_some (pio_fault (pio_issue (slots_of dev t)) count to_host)) (slots_of dev t) _ (ap is_some h))

-- ---- what is not there

pub nobody : (P : Issue → Type 0) (o : Option Issue) → option_map issued_of o ≡ None → IfSome o P
nobody P None e = tt
nobody P (Some i) e = absurd (cc)

pub owned_there : (o : Option Issue) (h : Issued) → option_map issued_of o ≡ Some h → IsSome (owned_by h.dev o)
owned_there None h e = absurd (cc)
owned_there (Some i) h e = subst (λ (x : Option Issue). IsSome x) (sym (owned_own h.dev i (ap (λ (x : Issued). x.dev) (head_is i h e)))) refl

pub dev_below : (s : ℕ) (t : Slots) (o : Option Issue) (h : Issued) → IsTable t → issue_at t s ≡ o → option_map issued_of o ≡ Some h → h.dev < 16
dev_below s t None h is at e = absurd (cc)
dev_below s t (Some i) h is at e =
    let r : IsIssue i = subst (λ (o : Option Issue). MatchOption o (Unit {0}) IsIssue) at (is.issues s) in
    subst (λ (x : Issued). x.dev < 16) (head_is i h e) r.dev_below

pub other_there : (o : Option Issue) (h : Issued) → option_map issued_of o ≡ Some h → is_control h.work.kind ≡ false → MatchOption o ⊥ (λ issue. (issue.dev ≡ h.dev) × (is_control issue.work.kind ≡ false))
other_there None h e kind = absurd (cc)
other_there (Some i) h e kind =
    (ap (λ (x : Issued). x.dev) (head_is i h e), ap (λ (x : Issued). is_control x.work.kind) (head_is i h e) ∙ kind)

pub alone_there : (t : Slots) (o : Option Issue) (h : Issued) → option_map issued_of o ≡ Some h → is_control h.work.kind ≡ false
    → MatchOption o ⊥ (λ issue. (issue.sent ≡ false) × (is_control issue.work.kind ≡ false → waiting (slots_of issue.dev t) ≡ None)) → waiting (slots_of h.dev t) ≡ None
alone_there t None h e kind may = absurd may
alone_there t (Some i) h e kind may =
    let same = head_is i h e in
    subst (λ (x : Issued). waiting (slots_of x.dev t) ≡ None) same (may.1 (ap (λ (x : Issued). is_control x.work.kind) same ∙ kind))

-- ---- the PIO data-out

abbrev no_slot : Option ℕ
no_slot = None

if_there : (b : Bool) (s : ℕ) → cond b (Some s) no_slot ≡ then_some b s
if_there true s = refl
if_there false s = refl

pub out_is : (dev s : ℕ) (t : Slots) (o : Option Issue) → o ≡ issue_at t s → s < length t.issues → waiting (slots_of dev t) ≡ Some s → holds is_waiting (own_issue (slots_of dev t) s) ≡ true
    → sent_out (slots_of dev t) ≡ then_some (holds is_out_issue o) s
out_is dev s t o is lt first waits =
    let own : DeviceSlots = slots_of dev t in
    let none : Option ℕ = None in
    ap (λ (m : Option ℕ). match_some m none (λ slot. cond (holds is_out_issue (own_issue own slot)) (Some slot) none)) first
    ∙ ap (λ (o : Option Issue). cond (holds is_out_issue o) (Some s) none) (own_found is_waiting dev s t o is lt waits)
    ∙ if_there (holds is_out_issue o) s

pub some_below : (b : Bool) (s : ℕ) (o : Option ℕ) → o ≡ then_some b s → s < 32 → IfSome o (λ slot. slot < 32)
some_below true s o e lt = subst (λ (x : Option ℕ). IfSome x (λ slot. slot < 32)) (sym e) lt
some_below false s o e lt = subst (λ (x : Option ℕ). IfSome x (λ slot. slot < 32)) (sym e) tt

pub out_gone : (own : DeviceSlots) → waiting own ≡ None → sent_out own ≡ None
out_gone own h = ap (λ (m : Option ℕ). match_some m no_slot (λ slot. cond (holds is_out_issue (own_issue own slot)) (Some slot) no_slot)) h

-- ---- the PIO data-in

pub pio_none : (own : DeviceSlots) (count : ℕ) (to_host : Bool) → sent_pio own ≡ None → pio_fault (pio_issue own) count to_host ≡ Some SetupError.NotOutstanding
pio_none own count to_host h =
    let none : Option Issue = None in
    ap (λ (m : Option ℕ). pio_fault (match_some m none (own_issue own)) count to_host) h

pub none_whole : (own : DeviceSlots) → sent_pio own ≡ None → whole_pio own ≡ None
none_whole own h = ap (λ (m : Option ℕ). match_some m no_slot (λ slot. cond (holds is_whole_issue (own_issue own slot)) (Some slot) no_slot)) h

pub pio_missing : (dev s : ℕ) (t : Slots) (o : Option Issue) → o ≡ issue_at t s → s < length t.issues → sent_pio (slots_of dev t) ≡ Some s → holds is_sent_pio (own_issue (slots_of dev t) s) ≡ true → holds is_whole_issue o ≡ false
    → whole_pio (slots_of dev t) ≡ None
pio_missing dev s t o is lt first h missing =
    let own : DeviceSlots = slots_of dev t in
    ap (λ (m : Option ℕ). match_some m no_slot (λ slot. cond (holds is_whole_issue (own_issue own slot)) (Some slot) no_slot)) first
    ∙ ap (λ (b : Bool). cond b (Some s) no_slot) (ap (holds is_whole_issue) (own_found is_sent_pio dev s t o is lt h) ∙ missing)

pub pio_stays : (own : DeviceSlots) → whole_pio own ≡ None → own ≡ after_pio_done own
pio_stays own h = sym (ap (λ (o : Option ℕ). match_some o own (λ slot. freed (is_slot slot) own)) h)

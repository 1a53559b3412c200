-- No call of the core but an issue fills a slot.
use Rattle.std.proofs.Common.{◌≡◌, ◌≢◌, ℕ, ◌<◌, Bool, true, false, cond, List, get_or, set, length, replicate, refl, sym, ◌∙◌, ap, subst, inl, inr}
use Rattle.std.proofs.{Common.{Option, Some, None, arith, get_or-set_same, get_or-set_other, length-set}, lemmas.Bool.{cases_eq, cases_lt, eq-eqb}}
use Rattle.std.proofs.lemmas.List.{get_or-replicate, get_or_past, length-replicate}
use Rattle.std.specs.{Prelude.{MatchOption, if◌then◌else◌}, Option.option_map}
use Rattle.slots.specs.{Commands.{after_sent, is_slot, sent_issue, with_sent}, Data.{after_payload, gone_over, moved_over, payload_len}, Setup.begun}
use Rattle.slots.specs.{Setup.{whole_context, with_own_context}, Slots.{DeviceSlots, Issue, KeepsFree, Slots, freed, holds, is_control, issue_at}}
use Rattle.slots.specs.{Slots.{issues_unless, match_some, no_own_slots, own_issue, owned_by, slots_of, with_own_issue}, Table.{IsIssue, IsTable}}
use Rattle.slots.specs.{Work.is_dma, declared.table.Context.Context}
use Rattle.slots.proofs.Door.{get-unless, length-unless}
use Rattle.hba_commands.specs.declared.command.Command.{Command}
use Rattle.hba_fbs.specs.{Choosing.{Chooses, GoesTo}, Offering.{AcceptsBy, Offer, view_by}, Registers.falls, Sending.{view_fed, view_sent}}
use Rattle.hba_fbs.specs.{Stopping.{SetsCmd, fallen_view}, Views.{DeviceView, LeavesOtherViews, Port, stopped_view, view_of}, Writing.cleared_by}
use Rattle.hba_fbs.specs.{Writing.is_device, declared.{register.Register.{Register, TheVariants.{Fbs, Is, Sact, Serr, Sntf}}, turn.Turn.Turn}}
use Rattle.hba_fbs.specs.declared.turn.Turn.TheVariants.{Feeds, Orders, Rests}
use Rattle.hba_fbs.proofs.Door.{own_at}

-- ---- one device

-- no free slot of it is filled
abbrev pub StaysFree : DeviceSlots → DeviceSlots → Type 0
StaysFree old new = (slot : ℕ) → own_issue old slot ≡ None → own_issue new slot ≡ None

either_free : (own x y : DeviceSlots) (b : Bool) → StaysFree own x → StaysFree own y → StaysFree own (if b then x else y)
either_free own x y true p q = p
either_free own x y false p q = q

set_free : (xs : List (Option Issue)) (i s : ℕ) (o : Option Issue) → (s ≡ i → o ≡ None) → get_or xs s None ≡ None → get_or (set xs i o) s None ≡ None
set_free xs i s o own h =
    elim (cases_eq s i) [
      | inr ne ↦ get_or-set_other xs i s o None ne ∙ h
      | inl e ↦ elim (cases_lt i (length xs)) [
        | inl lt ↦ ap (λ (k : ℕ). get_or (set xs i o) k None) e ∙ get_or-set_same xs i o None lt ∙ own e
        | inr ge ↦ ap (λ (k : ℕ). get_or (set xs i o) k None) e ∙ get_or_past (set xs i o) i None (rw (length-set xs i o) ge)
      ]
    ]

changed_free : (own : DeviceSlots) (i : ℕ) (f : Issue → Issue) → StaysFree own (with_own_issue own i (option_map f (own_issue own i)))
changed_free own i f = λ slot h. set_free own.issues i slot (option_map f (own_issue own i)) (λ e. ap (option_map f) (ap (own_issue own) (sym e) ∙ h)) h

none_if : (b : Bool) (o : Option Issue) → o ≡ None → cond b None o ≡ None
none_if true o h = refl
none_if false o h = h

freed_free : (own : DeviceSlots) (f : ℕ → Bool) → StaysFree own (freed f own)
freed_free own f = λ slot h.
    elim (cases_lt slot (length own.issues)) [
      | inl lt ↦ get-unless f own.issues slot None lt ∙ none_if (f slot) (own_issue own slot) h
      | inr ge ↦ get_or_past (issues_unless f own.issues) slot None (rw (length-unless f own.issues) ge)
    ]

begun_free : (own middle : DeviceSlots) (slot : ℕ) (o : Option Issue) → StaysFree own middle → StaysFree own (match_some o middle (λ issue. begun slot issue.work middle))
begun_free own middle slot None keeps = keeps
begun_free own middle slot (Some issue) keeps = either_free own (with_own_context middle (whole_context slot issue.work)) middle (is_dma issue.work.kind) keeps keeps

sent_free : (own : DeviceSlots) (slot : ℕ) → StaysFree own (after_sent own slot)
sent_free own slot =
    either_free own (freed (is_slot slot) own) _ (holds (λ issue. is_control issue.work.kind) (own_issue own slot)) (freed_free own (is_slot slot))
    (begun_free own (with_sent own slot) slot (own_issue own slot) (changed_free own slot sent_issue))

fed_by : (own : DeviceSlots) (o : Option Context) → StaysFree own (match_some o own (λ c. gone_over (payload_len c) c own))
fed_by own None = λ slot h. h
fed_by own (Some c) = changed_free own c.slot (moved_over c.next (payload_len c))

fed_free : (own : DeviceSlots) → StaysFree own (after_payload own)
fed_free own = fed_by own own.context

none_free : (own : DeviceSlots) → StaysFree own no_own_slots
none_free own = λ slot h. elim (cases_lt slot 32) [
  | inl lt ↦ get_or-replicate 32 slot None None lt
  | inr ge ↦ get_or_past (replicate 32 None) slot None (let long = length-replicate 32 no_issue in omega (arith, long, ge))
]
  where
    no_issue : Option Issue
    no_issue = None

-- ---- all of them

owned_by_self : (i : Issue) → owned_by i.dev (Some i) ≡ Some i
owned_by_self i = rw (eq-eqb i.dev i.dev refl) refl

-- a slot that is free in each device's part is free
pub free_at : (old new : Port) (slot : ℕ) → IsTable new.slots → ((n : ℕ) → n < 16 → own_issue (slots_of n old.slots) slot ≡ None → own_issue (slots_of n new.slots) slot ≡ None) → issue_at old.slots slot ≡ None → issue_at new.slots slot ≡ None
free_at old new slot ok parts free = by (issue_at new.slots slot) refl
  where
    by : (o : Option Issue) → issue_at new.slots slot ≡ o → issue_at new.slots slot ≡ None
    by None is = is
    by (Some i) is =
        let issue : IsIssue i = subst (λ (o : Option Issue). MatchOption o (Unit {0}) IsIssue) is (ok.issues slot) in
        let gone : own_issue (slots_of i.dev new.slots) slot ≡ None = parts i.dev issue.dev_below (own_at i.dev old.slots slot ∙ ap (owned_by i.dev) free) in
        let here : own_issue (slots_of i.dev new.slots) slot ≡ Some i = own_at i.dev new.slots slot ∙ ap (owned_by i.dev) is ∙ owned_by_self i in
        cc (gone, here)

pub from_views : (old new : Port) → IsTable new.slots → ((n : ℕ) → n < 16 → StaysFree (view_of n old).slots (view_of n new).slots) → KeepsFree old.slots new.slots
from_views old new ok views slot free = free_at old new slot ok (λ n below. views n below slot) free

-- a device's view is this, and the others stay
one_view : (old new : Port) (dev : ℕ) (view : DeviceView) → IsTable new.slots → view_of dev new ≡ view → LeavesOtherViews dev old new → StaysFree (view_of dev old).slots view.slots → KeepsFree old.slots new.slots
one_view old new dev view ok own others keeps = from_views old new ok (λ n below. elim (cases_eq n dev) [
  | inl same ↦
      let here : StaysFree (view_of dev old).slots (view_of dev new).slots = subst (λ (v : DeviceView). StaysFree (view_of dev old).slots v.slots) (sym own) keeps in
      subst (λ (k : ℕ). StaysFree (view_of k old).slots (view_of k new).slots) (sym same) here
  | inr ne ↦ subst (λ (v : DeviceView). StaysFree (view_of n old).slots v.slots) (sym (others n ne)) (λ slot h. h)
])

same_slots : (old new : Port) → new.slots ≡ old.slots → KeepsFree old.slots new.slots
same_slots old new same = λ slot h. ap (λ (t : Slots). issue_at t slot) same ∙ h

pub same_free : (old new : Port) → new ≡ old → KeepsFree old.slots new.slots
same_free old new same = same_slots old new (ap (λ (p : Port). p.slots) same)

pub slots_free : (old new : Port) → new.slots ≡ old.slots → KeepsFree old.slots new.slots
slots_free = same_slots

pub chosen_free : (turn : Turn) (old new : Port) → IsTable new.slots → Chooses turn old new → KeepsFree old.slots new.slots
chosen_free Rests old new ok h = same_free old new h
chosen_free (Feeds dev slot offset len) old new ok h = one_view old new dev (view_fed (view_of dev old)) ok h.own h.others (fed_free (view_of dev old).slots)
chosen_free (Orders dev slot command) old new ok h = one_view old new dev (view_sent (view_of dev old) slot command) ok h.own h.others (sent_free (view_of dev old).slots slot)

either_view : (own : DeviceSlots) (b : Bool) (v w : DeviceView) → StaysFree own v.slots → StaysFree own w.slots → StaysFree own (if b then v else w).slots
either_view own true v w p q = p
either_view own false v w p q = q

pub set_cmd_free : (value : ℕ) (old new : Port) → IsTable new.slots → SetsCmd old value new → KeepsFree old.slots new.slots
set_cmd_free value old new ok h = from_views old new ok (λ n below.
    subst (λ (v : DeviceView). StaysFree (view_of n old).slots v.slots) (sym (h.views n below))
    (either_view (view_of n old).slots (falls old.registers value) (fallen_view (view_of n old)) (view_of n old) (none_free (view_of n old).slots) (λ slot k. k)))

-- a write to a register of the core that issues nothing
abbrev pub StaysNone : Register → Type 0
StaysNone register = (old : Port) (offer : Offer) (value n : ℕ) → StaysFree (view_of n old).slots (view_by register old offer value n).slots

pub is_none : StaysNone Is
unfolding view_by
is_none old offer value n slot h = h

pub serr_none : StaysNone Serr
unfolding view_by
serr_none old offer value n slot h = h

pub sact_none : StaysNone Sact
unfolding view_by
sact_none old offer value n slot h = h

pub sntf_none : StaysNone Sntf
unfolding view_by
sntf_none old offer value n slot h = h

pub fbs_none : StaysNone Fbs
unfolding view_by
fbs_none old offer value n = either_view (view_of n old).slots (is_device n (cleared_by old.errors value)) (stopped_view (view_of n old)) (view_of n old) (none_free (view_of n old).slots) (λ slot h. h)

pub accepted_free : (register : Register) (offer : Offer) (value : ℕ) (old new : Port) → StaysNone register → IsTable new.slots → AcceptsBy old offer register value new → KeepsFree old.slots new.slots
accepted_free register offer value old new none ok h = from_views old new ok (λ n below.
    subst (λ (v : DeviceView). StaysFree (view_of n old).slots v.slots) (sym (h.views n below)) (none old offer value n))

-- Over each stretch of a run: as many queued commands are sent from a slot as its bit of PxSACT falls, and one more where one that was sent stands.
use Rattle.std.proofs.Common.{◌≡◌, ℕ, ◌+◌, ◌<◌, ◌≤◌, ◌&&◌, Bool, true, false, not, List, [], ◌∷◌, append-nil, refl, sym, ap, subst, ◌∙◌, arith}
use Rattle.std.proofs.{Common.{Option, Some, None}, lemmas.Bool.{and_parts, eqb-true, false≢true}}
use Rattle.std.specs.{Prelude.{◌==◌, MatchOption}, Option.option_map}
use Rattle.slots.specs.{Commands.{sent_issue, slots_where}, Slots.{Issue, has_bit, holds, is_queued_issue, issue_at, own_issue}, Table.IsIssue}
use Rattle.ahci_registers.specs.declared.register.Register.TheVariants.{PxSact}
use Rattle.hba_fbs.specs.Views.{view_of}
use Rattle.hba_laws.specs.Cores.{CoreEvent}
use Rattle.hba_laws.proofs.Door.{held, own_here}
use Rattle.ahci_controller.specs.{Reading.shown, States.ControllerState}
use Rattle.ahci_controller.specs.declared.next.Next.TheVariants as next
use Rattle.ahci_controller.proofs.Door.{or_none, or_right}
use Rattle.controller_laws.specs.{CoreEvents.{AreCoreEvents, EventsAreCoreEvents, of_event}, Ends.AreTold, Events.{Does as Calls, Event}}
use Rattle.controller_laws.specs.Events.{IsController, Runs}
use Rattle.controller_laws.specs.Events as call
use Rattle.ahci_machine.specs.States.{HasRules, MachineState}
use Rattle.machine_laws.specs.{ControllerLaws.{OpensLawful, RunsRuled}, Controllers.{ControllerGoesOn, GathersDue, StaysDue, deed_calls}, Deeds.Deed}
use Rattle.machine_theorem.specs.{Commands.issues_in, Orders.{CommandsAreSentOnce, are_ordered, fallen_in, is_fallen, is_ordered, is_queued_of}}
use Rattle.machine_theorem.specs.{Orders.{is_sent_of, ordered_in, standing_in}, Tags.once_if}
use Rattle.machine_theorem.proofs.{Armed.{IsBare, queued_bit, sact_is, stays_bare, there_of}, CoreStems.call_stems, Few.{AreFew, are_few}}
use Rattle.machine_theorem.proofs.{OrderedOnce.{IsOrderedOnce, ordered_once, queued_kind}, Stems.Stems, Stood.is_placed, Unread.is_alone}

pub record Laws : Type 0 where
  pub opens : OpensLawful
  pub due : StaysDue
  pub goes : ControllerGoesOn
  pub events : EventsAreCoreEvents

-- while a queued command is issued in the slot, its bit of PxSACT shows nothing but that
abbrev IsApart : ℕ → ControllerState → Type 0
IsApart s c = holds is_queued_issue (issue_at c.core.slots s) ≡ true → IsBare s c.core

-- ---- one call

kind_of : (i j : Issue) → j.work ≡ i.work → is_queued_issue j ≡ is_queued_issue i
kind_of i j e = ap (λ w. is_queued_issue (record j { work = w })) e

holds_is : (test : Issue → Bool) (o : Option Issue) (i : Issue) → o ≡ Some i → test i ≡ true → holds test o ≡ true
holds_is test o i e h = ap (holds test) e ∙ h

-- a queued command that is there and was not issued now was there
stood_before : (s : ℕ) (old new : ControllerState) → Stems (issue_at old.core.slots s) (issue_at new.core.slots s) → holds is_queued_issue (issue_at new.core.slots s) ≡ true
    → holds is_queued_issue (issue_at old.core.slots s) ≡ true
stood_before s old new stems queued =
    let it = held is_queued_issue (issue_at new.core.slots s) queued in
    let stem = stems it.0 it.1 in
    holds_is is_queued_issue (issue_at old.core.slots s) stem.issue stem.was (sym (kind_of stem.issue it.0 stem.work) ∙ it.2)

stays_apart : (e : Event) (s : ℕ) (old new : ControllerState) → IsController old → s < 32 → (does : Calls old e new) → AreCoreEvents old.core (of_event old e new does) new.core
    → (b : Bool) → issues_in s e ≡ b → IsApart s old → IsApart s new
stays_apart e s old new k below does are true is was queued = (is_placed e s old new below does is).armed queued
stays_apart e s old new k below does are false is was queued =
    let before = stood_before s old new (call_stems e s old new does below are is) queued in
    stays_bare e s old new k.slots below does (there_of (issue_at old.core.slots s) before) (was before)

-- ---- a call that sends the command

record IsSentNow (own : ℕ → Bool) (s : ℕ) (old new : ControllerState) : Type 0 where
  before : holds (is_sent_of own) (issue_at old.core.slots s) ≡ false
  after : holds (is_sent_of own) (issue_at new.core.slots s) ≡ true

and_false : (a b : Bool) → b ≡ false → (a && b) ≡ false
and_false true b e = e
and_false false b e = refl

sent_now : (own : ℕ → Bool) (s slot : ℕ) (old new : ControllerState) → slot ≡ s → holds (is_queued_of own) (issue_at old.core.slots s) ≡ true → IsOrderedOnce slot old.core new.core → IsSentNow own s old new
sent_now own s slot old new here queued h =
    let was : issue_at old.core.slots s ≡ Some h.issue = subst (λ (k : ℕ). issue_at old.core.slots k ≡ Some h.issue) here h.was in
    let kind : is_queued_of own h.issue ≡ true = ap (holds (is_queued_of own)) (sym was) ∙ queued in
    let both = and_parts (is_queued_issue h.issue) (own h.issue.dev) kind in
    let after : issue_at new.core.slots s ≡ Some (sent_issue h.issue) = subst (λ (k : ℕ). issue_at new.core.slots k ≡ Some (sent_issue h.issue)) here (h.sent (queued_kind h.issue.work.kind both.0)) in
    record {
      before = ap (holds (is_sent_of own)) was ∙ and_false (is_queued_of own h.issue) h.issue.sent h.unsent;
      after = ap (holds (is_sent_of own)) after ∙ ap (λ (b : Bool). b && true) kind;
    }

ordered : (e : Event) (own : ℕ → Bool) (s : ℕ) (old new : ControllerState) → IsController old → s < 32 → Calls old e new → is_ordered own s old e ≡ true → IsSentNow own s old new
ordered (call.Turned (next.Order dev slot fis)) own s old new k below does is =
    let both = and_parts (slot == s) (holds (is_queued_of own) (issue_at old.core.slots s)) is in
    let here : slot ≡ s = eqb-true slot s both.0 in
    let long = k.slots.slots in
    sent_now own s slot old new here both.1 (ordered_once old new dev slot fis (omega (arith, long, below, here)) does)
ordered other own s old new k below does is = absurd (false≢true is)

-- ---- any other call

three : (a b c : Bool) → a ≡ true → b ≡ false → c ≡ true → (a && not b && c) ≡ true
three true false true e f g = refl
three false b c e f g = absurd (cc)
three true true c e f g = absurd (cc)
three true false false e f g = absurd (cc)

record Kept (own : ℕ → Bool) (s : ℕ) (old new : ControllerState) : Type 0 where
  most : standing_in own s old ≤ once_if (is_fallen own s old new) + standing_in own s new

dev_is : (own : ℕ → Bool) (i j : Issue) → j.dev ≡ i.dev → own i.dev ≡ true → own j.dev ≡ true
dev_is own i j same is = ap own same ∙ is

and_true : (a b : Bool) → a ≡ true → b ≡ true → (a && b) ≡ true
and_true true b e f = f
and_true false b e f = absurd (cc)

stands_on : (own : ℕ → Bool) (s : ℕ) (old new : ControllerState) → s < 32 → holds (is_sent_of own) (issue_at old.core.slots s) ≡ true → Stems (issue_at old.core.slots s) (issue_at new.core.slots s)
    → IsBare s new.core → (b : Bool) → holds is_queued_issue (issue_at new.core.slots s) ≡ b → Kept own s old new
stands_on own s old new below was stems bare true queued =
    let it = held is_queued_issue (issue_at new.core.slots s) queued in
    let stem = stems it.0 it.1 in
    let both = and_parts (is_queued_of own stem.issue) stem.issue.sent (ap (holds (is_sent_of own)) (sym stem.was) ∙ was) in
    let kind = and_parts (is_queued_issue stem.issue) (own stem.issue.dev) both.0 in
    let mine : is_queued_of own it.0 ≡ true = and_true (is_queued_issue it.0) (own it.0.dev) it.2 (dev_is own stem.issue it.0 stem.dev kind.1) in
    let now : standing_in own s new ≡ 1 =
    ap once_if (holds_is (is_sent_of own) (issue_at new.core.slots s) it.0 it.1 (and_true (is_queued_of own it.0) it.0.sent mine (stem.sent both.1))) in
    let then' : standing_in own s old ≡ 1 = ap once_if was in
    record { most = omega (arith, now, then') }
stands_on own s old new below was stems bare false queued =
    let it = held (is_sent_of own) (issue_at old.core.slots s) was in
    let mine = (and_parts (is_queued_of own it.0) it.0.sent it.2).0 in
    let kind = (and_parts (is_queued_issue it.0) (own it.0.dev) mine).0 in
    let set : has_bit (shown PxSact old) s ≡ true = ap (λ (m : ℕ). has_bit m s) (sact_is old)
    ∙ or_right old.core.registers.armed (slots_where is_queued_issue old.core.slots) s (queued_bit old.core s below ∙ holds_is is_queued_issue (issue_at old.core.slots s) it.0 it.1 kind) in
    let clear : has_bit (shown PxSact new) s ≡ false = ap (λ (m : ℕ). has_bit m s) (sact_is new)
    ∙ or_none new.core.registers.armed (slots_where is_queued_issue new.core.slots) s bare (queued_bit new.core s below ∙ queued) in
    let fell : once_if (is_fallen own s old new) ≡ 1 =
    ap once_if (three (has_bit (shown PxSact old) s) (has_bit (shown PxSact new) s) (holds (is_queued_of own) (issue_at old.core.slots s)) set clear (holds_is (is_queued_of own) (issue_at old.core.slots s) it.0 it.1 mine)) in
    let then' : standing_in own s old ≡ 1 = ap once_if was in
    record { most = omega (arith, fell, then') }

none_stands : (own : ℕ → Bool) (s : ℕ) (old new : ControllerState) → holds (is_sent_of own) (issue_at old.core.slots s) ≡ false → Kept own s old new
none_stands own s old new is = let none : standing_in own s old ≡ 0 = ap once_if is in record { most = omega (arith, none) }

sent_is_queued : (own : ℕ → Bool) (o : Option Issue) → holds (is_sent_of own) o ≡ true → holds is_queued_issue o ≡ true
sent_is_queued own None e = e
sent_is_queued own (Some i) e = (and_parts (is_queued_issue i) (own i.dev) (and_parts (is_queued_of own i) i.sent e).0).0

goes_on : (e : Event) (own : ℕ → Bool) (s : ℕ) (old new : ControllerState) → IsController old → s < 32 → (does : Calls old e new) → AreCoreEvents old.core (of_event old e new does) new.core
    → IsApart s old → (b : Bool) → issues_in s e ≡ b → (d : Bool) → holds (is_sent_of own) (issue_at old.core.slots s) ≡ d → Kept own s old new
goes_on e own s old new k below does are was b is false sent = none_stands own s old new sent
goes_on e own s old new k below does are was true is true sent =
    absurd (false≢true (sym (ap (holds (is_sent_of own)) (is_alone e s old new k does is).free) ∙ sent))
goes_on e own s old new k below does are was false is true sent =
    let queued = sent_is_queued own (issue_at old.core.slots s) sent in
    let bare : IsBare s new.core = stays_bare e s old new k.slots below does (there_of (issue_at old.core.slots s) queued) (was queued) in
    stands_on own s old new below sent (call_stems e s old new does below are is) bare (holds is_queued_issue (issue_at new.core.slots s)) refl

one_call : (e : Event) (own : ℕ → Bool) (s : ℕ) (old new : ControllerState) → IsController old → s < 32 → (does : Calls old e new) → AreCoreEvents old.core (of_event old e new does) new.core
    → IsApart s old → (b : Bool) → is_ordered own s old e ≡ b → once_if b + standing_in own s old ≤ once_if (is_fallen own s old new) + standing_in own s new
one_call e own s old new k below does are was true is =
    let it = ordered e own s old new k below does is in
    let none : standing_in own s old ≡ 0 = ap once_if it.before in
    let one : standing_in own s new ≡ 1 = ap once_if it.after in
    omega (arith, none, one)
one_call e own s old new k below does are was false is =
    let most = (goes_on e own s old new k below does are was (issues_in s e) refl (holds (is_sent_of own) (issue_at old.core.slots s)) refl).most in
    omega (arith, most)

-- ---- a deed

core_events : Laws → (old new : ControllerState) (e : Event) → IsController old → IsController new → (does : Calls old e new) → AreCoreEvents old.core (of_event old e new does) new.core
core_events laws old new e k l does =
    subst (λ (events : List CoreEvent). AreCoreEvents old.core events new.core) (append-nil (of_event old e new does)) (laws.events old new (e ∷ []) (k, (new, does, (l, refl))))

record Counted (own : ℕ → Bool) (s : ℕ) (old new : ControllerState) (ordered fallen : ℕ) : Type 0 where
  apart : IsApart s new
  most : ordered + standing_in own s old ≤ fallen + standing_in own s new

one_deed : Laws → (es : List Event) (own : ℕ → Bool) (s : ℕ) (old new : ControllerState) → s < 32 → AreFew es → Runs old es new → IsApart s old
    → Counted own s old new (once_if (are_ordered own s old es)) (once_if (is_fallen own s old new))
one_deed laws [] own s old new below few run was =
    let same : standing_in own s new ≡ standing_in own s old = ap (standing_in own s) run.1 in
    record { apart = subst (IsApart s) (sym run.1) was; most = omega (arith, same) }
one_deed laws (e ∷ []) own s old new below few run was =
    let mid : ControllerState = run.1.0 in
    let end : new ≡ mid = run.1.2.1 in
    let does : Calls old e new = subst (Calls old e) (sym end) run.1.1 in
    let last : IsController new = subst IsController (sym end) run.1.2.0 in
    let are = core_events laws old new e run.0 last does in
    record {
      apart = stays_apart e s old new run.0 below does are (issues_in s e) refl was;
      most = one_call e own s old new run.0 below does are was (is_ordered own s old e) refl;
    }
one_deed laws (e ∷ f ∷ later) own s old new below few run was = absurd few

-- ---- every run

first_rules : (deeds : List Deed) (old new : MachineState) → RunsRuled old deeds new → HasRules old
first_rules [] old new run = run.0
first_rules (deed ∷ later) old new run = run.0

record RunCounted (own : ℕ → Bool) (s : ℕ) (old new : MachineState) (ordered fallen : ℕ) : Type 0 where
  counted : Counted own s old.controller new.controller ordered fallen
  due : GathersDue new

counted : Laws → (own : ℕ → Bool) (s : ℕ) → s < 32 → (deeds : List Deed) (old new : MachineState) (run : RunsRuled old deeds new) → GathersDue old → IsApart s old.controller
    → RunCounted own s old new (ordered_in own s old deeds new run) (fallen_in own s old deeds new run)
counted laws own s below [] old new run due was =
    let same : standing_in own s new.controller ≡ standing_in own s old.controller = ap (λ (m : MachineState). standing_in own s m.controller) run.1 in
    record {
      counted = record { apart = subst (λ (m : MachineState). IsApart s m.controller) (sym run.1) was; most = omega (arith, same) };
      due = subst GathersDue (sym run.1) due;
    }
counted laws own s below (deed ∷ later) old new run due was =
    let mid : MachineState = run.1.0 in
    let calls : Runs old.controller (deed_calls old deed mid run.1.1) mid.controller = laws.goes old deed mid run.1.1 run.0 (first_rules later mid new run.1.2) due in
    let one = one_deed laws (deed_calls old deed mid run.1.1) own s old.controller mid.controller below (are_few deed old mid run.1.1) calls was in
    let rest = counted laws own s below later mid new run.1.2 (laws.due old deed mid run.1.1 due) one.apart in
    let now = one.most in
    let more = rest.counted.most in
    record { counted = record { apart = rest.counted.apart; most = omega (arith, now, more) }; due = rest.due }

-- ---- a machine that opens

pub kept_of : (m : MachineState) → HasRules m → IsController m.controller
kept_of m rules = record { port = rules.port; slots = rules.slots; rules = rules.rules }

pub none_told : (c : ControllerState) (s : ℕ) → IsController c → s < 32 → AreTold c.core (λ n. []) → (i : Issue) → issue_at c.core.slots s ≡ Some i → ⊥
none_told c s k below told i is =
    let it : IsIssue i = subst (λ (o : Option Issue). MatchOption o (Unit {0}) IsIssue) is (k.slots.issues s) in
    let mine : own_issue (view_of i.dev c.core).slots s ≡ Some i = own_here s c.core.slots i (let n = k.slots.slots in omega (arith, n, below)) is in
    by ((told i.dev it.dev_below).issued s ∙ ap (option_map (λ (x : Issue). x.work)) mine)
  where
    by : None ≡ Some i.work → ⊥
    by e = cc

opens_apart : (c : ControllerState) (s : ℕ) → IsController c → s < 32 → AreTold c.core (λ n. []) → IsApart s c
opens_apart c s k below told queued =
    let it = held is_queued_issue (issue_at c.core.slots s) queued in
    absurd (none_told c s k below told it.0 it.1)

all_devices : ℕ → Bool
all_devices dev = true

pub sent_once : Laws → CommandsAreSentOnce
sent_once laws ports legacy old opening before at first deeds now run own slot below =
    let rules = first_rules before old at first in
    let opens = laws.opens ports legacy old opening rules in
    let apart = opens_apart old.controller slot (kept_of old rules) below opens.told in
    let there = counted laws all_devices slot below before old at first opens.due apart in
    (counted laws own slot below deeds at now run there.due there.counted.apart).counted.most

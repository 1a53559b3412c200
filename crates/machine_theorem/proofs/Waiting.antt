-- Where a command goes to a device, none of its slots waits, and behind it one does.
use Rattle.std.proofs.Common.{◌≡◌, ℕ, ◌<◌, Bool, true, false, not, List, [], ◌∷◌, append-nil, refl, sym, ap, subst, ◌∙◌, arith, Option}
use Rattle.std.proofs.{Common.{Some, None}, lemmas.Bool.{and_parts, eqb-true, false≢true}}
use Rattle.std.specs.Prelude.{◌==◌, if◌then◌else◌, is_some, MatchOption}
use Rattle.slots.specs.{Commands.sent_issue, Slots.{Issue, holds, is_control, is_waiting, issue_at, match_some, own_issue, owned_by, slots_of}}
use Rattle.slots.specs.{Slots.waiting, Table.IsIssue}
use Rattle.hba_laws.specs.{CoreHistories.CoreViewsAreTold, Cores.CoreEvent}
use Rattle.hba_laws.proofs.Door.{held, is_own, none_waits, own_here}
use Rattle.ahci_controller.specs.States.{ControllerState}
use Rattle.ahci_controller.specs.declared.next.Next.TheVariants as next
use Rattle.controller_laws.specs.{CoreEvents.{AreCoreEvents, EventsAreCoreEvents, of_event}, Events.{Does, Event, IsController, Runs}}
use Rattle.controller_laws.specs.Events as call
use Rattle.machine_theorem.specs.Waits.{is_command_issue, is_commanded, waits_in}
use Rattle.machine_theorem.proofs.{OrderedOnce.{IsOrderedOnce, ordered_once}, Ordered.low_slot as low}

pub record Laws : Type 0 where
  pub events : EventsAreCoreEvents
  pub views : CoreViewsAreTold

-- ---- a slot of the device waits

pub some_waits : (n s : ℕ) (c : ControllerState) → IsController c → (i : Issue) → own_issue (slots_of n c.core.slots) s ≡ Some i → is_waiting i ≡ true → waits_in n c ≡ true
some_waits n s c k i is waits = by (waiting (slots_of n c.core.slots)) refl
  where
    by : (o : Option ℕ) → waiting (slots_of n c.core.slots) ≡ o → is_some o ≡ true
    by None none = absurd (false≢true (sym (none_waits n (slots_of n c.core.slots) (is_own n c.core.slots k.slots) none s i is) ∙ waits))
    by (Some k) some = refl

-- ---- a command goes

pub not_true : (b : Bool) → not b ≡ true → b ≡ false
not_true true e = absurd (cc)
not_true false e = refl

pub record IsSent (n slot : ℕ) (old new : ControllerState) : Type 0 where
  pub issue : Issue
  pub own : issue.dev ≡ n
  pub is : issue_at new.core.slots slot ≡ Some issue
  pub mine : own_issue (slots_of n new.core.slots) slot ≡ Some issue
  pub waits : is_waiting issue ≡ true
  pub before : waits_in n old ≡ false

unanswered : (i : Issue) (b : Bool) → i.answered ≡ b → (i.answered ≡ true → i.sent ≡ true) → i.sent ≡ false → not i.answered ≡ true
unanswered i true is sent unsent = absurd (false≢true (sym unsent ∙ sent is))
unanswered i false is sent unsent = ap not is

pub sent_now : (n dev slot : ℕ) (fis : List ℕ) (old new : ControllerState) → slot < 32 → IsController old → IsController new → Does old (call.Turned (next.Order dev slot fis)) new
    → is_commanded n old (call.Turned (next.Order dev slot fis)) ≡ true → IsSent n slot old new
sent_now n dev slot fis old new low k l does commanded =
    let long = k.slots.slots in
    let h : IsOrderedOnce slot old.core new.core = ordered_once old new dev slot fis (omega (arith, long, low)) does in
    let both = and_parts (h.issue.dev == n) (not (is_control h.issue.work.kind)) (ap (holds (is_command_issue n)) (sym h.was) ∙ commanded) in
    let own : h.issue.dev ≡ n = eqb-true h.issue.dev n both.0 in
    let plain : is_control h.issue.work.kind ≡ false = not_true (is_control h.issue.work.kind) both.1 in
    let issue : IsIssue h.issue = subst (λ (o : Option Issue). MatchOption o (Unit {0}) IsIssue) h.was (k.slots.issues slot) in
    let there : issue_at new.core.slots slot ≡ Some (sent_issue h.issue) = h.sent plain in
    let long_new = l.slots.slots in
    record {
      issue = sent_issue h.issue;
      own = own;
      is = there;
      mine = subst (λ (m : ℕ). own_issue (slots_of m new.core.slots) slot ≡ Some (sent_issue h.issue)) own (own_here slot new.core.slots (sent_issue h.issue) (omega (arith, long_new, low)) there);
      waits = unanswered h.issue h.issue.answered refl (λ e. (issue.answers e).1) h.unsent;
      before = ap (λ (m : ℕ). waits_in m old) (sym own) ∙ ap (λ (o : Option ℕ). is_some o) (h.free plain);
    }

-- ---- a command that goes

pub first_kept : (events : List Event) (old new : ControllerState) → Runs old events new → IsController old
first_kept [] old new run = run.0
first_kept (e ∷ later) old new run = run.0

pub low_slot : (n slot : ℕ) (c : ControllerState) → IsController c → holds (is_command_issue n) (issue_at c.core.slots slot) ≡ true → slot < 32
low_slot n slot c k has =
    let it = held (is_command_issue n) (issue_at c.core.slots slot) has in
    low c.core.slots slot it.0.dev k.slots (subst (λ (o : Option Issue). MatchOption o ⊥ (λ issue. issue.dev ≡ it.0.dev)) (sym it.1) refl)

-- where a command goes, no slot of its device waits
pub commanded_free : (n : ℕ) (e : Event) (old new : ControllerState) → IsController old → IsController new → Does old e new → is_commanded n old e ≡ true → waits_in n old ≡ false
commanded_free n (call.Turned (next.Order dev slot fis)) old new k l does is = (sent_now n dev slot fis old new (low_slot n slot old k is) k l does is).before
commanded_free n other old new k l does is = absurd (false≢true is)

-- and behind it one waits
pub commanded_waits : (n : ℕ) (e : Event) (old new : ControllerState) → IsController old → IsController new → Does old e new → is_commanded n old e ≡ true → waits_in n new ≡ true
commanded_waits n (call.Turned (next.Order dev slot fis)) old new k l does is =
    let it : IsSent n slot old new = sent_now n dev slot fis old new (low_slot n slot old k is) k l does is in
    some_waits n slot new l it.issue it.mine it.waits
commanded_waits n other old new k l does is = absurd (false≢true is)

-- ---- the owner of a slot

owned_dev : (n : ℕ) (i : Issue) (b : Bool) (j : Issue) → (i.dev == n) ≡ b → (if b then Some i else None) ≡ Some j → j.dev ≡ n
owned_dev n i true j same is = by is
  where
    by : Some i ≡ Some j → j.dev ≡ n
    by e = ap (λ (o : Option Issue). match_some o n (λ k. k.dev)) (sym e) ∙ eqb-true i.dev n same
owned_dev n i false j same is = absurd (cc)

pub owner : (n : ℕ) (j : Issue) (o : Option Issue) → owned_by n o ≡ Some j → j.dev ≡ n
owner n j None is = absurd (cc)
owner n j (Some i) is = owned_dev n i (i.dev == n) j refl is

module _ (laws : Laws) (n : ℕ) (below : n < 16) where
  pub core_events : (old new : ControllerState) (e : Event) → IsController old → IsController new → (does : Does old e new) → AreCoreEvents old.core (of_event old e new does) new.core
  core_events old new e k l does =
      subst (λ (events : List CoreEvent). AreCoreEvents old.core events new.core) (append-nil (of_event old e new does)) (laws.events old new (e ∷ []) (k, (new, does, (l, refl))))

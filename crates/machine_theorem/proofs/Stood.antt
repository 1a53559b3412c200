-- While the bit of a slot stands, no other command is issued there, and what was sent from there since is the one that was supplied.
use Rattle.std.proofs.Common.{◌≡◌, ℕ, suc, ◌<◌, ◌&&◌, ◌^◌, Bool, true, false, List, [], ◌∷◌, ◌++◌, length, refl, sym, ap, subst, ◌∙◌, inl, inr, arith}
use Rattle.std.proofs.{Common.{Option, Some, None}, lemmas.{Bool.{and_parts, eqb-true, false≢true}, List.{append_assoc, length-append}}}
use Rattle.std.specs.Prelude.{◌==◌, MatchOption, if◌then◌else◌}
use Rattle.slots.specs.{Commands.slots_where, Slots.{has_bit, holds, is_queued_issue, issue_at}}
use Rattle.ahci_registers.specs.declared.register.Register.{Register, TheVariants.{PxCi, PxSact}}
use Rattle.guest_fetch.specs.{Commands.Fetched, declared.fetch.Supplied.Supplied}
use Rattle.guest_fetch.specs.declared.fetch.Supplied.TheVariants as came_as
use Rattle.hba_fbs.specs.declared.registers.Registers.{Registers}
use Rattle.ahci_controller.specs.{Fetching.{GoesOn, MissesIf, SuppliesIf, answered, fits, is_asked, without_fetch}, Issuing.{PlacesSlot, RefusesSlot}}
use Rattle.ahci_controller.specs.{Issuing.not_issued, Reading.shown, States.ControllerState, declared.issuing.{NotTaken.NotTaken, Supply.Supply}}
use Rattle.ahci_controller.specs.declared.issuing.Supply.TheVariants.{Issued, More, NotTaken as NotTakenFor, OutOfMemory, Stale}
use Rattle.ahci_controller.specs.declared.next.Next.TheVariants as next
use Rattle.ahci_controller.proofs.Door.{pow_same}
use Rattle.controller_laws.specs.Events as call
use Rattle.controller_laws.specs.{Events.{Does as Calls, Event, IsController, Runs}, Sources.{Source, Sources, after_supply, no_sources}}
use Rattle.controller_laws.specs.Sources.{sources_after, sources_by}
use Rattle.ahci_machine.specs.States.{HasRules, MachineState}
use Rattle.machine_laws.specs.{ControllerLaws.{ControllerRuns, RunsAreCalls, RunsRuled, calls_in}, Controllers.{ControllerGoesOn, GathersDue}}
use Rattle.machine_laws.specs.{Controllers.{OpensDue, StaysDue, deed_calls}, Deeds.{Deed, Does}}
use Rattle.machine_theorem.specs.{Commands.{AreNotIssued, is_issue, issues_in}, Standing.{CommandsStand, HasStood, IssuesAreAlone, IsShownOver}}
use Rattle.machine_theorem.specs.Standing.{MayShow, NoneIsIssuedBeside, Stands}
use Rattle.machine_theorem.proofs.{Armed.{IsBare, IsQueuedAlone, queued_bit, stays_alone, there_of}, Few.{AreFew, are_few}, Still.all_kept}
use Rattle.machine_theorem.proofs.Unread.{IsNotRead, is_alone, is_held, none_issued, stays_unread, taken, IsHeld.Issues}

-- ---- one call

-- what holds of a slot while its bit stands
abbrev Holds : Register → ℕ → ControllerState → Type 0
Holds PxCi s c = IsNotRead s c
Holds PxSact s c = IsNotRead s c × IsQueuedAlone s c
Holds register s c = ⊥

not_read : (r : Register) (s : ℕ) (c : ControllerState) → Holds r s c → IsNotRead s c
not_read PxCi s c h = h
not_read PxSact s c h = h.0
not_read other s c h = absurd h

one_call : (r : Register) (e : Event) (s : ℕ) (old new : ControllerState) → IsController old → s < 32 → Calls old e new → has_bit (shown r old) s ≡ true → has_bit (shown r new) s ≡ true → Holds r s old → Holds r s new
one_call PxCi e s old new k below does was now h = stays_unread e s old new below does (is_held s old below was h) h
one_call PxSact e s old new k below does was now h =
    (stays_unread e s old new below does (Issues (there_of (issue_at old.core.slots s) h.1.queued)) h.0, stays_alone e s old new k below does now h.1)
one_call other e s old new k below does was now h = absurd h

-- ---- a deed

calls_stand : (r : Register) (es : List Event) (s : ℕ) (old new : ControllerState) → AreFew es → Runs old es new → s < 32 → has_bit (shown r old) s ≡ true → has_bit (shown r new) s ≡ true → Holds r s old → AreNotIssued s es × Holds r s new
calls_stand r [] s old new few run below was now h = (tt, subst (Holds r s) (sym run.1) h)
calls_stand r (e ∷ []) s old new few run below was now h =
    let mid : ControllerState = run.1.0 in
    let end : new ≡ mid = run.1.2.1 in
    let does : Calls old e new = subst (Calls old e) (sym end) run.1.1 in
    ((none_issued e s old new run.0 does (not_read r s old h), tt), one_call r e s old new run.0 below does was now h)
calls_stand r (e ∷ f ∷ later) s old new few run below was now h = absurd few

none_both : (s : ℕ) (xs ys : List Event) → AreNotIssued s xs → AreNotIssued s ys → AreNotIssued s (xs ++ ys)
none_both s [] ys a b = b
none_both s (x ∷ xs) ys a b = (a.0, none_both s xs ys a.1 b)

first_rules : (deeds : List Deed) (old new : MachineState) → RunsRuled old deeds new → HasRules old
first_rules [] old new run = run.0
first_rules (deed ∷ later) old new run = run.0

first_shown : (r : Register) (s : ℕ) (deeds : List Deed) (old new : MachineState) (run : RunsRuled old deeds new) → IsShownOver r s old deeds new run → has_bit (shown r old.controller) s ≡ true
first_shown r s [] old new run h = h
first_shown r s (deed ∷ later) old new run h = h.0

-- the laws of machines
pub record Laws : Type 0 where
  pub opens : OpensDue
  pub due : StaysDue
  pub goes : ControllerGoesOn
  pub runs : RunsAreCalls

run_stands : Laws → (r : Register) (s : ℕ) → s < 32 → (deeds : List Deed) (old new : MachineState) (run : RunsRuled old deeds new) → GathersDue old → IsShownOver r s old deeds new run → Holds r s old.controller → AreNotIssued s (calls_in old deeds new run)
run_stands laws r s below [] old new run due shows h = tt
run_stands laws r s below (deed ∷ later) old new run due shows h =
    let mid : MachineState = run.1.0 in
    let calls : Runs old.controller (deed_calls old deed mid run.1.1) mid.controller = laws.goes old deed mid run.1.1 run.0 (first_rules later mid new run.1.2) due in
    let both = calls_stand r (deed_calls old deed mid run.1.1) s old.controller mid.controller (are_few deed old mid run.1.1) calls below shows.0 (first_shown r s later mid new run.1.2 shows.1) h in
    none_both s (deed_calls old deed mid run.1.1) (calls_in mid later new run.1.2) both.0
    (run_stands laws r s below later mid new run.1.2 (laws.due old deed mid run.1.1 due) shows.1 both.1)

-- ---- behind the issue

-- a command was issued in the slot
pub record IsPlaced (s : ℕ) (c : ControllerState) : Type 0 where
  pub unread : IsNotRead s c
  pub armed : holds is_queued_issue (issue_at c.core.slots s) ≡ true → IsBare s c.core

placed : (slot : ℕ) (f : Fetched) (base new : ControllerState) (supply : Supply) → slot < 32 → PlacesSlot base slot f supply new → IsPlaced slot new
placed slot f base new supply below h = record {
  unread = ap (λ (c : ControllerState). has_bit c.wants.pending slot) h.rest ∙ taken base.wants.pending (2 ^ slot) slot below (pow_same slot);
  armed = λ queued. ap (λ (r : Registers). has_bit r.armed slot) h.core.registers
      ∙ taken base.core.registers.armed (slots_where is_queued_issue new.core.slots) slot below (queued_bit new.core slot below ∙ queued);
}

issued : (slot : ℕ) (f : Fetched) (o : Option NotTaken) (base new : ControllerState) (supply : Supply) → slot < 32 → is_issue supply ≡ true → MatchOption o (PlacesSlot base slot f supply new) (λ reason. RefusesSlot base slot reason supply new) → IsPlaced slot new
issued slot f None base new supply below is h = placed slot f base new supply below h
issued slot f (Some reason) base new supply below is h = absurd (false≢true (sym (ap is_issue h.told) ∙ is))

goes_on : (slot : ℕ) (came : Supplied) (base new : ControllerState) (supply : Supply) → slot < 32 → is_issue supply ≡ true → GoesOn base slot came supply new → IsPlaced slot new
goes_on slot (came_as.Refused r) base new supply below is h = absurd (false≢true (sym (ap is_issue h.told) ∙ is))
goes_on slot (came_as.Whole f) base new supply below is h = issued slot f (not_issued base.core slot f) base new supply below is h
goes_on slot other base new supply below is h = absurd (false≢true (sym (ap is_issue h.1) ∙ is))

supplied : (fit : Bool) (slot : ℕ) (bytes : List ℕ) (old new : ControllerState) (supply : Supply) → slot < 32 → is_issue supply ≡ true → SuppliesIf fit old slot bytes supply new → IsPlaced slot new
supplied false slot bytes old new supply below is h = absurd (false≢true (sym (ap is_issue h.1) ∙ is))
supplied true slot bytes old new supply below is h = goes_on slot h.came (without_fetch (answered old slot) slot) new supply below is h.goes

missed : (out : Bool) (slot : ℕ) (old new : ControllerState) (supply : Supply) → is_issue supply ≡ true → MissesIf out old slot supply new → IsPlaced slot new
missed false slot old new supply is h = absurd (false≢true (sym (ap is_issue h.1) ∙ is))
missed true slot old new supply is h = absurd (false≢true (sym (ap is_issue h.told) ∙ is))

pub is_placed : (e : Event) (s : ℕ) (old new : ControllerState) → s < 32 → Calls old e new → issues_in s e ≡ true → IsPlaced s new
is_placed (call.Supplied slot number bytes supply) s old new below h is =
    let both = and_parts (slot == s) (is_issue supply) is in
    let here : slot ≡ s = eqb-true slot s both.0 in
    subst (λ (n : ℕ). IsPlaced n new) here (supplied (fits old slot number bytes) slot bytes old new supply (subst (λ (n : ℕ). n < 32) (sym here) below) both.1 h)
is_placed (call.Missed slot number supply) s old new below h is =
    let both = and_parts (slot == s) (is_issue supply) is in
    subst (λ (n : ℕ). IsPlaced n new) (eqb-true slot s both.0) (missed (is_asked old.wants slot number) slot old new supply both.1 h)
is_placed other s old new below h is = absurd (false≢true is)

begins : (r : Register) (s : ℕ) (m : MachineState) → IsPlaced s m.controller → MayShow r s m → Holds r s m.controller
begins PxCi s m h may = h.unread
begins PxSact s m h may = (h.unread, record { queued = may; bare = h.armed may })
begins other s m h may = absurd may

-- ---- the laws

pub issues_are_alone : IssuesAreAlone
issues_are_alone old new e k does slot is = is_alone e slot old new k does is

stands : Laws → (r : Register) (s : ℕ) (since : List Event) (old : MachineState) (deed : Deed) (new : MachineState) (does : Does old deed new) (later : List Deed) (now : MachineState) (run : RunsRuled new later now)
    → HasRules old → GathersDue old → Stands r s since old deed new does later now run → AreNotIssued s since
stands laws r s since old deed new does later now run rules due h =
    let e : Event = h.issued.event in
    let calls : Runs old.controller (e ∷ []) new.controller = subst (λ (l : List Event). Runs old.controller l new.controller) h.issued.is (laws.goes old deed new does rules (first_rules later new now run) due) in
    let it : Calls old.controller e new.controller = subst (Calls old.controller e) (sym calls.1.2.1) calls.1.1 in
    let low : s < 32 = (is_alone e s old.controller new.controller calls.0 it h.issued.issues).low in
    subst (AreNotIssued s) (sym h.calls)
    (run_stands laws r s low later new now run (laws.due old deed new does due) h.shown (begins r s new (is_placed e s old.controller new.controller low it h.issued.issues) h.may))

stood : Laws → (r : Register) (s : ℕ) (since : List Event) (deeds : List Deed) (old now : MachineState) (run : RunsRuled old deeds now) → GathersDue old → HasStood r s since old deeds now run → AreNotIssued s since
stood laws r s since [] old now run due h = absurd h
stood laws r s since (deed ∷ later) old now run due (inl here) = stands laws r s since old deed run.1.0 run.1.1 later now run.1.2 run.0 due here
stood laws r s since (deed ∷ later) old now run due (inr there) = stood laws r s since later run.1.0 now run.1.2 (laws.due old deed run.1.0 run.1.1 due) there

pub none_beside : Laws → NoneIsIssuedBeside
none_beside laws ports legacy old opens deeds now run r slot since h = stood laws r slot since deeds old now run (laws.opens ports legacy old opens) h

-- ---- the command that was supplied

-- the controller's calls, from the issue on
record AreFromIssue (s : ℕ) (since calls : List Event) : Type 0 where
  before : List Event
  event : Event
  is : calls ≡ before ++ event ∷ since
  issues : issues_in s event ≡ true

from_issue : (r : Register) (s : ℕ) (since : List Event) (deeds : List Deed) (old now : MachineState) (run : RunsRuled old deeds now) → HasStood r s since old deeds now run → AreFromIssue s since (calls_in old deeds now run)
from_issue r s since [] old now run h = absurd h
from_issue r s since (deed ∷ later) old now run (inl here) = record {
  before = [];
  event = here.issued.event;
  is = ap (λ (l : List Event). l ++ calls_in run.1.0 later now run.1.2) here.issued.is ∙ ap (λ (l : List Event). here.issued.event ∷ l) (sym here.calls);
  issues = here.issued.issues;
}
from_issue r s since (deed ∷ later) old now run (inr there) =
    let rest = from_issue r s since later run.1.0 now run.1.2 there in
    let first : List Event = deed_calls old deed run.1.0 run.1.1 in
    record {
      before = first ++ rest.before;
      event = rest.event;
      is = ap (λ (l : List Event). first ++ l) rest.is ∙ sym (append_assoc first rest.before (rest.event ∷ since));
      issues = rest.issues;
    }

abbrev pub HasIssued : Sources → Type 0
HasIssued was = (source : Source) × (was.issued ≡ Some source)

supply_has : (here : Bool) (told : Supply) (c : ControllerState) (s : ℕ) (bytes : List ℕ) (was : Sources) → (here && is_issue told) ≡ true → HasIssued (if here then after_supply told c s bytes was else was)
supply_has false told c s bytes was is = absurd (false≢true is)
supply_has true (Issued dev) c s bytes was is = (_, refl)
supply_has true More c s bytes was is = absurd (false≢true is)
supply_has true (NotTakenFor reason message line) c s bytes was is = absurd (false≢true is)
supply_has true OutOfMemory c s bytes was is = absurd (false≢true is)
supply_has true Stale c s bytes was is = absurd (false≢true is)

pub event_has : (e : Event) (s : ℕ) (old new : ControllerState) (does : Calls old e new) (was : Sources) → issues_in s e ≡ true → HasIssued (sources_by s old e new does was)
event_has (call.Supplied slot number bytes told) s old new does was is = supply_has (slot == s) told old s bytes was is
event_has (call.Missed slot number told) s old new does was is = supply_has (slot == s) told old s [] was is
event_has other s old new does was is = absurd (false≢true is)

run_has : (s : ℕ) (before : List Event) (e : Event) (since : List Event) → issues_in s e ≡ true → AreNotIssued s since → (old new : ControllerState) (run : Runs old (before ++ e ∷ since) new) (was : Sources)
    → HasIssued (sources_after s was old (before ++ e ∷ since) new run)
run_has s [] e since is none old new run was =
    let has = event_has e s old run.1.0 run.1.1 was is in
    (has.0, all_kept s since run.1.0 new run.1.2 (sources_by s old e run.1.0 run.1.1 was) none ∙ has.1)
run_has s (f ∷ before) e since is none old new run was = run_has s before e since is none run.1.0 new run.1.2 (sources_by s old f run.1.0 run.1.1 was)

calls_have : (s : ℕ) (since calls : List Event) → AreFromIssue s since calls → AreNotIssued s since → (old new : ControllerState) (run : Runs old calls new) (was : Sources) → HasIssued (sources_after s was old calls new run)
calls_have s since calls from none old new =
    subst (λ (l : List Event). (run : Runs old l new) (was : Sources) → HasIssued (sources_after s was old l new run)) (sym from.is) (λ run was. run_has s from.before from.event since from.issues none old new run was)

-- what is behind a later call is among what is behind an earlier one
rest_none : (s : ℕ) (xs us : List Event) → AreNotIssued s (xs ++ us) → AreNotIssued s us
rest_none s [] us h = h
rest_none s (x ∷ xs) us h = rest_none s xs us h.1

abbrev rest_of : List Event → List Event
rest_of [] = []
rest_of (x ∷ xs) = xs

later_none : (s : ℕ) (xs us ys vs : List Event) → xs ++ us ≡ ys ++ vs → length us < length vs → AreNotIssued s vs → AreNotIssued s us
later_none s xs us [] vs is short none = rest_none s xs us (subst (AreNotIssued s) (sym is) none)
later_none s [] us (y ∷ ys) vs is short none =
    let whole : length us ≡ suc (length (ys ++ vs)) = ap (λ (l : List Event). length l) is in
    let long = length-append ys vs in
    absurd (omega (arith, whole, long, short))
later_none s (x ∷ xs) us (y ∷ ys) vs is short none = later_none s xs us ys vs (ap rest_of is) short none

snoc : (before : List Event) (e : Event) (later : List Event) → before ++ e ∷ later ≡ (before ++ e ∷ []) ++ later
snoc before e later = sym (append_assoc before (e ∷ []) later)

pub commands_stand : Laws → CommandsStand
commands_stand laws ports legacy old opens deeds now run n p limit calls c of r since stood_so short =
    let due : GathersDue old = laws.opens ports legacy old opens in
    let none : AreNotIssued of.slot since = stood laws r of.slot since deeds old now run due stood_so in
    let from = from_issue r of.slot since deeds old now run stood_so in
    let runs : ControllerRuns old deeds now run = laws.runs old deeds now run due in
    let sent : Event = call.Turned (next.Order of.dev of.slot of.fis) in
    let has = calls_have of.slot since (calls_in old deeds now run) from none old.controller now.controller runs.calls no_sources in
    let same : (of.sent.before ++ sent ∷ []) ++ of.sent.later ≡ (from.before ++ from.event ∷ []) ++ since =
    sym (snoc of.sent.before sent of.sent.later) ∙ sym of.sent.is ∙ from.is ∙ snoc from.before from.event since in
    let later : AreNotIssued of.slot of.sent.later = later_none of.slot (of.sent.before ++ sent ∷ []) of.sent.later (from.before ++ from.event ∷ []) since same short none in
    record { runs = runs; source = has.0; is = has.1; supplied = of.still later runs has.0 has.1 }

-- As long as nothing more is issued in a slot, the FIS that was sent from it is the one that is supplied for it.
use Rattle.std.proofs.Common.{◌≡◌, ℕ, ◌<◌, Bool, true, false, List, [], ◌∷◌, ◌++◌, Option, Some, None, refl, sym, ap, ◌∙◌, subst}
use Rattle.std.proofs.lemmas.Bool.{false≢true}
use Rattle.std.specs.Prelude.{◌==◌, ◌&&◌, if◌then◌else◌, MatchOption}
use Rattle.slots.specs.Slots.{has_bit}
use Rattle.guest_fetch.specs.Commands.{Fetched}
use Rattle.hba_commands.specs.declared.command.Command as core_command
use Rattle.ahci_controller.specs.{Access.fits, States.ControllerState, Wide.WritesFitting, declared.{access.Width.Width, issuing.Supply.Supply}}
use Rattle.ahci_controller.specs.declared.{issuing.Supply.TheVariants.{Issued, More, NotTaken, OutOfMemory, Stale}, wide.WideWritten.WideWritten}
use Rattle.ahci_controller.specs.declared.next.Next.TheVariants as next
use Rattle.controller_laws.specs.Events as call
use Rattle.controller_laws.specs.{Events.{Does, Event, IsController}, Sources.{AreSources, CommandsAreSupplied, CoreHasSupplied, IsIssuedFrom}}
use Rattle.controller_laws.specs.Sources.{Source, Sources, after_supply, after_wide, command_of, sources_after, sources_by, while_pending}
use Rattle.machine_laws.specs.Feeding.{IsFisOf, IsOrderOf, OrdersAreOfSlots}
use Rattle.machine_theorem.specs.Commands.{AreNotIssued, is_issue, issues_in}

-- ---- what was issued last stays

abbrev pub Kept : Sources → Sources → Type 0
Kept now was = now.issued ≡ was.issued

pending_by : (b : Bool) (was : Sources) → Kept (if b then was else record { coming = None; issued = was.issued }) was
pending_by true was = refl
pending_by false was = refl

pending : (c : ControllerState) (s : ℕ) (was : Sources) → Kept (while_pending c s was) was
pending c s was = pending_by (has_bit c.wants.pending s) was

wide : (does_fit : Bool) (s : ℕ) (old : ControllerState) (offset : ℕ) (width : Width) (value : ℕ) (written : WideWritten) (new : ControllerState)
    (h : WritesFitting does_fit old offset width value written new) (was : Sources) → Kept (after_wide does_fit s old offset width value written new h was) was
wide true s old offset width value written new h was = pending new s (while_pending h.middle s was) ∙ pending h.middle s was
wide false s old offset width value written new h was = refl

supply_by : (here : Bool) (told : Supply) (c : ControllerState) (s : ℕ) (bytes : List ℕ) (was : Sources) → (here && is_issue told) ≡ false
    → Kept (if here then after_supply told c s bytes was else was) was
supply_by false told c s bytes was is = refl
supply_by true (Issued dev) c s bytes was is = absurd (false≢true (sym is))
supply_by true More c s bytes was is = refl
supply_by true (NotTaken reason message line) c s bytes was is = refl
supply_by true OutOfMemory c s bytes was is = refl
supply_by true Stale c s bytes was is = refl

pub one_kept : (s : ℕ) (old : ControllerState) (event : Event) (new : ControllerState) (does : Does old event new) (was : Sources) → issues_in s event ≡ false
    → Kept (sources_by s old event new does was) was
one_kept s old (call.Wrote offset value written) new does was is = pending new s was
one_kept s old (call.WroteWide offset width value written) new does was is = wide (fits width offset) s old offset width value written new does was
one_kept s old (call.Supplied slot number bytes told) new does was is = supply_by (slot == s) told old s bytes was is
one_kept s old (call.Missed slot number told) new does was is = supply_by (slot == s) told old s [] was is
one_kept s old other new does was is = refl

pub all_kept : (s : ℕ) (events : List Event) (old new : ControllerState) (run : call.Runs old events new) (was : Sources) → AreNotIssued s events
    → Kept (sources_after s was old events new run) was
all_kept s [] old new run was are = refl
all_kept s (event ∷ later) old new run was are =
    all_kept s later run.1.0 new run.1.2 (sources_by s old event run.1.0 run.1.1 was) are.1 ∙ one_kept s old event run.1.0 run.1.1 was are.0

-- ---- so the FIS is the one that was sent

pub fis_of : (o : Option Fetched) (command : core_command.Command) (fis : List ℕ) → fis ≡ command.cfis → IsIssuedFrom o command → IsFisOf o fis
fis_of None command fis bytes h = h
fis_of (Some f) command fis bytes h = bytes ∙ ap (λ (x : core_command.Command). x.cfis) h

first_kept : (events : List Event) (old new : ControllerState) → call.Runs old events new → IsController old
first_kept [] old new run = run.0
first_kept (e ∷ events) old new run = run.0

-- the laws, as the crates below have them
pub record Laws : Type 0 where
  pub slots : OrdersAreOfSlots
  pub core : CoreHasSupplied
  pub supplied : CommandsAreSupplied

module _ (laws : Laws) (dev slot : ℕ) (fis : List ℕ) (low : slot < 32) (later : List Event) (none : AreNotIssued slot later) where
  sent_now : (old new : ControllerState) (run : call.Runs old (call.Turned (next.Order dev slot fis) ∷ later) new) (was : Sources) → AreSources old slot was
      → (source : Source) → (sources_after slot was old (call.Turned (next.Order dev slot fis) ∷ later) new run).issued ≡ Some source → IsFisOf (command_of source) fis
  sent_now old new run was are source is =
      let order : IsOrderOf old dev slot fis = laws.slots old run.1.0 dev slot fis run.1.1 in
      let was_is : was.issued ≡ Some source = sym (all_kept slot later run.1.0 new run.1.2 was none) ∙ is in
      fis_of (command_of source) order.command fis order.bytes
      (subst (λ (o : Option core_command.Command). MatchOption o (Unit {0}) (IsIssuedFrom (command_of source))) order.is
      (laws.core old run.0 slot was are source was_is))

  sent_then : (before : List Event) (old new : ControllerState) (run : call.Runs old (before ++ call.Turned (next.Order dev slot fis) ∷ later) new) (was : Sources)
      → AreSources old slot was → (source : Source)
      → (sources_after slot was old (before ++ call.Turned (next.Order dev slot fis) ∷ later) new run).issued ≡ Some source → IsFisOf (command_of source) fis
  sent_then [] old new run was are source is = sent_now old new run was are source is
  sent_then (event ∷ before) old new run was are source is =
      let mid : ControllerState = run.1.0 in
      let kept : IsController mid = first_kept (before ++ call.Turned (next.Order dev slot fis) ∷ later) mid new run.1.2 in
      sent_then before mid new run.1.2 (sources_by slot old event mid run.1.1 was)
      (laws.supplied old mid (event ∷ []) (run.0, (mid, run.1.1, (kept, refl))) slot low was are) source is

  pub still : (before calls : List Event) → calls ≡ before ++ call.Turned (next.Order dev slot fis) ∷ later → (old new : ControllerState)
      → (run : call.Runs old calls new) (was : Sources) → AreSources old slot was → (source : Source)
      → (sources_after slot was old calls new run).issued ≡ Some source → IsFisOf (command_of source) fis
  still before calls is old new =
      subst (λ (l : List Event). (run : call.Runs old l new) (was : Sources) → AreSources old slot was → (source : Source)
      → (sources_after slot was old l new run).issued ≡ Some source → IsFisOf (command_of source) fis) (sym is)
      (λ run was are source so. sent_then before old new run was are source so)

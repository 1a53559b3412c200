-- The FIS of a command that goes is the one that was issued in its slot.
use Rattle.std.proofs.Common.{◌≡◌, ℕ, Bool, true, false, List, Option, Some, None, refl, sym, ap, subst, ◌∙◌}
use Rattle.std.specs.{Prelude.MatchOption, Option.option_map}
use Rattle.slots.specs.Slots.{Issue, issue_at, match_some}
use Rattle.guest_fetch.specs.{Commands.Fetched, declared.moves.Move.Move}
use Rattle.hba_commands.specs.declared.command.Command as core_command
use Rattle.hba_fbs.specs.{Turning.orders, Views.last_command, declared.turn.Turn.{Turn, TheVariants.{Orders, Rests}}}
use Rattle.ahci_controller.specs.Next.{Frames, FramesFor, GoesIf, Reads, RestsNow, Turns, TurnsIf, count_next, counted_slot, feed_next, is_halted}
use Rattle.ahci_controller.specs.{Next.{next_device, next_read, next_slot, next_write, order_next, payload_step, rest, written}, Moving.count_of}
use Rattle.ahci_controller.specs.{States.{ControllerState, kept}, declared.next.Next.Next}
use Rattle.ahci_controller.specs.declared.next.Next.TheVariants as next
use Rattle.controller_laws.specs.Sources.{CoreHasSupplied, IsIssuedFrom, command_of}
use Rattle.machine_laws.proofs.Calls.{ruled}
use Rattle.machine_laws.specs.Feeding.{IsFisOf, IsOrderOf, OrdersAreIssued, OrdersAreOfSlots}

-- what it says to do next, if it is a command, is the one of its slot
abbrev pub IsSound : ControllerState → Next → Type 0
IsSound c (next.Order dev slot fis) = IsOrderOf c dev slot fis
IsSound c said = Unit {0}

-- writes to the guest are none
count_sound : (c : ControllerState) (f : Option Fetched) → MatchOption (option_map (λ command. next.Counted (count_of command)) f) (Unit {0}) (IsSound c)
count_sound c None = tt
count_sound c (Some f) = tt

counted_sound : (c : ControllerState) (s : Option ℕ) → MatchOption (match_some s None (count_next c)) (Unit {0}) (IsSound c)
counted_sound c None = tt
counted_sound c (Some s) = count_sound c (kept c s)

posted_sound : (c : ControllerState) (m : Option Move) → MatchOption (match_some m (match_some (counted_slot c.writes) None (count_next c)) (λ w. Some (next.Posted w))) (Unit {0}) (IsSound c)
posted_sound c None = counted_sound c (counted_slot c.writes)
posted_sound c (Some m) = tt

payload_sound : {A : Type 0} (c : ControllerState) (f : A → Next) (s : Option A) → ((a : A) → IsSound c (f a))
    → MatchOption (match_some s (rest c) (λ a. Some (f a))) (Unit {0}) (IsSound c)
payload_sound c f None sound = posted_sound c c.writes.posted
payload_sound c f (Some s) sound = sound s

-- Data is none
feed_sound : (c : ControllerState) (dev number : ℕ) (turn : Turn) → IsSound c (feed_next dev number turn)
feed_sound c dev number Rests = tt
feed_sound c dev number other = tt

-- a command is
order_sound : (c : ControllerState) (slot : ℕ) (i : Option Issue) (l : Option core_command.Command) → issue_at c.core.slots slot ≡ i → last_command c.core.commands slot ≡ l
    → IsSound c (order_next slot (match_some i Rests (λ issue. match_some l Rests (Orders issue.dev slot))))
order_sound c slot None l is there = tt
order_sound c slot (Some issue) None is there = tt
order_sound c slot (Some issue) (Some command) is there = record {
  command = command;
  is = there;
  bytes = refl;
  owner = subst (λ (o : Option Issue). MatchOption o ⊥ (λ x. x.dev ≡ issue.dev)) (sym is) refl;
}

said : (c : ControllerState) (is what : Next) → is ≡ what → IsSound c what → IsSound c is
said c is what same sound = subst (IsSound c) (sym same) sound

frames : (device slot : Option ℕ) (fed : Bool) (c : ControllerState) (result : Next) (d : ControllerState) → FramesFor device slot fed c result d → IsSound c result
frames None None fed c result d h = said c result next.Nothing h.1 tt
frames None (Some slot) fed c result d h =
    said c result (order_next slot (orders c.core slot)) h.is (order_sound c slot (issue_at c.core.slots slot) (last_command c.core.commands slot) refl refl)
frames (Some dev) None fed c result d h = said c result _ h.is (feed_sound c dev _ _)
frames (Some dev) (Some slot) false c result d h = said c result _ h.is (feed_sound c dev _ _)
frames (Some dev) (Some slot) true c result d h =
    said c result (order_next slot (orders c.core slot)) h.is (order_sound c slot (issue_at c.core.slots slot) (last_command c.core.commands slot) refl refl)

reads : (o : Option ℕ) (c m : ControllerState) (result : Next) (d : ControllerState) → MatchOption o (RestsNow m result d) (λ slot. Reads m slot result d) → IsSound c result
reads None c m result d h = said c result next.Nothing h.1 tt
reads (Some slot) c m result d h = said c result _ h.0 tt

runs : (o : Option ℕ) (c : ControllerState) (result : Next) (d : ControllerState) → MatchOption o (Frames c result d) (λ slot. Reads c slot result d) → IsSound c result
runs None c result d h = frames (next_device c) (next_slot c) c.circle.fed c result d h
runs (Some slot) c result d h = said c result _ h.0 tt

goes : (started : Bool) (c : ControllerState) (result : Next) (d : ControllerState) → GoesIf started c result d → IsSound c result
goes true c result d h = runs (next_read c) c result d h
goes false c result d h = reads (next_read h.middle) c h.middle result d h.reads

turns_if : (halted : Bool) (c : ControllerState) (result : Next) (d : ControllerState) → TurnsIf halted c result d → IsSound c result
turns_if true c result d h = said c result next.Nothing h.1 tt
turns_if false c result d h = goes c.core.registers.started c result d h

-- the commands and the issues are those of the controller before what it wrote is let go
same_core : (c : ControllerState) (result : Next) → IsSound (written c) result → IsSound c result
same_core c (next.Order dev slot fis) h = record { command = h.command; is = h.is; bytes = h.bytes; owner = h.owner }
same_core c other h = tt

pub turns : (c : ControllerState) (result : Next) (d : ControllerState) → Turns c result d → IsSound c result
turns c result d h = by (next_write c) (payload_sound c (λ s. next.Payload s.write) (payload_step c) (λ s. tt)) h
  where
    by : (o : Option Next) → MatchOption o (Unit {0}) (IsSound c)
        → MatchOption o (TurnsIf (is_halted (written c)) (written c) result d) (λ write. (result ≡ write) × (d ≡ written c)) → IsSound c result
    by None sound is = same_core c result (turns_if (is_halted (written c)) (written c) result d is)
    by (Some write) sound is = said c result write is.0 sound

fis_of : (o : Option Fetched) (command : core_command.Command) (fis : List ℕ) → fis ≡ command.cfis → IsIssuedFrom o command → IsFisOf o fis
fis_of None command fis bytes h = h
fis_of (Some f) command fis bytes h = bytes ∙ ap (λ (x : core_command.Command). x.cfis) h

pub issued : CoreHasSupplied → OrdersAreIssued
issued law old dev slot fis new rules h =
    let is : IsOrderOf old.controller dev slot fis = turns old.controller (next.Order dev slot fis) h.middle.controller h.does.turns in
    record {
      issued = is;
      supplied = λ sources are source from. fis_of (command_of source) is.command fis is.bytes
          (subst (λ (o : Option core_command.Command). MatchOption o (Unit {0}) (IsIssuedFrom (command_of source))) is.is
          (law old.controller (ruled old rules) slot sources are source from));
    }

pub of_slots : OrdersAreOfSlots
of_slots c d dev slot fis h = turns c (next.Order dev slot fis) d h

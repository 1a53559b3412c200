-- Behind all that is to be written to the guest, what the controller says to do next is no write.
use Rattle.std.proofs.Common.{◌≡◌, ◌∙◌, ℕ, Bool, true, false, List, Option, Some, None, ap, refl, subst}
use Rattle.std.specs.Prelude.{MatchOption}
use Rattle.hba_fbs.specs.Turning.{orders}
use Rattle.hba_fbs.specs.declared.turn.Turn as turn_type
use Rattle.hba_fbs.specs.declared.turn.Turn.TheVariants as turn
use Rattle.ahci_controller.specs.Fetching.{next_number}
use Rattle.ahci_controller.specs.Next.{FeedsTo, Frames, FramesFor, GoesIf, OrdersSlot, Reads, RestsNow, RunsNow, StartsUp, Turns, TurnsIf, feed_next, is_halted}
use Rattle.ahci_controller.specs.Next.{next_device, next_read, next_slot, next_write, order_next, turn_to, written}
use Rattle.ahci_controller.specs.{States.ControllerState, declared.next.Next.Next}
use Rattle.machine_laws.specs.ControllerLaws.{TurnsWriteNothing, is_write}

fed : (dev number : ℕ) (t : turn_type.Turn) → is_write (feed_next dev number t) ≡ false
fed dev number turn.Rests = refl
fed dev number (turn.Feeds to slot offset len) = refl
fed dev number (turn.Orders to slot command) = refl

ordered : (slot : ℕ) (t : turn_type.Turn) → is_write (order_next slot t) ≡ false
ordered slot turn.Rests = refl
ordered slot (turn.Feeds to of offset len) = refl
ordered slot (turn.Orders to of command) = refl

feeds : (old : ControllerState) (dev : ℕ) (said : Next) (new : ControllerState) → FeedsTo old dev said new → is_write said ≡ false
feeds old dev said new h = ap is_write h.is ∙ fed dev (next_number old.wants) (turn_to old dev)

goes : (old : ControllerState) (slot : ℕ) (said : Next) (new : ControllerState) → OrdersSlot old slot said new → is_write said ≡ false
goes old slot said new h = ap is_write h.is ∙ ordered slot (orders old.core slot)

frames : (dev slot : Option ℕ) (was_fed : Bool) (old : ControllerState) (said : Next) (new : ControllerState) → FramesFor dev slot was_fed old said new
    → is_write said ≡ false
frames None None was_fed old said new h = ap is_write h.1
frames None (Some slot) was_fed old said new h = goes old slot said new h
frames (Some dev) None was_fed old said new h = feeds old dev said new h
frames (Some dev) (Some slot) false old said new h = feeds old dev said new h
frames (Some dev) (Some slot) true old said new h = goes old slot said new h

runs : (o : Option ℕ) (old : ControllerState) (said : Next) (new : ControllerState) → MatchOption o (Frames old said new) (λ slot. Reads old slot said new)
    → is_write said ≡ false
runs None old said new h = frames (next_device old) (next_slot old) old.circle.fed old said new h
runs (Some slot) old said new h = ap is_write h.0

begins : (o : Option ℕ) (old : ControllerState) (said : Next) (new : ControllerState) → MatchOption o (RestsNow old said new) (λ slot. Reads old slot said new)
    → is_write said ≡ false
begins None old said new h = ap is_write h.1
begins (Some slot) old said new h = ap is_write h.0

on : (started : Bool) (old : ControllerState) (said : Next) (new : ControllerState) → GoesIf started old said new → is_write said ≡ false
on true old said new h = runs (next_read old) old said new h
on false old said new h = begins (next_read h.middle) h.middle said new h.reads

by : (halted : Bool) (old : ControllerState) (said : Next) (new : ControllerState) → TurnsIf halted old said new → is_write said ≡ false
by true old said new h = ap is_write h.1
by false old said new h = on old.core.registers.started old said new h

behind : (old : ControllerState) (said : Next) (new : ControllerState) → next_write old ≡ None → Turns old said new → is_write said ≡ false
behind old said new none h =
    by (is_halted (written old)) (written old) said new
    (subst (λ (o : Option Next). MatchOption o (TurnsIf (is_halted (written old)) (written old) said new) (λ write. (said ≡ write) × (new ≡ written old))) none h)

pub turns : TurnsWriteNothing
turns old said new h = behind old.controller said h.middle.controller h.does.written.none h.does.turns

-- What takes a bit out of PxSACT: AHCI 1.3.1, sections 3.3.13 (PxSACT), 3.3.16 (PxFBS.DEC) and 9.3; Serial ATA 3.x, 10.5 (Set
-- Device Bits) and 13.6 (native command queuing).
use Rattle.std.specs.Prelude.{◌≡◌, ◌<◌, ℕ, ◌⊎◌, Bool, true, false, List, Some}
use Rattle.slots.specs.Slots.{Issue, has_bit, is_queued_issue, issue_at}
use Rattle.ahci_registers.specs.declared.register.Register.TheVariants.{PxSact}
use Rattle.hba_fbs.specs.Taking.{port_of}
use Rattle.hba_laws.specs.{CoreHistories.event_by, Cores.RunsBy, History.{History, Named, filled, is_all_filled}}
use Rattle.ahci_controller.specs.{Access.fits, Reading.shown, States.ControllerState, Taking.room_for}
use Rattle.controller_laws.specs.{CoreEvents.{AreCoreEvents, of_event}, Ends.{AreTold, IsFreed, Stops}, Events.{Does, Event, IsController, Took}}
use Rattle.controller_laws.specs.Events.{Wrote, WroteWide}

-- A Set Device Bits FIS of the slot's own device names it, and all bytes of its command were moved.
pub record IsNamed (s : ℕ) (past : ℕ → History) (c : ControllerState) (frame : List ℕ) : Type 0 where
  pub issue : Issue
  pub is : issue_at c.core.slots s ≡ Some issue
  pub queued : is_queued_issue issue ≡ true
  pub own : issue.dev ≡ port_of frame
  pub mask : ℕ
  pub heard : event_by c.core (room_for c (port_of frame)) frame ≡ Some (Named mask)
  pub names : has_bit mask s ≡ true
  pub moved : is_all_filled (filled s (past issue.dev)) issue.work.len ≡ true

-- By such a FIS; or by a write that clears or resets the device, or stops the port. No other call takes it.
abbrev pub ActiveFalls : ℕ → (ℕ → History) → (old : ControllerState) → (event : Event) → (new : ControllerState)
    → (does : Does old event new) → RunsBy old.core (of_event old event new does) new.core → Type 0
ActiveFalls s past old (Took frame took) new does run = IsNamed s past old frame
ActiveFalls s past old (Wrote offset value written) new does run =
    IsFreed s past old.core new.core (of_event old (Wrote offset value written) new does) run
    ⊎ Stops old (Wrote offset value written) new does
ActiveFalls s past old (WroteWide offset width value written) new does run =
    IsFreed s past old.core new.core (of_event old (WroteWide offset width value written) new does) run
    ⊎ Stops old (WroteWide offset width value written) new does
ActiveFalls s past old event new does run = ⊥

-- So it is over every call, whatever happened before it.
abbrev pub ActiveBitsFall : Type 0
ActiveBitsFall =
    (old new : ControllerState) (event : Event) → IsController old → IsController new → (does : Does old event new)
    → (are : AreCoreEvents old.core (of_event old event new does) new.core) → (past : ℕ → History) → AreTold old.core past
    → (s : ℕ) → s < 32 → has_bit (shown PxSact old) s ≡ true → has_bit (shown PxSact new) s ≡ false
    → ActiveFalls s past old event new does are.run

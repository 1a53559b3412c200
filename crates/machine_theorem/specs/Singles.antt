-- A stretch of a run of a machine that begins while nothing is under way at a disk, and the command of a slot in it: which FIS of it the disk heard, and
-- what the disk did of it, as it said that this ended well (AHCI 1.3.1, 3.3.14, PxCI, and 5.3.8; Serial ATA 3.x, 10.5, Register Device to Host; ACS-3, 4,
-- DMA and PIO data-out protocols).
use Rattle.std.specs.Prelude.{ℕ, ◌≡◌, Bool, true, false, List, [], ◌∷◌, ◌++◌, Some}
use Rattle.fis_view.specs.Frames.{marked}
use Rattle.ahci_controller.specs.States.{ControllerState}
use Rattle.ahci_controller.specs.declared.next.Next.TheVariants as next
use Rattle.controller_laws.specs.Events as call
use Rattle.controller_laws.specs.Events.{Event, Runs}
use Rattle.block_command.specs.Laws.{IsEarned}
use Rattle.block_disk.specs.Laws.{Page}
use Rattle.disk_pages.specs.declared.profile.Profile.{Profile}
use Rattle.sata_disk.specs.State.{DiskState}
use Rattle.sata_disk_books.specs.Books.{IsAskedFor, page_in}
use Rattle.sata_disk_laws.specs.Calls.{Call}
use Rattle.ahci_machine.specs.{Gathers.host_stamp, States.{MachineState, bay_at}, declared.bay.Unit.TheVariants.Disk}
use Rattle.machine_laws.specs.{ControllerLaws.{RunsRuled, calls_in}, Deeds.Deed, Falling.{leaving, way_to}, Rising.{is_over, on_way}}
use Rattle.machine_theorem.specs.{Commands.{AreNotIssued, IsSentFrom}, Given.IsWhole, Identity.is_for, InTurn.is_asking, Standing.IsAsSupplied}
use Rattle.machine_theorem.specs.Waits.{is_commanded}

-- ---- the beginning of a stretch

-- A disk is at a port, on a connection that is not over. Nothing is on its way to it, and none of its FISes is on its way on this connection.
pub record BeginsIdle (n c : ℕ) (at : MachineState) : Type 0 where
  pub disk : DiskState
  pub there : (bay_at at n).unit ≡ Disk disk
  pub leaving : leaving at ≡ []
  pub down : way_to at n ≡ []
  pub up : on_way n c at ≡ []
  pub lasts : is_over at.fan n c ≡ false

-- ---- what the guest keeps to

-- A FIS that is a command for the disk is that of a slot, for this device.
abbrev pub IsOfDevice : (many : Bool) → (n dev : ℕ) → ControllerState → Event → Type 0
IsOfDevice many n dev c (call.Turned (next.Order to slot fis)) = is_for many n (record { bytes = fis; stamp = host_stamp to }) ≡ true
    → is_asking (marked fis 0) ≡ true → is_commanded dev c (call.Turned (next.Order to slot fis)) ≡ true
IsOfDevice many n dev c event = Unit {0}

abbrev pub AllOfDevice : (many : Bool) → (n dev : ℕ) → (old : ControllerState) → (events : List Event) → (now : ControllerState) → Runs old events now → Type 0
AllOfDevice many n dev old [] now run = Unit {0}
AllOfDevice many n dev old (event ∷ later) now run = IsOfDevice many n dev old event × AllOfDevice many n dev run.1.0 later now run.1.2

-- ---- the command whose bit falls

-- A FIS that the disk heard went from the slot in the stretch. Since then nothing was issued in the slot.
pub record IsFromSlot (dev slot : ℕ) (old : MachineState) (before : List Deed) (at : MachineState) (first : RunsRuled old before at) (deeds : List Deed)
    (now : MachineState) (run : RunsRuled at deeds now) (bytes : List ℕ) : Type 0 where
  pub order : List ℕ
  pub ordered : IsSentFrom at.controller (calls_in at deeds now run) dev slot order
  pub heard : bytes ≡ marked order 0
  pub alone : AreNotIssued slot ordered.later
  -- So it is the FIS of the command that the guest had supplied for the slot, as it was issued there last before its bit falls.
  pub whole : IsWhole old before at first deeds now run
  pub supplied : IsAsSupplied old (before ++ deeds) now whole.all slot order

pub record StartsWith (first calls : List Call) : Type 0 where
  pub more : List Call
  pub is : calls ≡ first ++ more

-- The books of the disk had this command, as it said that it ended well, and it had earned that: of a read the caller gave all bytes of its sectors, and all
-- were sent; of a write it stored all that came, and flushed where they are to last. It is what such a FIS asked for.
pub record IsSlots (dev slot : ℕ) (old : MachineState) (before : List Deed) (at : MachineState) (first : RunsRuled old before at) (deeds : List Deed)
    (now : MachineState) (run : RunsRuled at deeds now) (p : Profile) (limit : ℕ) (calls : List Call) : Type 0 where
  pub page : Page
  pub books : page_in p limit calls 32 ≡ Some page
  pub earned : IsEarned page.command page.ledger page.command.write
  pub asked : IsAskedFor p limit calls page.command
  pub slots : IsFromSlot dev slot old before at first deeds now run asked.bytes

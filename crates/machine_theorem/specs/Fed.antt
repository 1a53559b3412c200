-- The bytes of a Data FIS are read for the slot and the place of which the controller sends it (AHCI 1.3.1, 4.2.3.3, 5.3 and 9.3, what a port sends; Serial ATA
-- 3.x, 10.5, Data).
use Rattle.std.specs.Prelude.{ℕ, ◌≡◌, ◌⊎◌, Bool, List, [], Some}
use Rattle.hba_fbs.specs.declared.turn.Turn.TheVariants.{Feeds}
use Rattle.ahci_controller.specs.{Next.turn_to, declared.{feeding.Fed.TheVariants.Goes, latch.Edge.Edge}}
use Rattle.ahci_controller.specs.declared.next.Next.TheVariants as next
use Rattle.ahci_machine.specs.{Gathers.GatheringState, States.{IsOpeningMachine, MachineState, gathering_at}, declared.gathering.Feed.Feed}
use Rattle.ahci_machine.specs.declared.act.Act.TheVariants as act
use Rattle.machine_laws.specs.{ControllerLaws.RunsRuled, Deeds.{Deed, Does, Moved}, Feeding.{came_in, data_with}}

-- ---- what is read

-- the controller said that these bytes are due
abbrev pub says_feed : Feed → Deed
says_feed f = Moved (act.Does (next.Feed f.dev f.number f.slot f.offset f.len))

-- it is read for the same before
pub record WasFed (old : MachineState) (dev : ℕ) (feed : Feed) : Type 0 where
  pub gathering : GatheringState
  pub there : gathering_at old dev ≡ Some gathering
  pub same : gathering.feed ≡ feed

-- What is read for a device is for the slot and the place that the controller said as it began, until others are to be read. So each read of it
-- lies where the table of that slot says, from that place on (`sent_frames_are_supplied` of `machine_laws`).
abbrev pub FeedsStay : Type 0
FeedsStay = (old : MachineState) (deed : Deed) (new : MachineState) → Does old deed new → (dev : ℕ) (g : GatheringState) → gathering_at new dev ≡ Some g
    → (deed ≡ says_feed g.feed) ⊎ WasFed old dev g.feed

-- ---- what goes

-- It was read for this slot, from this byte on, and has all that came for it.
pub record IsFedFor (old : MachineState) (deeds : List Deed) (now : MachineState) (run : RunsRuled old deeds now) (dev : ℕ) (message : Bool) (line : Edge)
    (new : MachineState) (does : Does now (Moved (act.Gathers dev (Goes message line))) new) (slot offset len : ℕ) : Type 0 where
  pub slot_is : does.does.gathering.feed.slot ≡ slot
  pub offset_is : does.does.gathering.feed.offset ≡ offset
  pub len_is : does.does.gathering.feed.len ≡ len
  pub bytes : does.does.gathering.bytes ≡ data_with dev (came_in dev [] old deeds now run)

-- So it is over every run from a machine that opens, where a Data FIS goes.
abbrev pub FedDataAreOfTheirSlots : Type 0
FedDataAreOfTheirSlots = (ports : ℕ) (legacy : Bool) (old : MachineState) → IsOpeningMachine ports legacy old
    → (deeds : List Deed) (now : MachineState) (run : RunsRuled old deeds now) (dev : ℕ) (message : Bool) (line : Edge) (new : MachineState)
    → (does : Does now (Moved (act.Gathers dev (Goes message line))) new) → (slot offset len : ℕ) → turn_to now.controller dev ≡ Feeds dev slot offset len
    → IsFedFor old deeds now run dev message line new does slot offset len

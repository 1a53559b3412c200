-- A bit of PxSACT falls as a FIS is taken only where the device that owns the slot's command says so, and a disk says so only once its command
-- has earned its end (AHCI 1.3.1, 3.3.13, PxSACT; Serial ATA 3.x, 10.5, Set Device Bits, and 13.6, native command queuing).
use Rattle.std.specs.{Prelude.{◌≡◌, ◌⊎◌, ◌<◌, ℕ, Bool, true, false, List, [], ◌∷◌}, List.Contains}
use Rattle.fis_view.specs.Frames.{Stamped}
use Rattle.fan_out.specs.declared.fan_out.FanOut.{FanOut}
use Rattle.multiplier.specs.State.{pm_port}
use Rattle.slots.specs.Slots.{has_bit}
use Rattle.ahci_registers.specs.declared.register.Register.TheVariants.{PxSact}
use Rattle.hba_laws.specs.History.{History}
use Rattle.ahci_controller.specs.{Reading.shown, declared.taking.Took.Took}
use Rattle.controller_laws.specs.{Active.IsNamed, Ends.AreTold}
use Rattle.disk_pages.specs.declared.profile.Profile.{Profile}
use Rattle.sata_disk.specs.State.{DiskState, new_disk}
use Rattle.sata_disk_books.specs.{Books.page_in, Ended.HasEarned}
use Rattle.sata_disk_laws.specs.{Calls.{AreCalls, Call}, Laws.reached}
use Rattle.ahci_machine.specs.{States.{HasRules, IsOpeningMachine, MachineState, bay_at}, declared.bay.Unit.TheVariants.Disk}
use Rattle.ahci_machine.specs.declared.act.Act.TheVariants as act
use Rattle.machine_laws.specs.{ControllerLaws.RunsRuled, Deeds.{Deed, Does, FrameOffered, Moved, Wrote}, Rising.{is_multiplier, sent_by}}
use Rattle.machine_theorem.specs.Origins.{sender}

-- ---- what a device says

-- The command of a place of the disk at a port has earned its end, whatever the calls are by which the disk came to be as it is: of a read the
-- caller gave all bytes of its sectors, and all were sent; of a write it stored all that came, and flushed where they are to last.
pub record HasEarnedAt (m : MachineState) (n place : ℕ) : Type 0 where
  pub disk : DiskState
  pub there : (bay_at m n).unit ≡ Disk disk
  pub earned : (p : Profile) (limit : ℕ) (calls : List Call) → AreCalls (new_disk p limit) calls → disk ≡ reached p limit calls
      → HasEarned (page_in p limit calls place)

-- what says of the queued command with this tag that it ended well: a disk, or a device of the caller's own
abbrev pub EndOrigin : MachineState → Deed → (tag : ℕ) → Type 0
EndOrigin m (Moved (act.Speaks n out)) tag = HasEarnedAt m n tag
EndOrigin m (FrameOffered n frame told) tag = Unit {0}
EndOrigin m deed tag = ⊥

-- A device sends such a FIS by a deed. Behind a multiplier its stamp has the port of the device.
pub record IsEndBy (f : Stamped) (tag : ℕ) (old : MachineState) (deed : Deed) (new : MachineState) (does : Does old deed new) : Type 0 where
  pub sent : Contains (sent_by old deed new does) f
  pub port : is_multiplier old.fan ≡ true → f.stamp.port ≡ sender deed
  pub origin : EndOrigin old deed tag

-- or by one of a run
abbrev pub IsEndIn : Stamped → (tag : ℕ) → (old : MachineState) → (deeds : List Deed) → (new : MachineState) → RunsRuled old deeds new → Type 0
IsEndIn f tag old [] new run = ⊥
IsEndIn f tag old (deed ∷ later) new run = IsEndBy f tag old deed run.1.0 run.1.1 ⊎ IsEndIn f tag run.1.0 later new run.1.2

-- ---- where a bit falls

-- A bit of PxSACT falls by this FIS.
pub record IsEnded (old : MachineState) (deeds : List Deed) (now : MachineState) (run : RunsRuled old deeds now) (end : FanOut) (fis : Stamped) (slot : ℕ)
    : Type 0 where
  -- It names the slot, and is of the device that owns its command, all bytes of which were moved.
  pub past : ℕ → History
  pub told : AreTold now.controller.core past
  pub named : IsNamed slot past now.controller fis.bytes
  -- A device sent it in this run; behind a multiplier it is the one at the port that the PM Port names. A disk's command of this tag had
  -- earned its end.
  pub sent : IsEndIn fis slot old deeds now run
  pub port : is_multiplier end ≡ true → (fis.stamp.port < 15) × (pm_port fis ≡ fis.stamp.port)

-- So it is of each that falls as a FIS is taken, over every run from a machine that opens.
abbrev pub EndsAreOfDevices : Type 0
EndsAreOfDevices = (ports : ℕ) (legacy : Bool) (old : MachineState) → IsOpeningMachine ports legacy old
    → (deeds : List Deed) (now : MachineState) (run : RunsRuled old deeds now) (took : Took) (new : MachineState)
    → (does : Does now (Moved (act.Takes took)) new) → HasRules new → (slot : ℕ) → slot < 32
    → has_bit (shown PxSact now.controller) slot ≡ true → has_bit (shown PxSact new.controller) slot ≡ false
    → IsEnded old deeds now run new.fan does.does.frame slot

-- as a FIS is taken, or as the guest writes a register
abbrev pub MayEnd : Deed → Type 0
MayEnd (Moved (act.Takes took)) = Unit {0}
MayEnd (Wrote offset width value written) = Unit {0}
MayEnd deed = ⊥

-- Nothing else takes one.
abbrev pub OthersEndNone : Type 0
OthersEndNone = (ports : ℕ) (legacy : Bool) (old : MachineState) → IsOpeningMachine ports legacy old
    → (deeds : List Deed) (now : MachineState) (run : RunsRuled old deeds now) (deed : Deed) (new : MachineState)
    → Does now deed new → HasRules new → (slot : ℕ) → slot < 32
    → has_bit (shown PxSact now.controller) slot ≡ true → has_bit (shown PxSact new.controller) slot ≡ false → MayEnd deed

-- What a caller knows of its machine, of what it is told to write, and of its disks.
use Rattle.std.specs.Prelude.{◌≡◌, ◌<◌, ℕ, Bool, true, false, List, [], ◌∷◌, ◌++◌, length, slice_index, Some, Result, Ok}
use Rattle.std.specs.declared.alloc.AllocError.{AllocError}
use Rattle.fis_view.specs.Frames.{Stamped}
use Rattle.slots.specs.Slots.{has_bit}
use Rattle.guest_fetch.specs.declared.moves.Move.{Move}
use Rattle.ahci_registers.specs.declared.register.Register.{Register, TheVariants.{PxCi, PxSact}}
use Rattle.ahci_controller.specs.{Reading.shown, declared.taking.Took.Took}
use Rattle.ahci_controller.specs.declared.next.Next.TheVariants as next
use Rattle.block_command.specs.declared.command.Command.{Command}
use Rattle.block_disk.specs.Laws.{Page}
use Rattle.block_engine.specs.declared.request.Request.{Request}
use Rattle.block_engine.specs.declared.request.What.TheVariants as what
use Rattle.block_queue.specs.Line.{has_bit as has_tag}
use Rattle.ata_reply.specs.declared.reply.Reply.TheVariants as replies
use Rattle.controller_laws.specs.Events.{Event}
use Rattle.disk_pages.specs.declared.profile.Profile.{Profile}
use Rattle.sata_disk.specs.State.{DiskState, new_disk}
use Rattle.sata_disk.specs.declared.out.Out.TheVariants as out
use Rattle.sata_disk_books.specs.Books.{page_in}
use Rattle.sata_disk_laws.specs.Calls.{Call}
use Rattle.ahci_machine.specs.{Registers.lent_bytes, States.{IsOpeningMachine, MachineState, bay_at}, declared.{act.Act.Act, bay.Unit.Unit as Inside}}
use Rattle.ahci_machine.specs.declared.{bay.Unit.TheVariants.Disk, ports.PortFault.PortFault, request.MediumId.MediumId}
use Rattle.ahci_machine.specs.declared.act.Act.TheVariants as act
use Rattle.machine_laws.specs.{ControllerLaws.RunsRuled, Deeds.{Deed, Does, Moved, Put}, Heard.{AllHeard, HasLived, life_in, no_life}}
use Rattle.machine_theorem.specs.{Commands.IsOfSlot, Completed.IsCompletedBy, Guest.IsOfGuest, Moments.{Earns, GivesNext, IsBroughtFor, IsEndedFor}}
use Rattle.machine_theorem.specs.{Moments.OfNewDisk, Parts.IsBrought, Standing.{HasStood, IsAsSupplied}, Writes.{IsEndedSupplied, IsFallenSupplied}}
use Rattle.machine_theorem.specs.Writes.{IsStore, IsSuppliedData, StoresNext, SuppliedToNewDisk}

-- some run led here from a machine that opened
pub record IsLed (now : MachineState) : Type 0 where
  pub ports : ℕ
  pub legacy : Bool
  pub first : MachineState
  pub opens : IsOpeningMachine ports legacy first
  pub deeds : List Deed
  pub run : RunsRuled first deeds now

-- A new disk is put at a port, or refused there: whatever run it was, it goes on with that.
abbrev pub PutsNew : ℕ → Profile → (limit : ℕ) → MachineState → MachineState → Type 0
PutsNew port profile limit old new = (led : IsLed old)
    → (told : Result (Unit {0}) (Inside × PortFault)) × (after : IsLed new) × (after.deeds ≡ led.deeds ++ Put port (Disk (new_disk profile limit)) told ∷ [])

-- A move says that payload is to be written: then the bytes that it lends were brought, in whatever run it was that led here.
abbrev pub LendsBrought : MachineState → Result Act AllocError → MachineState → Type 0
LendsBrought now told new = (m : Move) → told ≡ Ok (act.Writes (next.Payload m)) → (led : IsLed now) → IsBrought led.first led.deeds now led.run m (lent_bytes new)

-- And they were sent for a command that came from a slot, if a disk sent them that was new as it was put at its port.
abbrev pub LendsOfSlots : MachineState → Result Act AllocError → MachineState → Type 0
LendsOfSlots now told new = (m : Move) → told ≡ Ok (act.Writes (next.Payload m)) → (led : IsLed now) → IsBroughtFor led.first led.deeds now led.run m (lent_bytes new)

-- A move says that a disk sends Data for a command: they are the next bytes that the caller gave for the sectors of a command from a slot.
abbrev pub SpeaksOfSlots : MachineState → Result Act AllocError → Type 0
SpeaksOfSlots now told = (n place len : ℕ) → told ≡ Ok (act.Speaks n (out.Data place len)) → (led : IsLed now)
    → OfNewDisk led.first led.deeds now led.run n place (GivesNext place)

-- A bit of PxSACT falls by a move that takes a FIS: the device that owns the slot said so; if a disk did that was new as it was put at its port,
-- then its command of this tag had earned that when it sent the FIS, and came from a slot.
abbrev pub EndsEarned : MachineState → Result Act AllocError → MachineState → Type 0
EndsEarned now told new = (took : Took) → told ≡ Ok (act.Takes took) → (led : IsLed now) → (slot : ℕ) → slot < 32
    → has_bit (shown PxSact now.controller) slot ≡ true → has_bit (shown PxSact new.controller) slot ≡ false
    → (fis : Stamped) × IsEndedFor led.first led.deeds now led.run new.fan fis slot

-- A bit of PxCI falls by such a move, and PxSACT does not show the slot: the device that owns the slot completed its command by the FIS, and
-- sent it, unless it is the control port.
abbrev pub EndsCompleted : MachineState → Result Act AllocError → MachineState → Type 0
EndsCompleted now told new = (took : Took) → told ≡ Ok (act.Takes took) → (led : IsLed now) → (slot : ℕ) → slot < 32
    → has_bit (shown PxCi now.controller) slot ≡ true → has_bit (shown PxCi new.controller) slot ≡ false
    → has_bit (shown PxSact new.controller) slot ≡ false → (fis : Stamped) × IsCompletedBy led.first led.deeds now led.run new.fan fis slot

-- A move asks for a store: the bytes are behind those that were stored before, of all that came for the command. If the disk was new as it was put at
-- its port, the command came from a slot, and all that came for it was supplied.
abbrev pub AsksSupplied : MachineState → Result Act AllocError → MachineState → Type 0
AsksSupplied now told new = (id : MediumId) (asked : Request) → told ≡ Ok (act.Asks id asked) → (led : IsLed now) → (lba count : ℕ) → asked.what ≡ what.Store lba count
    → IsStore led.first led.deeds now led.run id asked lba count new

-- What the machine holds for it behind such a move are these bytes.
abbrev pub HoldsSupplied : MachineState → MediumId → (place : ℕ) → List ℕ → Type 0
HoldsSupplied new id place bytes = (now : MachineState) (asked : Request) → Does now (Moved (act.Asks id asked)) new → (led : IsLed now) → (lba count : ℕ)
    → asked.place ≡ Some place → asked.what ≡ what.Store lba count → SuppliedToNewDisk led.first led.deeds now led.run id.port place (StoresNext lba count bytes)

-- A move says that a disk ends commands well: if it was new as it was put at its port, each of them has earned that, and what came for it was supplied.
abbrev pub SpeaksSupplied : MachineState → Result Act AllocError → Type 0
SpeaksSupplied now told = (n tags : ℕ) → told ≡ Ok (act.Speaks n (out.Ends tags)) → (led : IsLed now) → (tag : ℕ) → tag < 32 → has_tag tags tag ≡ true
    → SuppliedToNewDisk led.first led.deeds now led.run n tag Earns

-- A bit of PxSACT falls by a move that takes a FIS: what the write stored whose bit it is was supplied, if such a disk said that it ended.
abbrev pub EndsSupplied : MachineState → Result Act AllocError → MachineState → Type 0
EndsSupplied now told new = (took : Took) → told ≡ Ok (act.Takes took) → (led : IsLed now) → (slot : ℕ) → slot < 32
    → has_bit (shown PxSact now.controller) slot ≡ true → has_bit (shown PxSact new.controller) slot ≡ false
    → (fis : Stamped) × IsEndedSupplied led.first led.deeds now led.run new.fan fis slot

-- A move says that a disk ends a command well that is not queued: if it was new as it was put at its port, the command has earned
-- that, and what came for it was supplied.
abbrev pub SpeaksDone : MachineState → Result Act AllocError → Type 0
SpeaksDone now told = (n place : ℕ) → told ≡ Ok (act.Speaks n (out.Of place replies.Done)) → (led : IsLed now)
    → SuppliedToNewDisk led.first led.deeds now led.run n place Earns

-- A bit of PxCI falls by a move that takes a FIS, and PxSACT does not show the slot: what the write stored was supplied of which such
-- a disk said Done by this FIS.
abbrev pub FallsSupplied : MachineState → Result Act AllocError → MachineState → Type 0
FallsSupplied now told new = (took : Took) → told ≡ Ok (act.Takes took) → (led : IsLed now) → (slot : ℕ) → slot < 32
    → has_bit (shown PxCi now.controller) slot ≡ true → has_bit (shown PxCi new.controller) slot ≡ false
    → has_bit (shown PxSact new.controller) slot ≡ false → (fis : Stamped) × IsFallenSupplied led.first led.deeds now led.run new.fan fis slot

-- Each FIS that the disk at a port heard since it was put there is of a command in a slot, or has Data that were supplied; and if it was new then,
-- each command that its books have came from a slot. While the slot's bit has stood since an issue there, what was sent from it since is as supplied.
pub record KnowsDisk (now : MachineState) (led : IsLed now) (n : ℕ) : Type 0 where
  pub heard : AllHeard (IsOfGuest led.first led.deeds now led.run n) (life_in n no_life led.first led.deeds now led.run).calls
  pub supplied : AllHeard (λ fis. slice_index fis 0 ≡ 0x46 → IsSuppliedData led.first led.deeds now led.run n fis) (life_in n no_life led.first led.deeds now led.run).calls
  pub commands : (d : DiskState) → (bay_at now n).unit ≡ Disk d → (lived : HasLived (life_in n no_life led.first led.deeds now led.run) d) → (p : Profile) (limit : ℕ)
      → lived.disk ≡ new_disk p limit → (place : ℕ) (page : Page) → page_in p limit (life_in n no_life led.first led.deeds now led.run).calls place ≡ Some page
      → IsOfSlot led.first led.deeds now led.run n p limit (life_in n no_life led.first led.deeds now led.run).calls page.command
  pub stands : (p : Profile) (limit : ℕ) (calls : List Call) (c : Command) → (of : IsOfSlot led.first led.deeds now led.run n p limit calls c)
      → (r : Register) (since : List Event) → HasStood r of.slot since led.first led.deeds now led.run → length of.sent.later < length since
      → IsAsSupplied led.first led.deeds now led.run of.slot of.fis

abbrev pub KnowsDisks : MachineState → Type 0
KnowsDisks now = (led : IsLed now) (n : ℕ) → KnowsDisk now led n

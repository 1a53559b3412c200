-- Where no move is left, each command of a disk waits for somebody.
use Rattle.std.proofs.{Common.{◌≡◌, ℕ, ◌<◌, ◌^◌, ◌⊎◌, inl, inr, Bool, true, false, None, length, refl, sym, ap, subst, ◌∙◌}, lemmas.Bool.{ltb-false}}
use Rattle.std.proofs.lemmas.{Bool.{ltb-true}, List.get_or_past}
use Rattle.std.specs.Prelude.{nat_lt}
use Rattle.block_disk.specs.Table.{is_under_way}
use Rattle.block_engine.specs.Engine.{AsksNothing, IsEngineStart, discards}
use Rattle.block_queue.specs.Line.{command_at}
use Rattle.fan_out.specs.FanOuts.{wants_at}
use Rattle.sata_disk.specs.{Sending.IsOut, State.{DiskState, commands}}
use Rattle.sata_disk_laws.specs.Laws.{IsSilent, Owed, SilenceIsOwed}
use Rattle.ahci_machine.specs.{Resting.{IsQuietBay, OfDisk}, States.{MachineState, bay_at, empty_bay}, declared.bay.{Bay.Bay, Unit.Unit as Inside}}
use Rattle.ahci_machine.specs.declared.bay.Unit.TheVariants.{Disk}
use Rattle.machine_laws.specs.{Disks.IsReached, Rest.{Discarded, Numbers, Others, RestIsOwed, Room, WaitsFor}}

of_disk : (unit : Inside) (d : DiskState) (holds : DiskState → Type 0) → unit ≡ Disk d → OfDisk unit holds → holds d
of_disk unit d holds is h = subst (λ (u : Inside). OfDisk u holds) is h

by_whom : (m : MachineState) (port : ℕ) (d : DiskState) → (discards d.engine ≡ true) ⊎ Owed (commands d) → WaitsFor m port d
by_whom m port d (inl h) = Discarded h
by_whom m port d (inr h) = Others h

-- what is not there is no disk
is_here : (m : MachineState) (port : ℕ) (d : DiskState) (b : Bool) → nat_lt port (length m.bays) ≡ b → (bay_at m port).unit ≡ Disk d → port < length m.bays
is_here m port d true lt there = ltb-true port (length m.bays) lt
is_here m port d false lt there = absurd (no_disk d (sym (ap (λ (b : Bay). b.unit) (get_or_past m.bays port empty_bay (ltb-false port (length m.bays) lt))) ∙ there))
  where
    no_disk : (d : DiskState) → empty_bay.unit ≡ Disk d → ⊥
    no_disk d h = cc

-- it has room, and may ask
has_room : (m : MachineState) (port : ℕ) (d : DiskState) → SilenceIsOwed → (r : IsReached d) → IsQuietBay m.fan port (bay_at m port)
    → (bay_at m port).unit ≡ Disk d → wants_at m.fan port ≡ true → (commands d).queue.next < 2 ^ 63
    → (place : ℕ) → place < 33 → is_under_way (command_at (commands d) place) ≡ true → (discards d.engine ≡ true) ⊎ Owed (commands d)
has_room m port d silence r quiet there room fresh place few under =
    subst (λ (e : DiskState). (discards e.engine ≡ true) ⊎ Owed (commands e)) (sym r.is)
    (silence r.profile r.limit r.calls place r.are r.room few
    (subst (λ (e : DiskState). is_under_way (command_at (commands e) place) ≡ true) r.is under)
    (subst IsSilent r.is silent))
  where
    silent : IsSilent d
    silent = record {
      start = of_disk (bay_at m port).unit d (λ e. IsEngineStart e.engine None) there quiet.starts;
      out = of_disk (bay_at m port).unit d (λ e. wants_at m.fan port ≡ true → IsOut e None) there quiet.says room;
      request = of_disk (bay_at m port).unit d (λ e. AsksNothing e.engine) there quiet.asks;
      fresh = fresh;
    }

by_number : (m : MachineState) (port : ℕ) (d : DiskState) (b : Bool) → SilenceIsOwed → (r : IsReached d) → IsQuietBay m.fan port (bay_at m port)
    → (bay_at m port).unit ≡ Disk d → wants_at m.fan port ≡ true → nat_lt (commands d).queue.next (2 ^ 63) ≡ b
    → (place : ℕ) → place < 33 → is_under_way (command_at (commands d) place) ≡ true → WaitsFor m port d
by_number m port d true silence r quiet there room lt place few under = by_whom m port d (has_room m port d silence r quiet there room (ltb-true _ _ lt) place few under)
by_number m port d false silence r quiet there room lt place few under = Numbers (ltb-false _ _ lt)

by_room : (m : MachineState) (port : ℕ) (d : DiskState) (b : Bool) → SilenceIsOwed → (r : IsReached d) → IsQuietBay m.fan port (bay_at m port)
    → (bay_at m port).unit ≡ Disk d → wants_at m.fan port ≡ b
    → (place : ℕ) → place < 33 → is_under_way (command_at (commands d) place) ≡ true → WaitsFor m port d
by_room m port d true silence r quiet there room place few under = by_number m port d (nat_lt (commands d).queue.next (2 ^ 63)) silence r quiet there room refl place few under
by_room m port d false silence r quiet there room place few under = Room room

pub owed : SilenceIsOwed → RestIsOwed
owed silence m rest are port d small there place few under =
    by_room m port d (wants_at m.fan port) silence (are port d there)
    (rest.ports port small (is_here m port d (nat_lt port (length m.bays)) refl there)) there refl place few under

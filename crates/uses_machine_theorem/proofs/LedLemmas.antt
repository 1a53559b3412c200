-- What a move lends was brought.
use Rattle.std.proofs.Common.{◌≡◌, ℕ, Bool, List, [], ◌∷◌, ◌++◌, Option, Some, None, Result, Ok, Err, refl, sym, ap, ◌∙◌, subst}
use Rattle.std.specs.{Prelude.{◌&&◌, nat_lt, false, true, if◌then◌else◌, IfOk, IfSome, MatchOption}, declared.alloc.AllocError.AllocError}
use Rattle.hba_fbs.specs.Views.{IsCorePort}
use Rattle.slots.specs.{Slots.match_some, Table.IsTable}
use Rattle.block_command.specs.Moments.{Moment, is_storing}
use Rattle.block_disk.specs.Requests.{number_at}
use Rattle.block_engine.specs.{Engine.{bytes_to_store, stored_at}, Numbers.is_number}
use Rattle.block_queue.specs.Line.{command_at}
use Rattle.ahci_controller.specs.Rules.{IsRuled}
use Rattle.ahci_controller.specs.declared.next.Next.TheVariants as next
use Rattle.ata_reply.specs.declared.reply.Reply.TheVariants as replies
use Rattle.disk_pages.specs.declared.profile.Profile.{Profile}
use Rattle.sata_disk.specs.State.{DiskState, commands, new_disk}
use Rattle.sata_disk.specs.declared.out.Out.TheVariants as out
use Rattle.ahci_machine.specs.{Acts.Steps, Answers.{Holds, disk_at, stored_of}, Ports.Puts, States.{HasRules, IsOpeningMachine, MachineState}}
use Rattle.ahci_machine.specs.declared.{act.Act.Act, bay.Unit.{Unit as Inside, TheVariants.Disk}, ports.PortFault.PortFault}
use Rattle.ahci_machine.specs.declared.request.MediumId.{MediumId}
use Rattle.ahci_machine.specs.declared.act.Act.TheVariants as act
use Rattle.machine_laws.specs.{ControllerLaws.RunsRuled, Deeds.{Deed, Does, Moved, Put}}
use Rattle.machine_theorem.specs.{Commands.CommandsOfNewDisks, Completed.CompletionsAreOfDevices, Guest.HeardIsOfGuest, Moments.CompletionsAreEarned}
use Rattle.machine_theorem.specs.{Moments.{DataAreOfSlots, PayloadIsOfSlots}, Parts.PayloadIsBrought, Standing.CommandsStand}
use Rattle.machine_theorem.specs.Writes.{CompletionsAreSupplied, DataAreSupplied, DoneWritesAreSupplied, FallsAreSupplied, IsStore, StoresAreOfGuests}
use Rattle.machine_theorem.specs.Writes.{StoresNext, SuppliedToNewDisk, WritesAreSupplied}
use Rattle.uses_machine_theorem.specs.Led.{AsksSupplied, EndsCompleted, EndsEarned, EndsSupplied, FallsSupplied, HoldsSupplied, IsLed, KnowsDisks}
use Rattle.uses_machine_theorem.specs.Led.{LendsBrought, LendsOfSlots, PutsNew, SpeaksDone, SpeaksOfSlots, SpeaksSupplied}

pub ruled : (m : MachineState) → IsCorePort m.controller.core → IsTable m.controller.core.slots → IsRuled m.controller → HasRules m
ruled m port slots rules = record { port = port; slots = slots; rules = rules }

pub opened : (ports : ℕ) (legacy : Bool) (m : MachineState) → IsOpeningMachine ports legacy m → HasRules m → IsLed m
opened ports legacy m opens rules = record { ports = ports; legacy = legacy; first = m; opens = opens; deeds = []; run = (rules, refl) }

-- one deed more
more : (deeds : List Deed) (first old new : MachineState) (deed : Deed) → RunsRuled first deeds old → Does old deed new → HasRules new → RunsRuled first (deeds ++ deed ∷ []) new
more [] first old new deed run does rules = (run.0, (new, subst (λ (m : MachineState). Does m deed new) run.1 does, (rules, refl)))
more (d ∷ later) first old new deed run does rules = (run.0, (run.1.0, run.1.1, more later run.1.0 old new deed run.1.2 does rules))

pub led : (old new : MachineState) (told : Result Act AllocError) → IfOk told (λ a. Steps old a new) → HasRules new → IsLed old → IfOk told (λ a. IsLed new)
led old new (Ok a) step rules was = record {
  ports = was.ports;
  legacy = was.legacy;
  first = was.first;
  opens = was.opens;
  deeds = was.deeds ++ Moved a ∷ [];
  run = more was.deeds was.first old new (Moved a) was.run step rules;
}
led old new (Err e) step rules was = tt

pub brought : PayloadIsBrought → (old new : MachineState) (told : Result Act AllocError) → IfOk told (λ a. Steps old a new) → LendsBrought old told new
brought law old new told step m is was =
    law was.ports was.legacy was.first was.opens was.deeds old was.run m new (subst (λ (t : Result Act AllocError). IfOk t (λ a. Steps old a new)) is step)

abbrev Told : Result Act AllocError → MachineState → MachineState → Type 0
Told told old new = IfOk told (λ a. Steps old a new)

told_is : (old new : MachineState) (told : Result Act AllocError) (a : Act) → Told told old new → told ≡ Ok a → Steps old a new
told_is old new told a step is = subst (λ (t : Result Act AllocError). Told t old new) is step

pub of_slots : PayloadIsOfSlots → (old new : MachineState) (told : Result Act AllocError) → IfOk told (λ a. Steps old a new) → LendsOfSlots old told new
of_slots law old new told step m is was =
    law was.ports was.legacy was.first was.opens was.deeds old was.run m new (told_is old new told (act.Writes (next.Payload m)) step is)

pub speaks : DataAreOfSlots → (old new : MachineState) (told : Result Act AllocError) → IfOk told (λ a. Steps old a new) → SpeaksOfSlots old told
speaks law old new told step n place len is was =
    law was.ports was.legacy was.first was.opens was.deeds old was.run n place len new (told_is old new told (act.Speaks n (out.Data place len)) step is)

pub ended : CompletionsAreEarned → (old new : MachineState) (told : Result Act AllocError) → IfOk told (λ a. Steps old a new) → HasRules new → EndsEarned old told new
ended law old new told step rules took is was slot low shows hides =
    let does : Steps old (act.Takes took) new = told_is old new told (act.Takes took) step is in
    (does.does.frame, law was.ports was.legacy was.first was.opens was.deeds old was.run took new does rules slot low shows hides)

pub completed : CompletionsAreOfDevices → (old new : MachineState) (told : Result Act AllocError) → IfOk told (λ a. Steps old a new) → HasRules new → EndsCompleted old told new
completed law old new told step rules took is was slot low shows hides none =
    let does : Steps old (act.Takes took) new = told_is old new told (act.Takes took) step is in
    (does.does.frame, law was.ports was.legacy was.first was.opens was.deeds old was.run took new does rules slot low shows hides none)

-- ---- writes of the guest

pub asks : StoresAreOfGuests → (old new : MachineState) (told : Result Act AllocError) → IfOk told (λ a. Steps old a new) → AsksSupplied old told new
asks law old new told step id asked is was lba count stores =
    law was.ports was.legacy was.first was.opens was.deeds old was.run id asked new (told_is old new told (act.Asks id asked) step is) lba count stores

pub speaks_supplied : WritesAreSupplied → (old new : MachineState) (told : Result Act AllocError) → IfOk told (λ a. Steps old a new) → SpeaksSupplied old told
speaks_supplied law old new told step n tags is was tag low bit =
    law was.ports was.legacy was.first was.opens was.deeds old was.run n tags new (told_is old new told (act.Speaks n (out.Ends tags)) step is) tag low bit

pub ended_supplied : CompletionsAreSupplied → (old new : MachineState) (told : Result Act AllocError) → IfOk told (λ a. Steps old a new) → HasRules new → EndsSupplied old told new
ended_supplied law old new told step rules took is was slot low shows hides =
    let does : Steps old (act.Takes took) new = told_is old new told (act.Takes took) step is in
    (does.does.frame, law was.ports was.legacy was.first was.opens was.deeds old was.run took new does rules slot low shows hides)

pub speaks_done : DoneWritesAreSupplied → (old new : MachineState) (told : Result Act AllocError) → IfOk told (λ a. Steps old a new) → SpeaksDone old told
speaks_done law old new told step n place is was =
    law was.ports was.legacy was.first was.opens was.deeds old was.run n place new (told_is old new told (act.Speaks n (out.Of place replies.Done)) step is)

pub fallen : FallsAreSupplied → (old new : MachineState) (told : Result Act AllocError) → IfOk told (λ a. Steps old a new) → HasRules new → FallsSupplied old told new
fallen law old new told step rules took is was slot low shows hides none =
    let does : Steps old (act.Takes took) new = told_is old new told (act.Takes took) step is in
    (does.does.frame, law was.ports was.legacy was.first was.opens was.deeds old was.run took new does rules slot low shows hides none)

-- a machine holds one list of bytes for a place
one_moment : (x : Option Moment) (a b : List ℕ) → MatchOption x ⊥ (λ c. a ≡ c.bytes) → MatchOption x ⊥ (λ c. b ≡ c.bytes) → a ≡ b
one_moment None a b h k = absurd h
one_moment (Some m) a b h k = h ∙ sym k

one_disk : (x : Option DiskState) (place : ℕ) (a b : List ℕ) → MatchOption x ⊥ (λ d. MatchOption (command_at (commands d) place) ⊥ (λ c. a ≡ c.bytes))
    → MatchOption x ⊥ (λ d. MatchOption (command_at (commands d) place) ⊥ (λ c. b ≡ c.bytes)) → a ≡ b
one_disk None place a b h k = absurd h
one_disk (Some d) place a b h k = one_moment (command_at (commands d) place) a b h k

place_or : ℕ → Option ℕ → ℕ
place_or k None = k
place_or k (Some p) = p

pub holds : StoresAreOfGuests → (new : MachineState) (id : MediumId) (place : ℕ) (bytes : List ℕ) → Holds new id place bytes → HoldsSupplied new id place bytes
unfolding place_or
holds law new id place bytes held now asked does was lba count at stores =
    let store : IsStore was.first was.deeds now was.run id asked lba count new = law was.ports was.legacy was.first was.opens was.deeds now was.run id asked new does lba count stores in
    let same : store.place ≡ place = ap (place_or 0) (sym store.is ∙ at) in
    let there : Holds new id place store.bytes = subst (λ (k : ℕ). Holds new id k store.bytes) same store.held in
    subst (λ (b : List ℕ). SuppliedToNewDisk was.first was.deeds now was.run id.port place (StoresNext lba count b))
    (one_disk (disk_at new id) place store.bytes bytes there held)
    (subst (λ (k : ℕ). SuppliedToNewDisk was.first was.deeds now was.run id.port k (StoresNext lba count store.bytes)) same store.supplied)

-- what is handed out of a store is what the machine holds for its place
chosen : (b : Bool) (x : Option (List ℕ)) (bytes : List ℕ) → (if b then x else None) ≡ Some bytes → x ≡ Some bytes
chosen true x bytes e = e
chosen false x bytes e = absurd (cc)

out_holds : (x : Option Moment) (bytes : List ℕ) → bytes_to_store x ≡ Some bytes → MatchOption x ⊥ (λ c. bytes ≡ c.bytes)
out_holds None bytes e = absurd (cc)
out_holds (Some m) bytes e = let is : Some m.bytes ≡ Some bytes = chosen (is_storing m.stage) (Some m.bytes) bytes e in cc

disk_holds : (x : Option DiskState) (place number : ℕ) (bytes : List ℕ) → match_some x None (λ d. stored_at d.engine place number) ≡ Some bytes
    → MatchOption x ⊥ (λ d. MatchOption (command_at (commands d) place) ⊥ (λ c. bytes ≡ c.bytes))
disk_holds None place number bytes e = absurd (cc)
disk_holds (Some d) place number bytes e =
    out_holds (command_at (commands d) place) bytes
    (chosen (nat_lt place 33 && is_number (number_at (commands d).queue.out place) number) (bytes_to_store (command_at (commands d) place)) bytes e)

pub handed : (m : MachineState) (id : MediumId) (place : ℕ) (bytes : List ℕ) → stored_of m id place ≡ Some bytes → Holds m id place bytes
handed m id place bytes e = disk_holds (disk_at m id) place id.number bytes e

pub some_holds : {X : Type 0} {P Q : X → Type 0} → ((x : X) → P x → Q x) → (o : Option X) → IfSome o P → IfSome o Q
some_holds step None h = tt
some_holds step (Some x) h = step x h

-- ---- a disk is put at a port

pub puts : (port : ℕ) (profile : Profile) (limit : ℕ) (disk : DiskState) → disk ≡ new_disk profile limit → (old new : MachineState)
    (told : Result (Unit {0}) (Inside × PortFault)) → Puts port (Disk disk) old told new → HasRules new → PutsNew port profile limit old new
puts port profile limit disk is old new told does rules was =
    let now : Puts port (Disk (new_disk profile limit)) old told new = subst (λ (d : DiskState). Puts port (Disk d) old told new) is does in
    let deed : Deed = Put port (Disk (new_disk profile limit)) told in (
      told,
      record {
        ports = was.ports;
        legacy = was.legacy;
        first = was.first;
        opens = was.opens;
        deeds = was.deeds ++ deed ∷ [];
        run = more was.deeds was.first old new deed was.run now rules;
      },
      refl,
    )

-- ---- what it knows of its disks

pub knows : HeardIsOfGuest → DataAreSupplied → CommandsOfNewDisks → CommandsStand → (now : MachineState) → KnowsDisks now
knows heard data_are fresh stand now led n = record {
  heard = heard led.ports led.legacy led.first led.opens led.deeds now led.run n;
  supplied = data_are led.ports led.legacy led.first led.opens led.deeds now led.run n;
  commands = λ d there lived p limit new place page is. fresh led.ports led.legacy led.first led.opens led.deeds now led.run n d there lived p limit new place page is;
  stands = λ p limit calls c of r since stood short. stand led.ports led.legacy led.first led.opens led.deeds now led.run n p limit calls c of r since stood short;
}

-- What each call is, as something that happens to a machine.
use Rattle.std.proofs.Common.{◌≡◌, ◌≤◌, ℕ, zero, suc, [], ◌∷◌, Result, Ok, Err, refl, sym, subst, inl, inr}
use Rattle.std.specs.{Prelude.{IfOk, OnErr}, declared.alloc.AllocError.AllocError}
use Rattle.block_engine.specs.declared.request.Answer.{Answer}
use Rattle.disk_pages.specs.declared.profile.Profile.{Profile}
use Rattle.sata_disk.specs.State.{DiskState, new_disk}
use Rattle.sata_disk_laws.specs.Calls.{after_calls}
use Rattle.ahci_controller.specs.declared.{access.Width.Width, wide.WideWritten.WideWritten}
use Rattle.ahci_machine.specs.{Acts.{Asks, Moves, Steps, StepsBy, budget, unlent}, Answers.AnswersMachine, Ports.{PullsMachine, Puts}}
use Rattle.ahci_machine.specs.{Registers.WritesMachine, States.MachineState, declared.{act.Act.Act, answers.MediumError.MediumError}}
use Rattle.ahci_machine.specs.declared.{bay.Unit.{Unit as Inside, TheVariants.Disk}, ports.PortFault.PortFault, request.MediumId.MediumId}
use Rattle.ahci_machine.specs.declared.request.Request.{Request}
use Rattle.machine_laws.specs.{Deeds.{Deed, Does, Runs, Moved, Unlent, Wrote, Answered, Put, Pulled}, Disks.{AreReached, DisksAreReached}}
use Rattle.machine_laws.specs.Disks.{PutsReached}
use Rattle.uses_machine_laws.specs.Kept.{Keeps}

keep : DisksAreReached → (old new : MachineState) (deed : Deed) → Does old deed new → PutsReached deed → Keeps old new
unfolding Runs
keep law old new deed does puts are = law old (deed ∷ []) new (record { next = new; does = does; after = refl }) (puts, tt) are

pub writes_keep : DisksAreReached → (offset : ℕ) (width : Width) (value : ℕ) (old : MachineState) (written : WideWritten) (new : MachineState)
    → WritesMachine offset width value old written new → Keeps old new
writes_keep law offset width value old written new is = keep law old new (Wrote offset width value written) is tt

pub answers_keep : DisksAreReached → (id : MediumId) (a : Answer) (old : MachineState) (told : Result (Unit {0}) MediumError) (new : MachineState)
    → AnswersMachine id a old told new → Keeps old new
answers_keep law id a old told new is = keep law old new (Answered id a told) is tt

pub pulls_keep : DisksAreReached → (port : ℕ) (old : MachineState) (told : Result (Unit {0}) PortFault) (new : MachineState)
    → PullsMachine port old told new → Keeps old new
pulls_keep law port old told new is = keep law old new (Pulled port told) is tt

step_keeps : DisksAreReached → (old : MachineState) (a : Act) (new : MachineState) → Steps old a new → Keeps old new
step_keeps law old a new is = keep law old new (Moved a) is tt

pub moves_keep : DisksAreReached → (old : MachineState) (told : Result Act AllocError) (new : MachineState)
    → IfOk told (λ a. Steps old a new) → OnErr told (new ≡ old) → Keeps old new
moves_keep law old (Ok a) new ok err = step_keeps law old a new ok
moves_keep law old (Err e) new ok err = λ are. subst AreReached (sym err) are

steps_keep : DisksAreReached → (count : ℕ) (old new : MachineState) → StepsBy count old new → Keeps old new
unfolding StepsBy
steps_keep law zero old new is are = subst AreReached (sym is) are
steps_keep law (suc count) old new is are = step_keeps law is.middle is.act new is.last (steps_keep law count old is.middle is.before are)

asked_keep : DisksAreReached → (old : MachineState) (request : Request) (new : MachineState) → Asks old request new → Keeps old new
asked_keep law old request new (inl h) are = step_keeps law h.middle h.act new h.last (steps_keep law h.quiet.count old h.middle h.quiet.steps are)
asked_keep law old request new (inr h) are = steps_keep law budget old new h.1 are

unlent_keeps : DisksAreReached → (old : MachineState) → Keeps old (unlent old)
unlent_keeps law old = keep law old (unlent old) Unlent refl tt

pub asks_keep : DisksAreReached → (old : MachineState) (told : Result Request AllocError) (new : MachineState)
    → IfOk told (λ request. Asks (unlent old) request new) → OnErr told (Moves (unlent old) new) → Keeps old new
asks_keep law old (Ok request) new ok err are = asked_keep law (unlent old) request new ok (unlent_keeps law old are)
asks_keep law old (Err e) new ok err are = steps_keep law err.count (unlent old) new err.steps (unlent_keeps law old are)

pub puts_keep : DisksAreReached → (p : Profile) (limit : ℕ) → 1048576 ≤ limit → (d : DiskState) → d ≡ new_disk p limit → (port : ℕ) (old : MachineState)
    (told : Result (Unit {0}) (Inside × PortFault)) (new : MachineState) → Puts port (Disk d) old told new → Keeps old new
unfolding after_calls
puts_keep law p limit room d new_one port old told new is =
    keep law old new (Put port (Disk d) told) is (record { profile = p; limit = limit; room = room; calls = []; are = tt; is = new_one })

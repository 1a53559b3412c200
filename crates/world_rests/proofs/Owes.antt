-- For `rested_have_done`. A disk that may send nothing has answered what it heard.
use Rattle.std.proofs.{Common.{ℕ, ◌%◌, ◌==◌, ◌&&◌, Bool}, lemmas.Bool.{and_parts, leb-true}}
use Rattle.std.specs.Prelude.{nat_le}
use Rattle.disk_model.specs.{declared.{plan.DiskPlan.DiskPlan, unit.Unit.TheVariants.Disk}, Disks.{DiskValue, Moment, turn}, Laws.AfterEachRun}
use Rattle.disk_model.specs.{Laws.SilentRight, Ledger.{IsSize, ledger}, Runs.{moment, most_sectors}}
use Rattle.disk_model.proofs.Door.{agrees}
use Rattle.pm_world.specs.Attached.{Attached, IsSilentAttached, Modelled}
use Rattle.world_rests.specs.Rests.{HasAnswered}
use Rattle.world_rests.proofs.Shown.{HasChunks, no_turn, turn_shown}

pub has_chunks : (plan : DiskPlan) (sectors : ℕ) → IsSize plan sectors → HasChunks plan
has_chunks plan sectors size =
    let some : Bool = nat_le 1 sectors in
    let few : Bool = nat_le sectors (most_sectors plan.profile) in
    let low : Bool = nat_le 512 plan.chunk in
    let high : Bool = nat_le plan.chunk 8192 in
    let all = and_parts (some && few && low && high) (plan.chunk % 512 == 0) size in
    let most = and_parts (some && few && low) high all.0 in
    let two = and_parts (some && few) low most.0 in
    record { low = leb-true 512 plan.chunk two.1; high = leb-true plan.chunk 8192 most.1 }

silent_owes : AfterEachRun SilentRight → (disk : DiskValue) → IsSilentAttached (Modelled (Disk disk)) → HasAnswered (Modelled (Disk disk))
silent_owes law disk silent = λ history stands size.
    let m : Moment = moment disk.plan disk.sectors history in
    let a = agrees disk.plan disk.sectors history size stands.run in
    law disk.plan disk.sectors history size stands.run
    (no_turn (turn disk.plan disk.sectors m)
    (turn_shown disk.plan disk.sectors (has_chunks disk.plan disk.sectors size) m m.owed m.started m.writing (ledger history).moving a.queue a.length_is a.moving)
    (λ bytes may. silent history bytes stands may))

pub silent_answers : AfterEachRun SilentRight → (device : Attached) → IsSilentAttached device → HasAnswered device
silent_answers law (Modelled (Disk disk)) silent = silent_owes law disk silent
silent_answers law other silent = tt

-- The command that is not queued is under way only while its host waits for its end.
use Rattle.std.proofs.Common.{◌≡◌, true, false, Some, None, refl, ap, ◌∙◌}
use Rattle.std.specs.Prelude.{Option, Bool, if◌then◌else◌}
use Rattle.block_command.specs.Moments.{Moment}
use Rattle.block_disk.specs.Table.{is_under_way}
use Rattle.block_queue.specs.Line.{command_at}
use Rattle.ata_front.specs.declared.task.Task.{Task}
use Rattle.ata_front.specs.declared.task.Task.TheVariants as tasks
use Rattle.sata_disk.specs.State.{commands}
use Rattle.sata_disk.specs.declared.out.Out.TheVariants as out
use Rattle.sata_disk_laws.specs.{Awaited.{AsidesAreAwaited, OutsAreUnderWay, SinglesAreAwaited}, Laws.reached, Once.{ForEnd, ForLast, Host, host_of}}
use Rattle.sata_disk_laws.specs.Once.{is_for_data, new_host}
use Rattle.sata_disk_laws.proofs.{Calls.{known, sent_is}, Tracks.{MovesAs, WaitsAs}}

end_or_last : (b : Bool) → is_for_data (if b then ForLast else ForEnd) ≡ true
end_or_last true = refl
end_or_last false = refl

moves_waits : (h : Host) (left : _) (x : Option Moment) → MovesAs h left x → is_for_data h.waits ≡ true
moves_waits h left None w = absurd w
moves_waits h left (Some m) w = ap is_for_data w.2 ∙ end_or_last _

task_waits : (h : Host) (t : Task) (x : Option Moment) → WaitsAs h t x → is_under_way x ≡ true → is_for_data h.waits ≡ true
task_waits h tasks.Idle x w going = absurd (let over = w.2 in cc)
task_waits h (tasks.Owes r) x w going = absurd (let over = w.1 in cc)
task_waits h (tasks.Moves m) x w going = moves_waits h m.left x w.1
task_waits h (tasks.Gives p) x w going = absurd (let over = w.2 in cc)
task_waits h other x w going = absurd (let over = w.1 in cc)

pub singles_are_awaited : SinglesAreAwaited
singles_are_awaited p limit calls are going =
    let knows = known p limit calls are in
    task_waits (host_of new_host calls) _ (command_at (commands (reached p limit calls)) 32) knows.waits going

pub outs_are_under_way : OutsAreUnderWay
outs_are_under_way p limit calls place r are is =
    let sent = sent_is (reached p limit calls) place (out.Of place r) is in
    ap is_under_way sent.1.there ∙ sent.1.alive

pub asides_are_awaited : AsidesAreAwaited
asides_are_awaited p limit calls are = (known p limit calls are).beside

use Rattle.std.proofs.lemmas.Result.{IfOk-weaker}
use Rattle.std.specs.Prelude.{Option, Some, None, IfSome, IfNone}
use Rattle.fis_view.specs.Frames.{Stamped}
use Rattle.disk_model.specs.{Histories.{SendsNext, IsSilent}, Disks.DiskValue, Runs.{disk_plan, DiskStandsFor, DiskMaySend}, Insides.Gives}
use Rattle.disk_model.proofs.turns.MomentLemmas.{disk_sends, disk_silent}
use Rattle.disk_model.proofs.disk.DiskDevice.next_out.Goals as goal

gives_sends : (old new : DiskValue) (out : Option Stamped) → Gives old out new → IfSome out (λ frame. SendsNext disk_plan DiskStandsFor DiskMaySend old frame.bytes new)
gives_sends old new None gave = tt
gives_sends old new (Some frame) gave = disk_sends old new frame.bytes gave

gives_silent : (old new : DiskValue) (out : Option Stamped) → Gives old out new → IfNone out (IsSilent disk_plan DiskStandsFor DiskMaySend old)
gives_silent old new None gave = disk_silent old gave.0
gives_silent old new (Some frame) gave = tt

pub returns-clause-sent : goal.returns-clause-sent
returns-clause-sent c = IfOk-weaker _ _ _ (λ out gave. gives_sends c.args.self.now _ out gave) c.give_answer.ensures.gives

pub returns-clause-silent : goal.returns-clause-silent
returns-clause-silent c = IfOk-weaker _ _ _ (λ out gave. gives_silent c.args.self.now _ out gave) c.give_answer.ensures.gives

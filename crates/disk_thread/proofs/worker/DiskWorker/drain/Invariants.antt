use Rattle.disk_thread.specs.Runs.{GoesOnRunning, IsAtSamePort}
use Rattle.disk_thread.proofs.worker.DiskWorker.drain.Given as goal

abbrev pub invariant-loop : goal.invariant-loop
invariant-loop g l =
    IsAtSamePort l.fn.self l.self × GoesOnRunning g.D.Device.plan_of g.D.Device.stands_for g.D.Device.may_send l.fn.self l.self

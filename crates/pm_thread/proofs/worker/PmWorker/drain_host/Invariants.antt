use Rattle.std.proofs.Common.{◌≡◌, length}
use Rattle.pm_thread.specs.Runs.{SameLinks}
use Rattle.pm_thread.proofs.worker.PmWorker.drain_host.Given as goal

abbrev pub invariant-loop : goal.invariant-loop
invariant-loop g l = record { links : SameLinks l.initial.self l.self; count : length l.self.ports ≡ length l.initial.self.ports }

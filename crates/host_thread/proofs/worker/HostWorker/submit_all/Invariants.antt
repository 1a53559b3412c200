use Rattle.host_thread.specs.Runs.{GoesOn, Same}
use Rattle.host_thread.proofs.worker.HostWorker.submit_all.Given as goal

abbrev pub invariant-loop : goal.invariant-loop
invariant-loop l = record { run : GoesOn l.initial.self l.self; same : Same l.initial.self l.self }

use Rattle.std.proofs.Common.{subst}
use Rattle.host_thread.specs.Runs.{HostView, GoesOn}
use Rattle.host_thread.proofs.Steps.{with_host, ticks}
use Rattle.host_thread.proofs.worker.HostWorker.tick.Goals as goal

pub returns-clause-run : goal.returns-clause-run
returns-clause-run c =
    let w : HostView = record {
      host = c.self.inside.host;
      frames = c.self.inside.frames;
      commands = c.self.inside.commands;
      hand = c.self.inside.hand;
      plan = c.self.inside.plan.items;
      states = c.self.inside.states.items;
    } in
    subst (λ (o : HostView). GoesOn o (with_host w c.tick.new.self)) c.self.view_is (ticks w c.tick.result c.tick.new.self c.tick.ensures)

use Rattle.std.proofs.Common.{rules, ◌≡◌, Some, None, refl, subst}
use Rattle.hba_driver.specs.HostTurns.{Pushes}
use Rattle.host_thread.specs.Runs.{HostView, GoesOn}
use Rattle.host_thread.proofs.{Steps.{with_host, asks_none, asks_some}, worker.HostWorker.ask.Goals.{in-Some-1, in-None-1}}
use Rattle.host_thread.proofs.worker.HostWorker.ask.Goals as goal

pub returns-in-Some-clause-run : goal.returns-in-Some-clause-run
returns-in-Some-clause-run c =
    let w : HostView = record {
      host = c.self.inside.host;
      frames = c.self.inside.frames;
      commands = c.self.inside.commands;
      hand = c.self.inside.hand;
      plan = c.self.inside.plan.items;
      states = c.self.inside.states.items;
    } in
    let n : HostView = record {
      host = c.next_out.new.self;
      frames = w.frames;
      commands = w.commands;
      hand = Some c.in-Some.frame;
      plan = w.plan;
      states = w.states;
    } in
    let does : Pushes w.host (Some c.in-Some.frame) c.next_out.new.self = search rules in
    let empty : w.hand ≡ None = search rules in
    let goes : GoesOn c.args.self.now n = subst (λ (o : HostView). GoesOn o n) c.self.view_is
    (asks_some w n c.in-Some.frame does empty refl refl refl refl refl) in
    elim c.match-self.branch [ in-Some-1 x ↦ rw x.self-is goes | in-None-1 x ↦ rw x.self-is goes ]

pub returns-in_default-clause-run : goal.returns-in_default-clause-run
returns-in_default-clause-run c =
    let w : HostView = record {
      host = c.self.inside.host;
      frames = c.self.inside.frames;
      commands = c.self.inside.commands;
      hand = c.self.inside.hand;
      plan = c.self.inside.plan.items;
      states = c.self.inside.states.items;
    } in
    let does : Pushes w.host None c.next_out.new.self = search rules in
    subst (λ (o : HostView). GoesOn o (with_host w c.next_out.new.self)) c.self.view_is (asks_none w c.next_out.new.self does)

use Rattle.std.proofs.Common.{rules, ◌≡◌, ◌∷◌, [], ◌++◌, refl, subst}
use Rattle.hba_driver.specs.HostTurns.{Tooks}
use Rattle.host_thread.specs.Runs.{HostView, GoesOn}
use Rattle.host_thread.proofs.{Steps.takes, worker.HostWorker.take.Goals.{then-stamp-lt15, else-stamp-lt15}}
use Rattle.host_thread.proofs.worker.HostWorker.take.Goals as goal

pub returns-clause-run : goal.returns-clause-run
returns-clause-run g c =
    let w : HostView = record {
      host = c.self.inside.host;
      frames = c.self.inside.frames;
      commands = c.self.inside.commands;
      hand = c.self.inside.hand;
      plan = c.self.inside.plan.items;
      states = c.self.inside.states.items;
    } in
    let n : HostView = record {
      host = c.take-3.new.self;
      frames = c.take.new.self;
      commands = w.commands;
      hand = w.hand;
      plan = w.plan;
      states = w.states;
    } in
    let taken : c.take.new.self.taken ≡ w.frames.taken ++ c.in-Some.frame ∷ [] = search rules in
    elim c.if-stamp-lt15.branch [
      | then-stamp-lt15 x ↦
          let does : Tooks w.host c.in-Some.frame.bytes c.take-3.result c.take-3.new.self = search rules in
          rw x.self-inside-is (subst (λ (o : HostView). GoesOn o n) c.self.view_is
          (takes w n c.in-Some.frame c.take-3.result does taken refl refl refl refl))
      | else-stamp-lt15 x ↦
          let does : Tooks w.host c.in-Some.frame.bytes c.take-3.result c.take-3.new.self = search rules in
          rw x.self-inside-is (subst (λ (o : HostView). GoesOn o n) c.self.view_is
          (takes w n c.in-Some.frame c.take-3.result does taken refl refl refl refl))
    ]

use Rattle.std.proofs.Common.{◌≤◌, subst, arith}
use Rattle.block_scheduler.proofs.scheduler.Scheduler.held.Goals as goal

pub returns-clause-bound : goal.returns-clause-bound
returns-clause-bound c =
    let value = c.held_in.ensures.value in
    let kept = c.self.invariant.held in
    subst (λ s. c.held_in.result ≤ s.limit) c.self.view_is (omega (arith, value, kept))

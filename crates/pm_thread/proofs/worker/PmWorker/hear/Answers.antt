use Rattle.std.proofs.Common.{rules, ◌≡◌, Ok, Some, None}
use Rattle.multiplier.specs.Rules.{FromHostRule}
use Rattle.pm_thread.proofs.Steps.{hears}
use Rattle.pm_thread.proofs.worker.PmWorker.hear.Goals as goal

pub invariant_of-self-in-Ok : goal.invariant_of-self-in-Ok
invariant_of-self-in-Ok c =
    let rule : FromHostRule c.self.inside.pm c.in-Some.frame (Ok c.in-Ok.field-0) c.from_host.new.self = search rules in
    let had : c.self.inside.hand ≡ Some c.in-Some.frame = search rules in
    let none : c.take.new.self ≡ None = search rules in
    hears _ c.self.invariant c.from_host.new.self c.in-Some.frame c.in-Ok.field-0 c.take.new.self rule c.from_host.ensures.ports had none

use Rattle.uses_machine_theorem.proofs.LedLemmas.{opened, ruled}
use Rattle.uses_machine_theorem.proofs.opens.Goals as goal

pub returns : goal.returns
returns c =
    opened c.args.ports c.args.legacy c.in_ok-machine.machine c.in_ok-machine.ensures
    (ruled c.in_ok-machine.machine c.keeps_rules.ensures.port c.keeps_rules.ensures.slots c.keeps_rules.ensures.rules)

use Rattle.uses_machine_laws.proofs.{Controller.ruled, Risen.moved}
use Rattle.uses_machine_laws.proofs.rising.moves.Goals as goal

pub returns : goal.returns
returns c =
    moved c.goes_on.ensures c.args.machine.now c.step-moved.new.self c.step-moved.result
    (ruled c.args.machine.now c.keeps_rules.ensures.port c.keeps_rules.ensures.slots c.keeps_rules.ensures.rules)
    (ruled c.step-moved.new.self c.keeps_rules-2.ensures.port c.keeps_rules-2.ensures.slots c.keeps_rules-2.ensures.rules) c.step-moved.ensures.ok

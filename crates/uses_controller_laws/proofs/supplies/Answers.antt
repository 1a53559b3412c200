use Rattle.controller_laws.specs.Events as call
use Rattle.uses_controller_laws.proofs.CallLemmas.{is_call, ruled}
use Rattle.uses_controller_laws.proofs.supplies.Goals as goal

pub returns : goal.returns
returns c =
    is_call c.laws.ensures c.args.controller.now c.supply-supply.new.self (call.Supplied c.args.slot c.args.number c.args.bytes.now c.supply-supply.result)
    (ruled c.args.controller.now c.keeps_rules.ensures.port c.keeps_rules.ensures.slots c.keeps_rules.ensures.rules)
    (ruled c.supply-supply.new.self c.keeps_rules-2.ensures.port c.keeps_rules-2.ensures.slots c.keeps_rules-2.ensures.rules) c.supply-supply.ensures

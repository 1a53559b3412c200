use Rattle.controller_laws.specs.Events as call
use Rattle.uses_controller_laws.proofs.CallLemmas.{is_call, ruled}
use Rattle.uses_controller_laws.proofs.asks.Goals as goal

pub returns-clause-call : goal.returns-clause-call
returns-clause-call c =
    is_call c.laws.ensures c.args.controller.now c.next-next.new.self (call.Turned c.next-next.result)
    (ruled c.args.controller.now c.keeps_rules.ensures.port c.keeps_rules.ensures.slots c.keeps_rules.ensures.rules)
    (ruled c.next-next.new.self c.keeps_rules-2.ensures.port c.keeps_rules-2.ensures.slots c.keeps_rules-2.ensures.rules) c.next-next.ensures

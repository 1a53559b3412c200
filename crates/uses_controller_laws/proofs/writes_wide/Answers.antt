use Rattle.controller_laws.specs.Events as call
use Rattle.uses_controller_laws.proofs.CallLemmas.{is_call, ruled}
use Rattle.uses_controller_laws.proofs.writes_wide.Goals as goal

pub returns : goal.returns
returns c =
    is_call c.laws.ensures c.args.controller.now c.write-written.new.self (call.WroteWide c.args.offset c.args.width c.args.value c.write-written.result)
    (ruled c.args.controller.now c.keeps_rules.ensures.port c.keeps_rules.ensures.slots c.keeps_rules.ensures.rules)
    (ruled c.write-written.new.self c.keeps_rules-2.ensures.port c.keeps_rules-2.ensures.slots c.keeps_rules-2.ensures.rules) c.write-written.ensures

use Rattle.machine_laws.specs.Deeds as deed
use Rattle.uses_machine_laws.proofs.{Controller.ruled, FallCalls.one}
use Rattle.uses_machine_laws.proofs.falling.brings.Goals as goal

pub returns : goal.returns
returns c =
    one c.falling_laws.ensures c.args.machine.now c.supply-told.new.self (deed.Supplied c.args.wanted c.args.bytes.now)
    (ruled c.args.machine.now c.keeps_rules.ensures.port c.keeps_rules.ensures.slots c.keeps_rules.ensures.rules)
    (ruled c.supply-told.new.self c.keeps_rules-2.ensures.port c.keeps_rules-2.ensures.slots c.keeps_rules-2.ensures.rules) (record { answer = c.supply-told.result; supplies = c.supply-told.ensures })

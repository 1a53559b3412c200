use Rattle.machine_laws.specs.Deeds as deed
use Rattle.uses_machine_laws.proofs.{Controller.ruled, FallCalls.one}
use Rattle.uses_machine_laws.proofs.falling.sets.Goals as goal

pub returns : goal.returns
returns c =
    one c.falling_laws.ensures c.args.machine.now c.write-written.new.self (deed.Wrote c.args.offset c.args.width c.args.value c.write-written.result)
    (ruled c.args.machine.now c.keeps_rules.ensures.port c.keeps_rules.ensures.slots c.keeps_rules.ensures.rules)
    (ruled c.write-written.new.self c.keeps_rules-2.ensures.port c.keeps_rules-2.ensures.slots c.keeps_rules-2.ensures.rules) c.write-written.ensures

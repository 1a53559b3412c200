use Rattle.machine_laws.specs.Deeds as deed
use Rattle.uses_machine_laws.proofs.Controller.{one, ruled}
use Rattle.uses_machine_laws.proofs.misses.Goals as goal

pub returns : goal.returns
returns c =
    one c.controller_laws.ensures c.args.machine.now c.no_memory-told.new.self (deed.Missed c.args.wanted)
    (ruled c.args.machine.now c.keeps_rules.ensures.port c.keeps_rules.ensures.slots c.keeps_rules.ensures.rules)
    (ruled c.no_memory-told.new.self c.keeps_rules-2.ensures.port c.keeps_rules-2.ensures.slots c.keeps_rules-2.ensures.rules) (record { answer = c.no_memory-told.result; misses = c.no_memory-told.ensures })

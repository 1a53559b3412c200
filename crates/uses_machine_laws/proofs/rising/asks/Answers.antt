use Rattle.uses_machine_laws.proofs.{Controller.ruled, Risen.asks}
use Rattle.uses_machine_laws.proofs.rising.asks.Goals as goal

pub returns : goal.returns
returns c =
    asks c.goes_on.ensures c.args.machine.now c.next-asked.new.self c.next-asked.result
    (ruled c.args.machine.now c.keeps_rules.ensures.port c.keeps_rules.ensures.slots c.keeps_rules.ensures.rules)
    (ruled c.next-asked.new.self c.keeps_rules-2.ensures.port c.keeps_rules-2.ensures.slots c.keeps_rules-2.ensures.rules) c.next-asked.ensures.ok c.next-asked.ensures.err

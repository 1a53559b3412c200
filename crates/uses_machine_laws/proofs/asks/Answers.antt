use Rattle.uses_machine_laws.proofs.{Controller.{asks, ruled}, Keep.asks_keep}
use Rattle.uses_machine_laws.proofs.asks.Goals as goal

pub returns-clause-keeps : goal.returns-clause-keeps
returns-clause-keeps c =
    asks_keep c.disks_have_their_laws.ensures.reached c.args.machine.now c.next-asked.result c.next-asked.new.self c.next-asked.ensures.ok c.next-asked.ensures.err

pub returns-clause-controller : goal.returns-clause-controller
returns-clause-controller c =
    asks c.controller_laws.ensures c.args.machine.now c.next-asked.new.self c.next-asked.result
    (ruled c.args.machine.now c.keeps_rules.ensures.port c.keeps_rules.ensures.slots c.keeps_rules.ensures.rules)
    (ruled c.next-asked.new.self c.keeps_rules-2.ensures.port c.keeps_rules-2.ensures.slots c.keeps_rules-2.ensures.rules) c.next-asked.ensures.ok c.next-asked.ensures.err

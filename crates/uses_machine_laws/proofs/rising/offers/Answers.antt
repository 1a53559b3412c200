use Rattle.machine_laws.specs.Deeds as deed
use Rattle.uses_machine_laws.proofs.{Controller.ruled, Risen.rises}
use Rattle.uses_machine_laws.proofs.rising.offers.Goals as goal

pub returns : goal.returns
returns c =
    rises c.goes_on.ensures c.args.machine.now c.offer-told.new.self (deed.FrameOffered c.args.port c.args.frame c.offer-told.result)
    (ruled c.args.machine.now c.keeps_rules.ensures.port c.keeps_rules.ensures.slots c.keeps_rules.ensures.rules)
    (ruled c.offer-told.new.self c.keeps_rules-2.ensures.port c.keeps_rules-2.ensures.slots c.keeps_rules-2.ensures.rules) c.offer-told.ensures

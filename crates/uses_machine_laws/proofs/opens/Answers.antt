use Rattle.uses_machine_laws.proofs.Controller.{ruled}
use Rattle.uses_machine_laws.proofs.opens.Goals as goal

pub returns-clause-controller : goal.returns-clause-controller
returns-clause-controller c =
    c.controller_has_its_laws.ensures.opens c.args.ports c.args.legacy c.in_ok-machine.machine c.in_ok-machine.ensures
    (ruled c.in_ok-machine.machine c.keeps_rules.ensures.port c.keeps_rules.ensures.slots c.keeps_rules.ensures.rules)

pub returns-clause-frame : goal.returns-clause-frame
returns-clause-frame c = c.taken_frames_are_lent.ensures.opens c.args.ports c.args.legacy c.in_ok-machine.machine c.in_ok-machine.ensures

use Rattle.uses_machine_laws.proofs.{Controller.{lent, line, moved, ruled, turns, writes}, Keep.moves_keep}
use Rattle.uses_machine_laws.proofs.moves.Goals as goal

pub returns-clause-keeps : goal.returns-clause-keeps
returns-clause-keeps c =
    moves_keep c.disks_have_their_laws.ensures.reached c.args.machine.now c.step-moved.result c.step-moved.new.self c.step-moved.ensures.ok c.step-moved.ensures.err

pub returns-clause-controller : goal.returns-clause-controller
returns-clause-controller c =
    moved c.controller_laws.ensures c.args.machine.now c.step-moved.new.self c.step-moved.result
    (ruled c.args.machine.now c.keeps_rules.ensures.port c.keeps_rules.ensures.slots c.keeps_rules.ensures.rules)
    (ruled c.step-moved.new.self c.keeps_rules-2.ensures.port c.keeps_rules-2.ensures.slots c.keeps_rules-2.ensures.rules) c.step-moved.ensures.ok

pub returns-clause-writes : goal.returns-clause-writes
returns-clause-writes c = writes c.controller_has_its_laws.ensures.writes c.args.machine.now c.step-moved.new.self c.step-moved.result c.step-moved.ensures.ok

pub returns-clause-turns : goal.returns-clause-turns
returns-clause-turns c = turns c.controller_has_its_laws.ensures.turns c.args.machine.now c.step-moved.new.self c.step-moved.result c.step-moved.ensures.ok

pub returns-clause-line : goal.returns-clause-line
returns-clause-line c = line c.controller_has_its_laws.ensures.line c.args.machine.now c.step-moved.new.self c.step-moved.result c.step-moved.ensures.ok

pub returns-clause-lent : goal.returns-clause-lent
returns-clause-lent c = lent c.taken_frames_are_lent.ensures.lent c.args.machine.now c.step-moved.new.self c.step-moved.result c.step-moved.ensures.ok

pub returns-clause-waits : goal.returns-clause-waits
returns-clause-waits c = λ rests are. c.rest_is_owed.ensures c.args.machine.now (c.step-moved.ensures.rests rests) are

use Rattle.uses_machine_laws.proofs.{Controller.ruled, FallCalls.{arrives, moved, orders}}
use Rattle.uses_machine_laws.proofs.falling.goes_on.Goals as goal

pub returns-clause-falls : goal.returns-clause-falls
returns-clause-falls c =
    moved c.falling_laws.ensures c.args.machine.now c.step-moved.new.self c.step-moved.result
    (ruled c.args.machine.now c.keeps_rules.ensures.port c.keeps_rules.ensures.slots c.keeps_rules.ensures.rules)
    (ruled c.step-moved.new.self c.keeps_rules-2.ensures.port c.keeps_rules-2.ensures.slots c.keeps_rules-2.ensures.rules) c.step-moved.ensures.ok

pub returns-clause-orders : goal.returns-clause-orders
returns-clause-orders c =
    orders c.sent_frames_are_supplied.ensures.orders c.args.machine.now c.step-moved.new.self c.step-moved.result
    (ruled c.args.machine.now c.keeps_rules.ensures.port c.keeps_rules.ensures.slots c.keeps_rules.ensures.rules) c.step-moved.ensures.ok

pub returns-clause-arrives : goal.returns-clause-arrives
returns-clause-arrives c = arrives c.frames_fall_in_order.ensures.passes c.args.machine.now c.step-moved.new.self c.step-moved.result c.step-moved.ensures.ok

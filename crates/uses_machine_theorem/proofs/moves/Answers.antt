use Rattle.uses_machine_theorem.proofs.LedLemmas.{asks, brought, completed, ended, ended_supplied, fallen, led, of_slots, ruled, speaks, speaks_done, speaks_supplied}
use Rattle.uses_machine_theorem.proofs.moves.Goals as goal

pub returns-clause-led : goal.returns-clause-led
returns-clause-led c =
    led c.args.machine.now c.step-moved.new.self c.step-moved.result c.step-moved.ensures.ok
    (ruled c.step-moved.new.self c.keeps_rules-2.ensures.port c.keeps_rules-2.ensures.slots c.keeps_rules-2.ensures.rules)

pub returns-clause-brought : goal.returns-clause-brought
returns-clause-brought c = brought c.payload_comes_from_devices.ensures.brought c.args.machine.now c.step-moved.new.self c.step-moved.result c.step-moved.ensures.ok

pub returns-clause-slots : goal.returns-clause-slots
returns-clause-slots c = of_slots c.data_are_of_slots.ensures.payload c.args.machine.now c.step-moved.new.self c.step-moved.result c.step-moved.ensures.ok

pub returns-clause-speaks : goal.returns-clause-speaks
returns-clause-speaks c = speaks c.data_are_of_slots.ensures.given c.args.machine.now c.step-moved.new.self c.step-moved.result c.step-moved.ensures.ok

pub returns-clause-ended : goal.returns-clause-ended
returns-clause-ended c =
    ended c.data_are_of_slots.ensures.completed c.args.machine.now c.step-moved.new.self c.step-moved.result c.step-moved.ensures.ok
    (ruled c.step-moved.new.self c.keeps_rules-2.ensures.port c.keeps_rules-2.ensures.slots c.keeps_rules-2.ensures.rules)

pub returns-clause-completed : goal.returns-clause-completed
returns-clause-completed c =
    completed c.completions_are_of_devices.ensures c.args.machine.now c.step-moved.new.self c.step-moved.result c.step-moved.ensures.ok
    (ruled c.step-moved.new.self c.keeps_rules-2.ensures.port c.keeps_rules-2.ensures.slots c.keeps_rules-2.ensures.rules)

pub returns-clause-stores : goal.returns-clause-stores
returns-clause-stores c = asks c.writes_come_from_guests.ensures.stores c.args.machine.now c.step-moved.new.self c.step-moved.result c.step-moved.ensures.ok

pub returns-clause-ends : goal.returns-clause-ends
returns-clause-ends c = speaks_supplied c.writes_come_from_guests.ensures.ends c.args.machine.now c.step-moved.new.self c.step-moved.result c.step-moved.ensures.ok

pub returns-clause-supplied : goal.returns-clause-supplied
returns-clause-supplied c =
    ended_supplied c.writes_come_from_guests.ensures.completed c.args.machine.now c.step-moved.new.self c.step-moved.result c.step-moved.ensures.ok
    (ruled c.step-moved.new.self c.keeps_rules-2.ensures.port c.keeps_rules-2.ensures.slots c.keeps_rules-2.ensures.rules)

pub returns-clause-done : goal.returns-clause-done
returns-clause-done c = speaks_done c.writes_come_from_guests.ensures.done c.args.machine.now c.step-moved.new.self c.step-moved.result c.step-moved.ensures.ok

pub returns-clause-fallen : goal.returns-clause-fallen
returns-clause-fallen c =
    fallen c.writes_come_from_guests.ensures.fallen c.args.machine.now c.step-moved.new.self c.step-moved.result c.step-moved.ensures.ok
    (ruled c.step-moved.new.self c.keeps_rules-2.ensures.port c.keeps_rules-2.ensures.slots c.keeps_rules-2.ensures.rules)

use Rattle.machine_laws.specs.Deeds as deed
use Rattle.uses_machine_laws.proofs.{Controller.ruled, FallCalls.one}
use Rattle.uses_machine_laws.proofs.falling.hears.Goals as goal

pub returns : goal.returns
returns c =
    one c.falling_laws.ensures c.args.machine.now c.take_frame-frame.new.self (deed.FrameTaken c.args.port c.take_frame-frame.result)
    (ruled c.args.machine.now c.keeps_rules.ensures.port c.keeps_rules.ensures.slots c.keeps_rules.ensures.rules)
    (ruled c.take_frame-frame.new.self c.keeps_rules-2.ensures.port c.keeps_rules-2.ensures.slots c.keeps_rules-2.ensures.rules) c.take_frame-frame.ensures

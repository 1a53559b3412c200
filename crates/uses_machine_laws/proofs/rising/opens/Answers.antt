use Rattle.uses_machine_laws.proofs.rising.opens.Goals as goal

pub returns : goal.returns
returns c = c.frames_rise_in_order.ensures.opens c.args.ports c.args.legacy c.in_ok-machine.machine c.in_ok-machine.ensures

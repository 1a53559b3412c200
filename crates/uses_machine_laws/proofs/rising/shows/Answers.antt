use Rattle.uses_machine_laws.proofs.rising.shows.Goals as goal

pub returns : goal.returns
returns c = λ frames risen. c.frames_rise_in_order.ensures.order c.args.machine.now frames risen

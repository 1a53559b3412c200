use Rattle.std.proofs.Common.{sym, ap, ◌∙◌}
use Rattle.hba_fbs.specs.{declared.turn.Turn.TheVariants.Orders, Turning.turn_of}
use Rattle.hba_fbs.proofs.SendLemmas.{outgoing_for}
use Rattle.hba_fbs.proofs.shell.HostPort.next_out.Goals as goal

pub returns-in-Orders-clause-gives : goal.returns-in-Orders-clause-gives
returns-in-Orders-clause-gives c =
    let next = outgoing_for c.args.self.now c.args.memory.now (Orders c.in-Orders.dev c.in-Orders.slot c.in-Orders.command) (sym c.in-Orders.is ∙ c.next_out.ensures.value ∙ ap turn_of c.self.view_is) in
    rw next (c.give_order.ensures.gives c.args.memory.now)

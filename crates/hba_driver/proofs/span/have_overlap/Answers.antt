use Rattle.std.proofs.Common.{not, ap, sym, ◌∙◌}
use Rattle.host_memory.proofs.Door.{in_order_apart}
use Rattle.hba_driver.proofs.span.have_overlap.Goals as goal

pub returns-else-not-lie_in_order : goal.returns-else-not-lie_in_order
returns-else-not-lie_in_order c =
    let ordered = c.if-not-lie_in_order.false in
    ap not ordered ∙ sym (in_order_apart 0 c.args.prds.now (sym c.lie_in_order.ensures ∙ ordered))

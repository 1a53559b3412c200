use Rattle.std.proofs.Common.{sym, ◌∙◌}
use Rattle.host_memory.specs.Reading.{prds_at}
use Rattle.host_memory.proofs.OverlapLemmas.{in_order_apart}
use Rattle.host_memory.proofs.table.have_overlap.Goals as goal

pub returns-then-lie_in_order : goal.returns-then-lie_in_order
returns-then-lie_in_order c = sym (in_order_apart 0 (prds_at c.args.structure.now c.args.at c.args.count) (sym c.lie_in_order.ensures ∙ c.if-lie_in_order.true))

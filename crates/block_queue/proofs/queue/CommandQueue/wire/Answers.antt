use Rattle.std.proofs.Common.{ap, subst, ◌∙◌}
use Rattle.block_queue.specs.Line.{IsLine}
use Rattle.block_queue.proofs.Kept.{wire_below, wire_holds}
use Rattle.block_queue.proofs.queue.CommandQueue.wire.Goals as goal

pub returns-clause-below : goal.returns-clause-below
returns-clause-below c =
    wire_below (record { queue = c.self.inside.requests; ranks = c.self.inside.ranks; orphans = c.self.inside.orphans }) c.wire.result c.self.invariant.line c.wire.ensures

pub returns-clause-holds : goal.returns-clause-holds
returns-clause-holds c =
    wire_holds c.args.self.now c.wire.result (subst IsLine c.self.view_is c.self.invariant.line) (c.wire.ensures ∙ ap (λ l. l.queue.table.wire) c.self.view_is)

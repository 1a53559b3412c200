use Rattle.std.proofs.Common.{refl}
use Rattle.block_command.specs.Laws.{Flushes}
use Rattle.block_queue.proofs.Watched.{answer_kept}
use Rattle.block_queue.proofs.queue.CommandQueue.flushed.Goals as goal

pub invariant_of-self-2 : goal.invariant_of-self-2
invariant_of-self-2 c = answer_kept (record { queue = c.self.inside.requests; ranks = c.self.inside.ranks; orphans = c.self.inside.orphans }) c.self.inside.busy c.noted-self-inside.result c.args.place c.args.number Flushes _ _ c.self.invariant c.requires refl c.in_ok-flushed.ensures.ok
    c.forget.ensures c.noted-self-inside.ensures

use Rattle.multiplier.proofs.PutBack.{down_there, down_empty, down_present, undone_down, undone_down_keeps}
use Rattle.multiplier.proofs.multiplier.Multiplier.put_back_down.Goals as goal

pub refill_down-requires-clause-there : goal.refill_down-requires-clause-there
refill_down-requires-clause-there c = down_there c.args.self.now c.args.n c.args.frame c.requires

pub refill_down-requires-clause-empty : goal.refill_down-requires-clause-empty
refill_down-requires-clause-empty c = down_empty c.args.self.now c.args.n c.args.frame c.requires

pub refill_down-requires-clause-present : goal.refill_down-requires-clause-present
refill_down-requires-clause-present c = down_present c.args.self.now c.args.n c.args.frame c.requires

pub returns-clause-undoes : goal.returns-clause-undoes
returns-clause-undoes c = undone_down c.args.self.now _ c.args.n c.args.frame c.refill_down.ensures

pub returns-clause-ports : goal.returns-clause-ports
returns-clause-ports c = undone_down_keeps c.args.self.now _ c.args.n c.args.frame c.requires (undone_down c.args.self.now _ c.args.n c.args.frame c.refill_down.ensures)

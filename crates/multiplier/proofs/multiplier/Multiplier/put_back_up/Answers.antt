use Rattle.multiplier.proofs.PutBack.{has_room, undone_up, undone_up_keeps}
use Rattle.multiplier.proofs.multiplier.Multiplier.put_back_up.Goals as goal

pub refill-requires : goal.refill-requires
refill-requires c = has_room c.args.self.now c.args.frame c.requires

pub returns-clause-undoes : goal.returns-clause-undoes
returns-clause-undoes c = undone_up c.args.self.now _ c.args.frame c.requires c.refill.ensures

pub returns-clause-ports : goal.returns-clause-ports
returns-clause-ports c = undone_up_keeps c.args.self.now _ c.args.frame c.requires (undone_up c.args.self.now _ c.args.frame c.requires c.refill.ensures)

use Rattle.block_engine.proofs.engine.Engine.forgive.Goals as goal

pub invariant_of-self : goal.invariant_of-self
invariant_of-self c = rw c.forgive.ensures c.self.invariant

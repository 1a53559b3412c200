use Rattle.std.proofs.Common.{arith}
use Rattle.multiplier.specs.contracts.multiplier.Multiplier.{the_view}
use Rattle.multiplier.proofs.Sound.{lent_sound}
use Rattle.multiplier.proofs.multiplier.Multiplier.port_gives.Goals as goal

pub invariant_of-self : goal.invariant_of-self
invariant_of-self c =
    lent_sound (the_view c.self.inside) c.from.result c.index-self-from.result c.take_held.new.self c.self.invariant (omega arith) c.index-self-from.is c.in-Some.ensures.after

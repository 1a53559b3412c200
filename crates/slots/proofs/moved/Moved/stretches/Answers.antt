use Rattle.std.proofs.Common.{◌∙◌}
use Rattle.slots.proofs.ApartLemmas.{count_seen}
use Rattle.slots.proofs.moved.Moved.stretches.Goals as goal

pub returns : goal.returns
returns c = c.len.ensures.value ∙ count_seen c.self.inside.dwords c.self.inside.stretches.items c.args.self.now c.self.view_is c.self.invariant.1

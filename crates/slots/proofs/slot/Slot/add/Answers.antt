use Rattle.slots.proofs.StretchLemmas.{few_flags}
use Rattle.slots.proofs.slot.Slot.add.Goals as goal

pub add-requires-clause-few : goal.add-requires-clause-few
add-requires-clause-few c = few_flags c.self.inside.issued c.self.inside.moved c.args.offset c.args.count c.args.self.now c.self.view_is c.requires.some c.self.invariant c.requires.few

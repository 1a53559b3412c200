use Rattle.slots.proofs.ListLemmas.{slot_changed}
use Rattle.slots.proofs.list.SlotList.mark_sent.Goals as goal

pub invariant_of-self : goal.invariant_of-self
invariant_of-self c = slot_changed c.self.inside.masks c.noting-self-inside.result c.args.slot c.self.inside.slots _ _ c.requires c.self.invariant c.noting-self-inside.ensures

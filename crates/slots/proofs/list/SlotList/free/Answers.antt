use Rattle.std.proofs.Common.{◌∙◌}
use Rattle.slots.proofs.NewLemmas.{all_free}
use Rattle.slots.proofs.list.SlotList.free.Goals as goal

pub returns : goal.returns
returns c = c.of.ensures ∙ all_free c.default.result 32 c.default.ensures.long c.default.ensures.at

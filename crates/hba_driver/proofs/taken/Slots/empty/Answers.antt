use Rattle.hba_driver.proofs.calls.{MaskLemmas.no_masks, ScanLemmas.all_free}
use Rattle.hba_driver.proofs.taken.Slots.empty.Goals as goal

pub returns : goal.returns
returns c = all_free c.default.result 30 c.default.ensures.long c.default.ensures.at

pub invariant_of-result : goal.invariant_of-result
invariant_of-result c = (c.default.ensures.long, no_masks 30 c.default.result (all_free c.default.result 30 c.default.ensures.long c.default.ensures.at))

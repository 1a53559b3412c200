use Rattle.slots.proofs.{ByteLemmas.{over_with_bytes, over_none}, MaskLemmas.{has_bit_mask, mask_fits, lowest_is, lowest_before, none_below}}
use Rattle.slots.proofs.laws.words_mean_sets.Goals as goal

pub returns-clause-bytes : goal.returns-clause-bytes
returns-clause-bytes c = record { added = over_with_bytes; at_first = over_none }

pub returns-clause-masks : goal.returns-clause-masks
returns-clause-masks c = record { bits = has_bit_mask; small = λ test. mask_fits test 32 }

pub returns-clause-lowest : goal.returns-clause-lowest
returns-clause-lowest c = record {
  passes = λ test slot h. let is = lowest_is test 32 slot h in (is.below, is.passes);
  below = λ test slot k h lt. lowest_before test 32 slot k h lt;
  nowhere = λ test k h lt. none_below test 32 h k lt;
}

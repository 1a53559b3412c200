use Rattle.std.proofs.Common.{ap, ◌∙◌}
use Rattle.hba_driver.specs.{Drivers.{entry_at, has_ended, holds}, Submits.lowest_ended}
use Rattle.hba_driver.proofs.calls.MaskLemmas.{lowest_inside, lowest_of, past_none}
use Rattle.hba_driver.proofs.taken.Slots.lowest_ended.Goals as goal

pub returns-clause-value : goal.returns-clause-value
unfolding lowest_ended
returns-clause-value c =
    let entries = c.self.inside.list in
    lowest_of (λ k. holds has_ended (entry_at entries k)) c.self.inside.masks.ended _ c.self.invariant.1.ended.bits
    (λ k past. ap (holds has_ended) (past_none entries k c.self.invariant.0 past)) c.lowest_bit.ensures
    ∙ ap lowest_ended c.self.view_is

pub returns-clause-below : goal.returns-clause-below
returns-clause-below c =
    let entries = c.self.inside.list in
    lowest_inside (λ k. holds has_ended (entry_at entries k)) c.self.inside.masks.ended _ c.self.invariant.1.ended.bits
    (λ k past. ap (holds has_ended) (past_none entries k c.self.invariant.0 past)) c.lowest_bit.ensures

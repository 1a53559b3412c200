use Rattle.std.proofs.Common.{ap, ◌∙◌}
use Rattle.std.specs.Option.{is_some}
use Rattle.hba_driver.specs.{Drivers.{entry_at, holds}, Ticks.{any_done, is_done}}
use Rattle.hba_driver.proofs.calls.MaskLemmas.{done_bits, lowest_of, past_none}
use Rattle.hba_driver.proofs.taken.Slots.any_done.Goals as goal

pub returns-clause-done : goal.returns-clause-done
unfolding any_done
returns-clause-done c =
    let entries = c.self.inside.list in
    let issued = c.args.issued in
    c.is_some.ensures
    ∙ ap is_some (lowest_of (λ k. holds (is_done issued k) (entry_at entries k)) _ _
    (done_bits c.self.inside.masks.issued issued entries c.ranges.issued.fits c.self.invariant.1.issued)
    (λ k past. ap (holds (is_done issued k)) (past_none entries k c.self.invariant.0 past)) c.lowest_bit.ensures)
    ∙ ap (any_done issued) c.self.view_is

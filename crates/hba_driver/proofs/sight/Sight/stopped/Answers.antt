use Rattle.std.proofs.Common.{ℕ, ap, ◌∙◌}
use Rattle.slots.specs.Slots.{has_bit}
use Rattle.hba_driver.specs.{Seeing.Sight, Sights.{px_sntf, shown, sight_of, stopped_by}}
use Rattle.hba_driver.proofs.sight.Sight.stopped.Goals as goal

pub returns : goal.returns
unfolding sight_of
returns c =
    c.stopped.ensures
    ∙ ap (λ (issued : ℕ). stopped_by c.self.inside.mode c.self.inside.port.now (has_bit (shown c.self.inside.port.now px_sntf) 15) issued) c.self.invariant
    ∙ ap (λ (v : Sight). v.stopped) c.self.view_is

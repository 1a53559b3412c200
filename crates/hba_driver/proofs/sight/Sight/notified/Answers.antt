use Rattle.std.proofs.Common.{ap, ◌∙◌}
use Rattle.hba_driver.specs.{Seeing.Sight, Sights.sight_of}
use Rattle.hba_driver.proofs.sight.Sight.notified.Goals as goal

pub returns : goal.returns
unfolding sight_of
returns c = c.is_notified.ensures ∙ ap (λ (v : Sight). v.notified) c.self.view_is

use Rattle.std.proofs.Common.{ap, ◌∙◌}
use Rattle.hba_driver.specs.{Seeing.Sight, Sights.sight_of}
use Rattle.hba_driver.proofs.sight.Sight.resetting.Goals as goal

pub returns : goal.returns
unfolding sight_of
returns c = c.resetting.ensures ∙ ap (λ (v : Sight). v.resetting) c.self.view_is

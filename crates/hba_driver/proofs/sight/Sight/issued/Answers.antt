use Rattle.std.proofs.Common.{ap, ◌∙◌}
use Rattle.hba_driver.specs.Seeing.{Sight}
use Rattle.hba_driver.proofs.sight.Sight.issued.Goals as goal

pub returns : goal.returns
returns c = c.self.invariant ∙ ap (λ (v : Sight). v.issued) c.self.view_is

use Rattle.std.proofs.Common.{length, ap, arith, ◌∙◌}
use Rattle.hba_driver.specs.{Seeing.Sight, Sights.{is_usable, sight_of}}
use Rattle.hba_driver.proofs.sight.Sight.usable.Goals as goal

pub is_usable-requires : goal.is_usable-requires
is_usable-requires c = omega (arith, ap length c.client.ensures.client, c.client.ensures.sized)

pub returns : goal.returns
unfolding sight_of
returns c = c.is_usable.ensures ∙ ap is_usable c.client.ensures.client ∙ ap (λ (v : Sight). v.usable) c.self.view_is

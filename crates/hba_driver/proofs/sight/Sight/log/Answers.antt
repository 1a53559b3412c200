use Rattle.std.proofs.Common.{length, ap, arith, ◌∙◌}
use Rattle.hba_driver.specs.{Seeing.Sight, Sights.{log_in, sight_of}}
use Rattle.hba_driver.proofs.sight.Sight.log.Goals as goal

pub error_log-requires : goal.error_log-requires
error_log-requires c = omega (arith, ap length c.client.ensures.client, c.client.ensures.sized)

pub returns : goal.returns
unfolding sight_of
returns c = c.error_log.ensures ∙ ap log_in c.client.ensures.client ∙ ap (λ (v : Sight). v.log) c.self.view_is

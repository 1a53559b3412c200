use Rattle.std.proofs.Common.{ap, sym, false, ◌∙◌}
use Rattle.std.specs.Prelude.{slice_index_or}
use Rattle.hba_fbs.specs.Views.{view_of}
use Rattle.hba_driver.specs.{Seeing.Sight, Sights.sight_of}
use Rattle.hba_driver.proofs.calls.SightLemmas.{flag_at, flag_past}
use Rattle.hba_driver.proofs.sight.Sight.in_reset.Goals as goal

pub returns-then-dev-lt16 : goal.returns-then-dev-lt16
unfolding sight_of
returns-then-dev-lt16 c =
    c.resetting.ensures
    ∙ sym (flag_at (λ dev. (view_of dev c.self.inside.port.now).state.resetting) c.args.dev c.if-dev-lt16.true)
    ∙ ap (λ (v : Sight). slice_index_or v.in_reset c.args.dev false) c.self.view_is

pub returns-else-dev-lt16 : goal.returns-else-dev-lt16
unfolding sight_of
returns-else-dev-lt16 c =
    sym (flag_past (λ dev. (view_of dev c.self.inside.port.now).state.resetting) c.args.dev c.if-dev-lt16.false)
    ∙ ap (λ (v : Sight). slice_index_or v.in_reset c.args.dev false) c.self.view_is

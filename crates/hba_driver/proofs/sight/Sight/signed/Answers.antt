use Rattle.std.proofs.Common.{ap, sym, false, ◌∙◌}
use Rattle.std.specs.Prelude.{slice_index_or}
use Rattle.hba_driver.specs.{Seeing.Sight, Sights.sight_of}
use Rattle.hba_driver.proofs.calls.SightLemmas.{unsigned_past}
use Rattle.hba_driver.proofs.sight.Sight.signed.Goals as goal

pub returns-then-dev-lt16 : goal.returns-then-dev-lt16
unfolding sight_of
returns-then-dev-lt16 c = c.signed_in.ensures ∙ ap (λ (v : Sight). slice_index_or v.signed c.args.dev false) c.self.view_is

pub returns-else-dev-lt16 : goal.returns-else-dev-lt16
unfolding sight_of
returns-else-dev-lt16 c =
    sym (unsigned_past c.self.inside.mode c.self.inside.port.now c.self.inside.memory.now c.args.dev c.if-dev-lt16.false)
    ∙ ap (λ (v : Sight). slice_index_or v.signed c.args.dev false) c.self.view_is

use Rattle.std.proofs.Common.{◌≡◌, ℕ, List, ap, refl, ◌∙◌}
use Rattle.fis_view.specs.Seen.{seen}
use Rattle.hba_driver.specs.{Seeing.Sight, Sights.{answer_in, sight_of}}
use Rattle.hba_driver.proofs.sight.Sight.answer.Goals as goal

pub returns : goal.returns
unfolding sight_of
returns c =
    let here : c.answer.result ≡ (sight_of c.self.inside.mode c.self.inside.port.now c.self.inside.memory.now).answer =
    c.answer.ensures ∙ ap (λ (b : List ℕ). answer_in (seen b)) c.last_d2h.ensures ∙ rw (c.structure.ensures.structure, c.answer_row.ensures.value) refl
    in
    here ∙ ap (λ (v : Sight). v.answer) c.self.view_is

-- For the field `prefix` of `laws`. What the host took of a connection is a prefix of what was sent on it.
use Rattle.std.proofs.Common.{ℕ, List, ◌++◌, ap, ◌∙◌}
use Rattle.pm_world.specs.{Laws.TakenIsPrefix, Places.{Places, new_world_in}, Rules.Run, Traffic.{sent, all_marked}, declared.step.Step.Step}
use Rattle.pm_world.specs.declared.step.Answer.{Answer}
use Rattle.pm_world.proofs.{upward.Law.{nothing_lost, run_append}, steps.{Openings.nothing_stands, Orderly.opening_orderly}}

pub taken_is_prefix : (old : Places) (steps : List Step) (answers : List Answer) (new : Places) → Run old steps answers new → TakenIsPrefix old answers
taken_is_prefix old steps answers new run mode config units fits before told made n c device =
    let whole = run_append (new_world_in mode config units) old new before told steps answers made run in
    let lost = nothing_lost (new_world_in mode config units) (before ++ steps) (told ++ answers) new (opening_orderly mode config units fits) whole in
    let prefix = lost.prefix n c device in
    (prefix.0, prefix.1 ∙ ap (λ (standing : List (List ℕ)). standing ++ all_marked n (sent n c (told ++ answers))) (nothing_stands mode config units n c))

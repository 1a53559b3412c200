use Rattle.std.proofs.Common.{sym}
use Rattle.saved_state.specs.State.{parts_refused, rule_refused}
use Rattle.block_engine.specs.Saved.{KeepsEngine, KeepsParts, fit, parts_of, parts_told_apart, put_parts}
use Rattle.block_engine.proofs.{Holders.{fit_numbered, numbered_fit}, SavedLemmas.restored}
use Rattle.block_engine.proofs.engine.saved.EngineSaved.restore.Goals as goal

pub returns-in-Err : goal.returns-in-Err
returns-in-Err c = parts_refused put_parts KeepsParts KeepsEngine parts_of (λ e k. k.0)
    c.args.words.now c.restore.new.words c.in-Err.error c.in-Err.ensures

pub returns-then-not-are_numbered : goal.returns-then-not-are_numbered
returns-then-not-are_numbered c = rule_refused put_parts KeepsParts KeepsEngine parts_of fit parts_told_apart (λ e k. k.0) (λ e k. numbered_fit _ _ _ k.1)
    c.args.words.now c.restore.new.words c.in-Ok.parts c.in-Ok.ensures (sym c.if-not-are_numbered.ensures)

pub invariant_of-result : goal.invariant_of-result
invariant_of-result c = fit_numbered _ _ _ (sym c.if-not-are_numbered.ensures)

pub returns : goal.returns
returns c = restored c.in-Ok.parts c.args.words.now c.restore.new.words c.into_vec-ranges.result.items c.into_vec-ranges.ensures c.in-Ok.ensures
    (fit_numbered _ _ _ (sym c.if-not-are_numbered.ensures))

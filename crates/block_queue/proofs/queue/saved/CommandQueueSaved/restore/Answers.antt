use Rattle.std.proofs.Common.{sym}
use Rattle.saved_state.specs.State.{parts_refused, rule_refused}
use Rattle.block_queue.specs.Saved.{KeepsLine, KeepsParts, fit, line_of, parts_of, parts_told_apart, put_parts}
use Rattle.block_queue.proofs.SavedLemmas.{fit_keeps, keeps_fit}
use Rattle.block_queue.proofs.queue.saved.CommandQueueSaved.restore.Goals as goal

pub returns-in-Err : goal.returns-in-Err
returns-in-Err c = parts_refused put_parts KeepsParts KeepsLine parts_of (λ l k. k.0) c.args.words.now c.restore.new.words c.in-Err.error c.in-Err.ensures

pub returns-then-not-fits : goal.returns-then-not-fits
returns-then-not-fits c = rule_refused put_parts KeepsParts KeepsLine parts_of fit parts_told_apart (λ l k. k.0) (λ l k. keeps_fit l k.1)
    c.args.words.now c.restore.new.words c.in-Ok.parts c.in-Ok.ensures (sym c.if-not-fits.ensures)

pub invariant_of-result : goal.invariant_of-result
invariant_of-result c =
    let parts = c.in-Ok.parts in
    let k = c.in-Ok.ensures.1 in
    record { line = fit_keeps (line_of parts.0 parts.1 parts.2) k.0.0.1 k.1.0 k.2.0 (sym c.if-not-fits.ensures); watched = c.watched-busy.ensures }

pub returns : goal.returns
returns c =
    let parts = c.in-Ok.parts in
    let k = c.in-Ok.ensures.1 in
    (c.in-Ok.ensures.0, (k, fit_keeps (line_of parts.0 parts.1 parts.2) k.0.0.1 k.1.0 k.2.0 (sym c.if-not-fits.ensures)))

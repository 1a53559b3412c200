use Rattle.std.proofs.Common.{◌≡◌, ◌∙◌, true, false, length, ap, sym}
use Rattle.saved_state.specs.State.{parts_refused, rule_refused}
use Rattle.block_command.specs.Saved.{KeepsMoment, KeepsParts, fit, fits, parts_of, parts_told_apart, put_parts}
use Rattle.block_command.proofs.SavedLemmas.{fit_keeps, keeps_fit, moment_of, restored}
use Rattle.block_command.proofs.command.saved.BlockCommandSaved.restore.Goals as goal

pub returns-in-Err : goal.returns-in-Err
returns-in-Err c = parts_refused put_parts KeepsParts KeepsMoment parts_of (λ m k. k.0) c.args.words.now c.restore.new.words c.in-Err.error c.in-Err.ensures

pub returns-then-not-fits : goal.returns-then-not-fits
returns-then-not-fits c =
    let parts = c.in-Ok.parts in
    let lent : c.deref.result.now ≡ c.into_vec-bytes.result.items = c.deref.ensures.value in
    let same : c.deref.result.now ≡ parts.2.0 = lent ∙ c.into_vec-bytes.ensures in
    let not_fit : fit parts ≡ false = ap (λ xs. fits parts.0 parts.1.1 (length xs) parts.2.1) (sym same) ∙ sym c.if-not-fits.ensures in
    rule_refused put_parts KeepsParts KeepsMoment parts_of fit parts_told_apart (λ m k. k.0) (λ m k. keeps_fit m k.1)
    c.args.words.now c.restore.new.words parts c.in-Ok.ensures not_fit

pub invariant_of-result : goal.invariant_of-result
invariant_of-result c =
    let parts = c.in-Ok.parts in
    let same : c.deref.result.now ≡ c.into_vec-bytes.result.items = c.deref.ensures.value in
    fit_keeps (moment_of parts c.into_vec-bytes.result.items)
    (ap (λ xs. fits parts.0 parts.1.1 (length xs) parts.2.1) (sym same) ∙ sym c.if-not-fits.ensures)

pub returns : goal.returns
returns c =
    let parts = c.in-Ok.parts in
    let same : c.deref.result.now ≡ c.into_vec-bytes.result.items = c.deref.ensures.value in
    restored parts c.args.words.now c.restore.new.words c.into_vec-bytes.result.items c.into_vec-bytes.ensures c.in-Ok.ensures
    (ap (λ xs. fits parts.0 parts.1.1 (length xs) parts.2.1) (sym same) ∙ sym c.if-not-fits.ensures)

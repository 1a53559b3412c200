use Rattle.std.proofs.Common.{sym}
use Rattle.fan_out.specs.Saved.{KeepsStraight, KeepsStraightParts, put_straight_parts, straight_parts, straight_parts_apart, straight_parts_fit}
use Rattle.fan_out.proofs.SavedLemmas.{fit_straight, straight_fit}
use Rattle.saved_state.specs.State.{parts_refused, rule_refused}
use Rattle.fan_out.proofs.straight.saved.StraightSaved.restore.Goals as goal

pub returns-in-Err : goal.returns-in-Err
returns-in-Err c = parts_refused put_straight_parts KeepsStraightParts KeepsStraight straight_parts (λ v k. k.0) c.args.words.now c.restore.new.words c.in-Err.error c.in-Err.ensures

pub returns-then-not-fits : goal.returns-then-not-fits
returns-then-not-fits c = rule_refused put_straight_parts KeepsStraightParts KeepsStraight straight_parts straight_parts_fit straight_parts_apart (λ v k. k.0)
    (λ v k. straight_fit v k.1) c.args.words.now c.restore.new.words c.in-Ok.parts c.in-Ok.ensures (sym c.if-not-fits.ensures)

pub invariant_of-result : goal.invariant_of-result
invariant_of-result c = let p = c.in-Ok.parts in fit_straight (record { port = p.0; seat = p.1; asked = p.2 }) (sym c.if-not-fits.ensures)

pub returns : goal.returns
returns c = let p = c.in-Ok.parts in
    (c.in-Ok.ensures.0, (c.in-Ok.ensures.1, fit_straight (record { port = p.0; seat = p.1; asked = p.2 }) (sym c.if-not-fits.ensures)))

use Rattle.std.proofs.Common.{sym}
use Rattle.multiplier.specs.{State.PmState, Saved.{KeepsMultiplier, KeepsParts, Parts, parts_are_apart, parts_fit, parts_of, put_parts}}
use Rattle.multiplier.proofs.SavedLemmas.{fit_sound, sound_fits}
use Rattle.saved_state.specs.State.{parts_refused, rule_refused}
use Rattle.multiplier.proofs.multiplier.saved.MultiplierSaved.restore.Goals as goal

abbrev state_of : Parts → PmState
state_of p = record {
  registers = p.0.0;
  resetting = p.0.1;
  ports = p.0.2;
  answer = p.1.0;
  served = p.1.1;
  number = p.1.2;
  dropped = p.2.0;
  given = p.2.1;
}

pub returns-in-Err : goal.returns-in-Err
returns-in-Err c = parts_refused put_parts KeepsParts KeepsMultiplier parts_of (λ v k. k.0) c.args.words.now c.restore.new.words c.in-Err.error c.in-Err.ensures

pub returns-then-not-fits : goal.returns-then-not-fits
returns-then-not-fits c = rule_refused put_parts KeepsParts KeepsMultiplier parts_of parts_fit parts_are_apart (λ v k. k.0)
    (λ v k. sound_fits v k.1) c.args.words.now c.restore.new.words c.in-Ok.parts c.in-Ok.ensures (sym c.if-not-fits.ensures)

pub invariant_of-result : goal.invariant_of-result
invariant_of-result c = fit_sound (state_of c.in-Ok.parts) c.in-Ok.ensures.1 (sym c.if-not-fits.ensures)

pub returns : goal.returns
returns c = (c.in-Ok.ensures.0, (c.in-Ok.ensures.1, fit_sound (state_of c.in-Ok.parts) c.in-Ok.ensures.1 (sym c.if-not-fits.ensures)))

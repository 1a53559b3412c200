use Rattle.std.proofs.Common.{sym}
use Rattle.port_errors.specs.{Errors.AreErrors, Saved.{KeepsParts, errors_keep, fit, parts_are_apart, parts_of, put_parts}}
use Rattle.port_errors.proofs.SavedLemmas.{fit_keeps, keeps_fit}
use Rattle.saved_state.specs.State.{parts_refused, rule_refused}
use Rattle.port_errors.proofs.errors.saved.PortErrorsSaved.restore.Goals as goal

pub returns-in-Err : goal.returns-in-Err
returns-in-Err c = parts_refused put_parts KeepsParts AreErrors parts_of errors_keep c.args.words.now c.restore.new.words c.in-Err.error c.in-Err.ensures

pub returns-then-not-fits : goal.returns-then-not-fits
returns-then-not-fits c = rule_refused put_parts KeepsParts AreErrors parts_of fit parts_are_apart errors_keep
    (λ e k. keeps_fit e.causes e.reported e.port k) c.args.words.now c.restore.new.words c.in-Ok.parts c.in-Ok.ensures
    (sym c.if-not-fits.ensures)

pub invariant_of-result : goal.invariant_of-result
invariant_of-result c = fit_keeps c.in-Ok.parts.0 c.in-Ok.parts.1 c.in-Ok.parts.2 c.in-Ok.ensures.1.0.0 (sym c.if-not-fits.ensures)

pub returns : goal.returns
returns c = (c.in-Ok.ensures.0, fit_keeps c.in-Ok.parts.0 c.in-Ok.parts.1 c.in-Ok.parts.2 c.in-Ok.ensures.1.0.0 (sym c.if-not-fits.ensures))

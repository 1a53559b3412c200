use Rattle.std.proofs.Common.{sym}
use Rattle.pm_ports.specs.Saved.{KeepsParts, KeepsPort, fit, parts_are_apart, parts_of, put_parts}
use Rattle.pm_ports.proofs.SavedLemmas.{fit_sound, sound_fits}
use Rattle.saved_state.specs.State.{parts_refused, rule_refused}
use Rattle.pm_ports.proofs.port.saved.PortSaved.restore.Goals as goal

pub returns-in-Err : goal.returns-in-Err
returns-in-Err c = parts_refused put_parts KeepsParts KeepsPort parts_of (λ v k. k.0) c.args.words.now c.restore.new.words c.in-Err.error c.in-Err.ensures

pub returns-then-not-fits : goal.returns-then-not-fits
returns-then-not-fits c = rule_refused put_parts KeepsParts KeepsPort parts_of fit parts_are_apart (λ v k. k.0)
    (λ v k. sound_fits v.present v.last v.gone v.up v.down k.1) c.args.words.now c.restore.new.words c.in-Ok.parts c.in-Ok.ensures (sym c.if-not-fits.ensures)

pub invariant_of-result : goal.invariant_of-result
invariant_of-result c = let p = c.in-Ok.parts in fit_sound p.0.0 p.0.1 p.0.2 p.1.0 p.1.1 (sym c.if-not-fits.ensures)

pub returns : goal.returns
returns c = let p = c.in-Ok.parts in
    (c.in-Ok.ensures.0, (c.in-Ok.ensures.1, fit_sound p.0.0 p.0.1 p.0.2 p.1.0 p.1.1 (sym c.if-not-fits.ensures)))

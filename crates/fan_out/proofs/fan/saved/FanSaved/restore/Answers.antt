use Rattle.std.proofs.Common.{sym, rules}
use Rattle.fan_out.specs.Saved.{KeepsFan, KeepsFanParts, fan_parts, fan_parts_apart, fan_parts_fit, put_fan_parts}
use Rattle.fan_out.proofs.SavedLemmas.{fan_fit, fit_fan}
use Rattle.saved_state.specs.State.{parts_refused, rule_refused}
use Rattle.fan_out.proofs.fan.saved.FanSaved.restore.Goals as goal

pub returns-in-Err : goal.returns-in-Err
returns-in-Err c = parts_refused put_fan_parts KeepsFanParts KeepsFan fan_parts (λ v k. k.0) c.args.words.now c.restore.new.words c.in-Err.error c.in-Err.ensures

pub returns-then-not-fits : goal.returns-then-not-fits
returns-then-not-fits c = rule_refused put_fan_parts KeepsFanParts KeepsFan fan_parts fan_parts_fit fan_parts_apart (λ v k. k.0)
    (λ v k. fan_fit v k.1) c.args.words.now c.restore.new.words c.in-Ok.parts c.in-Ok.ensures (sym c.if-not-fits.ensures)

pub invariant_of-result : goal.invariant_of-result
invariant_of-result c = let p = c.in-Ok.parts in
    (search rules, fit_fan (record { multiplier = p.0; legacy = p.1; seats = p.2 }) c.in-Ok.ensures.1 (sym c.if-not-fits.ensures))

pub returns : goal.returns
returns c = let p = c.in-Ok.parts in
    (c.in-Ok.ensures.0, (c.in-Ok.ensures.1, fit_fan (record { multiplier = p.0; legacy = p.1; seats = p.2 }) c.in-Ok.ensures.1 (sym c.if-not-fits.ensures)))

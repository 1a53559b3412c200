use Rattle.std.proofs.Common.{sym}
use Rattle.pm_registers.specs.Saved.{KeepsRegisterParts, KeepsRegisters, parts_fit, put_register_parts, register_parts, register_parts_apart}
use Rattle.pm_registers.proofs.SavedLemmas.{fit_sound, sound_fits}
use Rattle.saved_state.specs.State.{parts_refused, rule_refused}
use Rattle.pm_registers.proofs.registers.saved.PmRegistersSaved.restore.Goals as goal

pub returns-in-Err : goal.returns-in-Err
returns-in-Err c = parts_refused put_register_parts KeepsRegisterParts KeepsRegisters register_parts (λ v k. k.0) c.args.words.now c.restore.new.words c.in-Err.error c.in-Err.ensures

pub returns-then-not-fits : goal.returns-then-not-fits
returns-then-not-fits c = rule_refused put_register_parts KeepsRegisterParts KeepsRegisters register_parts parts_fit register_parts_apart (λ v k. k.0)
    (λ v k. sound_fits v k.1) c.args.words.now c.restore.new.words c.in-Ok.parts c.in-Ok.ensures (sym c.if-not-fits.ensures)

pub invariant_of-result : goal.invariant_of-result
invariant_of-result c = let p = c.in-Ok.parts in
    fit_sound (record { ports = p.0.0; mask = p.0.1; enabled = p.0.2; bank = p.1.0; due = p.1.1 }) c.in-Ok.ensures.1.1.0.0 (sym c.if-not-fits.ensures)

pub returns : goal.returns
returns c = let p = c.in-Ok.parts in (
  c.in-Ok.ensures.0,
  (
    c.in-Ok.ensures.1,
    fit_sound (record { ports = p.0.0; mask = p.0.1; enabled = p.0.2; bank = p.1.0; due = p.1.1 }) c.in-Ok.ensures.1.1.0.0 (sym c.if-not-fits.ensures),
  ),
)

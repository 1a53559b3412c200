use Rattle.std.proofs.Common.{sym, ◌∙◌}
use Rattle.hba_driver.specs.declared.mode.Mode.TheVariants.{Switching}
use Rattle.hba_driver.proofs.calls.EffectLemmas.{acts_none, no_effects}
use Rattle.hba_driver.proofs.order.Order.perform_switching.Goals as goal

pub returns-in_default : goal.returns-in_default
returns-in_default c = rw (no_effects Switching c.args.self (sym c.fields.ensures ∙ c.in_default.is)) (acts_none c.args.port.now c.args.memory.now)

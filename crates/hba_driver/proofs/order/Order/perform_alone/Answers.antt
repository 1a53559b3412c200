use Rattle.std.proofs.Common.{sym, ◌∙◌}
use Rattle.hba_driver.specs.declared.mode.Mode.TheVariants.{CommandBased}
use Rattle.hba_driver.proofs.calls.EffectLemmas.{acts_none, no_effects}
use Rattle.hba_driver.proofs.order.Order.perform_alone.Goals as goal

pub returns-in_default : goal.returns-in_default
returns-in_default c = rw (no_effects CommandBased c.args.self (sym c.fields.ensures ∙ c.in_default.is)) (acts_none c.args.port.now c.args.memory.now)

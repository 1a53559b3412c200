use Rattle.std.proofs.Common.{sym, ◌∙◌}
use Rattle.hba_driver.proofs.calls.EffectLemmas.{acts_none}
use Rattle.hba_driver.proofs.path.Stage.perform.Goals as goal

pub returns-in_default : goal.returns-in_default
returns-in_default c = rw (sym c.fields.ensures ∙ c.in_default.is) (acts_none c.args.port.now c.args.memory.now)

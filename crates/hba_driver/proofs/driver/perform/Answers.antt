use Rattle.std.proofs.Common.{refl}
use Rattle.hba_driver.specs.Effects.{ActsAll}
use Rattle.hba_driver.proofs.calls.EffectLemmas.{act_possible}
use Rattle.hba_driver.proofs.driver.perform.Goals as goal

pub returns-in_default-clause-acts : goal.returns-in_default-clause-acts
unfolding ActsAll
returns-in_default-clause-acts c = rw c.in_default.is (refl, refl)

pub returns-in-Some-clause-possible : goal.returns-in-Some-clause-possible
returns-in-Some-clause-possible c = rw c.in-Some.is (act_possible c.args.mode c.in-Some.act (rw c.in-Some.is at c.requires))

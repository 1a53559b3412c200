use Rattle.std.proofs.Common.{refl}
use Rattle.hba_driver.specs.Sights.{sight_of}
use Rattle.hba_driver.proofs.sight.Sight.of.Goals as goal

pub invariant_of-result : goal.invariant_of-result
unfolding sight_of
invariant_of-result c = rw (c.register.ensures, c.register-2.ensures) refl

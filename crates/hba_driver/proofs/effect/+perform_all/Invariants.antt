use Rattle.std.proofs.Common.{length}
use Rattle.hba_driver.proofs.effect.+perform_all.Given as goal

abbrev pub decreases-perform_all : goal.decreases-perform_all
decreases-perform_all l = length l.effects.now

-- The tally of what was taken.
use Rattle.std.proofs.Common.{[], refl, arith}
use Rattle.host_thread.specs.Tally.{AreCounted}

pub none_counted : AreCounted [] []
none_counted = record { counts = λ n c lt. refl; few = λ n c. omega arith }

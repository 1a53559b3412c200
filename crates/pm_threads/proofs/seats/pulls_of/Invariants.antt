use Rattle.std.proofs.Common.{◌≡◌, take}
use Rattle.pm_threads.specs.Setups.{pulls_at}
use Rattle.pm_threads.proofs.seats.pulls_of.Given as goal

abbrev pub invariant-loop-pull : goal.invariant-loop-pull
invariant-loop-pull l = l.own.items ≡ pulls_at l.n (take l.pull-index l.pulls)

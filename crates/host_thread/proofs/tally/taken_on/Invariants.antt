use Rattle.std.proofs.Common.{◌≡◌, take}
use Rattle.std.specs.List.{sum_by}
use Rattle.host_thread.specs.Tally.{counted_by}
use Rattle.host_thread.proofs.tally.taken_on.Given as goal

abbrev pub invariant-loop-row : goal.invariant-loop-row
invariant-loop-row l = l.sum ≡ sum_by (counted_by l.port l.conn) (take l.row-index l.rows)

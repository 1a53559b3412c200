use Rattle.std.proofs.Common.{◌≡◌, ◌++◌}
use Rattle.thread_counts.specs.Rows.{row_for, rows_on}
use Rattle.disk_thread.specs.Runs.{all_given}
use Rattle.thread_counts.proofs.count_at.Given as goal

abbrev pub invariant-loop-before : goal.invariant-loop-before
invariant-loop-before g l = l.rows.items ≡ l.fn.rows.items ++ rows_on (row_for (all_given l.station) l.host.frames.taken l.port) l.before

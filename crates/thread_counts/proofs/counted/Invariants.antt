use Rattle.std.specs.Prelude.{map}
use Rattle.disk_thread.specs.declared.worker.DiskEnd.{DiskEnd}
use Rattle.thread_counts.proofs.RowLemmas.{UpTo}
use Rattle.thread_counts.proofs.counted.Given as goal

abbrev pub invariant-loop-port : goal.invariant-loop-port
invariant-loop-port g l = UpTo (map (λ (e : DiskEnd g.row.D.Denot). e.station) l.disks) l.host.frames.taken l.port l.rows.items

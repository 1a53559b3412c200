use Rattle.std.proofs.Common.{◌≡◌, ◌+◌, ◌-◌, ◌*◌, ◌++◌, length}
use Rattle.host_memory.specs.{Ends.ends_from, Reading.prds_at, Place.total_of}
use Rattle.host_memory.proofs.table.ends_of.Given as goal

-- the ends so far and those of what is left are all of them, and so with the sum
abbrev pub invariant-loop-i : goal.invariant-loop-i
invariant-loop-i l =
    let left = prds_at l.structure (l.at + 16 * l.i) (l.count - l.i) in
    record {
      ends : l.ends.items ++ ends_from l.end left ≡ ends_from 0 (prds_at l.structure l.at l.count);
      long : length l.ends.items ≡ l.i;
      whole : l.end + total_of left ≡ total_of (prds_at l.structure l.at l.count);
    }

use Rattle.std.proofs.Common.{◌-◌, ◌<◌, ◌≤◌, length, get_or}
use Rattle.host_memory.specs.Ends.{begin_in}
use Rattle.host_memory.proofs.table.entry_of.Given as goal

-- the entry is at or after one that begins at or before the byte, and at or before one that ends after it
abbrev pub invariant-halving : goal.invariant-halving
invariant-halving l = record {
  in_order : l.from ≤ l.to;
  there : l.to ≤ length l.ends;
  begins : begin_in l.ends l.from ≤ l.i;
  ends_after : l.to < length l.ends → l.i < get_or l.ends l.to 0;
}

abbrev pub decreases-halving : goal.decreases-halving
decreases-halving l = l.to - l.from

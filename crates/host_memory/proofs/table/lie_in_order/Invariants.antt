use Rattle.std.proofs.Common.{◌≡◌, ◌+◌, ◌-◌, ◌*◌}
use Rattle.host_memory.specs.Reading.{prds_at, lie_in_order}
use Rattle.host_memory.proofs.table.lie_in_order.Given as goal

-- what is left decides
abbrev pub invariant-loop-i : goal.invariant-loop-i
invariant-loop-i l = lie_in_order l.end (prds_at l.structure (l.at + 16 * l.i) (l.count - l.i)) ≡ lie_in_order 0 (prds_at l.structure l.at l.count)

use Rattle.std.proofs.Common.{◌≡◌, ◌+◌, ◌-◌, ◌*◌}
use Rattle.host_memory.specs.Reading.{prds_at, share_with}
use Rattle.host_memory.proofs.table.share_with.Given as goal

-- what is left decides
abbrev pub invariant-loop-i : goal.invariant-loop-i
invariant-loop-i l = share_with (prds_at l.structure (l.at + 16 * l.i) (l.count - l.i)) l.other.prds ≡ share_with (prds_at l.structure l.at l.count) l.other.prds

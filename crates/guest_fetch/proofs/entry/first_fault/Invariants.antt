use Rattle.std.proofs.Common.{◌≡◌, ◌+◌, ◌-◌, ◌*◌}
use Rattle.guest_fetch.specs.Entries.{entries_at, first_fault}
use Rattle.guest_fetch.proofs.entry.first_fault.Given as goal

-- what is left decides
abbrev pub invariant-loop-i : goal.invariant-loop-i
invariant-loop-i l = first_fault (l.index + l.i) l.left (entries_at l.raw (16 * l.i) (l.count - l.i)) ≡ first_fault l.index l.len (entries_at l.raw 0 l.count)

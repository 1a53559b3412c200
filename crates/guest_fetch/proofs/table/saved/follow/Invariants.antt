use Rattle.std.proofs.Common.{◌≡◌, drop}
use Rattle.guest_fetch.specs.Saved.{are_spans}
use Rattle.guest_fetch.proofs.table.saved.follow.Given as goal

-- those that are left decide
abbrev pub invariant-loop-span : goal.invariant-loop-span
invariant-loop-span l = are_spans 0 l.len l.spans ≡ are_spans l.begin l.len (drop l.span-index l.spans)

use Rattle.std.proofs.Common.{◌≡◌, ◌+◌, ℕ}
use Rattle.guest_fetch.specs.{Headers.header_place, Reading.{after_parts, command_at}}
use Rattle.uses_guest_fetch.specs.Block.{guest_of}
use Rattle.uses_guest_fetch.proofs.fetch_from.Given as goal

-- what is to come gives the answer of all that lies there
abbrev pub invariant-loop-i : goal.invariant-loop-i
invariant-loop-i l = (n : ℕ) → n + l.i ≡ 65537 → after_parts (guest_of l.memory) n l.fetch ≡ command_at (guest_of l.memory) (header_place l.list l.slot)

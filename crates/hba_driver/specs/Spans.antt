-- Spans of lists of PRDs.
use Rattle.std.specs.Prelude.{ℕ, ◌+◌, ◌≤◌, ◌&&◌, ◌||◌, nat_le, nat_lt, min, max, Bool, List, All}
use Rattle.host_memory.specs.declared.table.Prd.{Prd}
use Rattle.hba_driver.specs.declared.span.Span.{Span}

-- the bytes of the PRD all lie in the span
abbrev pub LiesIn : Span → Prd → Type 0
LiesIn span prd = (span.start ≤ prd.address) × (prd.address + prd.bytes ≤ span.end)

-- the bytes of all of them do
abbrev pub Spans : Span → List Prd → Type 0
Spans span prds = All (LiesIn span) prds

-- the least span that has another, and a PRD too
abbrev pub with_buffer : Span → Prd → Span
with_buffer span prd =
    record { start = min span.start prd.address; end = max span.end (prd.address + prd.bytes) }

-- one ends before the other begins
abbrev pub are_apart : Span → Span → Bool
are_apart span other = nat_le span.end other.start || nat_le other.end span.start

-- one of len bytes from an address on is in the span
abbrev pub holds_some : Span → (at len : ℕ) → Bool
holds_some span at len = nat_lt at span.end && nat_lt span.start (at + len)

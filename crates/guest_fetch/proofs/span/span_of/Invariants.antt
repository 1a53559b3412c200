use Rattle.std.proofs.Common.{◌-◌, ◌<◌, ◌≤◌, length, get_or}
use Rattle.guest_fetch.specs.Spans.{begin_in, no_span}
use Rattle.guest_fetch.proofs.span.span_of.Given as goal

-- the entry is at or after one that begins at or before the byte, and at or before one that ends after it
abbrev pub invariant-halving : goal.invariant-halving
invariant-halving l = record {
  in_order : l.from ≤ l.to;
  there : l.to ≤ length l.spans;
  begins : begin_in l.spans l.from ≤ l.byte;
  ends_after : l.to < length l.spans → l.byte < (get_or l.spans l.to no_span).end;
}

abbrev pub decreases-halving : goal.decreases-halving
decreases-halving l = l.to - l.from

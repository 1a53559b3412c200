use Rattle.std.proofs.Common.{◌≡◌, length}
use Rattle.guest_fetch.proofs.SpanLemmas.{Keeping}
use Rattle.guest_fetch.proofs.span.keep.Given as goal

-- the entries so far are kept, and what is left decides
abbrev pub invariant-loop-i : goal.invariant-loop-i
invariant-loop-i l = record {
  keeping : Keeping l.len l.raw l.count l.i l.fn.spans.items l.spans.items l.end;
  old : l.old ≡ length l.fn.spans.items;
}

use Rattle.std.proofs.Common.{take}
use Rattle.hba_driver.specs.Spans.{Spans}
use Rattle.hba_driver.proofs.span.Span.of.Given as goal

-- the buffers so far lie in it
abbrev pub invariant-loop-prd : goal.invariant-loop-prd
invariant-loop-prd l = Spans l.span (take l.prd-index l.prds)

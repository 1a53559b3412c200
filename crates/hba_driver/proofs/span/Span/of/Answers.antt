use Rattle.std.proofs.Common.{◌+◌, take, subst, sym}
use Rattle.hba_driver.specs.{declared.span.Span.Span, Spans.Spans}
use Rattle.hba_driver.proofs.calls.SpanLemmas.{spans_more}
use Rattle.hba_driver.proofs.span.Span.of.Goals as goal

pub loop-prd-preserved : goal.loop-prd-preserved
loop-prd-preserved c =
    subst (λ (span : Span). Spans span (take (c.loop-prd.prd-index + 1) c.args.prds.now)) (sym c.with-span.ensures)
    (spans_more c.loop-prd.span c.args.prds.now c.loop-prd.prd-index _ c.loop-prd-test.true c.loop-prd.invariant)

use Rattle.std.proofs.Common.{◌≡◌, true, not, List, ap, sym, ◌∙◌}
use Rattle.host_memory.specs.{declared.table.Prd.Prd, Reading.share_with}
use Rattle.hba_driver.specs.Spans.{are_apart}
use Rattle.hba_driver.proofs.calls.SpanLemmas.{apart_share_none}
use Rattle.hba_driver.proofs.span.Buffers.share_with.Goals as goal

pub returns-else-not-is_apart : goal.returns-else-not-is_apart
returns-else-not-is_apart c =
    let apart : are_apart c.self.inside.span c.args.span ≡ true = sym c.is_apart.ensures ∙ c.if-not-is_apart.false in
    let none = apart_share_none c.self.inside.span c.args.span c.self.inside.prds.now c.args.others.now apart c.self.invariant c.requires in
    ap not c.if-not-is_apart.false ∙ (sym none ∙ ap (λ (ps : List Prd). share_with ps c.args.others.now) c.self.view_is)

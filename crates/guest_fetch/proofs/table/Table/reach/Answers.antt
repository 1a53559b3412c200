use Rattle.std.proofs.Common.{◌≡◌, ◌∙◌, length, sym, ap}
use Rattle.guest_fetch.specs.Spans.{begin_in}
use Rattle.guest_fetch.proofs.SpanLemmas.{reach_is}
use Rattle.guest_fetch.proofs.table.Table.reach.Goals as goal

pub returns : goal.returns
returns c =
    let spans = c.self.inside.spans.items in
    let long : c.len.result ≡ length spans = c.len.ensures ∙ sym c.as_slice.ensures.len ∙ ap length c.as_slice.ensures.value in
    let begin : c.begin_of.result ≡ begin_in spans (length spans) = c.begin_of.ensures ∙ ap (begin_in c.as_slice.result.now) long ∙ ap (λ xs. begin_in xs (length spans)) c.as_slice.ensures.value in
    rw (← c.self.view_is) (reach_is spans c.self.inside.len c.begin_of.result c.min.result c.self.invariant begin c.min.ensures)

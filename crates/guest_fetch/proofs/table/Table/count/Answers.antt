use Rattle.std.proofs.Common.{◌∙◌, length, ap, arith, sym}
use Rattle.guest_fetch.proofs.SpanLemmas.{length-entries}
use Rattle.guest_fetch.proofs.table.Table.count.Goals as goal

pub overflow_cast-result : goal.overflow_cast-result
overflow_cast-result c = record { fits = omega (arith, length-entries 0 c.self.inside.spans.items, c.self.invariant.few, ap length c.as_slice.ensures.value) }

pub returns : goal.returns
returns c = rw (← c.self.view_is) (ap length c.as_slice.ensures.value ∙ sym (length-entries 0 c.self.inside.spans.items))

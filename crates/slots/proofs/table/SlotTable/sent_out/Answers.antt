use Rattle.std.proofs.Common.{Bool, arith, sym, ap, ◌∙◌}
use Rattle.std.specs.Bool.{then_some}
use Rattle.slots.specs.Slots.{Slots, slots_of}
use Rattle.slots.proofs.CallLemmas.{out_gone, out_is, some_below}
use Rattle.slots.proofs.table.SlotTable.sent_out.Goals as goal

pub returns-in_err-slot-clause-value : goal.returns-in_err-slot-clause-value
returns-in_err-slot-clause-value c =
    let t : Slots = record { issues = c.self.inside.slots; contexts = c.self.inside.contexts } in
    let dev = c.args.dev in
    rw (← c.self.view_is) (c.from_residual.ensures ∙ sym (out_gone (slots_of dev t) (sym c.in_err-slot.ensures.value)))

pub returns-clause-value : goal.returns-clause-value
returns-clause-value c =
    let t : Slots = record { issues = c.self.inside.slots; contexts = c.self.inside.contexts } in
    let dev = c.args.dev in
    let s = c.in_ok-slot.slot in
    let there = c.in_ok-slot.ensures.there in
    let is = out_is dev s t c.at.result.now c.at.ensures (omega (arith, c.self.invariant.slots, there.0)) (sym c.in_ok-slot.ensures.value) there.1 in
    rw (← c.self.view_is) (c.then_some.ensures ∙ ap (λ (b : Bool). then_some b s) c.is_out.ensures ∙ sym is)

pub returns-clause-below : goal.returns-clause-below
returns-clause-below c = some_below c.is_out.result c.in_ok-slot.slot c.then_some.result c.then_some.ensures c.in_ok-slot.ensures.there.0

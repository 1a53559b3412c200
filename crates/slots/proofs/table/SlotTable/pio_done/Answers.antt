use Rattle.std.proofs.Common.{◌≡◌, ℕ, Option, Some, arith, sym, ap, subst, ◌∙◌}
use Rattle.slots.specs.{Commands.{is_slot, whole_pio}, Slots.{DeviceSlots, Slots, freed, match_some, slots_of}}
use Rattle.slots.proofs.CallLemmas.{none_whole, pio_missing, pio_stays, pio_whole}
use Rattle.slots.proofs.table.SlotTable.pio_done.Goals as goal

pub returns-clause-own : goal.returns-clause-own
returns-clause-own c =
    let t : Slots = record { issues = c.self.inside.slots; contexts = c.self.inside.contexts } in
    let dev = c.args.dev in
    let s = c.in_ok-slot.slot in
    let there = c.in_ok-slot.ensures.there in
    let is : whole_pio (slots_of dev t) ≡ Some s = pio_whole dev s t c.at.result.now c.at.ensures (omega (arith, c.self.invariant.slots, there.0)) (sym c.in_ok-slot.ensures.value) there.1 (sym c.is_whole.ensures ∙ c.if-not-is_whole.false) in
    let own : DeviceSlots = slots_of dev c.args.self.now in
    let now : whole_pio own ≡ Some s = subst (λ (u : Slots). whole_pio (slots_of dev u) ≡ Some s) c.self.view_is is in
    c.free.ensures.own ∙ sym (ap (λ (o : Option ℕ). match_some o own (λ slot. freed (is_slot slot) own)) now)

pub returns-in_err-slot-clause-answer : goal.returns-in_err-slot-clause-answer
returns-in_err-slot-clause-answer c =
    let t : Slots = record { issues = c.self.inside.slots; contexts = c.self.inside.contexts } in
    let dev = c.args.dev in
    rw (← c.self.view_is) (c.from_residual.ensures ∙ sym (none_whole (slots_of dev t) (sym c.in_err-slot.ensures.value)))

pub returns-in_err-slot-clause-own : goal.returns-in_err-slot-clause-own
returns-in_err-slot-clause-own c =
    let t : Slots = record { issues = c.self.inside.slots; contexts = c.self.inside.contexts } in
    let dev = c.args.dev in
    rw (← c.self.view_is) (pio_stays (slots_of dev t) (none_whole (slots_of dev t) (sym c.in_err-slot.ensures.value)))

pub returns-then-not-is_whole-clause-answer : goal.returns-then-not-is_whole-clause-answer
returns-then-not-is_whole-clause-answer c =
    let t : Slots = record { issues = c.self.inside.slots; contexts = c.self.inside.contexts } in
    let dev = c.args.dev in
    let s = c.in_ok-slot.slot in
    let there = c.in_ok-slot.ensures.there in
    rw (← c.self.view_is) (sym (pio_missing dev s t c.at.result.now c.at.ensures (omega (arith, c.self.invariant.slots, there.0)) (sym c.in_ok-slot.ensures.value) there.1 (sym c.is_whole.ensures ∙ c.if-not-is_whole.true)))

pub returns-then-not-is_whole-clause-own : goal.returns-then-not-is_whole-clause-own
returns-then-not-is_whole-clause-own c =
    let t : Slots = record { issues = c.self.inside.slots; contexts = c.self.inside.contexts } in
    let dev = c.args.dev in
    let s = c.in_ok-slot.slot in
    let there = c.in_ok-slot.ensures.there in
    let none = pio_missing dev s t c.at.result.now c.at.ensures (omega (arith, c.self.invariant.slots, there.0)) (sym c.in_ok-slot.ensures.value) there.1 (sym c.is_whole.ensures ∙ c.if-not-is_whole.true) in
    rw (← c.self.view_is) (pio_stays (slots_of dev t) none)

pub returns-clause-answer : goal.returns-clause-answer
returns-clause-answer c =
    let t : Slots = record { issues = c.self.inside.slots; contexts = c.self.inside.contexts } in
    let dev = c.args.dev in
    let s = c.in_ok-slot.slot in
    let there = c.in_ok-slot.ensures.there in
    rw (← c.self.view_is) (sym (pio_whole dev s t c.at.result.now c.at.ensures (omega (arith, c.self.invariant.slots, there.0)) (sym c.in_ok-slot.ensures.value) there.1 (sym c.is_whole.ensures ∙ c.if-not-is_whole.false)))

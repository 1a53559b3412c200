use Rattle.std.proofs.Common.{◌≡◌, arith, sym, ap, subst, ◌∙◌}
use Rattle.slots.specs.{declared.answer.Answered.Answered, Commands.{answer_of, answered_as}, Slots.{Slots, slots_of}}
use Rattle.slots.proofs.CallLemmas.{answer_is}
use Rattle.slots.proofs.table.SlotTable.answered.Goals as goal

pub returns-in-Queued-clause-answer : goal.returns-in-Queued-clause-answer
returns-in-Queued-clause-answer c =
    let t : Slots = record { issues = c.self.inside.slots; contexts = c.self.inside.contexts } in
    let dev = c.args.dev in
    let s = c.in-Some.slot in
    let there = rw c.in-Some.is at c.waiting.ensures.there in
    let is = answer_is dev s t c.at.result.now c.at.ensures (omega (arith, c.self.invariant.slots, there.0)) (sym c.waiting.ensures.value ∙ c.in-Some.is) there.1 in
    rw (← c.self.view_is) (sym (is ∙ sym c.answer_for-answer.ensures.value ∙ c.in-Queued.is))

pub returns-in-Queued-clause-own : goal.returns-in-Queued-clause-own
returns-in-Queued-clause-own c =
    let t : Slots = record { issues = c.self.inside.slots; contexts = c.self.inside.contexts } in
    let dev = c.args.dev in
    let s = c.in-Some.slot in
    let there = rw c.in-Some.is at c.waiting.ensures.there in
    let is = answer_is dev s t c.at.result.now c.at.ensures (omega (arith, c.self.invariant.slots, there.0)) (sym c.waiting.ensures.value ∙ c.in-Some.is) there.1 ∙ sym c.answer_for-answer.ensures.value ∙ c.in-Queued.is in
    let now : answer_of (slots_of dev c.args.self.now) ≡ Answered.Queued c.in-Queued.slot = subst (λ (u : Slots). answer_of (slots_of dev u) ≡ Answered.Queued c.in-Queued.slot) c.self.view_is is in
    c.answer.ensures.own ∙ sym (ap (λ (a : Answered). answered_as a (slots_of dev c.args.self.now)) now)

pub returns-in-Done-clause-answer : goal.returns-in-Done-clause-answer
returns-in-Done-clause-answer c =
    let t : Slots = record { issues = c.self.inside.slots; contexts = c.self.inside.contexts } in
    let dev = c.args.dev in
    let s = c.in-Some.slot in
    let there = rw c.in-Some.is at c.waiting.ensures.there in
    let is = answer_is dev s t c.at.result.now c.at.ensures (omega (arith, c.self.invariant.slots, there.0)) (sym c.waiting.ensures.value ∙ c.in-Some.is) there.1 in
    rw (← c.self.view_is) (sym (is ∙ sym c.answer_for-answer.ensures.value ∙ c.in-Done.is))

pub returns-in-Done-clause-own : goal.returns-in-Done-clause-own
returns-in-Done-clause-own c =
    let t : Slots = record { issues = c.self.inside.slots; contexts = c.self.inside.contexts } in
    let dev = c.args.dev in
    let s = c.in-Some.slot in
    let there = rw c.in-Some.is at c.waiting.ensures.there in
    let is = answer_is dev s t c.at.result.now c.at.ensures (omega (arith, c.self.invariant.slots, there.0)) (sym c.waiting.ensures.value ∙ c.in-Some.is) there.1 ∙ sym c.answer_for-answer.ensures.value ∙ c.in-Done.is in
    let now : answer_of (slots_of dev c.args.self.now) ≡ Answered.Done c.in-Done.slot = subst (λ (u : Slots). answer_of (slots_of dev u) ≡ Answered.Done c.in-Done.slot) c.self.view_is is in
    c.free.ensures.own ∙ sym (ap (λ (a : Answered). answered_as a (slots_of dev c.args.self.now)) now)

pub returns-in-Nobody-clause-answer : goal.returns-in-Nobody-clause-answer
returns-in-Nobody-clause-answer c =
    let t : Slots = record { issues = c.self.inside.slots; contexts = c.self.inside.contexts } in
    let dev = c.args.dev in
    let s = c.in-Some.slot in
    let there = rw c.in-Some.is at c.waiting.ensures.there in
    let is = answer_is dev s t c.at.result.now c.at.ensures (omega (arith, c.self.invariant.slots, there.0)) (sym c.waiting.ensures.value ∙ c.in-Some.is) there.1 in
    rw (← c.self.view_is) (sym (is ∙ sym c.answer_for-answer.ensures.value))

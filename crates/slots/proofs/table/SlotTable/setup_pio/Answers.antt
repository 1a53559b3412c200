use Rattle.std.proofs.Common.{◌≡◌, ◌<◌, ℕ, Option, length, arith, sym, ap, subst, ◌∙◌}
use Rattle.slots.specs.{declared.table.Context.Context, Setup.{after_setup_pio, new_context, pio_fault, with_own_context}, Slots.{Issue, Slots}}
use Rattle.slots.specs.Slots.{slots_of}
use Rattle.slots.proofs.CallLemmas.{pio_issue_is, pio_none, pio_set_up, pio_refused}
use Rattle.slots.proofs.table.SlotTable.setup_pio.Goals as goal

pub returns-in-Some-pio_fault-clause-refusal : goal.returns-in-Some-pio_fault-clause-refusal
returns-in-Some-pio_fault-clause-refusal c =
    let t : Slots = record { issues = c.self.inside.slots; contexts = c.self.inside.contexts } in
    let dev = c.args.dev in
    let s = c.in-Some.slot in
    let there = rw c.in-Some.is at c.sent_pio.ensures.there in
    let is = pio_issue_is dev s t c.at.result.now c.at.ensures (omega (arith, c.self.invariant.slots, there.0)) (sym c.sent_pio.ensures.value ∙ c.in-Some.is) there.1 in
    rw (← c.self.view_is) (sym (ap (λ (o : Option Issue). pio_fault o c.args.count c.args.to_host) is ∙ sym c.pio_fault.ensures ∙ c.in-Some-pio_fault.is))

pub returns-in-Some-pio_fault-clause-own : goal.returns-in-Some-pio_fault-clause-own
returns-in-Some-pio_fault-clause-own c =
    let t : Slots = record { issues = c.self.inside.slots; contexts = c.self.inside.contexts } in
    let dev = c.args.dev in
    let s = c.in-Some.slot in
    let there = rw c.in-Some.is at c.sent_pio.ensures.there in
    let is = pio_issue_is dev s t c.at.result.now c.at.ensures (omega (arith, c.self.invariant.slots, there.0)) (sym c.sent_pio.ensures.value ∙ c.in-Some.is) there.1 in
    rw (← c.self.view_is) (pio_refused dev c.args.count c.args.to_host t c.in-Some-pio_fault.fault (ap (λ (o : Option Issue). pio_fault o c.args.count c.args.to_host) is ∙ sym c.pio_fault.ensures ∙ c.in-Some-pio_fault.is))

pub returns-clause-refusal : goal.returns-clause-refusal
returns-clause-refusal c =
    let t : Slots = record { issues = c.self.inside.slots; contexts = c.self.inside.contexts } in
    let dev = c.args.dev in
    let s = c.in-Some.slot in
    let there = rw c.in-Some.is at c.sent_pio.ensures.there in
    let is = pio_issue_is dev s t c.at.result.now c.at.ensures (omega (arith, c.self.invariant.slots, there.0)) (sym c.sent_pio.ensures.value ∙ c.in-Some.is) there.1 in
    rw (← c.self.view_is) (sym (ap (λ (o : Option Issue). pio_fault o c.args.count c.args.to_host) is ∙ sym c.pio_fault.ensures ∙ c.in_default-pio_fault.is))

pub returns-clause-own : goal.returns-clause-own
returns-clause-own c =
    let t : Slots = record { issues = c.self.inside.slots; contexts = c.self.inside.contexts } in
    let dev = c.args.dev in
    let s = c.in-Some.slot in
    let there = rw c.in-Some.is at c.sent_pio.ensures.there in
    let below : s < length t.issues = omega (arith, c.self.invariant.slots, there.0) in
    let first = sym c.sent_pio.ensures.value ∙ c.in-Some.is in
    let is = pio_issue_is dev s t c.at.result.now c.at.ensures below first there.1 in
    let fault = ap (λ (o : Option Issue). pio_fault o c.args.count c.args.to_host) is ∙ sym c.pio_fault.ensures ∙ c.in_default-pio_fault.is in
    let up = pio_set_up dev s c.args.count c.args.to_host t c.at-2.result.now c.at-2.ensures below first there.1 fault in
    let after : after_setup_pio (slots_of dev t) c.args.count c.args.to_host ≡ with_own_context (slots_of dev t) c.new.result =
    up ∙ ap (λ (n : ℕ). with_own_context (slots_of dev t) (new_context s n c.args.count c.args.to_host)) (sym c.came-offset.ensures) ∙ ap (λ (x : Context). with_own_context (slots_of dev t) x) (sym c.new.ensures) in
    let now : after_setup_pio (slots_of dev c.args.self.now) c.args.count c.args.to_host ≡ with_own_context (slots_of dev c.args.self.now) c.new.result =
    subst (λ (u : Slots). after_setup_pio (slots_of dev u) c.args.count c.args.to_host ≡ with_own_context (slots_of dev u) c.new.result) c.self.view_is after in
    c.set_context.ensures.own ∙ sym now

pub returns-in_default-clause-refusal : goal.returns-in_default-clause-refusal
returns-in_default-clause-refusal c =
    let t : Slots = record { issues = c.self.inside.slots; contexts = c.self.inside.contexts } in
    let dev = c.args.dev in
    rw (← c.self.view_is) (sym (pio_none (slots_of dev t) c.args.count c.args.to_host (sym c.sent_pio.ensures.value ∙ c.in_default.is)))

pub returns-in_default-clause-own : goal.returns-in_default-clause-own
returns-in_default-clause-own c =
    let t : Slots = record { issues = c.self.inside.slots; contexts = c.self.inside.contexts } in
    let dev = c.args.dev in
    rw (← c.self.view_is) (pio_refused dev c.args.count c.args.to_host t _ (pio_none (slots_of dev t) c.args.count c.args.to_host (sym c.sent_pio.ensures.value ∙ c.in_default.is)))

use Rattle.std.proofs.Common.{◌≡◌, false, Some, Ok, sym, ap, subst, ◌∙◌}
use Rattle.slots.specs.{declared.table.Context.Context, Data.activated, Setup.{new_context, out_setup, with_own_context, with_setup}}
use Rattle.slots.specs.{Slots.{DeviceSlots, Slots, sent_out, slots_of}, Table.IsContext}
use Rattle.slots.proofs.FitLemmas.{out_answers, out_inside, out_none, out_refuses, out_stays}
use Rattle.slots.proofs.table.SlotTable.setup_out.Goals as goal

pub set_context-requires-clause-inside : goal.set_context-requires-clause-inside
set_context-requires-clause-inside c =
    let t : Slots = record { issues = c.self.inside.slots; contexts = c.self.inside.contexts } in
    let dev = c.args.dev in
    let s = c.in-Some.slot in
    let first : sent_out (slots_of dev t) ≡ Some s = subst (λ (u : Slots). sent_out (slots_of dev u) ≡ Some s) (sym c.self.view_is) (sym c.sent_out.ensures.value ∙ c.in-Some.is) in
    let new : c.activated-context.result ≡ activated (new_context s c.came-offset.result c.args.count false) = c.activated-context.ensures ∙ ap activated c.new.ensures in
    rw (← c.self.view_is) (subst (λ (x : Context). IsContext dev t x) (sym new)
    (out_inside dev s c.args.count c.args.to_host t c.at.result.now c.at.ensures c.at-2.result.now c.at-2.ensures c.came-offset.result c.self.invariant first (sym c.out_fault.ensures ∙ c.in_default-out_fault.is) c.came-offset.ensures))

pub returns-clause-answer : goal.returns-clause-answer
returns-clause-answer c =
    let t : Slots = record { issues = c.self.inside.slots; contexts = c.self.inside.contexts } in
    let dev = c.args.dev in
    let s = c.in-Some.slot in
    let first : sent_out (slots_of dev t) ≡ Some s = subst (λ (u : Slots). sent_out (slots_of dev u) ≡ Some s) (sym c.self.view_is) (sym c.sent_out.ensures.value ∙ c.in-Some.is) in
    let new : c.activated-context.result ≡ activated (new_context s c.came-offset.result c.args.count false) = c.activated-context.ensures ∙ ap activated c.new.ensures in
    let told : out_setup (slots_of dev t) c.args.count c.args.to_host ≡ Ok (activated (new_context s c.came-offset.result c.args.count false)) =
    out_answers dev s c.args.count c.args.to_host t c.at.result.now c.at.ensures c.at-2.result.now c.at-2.ensures c.came-offset.result c.self.invariant first (sym c.out_fault.ensures ∙ c.in_default-out_fault.is) c.came-offset.ensures in
    rw (← c.self.view_is) (ap (λ (x : Context). Ok x) new ∙ sym told)

pub returns-in-Some-out_fault-clause-answer : goal.returns-in-Some-out_fault-clause-answer
returns-in-Some-out_fault-clause-answer c =
    let t : Slots = record { issues = c.self.inside.slots; contexts = c.self.inside.contexts } in
    let dev = c.args.dev in
    let s = c.in-Some.slot in
    let first : sent_out (slots_of dev t) ≡ Some s = subst (λ (u : Slots). sent_out (slots_of dev u) ≡ Some s) (sym c.self.view_is) (sym c.sent_out.ensures.value ∙ c.in-Some.is) in
    rw (← c.self.view_is) (sym (out_refuses dev s c.args.count c.args.to_host t c.at.result.now c.at.ensures c.in-Some-out_fault.fault c.self.invariant first (sym c.out_fault.ensures ∙ c.in-Some-out_fault.is)))

pub returns-in_default-clause-answer : goal.returns-in_default-clause-answer
returns-in_default-clause-answer c = sym (out_none (slots_of c.args.dev c.args.self.now) c.args.count c.args.to_host (sym c.sent_out.ensures.value ∙ c.in_default.is))

pub returns-in_default-clause-own : goal.returns-in_default-clause-own
returns-in_default-clause-own c =
    let own : DeviceSlots = slots_of c.args.dev c.args.self.now in
    out_stays own c.args.count c.args.to_host _ (out_none own c.args.count c.args.to_host (sym c.sent_out.ensures.value ∙ c.in_default.is))

pub returns-in-Some-out_fault-clause-own : goal.returns-in-Some-out_fault-clause-own
returns-in-Some-out_fault-clause-own c =
    let t : Slots = record { issues = c.self.inside.slots; contexts = c.self.inside.contexts } in
    let dev = c.args.dev in
    let s = c.in-Some.slot in
    let first : sent_out (slots_of dev t) ≡ Some s = subst (λ (u : Slots). sent_out (slots_of dev u) ≡ Some s) (sym c.self.view_is) (sym c.sent_out.ensures.value ∙ c.in-Some.is) in
    rw (← c.self.view_is) (out_stays (slots_of dev t) c.args.count c.args.to_host _ (out_refuses dev s c.args.count c.args.to_host t c.at.result.now c.at.ensures c.in-Some-out_fault.fault c.self.invariant first (sym c.out_fault.ensures ∙ c.in-Some-out_fault.is)))

pub returns-clause-own : goal.returns-clause-own
returns-clause-own c =
    let t : Slots = record { issues = c.self.inside.slots; contexts = c.self.inside.contexts } in
    let dev = c.args.dev in
    let s = c.in-Some.slot in
    let own : DeviceSlots = slots_of dev c.args.self.now in
    let first : sent_out (slots_of dev t) ≡ Some s = subst (λ (u : Slots). sent_out (slots_of dev u) ≡ Some s) (sym c.self.view_is) (sym c.sent_out.ensures.value ∙ c.in-Some.is) in
    let told : out_setup (slots_of dev t) c.args.count c.args.to_host ≡ Ok (activated (new_context s c.came-offset.result c.args.count false)) =
    out_answers dev s c.args.count c.args.to_host t c.at.result.now c.at.ensures c.at-2.result.now c.at-2.ensures c.came-offset.result c.self.invariant first (sym c.out_fault.ensures ∙ c.in_default-out_fault.is) c.came-offset.ensures in
    let now : out_setup own c.args.count c.args.to_host ≡ Ok (activated (new_context s c.came-offset.result c.args.count false)) =
    subst (λ (u : Slots). out_setup (slots_of dev u) c.args.count c.args.to_host ≡ Ok (activated (new_context s c.came-offset.result c.args.count false))) c.self.view_is told in
    let new : c.activated-context.result ≡ activated (new_context s c.came-offset.result c.args.count false) = c.activated-context.ensures ∙ ap activated c.new.ensures in
    c.set_context.ensures.own ∙ ap (λ (x : Context). with_own_context own x) new ∙ sym (ap (with_setup own) now)

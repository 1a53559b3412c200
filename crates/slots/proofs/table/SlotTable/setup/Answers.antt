use Rattle.std.proofs.Common.{sym, subst, ◌∙◌}
use Rattle.slots.specs.{declared.table.Context.Context, Slots.{Slots, slots_of}, Table.IsContext}
use Rattle.slots.proofs.FitLemmas.{set_up_inside, setup_refused, setup_tested}
use Rattle.slots.proofs.table.SlotTable.setup.Goals as goal

pub set_context-requires-else-auto-clause-inside : goal.set_context-requires-else-auto-clause-inside
set_context-requires-else-auto-clause-inside c =
    let t : Slots = record { issues = c.self.inside.slots; contexts = c.self.inside.contexts } in
    let dev = c.args.dev in
    rw (← c.self.view_is) (subst (λ (x : Context). IsContext dev t x) (sym c.new-context.ensures)
    (set_up_inside dev c.args.tag c.args.offset c.args.count c.args.to_host t c.at.result.now c.at.ensures c.self.invariant c.requires.tag (sym c.setup_fault.ensures ∙ c.in_default.is)))

pub returns-in-Some-clause-refusal : goal.returns-in-Some-clause-refusal
returns-in-Some-clause-refusal c =
    let t : Slots = record { issues = c.self.inside.slots; contexts = c.self.inside.contexts } in
    rw (← c.self.view_is) (sym (setup_tested c.args.dev c.args.tag c.args.offset c.args.count c.args.to_host t c.at.result.now c.setup_fault.result c.at.ensures c.self.invariant c.requires.tag c.setup_fault.ensures ∙ c.in-Some.is))

pub returns-in-Some-clause-own : goal.returns-in-Some-clause-own
returns-in-Some-clause-own c =
    let t : Slots = record { issues = c.self.inside.slots; contexts = c.self.inside.contexts } in
    let fault = setup_tested c.args.dev c.args.tag c.args.offset c.args.count c.args.to_host t c.at.result.now c.setup_fault.result c.at.ensures c.self.invariant c.requires.tag c.setup_fault.ensures ∙ c.in-Some.is in
    rw (← c.self.view_is) (setup_refused (slots_of c.args.dev t) c.args.tag c.args.offset c.args.count c.args.to_host c.args.auto c.in-Some.fault fault)

pub returns-then-not-to_host-clause-refusal : goal.returns-then-not-to_host-clause-refusal
returns-then-not-to_host-clause-refusal c =
    let t : Slots = record { issues = c.self.inside.slots; contexts = c.self.inside.contexts } in
    rw (← c.self.view_is) (sym (setup_tested c.args.dev c.args.tag c.args.offset c.args.count c.args.to_host t c.at.result.now c.setup_fault.result c.at.ensures c.self.invariant c.requires.tag c.setup_fault.ensures ∙ c.in_default.is))

pub returns-else-auto-clause-refusal : goal.returns-else-auto-clause-refusal
returns-else-auto-clause-refusal c =
    let t : Slots = record { issues = c.self.inside.slots; contexts = c.self.inside.contexts } in
    rw (← c.self.view_is) (sym (setup_tested c.args.dev c.args.tag c.args.offset c.args.count c.args.to_host t c.at.result.now c.setup_fault.result c.at.ensures c.self.invariant c.requires.tag c.setup_fault.ensures ∙ c.in_default.is))

use Rattle.std.proofs.Common.{◌≡◌, arith, refl, sym, subst, ◌∙◌}
use Rattle.slots.specs.{Commands.is_slot, Slots.{Slots, LeavesOthers, issue_at, slots_of, freed}, Table.IsTable, Between.Owns}
use Rattle.slots.proofs.{TableLemmas.owns_from, FreeLemmas.{freed_many, one_own, own_freed, others_freed, table_freed, unless_one}}
use Rattle.slots.proofs.table.SlotTable.free.Goals as goal

pub invariant_of-self : goal.invariant_of-self
invariant_of-self c =
    let t : Slots = record { issues = c.self.inside.slots; contexts = c.self.inside.contexts } in
    let dev = c.args.dev in
    let s = c.args.slot in
    let owns : Owns dev (issue_at t s) = owns_from dev (issue_at t s) (rw (← c.self.view_is) at c.requires.owner) in
    let e = freed_many dev (is_slot s) t _ _ (c.clear.ensures ∙ sym (unless_one t.issues s (omega (arith, c.self.invariant.slots, c.requires.slot)))) c.context_without.ensures in
    subst IsTable (sym e) (table_freed dev (is_slot s) t c.self.invariant c.requires.dev (one_own dev s t owns))

pub returns-clause-own : goal.returns-clause-own
returns-clause-own c =
    let t : Slots = record { issues = c.self.inside.slots; contexts = c.self.inside.contexts } in
    let dev = c.args.dev in
    let s = c.args.slot in
    let e = freed_many dev (is_slot s) t _ _ (c.clear.ensures ∙ sym (unless_one t.issues s (omega (arith, c.self.invariant.slots, c.requires.slot)))) c.context_without.ensures in
    rw (← c.self.view_is) (subst (λ (u : Slots). slots_of dev u ≡ freed (is_slot s) (slots_of dev t)) (sym e) (own_freed dev (is_slot s) (is_slot s) t c.self.invariant c.requires.dev (λ k lt. refl)))

pub returns-clause-others : goal.returns-clause-others
returns-clause-others c =
    let t : Slots = record { issues = c.self.inside.slots; contexts = c.self.inside.contexts } in
    let dev = c.args.dev in
    let s = c.args.slot in
    let owns : Owns dev (issue_at t s) = owns_from dev (issue_at t s) (rw (← c.self.view_is) at c.requires.owner) in
    let e = freed_many dev (is_slot s) t _ _ (c.clear.ensures ∙ sym (unless_one t.issues s (omega (arith, c.self.invariant.slots, c.requires.slot)))) c.context_without.ensures in
    rw (← c.self.view_is) (subst (λ (u : Slots). LeavesOthers dev t u) (sym e) (others_freed dev (is_slot s) t (one_own dev s t owns)))

use Rattle.std.proofs.Common.{◌≡◌, List, Option, None, Some, arith, refl, slice_set, sym, subst}
use Rattle.std.specs.Option.{option_map}
use Rattle.slots.specs.{Data.{gone_over, moved_on, moved_over}, Slots.{Issue, LeavesOthers, Slots, context_of, issue_at, slots_of}, Table.IsTable}
use Rattle.slots.proofs.{TableLemmas.{with_issue, others_changed, others_with_context, others_both}, MoveLemmas.{few_moved, table_moved}}
use Rattle.slots.proofs.MoveLemmas.{slot_of_context, owns_context, own_moved}
use Rattle.slots.proofs.table.SlotTable.go_over.Goals as goal

pub add-requires-clause-few : goal.add-requires-clause-few
add-requires-clause-few c issue there =
    let t : Slots = record { issues = c.self.inside.slots; contexts = c.self.inside.contexts } in
    let at : context_of t c.args.dev ≡ Some c.args.context = rw (← c.self.view_is) at c.requires.context in
    few_moved c.args.dev c.args.count c.args.context t issue _ c.self.invariant at c.requires.within c.requires.dwords there

pub invariant_of-self : goal.invariant_of-self
invariant_of-self c =
    let t : Slots = record { issues = c.self.inside.slots; contexts = c.self.inside.contexts } in
    let at : context_of t c.args.dev ≡ Some c.args.context = rw (← c.self.view_is) at c.requires.context in
    subst (λ (x : List (Option Issue)). IsTable (record { issues = x; contexts = slice_set t.contexts c.args.dev (Some (moved_on c.args.count c.args.context)) })) (sym c.add.ensures)
    (table_moved c.args.dev c.args.count c.args.context t _ None c.self.invariant c.requires.dev at c.requires.within c.requires.dwords refl)

pub returns-clause-own : goal.returns-clause-own
returns-clause-own c =
    let t : Slots = record { issues = c.self.inside.slots; contexts = c.self.inside.contexts } in
    let at : context_of t c.args.dev ≡ Some c.args.context = rw (← c.self.view_is) at c.requires.context in
    let dev = c.args.dev in
    let b = c.args.context in
    rw (← c.self.view_is) (subst (λ (x : List (Option Issue)). slots_of dev (record { issues = x; contexts = slice_set t.contexts dev (Some (moved_on c.args.count b)) }) ≡ gone_over c.args.count b (slots_of dev t)) (sym c.add.ensures)
    (own_moved dev c.args.count b t _ None c.self.invariant c.requires.dev at refl))

pub returns-clause-others : goal.returns-clause-others
returns-clause-others c =
    let t : Slots = record { issues = c.self.inside.slots; contexts = c.self.inside.contexts } in
    let dev = c.args.dev in
    let b = c.args.context in
    let at : context_of t dev ≡ Some b = rw (← c.self.view_is) at c.requires.context in
    let below = slot_of_context dev b t c.self.invariant at in
    let o : Option Issue = option_map (moved_over b.next c.args.count) (issue_at t b.slot) in
    let one = others_changed dev b.slot t (moved_over b.next c.args.count) (λ i. refl) o None (omega (arith, c.self.invariant.slots, below)) refl (owns_context dev b t c.self.invariant at) in
    rw (← c.self.view_is) (subst (λ (x : List (Option Issue)). LeavesOthers dev t (record { issues = x; contexts = slice_set t.contexts dev (Some (moved_on c.args.count b)) })) (sym c.add.ensures)
    (others_both dev t (with_issue t b.slot o) _ one (others_with_context dev (with_issue t b.slot o) (Some (moved_on c.args.count b)))))

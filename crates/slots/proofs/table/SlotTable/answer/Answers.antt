use Rattle.std.proofs.Common.{◌≡◌, List, Option, None, true, arith, refl, sym, ap, subst, ◌∙◌}
use Rattle.slots.specs.{Commands.{answered_issue, with_answered}, Slots.{Issue, LeavesOthers, Slots, issue_at, holds, is_queued_issue, is_waiting}}
use Rattle.slots.specs.{Slots.{own_issue, slots_of}, Table.IsTable, Between.Owns}
use Rattle.slots.proofs.{TableLemmas.{own_at, own_changed, others_changed, owns_where}, CallLemmas.table_answered}
use Rattle.slots.proofs.table.SlotTable.answer.Goals as goal

pub invariant_of-self : goal.invariant_of-self
invariant_of-self c =
    let t : Slots = record { issues = c.self.inside.slots; contexts = c.self.inside.contexts } in
    let s = c.args.slot in
    let waits : holds is_waiting (own_issue (slots_of c.args.dev t) s) ≡ true = rw (← c.self.view_is) at c.requires.waits in
    let queued : holds is_queued_issue (own_issue (slots_of c.args.dev t) s) ≡ true = rw (← c.self.view_is) at c.requires.queued in
    subst (λ (x : List (Option Issue)). IsTable (record { issues = x; contexts = t.contexts })) (sym c.mark_answered.ensures)
    (table_answered c.args.dev s t _ None c.self.invariant c.requires.slot waits queued refl)

pub returns-clause-own : goal.returns-clause-own
returns-clause-own c =
    let t : Slots = record { issues = c.self.inside.slots; contexts = c.self.inside.contexts } in
    let dev = c.args.dev in
    let s = c.args.slot in
    rw (← c.self.view_is) (subst (λ (x : List (Option Issue)). slots_of dev (record { issues = x; contexts = t.contexts }) ≡ with_answered (slots_of dev t) s) (sym c.mark_answered.ensures)
    (own_changed dev s t answered_issue (λ i. refl) _ None (omega (arith, c.self.invariant.slots, c.requires.slot)) refl))

pub returns-clause-others : goal.returns-clause-others
returns-clause-others c =
    let t : Slots = record { issues = c.self.inside.slots; contexts = c.self.inside.contexts } in
    let s = c.args.slot in
    let waits : holds is_waiting (own_issue (slots_of c.args.dev t) s) ≡ true = rw (← c.self.view_is) at c.requires.waits in
    let owns : Owns c.args.dev (issue_at t s) = owns_where is_waiting c.args.dev (issue_at t s) (ap (holds is_waiting) (sym (own_at c.args.dev t s (omega (arith, c.self.invariant.slots, c.requires.slot)))) ∙ waits) in
    rw (← c.self.view_is) (subst (λ (x : List (Option Issue)). LeavesOthers c.args.dev t (record { issues = x; contexts = t.contexts })) (sym c.mark_answered.ensures)
    (others_changed c.args.dev s t answered_issue (λ i. refl) _ None (omega (arith, c.self.invariant.slots, c.requires.slot)) refl owns))

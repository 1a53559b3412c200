use Rattle.std.proofs.Common.{◌≡◌, List, Option, Some, None, arith, refl, sym, ap, subst, ◌∙◌}
use Rattle.std.specs.Option.{is_some, option_map}
use Rattle.slots.specs.{Commands.after_issue, Issued.issued_of, Slots.{Issue, LeavesOthers, Slots, issue_at, new_issue, owned_by, slots_of}}
use Rattle.slots.specs.Table.{IsTable}
use Rattle.slots.proofs.{TableLemmas.{own_with_issue, others_with_issue, owned_own, owned_other}, CallLemmas.{free_slot, table_issued}}
use Rattle.slots.proofs.table.SlotTable.issue.Goals as goal

pub invariant_of-self : goal.invariant_of-self
invariant_of-self c =
    let t : Slots = record { issues = c.self.inside.slots; contexts = c.self.inside.contexts } in
    let s = c.args.slot in
    let free : issue_at t s ≡ None = free_slot t.issues s None (omega (arith, c.self.invariant.slots, c.requires.slot)) (ap is_some (ap (option_map issued_of) (sym c.at.ensures) ∙ sym c.issued.ensures) ∙ sym c.is_some.ensures ∙ c.if-is_some.false) in
    subst (λ (x : List (Option Issue)). IsTable (record { issues = x; contexts = t.contexts })) (sym c.start.ensures)
    (table_issued s c.args.dev c.args.work t (Some (new_issue c.args.dev c.args.work)) c.self.invariant c.requires.slot c.requires.dev c.requires.work free refl)

pub returns-clause-own : goal.returns-clause-own
returns-clause-own c =
    let t : Slots = record { issues = c.self.inside.slots; contexts = c.self.inside.contexts } in
    let dev = c.args.dev in
    let s = c.args.slot in
    let new : Option Issue = Some (new_issue dev c.args.work) in
    rw (← c.self.view_is) (subst (λ (x : List (Option Issue)). slots_of dev (record { issues = x; contexts = t.contexts }) ≡ after_issue (slots_of dev t) s dev c.args.work) (sym c.start.ensures)
    (own_with_issue dev s t new new (owned_own dev (new_issue dev c.args.work) refl)))

pub returns-clause-others : goal.returns-clause-others
returns-clause-others c =
    let t : Slots = record { issues = c.self.inside.slots; contexts = c.self.inside.contexts } in
    let dev = c.args.dev in
    let s = c.args.slot in
    let free : issue_at t s ≡ None = free_slot t.issues s None (omega (arith, c.self.invariant.slots, c.requires.slot)) (ap is_some (ap (option_map issued_of) (sym c.at.ensures) ∙ sym c.issued.ensures) ∙ sym c.is_some.ensures ∙ c.if-is_some.false) in
    rw (← c.self.view_is) (subst (λ (x : List (Option Issue)). LeavesOthers dev t (record { issues = x; contexts = t.contexts })) (sym c.start.ensures)
    (others_with_issue dev s t (Some (new_issue dev c.args.work)) (λ q nq. owned_other dev q (new_issue dev c.args.work) refl nq ∙ sym (ap (owned_by q) free))))

use Rattle.std.proofs.Common.{◌≡◌, List, Option, None, false, arith, refl, sym, subst}
use Rattle.std.specs.Prelude.{MatchOption}
use Rattle.slots.specs.{Commands.{sent_issue, with_sent}, Slots.{Issue, LeavesOthers, Slots, issue_at, is_control, slots_of, waiting}, Table.IsTable}
use Rattle.slots.specs.Between.{Owns}
use Rattle.slots.proofs.{TableLemmas.{own_changed, others_changed}, CallLemmas.{table_sent_at, owns_sent}}
use Rattle.slots.proofs.table.SlotTable.send.Goals as goal

pub invariant_of-self : goal.invariant_of-self
invariant_of-self c =
    let t : Slots = record { issues = c.self.inside.slots; contexts = c.self.inside.contexts } in
    let dev = c.args.dev in
    let s = c.args.slot in
    let issue : MatchOption (issue_at t s) ⊥ (λ issue. (issue.dev ≡ dev) × (is_control issue.work.kind ≡ false)) = rw (← c.self.view_is) at c.requires.issue in
    let alone : waiting (slots_of dev t) ≡ None = rw (← c.self.view_is) at c.requires.alone in
    subst (λ (x : List (Option Issue)). IsTable (record { issues = x; contexts = t.contexts })) (sym c.mark_sent.ensures)
    (table_sent_at dev s t (issue_at t s) _ None c.self.invariant c.requires.slot refl issue alone refl)

pub returns-clause-own : goal.returns-clause-own
returns-clause-own c =
    let t : Slots = record { issues = c.self.inside.slots; contexts = c.self.inside.contexts } in
    let dev = c.args.dev in
    let s = c.args.slot in
    rw (← c.self.view_is) (subst (λ (x : List (Option Issue)). slots_of dev (record { issues = x; contexts = t.contexts }) ≡ with_sent (slots_of dev t) s) (sym c.mark_sent.ensures)
    (own_changed dev s t sent_issue (λ i. refl) _ None (omega (arith, c.self.invariant.slots, c.requires.slot)) refl))

pub returns-clause-others : goal.returns-clause-others
returns-clause-others c =
    let t : Slots = record { issues = c.self.inside.slots; contexts = c.self.inside.contexts } in
    let dev = c.args.dev in
    let s = c.args.slot in
    let issue : MatchOption (issue_at t s) ⊥ (λ issue. (issue.dev ≡ dev) × (is_control issue.work.kind ≡ false)) = rw (← c.self.view_is) at c.requires.issue in
    let owns : Owns dev (issue_at t s) = owns_sent dev (issue_at t s) issue in
    rw (← c.self.view_is) (subst (λ (x : List (Option Issue)). LeavesOthers dev t (record { issues = x; contexts = t.contexts })) (sym c.mark_sent.ensures)
    (others_changed dev s t sent_issue (λ i. refl) _ None (omega (arith, c.self.invariant.slots, c.requires.slot)) refl owns))

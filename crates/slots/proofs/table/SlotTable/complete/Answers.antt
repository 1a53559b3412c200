use Rattle.std.proofs.Common.{◌≡◌, ℕ, Bool, sym, ap, subst, ◌∙◌}
use Rattle.slots.specs.{declared.answer.Completed.Completed, Commands.{is_done, is_short}, Slots.{Slots, KeepsFree, LeavesOthers, freed, has_bit}}
use Rattle.slots.specs.{Slots.{mask_of, own_of, slots_of}, Table.IsTable}
use Rattle.slots.proofs.{FreeLemmas.{frees_freed, freed_many, own_freed, others_freed, table_freed}, SetLemmas.{mask_is, done_own}}
use Rattle.slots.proofs.table.SlotTable.complete.Goals as goal

pub invariant_of-self : goal.invariant_of-self
invariant_of-self c =
    let t : Slots = record { issues = c.self.inside.slots; contexts = c.self.inside.contexts } in
    let dev = c.args.dev in
    let f : ℕ → Bool = has_bit c.done-done.result in
    let same = mask_is (is_done c.args.mask (own_of dev t.issues)) c.done-done.result c.done-done.ensures in
    let e = freed_many dev f t _ _ c.clear_all.ensures c.context_left.ensures in
    subst IsTable (sym e) (table_freed dev f t c.self.invariant c.requires (done_own dev c.args.mask f t c.self.invariant same))

pub returns-clause-answer : goal.returns-clause-answer
returns-clause-answer c =
    let dev = c.args.dev in
    let issues = c.self.inside.slots in
    let d : ℕ = c.done-done.result in
    let answer : record { done = d; short = c.short-short.result } ≡ record { done = mask_of (is_done c.args.mask (own_of dev issues)); short = mask_of (is_short c.args.mask (own_of dev issues)) } =
    ap (λ (x : ℕ). let r : Completed = record { done = x; short = c.short-short.result } in r) c.done-done.ensures
    ∙ ap (λ (x : ℕ). let r : Completed = record { done = mask_of (is_done c.args.mask (own_of dev issues)); short = x } in r) c.short-short.ensures in
    rw (← c.self.view_is) answer

pub returns-clause-own : goal.returns-clause-own
returns-clause-own c =
    let t : Slots = record { issues = c.self.inside.slots; contexts = c.self.inside.contexts } in
    let dev = c.args.dev in
    let f : ℕ → Bool = has_bit c.done-done.result in
    let g : ℕ → Bool = is_done c.args.mask (own_of dev t.issues) in
    let same = mask_is g c.done-done.result c.done-done.ensures in
    let e = freed_many dev f t _ _ c.clear_all.ensures c.context_left.ensures in
    rw (← c.self.view_is) (subst (λ (u : Slots). slots_of dev u ≡ freed g (slots_of dev t)) (sym e) (own_freed dev f g t c.self.invariant c.requires same))

pub returns-clause-others : goal.returns-clause-others
returns-clause-others c =
    let t : Slots = record { issues = c.self.inside.slots; contexts = c.self.inside.contexts } in
    let dev = c.args.dev in
    let f : ℕ → Bool = has_bit c.done-done.result in
    let same = mask_is (is_done c.args.mask (own_of dev t.issues)) c.done-done.result c.done-done.ensures in
    let e = freed_many dev f t _ _ c.clear_all.ensures c.context_left.ensures in
    rw (← c.self.view_is) (subst (λ (u : Slots). LeavesOthers dev t u) (sym e) (others_freed dev f t (done_own dev c.args.mask f t c.self.invariant same)))

pub returns-clause-frees : goal.returns-clause-frees
returns-clause-frees c =
    let t : Slots = record { issues = c.self.inside.slots; contexts = c.self.inside.contexts } in
    let dev = c.args.dev in
    let f : ℕ → Bool = has_bit c.done-done.result in
    let e = freed_many dev f t _ _ c.clear_all.ensures c.context_left.ensures in
    rw (← c.self.view_is) (subst (λ (u : Slots). KeepsFree t u) (sym e) (frees_freed dev f t))

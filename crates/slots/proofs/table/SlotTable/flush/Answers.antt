use Rattle.std.proofs.Common.{◌≡◌, ℕ, Bool, refl, sym, subst, ◌∙◌}
use Rattle.slots.specs.{Commands.is_any, Slots.{Slots, KeepsFree, LeavesOthers, has_bit, holds, no_own_slots, own_issue, own_of, slots_of}}
use Rattle.slots.specs.Table.{IsTable}
use Rattle.slots.proofs.{FreeLemmas.{frees_freed, freed_many, own_freed, others_freed, table_freed}, SetLemmas.{mask_is, any_own, flushed_context}}
use Rattle.slots.proofs.SetLemmas.{flushed_own}
use Rattle.slots.proofs.table.SlotTable.flush.Goals as goal

pub invariant_of-self : goal.invariant_of-self
invariant_of-self c =
    let t : Slots = record { issues = c.self.inside.slots; contexts = c.self.inside.contexts } in
    let dev = c.args.dev in
    let f : ℕ → Bool = has_bit c.of_device-flushed.result in
    let same = mask_is (λ k. holds is_any (own_issue (own_of dev t.issues) k)) c.of_device-flushed.result c.of_device-flushed.ensures in
    let e = freed_many dev f t _ _ c.clear_all.ensures (flushed_context dev f t c.self.invariant same) in
    subst IsTable (sym e) (table_freed dev f t c.self.invariant c.requires (any_own dev f t c.self.invariant same))

pub returns-clause-own : goal.returns-clause-own
returns-clause-own c =
    let t : Slots = record { issues = c.self.inside.slots; contexts = c.self.inside.contexts } in
    let dev = c.args.dev in
    let f : ℕ → Bool = has_bit c.of_device-flushed.result in
    let same = mask_is (λ k. holds is_any (own_issue (own_of dev t.issues) k)) c.of_device-flushed.result c.of_device-flushed.ensures in
    let e = freed_many dev f t _ _ c.clear_all.ensures (flushed_context dev f t c.self.invariant same) in
    subst (λ (u : Slots). slots_of dev u ≡ no_own_slots) (sym e) (own_freed dev f f t c.self.invariant c.requires (λ k lt. refl) ∙ flushed_own dev f t c.self.invariant same)

pub returns-clause-others : goal.returns-clause-others
returns-clause-others c =
    let t : Slots = record { issues = c.self.inside.slots; contexts = c.self.inside.contexts } in
    let dev = c.args.dev in
    let f : ℕ → Bool = has_bit c.of_device-flushed.result in
    let same = mask_is (λ k. holds is_any (own_issue (own_of dev t.issues) k)) c.of_device-flushed.result c.of_device-flushed.ensures in
    let e = freed_many dev f t _ _ c.clear_all.ensures (flushed_context dev f t c.self.invariant same) in
    rw (← c.self.view_is) (subst (λ (u : Slots). LeavesOthers dev t u) (sym e) (others_freed dev f t (any_own dev f t c.self.invariant same)))

pub returns-clause-frees : goal.returns-clause-frees
returns-clause-frees c =
    let t : Slots = record { issues = c.self.inside.slots; contexts = c.self.inside.contexts } in
    let dev = c.args.dev in
    let f : ℕ → Bool = has_bit c.of_device-flushed.result in
    let same = mask_is (λ k. holds is_any (own_issue (own_of dev t.issues) k)) c.of_device-flushed.result c.of_device-flushed.ensures in
    let e = freed_many dev f t _ _ c.clear_all.ensures (flushed_context dev f t c.self.invariant same) in
    rw (← c.self.view_is) (subst (λ (u : Slots). KeepsFree t u) (sym e) (frees_freed dev f t))

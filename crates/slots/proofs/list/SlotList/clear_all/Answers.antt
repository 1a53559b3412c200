use Rattle.std.proofs.Common.{List, Option, sym, subst, ◌∙◌, ◌≡◌, length}
use Rattle.slots.specs.{Masks.AreMasks, Slots.{Issue, has_bit}}
use Rattle.slots.proofs.{MaskLemmas.{length-unless}, ListLemmas.masks_freed}
use Rattle.slots.proofs.list.SlotList.clear_all.Goals as goal

pub invariant_of-self : goal.invariant_of-self
invariant_of-self c =
    let issues = c.self.inside.slots in
    let mask = c.args.mask in
    subst (λ (x : List (Option Issue)). (length x ≡ 32) × AreMasks c.without-self-inside.result x) (sym c.clear_slots.ensures)
    (length-unless (has_bit mask) issues ∙ c.self.invariant.0, masks_freed mask c.self.inside.masks c.without-self-inside.result issues c.self.invariant.0 c.self.invariant.1 c.without-self-inside.ensures)

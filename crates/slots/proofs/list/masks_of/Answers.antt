use Rattle.std.proofs.Common.{ℕ, ◌≡◌, arith, subst, Option}
use Rattle.slots.specs.{Masks.{AreMasksBelow, Notes}, Slots.Issue}
use Rattle.slots.proofs.{ListLemmas.{masks_noted, no_masks}, MaskLemmas.slot_read}
use Rattle.slots.proofs.list.masks_of.Goals as goal

pub loop-slot-init : goal.loop-slot-init
loop-slot-init c = no_masks _ _

pub loop-slot-preserved : goal.loop-slot-preserved
loop-slot-preserved c =
    let slots = c.args.slots.now in
    let s = c.loop-slot.slot in
    let long = c.type_inv.slots in
    let lt = c.loop-slot-test.true in
    masks_noted s c.loop-slot.masks c.noting-masks.result slots lt c.loop-slot.invariant
    (subst (λ (o : Option Issue). Notes s o c.loop-slot.masks c.noting-masks.result) (slot_read slots s _ (omega arith)) c.noting-masks.ensures)

pub returns-clause-masks : goal.returns-clause-masks
returns-clause-masks c =
    let end : c.loop-slot.slot ≡ 32 = omega (arith, c.loop-slot.auto, c.loop-slot-test.false) in
    subst (λ (n : ℕ). AreMasksBelow n c.loop-slot.masks c.args.slots.now) end c.loop-slot.invariant

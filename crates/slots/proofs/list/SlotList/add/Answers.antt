use Rattle.std.proofs.Common.{◌<◌, ap, arith, length, length-set, ◌∙◌}
use Rattle.std.specs.Option.{option_map}
use Rattle.slots.specs.Data.{moved_over}
use Rattle.slots.proofs.{ListLemmas.masks_moved, MaskLemmas.slot_read}
use Rattle.slots.proofs.list.SlotList.add.Goals as goal

pub invariant_of-self : goal.invariant_of-self
invariant_of-self c =
    let issues = c.self.inside.slots in
    let s = c.args.slot in
    let below : s < length issues = omega (arith, c.self.invariant.0, c.requires.slot) in (
      length-set issues s _ ∙ c.self.invariant.0,
      masks_moved c.self.inside.masks s c.args.offset c.args.count issues _ below
          (c.add.ensures ∙ ap (option_map (moved_over c.args.offset c.args.count)) (slot_read issues s c.index-self-slot.result below)) c.self.invariant.1,
    )

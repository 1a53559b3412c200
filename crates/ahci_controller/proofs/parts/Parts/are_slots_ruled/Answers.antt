use Rattle.std.proofs.Common.{arith, sym}
use Rattle.ahci_controller.specs.Tested.{is_slot_ruled}
use Rattle.ahci_controller.proofs.rules.TestedLemmas.{below_from, below_more, below_not}
use Rattle.ahci_controller.proofs.parts.Parts.are_slots_ruled.Goals as goal

pub returns-then-not-is_slot_ruled : goal.returns-then-not-is_slot_ruled
returns-then-not-is_slot_ruled c =
    sym (below_not (is_slot_ruled c.args.self.now) 32 c.loop-slot.slot c.loop-slot-test.true (sym c.if-not-is_slot_ruled.ensures))

pub loop-slot-preserved : goal.loop-slot-preserved
loop-slot-preserved c =
    below_more (is_slot_ruled c.args.self.now) c.loop-slot.slot c.loop-slot.invariant (sym c.if-not-is_slot_ruled.ensures)

pub returns : goal.returns
returns c =
    let done = c.loop-slot-test.false in
    sym (below_from (is_slot_ruled c.args.self.now) 32 (λ k low. c.loop-slot.invariant k (omega (arith, low, done))))

use Rattle.std.proofs.Common.{ℕ, Option, below_more, not, arith, sym, ap}
use Rattle.std.specs.Option.{is_none}
use Rattle.slots.specs.Tested.{is_slot_proper}
use Rattle.slots.proofs.MaskLemmas.{lowest_found, lowest_none}
use Rattle.slots.proofs.table.saved.are_slots_proper.Goals as goal

pub returns-then-not-is_slot_proper : goal.returns-then-not-is_slot_proper
returns-then-not-is_slot_proper c = sym (ap (λ (o : Option ℕ). is_none o) (lowest_found (λ k. not (is_slot_proper c.args.slots.now k)) 32 c.loop-slot.slot c.loop-slot-test.true
    (ap not (sym c.if-not-is_slot_proper.ensures)) c.loop-slot.invariant))

pub loop-slot-preserved : goal.loop-slot-preserved
loop-slot-preserved c = below_more _ _ c.loop-slot.invariant (ap not (sym c.if-not-is_slot_proper.ensures))

pub returns : goal.returns
returns c = sym (ap (λ (o : Option ℕ). is_none o) (lowest_none (λ k. not (is_slot_proper c.args.slots.now k)) 32 (λ k below. c.loop-slot.invariant k (omega arith))))

use Rattle.std.proofs.Common.{◌≡◌, arith, sym, ap, ◌∙◌}
use Rattle.slots.specs.Slots.{has_bit, mask_below}
use Rattle.slots.proofs.Door.{has_bit_mask, mask_none, mask_same, mask_set}
use Rattle.hba_fbs.specs.Choosing.{may_order}
use Rattle.hba_fbs.proofs.{ChooseLemmas.{none_order, none_order_at}, port.PortCore.due_slots.Goals.{then-may_order, else-may_order}}
use Rattle.hba_fbs.proofs.port.PortCore.due_slots.Goals as goal

pub returns-then-unsent-eq0-clause-value : goal.returns-then-unsent-eq0-clause-value
returns-then-unsent-eq0-clause-value c = none_order c.args.self.now (sym c.unsent_slots-unsent.ensures ∙ c.if-unsent-eq0.true)

pub returns-then-unsent-eq0-clause-exact : goal.returns-then-unsent-eq0-clause-exact
returns-then-unsent-eq0-clause-exact c = none_order_at c.args.self.now (sym c.unsent_slots-unsent.ensures ∙ c.if-unsent-eq0.true)

pub loop-slot-init : goal.loop-slot-init
loop-slot-init c = sym (mask_none _)

pub loop-slot-preserved : goal.loop-slot-preserved
loop-slot-preserved c =
    let test = may_order c.args.self.now in
    let slot = c.loop-slot.slot in
    elim c.if-may_order.branch [
      | then-may_order w ↦ w.mask-is ∙ mask_set test slot c.loop-slot.mask c.loop-slot-test.true c.loop-slot.invariant (sym c.may_order.ensures ∙ w.if-may_order.true)
      | else-may_order w ↦ w.mask-is ∙ mask_same test slot c.loop-slot.mask c.loop-slot.invariant (sym c.may_order.ensures ∙ w.if-may_order.false)
    ]

pub returns-clause-value : goal.returns-clause-value
returns-clause-value c = c.loop-slot.invariant ∙ ap (mask_below (may_order c.args.self.now)) (omega arith)

pub returns-clause-exact : goal.returns-clause-exact
returns-clause-exact c slot below =
    let all : c.loop-slot.mask ≡ mask_below (may_order c.args.self.now) 32 = c.loop-slot.invariant ∙ ap (mask_below (may_order c.args.self.now)) (omega arith) in
    ap (λ m. has_bit m slot) all ∙ has_bit_mask (may_order c.args.self.now) slot below

use Rattle.std.proofs.Common.{arith, ap, sym, ◌∙◌, below_more}
use Rattle.std.specs.Option.{is_some}
use Rattle.slots.proofs.Door.{lowest_found, lowest_none}
use Rattle.hba_fbs.specs.Issuing.{is_beside}
use Rattle.hba_fbs.proofs.issue.any_beside.Goals as goal

pub returns-then-is_beside : goal.returns-then-is_beside
returns-then-is_beside c =
    sym (ap is_some (lowest_found (is_beside c.args.slots.now c.args.dev) 32 c.loop-slot.slot c.loop-slot-test.true (sym c.is_beside.ensures ∙ c.if-is_beside.true) c.loop-slot.invariant))

pub loop-slot-preserved : goal.loop-slot-preserved
loop-slot-preserved c = below_more _ _ c.loop-slot.invariant (sym c.is_beside.ensures ∙ c.if-is_beside.false)

pub returns : goal.returns
returns c = sym (ap is_some (lowest_none (is_beside c.args.slots.now c.args.dev) 32 (λ k below. c.loop-slot.invariant k (omega arith))))

use Rattle.std.proofs.Common.{ℕ, Bool, arith, ap, sym, ◌∙◌, below_more}
use Rattle.std.specs.Option.{is_none, is_some}
use Rattle.slots.specs.Slots.{own_issue, slots_of}
use Rattle.slots.proofs.Door.{lowest_found, lowest_none}
use Rattle.hba_fbs.proofs.SlotLemmas.{own_at}
use Rattle.hba_fbs.proofs.take.owns_none.Goals as goal

pub returns-then-is_own : goal.returns-then-is_own
returns-then-is_own c =
    let test : ℕ → Bool = λ k. is_some (own_issue (slots_of c.args.dev c.args.slots.now) k) in
    sym (ap is_none (lowest_found test 32 c.loop-slot.slot c.loop-slot-test.true
    (ap is_some (own_at c.args.dev c.args.slots.now c.loop-slot.slot) ∙ sym c.is_own.ensures ∙ c.if-is_own.true) c.loop-slot.invariant))

pub loop-slot-preserved : goal.loop-slot-preserved
loop-slot-preserved c =
    below_more _ _ c.loop-slot.invariant (ap is_some (own_at c.args.dev c.args.slots.now c.loop-slot.slot) ∙ sym c.is_own.ensures ∙ c.if-is_own.false)

pub returns : goal.returns
returns c =
    let test : ℕ → Bool = λ k. is_some (own_issue (slots_of c.args.dev c.args.slots.now) k) in
    sym (ap is_none (lowest_none test 32 (λ k below. c.loop-slot.invariant k (omega arith))))

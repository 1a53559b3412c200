use Rattle.std.proofs.Common.{ℕ, Option, below_more, not, arith, sym, ap}
use Rattle.std.specs.Option.{is_none}
use Rattle.slots.specs.Tested.{is_context_proper}
use Rattle.slots.proofs.MaskLemmas.{lowest_found, lowest_none}
use Rattle.slots.proofs.table.saved.are_contexts_proper.Goals as goal

pub returns-then-not-is_context_proper : goal.returns-then-not-is_context_proper
returns-then-not-is_context_proper c = sym (ap (λ (o : Option ℕ). is_none o) (lowest_found (λ k. not (is_context_proper c.args.slots.now c.args.contexts.now k)) 16 c.loop-dev.dev c.loop-dev-test.true
    (ap not (sym c.if-not-is_context_proper.ensures)) c.loop-dev.invariant))

pub loop-dev-preserved : goal.loop-dev-preserved
loop-dev-preserved c = below_more _ _ c.loop-dev.invariant (ap not (sym c.if-not-is_context_proper.ensures))

pub returns : goal.returns
returns c = sym (ap (λ (o : Option ℕ). is_none o) (lowest_none (λ k. not (is_context_proper c.args.slots.now c.args.contexts.now k)) 16 (λ k below. c.loop-dev.invariant k (omega arith))))

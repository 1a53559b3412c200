use Rattle.std.proofs.Common.{arith, sym, ◌∙◌}
use Rattle.slots.proofs.Door.{lowest_found, lowest_none}
use Rattle.hba_fbs.specs.Sending.{is_due}
use Rattle.hba_fbs.proofs.ChooseLemmas.{none_due}
use Rattle.hba_fbs.proofs.sending.lowest_due.Goals as goal

pub returns-then-asking-eq0-clause-value : goal.returns-then-asking-eq0-clause-value
returns-then-asking-eq0-clause-value c = sym (none_due c.args.slots.now c.args.errors.now (sym c.receivers-asking.ensures ∙ c.if-asking-eq0.true))

pub returns-then-is_due-clause-value : goal.returns-then-is_due-clause-value
returns-then-is_due-clause-value c =
    sym (lowest_found (is_due c.args.slots.now c.args.errors.now) 16 c.loop-dev.dev c.loop-dev-test.true (sym c.is_due.ensures ∙ c.if-is_due.true) c.loop-dev.invariant)

pub returns-clause-value : goal.returns-clause-value
returns-clause-value c = sym (lowest_none (is_due c.args.slots.now c.args.errors.now) 16 (λ k below. c.loop-dev.invariant k (omega arith)))

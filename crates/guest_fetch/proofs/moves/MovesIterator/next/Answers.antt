use Rattle.std.proofs.Common.{◌≡◌, ◌-◌, ◌<◌, ◌∙◌, sym, arith}
use Rattle.guest_fetch.specs.Spans.{no_span}
use Rattle.guest_fetch.proofs.{MoveLemmas.moves_done, StepLemmas.{stands, hold_next, moves_step, moves_fewer}}
use Rattle.guest_fetch.proofs.moves.MovesIterator.next.Goals as goal

pub returns-then-self-clause-steps : goal.returns-then-self-clause-steps
returns-then-self-clause-steps c =
    let none : c.self.inside.end - c.self.inside.at ≡ 0 = omega arith in
    let is = (rw none at c.self.view_is) in
    let empty = sym is ∙ moves_done _ _ _ in (empty, empty)

pub step_of-step-requires-clause-inside : goal.step_of-step-requires-clause-inside
step_of-step-requires-clause-inside c =
    let more : c.self.inside.at < c.self.inside.end = omega (arith, c.self.invariant.within, c.if-self.false) in
    let at = stands _ _ _ _ _ _ no_span c.self.invariant more in
    at.is.inside

pub invariant_of-self : goal.invariant_of-self
invariant_of-self c =
    let more : c.self.inside.at < c.self.inside.end = omega (arith, c.self.invariant.within, c.if-self.false) in
    let at = stands _ _ _ _ _ _ no_span c.self.invariant more in
    hold_next _ _ _ _ _ _ _ _ c.self.invariant more at c.min-self-inside.ensures

pub returns-clause-steps : goal.returns-clause-steps
returns-clause-steps c =
    let more : c.self.inside.at < c.self.inside.end = omega (arith, c.self.invariant.within, c.if-self.false) in
    let at = stands _ _ _ _ _ _ no_span c.self.invariant more in
    moves_step _ _ _ _ _ _ _ _ _ _ c.self.invariant more at c.min-self-inside.ensures c.step_of-step.ensures c.self.view_is

pub returns-clause-goes : goal.returns-clause-goes
returns-clause-goes c =
    let more : c.self.inside.at < c.self.inside.end = omega (arith, c.self.invariant.within, c.if-self.false) in
    let at = stands _ _ _ _ _ _ no_span c.self.invariant more in
    let steps = moves_step _ _ _ _ _ _ _ _ _ _ c.self.invariant more at c.min-self-inside.ensures c.step_of-step.ensures c.self.view_is in
    record { on = λ _. (tt, tt, moves_fewer _ _ _ steps); keeps = tt; rests = λ _. tt }

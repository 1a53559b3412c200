use Rattle.std.proofs.Common.{◌&&◌, nat_le, arith, sym, ◌∙◌, below_more}
use Rattle.slots.specs.Slots.{has_bit}
use Rattle.slots.proofs.Door.{lowest_found, lowest_none}
use Rattle.hba_driver.proofs.order.found_from.Goals as goal

pub returns-then-is_found-clause-value : goal.returns-then-is_found-clause-value
returns-then-is_found-clause-value c = sym (lowest_found (λ k. nat_le c.args.from k && has_bit c.args.found k) 15 c.loop-port.port c.loop-port-test.true (sym c.is_found.ensures ∙ c.if-is_found.true) c.loop-port.invariant)

pub loop-port-preserved : goal.loop-port-preserved
loop-port-preserved c = below_more _ _ c.loop-port.invariant (sym c.is_found.ensures ∙ c.if-is_found.false)

pub returns-clause-value : goal.returns-clause-value
returns-clause-value c = sym (lowest_none (λ k. nat_le c.args.from k && has_bit c.args.found k) 15 (λ k below. c.loop-port.invariant k (omega arith)))

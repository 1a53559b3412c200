use Rattle.std.proofs.Common.{None, Some, subst, arith}
use Rattle.multiplier.specs.State.{IsSound}
use Rattle.multiplier.proofs.{GiveLemmas.{down_rule_keeps, down_rule_sound}, Lent.{down_given, down_none, lends}}
use Rattle.multiplier.proofs.multiplier.Multiplier.next_down.Goals as goal

pub invariant_of-self : goal.invariant_of-self
invariant_of-self c =
    let lent = lends _ _ _ c.from.result _ c.self.view_is c.self.invariant c.requires (omega arith) c.index-self-from.is in
    down_rule_sound c.args.self.now _ c.args.n None (subst IsSound c.self.view_is c.self.invariant) (down_none _ _ _ _ _ c.take_down.new.self lent c.in_err-frame.ensures.after c.in_err-frame.ensures.gives)

pub returns-clause-down : goal.returns-clause-down
returns-clause-down c =
    let lent = lends _ _ _ c.from.result _ c.self.view_is c.self.invariant c.requires (omega arith) c.index-self-from.is in
    down_given _ _ _ _ _ c.take_down.new.self lent c.in_ok-frame.frame c.stamp.result c.in_ok-frame.ensures.after c.in_ok-frame.ensures.gives c.stamp.ensures

pub invariant_of-self-2 : goal.invariant_of-self-2
invariant_of-self-2 c = down_rule_sound c.args.self.now _ c.args.n (Some c.in_ok-frame.frame) (subst IsSound c.self.view_is c.self.invariant) (returns-clause-down c)

pub returns-clause-can_put_back : goal.returns-clause-can_put_back
returns-clause-can_put_back c = (c.args.self.now, subst IsSound c.self.view_is c.self.invariant, returns-clause-down c)

pub returns-clause-ports : goal.returns-clause-ports
returns-clause-ports c = down_rule_keeps c.args.self.now _ c.args.n (Some c.in_ok-frame.frame) (returns-clause-down c)

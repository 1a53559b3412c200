use Rattle.std.proofs.Common.{Ok, Err, subst, arith}
use Rattle.pm_ports.specs.declared.port.Offered.TheVariants.{Held, Dropped}
use Rattle.multiplier.specs.State.{IsSound}
use Rattle.multiplier.proofs.Lent.{lends, offer_dropped, offer_held, offer_refused, offer_rule_keeps, offer_rule_sound}
use Rattle.multiplier.proofs.multiplier.Multiplier.from_device.Goals as goal

pub returns-in-Ok-Held-clause-rule : goal.returns-in-Ok-Held-clause-rule
returns-in-Ok-Held-clause-rule c =
    let lent = lends _ _ _ c.from.result _ c.self.view_is c.self.invariant c.requires (omega arith) c.index-self-from.is in
    offer_held _ _ _ _ _ c.offer.new.self lent c.args.frame c.stamped.result c.stamped.ensures (rw c.in-Ok-Held.field-0-is at c.in-Ok-Held.ensures)

pub invariant_of-self : goal.invariant_of-self
invariant_of-self c = offer_rule_sound _ _ c.args.n c.args.frame (Ok Held) (subst IsSound c.self.view_is c.self.invariant) (returns-in-Ok-Held-clause-rule c)

pub returns-in-Ok-Held-clause-ports : goal.returns-in-Ok-Held-clause-ports
returns-in-Ok-Held-clause-ports c = offer_rule_keeps _ _ c.args.n c.args.frame (Ok Held) (returns-in-Ok-Held-clause-rule c)

pub returns-in-Ok-Dropped-clause-rule : goal.returns-in-Ok-Dropped-clause-rule
returns-in-Ok-Dropped-clause-rule c =
    let lent = lends _ _ _ c.from.result _ c.self.view_is c.self.invariant c.requires (omega arith) c.index-self-from.is in
    offer_dropped _ _ _ _ _ c.offer.new.self lent c.args.frame c.stamped.result c.stamped.ensures (rw c.in-Ok-Dropped.field-0-is at c.in-Ok-Dropped.ensures)

pub invariant_of-self-in-Ok-Dropped : goal.invariant_of-self-in-Ok-Dropped
invariant_of-self-in-Ok-Dropped c =
    offer_rule_sound _ _ c.args.n c.args.frame (Ok Dropped) (subst IsSound c.self.view_is c.self.invariant) (returns-in-Ok-Dropped-clause-rule c)

pub returns-in-Ok-Dropped-clause-ports : goal.returns-in-Ok-Dropped-clause-ports
returns-in-Ok-Dropped-clause-ports c = offer_rule_keeps _ _ c.args.n c.args.frame (Ok Dropped) (returns-in-Ok-Dropped-clause-rule c)

pub returns-in-Err-clause-rule : goal.returns-in-Err-clause-rule
returns-in-Err-clause-rule c =
    let lent = lends _ _ _ c.from.result _ c.self.view_is c.self.invariant c.requires (omega arith) c.index-self-from.is in
    offer_refused _ _ _ _ _ c.offer.new.self lent c.args.frame c.stamped.result c.in-Err.frame c.set_stamp.new.self c.stamp-sent.result c.stamped.ensures c.in-Err.ensures c.set_stamp.ensures
    c.stamp-sent.ensures

pub invariant_of-self-in-Err : goal.invariant_of-self-in-Err
invariant_of-self-in-Err c =
    offer_rule_sound _ _ c.args.n c.args.frame (Err c.set_stamp.new.self) (subst IsSound c.self.view_is c.self.invariant) (returns-in-Err-clause-rule c)

pub returns-in-Err-clause-ports : goal.returns-in-Err-clause-ports
returns-in-Err-clause-ports c = offer_rule_keeps _ _ c.args.n c.args.frame (Err c.set_stamp.new.self) (returns-in-Err-clause-rule c)

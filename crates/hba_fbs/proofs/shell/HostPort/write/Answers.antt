use Rattle.std.proofs.Common.{sym, ◌∙◌}
use Rattle.hba_fbs.proofs.OfferLemmas.{refused_outside, write_refusal_for, writes_are_inside, writes_for}
use Rattle.hba_fbs.proofs.shell.HostPort.write.Goals as goal

pub invariant_of-self : goal.invariant_of-self
invariant_of-self c =
    writes_are_inside c.write.result c.self.inside.core c.write.new.self c.registers-registers.result c.args.memory.now c.args.offset c.args.value c.self.invariant c.registers-registers.ensures.value (sym c.if-is_outside.ensures) c.write.ensures.refusal
    c.write.ensures.refused c.write.ensures.accepted

pub returns-then-is_outside-clause-refusal : goal.returns-then-is_outside-clause-refusal
returns-then-is_outside-clause-refusal c =
    rw (← c.self.view_is) (sym (refused_outside c.self.inside.core c.registers-registers.result c.args.memory.now c.args.offset c.args.value c.registers-registers.ensures.value (sym c.if-is_outside.ensures)))

pub returns-clause-refusal : goal.returns-clause-refusal
returns-clause-refusal c =
    rw (← c.self.view_is)
    (c.write.ensures.refusal ∙ write_refusal_for c.self.inside.core c.registers-registers.result c.args.memory.now c.args.offset c.args.value c.registers-registers.ensures.value (sym c.if-is_outside.ensures))

pub returns-clause-accepted : goal.returns-clause-accepted
returns-clause-accepted c =
    rw (← c.self.view_is)
    (writes_for c.write.result c.self.inside.core c.write.new.self c.registers-registers.result c.args.memory.now c.args.offset c.args.value c.registers-registers.ensures.value c.write.ensures.accepted)

use Rattle.std.proofs.Common.{sym}
use Rattle.hba_fbs.specs.Saved.{KeepsPort, KeepsPortParts, is_core, port_parts, port_parts_apart, put_port_parts}
use Rattle.saved_state.specs.State.{parts_refused, rule_refused}
use Rattle.hba_fbs.proofs.SavedLemmas.{core_is, core_then}
use Rattle.hba_fbs.proofs.port.saved.PortCoreSaved.restore.Goals as goal

pub returns-in-Err : goal.returns-in-Err
returns-in-Err c = parts_refused put_port_parts KeepsPortParts KeepsPort port_parts (λ p k. k.0) c.args.words.now c.restore.new.words c.in-Err.error c.in-Err.ensures

pub returns-then-not-is_core : goal.returns-then-not-is_core
returns-then-not-is_core c = rule_refused put_port_parts KeepsPortParts KeepsPort port_parts (λ p. is_core p.0.0 p.0.1 p.1.0.1 p.1.1.1) port_parts_apart (λ p k. k.0) (λ p k. core_then p k.1)
    c.args.words.now c.restore.new.words c.in-Ok.parts c.in-Ok.ensures (sym c.if-not-is_core.ensures)

pub invariant_of-result : goal.invariant_of-result
invariant_of-result c = core_is _ c.in-Ok.ensures.1.0.1 (sym c.if-not-is_core.ensures)

pub returns : goal.returns
returns c = (c.in-Ok.ensures.0, (c.in-Ok.ensures.1, core_is _ c.in-Ok.ensures.1.0.1 (sym c.if-not-is_core.ensures)))

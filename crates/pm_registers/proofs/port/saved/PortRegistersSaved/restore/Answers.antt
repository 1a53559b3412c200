use Rattle.pm_registers.specs.Saved.{KeepsPort, KeepsPortParts, port_parts, put_port_parts}
use Rattle.saved_state.specs.State.{parts_refused}
use Rattle.pm_registers.proofs.port.saved.PortRegistersSaved.restore.Goals as goal

pub returns-in-Err : goal.returns-in-Err
returns-in-Err c = parts_refused put_port_parts KeepsPortParts KeepsPort port_parts (λ v k. k) c.args.words.now c.restore.new.words c.in-Err.error c.in-Err.ensures

use Rattle.saved_state.specs.State.{parts_refused}
use Rattle.hba_fbs.specs.Saved.{KeepsRegisters, KeepsRegisterParts, register_parts, put_register_parts}
use Rattle.hba_fbs.proofs.registers.saved.RegistersSaved.restore.Goals as goal

pub returns-in-Err : goal.returns-in-Err
returns-in-Err c = parts_refused put_register_parts KeepsRegisterParts KeepsRegisters register_parts (λ v k. k) c.args.words.now c.restore.new.words c.in-Err.error c.in-Err.ensures

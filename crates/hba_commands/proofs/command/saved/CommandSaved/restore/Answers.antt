use Rattle.saved_state.specs.State.{parts_refused}
use Rattle.hba_commands.specs.Saved.{KeepsCommand, KeepsCommandParts, command_parts, put_command_parts}
use Rattle.hba_commands.proofs.command.saved.CommandSaved.restore.Goals as goal

pub returns-in-Err : goal.returns-in-Err
returns-in-Err c = parts_refused put_command_parts KeepsCommandParts KeepsCommand command_parts (λ v k. k) c.args.words.now c.restore.new.words c.in-Err.error c.in-Err.ensures

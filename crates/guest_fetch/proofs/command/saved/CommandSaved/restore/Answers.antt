use Rattle.std.proofs.Common.{sym}
use Rattle.guest_fetch.specs.SavedCommands.{KeepsCommand, command_parts, is_command, of_command}
use Rattle.guest_fetch.proofs.CommandLemmas.{command_fits, command_is}
use Rattle.saved_state.specs.State.{parts_refused, rule_refused}
use Rattle.guest_fetch.proofs.command.saved.CommandSaved.restore.Goals as goal

pub returns-in-Err : goal.returns-in-Err
returns-in-Err c = parts_refused of_command.put of_command.keeps KeepsCommand command_parts (λ v k. k.0)
    c.args.words.now c.restore.new.words c.in-Err.error c.in-Err.ensures

pub returns-then-not-is_command : goal.returns-then-not-is_command
returns-then-not-is_command c = rule_refused of_command.put of_command.keeps KeepsCommand command_parts is_command of_command.apart
    (λ v k. k.0) command_fits c.args.words.now c.restore.new.words c.in-Ok.parts c.in-Ok.ensures (sym c.if-not-is_command.ensures)

pub invariant_of-result : goal.invariant_of-result
invariant_of-result c = command_is c.in-Ok.parts (sym c.if-not-is_command.ensures)

pub returns : goal.returns
returns c = (c.in-Ok.ensures.0, (c.in-Ok.ensures.1, command_is c.in-Ok.parts (sym c.if-not-is_command.ensures)))

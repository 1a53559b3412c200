use Rattle.std.proofs.{Common.{◌≡◌, ◌++◌, take, drop, length, ap, arith}, lemmas.List.take_at}
use Rattle.hba_commands.proofs.BackLemmas.{command_back}
use Rattle.hba_commands.proofs.write.write_command.Goals as goal

pub returns-clause-command : goal.returns-clause-command
returns-clause-command c =
    let old = c.args.memory.now.structure in
    let new = c.put_command.new.structure in
    let long : length new ≡ length old = omega (arith, c.put_command.auto.structure, ap length c.structure_mut.ensures.structure) in
    let same : take (length old) (new ++ drop (length new) old) ≡ new = take_at new (drop (length new) old) (length old) long in
    λ armed. rw same (command_back (record { structure = new; client = c.args.memory.now.client }) c.args.clb c.args.slot c.args.table c.args.fields.now c.args.prds.now _ c.put_command.ensures armed)

use Rattle.machine_theorem.proofs.Stood.{Laws, commands_stand, issues_are_alone, none_beside}
use Rattle.machine_theorem.proofs.standing.slots_have_one_command.Goals as goal

pub returns : goal.returns
returns c =
    let laws : Laws = record {
      opens = c.controller_goes_on.ensures.opens;
      due = c.controller_goes_on.ensures.due;
      goes = c.controller_goes_on.ensures.goes;
      runs = c.controller_has_its_laws.ensures.runs;
    } in
    record { alone = issues_are_alone; beside = none_beside laws; commands = commands_stand laws }

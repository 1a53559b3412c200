use Rattle.pm_world.proofs.meant.MeantRuns.{answers_are_meant, commands_are_meant}
use Rattle.pm_world.proofs.laws.commands_are_meant.Goals as goal

pub returns-clause-commands : goal.returns-clause-commands
returns-clause-commands c = commands_are_meant

pub returns-clause-answers : goal.returns-clause-answers
returns-clause-answers c = answers_are_meant

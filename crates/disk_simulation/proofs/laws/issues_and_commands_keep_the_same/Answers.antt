use Rattle.disk_simulation.proofs.events.SameLemmas.{commands_keep, issues_keep}
use Rattle.disk_simulation.proofs.laws.issues_and_commands_keep_the_same.Goals as goal

pub returns-clause-issues : goal.returns-clause-issues
returns-clause-issues c = issues_keep

pub returns-clause-commands : goal.returns-clause-commands
returns-clause-commands c = commands_keep

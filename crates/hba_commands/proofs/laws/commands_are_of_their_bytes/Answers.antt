use Rattle.hba_commands.proofs.AgreeLemmas.{commands_same, commands_stay}
use Rattle.hba_commands.proofs.laws.commands_are_of_their_bytes.Goals as goal

pub returns-clause-bytes_tell : goal.returns-clause-bytes_tell
returns-clause-bytes_tell c = commands_same

pub returns-clause-others_do_not : goal.returns-clause-others_do_not
returns-clause-others_do_not c = commands_stay

use Rattle.disk_model.proofs.both_ends.InResetLemmas.{takes_no_command}
use Rattle.disk_model.proofs.laws.disks_in_reset_take_no_command.Goals as goal

pub returns : goal.returns
returns c = takes_no_command

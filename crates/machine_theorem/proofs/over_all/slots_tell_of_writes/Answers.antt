use Rattle.machine_theorem.proofs.SlotsTell.{slots_tell}
use Rattle.machine_theorem.proofs.over_all.slots_tell_of_writes.Goals as goal

pub returns : goal.returns
returns c = slots_tell c.disks_go_on.ensures c.commands_are_as_supplied.ensures.commands

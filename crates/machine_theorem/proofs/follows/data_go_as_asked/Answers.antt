use Rattle.machine_theorem.proofs.SetupOpens.{data_go}
use Rattle.machine_theorem.proofs.follows.data_go_as_asked.Goals as goal

pub returns : goal.returns
returns c = data_go c.events_are_core_events.ensures

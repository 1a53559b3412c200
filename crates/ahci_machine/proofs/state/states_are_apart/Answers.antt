use Rattle.ahci_machine.specs.Streams.{saved_apart}
use Rattle.ahci_machine.proofs.state.states_are_apart.Goals as goal

pub returns : goal.returns
returns c = saved_apart

use Rattle.hba_laws.proofs.faults.CauseLemmas.{core_device_causes_stay, core_others_fault_none, core_port_causes_stay}
use Rattle.hba_laws.proofs.laws.core_causes_stay.Goals as goal

pub returns-clause-kept : goal.returns-clause-kept
returns-clause-kept c = core_device_causes_stay

pub returns-clause-own : goal.returns-clause-own
returns-clause-own c = core_others_fault_none

pub returns-clause-port : goal.returns-clause-port
returns-clause-port c = core_port_causes_stay

use Rattle.hba_laws.proofs.faults.CauseLemmas.{device_causes_stay, others_fault_none, port_causes_stay}
use Rattle.hba_laws.proofs.laws.causes_stay.Goals as goal

pub returns-clause-kept : goal.returns-clause-kept
returns-clause-kept c = device_causes_stay

pub returns-clause-own : goal.returns-clause-own
returns-clause-own c = others_fault_none

pub returns-clause-port : goal.returns-clause-port
returns-clause-port c = port_causes_stay

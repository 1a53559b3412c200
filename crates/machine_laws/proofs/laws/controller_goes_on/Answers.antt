use Rattle.machine_laws.proofs.{Calls.goes_on, Due.{opens_due, stays_due}}
use Rattle.machine_laws.proofs.laws.controller_goes_on.Goals as goal

pub returns-clause-opens : goal.returns-clause-opens
returns-clause-opens c = opens_due

pub returns-clause-due : goal.returns-clause-due
returns-clause-due c = stays_due

pub returns-clause-goes : goal.returns-clause-goes
returns-clause-goes c = goes_on

use Rattle.hba_driver.proofs.events.TurnLemmas.{each_run_tells, turns_are_events}
use Rattle.hba_driver.proofs.laws.turns_are_events.Goals as goal

pub returns-clause-runs : goal.returns-clause-runs
returns-clause-runs c = turns_are_events

pub returns-clause-tells : goal.returns-clause-tells
returns-clause-tells c = each_run_tells

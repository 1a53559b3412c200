use Rattle.ahci_registers.proofs.LawLemmas.{stands, raised, between, step_keeps, taken, errors, at_a_cause, rises, again, reserved}
use Rattle.ahci_registers.proofs.laws.interrupts_follow_events.Goals as goal

pub returns-clause-stands : goal.returns-clause-stands
returns-clause-stands c = stands

pub returns-clause-raised : goal.returns-clause-raised
returns-clause-raised c = raised

pub returns-clause-between : goal.returns-clause-between
returns-clause-between c = between

pub returns-clause-kept : goal.returns-clause-kept
returns-clause-kept c = step_keeps

pub returns-clause-taken : goal.returns-clause-taken
returns-clause-taken c = taken

pub returns-clause-errors : goal.returns-clause-errors
returns-clause-errors c = errors

pub returns-clause-at_a_cause : goal.returns-clause-at_a_cause
returns-clause-at_a_cause c = at_a_cause

pub returns-clause-rises : goal.returns-clause-rises
returns-clause-rises c = rises

pub returns-clause-again : goal.returns-clause-again
returns-clause-again c = again

pub returns-clause-reserved : goal.returns-clause-reserved
returns-clause-reserved c = reserved

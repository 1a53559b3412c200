use Rattle.machine_laws.proofs.{Lawful.{Laws, have, line_told, opens, runs, writes}, NoWrites.turns}
use Rattle.machine_laws.proofs.laws.controller_has_its_laws.Goals as goal

pub returns-clause-opens : goal.returns-clause-opens
returns-clause-opens c = opens c.issues_fall.ensures.opens c.commands_are_supplied.ensures.starts c.line_is_told.ensures.opens

pub returns-clause-runs : goal.returns-clause-runs
returns-clause-runs c = runs

pub returns-clause-laws : goal.returns-clause-laws
returns-clause-laws c =
    let laws : Laws = record {
      events = c.events_are_core_events.ensures;
      falls = c.issues_fall.ensures.falls;
      told = c.issues_fall.ensures.told;
      active = c.active_falls.ensures;
      supplied = c.commands_are_supplied.ensures.supplied;
      core = c.commands_are_supplied.ensures.core;
      said = c.bytes_go_to_their_places.ensures.said;
      line = c.line_is_told.ensures.told;
      latched = c.line_is_told.ensures.latched;
    } in
    have laws

pub returns-clause-writes : goal.returns-clause-writes
returns-clause-writes c = writes c.writes_are_placed.ensures

pub returns-clause-turns : goal.returns-clause-turns
returns-clause-turns c = turns

pub returns-clause-line : goal.returns-clause-line
returns-clause-line c = line_told

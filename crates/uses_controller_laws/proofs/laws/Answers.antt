use Rattle.uses_controller_laws.proofs.laws.Goals as goal

pub returns : goal.returns
returns c = record {
  events = c.events_are_core_events.ensures;
  falls = c.issues_fall.ensures.falls;
  active = c.active_falls.ensures;
  supplied = c.commands_are_supplied.ensures.supplied;
  said = c.bytes_go_to_their_places.ensures.said;
  own = c.bytes_go_to_their_places.ensures.own;
  all = c.bytes_go_to_their_places.ensures.all;
  told = c.line_is_told.ensures.told;
  kept = c.line_is_told.ensures.kept;
  latched = c.line_is_told.ensures.latched;
}

use Rattle.machine_theorem.proofs.KeepPlaces.{keep_places}
use Rattle.machine_theorem.proofs.crossing.ordered_links_keep_places.Goals as goal

pub returns : goal.returns
returns c = keep_places (record {
  follow = c.fed_data_follow_setups.ensures;
  asked = c.data_go_as_asked.ensures;
  turns = c.data_are_asked_in_turn.ensures.turns;
  awaits = c.data_are_asked_in_turn.ensures.awaits;
})

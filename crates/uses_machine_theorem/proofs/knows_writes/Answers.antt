use Rattle.uses_machine_theorem.proofs.FeedLemmas.{fed, places, writes}
use Rattle.uses_machine_theorem.proofs.knows_writes.Goals as goal

pub returns : goal.returns
returns c = record {
  fed = fed c.fed_data_are_of_their_slots.ensures.sent c.args.machine.now;
  places = places c.ordered_links_keep_places.ensures c.args.machine.now;
  writes = writes c.writes_are_as_supplied.ensures c.args.machine.now;
}

use Rattle.machine_theorem.proofs.FedCalls.{fed_follow}
use Rattle.machine_theorem.proofs.follows.fed_data_follow_setups.Goals as goal

pub returns : goal.returns
returns c = fed_follow (record {
  events = c.events_are_core_events.ensures;
  views = c.core_delivers.ensures.agrees;
  filled = c.core_delivers.ensures.reports;
  chosen = c.core_delivers.ensures.chosen;
})

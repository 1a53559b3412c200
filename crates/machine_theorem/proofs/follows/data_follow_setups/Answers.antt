use Rattle.machine_theorem.proofs.SetupCalls.{data_follow}
use Rattle.machine_theorem.proofs.follows.data_follow_setups.Goals as goal

pub returns : goal.returns
returns c = data_follow (record {
  events = c.events_are_core_events.ensures;
  views = c.core_delivers.ensures.agrees;
  filled = c.core_delivers.ensures.reports;
  chosen = c.core_delivers.ensures.chosen;
})

use Rattle.machine_theorem.proofs.FilledCalls.{filled_singles_were_brought}
use Rattle.machine_theorem.proofs.single_reads.filled_single_reads_were_brought.Goals as goal

pub returns : goal.returns
returns c = filled_singles_were_brought (record {
  events = c.events_are_core_events.ensures;
  views = c.core_delivers.ensures.agrees;
  filled = c.core_delivers.ensures.reports;
  chosen = c.core_delivers.ensures.chosen;
})

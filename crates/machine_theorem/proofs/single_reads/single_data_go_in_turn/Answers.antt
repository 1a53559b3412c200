use Rattle.machine_theorem.proofs.Answered.{single_data_go}
use Rattle.machine_theorem.proofs.single_reads.single_data_go_in_turn.Goals as goal

pub returns : goal.returns
returns c = single_data_go (record {
  single = c.answers_are_single.ensures;
  awaited = c.singles_are_awaited.ensures.waits;
  outs = c.singles_are_awaited.ensures.outs;
})

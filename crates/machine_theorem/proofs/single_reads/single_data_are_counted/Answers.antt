use Rattle.machine_theorem.proofs.SingleNumbers.{single_data_are_counted}
use Rattle.machine_theorem.proofs.single_reads.single_data_are_counted.Goals as goal

pub returns : goal.returns
returns c = single_data_are_counted (record {
  answered = record {
    single = c.answers_are_single.ensures;
    awaited = c.singles_are_awaited.ensures.waits;
    outs = c.singles_are_awaited.ensures.outs;
  };
  under_way = c.open_is_under_way.ensures;
})

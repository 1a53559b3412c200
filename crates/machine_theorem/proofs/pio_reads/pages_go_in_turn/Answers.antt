use Rattle.machine_theorem.proofs.{Answered.pages_go, Transferring.no_page}
use Rattle.machine_theorem.proofs.pio_reads.pages_go_in_turn.Goals as goal

pub returns : goal.returns
returns c = record {
  turn = pages_go (record {
    single = c.answers_are_single.ensures;
    awaited = c.singles_are_awaited.ensures.waits;
    outs = c.singles_are_awaited.ensures.outs;
  });
  none = no_page c.open_is_under_way.ensures;
}

use Rattle.machine_theorem.proofs.Transferring.{end_so}
use Rattle.machine_theorem.proofs.transfers.transfers_are_answered.Goals as goal

pub returns : goal.returns
returns c = end_so (record {
  single = c.answers_are_single.ensures;
  under_way = c.open_is_under_way.ensures;
  asides = c.singles_are_awaited.ensures.asides;
})

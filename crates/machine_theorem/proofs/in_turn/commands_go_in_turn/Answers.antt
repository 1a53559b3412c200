use Rattle.machine_theorem.proofs.Answered.{go_in_turn}
use Rattle.machine_theorem.proofs.in_turn.commands_go_in_turn.Goals as goal

pub returns : goal.returns
returns c = go_in_turn (record {
  single = c.answers_are_single.ensures;
  awaited = c.singles_are_awaited.ensures.waits;
  outs = c.singles_are_awaited.ensures.outs;
})

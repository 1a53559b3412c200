use Rattle.machine_theorem.proofs.Flushing.{end_so}
use Rattle.machine_theorem.proofs.flushes.flushes_are_answered.Goals as goal

pub returns : goal.returns
returns c = end_so (record {
  single = c.answers_are_single.ensures;
  under_way = c.open_is_under_way.ensures;
  turn = c.commands_go_in_turn.ensures;
  pages = c.ends_are_of_pages.ensures.singles;
})

use Rattle.machine_theorem.proofs.DataBehind.{come_behind}
use Rattle.machine_theorem.proofs.single_writes.data_come_behind_commands.Goals as goal

pub returns : goal.returns
returns c = come_behind (record {
  outs = c.singles_are_awaited.ensures.outs;
  awaited = c.singles_are_awaited.ensures.waits;
  places = c.places_are_tags.ensures.pages;
})

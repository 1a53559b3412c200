use Rattle.machine_theorem.specs.Ending.{AllKeepEnding, AllUnqueued}
use Rattle.uses_machine_theorem.proofs.PioLemmas.{ending, last, sectors, settled, unqueued}
use Rattle.uses_machine_theorem.proofs.pio.knows_unqueued.Goals as goal

pub returns : goal.returns
returns c = record {
  settled = settled c.commands_are_settled_in_turn.ensures.turn c.args.machine.now;
  sectors = sectors c.commands_are_settled_in_turn.ensures.sectors c.args.machine.now;
  ending = ending c.commands_await_their_ends.ensures.counts c.args.machine.now;
  last = last c.commands_await_their_ends.ensures.last c.args.machine.now;
  unqueued = unqueued AllKeepEnding c.unqueued_commands_are_of_their_slots.ensures.slots c.args.machine.now;
  plain = unqueued AllUnqueued c.unqueued_commands_are_of_their_slots.ensures.plain c.args.machine.now;
}

use Rattle.machine_theorem.specs.Ending.{AllKeepEnding, AllUnqueued}
use Rattle.uses_machine_theorem.proofs.FlushLemmas.{flushed_writes, written_singles}
use Rattle.uses_machine_theorem.proofs.flushes.knows_flushed_writes.Goals as goal

pub returns : goal.returns
returns c = record {
  slots = flushed_writes AllKeepEnding c.completions_are_of_their_slots.ensures c.flushes_follow_writes.ensures.slots c.flushes_follow_writes.ensures.still c.args.machine.now;
  plain = flushed_writes AllUnqueued c.completions_are_of_their_slots.ensures c.flushes_follow_writes.ensures.plain c.flushes_follow_writes.ensures.still c.args.machine.now;
  singles = written_singles AllKeepEnding c.unqueued_commands_are_of_their_slots.ensures.slots c.args.machine.now;
  plain_singles = written_singles AllUnqueued c.unqueued_commands_are_of_their_slots.ensures.plain c.args.machine.now;
}

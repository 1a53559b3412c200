use Rattle.machine_theorem.specs.Ending.{AllKeepEnding, AllUnqueued}
use Rattle.uses_machine_theorem.proofs.SeenLemmas.{queued_back, seen_queued, seen_single}
use Rattle.uses_machine_theorem.proofs.seen.knows_what_is_seen.Goals as goal

pub returns : goal.returns
returns c = record {
  queued = seen_queued c.completions_are_of_their_slots.ensures c.args.machine.now;
  singles = seen_single AllKeepEnding c.unqueued_commands_are_of_their_slots.ensures.slots c.args.machine.now;
  plain_singles = seen_single AllUnqueued c.unqueued_commands_are_of_their_slots.ensures.plain c.args.machine.now;
  back = queued_back c.completions_are_of_their_slots.ensures c.reads_follow_writes_over_all.ensures.seen c.flushes_follow_writes.ensures.still c.args.machine.now;
}

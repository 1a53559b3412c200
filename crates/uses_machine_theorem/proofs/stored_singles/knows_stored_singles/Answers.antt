use Rattle.machine_theorem.specs.Ending.{AllKeepEnding, AllUnqueued}
use Rattle.uses_machine_theorem.proofs.StoredSingleLemmas.{counts, names, stored, whole, whole_unqueued, work}
use Rattle.uses_machine_theorem.proofs.stored_singles.knows_stored_singles.Goals as goal

pub returns : goal.returns
returns c = record {
  work = work c.issues_move_as_supplied.ensures c.args.machine.now;
  counts = counts c.commands_are_counted_alike.ensures c.args.machine.now;
  names = names c.writes_are_named.ensures c.args.machine.now;
  whole = whole c.queued_completions_are_whole.ensures c.args.machine.now;
  unqueued = whole_unqueued AllKeepEnding c.unqueued_completions_are_whole.ensures.slots c.args.machine.now;
  plain_unqueued = whole_unqueued AllUnqueued c.unqueued_completions_are_whole.ensures.plain c.args.machine.now;
  stored = stored c.completed_single_writes_are_stored.ensures c.args.machine.now;
}

use Rattle.machine_theorem.specs.Ending.{AllKeepEnding, AllUnqueued}
use Rattle.uses_machine_theorem.proofs.FlushLemmas.{answered, flushes}
use Rattle.uses_machine_theorem.proofs.flushes.knows_flushes.Goals as goal

pub returns : goal.returns
returns c = record {
  answered = answered c.flushes_are_answered.ensures c.args.machine.now;
  slots = flushes AllKeepEnding c.flushes_are_of_their_slots.ensures.slots c.args.machine.now;
  plain = flushes AllUnqueued c.flushes_are_of_their_slots.ensures.plain c.args.machine.now;
}

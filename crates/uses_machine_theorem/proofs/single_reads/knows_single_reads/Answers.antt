use Rattle.uses_machine_theorem.proofs.SingleReadLemmas.{brought, counts, filled, sent, since, turns, written}
use Rattle.uses_machine_theorem.proofs.single_reads.knows_single_reads.Goals as goal

pub returns : goal.returns
returns c = record {
  brought = brought c.completed_single_reads_are_brought.ensures.brought c.args.machine.now;
  since = since c.completed_single_reads_are_brought.ensures.since c.args.machine.now;
  written = written c.completed_single_reads_are_brought.ensures.written c.args.machine.now;
  filled = filled c.filled_single_reads_were_brought.ensures c.args.machine.now;
  sent = sent c.completed_single_reads_are_sent.ensures c.args.machine.now;
  turns = turns c.single_data_go_in_turn.ensures c.args.machine.now;
  counts = counts c.single_data_are_counted.ensures c.args.machine.now;
}

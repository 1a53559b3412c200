use Rattle.uses_machine_theorem.proofs.SlotLemmas.{brought, brought_since, bytes, data_are, ends, filled, given, queued, reads, following, read_back, written, ends_so, turns}
use Rattle.uses_machine_theorem.proofs.knows_commands.Goals as goal

pub returns : goal.returns
returns c = record {
  given = given c.commands_are_as_supplied.ensures.commands c.args.machine.now;
  sent = data_are c.commands_are_as_supplied.ensures.sent c.args.machine.now;
  ended = ends c.completions_are_of_their_slots.ensures c.args.machine.now;
  read = reads c.reads_are_as_supplied.ensures c.args.machine.now;
  brought = brought c.completed_reads_are_brought.ensures.brought c.args.machine.now;
  since = brought_since c.completed_reads_are_brought.ensures.since c.args.machine.now;
  written = written c.completed_reads_are_written.ensures c.args.machine.now;
  bytes = bytes c.completed_reads_are_brought.ensures.read c.args.machine.now;
  queued = queued c.queued_reads_are_brought.ensures c.args.machine.now;
  filled = filled c.filled_bytes_were_brought.ensures c.args.machine.now;
  back = read_back c.guests_read_back.ensures.back c.args.machine.now;
  follows = following c.completed_reads_follow_writes.ensures c.args.machine.now;
  turns = turns c.commands_go_in_turn.ensures c.args.machine.now;
  transfers = ends_so c.transfers_are_answered.ensures c.args.machine.now;
}

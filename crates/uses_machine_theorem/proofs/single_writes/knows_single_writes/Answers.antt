use Rattle.uses_machine_theorem.proofs.SingleFeedLemmas.{came, in_order, single_writes}
use Rattle.uses_machine_theorem.proofs.single_writes.knows_single_writes.Goals as goal

pub returns : goal.returns
returns c = record {
  order = in_order c.single_data_go_in_order.ensures c.args.machine.now;
  came = came c.data_come_behind_commands.ensures c.args.machine.now;
  writes = single_writes c.single_writes_are_as_supplied.ensures c.args.machine.now;
}

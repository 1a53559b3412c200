use Rattle.machine_theorem.proofs.SingleRun.{in_order}
use Rattle.machine_theorem.proofs.single_writes.single_data_go_in_order.Goals as goal

pub returns : goal.returns
returns c = in_order (record { events = c.events_are_core_events.ensures; views = c.core_delivers.ensures.agrees })

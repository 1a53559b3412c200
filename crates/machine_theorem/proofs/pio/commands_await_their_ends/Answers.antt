use Rattle.machine_theorem.proofs.{EndingWaits.{await_ends, last_waits}, UnqueuedWaits.unqueued_wait, Waiting.Laws}
use Rattle.machine_theorem.proofs.pio.commands_await_their_ends.Goals as goal

pub returns : goal.returns
returns c =
    let laws : Laws = record { events = c.events_are_core_events.ensures; views = c.core_delivers.ensures.agrees } in
    record { counts = await_ends; last = last_waits laws; plain = unqueued_wait laws }

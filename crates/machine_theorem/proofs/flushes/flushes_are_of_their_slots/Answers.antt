use Rattle.machine_theorem.specs.Ending.{AllKeepEnding, AllUnqueued}
use Rattle.machine_theorem.proofs.FlushesOwn.{Laws, flushes_are}
use Rattle.machine_theorem.proofs.flushes.flushes_are_of_their_slots.Goals as goal

pub returns : goal.returns
returns c =
    let laws : Laws = record {
      completed = c.completions_are_of_devices.ensures;
      disks = c.disks_go_on.ensures;
      flush = c.flushes_are_answered.ensures;
    } in
    record {
      slots = flushes_are laws AllKeepEnding c.unqueued_commands_are_of_their_slots.ensures.slots;
      plain = flushes_are laws AllUnqueued c.unqueued_commands_are_of_their_slots.ensures.plain;
    }

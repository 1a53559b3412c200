use Rattle.machine_theorem.specs.Ending.{AllKeepEnding, AllUnqueued}
use Rattle.machine_theorem.proofs.WholeSingles.{Laws, unqueued_whole}
use Rattle.machine_theorem.proofs.issued_work.unqueued_completions_are_whole.Goals as goal

pub returns : goal.returns
returns c =
    let laws : Laws = record { completed = c.completions_are_of_devices.ensures; moves = c.issues_move_as_supplied.ensures } in
    record {
      slots = unqueued_whole laws AllKeepEnding c.unqueued_commands_are_of_their_slots.ensures.slots;
      plain = unqueued_whole laws AllUnqueued c.unqueued_commands_are_of_their_slots.ensures.plain;
    }

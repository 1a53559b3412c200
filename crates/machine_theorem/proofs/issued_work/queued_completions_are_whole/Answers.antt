use Rattle.machine_theorem.proofs.WholeQueued.{Laws, whole_are}
use Rattle.machine_theorem.proofs.issued_work.queued_completions_are_whole.Goals as goal

pub returns : goal.returns
returns c =
    let laws : Laws = record { done = c.completions_are_of_their_slots.ensures; moves = c.issues_move_as_supplied.ensures } in
    whole_are laws

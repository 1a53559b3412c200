use Rattle.machine_theorem.proofs.StoredSingles.{Laws, stored_are}
use Rattle.machine_theorem.proofs.stored_singles.completed_single_writes_are_stored.Goals as goal

pub returns : goal.returns
returns c =
    let laws : Laws = record { singles = c.single_writes_are_as_supplied.ensures; moves = c.issues_move_as_supplied.ensures } in
    stored_are laws

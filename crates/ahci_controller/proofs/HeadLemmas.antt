-- The first of a list.
use Rattle.std.proofs.Common.{◌≡◌, List, [], ◌∷◌, Some, None, refl}
use Rattle.std.specs.Prelude.{slice_get}
use Rattle.guest_fetch.specs.declared.moves.Move.{Move}

pub head_none : (moves : List Move) → moves ≡ [] → slice_get moves 0 ≡ None
head_none moves is = rw is refl

pub head_some : (moves rest : List Move) (m : Move) → moves ≡ m ∷ rest → slice_get moves 0 ≡ Some m
head_some moves rest m is = rw is refl

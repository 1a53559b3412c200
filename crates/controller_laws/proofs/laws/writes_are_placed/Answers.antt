use Rattle.controller_laws.proofs.PlaceLemmas as lemma
use Rattle.controller_laws.proofs.laws.writes_are_placed.Goals as goal

pub returns : goal.returns
returns c = lemma.writes_are_placed

use Rattle.controller_laws.proofs.ActiveLemmas as lemma
use Rattle.controller_laws.proofs.laws.active_falls.Goals as goal

pub returns : goal.returns
returns c = lemma.active_bits_fall c.core_delivers.ensures.agrees

use Rattle.controller_laws.proofs.RoundLemmas as lemma
use Rattle.controller_laws.proofs.laws.commands_come_round.Goals as goal

pub returns : goal.returns
returns c = lemma.come_round c.turns_come_round.ensures.slots

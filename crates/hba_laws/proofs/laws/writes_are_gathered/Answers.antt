use Rattle.hba_laws.proofs.gathered.{GatherLemmas.data_is_gathered, SentLemmas.{sent_from_place, sent_stands_in_place}}
use Rattle.hba_laws.proofs.laws.writes_are_gathered.Goals as goal

pub returns-clause-gathered : goal.returns-clause-gathered
returns-clause-gathered c = data_is_gathered

pub returns-clause-sent : goal.returns-clause-sent
returns-clause-sent c = sent_from_place

pub returns-clause-standing : goal.returns-clause-standing
returns-clause-standing c = sent_stands_in_place

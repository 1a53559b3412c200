use Rattle.controller_laws.proofs.CallLemmas.{all_are}
use Rattle.controller_laws.proofs.laws.events_are_core_events.Goals as goal

pub returns : goal.returns
returns c = λ old new events run. all_are events old new run

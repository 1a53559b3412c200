use Rattle.disk_model.proofs.both_ends.{AnewLemmas.{ends_agree_anew, linked_since_new}, WrittenLemmas.writes_stay}
use Rattle.disk_model.proofs.laws.ends_tell_the_same_anew.Goals as goal

pub returns-clause-same : goal.returns-clause-same
returns-clause-same c = ends_agree_anew

pub returns-clause-new : goal.returns-clause-new
returns-clause-new c = linked_since_new

pub returns-clause-stays : goal.returns-clause-stays
returns-clause-stays c = writes_stay

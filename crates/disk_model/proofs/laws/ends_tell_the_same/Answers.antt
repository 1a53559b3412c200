use Rattle.disk_model.proofs.both_ends.EndsLemmas.{ends_agree}
use Rattle.disk_model.proofs.laws.ends_tell_the_same.Goals as goal

pub returns : goal.returns
returns c = ends_agree

use Rattle.disk_model.proofs.both_ends.AnewLemmas.{begins_anew, resting_is_silent, rests_until}
use Rattle.disk_model.proofs.laws.disks_begin_anew.Goals as goal

pub returns-clause-begins : goal.returns-clause-begins
returns-clause-begins c = begins_anew

pub returns-clause-rests : goal.returns-clause-rests
returns-clause-rests c = rests_until

pub returns-clause-silent : goal.returns-clause-silent
returns-clause-silent c = resting_is_silent

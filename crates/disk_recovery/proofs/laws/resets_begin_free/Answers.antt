use Rattle.disk_recovery.proofs.together.{TogetherBegins.spoilt_is_free, TogetherParts.calm_turns_go_on}
use Rattle.disk_recovery.proofs.laws.resets_begin_free.Goals as goal

pub returns-clause-turns : goal.returns-clause-turns
returns-clause-turns c = calm_turns_go_on

pub returns-clause-spoilt : goal.returns-clause-spoilt
returns-clause-spoilt c = spoilt_is_free

use Rattle.disk_recovery.proofs.together.TogetherTurns.{calm_turns_keep_on}
use Rattle.disk_recovery.proofs.laws.calm_turns_serve_on.Goals as goal

pub returns : goal.returns
returns c = calm_turns_keep_on

use Rattle.disk_recovery.proofs.together.TogetherPushes.{pushes_go_on_on}
use Rattle.disk_recovery.proofs.laws.pushes_serve_on.Goals as goal

pub returns : goal.returns
returns c = pushes_go_on_on

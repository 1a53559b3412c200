use Rattle.disk_model.proofs.sent.MovesLemmas.{moves_right}
use Rattle.disk_model.proofs.laws.setups_name_what_moves.Goals as goal

pub returns : goal.returns
returns c = moves_right

use Rattle.disk_simulation.proofs.events.SameLemmas.{data_fills}
use Rattle.disk_simulation.proofs.laws.data_fills_what_moves.Goals as goal

pub returns : goal.returns
returns c = data_fills

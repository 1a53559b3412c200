use Rattle.fan_out.proofs.ResetLemmas.{reset_ends}
use Rattle.fan_out.proofs.laws.a_reset_ends_the_connection.Goals as goal

pub returns : goal.returns
returns c = λ old new frame sent. reset_ends old frame sent new

use Rattle.fan_out.proofs.RenewLemmas.{begins_anew}
use Rattle.fan_out.proofs.laws.a_renewed_fan_is_empty.Goals as goal

pub returns : goal.returns
returns c = begins_anew

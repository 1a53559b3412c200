use Rattle.machine_laws.proofs.RisData.{data_sent, naming_sent, parts}
use Rattle.machine_laws.proofs.rising.data_rise_unchanged.Goals as goal

pub returns : goal.returns
returns c = record { sent = data_sent c.fans_pass_in_order.ensures; naming = naming_sent c.fans_pass_in_order.ensures; parts = parts }

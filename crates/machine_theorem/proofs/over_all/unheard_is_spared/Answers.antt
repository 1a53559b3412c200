use Rattle.machine_theorem.proofs.Unheard as unheard
use Rattle.machine_theorem.proofs.over_all.unheard_is_spared.Goals as goal

pub returns : goal.returns
returns c = unheard.unheard_is_spared c.undisturbed_is_spared.ensures

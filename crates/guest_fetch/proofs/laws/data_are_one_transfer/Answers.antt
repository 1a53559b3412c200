use Rattle.guest_fetch.proofs.MoveLemmas.{one_transfer}
use Rattle.guest_fetch.proofs.laws.data_are_one_transfer.Goals as goal

pub returns : goal.returns
returns c = one_transfer

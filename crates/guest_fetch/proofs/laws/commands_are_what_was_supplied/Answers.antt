use Rattle.guest_fetch.proofs.SupplyLemmas.{what_was_supplied}
use Rattle.guest_fetch.proofs.laws.commands_are_what_was_supplied.Goals as goal

pub returns : goal.returns
returns c = what_was_supplied

use Rattle.guest_fetch.proofs.RunLemmas.{of_its_parts}
use Rattle.guest_fetch.proofs.laws.commands_are_of_their_parts.Goals as goal

pub returns : goal.returns
returns c = of_its_parts

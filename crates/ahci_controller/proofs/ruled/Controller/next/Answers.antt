use Rattle.ahci_controller.proofs.rules.TurnLemmas.{next_rules}
use Rattle.ahci_controller.proofs.ruled.Controller.next.Goals as goal

pub invariant_of-self : goal.invariant_of-self
invariant_of-self c = next_rules c.self.inside.parts c.next-next.new.self c.next-next.result c.keeps_rules.ensures.slots c.self.invariant c.next-next.ensures

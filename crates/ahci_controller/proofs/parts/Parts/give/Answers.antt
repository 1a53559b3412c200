use Rattle.ahci_controller.proofs.TakeLemmas.{greeted_why, taken_why}
use Rattle.ahci_controller.proofs.parts.Parts.give.Goals as goal

pub returns-then-registers-clause-why : goal.returns-then-registers-clause-why
returns-then-registers-clause-why c =
    rw (← c.self.view_is) (taken_why _ _ c.args.frame.now.bytes _ _ c.take.ensures.ignored c.take.ensures.heard)

pub returns-else-registers-clause-why : goal.returns-else-registers-clause-why
returns-else-registers-clause-why c = rw (← c.self.view_is) (greeted_why _ _ c.args.frame.now.bytes _ _ _ c.greet.ensures)

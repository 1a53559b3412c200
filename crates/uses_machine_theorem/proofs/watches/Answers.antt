use Rattle.std.proofs.Common.{◌≡◌, true}
use Rattle.slots.specs.Slots.{has_bit}
use Rattle.ahci_registers.specs.declared.register.Register.TheVariants.{PxCi}
use Rattle.ahci_controller.specs.Reading.{shown}
use Rattle.machine_laws.specs.Deeds.{Moved}
use Rattle.uses_machine_theorem.proofs.{LedLemmas.ruled, StandLemmas.moved}
use Rattle.uses_machine_theorem.proofs.watches.Goals as goal

pub returns : goal.returns
returns c = λ h was.
    let up : has_bit (shown PxCi c.step.new.self.controller) c.args.slot ≡ true = cc (h, c.is_up.ensures) in
    moved c.args.slot c.args.machine.now c.step.new.self (Moved _)
    (ruled c.step.new.self c.keeps_rules.ensures.port c.keeps_rules.ensures.slots c.keeps_rules.ensures.rules) up c.in_ok-step.ensures.ok was

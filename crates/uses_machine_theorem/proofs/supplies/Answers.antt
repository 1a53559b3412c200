use Rattle.std.proofs.Common.{◌≡◌, true}
use Rattle.slots.specs.Slots.{has_bit}
use Rattle.ahci_registers.specs.declared.register.Register.TheVariants.{PxCi}
use Rattle.ahci_controller.specs.Reading.{shown}
use Rattle.uses_machine_theorem.proofs.{LedLemmas.ruled, StandLemmas.told_issued, supplies.Goals.{in-Issued, in_default}}
use Rattle.uses_machine_theorem.proofs.supplies.Goals as goal

pub returns-then-matches : goal.returns-then-matches
returns-then-matches c = λ h led.
    let up : has_bit (shown PxCi c.supply.new.self.controller) c.args.slot ≡ true = cc (h, c.is_up.ensures) in
    elim c.match-matches.branch [
      | in-Issued w ↦
          told_issued c.args.slot c.args.number c.args.bytes.now c.args.machine.now c.supply.new.self c.supply.result c.in_ok-told.told c.supply.ensures
          c.in_ok-told.was _ _ w.in-Issued.is
          (ruled c.supply.new.self c.keeps_rules.ensures.port c.keeps_rules.ensures.slots c.keeps_rules.ensures.rules) up led
      | in_default w ↦ absurd (cc (w.matches-is, c.if-matches.true))
    ]

use Rattle.std.proofs.Common.{false, refl, subst}
use Rattle.ahci_machine.specs.{Acts.Steps, States.MachineState, contracts.machine.Machine.the_view}
use Rattle.ahci_machine.specs.declared.act.Act.TheVariants as act
use Rattle.ahci_machine.proofs.MoveLemmas.{turns_first}
use Rattle.ahci_machine.proofs.machine.Machine.turn_likely.Goals as goal

pub returns : goal.returns
returns c = (
  refl,
  subst (λ (m : MachineState). Steps m (act.Turns c.turn_next.result) c.turn_next.new.self) c.self.view_is
      (turns_first (the_view c.self.inside) c.turn_next.new.self c.turn_next.result false c.turn_next.ensures),
)

use Rattle.ahci_machine.specs.Resting.{IsAtRest}
use Rattle.ahci_machine.proofs.MoveLemmas.{done_moves, no_rest, step_moves}
use Rattle.ahci_machine.proofs.machine.Machine.step.Goals as goal

pub returns-in-Some-clause-rests : goal.returns-in-Some-clause-rests
returns-in-Some-clause-rests c = no_rest (IsAtRest c.args.self.now) c.in-Some.act (done_moves _ _ _ c.in-Some.act c.urgent.ensures.does c.in-Some.is)

pub returns-in-Some-2-clause-rests : goal.returns-in-Some-2-clause-rests
returns-in-Some-2-clause-rests c =
    no_rest (IsAtRest c.args.self.now) c.in-Some-2.act (step_moves _ _ _ c.in-Some-2.act c.in_ok-act.ensures.ok c.in-Some-2.is)

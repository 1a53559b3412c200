use Rattle.std.proofs.Common.{◌≡◌, subst}
use Rattle.fan_out.specs.FanOuts.{port_count}
use Rattle.ahci_machine.specs.States.{MachineState}
use Rattle.ahci_machine.proofs.MoveLemmas.{quiet_both}
use Rattle.ahci_machine.proofs.machine.Machine.serve_next.Goals as goal

pub returns-clause-none : goal.returns-clause-none
returns-clause-none c =
    quiet_both c.args.self.now c.serve_any.new.self c.self.inside.turn c.ports-ports.result c.min.result c.in_ok-act.field-0 c.in_ok-act-2.field-0
    (subst (λ (m : MachineState). c.ports-ports.result ≡ port_count m.fan) c.self.view_is c.ports-ports.ensures.value)
    c.min.ensures c.in_default.is c.in_default-2.is c.in_ok-act.ensures.ok c.in_ok-act.ensures.none c.in_ok-act-2.ensures.none

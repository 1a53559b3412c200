use Rattle.std.proofs.Common.{ap}
use Rattle.ahci_controller.specs.declared.wants.Writes.{Writes}
use Rattle.uses_controller_laws.proofs.{CallLemmas.ruled, OpensLemmas.opens_so}
use Rattle.uses_controller_laws.proofs.opens.Goals as goal

pub returns-clause-opens : goal.returns-clause-opens
returns-clause-opens c =
    opens_so c.issues_fall.ensures.opens c.commands_are_supplied.ensures.starts c.line_is_told.ensures.opens c.new-controller.result c.new-controller.ensures
    (ruled c.new-controller.result c.keeps_rules.ensures.port c.keeps_rules.ensures.slots c.keeps_rules.ensures.rules)

pub returns-clause-said : goal.returns-clause-said
returns-clause-said c = ap (λ (w : Writes). w.payload) c.new-controller.ensures.writes

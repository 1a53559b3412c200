use Rattle.ahci_registers.proofs.LawLemmas.{serr_is_silent}
use Rattle.ahci_registers.proofs.lines.Lines.write_serr.Goals as goal

pub returns-clause-silent : goal.returns-clause-silent
returns-clause-silent c = serr_is_silent c.args.self.now c.args.value

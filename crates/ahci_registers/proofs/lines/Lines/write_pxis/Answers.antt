use Rattle.ahci_registers.proofs.LawLemmas.{pxis_is_silent}
use Rattle.ahci_registers.proofs.lines.Lines.write_pxis.Goals as goal

pub returns-clause-silent : goal.returns-clause-silent
returns-clause-silent c = pxis_is_silent c.args.self.now c.args.value

use Rattle.sata_disk_laws.proofs.Awaited.{asides_are_awaited, outs_are_under_way, singles_are_awaited}
use Rattle.sata_disk_laws.proofs.laws.singles_are_awaited.Goals as goal

pub returns : goal.returns
returns c = record { waits = singles_are_awaited; outs = outs_are_under_way; asides = asides_are_awaited }

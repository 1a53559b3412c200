use Rattle.sata_disk_media.proofs.Settled.{writes_are_settled}
use Rattle.sata_disk_media.proofs.laws.writes_are_settled.Goals as goal

pub returns : goal.returns
returns c = writes_are_settled c.requests_are_apart.ensures c.discards_are_alone.ensures c.writes_are_kept.ensures

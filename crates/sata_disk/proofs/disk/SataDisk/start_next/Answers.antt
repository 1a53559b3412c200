use Rattle.sata_disk.proofs.Kept.{starts_keep}
use Rattle.sata_disk.proofs.disk.SataDisk.start_next.Goals as goal

pub invariant_of-self : goal.invariant_of-self
invariant_of-self c = starts_keep (record { profile = c.self.inside.profile; front = c.self.inside.front; engine = c.self.inside.engine })
    c.start_next.result c.start_next.new.self c.self.invariant c.start_next.ensures.next c.start_next.ensures.ok c.start_next.ensures.err

use Rattle.sata_disk.proofs.Kept.{bytes_keep}
use Rattle.sata_disk.proofs.disk.SataDisk.data.Goals as goal

pub invariant_of-self-in-None : goal.invariant_of-self-in-None
invariant_of-self-in-None c = bytes_keep (record { profile = c.self.inside.profile; front = c.self.inside.front; engine = c.self.inside.engine })
    c.bytes_came.result c.bytes_came.new.engine c.args.bytes.now c.self.invariant c.bytes_came.ensures.ok c.bytes_came.ensures.err

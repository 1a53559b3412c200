use Rattle.sata_disk.proofs.Sent.{ends_keep}
use Rattle.sata_disk.proofs.disk.SataDisk.sent.Goals as goal

pub invariant_of-self-in-Ends : goal.invariant_of-self-in-Ends
invariant_of-self-in-Ends c = ends_keep (record { profile = c.self-in-Ends.inside.profile; front = c.self-in-Ends.inside.front; engine = c.self-in-Ends.inside.engine })
    c.send_ends.new.self c.self-in-Ends.invariant c.send_ends.ensures

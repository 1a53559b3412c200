use Rattle.sata_disk.proofs.Kept.{answers_keep}
use Rattle.sata_disk.proofs.disk.SataDisk.answer.Goals as goal

pub invariant_of-self : goal.invariant_of-self
invariant_of-self c = answers_keep (record { profile = c.self.inside.profile; front = c.self.inside.front; engine = c.self.inside.engine })
    c.args.number c.args.answer c.answer.result c.answer.new.self c.self.invariant c.answer.ensures.ok c.answer.ensures.err

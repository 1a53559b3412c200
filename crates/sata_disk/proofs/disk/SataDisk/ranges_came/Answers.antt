use Rattle.std.proofs.Common.{rules, ◌≡◌, Some, sym, subst}
use Rattle.ata_front.specs.Fronts.{heard_data}
use Rattle.sata_disk.specs.State.{DiskState}
use Rattle.sata_disk.proofs.Kept.{ranges_keep}
use Rattle.sata_disk.proofs.disk.SataDisk.ranges_came.Goals as goal

pub invariant_of-self : goal.invariant_of-self
invariant_of-self c =
    let P : DiskState → Type 0 = λ x. heard_data x.front.task ≡ Some c.args.blocks in
    ranges_keep (record { profile = c.self.inside.profile; front = c.self.inside.front; engine = c.self.inside.engine }) c.discards-self-inside.result
    c.take_discard.new.self c.args.blocks c.args.bytes.now c.in-Some.ranges.items c.self.invariant (subst P (sym c.self.view_is) c.requires)
    (search rules) (search rules) c.take_discard.ensures

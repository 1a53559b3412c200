use Rattle.std.proofs.Common.{◌≡◌, ◌*◌, length, rules, subst}
use Rattle.disk_model.specs.Disks.{DiskValue}
use Rattle.disk_model.proofs.turns.RestLemmas.{rests_loaded}
use Rattle.disk_model.proofs.disk.Disk.is_at_rest.Goals as goal

pub returns-in-Idle-clause-anew : goal.returns-in-Idle-clause-anew
returns-in-Idle-clause-anew c =
    let long = subst (λ (d : DiskValue). length d.now.medium ≡ 512 * d.sectors) c.self.view_is c.self.invariant.medium in
    rests_loaded c.args.self.now _ (search rules) long

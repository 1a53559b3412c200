use Rattle.std.proofs.Common.{ℕ, List, length, ◌+◌, ◌*◌, ◌<◌, ◌≤◌, ap, subst, refl, arith, ◌∙◌}
use Rattle.disk_model.specs.{Chunks.sectors_at, Disks.DiskValue}
use Rattle.disk_model.proofs.{turns.SendLemmas.slice_of_sectors, agreement.TransferLemmas.{length-sectors_at}}
use Rattle.disk_model.proofs.disk.Disk.sector.Goals as goal

pub returns : goal.returns
returns c =
    let is = c.self.view_is in
    let lba = c.args.lba in
    let medium = c.deref.ensures.value ∙ ap (λ (x : DiskValue). x.now.medium) is in
    let slice = slice_of_sectors c.deref.result.now (lba * 512) (lba * 512 + 512) lba 1 refl (omega arith) in
    let below : lba < c.self.inside.sectors = c.if-self-lba.false in
    let room : 512 * (lba + 1) ≤ length c.deref.result.now = omega (arith, below, c.self.invariant.medium, ap length c.deref.ensures.value) in (
      subst (λ n. lba < n) (ap (λ (x : DiskValue). x.sectors) is) c.if-self-lba.false,
      slice ∙ ap (λ (xs : List ℕ). sectors_at xs lba 1) medium,
      ap length slice ∙ length-sectors_at c.deref.result.now lba 1 room,
    )

use Rattle.std.proofs.Common.{◌≡◌, ◌∙◌, Some, ap, sym}
use Rattle.disk_model.specs.{declared.disk.Transfer.TheVariants.Read, Disks.DiskValue, Insides.{seen_as, sends_of, started_by}, Quiet.due_by}
use Rattle.disk_model.proofs.turns.QuietLemmas.{turn_read}
use Rattle.disk_model.proofs.disk.Disk.due_transfer.Goals as goal

pub returns : goal.returns
returns c =
    let v = c.args.self.now in
    let d = c.self.inside in
    let is : seen_as d ≡ v = c.self.view_is in
    let r = c.in-Read.reading in
    let runs : v.now.started ≡ Some (record { command = r.command; sends = sends_of d.plan d.medium.items r r.set_up }) = ap (λ (x : DiskValue). x.now.started) (sym is) ∙ ap (started_by d.plan d.medium.items) c.in-Read.is in
    sym (ap (due_by v.now) (turn_read v.plan v.sectors v.now r.command _ c.requires runs) ∙ c.due_reading.ensures d.plan d.medium.items v.now)

use Rattle.std.proofs.Common.{◌≡◌, ◌∙◌, None, ap, sym}
use Rattle.disk_model.specs.{Chunks.{chunks, fault_of, sends_left}, Disks.{DiskValue, read_turn, starts}, Insides.seen_as, Quiet.due_by}
use Rattle.disk_model.proofs.turns.QuietLemmas.{turn_start}
use Rattle.disk_model.proofs.disk.Disk.due_start.Goals as goal

pub returns-in-None-2 : goal.returns-in-None-2
returns-in-None-2 c =
    let v = c.args.self.now in
    let d = c.self.inside in
    let is : seen_as d ≡ v = c.self.view_is in
    let was = sym is in
    let command = c.in-Some.command in
    let good : fault_of v.plan v.sectors command ≡ None = ap (λ (x : DiskValue). fault_of x.plan x.sectors command) was ∙ sym c.in-None.ensures in
    let all : sends_left v.plan v.now.medium command (chunks v.plan command) ≡ sends_left d.plan d.medium.items command c.chunks_of.result = ap (λ (x : DiskValue). sends_left x.plan x.now.medium command (chunks x.plan command)) was ∙ ap (λ n. sends_left d.plan d.medium.items command n) (sym c.chunks_of.ensures.chunks) in
    let turns = turn_start v.plan v.sectors v.now command c.requires.owed c.requires.started c.requires.writing (sym c.in-Some.ensures) good ∙ ap (starts v.plan v.now command) c.if-command.false ∙ ap (read_turn v.now command) all in
    sym (ap (due_by v.now) turns ∙ c.due_reading.ensures d.plan d.medium.items v.now)

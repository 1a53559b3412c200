use Rattle.std.proofs.Common.{◌≡◌, ◌∙◌, None, ap, sym, refl, false}
use Rattle.disk_model.specs.{Chunks.{chunks, sends_left, fault_of}, Disks.{DiskValue, after_turn, read_turn, starts, turn, went}, Insides.seen_as}
use Rattle.disk_model.specs.{Insides.{sends_after, started_by}, declared.disk.{Reading.Reading, Transfer.TheVariants.Read}}
use Rattle.disk_model.proofs.turns.{QuietLemmas.{turn_start, read_leaves, same_disk}, TurnLemmas.{went_on, same_moment}}
use Rattle.disk_model.proofs.disk.Disk.drop_start.Goals as goal

pub returns-in-None-2 : goal.returns-in-None-2
returns-in-None-2 c =
    let v = c.args.self.now in
    let d = c.self.inside in
    let is : seen_as d ≡ v = c.self.view_is in
    let was = sym is in
    let command = c.in-Some.command in
    let r : Reading = record { command = command; left = c.chunks_of.result; set_up = false } in
    let later = sends_after d.plan d.medium.items r false in
    let good : fault_of v.plan v.sectors command ≡ None = ap (λ (x : DiskValue). fault_of x.plan x.sectors command) was ∙ sym c.in-None.ensures in
    let all : sends_left v.plan v.now.medium command (chunks v.plan command) ≡ sends_left d.plan d.medium.items command c.chunks_of.result = ap (λ (x : DiskValue). sends_left x.plan x.now.medium command (chunks x.plan command)) was ∙ ap (λ n. sends_left d.plan d.medium.items command n) (sym c.chunks_of.ensures.chunks) in
    let turns = turn_start v.plan v.sectors v.now command c.requires.owed c.requires.started c.requires.writing (sym c.in-Some.ensures) good ∙ ap (starts v.plan v.now command) c.if-command.false ∙ ap (read_turn v.now command) all in
    let leaves : after_turn v.now (turn v.plan v.sectors v.now) ≡ went v.now command later = ap (after_turn v.now) turns ∙ read_leaves d.plan v.now d.medium.items r false c.chunks_of.ensures.some in
    let next = ap (λ (x : DiskValue). went x.now command later) was ∙ went_on d.plan (seen_as d).now r false refl c.chunks_of.ensures.some (λ e. cc) ∙ ap (λ (x : Reading). record (seen_as d).now { started = started_by d.plan d.medium.items (Read x) }) (sym c.moved_on.ensures) in
    let left = leaves ∙ next ∙ same_moment _ _ refl refl refl refl refl refl (ap (λ (x : DiskValue). x.now.writing) is ∙ c.requires.writing) in
    same_disk (seen_as d) v _ is (sym left)

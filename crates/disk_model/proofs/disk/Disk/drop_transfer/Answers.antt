use Rattle.std.proofs.Common.{◌≡◌, ◌∙◌, ◌<◌, [], Some, ap, sym, refl, true, arith}
use Rattle.disk_model.specs.{declared.disk.{Reading.Reading, Transfer.TheVariants.Read}, Disks.{DiskValue, after_turn, turn, went}, Insides.seen_as}
use Rattle.disk_model.specs.Insides.{sends_of, sends_after, started_by, writing_by, IsTransfer}
use Rattle.disk_model.proofs.turns.{QuietLemmas.{turn_read, read_leaves, same_disk}, TurnLemmas.{went_on, went_last, same_moment}}
use Rattle.disk_model.proofs.disk.Disk.drop_transfer.Goals.{else-reading-via-then-reading+else-reading-eq1, else-reading-via-else-reading}
use Rattle.disk_model.proofs.disk.Disk.drop_transfer.Goals as goal

pub returns-then-reading-eq1 : goal.returns-then-reading-eq1
returns-then-reading-eq1 c =
    let v = c.args.self.now in
    let d = c.self.inside in
    let is : seen_as d ≡ v = c.self.view_is in
    let was = sym is in
    let r = c.in-Read.reading in
    let later = sends_after d.plan d.medium.items r r.set_up in
    let within : IsTransfer d.plan d.sectors (Read r) = rw c.in-Read.is at c.self.invariant.transfer in
    let runs : v.now.started ≡ Some (record { command = r.command; sends = sends_of d.plan d.medium.items r r.set_up }) = ap (λ (x : DiskValue). x.now.started) was ∙ ap (started_by d.plan d.medium.items) c.in-Read.is in
    let leaves : after_turn v.now (turn v.plan v.sectors v.now) ≡ went v.now r.command later = ap (after_turn v.now) (turn_read v.plan v.sectors v.now r.command _ c.requires.owed runs) ∙ read_leaves d.plan v.now d.medium.items r r.set_up within.0 in
    let last = ap (λ (x : DiskValue). went x.now r.command later) was ∙ went_last d.plan (seen_as d).now r r.set_up c.if-reading.true c.if-reading-eq1.true in
    let before : d.answers.items ≡ [] = ap (λ (x : DiskValue). x.now.owed) is ∙ c.requires.owed in
    let owed = sym (rw before at c.push_back_reserved.ensures.items) in
    let left = leaves ∙ last ∙ same_moment _ _ refl (sym c.remove_tag.ensures.items) refl refl owed refl refl in
    same_disk (seen_as d) v _ is (sym left)

pub returns-else-reading : goal.returns-else-reading
returns-else-reading c =
    let v = c.args.self.now in
    let d = c.self.inside in
    let is : seen_as d ≡ v = c.self.view_is in
    let was = sym is in
    let r = c.in-Read.reading in
    let later = sends_after d.plan d.medium.items r r.set_up in
    let within : IsTransfer d.plan d.sectors (Read r) = rw c.in-Read.is at c.self.invariant.transfer in
    let some : 0 < r.left = within.0 in
    let runs : v.now.started ≡ Some (record { command = r.command; sends = sends_of d.plan d.medium.items r r.set_up }) = ap (λ (x : DiskValue). x.now.started) was ∙ ap (started_by d.plan d.medium.items) c.in-Read.is in
    let leaves : after_turn v.now (turn v.plan v.sectors v.now) ≡ went v.now r.command later = ap (after_turn v.now) (turn_read v.plan v.sectors v.now r.command _ c.requires.owed runs) ∙ read_leaves d.plan v.now d.medium.items r r.set_up some in
    let more : r.set_up ≡ true → 1 < r.left = λ up. elim c.else-reading.branch [ else-reading-via-then-reading+else-reading-eq1 w ↦ omega (arith, some, w.if-reading-eq1.false) | else-reading-via-else-reading w ↦ cc (up, w.if-reading.false) ] in
    let next = ap (λ (x : DiskValue). went x.now r.command later) was ∙ went_on d.plan (seen_as d).now r r.set_up refl some more ∙ ap (λ (x : Reading). record (seen_as d).now { started = started_by d.plan d.medium.items (Read x) }) (sym c.moved_on.ensures) in
    let same = ap (writing_by d.plan d.staged.items) c.in-Read.is in
    let left = leaves ∙ next ∙ same_moment _ _ refl refl refl refl refl refl same in
    same_disk (seen_as d) v _ is (sym left)

use Rattle.std.proofs.Common.{◌≡◌, ◌∙◌, ◌+◌, ◌<◌, length, drop, Some, ap, sym, refl, arith}
use Rattle.disk_model.specs.{Chunks.{activations, asks_for}, declared.disk.{Transfer.TheVariants.Write, Waiting.Waiting}, Disks.DiskValue}
use Rattle.disk_model.specs.Insides.{seen_as, started_by, writing_by}
use Rattle.disk_model.proofs.turns.{QuietLemmas.{ask_leaves, same_disk_here}, TurnLemmas.same_moment}
use Rattle.disk_model.proofs.disk.Disk.drop_waiting.Goals as goal

pub returns-then-waiting-asks : goal.returns-then-waiting-asks
returns-then-waiting-asks c =
    let v = c.args.self.now in
    let d = c.self.inside in
    let is : seen_as d ≡ v = c.self.view_is in
    let was = sym is in
    let w = c.in-Write.waiting in
    let writes : (seen_as d).now.writing ≡ Some (record { command = w.command; sends = drop w.gone (asks_for d.plan w.command w.left); left = w.left; staged = d.staged.items }) = ap (writing_by d.plan d.staged.items) c.in-Write.is in
    let owed = ap (λ (x : DiskValue). x.now.owed) is ∙ c.requires.owed in
    let started = ap (λ (x : DiskValue). x.now.started) is ∙ c.requires.started in
    let more : w.gone < 1 + length (activations d.plan.auto) = omega (arith, c.if-waiting-asks.true, c.asks.ensures.value) in
    let leaves = ask_leaves d.plan d.sectors (seen_as d).now w.command w.left w.gone d.staged.items owed started writes more in
    let next = ap (λ (x : Waiting). record (seen_as d).now { writing = writing_by d.plan d.staged.items (Write x) }) (sym c.asked.ensures) in
    let left = leaves ∙ next ∙ same_moment _ _ refl refl refl refl refl (ap (started_by d.plan d.medium.items) c.in-Write.is) refl in
    same_disk_here (seen_as d) v _ is (sym left)

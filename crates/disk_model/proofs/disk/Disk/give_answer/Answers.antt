use Rattle.std.proofs.Common.{◌≡◌, ◌∷◌, ◌∙◌, ap, sym, subst, drop, rules}
use Rattle.disk_model.specs.{Sendings.{Shows, answer_sent}, Disks.DiskValue, Insides.seen_as}
use Rattle.disk_model.proofs.turns.TurnLemmas.{takes_answer, front_is, same_moment}
use Rattle.disk_model.proofs.disk.Disk.give_answer.Goals as goal

pub returns-in_ok-frame-in-Some-clause-gives : goal.returns-in_ok-frame-in-Some-clause-gives
returns-in_ok-frame-in-Some-clause-gives c =
    let d = c.self.inside in
    let v = c.args.self.now in
    let is : seen_as d ≡ v = c.self.view_is in
    let a = c.in-Some.answer.now in
    let front : d.answers.items ≡ a ∷ drop 1 d.answers.items = front_is _ a (search rules) c.in-Some.ensures.lookup in
    let was = sym is in
    let f = c.in_ok-frame-in-Some in
    let owed = ap (λ (x : DiskValue). x.now.owed) was ∙ front in
    let shows = subst (λ (x : DiskValue). Shows (answer_sent x.sectors x.plan a) f.frame.bytes) is f.ensures.shows in
    let left = same_moment _ _ (ap (λ (x : DiskValue). x.now.medium) is) (ap (λ (x : DiskValue). x.now.queued) is) (ap (λ (x : DiskValue). x.now.fault) is) (ap (λ (x : DiskValue). x.now.resetting) is) c.pop_front.ensures.rest (ap (λ (x : DiskValue). x.now.started) is) (ap (λ (x : DiskValue). x.now.writing) is) in
    (takes_answer v.plan v.sectors v.now _ a (drop 1 d.answers.items) f.frame.bytes owed shows left, ap (λ (x : DiskValue). x.plan) is, ap (λ (x : DiskValue). x.sectors) is)

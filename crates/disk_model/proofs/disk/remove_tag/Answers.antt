use Rattle.std.proofs.{Common.{◌≡◌, filter, not, ◌==◌, rules}, lemmas.{Fn.filter_same, List.Elements.{All-filter}}}
use Rattle.disk_model.specs.{declared.request.Command.Command, Requests.IsCounted}
use Rattle.disk_model.proofs.disk.remove_tag.Goals as goal

pub returns-clause-items : goal.returns-clause-items
returns-clause-items c = filter_same _ _ _ (λ x b f' k. search rules) _ _ c.retain.ensures.filtered

pub returns-clause-counts : goal.returns-clause-counts
returns-clause-counts c = λ old.
    let kept : c.retain.new.self.items ≡ filter (λ q. not (q.tag == c.args.tag)) c.args.queue.now.items = filter_same _ _ _ (λ x b f' k. search rules) _ _ c.retain.ensures.filtered in
    rw kept (All-filter (λ q. not (q.tag == c.args.tag)) (λ (q : Command). IsCounted q) c.args.queue.now.items old)

use Rattle.std.proofs.{Common.{◌≡◌, filter, arith, rules, ap}, lemmas.{Fn.filter_same, List.Elements.filter_passes}}
use Rattle.fis_view.specs.Frames.{is_frame}
use Rattle.disk_model.specs.Histories.{Script}
use Rattle.disk_model.proofs.scripted.Scripted.new.Goals as goal

pub invariant_of-result : goal.invariant_of-result
invariant_of-result c =
    let kept : c.retain.new.self.items ≡ filter is_frame c.args.frames.items = filter_same _ _ _ (λ x b f' k. search rules) _ _ c.retain.ensures.filtered in
    (omega arith, rw kept (filter_passes is_frame c.args.frames.items))

pub returns-clause-plan : goal.returns-clause-plan
returns-clause-plan c = ap Script (filter_same _ _ _ (λ x b f' k. search rules) _ _ c.retain.ensures.filtered)

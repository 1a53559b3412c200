use Rattle.std.proofs.Common.{◌∙◌}
use Rattle.uses_controller_laws.proofs.CallLemmas.{line_kept, ruled}
use Rattle.uses_controller_laws.proofs.keeps_line.Goals as goal

pub returns : goal.returns
returns c =
    c.follow.ensures
    ∙ line_kept c.laws.ensures c.args.controller.now c.write32-told.new.self c.args.offset c.args.value c.write32-told.result
    (ruled c.args.controller.now c.keeps_rules.ensures.port c.keeps_rules.ensures.slots c.keeps_rules.ensures.rules)
    (ruled c.write32-told.new.self c.keeps_rules-2.ensures.port c.keeps_rules-2.ensures.slots c.keeps_rules-2.ensures.rules) c.write32-told.ensures c.args.line c.requires

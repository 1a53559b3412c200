use Rattle.std.proofs.Common.{List, ℕ, subst}
use Rattle.fis_view.specs.Frames.{IsFrame}
use Rattle.uses_controller_laws.proofs.CallLemmas.{ruled, takes_call, takes_own, takes_whole}
use Rattle.uses_controller_laws.proofs.takes.Goals as goal

pub returns-clause-call : goal.returns-clause-call
returns-clause-call c =
    let framed : IsFrame c.args.frame.now.bytes = subst (λ (l : List ℕ). IsFrame l) c.bytes.ensures.bytes c.bytes.ensures.is_frame in
    takes_call c.laws.ensures c.args.controller.now c.take-took.new.self c.args.frame.now.bytes
    (ruled c.args.controller.now c.keeps_rules.ensures.port c.keeps_rules.ensures.slots c.keeps_rules.ensures.rules)
    (ruled c.take-took.new.self c.keeps_rules-2.ensures.port c.keeps_rules-2.ensures.slots c.keeps_rules-2.ensures.rules) framed c.take-took.result c.take-took.ensures.hindrance c.take-took.ensures.taken

pub returns-clause-own : goal.returns-clause-own
returns-clause-own c =
    let framed : IsFrame c.args.frame.now.bytes = subst (λ (l : List ℕ). IsFrame l) c.bytes.ensures.bytes c.bytes.ensures.is_frame in
    takes_own c.laws.ensures c.args.controller.now c.take-took.new.self c.args.frame.now.bytes
    (ruled c.args.controller.now c.keeps_rules.ensures.port c.keeps_rules.ensures.slots c.keeps_rules.ensures.rules)
    (ruled c.take-took.new.self c.keeps_rules-2.ensures.port c.keeps_rules-2.ensures.slots c.keeps_rules-2.ensures.rules) framed c.take-took.result c.take-took.ensures.hindrance c.take-took.ensures.taken

pub returns-clause-whole : goal.returns-clause-whole
returns-clause-whole c =
    let framed : IsFrame c.args.frame.now.bytes = subst (λ (l : List ℕ). IsFrame l) c.bytes.ensures.bytes c.bytes.ensures.is_frame in
    takes_whole c.laws.ensures c.args.controller.now c.take-took.new.self c.args.frame.now.bytes
    (ruled c.args.controller.now c.keeps_rules.ensures.port c.keeps_rules.ensures.slots c.keeps_rules.ensures.rules)
    (ruled c.take-took.new.self c.keeps_rules-2.ensures.port c.keeps_rules-2.ensures.slots c.keeps_rules-2.ensures.rules) framed c.take-took.result c.take-took.ensures.hindrance

use Rattle.std.proofs.Common.{◌≡◌, false, Option, Some, take, ap, sym, ◌∙◌}
use Rattle.hba_driver.specs.{Spans.holds_some, Drivers.entry_of, Requests.is_used_by, declared.slot.Head.Head}
use Rattle.hba_driver.proofs.calls.SpanLemmas.{none_among}
use Rattle.hba_driver.proofs.slot.Slot.is_used.Goals as goal

pub returns-else-may_hold : goal.returns-else-may_hold
returns-else-may_hold c =
    let prds = take c.self.inside.count c.self.inside.prds in
    let out : holds_some c.self.inside.span c.args.at c.args.len ≡ false = sym c.may_hold.ensures ∙ c.if-may_hold.false in
    let none = none_among c.self.inside.span c.args.at c.args.len prds out c.self.invariant.1 in
    let entry : entry_of (Some c.in-Some.field-0) prds ≡ c.args.self.now = ap (λ (h : Option Head). entry_of h prds) (sym c.in-Some.is) ∙ c.self.view_is in
    c.if-may_hold.false ∙ (sym none ∙ ap (is_used_by c.args.at c.args.len) entry)

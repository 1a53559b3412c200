use Rattle.std.proofs.Common.{◌≡◌, Some, sym, ap, subst, ◌∙◌}
use Rattle.std.specs.Option.{option_map}
use Rattle.slots.specs.{Issued.issued_of, Slots.{Slots, issue_at}}
use Rattle.slots.proofs.CallLemmas.{may_go_is}
use Rattle.slots.proofs.table.SlotTable.is_next.Goals as goal

pub returns-in-Some : goal.returns-in-Some
returns-in-Some c =
    let inside : Slots = record { issues = c.self.inside.slots; contexts = c.self.inside.contexts } in
    let s = c.args.slot in
    let is : option_map issued_of (issue_at inside s) ≡ Some c.in-Some.issued = ap (option_map issued_of) (sym c.at.ensures) ∙ sym c.issued.ensures ∙ c.in-Some.is in
    c.may_go.ensures ∙ may_go_is c.args.ready c.args.faulty c.args.self.now (issue_at c.args.self.now s) c.in-Some.issued
    (subst (λ (u : Slots). option_map issued_of (issue_at u s) ≡ Some c.in-Some.issued) c.self.view_is is)

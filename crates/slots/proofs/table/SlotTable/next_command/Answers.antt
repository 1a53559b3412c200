use Rattle.std.proofs.Common.{sym, ap, ◌∙◌}
use Rattle.slots.specs.{Commands.{may_go, slots_where}, Slots.{holds, is_unsent, issue_at}}
use Rattle.slots.proofs.{CallLemmas.may_be_sent, ListLemmas.{unsent_only, walk_ends, walk_found, walk_on}}
use Rattle.slots.proofs.table.SlotTable.next_command.Goals as goal

pub walk-init : goal.walk-init
walk-init c = unsent_only c.args.ready c.args.faulty _ c.args.self.now (c.unsent-rest.ensures ∙ ap (slots_where is_unsent) c.self.view_is)

pub returns-then-is_next-clause-value : goal.returns-then-is_next-clause-value
returns-then-is_next-clause-value c =
    sym (walk_found (λ k. holds (may_go c.args.ready c.args.faulty c.args.self.now) (issue_at c.args.self.now k)) c.walk.rest c.in-Some.slot c.walk.invariant c.in-Some.ensures (sym c.if-is_next.ensures))

pub returns-then-is_next-clause-may_be_sent : goal.returns-then-is_next-clause-may_be_sent
returns-then-is_next-clause-may_be_sent c = (c.in-Some.ensures.0, may_be_sent c.args.ready c.args.faulty c.in-Some.slot c.args.self.now (sym c.if-is_next.ensures))

pub walk-preserved : goal.walk-preserved
walk-preserved c = walk_on (λ k. holds (may_go c.args.ready c.args.faulty c.args.self.now) (issue_at c.args.self.now k)) c.walk.rest _ c.in-Some.slot c.walk.invariant c.without-rest.ensures.bits (sym c.if-is_next.ensures)

pub returns-clause-value : goal.returns-clause-value
returns-clause-value c = sym (walk_ends (λ k. holds (may_go c.args.ready c.args.faulty c.args.self.now) (issue_at c.args.self.now k)) c.walk.rest c.walk.invariant c.in_default.ensures)

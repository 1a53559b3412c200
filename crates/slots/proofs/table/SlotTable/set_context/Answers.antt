use Rattle.std.proofs.Common.{◌<◌, Some, length, arith, sym, subst}
use Rattle.slots.specs.{Slots.Slots, Table.IsContext}
use Rattle.slots.proofs.TableLemmas.{own_with_context, others_with_context, table_with_context}
use Rattle.slots.proofs.table.SlotTable.set_context.Goals as goal

pub invariant_of-self : goal.invariant_of-self
invariant_of-self c =
    let t : Slots = record { issues = c.self.inside.slots; contexts = c.self.inside.contexts } in
    let inside : IsContext c.args.dev t c.args.context = subst (λ (u : Slots). IsContext c.args.dev u c.args.context) (sym c.self.view_is) c.requires.inside in
    table_with_context t c.args.dev (Some c.args.context) c.self.invariant c.requires.dev inside

pub returns-clause-own : goal.returns-clause-own
returns-clause-own c =
    let t : Slots = record { issues = c.self.inside.slots; contexts = c.self.inside.contexts } in
    let below : c.args.dev < length t.contexts = omega (arith, c.self.invariant.devices, c.requires.dev) in
    rw (← c.self.view_is) (own_with_context c.args.dev t (Some c.args.context) below)

pub returns-clause-others : goal.returns-clause-others
returns-clause-others c =
    let t : Slots = record { issues = c.self.inside.slots; contexts = c.self.inside.contexts } in
    rw (← c.self.view_is) (others_with_context c.args.dev t (Some c.args.context))

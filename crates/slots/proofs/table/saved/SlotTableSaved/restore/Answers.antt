use Rattle.std.proofs.Common.{◌≡◌, List, Option, ap, subst, sym, ◌∙◌}
use Rattle.slots.specs.{Saved.{KeepsTableParts, put_table, put_table_parts, table_keeps, table_parts, table_parts_apart}, Slots.Issue, Table.IsTable}
use Rattle.slots.specs.Tested.{is_table}
use Rattle.saved_state.specs.State.{parts_refused, rule_refused}
use Rattle.slots.proofs.TestedLemmas.{is_then_table, table_is}
use Rattle.slots.proofs.table.saved.SlotTableSaved.restore.Goals as goal

pub returns-in-Err : goal.returns-in-Err
returns-in-Err c = parts_refused put_table_parts KeepsTableParts IsTable table_parts table_keeps c.args.words.now c.restore.new.words c.in-Err.error c.in-Err.ensures

pub returns-then-not-is_table : goal.returns-then-not-is_table
returns-then-not-is_table c = rule_refused put_table_parts KeepsTableParts IsTable table_parts (λ p. is_table p.0 p.1) table_parts_apart table_keeps is_then_table
    c.args.words.now c.restore.new.words c.in-Ok.parts c.in-Ok.ensures (ap (λ (x : List (Option Issue)). is_table x c.in-Ok.parts.1) (sym c.of-slots.ensures) ∙ sym c.if-not-is_table.ensures)

pub invariant_of-result : goal.invariant_of-result
invariant_of-result c = subst (λ (x : List (Option Issue)). IsTable (record { issues = x; contexts = c.in-Ok.parts.1 })) (sym c.of-slots.ensures)
    (table_is c.in-Ok.parts.0 c.in-Ok.parts.1 c.in-Ok.ensures.1 (ap (λ (x : List (Option Issue)). is_table x c.in-Ok.parts.1) (sym c.of-slots.ensures) ∙ sym c.if-not-is_table.ensures))

pub returns : goal.returns
returns c = subst (λ (x : List (Option Issue)). (c.args.words.now ≡ put_table (record { issues = x; contexts = c.in-Ok.parts.1 }) c.restore.new.words) × IsTable (record { issues = x; contexts = c.in-Ok.parts.1 })) (sym c.of-slots.ensures)
    (c.in-Ok.ensures.0, table_is c.in-Ok.parts.0 c.in-Ok.parts.1 c.in-Ok.ensures.1 (ap (λ (x : List (Option Issue)). is_table x c.in-Ok.parts.1) (sym c.of-slots.ensures) ∙ sym c.if-not-is_table.ensures))

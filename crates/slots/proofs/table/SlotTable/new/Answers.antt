use Rattle.std.proofs.Common.{List, Option, None, replicate, refl, sym, ap, subst}
use Rattle.slots.specs.{Slots.Issue, Table.IsTable}
use Rattle.slots.proofs.NewLemmas.{no_context, new_table}
use Rattle.slots.proofs.table.SlotTable.new.Goals as goal

pub returns : goal.returns
returns c = ap (λ (x : List (Option Issue)). record { issues = x; contexts = replicate 16 no_context }) c.free.ensures

pub invariant_of-result : goal.invariant_of-result
invariant_of-result c = subst (λ (x : List (Option Issue)). IsTable (record { issues = x; contexts = replicate 16 None })) (sym c.free.ensures) (new_table 32 16 refl refl)

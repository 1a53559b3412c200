use Rattle.std.proofs.{Common.{◌≡◌, ◌∙◌, false, length, ap, sym}, lemmas.Bool.{eq-eqb, eqb-true}}
use Rattle.std.specs.Prelude.{◌==◌}
use Rattle.saved_state.specs.State.{parts_refused, rule_refused}
use Rattle.block_disk.specs.Saved.{KeepsTable, KeepsTableParts, put_table_parts, table_fits, table_parts, table_parts_apart}
use Rattle.block_disk.proofs.SavedLemmas.{restored}
use Rattle.block_disk.proofs.commands.saved.CommandsSaved.restore.Goals as goal

pub returns-in-Err : goal.returns-in-Err
returns-in-Err c = parts_refused put_table_parts KeepsTableParts KeepsTable table_parts (λ t k. k.0)
    c.args.words.now c.restore.new.words c.in-Err.error c.in-Err.ensures

pub returns-then-not-is_whole : goal.returns-then-not-is_whole
returns-then-not-is_whole c =
    let parts = c.in-Ok.parts in
    let same : c.deref.result.now ≡ parts.0 = c.deref.ensures.value ∙ c.into_vec-by_place.ensures in
    let not_whole : table_fits parts ≡ false = ap (λ xs. length xs == 33) (sym same) ∙ sym c.if-not-is_whole.ensures in
    rule_refused put_table_parts KeepsTableParts KeepsTable table_parts table_fits table_parts_apart (λ t k. k.0)
    (λ t k. eq-eqb (length t.places) 33 k.1) c.args.words.now c.restore.new.words parts c.in-Ok.ensures not_whole

pub invariant_of-result : goal.invariant_of-result
invariant_of-result c = ap length (sym c.deref.ensures.value) ∙ eqb-true (length c.deref.result.now) 33 (sym c.if-not-is_whole.ensures)

pub returns : goal.returns
returns c =
    restored c.in-Ok.parts c.args.words.now c.restore.new.words c.into_vec-by_place.result.items c.into_vec-by_place.ensures c.in-Ok.ensures
    (ap length (sym c.deref.ensures.value) ∙ eqb-true (length c.deref.result.now) 33 (sym c.if-not-is_whole.ensures))

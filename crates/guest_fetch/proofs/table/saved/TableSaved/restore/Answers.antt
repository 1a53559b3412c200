use Rattle.std.proofs.Common.{◌≡◌, ◌∙◌, ap, sym, true, false}
use Rattle.guest_fetch.specs.{Saved.{is_table, of_table, table_keeps, table_parts, table_words}, Spans.{IsTable, table_of}}
use Rattle.guest_fetch.proofs.SavedLemmas.{fit_keeps, keeps_fit, spans_again}
use Rattle.saved_state.specs.State.{parts_refused, rule_refused}
use Rattle.guest_fetch.proofs.table.saved.TableSaved.restore.Goals as goal

pub returns-in-Err : goal.returns-in-Err
returns-in-Err c = parts_refused of_table.put of_table.keeps IsTable table_parts table_keeps
    c.args.words.now c.restore.new.words c.in-Err.error c.in-Err.ensures

pub returns-then-not-is_table : goal.returns-then-not-is_table
returns-then-not-is_table c =
    let spans = c.deref.ensures.value ∙ c.into_vec-spans.ensures in
    rule_refused of_table.put of_table.keeps IsTable table_parts is_table of_table.apart table_keeps keeps_fit
    c.args.words.now c.restore.new.words c.in-Ok.parts c.in-Ok.ensures
    (ap (λ ss. is_table (c.in-Ok.parts.0, ss)) (sym spans) ∙ sym c.if-not-is_table.ensures)

pub invariant_of-result : goal.invariant_of-result
invariant_of-result c =
    let fit : is_table (c.in-Ok.parts.0, c.into_vec-spans.result.items) ≡ true =
    ap (λ ss. is_table (c.in-Ok.parts.0, ss)) (sym c.deref.ensures.value) ∙ sym c.if-not-is_table.ensures in
    fit_keeps c.in-Ok.parts.0 c.into_vec-spans.result.items fit

pub returns : goal.returns
returns c =
    let fit : is_table (c.in-Ok.parts.0, c.into_vec-spans.result.items) ≡ true =
    ap (λ ss. is_table (c.in-Ok.parts.0, ss)) (sym c.deref.ensures.value) ∙ sym c.if-not-is_table.ensures in
    let is : IsTable (table_of c.into_vec-spans.result.items c.in-Ok.parts.0) = fit_keeps c.in-Ok.parts.0 c.into_vec-spans.result.items fit in
    let spans = spans_again c.into_vec-spans.result.items c.in-Ok.parts.0 is ∙ c.into_vec-spans.ensures in
    (rw spans c.in-Ok.ensures.0, is)

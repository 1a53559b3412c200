use Rattle.guest_fetch.specs.Saved.{span_parts, span_words, of_span}
use Rattle.saved_state.specs.State.{parts_refused}
use Rattle.guest_fetch.proofs.span.saved.SpanSaved.restore.Goals as goal

pub returns-in-Err : goal.returns-in-Err
returns-in-Err c = parts_refused of_span.put of_span.keeps span_words.keeps span_parts (λ v k. k)
    c.args.words.now c.restore.new.words c.in-Err.error c.in-Err.ensures

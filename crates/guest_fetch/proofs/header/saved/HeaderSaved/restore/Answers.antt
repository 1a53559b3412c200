use Rattle.guest_fetch.specs.Saved.{header_parts, header_words, of_header}
use Rattle.saved_state.specs.State.{parts_refused}
use Rattle.guest_fetch.proofs.header.saved.HeaderSaved.restore.Goals as goal

pub returns-in-Err : goal.returns-in-Err
returns-in-Err c = parts_refused of_header.put of_header.keeps header_words.keeps header_parts (λ v k. k)
    c.args.words.now c.restore.new.words c.in-Err.error c.in-Err.ensures

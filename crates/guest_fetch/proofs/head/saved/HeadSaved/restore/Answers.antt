use Rattle.guest_fetch.specs.SavedCommands.{head_parts, head_words, of_head}
use Rattle.saved_state.specs.State.{parts_refused}
use Rattle.guest_fetch.proofs.head.saved.HeadSaved.restore.Goals as goal

pub returns-in-Err : goal.returns-in-Err
returns-in-Err c = parts_refused of_head.put of_head.keeps head_words.keeps head_parts (λ v k. k)
    c.args.words.now c.restore.new.words c.in-Err.error c.in-Err.ensures

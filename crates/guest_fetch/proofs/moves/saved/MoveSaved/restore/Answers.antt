use Rattle.guest_fetch.specs.Saved.{move_parts, move_words, of_move}
use Rattle.saved_state.specs.State.{parts_refused}
use Rattle.guest_fetch.proofs.moves.saved.MoveSaved.restore.Goals as goal

pub returns-in-Err : goal.returns-in-Err
returns-in-Err c = parts_refused of_move.put of_move.keeps move_words.keeps move_parts (λ v k. k)
    c.args.words.now c.restore.new.words c.in-Err.error c.in-Err.ensures

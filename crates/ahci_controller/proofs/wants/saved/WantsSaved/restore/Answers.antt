use Rattle.ahci_controller.specs.Saved.{wants_parts, wants_words, of_wants}
use Rattle.saved_state.specs.State.{parts_refused}
use Rattle.ahci_controller.proofs.wants.saved.WantsSaved.restore.Goals as goal

pub returns-in-Err : goal.returns-in-Err
returns-in-Err c = parts_refused of_wants.put of_wants.keeps wants_words.keeps wants_parts (λ v k. k)
    c.args.words.now c.restore.new.words c.in-Err.error c.in-Err.ensures

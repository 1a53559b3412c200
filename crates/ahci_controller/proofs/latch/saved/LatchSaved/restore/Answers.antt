use Rattle.ahci_controller.specs.Saved.{latch_parts, latch_words, of_latch}
use Rattle.saved_state.specs.State.{parts_refused}
use Rattle.ahci_controller.proofs.latch.saved.LatchSaved.restore.Goals as goal

pub returns-in-Err : goal.returns-in-Err
returns-in-Err c = parts_refused of_latch.put of_latch.keeps latch_words.keeps latch_parts (λ v k. k)
    c.args.words.now c.restore.new.words c.in-Err.error c.in-Err.ensures

use Rattle.ahci_controller.specs.Saved.{writes_parts, writes_words, of_writes}
use Rattle.saved_state.specs.State.{parts_refused}
use Rattle.ahci_controller.proofs.wants.saved.WritesSaved.restore.Goals as goal

pub returns-in-Err : goal.returns-in-Err
returns-in-Err c = parts_refused of_writes.put of_writes.keeps writes_words.keeps writes_parts (λ v k. k)
    c.args.words.now c.restore.new.words c.in-Err.error c.in-Err.ensures

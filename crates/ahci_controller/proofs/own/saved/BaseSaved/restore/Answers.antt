use Rattle.ahci_controller.specs.Saved.{base_parts, base_words, of_base}
use Rattle.saved_state.specs.State.{parts_refused}
use Rattle.ahci_controller.proofs.own.saved.BaseSaved.restore.Goals as goal

pub returns-in-Err : goal.returns-in-Err
returns-in-Err c = parts_refused of_base.put of_base.keeps base_words.keeps base_parts (λ v k. k)
    c.args.words.now c.restore.new.words c.in-Err.error c.in-Err.ensures

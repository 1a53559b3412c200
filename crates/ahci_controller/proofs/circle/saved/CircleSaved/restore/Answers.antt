use Rattle.ahci_controller.specs.Saved.{circle_parts, circle_words, of_circle}
use Rattle.saved_state.specs.State.{parts_refused}
use Rattle.ahci_controller.proofs.circle.saved.CircleSaved.restore.Goals as goal

pub returns-in-Err : goal.returns-in-Err
returns-in-Err c = parts_refused of_circle.put of_circle.keeps circle_words.keeps circle_parts (λ v k. k)
    c.args.words.now c.restore.new.words c.in-Err.error c.in-Err.ensures

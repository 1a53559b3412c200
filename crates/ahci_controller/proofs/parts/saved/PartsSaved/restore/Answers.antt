use Rattle.ahci_controller.specs.SavedController.{controller_parts, of_controller, parts_words}
use Rattle.saved_state.specs.State.{parts_refused}
use Rattle.ahci_controller.proofs.parts.saved.PartsSaved.restore.Goals as goal

pub returns-in-Err : goal.returns-in-Err
returns-in-Err c = parts_refused of_controller.put of_controller.keeps parts_words.keeps controller_parts (λ v k. k)
    c.args.words.now c.restore.new.words c.in-Err.error c.in-Err.ensures

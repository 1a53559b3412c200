use Rattle.ahci_controller.specs.Saved.{carried_parts, carried_words, of_carried}
use Rattle.saved_state.specs.State.{parts_refused}
use Rattle.ahci_controller.proofs.wants.saved.CarriedSaved.restore.Goals as goal

pub returns-in-Err : goal.returns-in-Err
returns-in-Err c = parts_refused of_carried.put of_carried.keeps carried_words.keeps carried_parts (λ v k. k)
    c.args.words.now c.restore.new.words c.in-Err.error c.in-Err.ensures

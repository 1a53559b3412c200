use Rattle.ahci_machine.specs.Saved.{bay_parts, bay_words, of_bay}
use Rattle.saved_state.specs.State.{parts_refused}
use Rattle.ahci_machine.proofs.bay.saved.BaySaved.restore.Goals as goal

pub returns-in-Err : goal.returns-in-Err
returns-in-Err c = parts_refused of_bay.put of_bay.keeps bay_words.keeps bay_parts (λ v k. k)
    c.args.words.now c.restore.new.words c.in-Err.error c.in-Err.ensures

use Rattle.ahci_controller.specs.Saved.{own_parts, own_words, of_own}
use Rattle.saved_state.specs.State.{parts_refused}
use Rattle.ahci_controller.proofs.own.saved.OwnRegistersSaved.restore.Goals as goal

pub returns-in-Err : goal.returns-in-Err
returns-in-Err c = parts_refused of_own.put of_own.keeps own_words.keeps own_parts (λ v k. k)
    c.args.words.now c.restore.new.words c.in-Err.error c.in-Err.ensures

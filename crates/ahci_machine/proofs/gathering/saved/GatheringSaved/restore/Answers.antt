use Rattle.ahci_machine.specs.Saved.{gathering_parts, gathering_words, of_gathering}
use Rattle.saved_state.specs.State.{parts_refused}
use Rattle.ahci_machine.proofs.gathering.saved.GatheringSaved.restore.Goals as goal

pub returns-in-Err : goal.returns-in-Err
returns-in-Err c = parts_refused of_gathering.put of_gathering.keeps gathering_words.keeps gathering_parts (λ v k. k)
    c.args.words.now c.restore.new.words c.in-Err.error c.in-Err.ensures

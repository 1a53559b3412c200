use Rattle.ahci_machine.specs.Saved.{machine_parts, machine_words, of_machine}
use Rattle.saved_state.specs.State.{parts_refused}
use Rattle.ahci_machine.proofs.machine.saved.MachineSaved.restore.Goals as goal

pub returns-in-Err : goal.returns-in-Err
returns-in-Err c = parts_refused of_machine.put of_machine.keeps machine_words.keeps machine_parts (λ v k. k)
    c.args.words.now c.restore.new.words c.in-Err.error c.in-Err.ensures

use Rattle.ahci_machine.proofs.SavedLemmas.{no_stream, read_stream}
use Rattle.ahci_machine.proofs.machine.Machine.from_bytes.Goals as goal

pub returns-in-Ok : goal.returns-in-Ok
returns-in-Ok c = read_stream c.args.bytes.now c.in-Ok.words c.from_words.result c.in-Ok.ensures c.from_words.ensures

pub returns-in-Err : goal.returns-in-Err
returns-in-Err c = rw c.damage.ensures (no_stream c.args.bytes.now c.in-Err.error c.in-Err.ensures)

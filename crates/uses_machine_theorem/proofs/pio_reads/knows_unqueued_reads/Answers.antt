use Rattle.uses_machine_theorem.proofs.PioReadLemmas.{read}
use Rattle.uses_machine_theorem.proofs.pio_reads.knows_unqueued_reads.Goals as goal

pub returns : goal.returns
returns c = read c.unqueued_reads_are_read.ensures c.args.machine.now

use Rattle.uses_sata_disk.proofs.More.{next_of}
use Rattle.uses_sata_disk.proofs.next.Goals as goal

pub returns : goal.returns
returns c = record {
  next = c.next_out.ensures;
  error = next_of c.args.disk.now c.next_out.result c.aborted_until_read.ensures c.next_out.ensures;
}

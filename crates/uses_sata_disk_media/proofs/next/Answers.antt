use Rattle.uses_sata_disk_media.proofs.More.{brings, keeps, settles}
use Rattle.uses_sata_disk_media.proofs.next.Goals as goal

pub returns : goal.returns
returns c = record {
  next = c.next_out.ensures;
  brings = brings c.args.disk.now c.next_out.result c.reads_bring_writes.ensures;
  keeps = keeps c.args.disk.now c.next_out.result c.next_out.ensures c.writes_are_kept.ensures;
  settles = settles c.args.disk.now c.next_out.result c.next_out.ensures c.writes_are_settled.ensures;
}

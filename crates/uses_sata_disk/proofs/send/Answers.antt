use Rattle.sata_disk_laws.specs.Calls.{Sends}
use Rattle.uses_sata_disk.proofs.More.{one_more, out_of}
use Rattle.uses_sata_disk.proofs.send.Goals as goal

pub returns : goal.returns
returns c = record {
  sent = one_more c.args.disk.now c.sent.new.self (Sends c.args.out) c.requires c.sent.ensures;
  due = out_of c.args.disk.now c.args.out c.answers_are_single.ensures c.requires;
}

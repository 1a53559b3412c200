use Rattle.uses_sata_disk.proofs.More.{asked_more}
use Rattle.uses_sata_disk.proofs.ask.Goals as goal

pub returns : goal.returns
returns c = record {
  asked = asked_more c.args.disk.now c.next_request.new.self c.next_request.result c.next_request.ensures.asked c.next_request.ensures.others;
  within = c.next_request.ensures.within;
}

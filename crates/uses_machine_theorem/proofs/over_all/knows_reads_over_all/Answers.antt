use Rattle.uses_machine_theorem.proofs.OverLemmas.{over_all, sent, settled}
use Rattle.uses_machine_theorem.proofs.over_all.knows_reads_over_all.Goals as goal

pub returns : goal.returns
returns c = record {
  seen = over_all c.reads_follow_writes_over_all.ensures.seen c.args.machine.now;
  sent = sent c.reads_follow_writes_over_all.ensures.sent c.args.machine.now;
  settled = settled c.reads_follow_writes_over_all.ensures.settled c.args.machine.now;
}

use Rattle.uses_machine_theorem.proofs.OverLemmas.{among, spared, standing}
use Rattle.uses_machine_theorem.proofs.over_all.knows_what_is_spared.Goals as goal

pub returns : goal.returns
returns c = record {
  spared = spared c.unheard_is_spared.ensures c.args.machine.now;
  among = among c.reads_follow_writes_among_slots.ensures c.args.machine.now;
  standing = standing c.slots_tell_of_writes.ensures c.args.machine.now;
}

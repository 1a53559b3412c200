use Rattle.machine_theorem.specs.Ending.{AllKeepEnding, AllUnqueued}
use Rattle.machine_theorem.proofs.{FlushesFollow.flushes_follow, FlushesOwn.reached_still}
use Rattle.machine_theorem.proofs.flushes.flushes_follow_writes.Goals as goal

pub returns : goal.returns
returns c = record {
  slots = flushes_follow c.disks_go_on.ensures c.writes_are_kept.ensures AllKeepEnding c.flushes_are_of_their_slots.ensures.slots;
  plain = flushes_follow c.disks_go_on.ensures c.writes_are_kept.ensures AllUnqueued c.flushes_are_of_their_slots.ensures.plain;
  still = reached_still c.disks_go_on.ensures;
}

use Rattle.machine_theorem.proofs.OverAll.{Laws, data_follow_over_all, ended_settled, reads_follow_over_all, seen_reads_follow}
use Rattle.machine_theorem.proofs.over_all.reads_follow_writes_over_all.Goals as goal

pub returns : goal.returns
returns c =
    let laws : Laws = record {
      disks = c.disks_go_on.ensures;
      tags = record { single = c.answers_are_single.ensures; under_way = c.open_is_under_way.ensures };
      outs = c.singles_are_awaited.ensures.outs;
      awaited = c.singles_are_awaited.ensures.waits;
      undisturbed = c.undisturbed_is_spared.ensures;
      given = c.reads_are_given_writes.ensures;
      data' = c.data_are_given.ensures;
      settled = c.writes_are_settled.ensures;
    } in
    record { ended = reads_follow_over_all laws; seen = seen_reads_follow laws; sent = data_follow_over_all laws; settled = ended_settled laws }

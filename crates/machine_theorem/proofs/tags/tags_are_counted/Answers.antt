use Rattle.machine_theorem.proofs.TagCounts.{Laws, of_new_disks, tags_are_counted}
use Rattle.machine_theorem.proofs.tags.tags_are_counted.Goals as goal

pub returns : goal.returns
returns c =
    let laws : Laws = record { single = c.answers_are_single.ensures; under_way = c.open_is_under_way.ensures } in
    record { counted = tags_are_counted laws; disks = of_new_disks laws }

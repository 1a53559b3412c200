use Rattle.std.proofs.{Common.{arith, rules}, lemmas.List.FromFn.{map-range_with_len_more}}
use Rattle.disk_model.specs.Disks.{opening_byte}
use Rattle.disk_model.proofs.disk.new_medium.Goals as goal

pub loop-at-preserved : goal.loop-at-preserved
loop-at-preserved c =
    let more = map-range_with_len_more opening_byte 0 c.loop-at.at c.loop-at.at (omega arith) in
    record { items = cc (more, c.in_ok-push.ensures.items, c.loop-at.invariant.items); len = search rules }

use Rattle.std.proofs.Common.{rules}
use Rattle.gefsunk.proofs.StartLemmas.{none_yet, one_more}
use Rattle.gefsunk.proofs.disk.start_all.Goals as goal

pub loop-init : goal.loop-init
loop-init c = none_yet c.args.disk.now

pub loop-preserved : goal.loop-preserved
loop-preserved c = one_more c.args.disk.now c.loop.disk c.start_next.new.self c.loop.counter c.in_ok-start_next.field-0 c.loop.invariant
    c.in_ok-start_next.ensures.next (search rules) c.in_ok-start_next.ensures.ok

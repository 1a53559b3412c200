use Rattle.std.proofs.Common.{◌≤◌, arith, subst, sym}
use Rattle.block_command.specs.declared.command.Turn.{Turn}
use Rattle.block_scheduler.specs.Sets.{IsNoted}
use Rattle.block_scheduler.proofs.SavedLemmas.{sets_all, sets_more, sets_none}
use Rattle.block_scheduler.proofs.scheduler.saved.sets_of.Goals as goal

pub loop-place-init : goal.loop-place-init
loop-place-init c = sets_none _ _

pub loop-place-preserved : goal.loop-place-preserved
loop-place-preserved c =
    let P : Turn → Type 0 = λ t. IsNoted c.loop-place.sets c.noted-sets.result c.loop-place.place t in
    sets_more c.args.queue.now c.loop-place.place c.loop-place.sets c.noted-sets.result c.loop-place-test.true c.loop-place.invariant
    (subst P c.turn_of-turn.ensures c.noted-sets.ensures)

pub returns : goal.returns
returns c =
    let all : 33 ≤ c.loop-place.place = (let end = c.loop-place-test.false in omega (arith, end)) in
    sets_all c.args.queue.now c.loop-place.place c.loop-place.sets all c.loop-place.invariant

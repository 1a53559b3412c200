use Rattle.std.proofs.Common.{◌<◌, arith}
use Rattle.block_scheduler.proofs.Places.{clear_tag, set_tag}
use Rattle.block_scheduler.proofs.sets.with_tag.Goals as goal

pub returns-then-is : goal.returns-then-is
returns-then-is c =
    let low : c.args.place < 32 = (let most = c.requires in let apart = c.if-place-eq32.false in omega (arith, most, apart)) in
    rw c.if-is.true (set_tag c.args.tags c.args.place low)

pub returns-else-is : goal.returns-else-is
returns-else-is c =
    let low : c.args.place < 32 = (let most = c.requires in let apart = c.if-place-eq32.false in omega (arith, most, apart)) in
    rw c.if-is.false (clear_tag c.args.tags c.args.place low)

use Rattle.std.proofs.Common.{◌≡◌, arith, length-set, subst, ap, ◌∙◌}
use Rattle.block_disk.specs.Requests.{queue_reset}
use Rattle.block_queue.specs.Line.{IsLine, left_at}
use Rattle.block_queue.proofs.Kept.{left_all, left_more, left_same, others_more, reset_is, reset_kept}
use Rattle.block_queue.proofs.queue.CommandQueue.reset.Goals as goal

pub loop-place-preserved : goal.loop-place-preserved
loop-place-preserved c =
    let i = c.loop-place.invariant in
    let l = c.args.self.now in
    let p = c.loop-place.place in
    let xs = c.loop-place.self-inside.orphans in
    let is : c.left_of.result ≡ left_at l p = c.left_of.ensures ∙ left_same l _ _ p i.queue (i.others p (omega arith)) in
    record {
      queue = i.queue;
      ranks = i.ranks;
      long = length-set xs p c.left_of.result ∙ i.long;
      left = left_more l xs p c.left_of.result i.long c.loop-place-test.true is i.left;
      others = others_more l xs p c.left_of.result i.others;
    }

pub invariant_of-self : goal.invariant_of-self
invariant_of-self c =
    let i = c.loop-place.invariant in
    record {
      line = reset_kept c.args.self.now _ _ _ (subst IsLine c.self.view_is c.self.invariant.line) (c.reset.ensures ∙ ap queue_reset i.queue) i.ranks i.long;
      watched = c.watched-self-inside.ensures;
    }

pub returns : goal.returns
returns c =
    let i = c.loop-place.invariant in
    reset_is c.args.self.now _ _ _ (c.reset.ensures ∙ ap queue_reset i.queue) i.ranks
    (left_all c.args.self.now _ 33 i.long (λ k low. i.left k (let end = c.loop-place-test.false in omega (arith, low, end))))

use Rattle.std.proofs.Common.{◌≡◌, true, false, below_more, arith, sym, ap, ◌∙◌, get_or}
use Rattle.std.specs.Prelude.{◌||◌, nat_le}
use Rattle.block_queue.specs.{Line.any_below, Saved.has_rank_of}
use Rattle.block_queue.proofs.Kept.{any_found, any_none}
use Rattle.block_queue.proofs.queue.saved.is_misranked.Goals as goal

pub returns-then-has_rank_of : goal.returns-then-has_rank_of
returns-then-has_rank_of c = sym (ap (λ b. b || nat_le 33 (get_or c.args.ranks.now c.args.place 0))
    (any_found (has_rank_of c.args.ranks.now c.args.place) 33 c.loop-other.other c.loop-other-test.true (sym c.has_rank_of.ensures ∙ c.if-has_rank_of.true)))

pub loop-other-preserved : goal.loop-other-preserved
loop-other-preserved c = below_more _ _ c.loop-other.invariant (sym c.has_rank_of.ensures ∙ c.if-has_rank_of.false)

pub returns : goal.returns
returns c = sym (ap (λ b. b || nat_le 33 (get_or c.args.ranks.now c.args.place 0))
    (any_none (has_rank_of c.args.ranks.now c.args.place) 33
    (λ q low. c.loop-other.invariant q (let end = c.loop-other-test.false in omega (arith, low, end)))))

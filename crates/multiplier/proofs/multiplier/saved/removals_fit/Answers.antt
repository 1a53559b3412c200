use Rattle.std.proofs.Common.{sym, arith, below_more}
use Rattle.multiplier.specs.Saved.{removal_fits, removals_fit}
use Rattle.multiplier.proofs.SavedLemmas.{all_in, one_fails}
use Rattle.multiplier.proofs.multiplier.saved.removals_fit.Goals as goal

pub returns-then-not-removal_fits : goal.returns-then-not-removal_fits
unfolding removals_fit
returns-then-not-removal_fits c =
    sym (one_fails (removal_fits c.args.ports.now c.args.stamp.now.shown) 15 c.loop-n.n (omega arith) (sym c.if-not-removal_fits.ensures))

pub loop-n-preserved : goal.loop-n-preserved
loop-n-preserved c = below_more _ _ c.loop-n.invariant (sym c.if-not-removal_fits.ensures)

pub returns : goal.returns
unfolding removals_fit
returns c = sym (all_in (removal_fits c.args.ports.now c.args.stamp.now.shown) 0 15 (λ k low. c.loop-n.invariant k (omega (arith, low))))

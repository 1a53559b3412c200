use Rattle.std.proofs.Common.{sym, arith, below_more}
use Rattle.multiplier.proofs.Door.{all_in, one_fails}
use Rattle.fan_out.specs.Saved.{fits_at, seats_fit}
use Rattle.fan_out.proofs.fan.saved.seats_fit.Goals as goal

pub returns-then-not-fits_at : goal.returns-then-not-fits_at
unfolding seats_fit
returns-then-not-fits_at c =
    sym (one_fails (fits_at c.args.multiplier.now c.args.seats.now) 15 c.loop-n.n (omega arith) (sym c.if-not-fits_at.ensures))

pub loop-n-preserved : goal.loop-n-preserved
loop-n-preserved c = below_more _ _ c.loop-n.invariant (sym c.if-not-fits_at.ensures)

pub returns : goal.returns
unfolding seats_fit
returns c = sym (all_in (fits_at c.args.multiplier.now c.args.seats.now) 0 15 (λ k low. c.loop-n.invariant k (omega (arith, low))))

use Rattle.std.proofs.Common.{ℕ, ap, slice_index_or, ◌∙◌}
use Rattle.fan_out.specs.Seats.{empty_seat}
use Rattle.fan_out.proofs.FanLemmas.{next_joined}
use Rattle.fan_out.proofs.fan.Fan.join_all.Goals as goal

pub loop-n-preserved : goal.loop-n-preserved
loop-n-preserved c = (
  next_joined c.args.seats c.loop-n.n c.args.self.now c.loop-n.self c.join_again.new.self (slice_index_or c.args.seats c.from.result empty_seat) c.loop-n.invariant.0 c.join_again.ensures.value
      (ap (λ (k : ℕ). slice_index_or c.args.seats k empty_seat) c.from.ensures),
  c.join_again.ensures.ports ∙ c.loop-n.invariant.1,
)

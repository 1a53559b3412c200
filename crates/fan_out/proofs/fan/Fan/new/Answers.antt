use Rattle.fan_out.proofs.FanLemmas.{opens_fan}
use Rattle.fan_out.proofs.fan.Fan.new.Goals as goal

pub invariant_of-result : goal.invariant_of-result
invariant_of-result c =
    opens_fan c.args.ports c.args.legacy c.args.is_there c.opening_multiplier.result c.opening_seats.result c.requires.some c.requires.at_most c.opening_multiplier.ensures c.opening_seats.ensures

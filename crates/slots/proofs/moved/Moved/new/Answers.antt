use Rattle.std.proofs.Common.{◌/◌, ap, ◌∙◌}
use Rattle.slots.specs.Stretches.{over_of}
use Rattle.slots.proofs.FlagLemmas.{over_nothing}
use Rattle.slots.proofs.moved.Moved.new.Goals as goal

pub returns : goal.returns
returns c = ap (over_of (c.args.len / 4)) c.new.ensures ∙ over_nothing (c.args.len / 4)

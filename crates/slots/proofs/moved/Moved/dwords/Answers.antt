use Rattle.std.proofs.Common.{length, sym, ap, ◌∙◌}
use Rattle.slots.proofs.FlagLemmas.{length-over}
use Rattle.slots.proofs.moved.Moved.dwords.Goals as goal

pub returns-clause-value : goal.returns-clause-value
returns-clause-value c = sym (ap length (sym c.self.view_is) ∙ length-over c.self.inside.dwords c.self.inside.stretches.items)

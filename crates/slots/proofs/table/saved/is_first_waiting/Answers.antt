use Rattle.std.proofs.Common.{sym, ◌∙◌}
use Rattle.slots.proofs.TestedLemmas.{first_told}
use Rattle.slots.proofs.table.saved.is_first_waiting.Goals as goal

pub returns-in-Some : goal.returns-in-Some
returns-in-Some c = first_told c.args.issued.sent c.args.issued.answered _ _ c.args.slot c.if-not-issued.false c.if-issued.false (sym c.in-Some.is ∙ c.waiting.ensures.value)

pub returns-in-None : goal.returns-in-None
returns-in-None c = first_told c.args.issued.sent c.args.issued.answered _ _ c.args.slot c.if-not-issued.false c.if-issued.false (sym c.in-None.is ∙ c.waiting.ensures.value)

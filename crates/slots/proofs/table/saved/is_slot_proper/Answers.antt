use Rattle.std.proofs.Common.{None, Option, get_or, refl, sym, ap, true, ◌∙◌}
use Rattle.std.specs.Option.{option_map}
use Rattle.slots.specs.{Issued.issued_of, Slots.{Issue, match_some}, Tested.is_proper}
use Rattle.slots.proofs.TestedLemmas.{first_after}
use Rattle.slots.proofs.table.saved.is_slot_proper.Goals as goal

pub returns-then-is_proper : goal.returns-then-is_proper
returns-then-is_proper c =
    let slots = c.args.slots.now in
    let s = c.args.slot in
    c.is_first_waiting.ensures ∙ first_after slots s (get_or slots s None) c.in-Some.issued refl
    (ap (option_map issued_of) (sym c.at.ensures) ∙ sym c.issued.ensures ∙ c.in-Some.is) (c.if-is_proper.ensures ∙ ap (λ (o : Option Issue). match_some o true is_proper) c.at-in-Some.ensures)

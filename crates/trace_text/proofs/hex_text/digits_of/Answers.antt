use Rattle.std.proofs.{Common.rules, lemmas.Fn.filter_same}
use Rattle.trace_text.proofs.hex_text.digits_of.Goals as goal

pub returns : goal.returns
returns c = rw (← c.in_ok-digits.ensures.items) (filter_same _ _ _ (λ x b f' k. search rules) _ _ c.retain.ensures.filtered)

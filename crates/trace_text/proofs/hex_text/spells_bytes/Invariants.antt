use Rattle.std.proofs.Common.{List, ℕ, length}
use Rattle.trace_text.specs.Text.{without_blanks}
use Rattle.trace_text.proofs.HexTextLemmas.{SpellsOn}
use Rattle.trace_text.proofs.hex_text.spells_bytes.Given as goal

-- there are bytes that the digits before the rest spell
abbrev pub invariant-pairs : goal.invariant-pairs
invariant-pairs l = (bytes : List ℕ) × SpellsOn (without_blanks l.text) bytes (without_blanks l.rest)

abbrev pub decreases-pairs : goal.decreases-pairs
decreases-pairs l = length l.rest

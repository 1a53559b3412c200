use Rattle.std.proofs.Common.{◌≡◌, ◌∷◌, ◌++◌, [], refl}
use Rattle.trace_text.specs.Text.{without_blanks}
use Rattle.trace_text.proofs.HexTextLemmas.{nothing_read, next_pair, pair_refused, half_left, all_read, spells_none, spells_some}
use Rattle.trace_text.proofs.hex_text.spells_bytes.Goals as goal

pub pairs-init : goal.pairs-init
pairs-init c = ([], nothing_read _ _ refl)

pub pairs-preserved : goal.pairs-preserved
pairs-preserved c =
    let first : without_blanks c.pairs.rest.now ≡ c.in-Some.high ∷ without_blanks c.in-Some.behind.now = c.in-Some.ensures.0 in
    let second : without_blanks c.in-Some.behind.now ≡ c.in-Some-next_digit.low ∷ without_blanks c.in-Some-next_digit.behind.now = c.in-Some-next_digit.ensures.0 in
    (c.pairs.invariant.0 ++ c.in-Ok.field-0 ∷ [], next_pair _ _ _ _ _ _ _ _ c.pairs.invariant.1 first second c.in-Ok.ensures.value)

pub returns-in_default-next_digit : goal.returns-in_default-next_digit
returns-in_default-next_digit c =
    let first : without_blanks c.pairs.rest.now ≡ c.in-Some.high ∷ without_blanks c.in-Some.behind.now = c.in-Some.ensures.0 in
    spells_none _ (half_left _ _ _ _ _ c.pairs.invariant.1 first c.in_default-next_digit.ensures)

pub returns-in_default-byte_of : goal.returns-in_default-byte_of
returns-in_default-byte_of c =
    let first : without_blanks c.pairs.rest.now ≡ c.in-Some.high ∷ without_blanks c.in-Some.behind.now = c.in-Some.ensures.0 in
    let second : without_blanks c.in-Some.behind.now ≡ c.in-Some-next_digit.low ∷ without_blanks c.in-Some-next_digit.behind.now = c.in-Some-next_digit.ensures.0 in
    spells_none _ (pair_refused _ _ _ _ _ _ _ c.pairs.invariant.1 first second (c.in_default-byte_of.ensures.bad_hex refl))

pub returns : goal.returns
returns c = spells_some _ _ (all_read _ _ _ c.pairs.invariant.1 c.in_default.ensures)

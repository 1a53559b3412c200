use Rattle.std.proofs.Common.{◌≡◌, ◌≤◌, length}
use Rattle.trace_text.specs.Text.{without_blanks}
use Rattle.trace_text.proofs.hex_text.next_digit.Given as goal

-- only blanks were passed
abbrev pub invariant-blanks : goal.invariant-blanks
invariant-blanks l = record {
  same : without_blanks l.left ≡ without_blanks l.text;
  fewer : length l.left ≤ length l.text;
}

abbrev pub decreases-blanks : goal.decreases-blanks
decreases-blanks l = length l.left

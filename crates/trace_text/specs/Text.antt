-- what the bytes of a line are

use Rattle.std.specs.Prelude.{ℕ, Bool, List, ◌==◌, ◌||◌, not, filter}

-- whether a byte stands between words: a space or a tab
abbrev pub is_blank : ℕ → Bool
is_blank byte = byte == 32 || byte == 9

-- the bytes of a text without its blanks
abbrev pub without_blanks : List ℕ → List ℕ
without_blanks text = filter (λ byte. not (is_blank byte)) text

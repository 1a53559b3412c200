-- Pages as bytes: words stand with their low byte first, and a checksum makes the sum of all bytes 0 modulo 256.
use Rattle.std.specs.{Prelude.{ℕ, ◌-◌, ◌/◌, ◌%◌, ◌==◌, if◌then◌else◌, List, [], ◌∷◌, ◌++◌, map, replicate, slice_set, sum}, List.range_with_len}

-- byte k of a page whose words are these
abbrev pub byte_of : (ℕ → ℕ) → ℕ → ℕ
byte_of words k = if k % 2 == 0 then words (k / 2) % 256 else words (k / 2) / 256

-- the first n bytes of it
unfoldable pub bytes_of : (ℕ → ℕ) → (n : ℕ) → List ℕ
bytes_of words n = map (byte_of words) (range_with_len 0 n)

unfoldable pub checksum : List ℕ → ℕ
checksum bytes = (256 - sum bytes % 256) % 256

abbrev pub closed : List ℕ → List ℕ
closed bytes = bytes ++ checksum bytes ∷ []

unfoldable pub blank : List ℕ
blank = replicate 512 0

-- a byte of a page
pub record At : Type 0 where
  pub offset : ℕ
  pub byte : ℕ

abbrev pub at : ℕ → ℕ → At
at k b = record { offset = k; byte = b }

-- the page with these bytes written into it, one after another
abbrev pub with_bytes : List At → List ℕ → List ℕ
with_bytes [] page = page
with_bytes (a ∷ rest) page = with_bytes rest (slice_set page a.offset a.byte)

-- a page of 512 bytes that are 0 but for these
abbrev pub page_with : List At → List ℕ
page_with bytes = with_bytes bytes blank

-- ATA strings (ACS-3, 3.4.9): graphic characters of ASCII, padded with blanks to the length of their field.
use Rattle.std.specs.Prelude.{ℕ, ◌+◌, ◌-◌, ◌*◌, nat_le, nat_lt, ◌&&◌, Bool, if◌then◌else◌, List, ◌++◌, length, replicate, slice_index, Option, Some}
use Rattle.std.specs.{Prelude.{None, Result, Ok, Err}, List.list_all}
use Rattle.disk_pages.specs.declared.text.TextFault.{TextFault, TheVariants.{TooLong, NotPrintable}}

abbrev pub is_graphic : ℕ → Bool
is_graphic c = nat_le 0x20 c && nat_le c 0x7E

abbrev pub is_text : List ℕ → Bool
is_text text = list_all is_graphic text

-- why it has no place in a field of this many characters
abbrev pub text_fault : (room : ℕ) → List ℕ → Option TextFault
text_fault room text =
    (if nat_lt room (length text) then Some TooLong
    else (if is_text text then None else Some NotPrintable))

abbrev pub padded : (room : ℕ) → List ℕ → List ℕ
padded room text = text ++ replicate (room - length text) 0x20

abbrev pub text_or : (room : ℕ) → List ℕ → Option TextFault → Result (List ℕ) TextFault
text_or room text None = Ok (padded room text)
text_or room text (Some fault) = Err fault

abbrev pub text_of : (room : ℕ) → List ℕ → Result (List ℕ) TextFault
text_of room text = text_or room text (text_fault room text)

-- word n of the field: the first of its two characters is in bits 15:8
abbrev pub pair : List ℕ → ℕ → ℕ
pair text n = slice_index text (2 * n) * 256 + slice_index text (2 * n + 1)

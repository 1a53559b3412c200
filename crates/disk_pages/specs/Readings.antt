-- What a driver reads in the IDENTIFY DEVICE data, in the words of ACS-3, 7.12.7: each field is what the disk is and what is
-- set.
use Rattle.std.specs.Prelude.{◌≡◌, ℕ, ◌+◌, ◌*◌, ◌/◌, ◌%◌, ◌<◌, min, List, slice_index, sum}
use Rattle.ata_command.specs.{Modes.sectors_in, declared.settings.Settings.Settings}
use Rattle.disk_pages.specs.{Claims.bit_of, Identity.wwn_number, declared.profile.Profile.Profile}

-- a word: its low byte stands first
abbrev pub word_at : List ℕ → ℕ → ℕ
word_at page n = slice_index page (2 * n) + 256 * slice_index page (2 * n + 1)

-- two words: the low one stands first
abbrev pub double_at : List ℕ → ℕ → ℕ
double_at page n = word_at page n + 0x10000 * word_at page (n + 1)

-- four words, the low one first
abbrev pub quad_at : List ℕ → ℕ → ℕ
quad_at page n = double_at page n + 0x100000000 * double_at page (n + 2)

-- a world wide name: its high word stands first
abbrev pub name_at : List ℕ → ℕ → ℕ
name_at page n =
    ((word_at page n * 0x10000 + word_at page (n + 1)) * 0x10000 + word_at page (n + 2)) * 0x10000 + word_at page (n + 3)

-- two characters of a text: the first one is the word's high byte
abbrev pub first_char : List ℕ → (word : ℕ) → ℕ
first_char page n = word_at page n / 256

abbrev pub second_char : List ℕ → (word : ℕ) → ℕ
second_char page n = word_at page n % 256

-- the words from n on are this text of 2 * m characters
pub record IsTextAt (page : List ℕ) (n m : ℕ) (text : List ℕ) : Type 0 where
  pub first : (k : ℕ) → k < m → first_char page (n + k) ≡ slice_index text (2 * k)
  pub second : (k : ℕ) → k < m → second_char page (n + k) ≡ slice_index text (2 * k + 1)

pub record IsIdentityOf (p : Profile) (s : Settings) (page : List ℕ) : Type 0 where
  pub serial : IsTextAt page 10 10 p.serial
  pub firmware : IsTextAt page 23 4 p.firmware
  pub model : IsTextAt page 27 20 p.model
  pub sectors : quad_at page 100 ≡ p.capacity
  pub low_sectors : double_at page 60 ≡ min p.capacity 0x0FFFFFFF
  pub name : name_at page 108 ≡ wwn_number p.wwn
  pub depth : word_at page 75 + 1 ≡ p.depth
  pub cache : bit_of 5 (word_at page 85) ≡ s.write_cache
  pub look_ahead : bit_of 6 (word_at page 85) ≡ s.look_ahead
  pub auto_activate : bit_of 2 (word_at page 79) ≡ s.auto_activate
  pub multiple : word_at page 59 % 0x100 ≡ sectors_in s.multiple
  pub trim : bit_of 0 (word_at page 169) ≡ p.trim
  pub mark : slice_index page 510 ≡ 0xA5
  pub checksum : sum page % 256 ≡ 0

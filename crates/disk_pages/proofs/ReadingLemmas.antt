use Rattle.std.proofs.Common.{◌≡◌, ℕ, ◌+◌, ◌-◌, ◌*◌, ◌/◌, ◌%◌, ◌<◌, ◌≤◌, List, [], ◌∷◌, ◌++◌, length, refl, ◌∙◌, ap, arith, Bool, true, false, nat_eq}
use Rattle.std.proofs.{Common.{lit<, lit≤, length-append, zero, suc, nat_lt, ◌&&◌}, Math.ListN.{get_or-append}, lemmas.List.{get_or-append_right}}
use Rattle.std.proofs.lemmas.List.{FromFn.{get_or-map-range_with_len, length-map-range_with_len}, Sums.{sum_by-append}}
use Rattle.std.specs.Prelude.{slice_index, sum, min}
use Rattle.disk_pages.specs.{Bytes.{byte_of, bytes_of, checksum, closed}, Texts.{is_graphic, is_text, pair}, Claims.bit_of, Identity.bits_if}
use Rattle.disk_pages.specs.Identity.{enabled, feature_word, identity, identity_word, low_sectors, multiple_word, is_from, name_word, place_word}
use Rattle.disk_pages.specs.{Identity.{transfer_word, wwn_number}, Readings.{IsIdentityOf, IsTextAt, double_at, name_at, quad_at, word_at}}
use Rattle.disk_pages.specs.declared.profile.Profile.{Profile}
use Rattle.ata_command.specs.{declared.settings.Settings.Settings, Modes.sectors_in}

long_bytes : (words : ℕ → ℕ) (n : ℕ) → length (bytes_of words n) ≡ n
unfolding bytes_of
long_bytes words n = length-map-range_with_len (byte_of words) 0 n

byte_in : (words : ℕ → ℕ) (n k : ℕ) → k < n → slice_index (bytes_of words n) k ≡ byte_of words k
unfolding bytes_of
byte_in words n k below = get_or-map-range_with_len (byte_of words) 0 n k k 0 below (omega arith)

-- a byte of the page but for the last two
byte_read : (words : ℕ → ℕ) (n mark last k : ℕ) → k < n →
    slice_index ((bytes_of words n ++ mark ∷ []) ++ last ∷ []) k ≡ byte_of words k
byte_read words n mark last k below =
    let long : length (bytes_of words n) ≡ n = long_bytes words n in
    let within : k < length (bytes_of words n) = omega (arith, below, long) in
    let marked : k < length (bytes_of words n ++ mark ∷ []) = grind (arith, within, length-append (bytes_of words n) (mark ∷ [])) in
    get_or-append (bytes_of words n ++ mark ∷ []) (last ∷ []) 0 k marked
    ∙ get_or-append (bytes_of words n) (mark ∷ []) 0 k within ∙ byte_in words n k below

low_byte : (words : ℕ → ℕ) (n : ℕ) → byte_of words (2 * n) ≡ words n % 256
low_byte words n =
    let even : 2 * n % 2 ≡ 0 = omega arith in
    let half : 2 * n / 2 ≡ n = omega arith in
    rw (even, half) refl

high_byte : (words : ℕ → ℕ) (n : ℕ) → byte_of words (2 * n + 1) ≡ words n / 256
high_byte words n =
    let odd : (2 * n + 1) % 2 ≡ 1 = omega arith in
    let half : (2 * n + 1) / 2 ≡ n = omega arith in
    rw (odd, half) refl

-- a word of the page reads as the table has it
word_read : (words : ℕ → ℕ) (n mark last k : ℕ) → 2 * k + 1 < n →
    word_at ((bytes_of words n ++ mark ∷ []) ++ last ∷ []) k ≡ words k
word_read words n mark last k below =
    let low = byte_read words n mark last (2 * k) (omega (arith, below)) ∙ low_byte words k in
    let high = byte_read words n mark last (2 * k + 1) below ∙ high_byte words k in
    let parts : words k % 256 + 256 * (words k / 256) ≡ words k = omega arith in
    rw (low, high) parts

-- a word of the IDENTIFY DEVICE data is its row of the table
read_word : (p : Profile) (s : Settings) (k : ℕ) → 2 * k + 1 < 510 → word_at (identity p s) k ≡ identity_word p s k
unfolding identity
read_word p s k below =
    word_read (identity_word p s) 510 0xA5 (checksum (bytes_of (identity_word p s) 510 ++ 0xA5 ∷ [])) k below

parts_of_48 : (n : ℕ) → n < 0x1000000000000 →
    (n % 0x10000 + 0x10000 * (n / 0x10000 % 0x10000)) + 0x100000000 * (n / 0x100000000 % 0x10000 + 0x10000 * 0) ≡ n
parts_of_48 n below = omega (arith, below)

sectors_read : (p : Profile) (s : Settings) → p.capacity < 0x1000000000000 →
    quad_at (identity p s) 100 ≡ p.capacity
unfolding identity_word place_word
sectors_read p s below =
    let low : word_at (identity p s) 100 ≡ p.capacity % 0x10000 = read_word p s 100 (lit< tt) in
    let next : word_at (identity p s) 101 ≡ p.capacity / 0x10000 % 0x10000 = read_word p s 101 (lit< tt) in
    let high : word_at (identity p s) 102 ≡ p.capacity / 0x100000000 % 0x10000 = read_word p s 102 (lit< tt) in
    let last : word_at (identity p s) 103 ≡ 0 = read_word p s 103 (lit< tt) in
    rw (low, next, high, last) (parts_of_48 p.capacity below)

two_words : (n : ℕ) → n % 0x10000 + 0x10000 * (n / 0x10000) ≡ n
two_words n = omega arith

low_sectors_read : (p : Profile) (s : Settings) → double_at (identity p s) 60 ≡ min p.capacity 0x0FFFFFFF
unfolding identity_word transfer_word
low_sectors_read p s =
    let low : word_at (identity p s) 60 ≡ low_sectors p.capacity % 0x10000 = read_word p s 60 (lit< tt) in
    let high : word_at (identity p s) 61 ≡ low_sectors p.capacity / 0x10000 = read_word p s 61 (lit< tt) in
    rw (low, high) (two_words (low_sectors p.capacity))

parts_of_64 : (n : ℕ) → n < 0x10000000000000000 →
    ((n / 0x1000000000000 * 0x10000 + n / 0x100000000 % 0x10000) * 0x10000 + n / 0x10000 % 0x10000) * 0x10000
    + n % 0x10000 ≡ n
parts_of_64 n below = omega (arith, below)

name_read : (p : Profile) (s : Settings) → wwn_number p.wwn < 0x10000000000000000 →
    name_at (identity p s) 108 ≡ wwn_number p.wwn
unfolding identity_word place_word
name_read p s below =
    let a : word_at (identity p s) 108 ≡ wwn_number p.wwn / 0x1000000000000 = read_word p s 108 (lit< tt) in
    let b : word_at (identity p s) 109 ≡ wwn_number p.wwn / 0x100000000 % 0x10000 = read_word p s 109 (lit< tt) in
    let c : word_at (identity p s) 110 ≡ wwn_number p.wwn / 0x10000 % 0x10000 = read_word p s 110 (lit< tt) in
    let d : word_at (identity p s) 111 ≡ wwn_number p.wwn % 0x10000 = read_word p s 111 (lit< tt) in
    rw (a, b, c, d) (parts_of_64 (wwn_number p.wwn) below)

depth_read : (p : Profile) (s : Settings) → 1 ≤ p.depth → word_at (identity p s) 75 + 1 ≡ p.depth
unfolding identity_word feature_word
depth_read p s some =
    let word : word_at (identity p s) 75 ≡ p.depth - 1 = read_word p s 75 (lit< tt) in
    rw word (omega (arith, some))

cache_bit : (look cache : Bool) → bit_of 5 (bits_if look 0x0040 + bits_if cache 0x0020 + 1) ≡ cache
cache_bit true true = refl
cache_bit true false = refl
cache_bit false true = refl
cache_bit false false = refl

look_bit : (look cache : Bool) → bit_of 6 (bits_if look 0x0040 + bits_if cache 0x0020 + 1) ≡ look
look_bit true true = refl
look_bit true false = refl
look_bit false true = refl
look_bit false false = refl

auto_bit : (auto : Bool) → bit_of 2 (bits_if auto 0x0004) ≡ auto
auto_bit true = refl
auto_bit false = refl

trim_bit : (trim : Bool) → bit_of 0 (bits_if trim 1) ≡ trim
trim_bit true = refl
trim_bit false = refl

cache_read : (p : Profile) (s : Settings) → bit_of 5 (word_at (identity p s) 85) ≡ s.write_cache
unfolding identity_word feature_word
cache_read p s =
    let word : word_at (identity p s) 85 ≡ enabled s = read_word p s 85 (lit< tt) in
    ap (bit_of 5) word ∙ cache_bit s.look_ahead s.write_cache

look_ahead_read : (p : Profile) (s : Settings) → bit_of 6 (word_at (identity p s) 85) ≡ s.look_ahead
unfolding identity_word feature_word
look_ahead_read p s =
    let word : word_at (identity p s) 85 ≡ enabled s = read_word p s 85 (lit< tt) in
    ap (bit_of 6) word ∙ look_bit s.look_ahead s.write_cache

auto_read : (p : Profile) (s : Settings) → bit_of 2 (word_at (identity p s) 79) ≡ s.auto_activate
unfolding identity_word feature_word
auto_read p s =
    let word : word_at (identity p s) 79 ≡ bits_if s.auto_activate 0x0004 = read_word p s 79 (lit< tt) in
    ap (bit_of 2) word ∙ auto_bit s.auto_activate

trim_read : (p : Profile) (s : Settings) → bit_of 0 (word_at (identity p s) 169) ≡ p.trim
unfolding identity_word place_word
trim_read p s =
    let word : word_at (identity p s) 169 ≡ bits_if p.trim 1 = read_word p s 169 (lit< tt) in
    ap (bit_of 0) word ∙ trim_bit p.trim

multiple_byte : (m : ℕ) → m ≤ 16 → multiple_word m % 0x100 ≡ m
multiple_byte m most = grind (arith, most)

multiple_read : (p : Profile) (s : Settings) → sectors_in s.multiple ≤ 16 → word_at (identity p s) 59 % 0x100 ≡ sectors_in s.multiple
unfolding identity_word transfer_word
multiple_read p s most =
    let word : word_at (identity p s) 59 ≡ multiple_word (sectors_in s.multiple) = read_word p s 59 (lit< tt) in
    ap (λ w. w % 0x100) word ∙ multiple_byte (sectors_in s.multiple) most

-- texts
both : (a b : Bool) → (a && b) ≡ true → b ≡ true
both true b e = e
both false b e = cc

char_below : (a : Bool) (x : ℕ) → (is_graphic x && a) ≡ true → x < 256
char_below a x e = grind (arith, e)

below_256 : (text : List ℕ) (k : ℕ) → is_text text ≡ true → slice_index text k < 256
below_256 [] k all = lit< tt
below_256 (x ∷ xs) zero all = char_below (is_text xs) x all
below_256 (x ∷ xs) (suc k) all = below_256 xs k (both (is_graphic x) (is_text xs) all)

first_of_pair : (a b : ℕ) → b < 256 → (a * 256 + b) / 256 ≡ a
first_of_pair a b below = omega (arith, below)

second_of_pair : (a b : ℕ) → b < 256 → (a * 256 + b) % 256 ≡ b
second_of_pair a b below = omega (arith, below)

-- words that are the pairs of a text show it
text_shown : (p : Profile) (s : Settings) (n m : ℕ) (text : List ℕ) → is_text text ≡ true → n + m ≤ 250 →
    ((k : ℕ) → k < m → identity_word p s (n + k) ≡ pair text k) → IsTextAt (identity p s) n m text
text_shown p s n m text all within rows =
    let read : (k : ℕ) → k < m → word_at (identity p s) (n + k) ≡ pair text k =
    λ k below. read_word p s (n + k) (omega (arith, within, below)) ∙ rows k below in
    record {
      first = λ k below. ap (λ w. w / 256) (read k below)
          ∙ first_of_pair (slice_index text (2 * k)) (slice_index text (2 * k + 1)) (below_256 text (2 * k + 1) all);
      second = λ k below. ap (λ w. w % 256) (read k below)
          ∙ second_of_pair (slice_index text (2 * k)) (slice_index text (2 * k + 1)) (below_256 text (2 * k + 1) all);
    }

named_word : (p : Profile) (s : Settings) (n : ℕ) → n < 47 → identity_word p s n ≡ name_word p n
unfolding identity_word
named_word p s n below =
    let here : nat_lt n 47 ≡ true = grind (arith, below) in
    rw here refl

serial_row : (p : Profile) (k : ℕ) → k < 10 → name_word p (10 + k) ≡ pair p.serial k
unfolding name_word
serial_row p k below =
    let first : nat_eq (10 + k) 0 ≡ false = grind arith in
    let here : is_from 10 19 (10 + k) ≡ true = grind (arith, below) in
    let at : 10 + k - 10 ≡ k = omega arith in
    rw (first, here, at) refl

firmware_row : (p : Profile) (k : ℕ) → k < 4 → name_word p (23 + k) ≡ pair p.firmware k
unfolding name_word
firmware_row p k below =
    let first : nat_eq (23 + k) 0 ≡ false = grind arith in
    let past : is_from 10 19 (23 + k) ≡ false = grind (arith, below) in
    let here : is_from 23 26 (23 + k) ≡ true = grind (arith, below) in
    let at : 23 + k - 23 ≡ k = omega arith in
    rw (first, past, here, at) refl

model_row : (p : Profile) (k : ℕ) → k < 20 → name_word p (27 + k) ≡ pair p.model k
unfolding name_word
model_row p k below =
    let first : nat_eq (27 + k) 0 ≡ false = grind arith in
    let past : is_from 10 19 (27 + k) ≡ false = grind (arith, below) in
    let later : is_from 23 26 (27 + k) ≡ false = grind (arith, below) in
    let here : is_from 27 46 (27 + k) ≡ true = grind (arith, below) in
    let at : 27 + k - 27 ≡ k = omega arith in
    rw (first, past, later, here, at) refl

serial_read : (p : Profile) (s : Settings) → is_text p.serial ≡ true → IsTextAt (identity p s) 10 10 p.serial
serial_read p s all = text_shown p s 10 10 p.serial all (lit≤ tt)
    (λ k below. named_word p s (10 + k) (omega (arith, below)) ∙ serial_row p k below)

firmware_read : (p : Profile) (s : Settings) → is_text p.firmware ≡ true → IsTextAt (identity p s) 23 4 p.firmware
firmware_read p s all = text_shown p s 23 4 p.firmware all (lit≤ tt)
    (λ k below. named_word p s (23 + k) (omega (arith, below)) ∙ firmware_row p k below)

model_read : (p : Profile) (s : Settings) → is_text p.model ≡ true → IsTextAt (identity p s) 27 20 p.model
model_read p s all = text_shown p s 27 20 p.model all (lit≤ tt)
    (λ k below. named_word p s (27 + k) (omega (arith, below)) ∙ model_row p k below)

-- the last word
mark_at : (words : ℕ → ℕ) (mark last : ℕ) → slice_index ((bytes_of words 510 ++ mark ∷ []) ++ last ∷ []) 510 ≡ mark
mark_at words mark last =
    let long : length (bytes_of words 510) ≡ 510 = long_bytes words 510 in
    let marked : 510 < length (bytes_of words 510 ++ mark ∷ []) =
    grind (arith, long, length-append (bytes_of words 510) (mark ∷ [])) in
    get_or-append (bytes_of words 510 ++ mark ∷ []) (last ∷ []) 0 510 marked
    ∙ get_or-append_right (bytes_of words 510) (mark ∷ []) 510 510 0 long (lit≤ tt)

mark_read : (p : Profile) (s : Settings) → slice_index (identity p s) 510 ≡ 0xA5
unfolding identity
mark_read p s =
    mark_at (identity_word p s) 0xA5 (checksum (bytes_of (identity_word p s) 510 ++ 0xA5 ∷ []))

sum_closes : (n : ℕ) → (n + (256 - n % 256) % 256) % 256 ≡ 0
sum_closes n = omega arith

one_sum : (n : ℕ) → sum (n ∷ []) ≡ n
one_sum n = omega arith

closed_sum : (bytes : List ℕ) → sum (closed bytes) % 256 ≡ 0
unfolding checksum
closed_sum bytes =
    let parts : sum (closed bytes) ≡ sum bytes + sum (checksum bytes ∷ []) =
    sum_by-append (λ (x : ℕ). x) bytes (checksum bytes ∷ []) in
    rw (parts, one_sum (checksum bytes)) (sum_closes (sum bytes))

checksum_read : (p : Profile) (s : Settings) → sum (identity p s) % 256 ≡ 0
unfolding identity
checksum_read p s = closed_sum (bytes_of (identity_word p s) 510 ++ 0xA5 ∷ [])

-- what the types of a profile's and of settings' fields say
pub record AreBounded (p : Profile) (s : Settings) : Type 0 where
  pub serial : is_text p.serial ≡ true
  pub firmware : is_text p.firmware ≡ true
  pub model : is_text p.model ≡ true
  pub sectors : p.capacity < 0x1000000000000
  pub name : wwn_number p.wwn < 0x10000000000000000
  pub depth : 1 ≤ p.depth
  pub multiple : sectors_in s.multiple ≤ 16

pub identity_reads : (p : Profile) (s : Settings) → AreBounded p s → IsIdentityOf p s (identity p s)
identity_reads p s b = record {
  serial = serial_read p s b.serial;
  firmware = firmware_read p s b.firmware;
  model = model_read p s b.model;
  sectors = sectors_read p s b.sectors;
  low_sectors = low_sectors_read p s;
  name = name_read p s b.name;
  depth = depth_read p s b.depth;
  cache = cache_read p s;
  look_ahead = look_ahead_read p s;
  auto_activate = auto_read p s;
  multiple = multiple_read p s b.multiple;
  trim = trim_read p s;
  mark = mark_read p s;
  checksum = checksum_read p s;
}

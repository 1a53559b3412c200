-- What the IDENTIFY DEVICE data claim, and which commands a disk that claims it has to serve (ACS-3, 4, feature sets, and
-- 7.12.7; Serial ATA 3.x, 13.6). A decoder cites `AreServed`: what is claimed is served.
use Rattle.std.specs.Prelude.{ℕ, ◌/◌, ◌%◌, ◌^◌, ◌==◌, ◌&&◌, ◌||◌, not, Bool, true, false, IsTrue, List, [], ◌∷◌, if◌then◌else◌, is_none}
use Rattle.std.specs.List.{list_all, list_any, range_with_len}
use Rattle.ata_command.specs.{Asks.{DiskFacts, asked, setting_of}, Modes.power_on, declared.asked.Asked.{Asked, TheVariants.Refused}}
use Rattle.ata_command.specs.declared.settings.{Multiple.TheVariants.One, Settings.Settings}
use Rattle.disk_pages.specs.{Identity.identity_word, Profiles.facts_of, declared.profile.Profile.Profile}

-- a bit of a word that stands for a feature, and the commands that it promises
pub record Claim : Type 0 where
  pub word : ℕ
  pub bit : ℕ
  pub commands : List ℕ

abbrev pub claim : (word bit : ℕ) → List ℕ → Claim
claim w b codes = record { word = w; bit = b; commands = codes }

-- READ SECTOR(S), WRITE SECTOR(S), READ VERIFY SECTOR(S), IDENTIFY DEVICE and SET FEATURES: every ATA device has them
abbrev pub general : List ℕ
general = 0x20 ∷ 0x30 ∷ 0x40 ∷ 0xEC ∷ 0xEF ∷ []

-- Word 47: READ MULTIPLE, WRITE MULTIPLE, SET MULTIPLE MODE. 49: READ DMA, WRITE DMA. 76: READ and WRITE FPDMA QUEUED,
-- and READ LOG EXT, which ends its errors. 82: SMART; FLUSH CACHE and SET FEATURES; SET FEATURES. 83: READ and WRITE
-- SECTOR(S) EXT, DMA EXT, MULTIPLE EXT, READ VERIFY SECTOR(S) EXT, FLUSH CACHE EXT; FLUSH CACHE; FLUSH CACHE EXT. 84: READ
-- LOG EXT; WRITE DMA FUA EXT and WRITE MULTIPLE FUA EXT; a world wide name, which has no command. 169: DATA SET
-- MANAGEMENT. Bit 14 of words 83 and 84 is 1 in each ATA device.
abbrev pub claims : List Claim
claims =
    claim 0 6 general
    ∷ claim 47 4 (0xC4 ∷ 0xC5 ∷ 0xC6 ∷ [])
    ∷ claim 49 8 (0xC8 ∷ 0xCA ∷ [])
    ∷ claim 76 8 (0x60 ∷ 0x61 ∷ 0x2F ∷ [])
    ∷ claim 82 0 (0xB0 ∷ [])
    ∷ claim 82 5 (0xE7 ∷ 0xEF ∷ [])
    ∷ claim 82 6 (0xEF ∷ [])
    ∷ claim 83 10 (0x24 ∷ 0x34 ∷ 0x25 ∷ 0x35 ∷ 0x29 ∷ 0x39 ∷ 0x42 ∷ 0xEA ∷ [])
    ∷ claim 83 12 (0xE7 ∷ [])
    ∷ claim 83 13 (0xEA ∷ [])
    ∷ claim 83 14 []
    ∷ claim 84 5 (0x2F ∷ [])
    ∷ claim 84 6 (0x3D ∷ 0xCE ∷ [])
    ∷ claim 84 8 []
    ∷ claim 84 14 []
    ∷ claim 169 0 (0x06 ∷ []) ∷ []

abbrev pub bit_of : (bit word : ℕ) → Bool
bit_of b w = w / 2 ^ b % 2 == 1

abbrev pub is_claimed : Profile → Settings → (word bit : ℕ) → Bool
is_claimed p s n b = bit_of b (identity_word p s n)

-- whether a disk that serves these command codes serves what a claim promises, where it makes it
abbrev pub is_kept : Profile → Settings → (served : ℕ → Bool) → Claim → Bool
is_kept p s served c = list_all served c.commands || not (is_claimed p s c.word c.bit)

abbrev pub AreServed : Profile → Settings → (served : ℕ → Bool) → Type 0
AreServed p s served = IsTrue (list_all (is_kept p s served) claims)

abbrev pub has_claim : (word bit : ℕ) → Bool
has_claim n b = list_any (λ (c : Claim). (c.word == n) && (c.bit == b)) claims

-- each of the first 16 bits of this word that is set has its claim
abbrev pub is_covered : (number word : ℕ) → Bool
is_covered n word = list_all (λ b. has_claim n b || not (bit_of b word)) (range_with_len 0 16)

-- a bit that says that something can be set, and the Features and the Count of the SET FEATURES that sets it
pub record Subcommand : Type 0 where
  pub word : ℕ
  pub bit : ℕ
  pub features : ℕ
  pub count : ℕ

abbrev pub sets : (word bit features count : ℕ) → Subcommand
sets w b features count = record { word = w; bit = b; features = features; count = count }

-- Words 63 and 88: the modes of multiword and Ultra DMA. 78: DMA Setup auto-activate. 82: write cache, look-ahead.
abbrev pub subcommands : List Subcommand
subcommands =
    sets 63 0 0x03 0x20 ∷ sets 63 1 0x03 0x21 ∷ sets 63 2 0x03 0x22
    ∷ sets 88 0 0x03 0x40 ∷ sets 88 1 0x03 0x41 ∷ sets 88 2 0x03 0x42 ∷ sets 88 3 0x03 0x43 ∷ sets 88 4 0x03 0x44 ∷ sets 88 5 0x03 0x45
    ∷ sets 88 6 0x03 0x46
    ∷ sets 78 2 0x10 0x02 ∷ sets 78 2 0x90 0x02
    ∷ sets 82 5 0x02 0 ∷ sets 82 5 0x82 0 ∷ sets 82 6 0x55 0 ∷ sets 82 6 0xAA 0 ∷ []

abbrev pub has_subcommand : (word bit : ℕ) → Bool
has_subcommand n b = list_any (λ (c : Subcommand). (c.word == n) && (c.bit == b)) subcommands

-- each of the first 8 bits of this word that is set has its subcommand
abbrev pub is_settable : (number word : ℕ) → Bool
is_settable n word = list_all (λ b. has_subcommand n b || not (bit_of b word)) (range_with_len 0 8)

-- no feature is claimed in words 82 to 84 and 169 that has no claim here, and no mode and no feature of Serial ATA in words 63, 78
-- and 88 that has no subcommand
pub record AreWhole (p : Profile) (s : Settings) : Type 0 where
  pub in_82 : IsTrue (is_covered 82 (identity_word p s 82))
  pub in_83 : IsTrue (is_covered 83 (identity_word p s 83))
  pub in_84 : IsTrue (is_covered 84 (identity_word p s 84))
  pub in_169 : IsTrue (is_covered 169 (identity_word p s 169))
  pub in_63 : IsTrue (is_settable 63 (identity_word p s 63))
  pub in_78 : IsTrue (is_settable 78 (identity_word p s 78))
  pub in_88 : IsTrue (is_settable 88 (identity_word p s 88))

-- ## What the decoder serves

-- a command with this code: of one sector, with the tag 0; SET FEATURES 02h, SMART ENABLE OPERATIONS, and TRIM of one block
abbrev pub example : (code : ℕ) → List ℕ
example code =
    0x27 ∷ 0x80 ∷ code ∷ (if code == 0xEF then 0x02 else (if code == 0xB0 then 0xD8 else 0x01))
    ∷ 0 ∷ (if code == 0xB0 then 0x4F else 0) ∷ (if code == 0xB0 then 0xC2 else 0) ∷ 0x40
    ∷ 0 ∷ 0 ∷ 0 ∷ 0 ∷ 1 ∷ 0 ∷ 0 ∷ 0 ∷ 0 ∷ 0 ∷ 0 ∷ 0 ∷ []

abbrev pub is_refused : Asked → Bool
is_refused (Refused r) = true
is_refused _ = false

-- the decoder of this disk refuses a command with this code not always: READ MULTIPLE and WRITE MULTIPLE want SET MULTIPLE MODE first
abbrev pub is_served : DiskFacts → (code : ℕ) → Bool
is_served d code = not (is_refused (asked (example code) d (record power_on { multiple = One })))

abbrev pub is_set : Settings → Subcommand → Bool
is_set s c = not (is_none (setting_of s.mode c.features c.count))

-- What the data of this disk claim, the decoder serves, and SET FEATURES sets.
pub record AreDecoded (p : Profile) (s : Settings) : Type 0 where
  pub commands : AreServed p s (is_served (facts_of p))
  pub settings : IsTrue (list_all (is_set s) subcommands)

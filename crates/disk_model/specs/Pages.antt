-- The 512 bytes that READ LOG EXT and IDENTIFY DEVICE return (ACS-3, NCQ Command Error log and 7.12).
use Rattle.std.specs.Prelude.{ℕ, ◌+◌, ◌-◌, ◌/◌, ◌%◌, nat_lt, Bool, if◌then◌else◌, List, [], ◌∷◌, ◌++◌, length, replicate, sum, Option, Some, None}
use Rattle.std.specs.Int.{to_le_bytes, w32, w64}
use Rattle.disk_model.specs.declared.{answer.{Fault.{Fault, TheVariants.{Held, Mixed, Failed}}, Page.Page}, plan.{DiskPlan.DiskPlan, Profile.Profile}}
use Rattle.disk_model.specs.declared.plan.Profile.TheVariants.{Bare, Stock}
use Rattle.disk_model.specs.declared.answer.Page.TheVariants as page

-- bytes, followed by zeros up to a length
unfoldable pub filled_to : ℕ → List ℕ → List ℕ
filled_to n bytes = bytes ++ replicate (n - length bytes) 0

-- the byte that makes the sum of all bytes 0 modulo 256
abbrev pub checksum : List ℕ → ℕ
checksum bytes = (256 - sum bytes % 256) % 256

-- The NCQ Command Error log, log 10h, up to the last byte that is not reserved (ACS-3, NCQ Command Error
-- log): NQ and the tag, reserved, Status, Error, LBA 23:0, Device, LBA 47:24, reserved, Count. With NQ, bit 7
-- of byte 0, the rest has no meaning.
abbrev pub error_head : Option Fault → List ℕ
error_head (Some (Failed tag error lba)) =
    tag ∷ 0 ∷ 0x41 ∷ error ∷ lba % 256 ∷ lba / 256 % 256 ∷ lba / 0x10000 % 256 ∷ 0x40 ∷ lba / 0x1000000 % 256
    ∷ lba / 0x100000000 % 256 ∷ lba / 0x10000000000 % 256 ∷ 0 ∷ 0 ∷ 0 ∷ []
error_head (Some Mixed) = 0x80 ∷ []
error_head (Some Held) = 0x80 ∷ []
error_head None = 0x80 ∷ []

-- the log: its last byte is the checksum
unfoldable pub error_log : Option Fault → List ℕ
error_log fault = filled_to 511 (error_head fault) ++ checksum (filled_to 511 (error_head fault)) ∷ []

-- IDENTIFY DEVICE data (ACS-3, 7.12): 256 words of two bytes, the low byte first. In both profiles, word 75 is
-- the queue depth less one. Bit 8 of word 76 says that native command queuing is supported. Words 78 and 79 say
-- what is supported and what is enabled: DMA Setups with an offset other than 0 in bit 1, auto-activate in bit 2.
-- Words 100 to 103 are the number of sectors.
abbrev pub setups_byte : (auto : Bool) → ℕ
setups_byte auto = if auto then 6 else 2

-- words 75 to 79
abbrev pub queuing_words : (auto : Bool) → List ℕ
queuing_words auto = 0x1F ∷ 0 ∷ 0 ∷ 1 ∷ 0 ∷ 0 ∷ setups_byte auto ∷ 0 ∷ setups_byte auto ∷ 0 ∷ []

-- the bare profile: all other words are 0
unfoldable pub bare_data : (sectors : ℕ) (auto : Bool) → List ℕ
bare_data sectors auto =
    filled_to 512 (filled_to 200 (filled_to 150 [] ++ queuing_words auto) ++ to_le_bytes w64 sectors)

-- a hexadecimal digit as an ASCII character
abbrev pub digit : ℕ → ℕ
digit n = if nat_lt n 10 then 0x30 + n else 0x37 + n

-- Words 10 to 19, the serial number: GEFSUNK-0000 and eight digits. The first character of each two is in the
-- high byte of its word.
abbrev pub serial_words : (serial : ℕ) → List ℕ
serial_words serial =
    0x45 ∷ 0x47 ∷ 0x53 ∷ 0x46 ∷ 0x4E ∷ 0x55 ∷ 0x2D ∷ 0x4B ∷ 0x30 ∷ 0x30 ∷ 0x30 ∷ 0x30
    ∷ digit (serial / 0x1000000 % 16) ∷ digit (serial / 0x10000000 % 16)
    ∷ digit (serial / 0x10000 % 16) ∷ digit (serial / 0x100000 % 16)
    ∷ digit (serial / 0x100 % 16) ∷ digit (serial / 0x1000 % 16)
    ∷ digit (serial % 16) ∷ digit (serial / 16 % 16) ∷ []

-- Words 23 to 26, the firmware revision, are 1.0, and words 27 to 46, the model number, GEFSUNK DISK.
abbrev pub names : List ℕ
names =
    0x2E ∷ 0x31 ∷ 0x20 ∷ 0x30 ∷ 0x20 ∷ 0x20 ∷ 0x20 ∷ 0x20
    ∷ 0x45 ∷ 0x47 ∷ 0x53 ∷ 0x46 ∷ 0x4E ∷ 0x55 ∷ 0x20 ∷ 0x4B ∷ 0x49 ∷ 0x44 ∷ 0x4B ∷ 0x53 ∷ replicate 28 0x20

-- Words 47 to 50: no READ MULTIPLE, no trusted computing; DMA, LBA and IORDY are supported.
abbrev pub capabilities : List ℕ
capabilities = 0 ∷ 0x80 ∷ 0 ∷ 0x40 ∷ 0 ∷ 0x0F ∷ 0 ∷ 0x40 ∷ []

-- Words 63 to 68: multiword DMA modes 0 to 2, PIO modes 3 and 4, and cycles of 120 ns.
abbrev pub timings : List ℕ
timings = 7 ∷ 0 ∷ 3 ∷ 0 ∷ 0x78 ∷ 0 ∷ 0x78 ∷ 0 ∷ 0x78 ∷ 0 ∷ 0x78 ∷ 0 ∷ []

-- Words 75 to 79: as in the bare profile, and the speeds of the link, generations 1 to 3 in word 76 and the
-- third of them in word 77.
abbrev pub linked_words : (auto : Bool) → List ℕ
linked_words auto = 0x1F ∷ 0 ∷ 0x0E ∷ 1 ∷ 6 ∷ 0 ∷ setups_byte auto ∷ 0 ∷ setups_byte auto ∷ 0 ∷ []

-- Words 80 to 88: the major versions 4 to 8; no minor one; of the feature sets, SMART (bit 0 of words 82 and 85) and
-- what every disk has; and Ultra DMA modes 0 to 6, the last one chosen.
abbrev pub versions : List ℕ
versions =
    0xF0 ∷ 1 ∷ 0 ∷ 0 ∷ 1 ∷ 0 ∷ 0 ∷ 0x40 ∷ 0 ∷ 0x40 ∷ 1 ∷ 0 ∷ 0 ∷ 0 ∷ 0 ∷ 0x40 ∷ 0x7F ∷ 0x40 ∷ []

-- the stock profile up to word 50: an ATA disk (word 0), and its names
unfoldable pub stock_names : (serial : ℕ) → List ℕ
stock_names serial =
    (filled_to 46 (filled_to 20 (0x40 ∷ 0 ∷ []) ++ serial_words serial) ++ names) ++ capabilities

-- up to word 99: words 64 to 70 and 88 are valid (word 53), and the sectors in 28 bits (words 60 and 61)
unfoldable pub stock_front : (serial sectors : ℕ) (auto : Bool) → List ℕ
stock_front serial sectors auto =
    let sized = filled_to 120 (filled_to 106 (stock_names serial) ++ 6 ∷ 0 ∷ []) ++ to_le_bytes w32 sectors in
    filled_to 200 ((filled_to 150 (filled_to 126 sized ++ timings) ++ linked_words auto) ++ versions)

-- the rest but the last byte: the logical sectors are of 512 bytes (word 106), nothing rotates (word 217), the
-- transport is Serial ATA (word 222), and A5h says that a checksum follows (word 255)
unfoldable pub stock_summed : (serial sectors : ℕ) (auto : Bool) → List ℕ
stock_summed serial sectors auto =
    let sized = filled_to 212 (stock_front serial sectors auto ++ to_le_bytes w64 sectors) ++ 0 ∷ 0x40 ∷ [] in
    filled_to 510 (filled_to 444 (filled_to 434 sized ++ 1 ∷ 0 ∷ []) ++ 0x7F ∷ 0x10 ∷ []) ++ 0xA5 ∷ []

unfoldable pub stock_data : (serial sectors : ℕ) (auto : Bool) → List ℕ
stock_data serial sectors auto =
    stock_summed serial sectors auto ++ checksum (stock_summed serial sectors auto) ∷ []

abbrev pub profile_data : Profile → (sectors : ℕ) (auto : Bool) → List ℕ
profile_data Bare sectors auto = bare_data sectors auto
profile_data (Stock serial) sectors auto = stock_data serial sectors auto

abbrev pub identify_data : (sectors : ℕ) → DiskPlan → List ℕ
identify_data sectors plan = profile_data plan.profile sectors plan.auto

abbrev pub page_bytes : (sectors : ℕ) → DiskPlan → Page → List ℕ
page_bytes sectors plan (page.ErrorLog fault) = error_log fault
page_bytes sectors plan page.Identity = identify_data sectors plan

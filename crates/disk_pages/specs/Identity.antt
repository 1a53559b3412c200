-- IDENTIFY DEVICE data (ACS-3, 7.12.7): 256 words of two bytes, the low byte first. Each word has its row here; a word
-- without one is 0.
use Rattle.std.specs.Prelude.{ℕ, ◌+◌, ◌-◌, ◌/◌, ◌%◌, ◌==◌, ◌&&◌, nat_le, nat_lt, min, Bool, if◌then◌else◌, List, [], ◌∷◌, ◌++◌, Option, Some, None}
use Rattle.ata_command.specs.{Modes.sectors_in, declared.settings.Settings.Settings}
use Rattle.disk_pages.specs.{Texts.pair, Modes.{multiword_bits, ultra_bits}, Profiles.trim_blocks, Bytes.{bytes_of, closed}}
use Rattle.disk_pages.specs.declared.profile.{Profile.Profile, PhysicalSector.{PhysicalSector, TheVariants.{Bytes512, Bytes4096}}, Rotation.Rotation}
use Rattle.disk_pages.specs.declared.profile.Rotation.TheVariants.{Unknown, Solid, Rotates}

-- this bit pattern where it is so, and no bit where not
abbrev pub bits_if : Bool → ℕ → ℕ
bits_if b bits = if b then bits else 0

abbrev pub is_from : (low high n : ℕ) → Bool
is_from low high n = nat_le low n && nat_le n high

-- Words 0 to 46 (7.12.7.2, 7.12.7.10, 7.12.7.14, 7.12.7.15): an ATA device, serial number, firmware revision, model.
unfoldable pub name_word : Profile → ℕ → ℕ
name_word p n =
    (if n == 0 then 0x0040
    else (if is_from 10 19 n then pair p.serial (n - 10)
    else (if is_from 23 26 n then pair p.firmware (n - 23)
    else (if is_from 27 46 n then pair p.model (n - 27) else 0))))

-- word 59: bit 8 says that bits 7:0, the sectors of a DRQ block, are valid
abbrev pub multiple_word : ℕ → ℕ
multiple_word count = if count == 0 then 0 else 0x0100 + count

-- words 60 and 61: the sectors that 28-bit commands reach
abbrev pub low_sectors : ℕ → ℕ
low_sectors sectors = min sectors 0x0FFFFFFF

-- Words 47 to 74 (7.12.7.16 to 7.12.7.32). 47: DRQ blocks of up to 16 sectors. 48: no trusted computing. 49: IORDY, which
-- may be disabled, LBA and DMA. 50: no more of it. 53: words 64 to 70 and word 88 are valid. 59: the DRQ block now. 60, 61:
-- sectors. 63: multiword DMA modes 0 to 2, and the selected one. 64: PIO modes 3 and 4. 65 to 68: cycles of 120 ns.
unfoldable pub transfer_word : Profile → Settings → ℕ → ℕ
transfer_word p s n =
    (if n == 47 then 0x8010
    else (if n == 48 then 0x4000
    else (if n == 49 then 0x0F00
    else (if n == 50 then 0x4000
    else (if n == 53 then 0x0006
    else (if n == 59 then multiple_word (sectors_in s.multiple)
    else (if n == 60 then low_sectors p.capacity % 0x10000
    else (if n == 61 then low_sectors p.capacity / 0x10000
    else (if n == 63 then 0x0007 + multiword_bits s.mode
    else (if n == 64 then 0x0003
    else (if is_from 65 68 n then 120 else 0)))))))))))

-- bit 8 of words 84 and 87: there is a world wide name
abbrev pub name_bit : Option ℕ → ℕ
name_bit None = 0
name_bit (Some wwn) = 0x0100

-- word 85: what is enabled of look-ahead, write cache and SMART
abbrev pub enabled : Settings → ℕ
enabled s = bits_if s.look_ahead 0x0040 + bits_if s.write_cache 0x0020 + 1

-- Words 75 to 99 (7.12.7.33 to 7.12.7.44). 75: the queue depth less one. 76: native command queuing, the speeds of the
-- link. 77: its speed now, the third. 78, 79: DMA Setup auto-activate, and whether it is enabled. 80: the major versions 4
-- to 8. 82, 83, 84: look-ahead, volatile write cache, SMART; FLUSH CACHE EXT, FLUSH CACHE, 48-bit addresses; world wide
-- name, WRITE DMA FUA EXT and its kin, general purpose logging. 85, 86, 87: those of them that are enabled. 88: Ultra DMA
-- modes 0 to 6, and the selected one.
unfoldable pub feature_word : Profile → Settings → ℕ → ℕ
feature_word p s n =
    (if n == 75 then p.depth - 1
    else (if n == 76 then 0x010E
    else (if n == 77 then 0x0006
    else (if n == 78 then 0x0004
    else (if n == 79 then bits_if s.auto_activate 0x0004
    else (if n == 80 then 0x01F0
    else (if n == 82 then 0x0061
    else (if n == 83 then 0x7400
    else (if n == 84 then 0x4060 + name_bit p.wwn
    else (if n == 85 then enabled s
    else (if n == 86 then 0x3400
    else (if n == 87 then 0x4060 + name_bit p.wwn
    else (if n == 88 then 0x007F + ultra_bits s.mode else 0)))))))))))))

-- words 106 and 209: eight logical sectors in a physical one, the first of which is sector 0
abbrev pub physical_word : PhysicalSector → ℕ
physical_word Bytes512 = 0x4000
physical_word Bytes4096 = 0x6003

abbrev pub alignment_word : PhysicalSector → ℕ
alignment_word Bytes512 = 0
alignment_word Bytes4096 = 0x4000

abbrev pub rotation_word : Rotation → ℕ
rotation_word Unknown = 0
rotation_word Solid = 1
rotation_word (Rotates turns) = turns

-- words 108 to 111: the first of them has bits 63:48
abbrev pub wwn_number : Option ℕ → ℕ
wwn_number None = 0
wwn_number (Some wwn) = wwn

-- Words 100 to 254 (7.12.7.49 to 7.12.7.87). 100 to 103: sectors. 105: blocks of ranges that DATA SET MANAGEMENT takes at
-- most. 106: physical sectors. 108 to 111: world wide name. 169: TRIM. 209: alignment. 217: rotation. 222: Serial ATA, up
-- to revision 3.1.
unfoldable pub place_word : Profile → ℕ → ℕ
place_word p n =
    (if n == 100 then p.capacity % 0x10000
    else (if n == 101 then p.capacity / 0x10000 % 0x10000
    else (if n == 102 then p.capacity / 0x100000000 % 0x10000
    else (if n == 105 then trim_blocks p.trim
    else (if n == 106 then physical_word p.physical
    else (if n == 108 then wwn_number p.wwn / 0x1000000000000
    else (if n == 109 then wwn_number p.wwn / 0x100000000 % 0x10000
    else (if n == 110 then wwn_number p.wwn / 0x10000 % 0x10000
    else (if n == 111 then wwn_number p.wwn % 0x10000
    else (if n == 169 then bits_if p.trim 1
    else (if n == 209 then alignment_word p.physical
    else (if n == 217 then rotation_word p.rotation
    else (if n == 222 then 0x107F else 0)))))))))))))

-- words 0 to 254
unfoldable pub identity_word : Profile → Settings → ℕ → ℕ
identity_word p s n =
    (if nat_lt n 47 then name_word p n
    else (if nat_lt n 75 then transfer_word p s n
    else (if nat_lt n 100 then feature_word p s n else place_word p n)))

-- word 255 (7.12.7.88): A5h in its low byte, and the checksum in its high byte
unfoldable pub identity : Profile → Settings → List ℕ
identity p s = closed (bytes_of (identity_word p s) 510 ++ 0xA5 ∷ [])

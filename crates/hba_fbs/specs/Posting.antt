-- Posting (AHCI 1.3.1, 4.2.1, Received FIS Structure), and what a posted FIS sets in the port's registers
-- (3.3.5 PxIS, 3.3.9 PxSIG, 3.3.12 PxSERR, 3.3.15 PxSNTF).
use Rattle.std.specs.Prelude.{ℕ, ◌≡◌, ◌+◌, ◌*◌, ◌%◌, ◌^◌, ◌==◌, ◌&&◌, Bool, true, false, if◌then◌else◌, ◌/◌, bit_or, List, take, drop, Result, Ok}
use Rattle.fis_view.specs.Table as table
use Rattle.fis_view.specs.{Table.field, declared.view.{Fis.Fis, FisFault.FisFault}}
use Rattle.fis_view.specs.declared.view.Fis.TheVariants as view
use Rattle.rx_area.specs.Area as rx
use Rattle.hba_fbs.specs.{declared.registers.Registers.Registers, Bits.bit, Status.is_quiet}

-- ---- the received area

-- the 4 KiB from PxFB on
abbrev pub area_at : List ℕ → ℕ → List ℕ
area_at structure fb = take 0x1000 (drop fb structure)

-- A FIS of a device is posted to its place in the device's own row of the received area. No other byte
-- changes.
pub record Posts (fb dev : ℕ) (fis : Fis) (old new : List ℕ) : Type 0 where
  pub area : area_at new fb ≡ rx.after_post (area_at old fb) dev fis
  pub own : rx.row_of (area_at new fb) dev ≡ rx.row_after (rx.row_of (area_at old fb) dev) fis
  pub others : rx.LeavesOthers dev (area_at old fb) (area_at new fb)
  pub before : take fb new ≡ take fb old
  pub behind : drop (fb + 0x1000) new ≡ drop (fb + 0x1000) old

-- ---- signatures

-- PxSIG, lowest byte first: Count 7:0, LBA 7:0, LBA 15:8 and LBA 23:16
abbrev pub signature_of : List ℕ → ℕ
signature_of f = field table.D2h table.Lba f % 2 ^ 24 * 256 + field table.D2h table.Count f % 256

-- Error is 01h, BSY, DRQ and ERR are 0, Count 7:0 and LBA 7:0 are 01h
abbrev pub is_signature : List ℕ → Bool
is_signature f =
    (field table.D2h table.Error f == 1) && is_quiet (field table.D2h table.Status f)
    && (field table.D2h table.Count f % 256 == 1)
    && (field table.D2h table.Lba f % 256 == 1)

-- it is that of an ATA device: LBA 15:8 and LBA 23:16 are 0
abbrev pub is_ata_signature : List ℕ → Bool
is_ata_signature f = is_signature f && (field table.D2h table.Lba f / 2 ^ 8 % 2 ^ 16 == 0)

-- the FIS is a Register Device to Host FIS with a signature
abbrev pub signs : Result Fis FisFault → Bool
signs (Ok (view.RegD2H f)) = is_signature f
signs fis = false

-- ---- the registers

-- bits of PxIS: Device to Host Register FIS, PIO Setup FIS, DMA Setup FIS and Set Device Bits Interrupt
abbrev pub dhrs : ℕ
dhrs = 0

abbrev pub pss : ℕ
pss = 1

abbrev pub dss : ℕ
dss = 2

abbrev pub sdbs : ℕ
sdbs = 3

-- What a FIS sets as it is posted: I sets the bit of its type in PxIS, a signature that ends a software reset
-- sets PxSIG, N sets the device's bit in PxSNTF, and an unknown type sets DIAG.F in PxSERR.
unfoldable pub posted : Registers → ℕ → (resetting : Bool) → Fis → Registers
posted r dev resetting (view.RegD2H f) = record r {
  interrupts = bit_or r.interrupts (bit dhrs (field table.D2h table.I f == 1));
  signature = (if resetting then signature_of f else r.signature);
}
posted r dev resetting (view.SetBits f) = record r {
  interrupts = bit_or r.interrupts (bit sdbs (field table.Bits table.I f == 1));
  notified = bit_or r.notified (bit dev (field table.Bits table.N f == 1));
}
posted r dev resetting (view.DmaSetup f) =
    record r { interrupts = bit_or r.interrupts (bit dss (field table.Setup table.I f == 1)) }
posted r dev resetting (view.Unknown f) = record r { unknown = true }
posted r dev resetting fis = r

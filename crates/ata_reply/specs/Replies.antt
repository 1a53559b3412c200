-- The FISes of a disk, by their fields (Serial ATA 3.x, 10.5; ACS-3, 6.2, Error, and 6.3, Status). All have PM Port 0.
use Rattle.std.specs.Prelude.{ℕ, ◌≡◌, ◌/◌, ◌%◌, ◌&&◌, ◌||◌, Bool, true, false, not, List, ◌∷◌, Ok, if◌then◌else◌}
use Rattle.fis_view.specs.{Table.{D2h, Bits, Setup, Activate, Pio}, Built.{IsBuilt, d2h_given, set_bits_given, dma_setup_given, dma_activate_given}}
use Rattle.fis_view.specs.{Built.pio_setup_given, Seen.seen}
use Rattle.fis_view.specs.declared.view.Fis.TheVariants as view
use Rattle.ata_reply.specs.declared.reply.{AtaError.{AtaError, TheVariants.{Aborted, NotFound, Uncorrectable, Interface}}, Failure.Failure}
use Rattle.ata_reply.specs.declared.reply.{Announcement.Announcement, Reply.{Reply, TheVariants.{Signature, Accepted, Done, Active, Healthy, Failed}}}
use Rattle.ata_reply.specs.declared.reply.Reply.TheVariants.{Ends, Aborts, SetUp}
use Rattle.ata_reply.specs.declared.reply.SetUp as setup
use Rattle.ata_reply.specs.declared.reply.Reply.TheVariants as reply

-- ABRT, IDNF, UNC, and ICRC with ABRT
abbrev pub code_of : AtaError → ℕ
code_of Aborted = 0x04
code_of NotFound = 0x10
code_of Uncorrectable = 0x40
code_of Interface = 0x84

-- a Register Device to Host FIS
abbrev pub register : (i : Bool) → (status error lba device count : ℕ) → List ℕ → Type 0
register i status error lba device count b = IsBuilt D2h (d2h_given (record {
  pm_port = 0;
  i = i;
  status = status;
  error = error;
  lba = lba;
  device = device;
  count = count;
})) b

-- of an LBA of 28 bits, Device has the highest four
abbrev pub lba_of : Failure → ℕ
lba_of f = if f.wide then f.lba else f.lba % 0x1000000

abbrev pub device_of : Failure → ℕ
device_of f = if f.wide then 0 else f.lba / 0x1000000 % 16

-- a Set Device Bits FIS with I
abbrev pub bits : (status error sactive : ℕ) → List ℕ → Type 0
bits status error sactive b = IsBuilt Bits (set_bits_given (record {
  pm_port = 0;
  n = false;
  i = true;
  status = status;
  error = error;
  sactive = sactive;
})) b

-- A DMA Setup FIS for all bytes of a command. Its buffer identifier is the tag (Serial ATA 3.x, 13.6).
abbrev pub set_up : setup.SetUp → List ℕ → Type 0
set_up s b = IsBuilt Setup (dma_setup_given (record {
  pm_port = 0;
  a = s.auto_activate && not s.to_host;
  i = false;
  d = s.to_host;
  buffer_id = s.tag;
  offset = 0;
  count = s.bytes;
})) b

-- A PIO Setup FIS: Status 58h has DRQ. E_Status is the Status behind the block: after the last one to the host 50h, after any other
-- D0h, which has BSY. The host is interrupted for each block, but for the first that it sends (Serial ATA 3.x, 10.5.11).
abbrev pub announced : Announcement → List ℕ → Type 0
announced a b = IsBuilt Pio (pio_setup_given (record {
  pm_port = 0;
  i = a.to_host || not a.first;
  d = a.to_host;
  status = 0x58;
  error = 0;
  lba = 0;
  device = 0;
  count = 0;
  e_status = if a.to_host && a.last then 0x50 else 0xD0;
  transfer = a.bytes;
})) b

-- a Data FIS
abbrev pub Carries : List ℕ → List ℕ → Type 0
Carries bytes b = (b ≡ 0x46 ∷ 0 ∷ 0 ∷ 0 ∷ bytes) × (seen b ≡ Ok (view.Payload b))

-- The signature has Error 01h, and 1 in Count 7:0 and LBA 7:0 (Serial ATA 3.x, 11.3). An accepted command interrupts nobody. Count FFh
-- says that the disk is active or idle (ACS-3, CHECK POWER MODE); LBA 23:8 C24Fh that no threshold is exceeded (SMART RETURN STATUS).
abbrev pub Shows : Reply → List ℕ → Type 0
Shows Signature b = register false 0x50 1 1 0 1 b
Shows Accepted b = register false 0x50 0 0 0 0 b
Shows Done b = register true 0x50 0 0 0 0 b
Shows Active b = register true 0x50 0 0 0 0xFF b
Shows Healthy b = register true 0x50 0 0xC24F00 0 0 b
Shows (Failed f) b = register true 0x51 (code_of f.error) (lba_of f) (device_of f) 0 b
Shows (Ends tags) b = bits 0x50 0 tags b
Shows (Aborts error) b = bits 0x41 (code_of error) 0 b
Shows (SetUp s) b = set_up s b
Shows reply.Activate b = IsBuilt Activate (dma_activate_given (record { pm_port = 0 })) b
Shows (reply.Announce a) b = announced a b

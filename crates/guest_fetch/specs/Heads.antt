-- The FIS of a command, with its header: Serial ATA 3.x, section 10.5.5 (Register Host to Device FIS); AHCI 1.3.1, section
-- 4.2.3.1 (CFIS).
use Rattle.std.specs.Prelude.{ℕ, ◌*◌, ◌==◌, ◌&&◌, ◌||◌, Bool, true, false, not, nat_le, if◌then◌else◌, List, length, take, slice_index, Option, Some}
use Rattle.std.specs.Prelude.{None, Result, Ok}
use Rattle.fis_view.specs.{Seen.seen, Table.{H2d, PmPort, C, Command, Features, Lba, Device, Count, Icc, Control, field}}
use Rattle.fis_view.specs.declared.{build.H2dFields.H2dFields, view.{Fis.Fis, FisFault.FisFault}}
use Rattle.fis_view.specs.declared.view.Fis.TheVariants as view
use Rattle.hba_commands.specs.Requests.{request_of, sectors, work_of}
use Rattle.slots.specs.declared.work.{Kind.{Kind, TheVariants.{DmaOut, PioOut}}, Work.Work}
use Rattle.guest_fetch.specs.declared.{head.Head.Head, header.Header.Header, refusal.Refusal.Refusal}
use Rattle.guest_fetch.specs.declared.refusal.Refusal.TheVariants as refusal

-- the fields of a command FIS
abbrev pub fields_in : List ℕ → H2dFields
fields_in cfis = record {
  pm_port = field H2d PmPort cfis;
  c = field H2d C cfis == 1;
  command = field H2d Command cfis;
  features = field H2d Features cfis;
  lba = field H2d Lba cfis;
  device = field H2d Device cfis;
  count = field H2d Count cfis;
  icc = field H2d Icc cfis;
  control = field H2d Control cfis;
}

-- the first 20 bytes are a Register Host to Device FIS
abbrev pub is_command_view : Result Fis FisFault → Bool
is_command_view (Ok (view.RegH2D f)) = true
is_command_view fis = false

abbrev pub cfis_of : List ℕ → List ℕ
cfis_of raw = take 20 raw

abbrev pub is_command : List ℕ → Bool
is_command raw = nat_le 20 (length raw) && is_command_view (seen (cfis_of raw))

-- which FISes are not taken: one that is no command, and one whose PM Port is not the header's
abbrev pub fis_refusal : Header → List ℕ → Option Refusal
fis_refusal header raw =
    if not (is_command raw) then Some (refusal.NoCommand (slice_index raw 0) header.dwords)
    else if not ((fields_in (cfis_of raw)).pm_port == header.pm_port)
    then Some (refusal.PmPort (fields_in (cfis_of raw)).pm_port header.pm_port)
    else None

-- Commands that move data beside those that `hba_commands` names (ACS-3, 7.5, DATA SET MANAGEMENT, 06h, 7.64, WRITE DMA FUA EXT, 3Dh, WRITE
-- LOG DMA EXT, 57h, and by PIO WRITE LOG EXT, 3Fh, and WRITE MULTIPLE FUA EXT, CEh): as many blocks of 512 bytes as their Count says.
abbrev pub other_kind : (command : ℕ) → Option Kind
other_kind command =
    if command == 0x06 || command == 0x3D || command == 0x57 then Some DmaOut
    else if command == 0x3F || command == 0xCE then Some PioOut else None

abbrev pub work_by : Option Kind → H2dFields → Work
work_by None f = work_of (request_of f)
work_by (Some kind) f = record { kind = kind; len = 512 * sectors f.count }

abbrev pub asked_work : H2dFields → Work
asked_work f = work_by (if f.c then other_kind f.command else None) f

-- header and FIS as they were supplied, and what they ask for
abbrev pub head_of : Header → List ℕ → Head
head_of header raw = record {
  header = header;
  cfis = cfis_of raw;
  fields = fields_in (cfis_of raw);
  work = asked_work (fields_in (cfis_of raw));
}

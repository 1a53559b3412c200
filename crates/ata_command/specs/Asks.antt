-- What a command asks for (ACS-3, 7; of queued commands also Serial ATA 3.x, 13.6).
use Rattle.std.specs.Prelude.{ℕ, ◌≡◌, ◌+◌, ◌-◌, ◌*◌, ◌/◌, ◌%◌, ◌<◌, ◌≤◌, ◌==◌, ◌&&◌, ◌||◌, nat_le, nat_lt, Bool, true, false, not, List, Option, Some}
use Rattle.std.specs.Prelude.{None, if◌then◌else◌}
use Rattle.fis_view.specs.Table.{H2d, Command, Count, Device, Features, Lba, field}
use Rattle.block_command.specs.declared.command.Command as block
use Rattle.block_command.specs.{declared.command.Protocol.Protocol, Moments.{IsCommand, is_queued}}
use Rattle.block_command.specs.declared.command.Protocol.TheVariants as protocol
use Rattle.ata_reply.specs.declared.reply.AtaError.TheVariants.{Aborted, NotFound}
use Rattle.ata_command.specs.declared.settings.{Multiple.Multiple, Setting.{Setting, TheVariants.{Mode, WriteCache, LookAhead, Reverts}}}
use Rattle.ata_command.specs.declared.settings.{Setting.TheVariants.AutoActivate, Settings.Settings, TransferMode.TransferMode}
use Rattle.ata_command.specs.declared.{opcode.{Opcode.Opcode, Way.Way}, asked.{Asked.Asked, LogPage.LogPage, SmartTask.SmartTask}}
use Rattle.ata_command.specs.{Opcodes.opcode_of, Modes.{mode_after, multiple_of, sectors_in}}
use Rattle.ata_command.specs.declared.opcode.Opcode.TheVariants as code
use Rattle.ata_command.specs.declared.opcode.Transfer as moves
use Rattle.ata_command.specs.declared.opcode.Way.TheVariants as way
use Rattle.ata_command.specs.declared.asked.Asked.TheVariants as ask
use Rattle.ata_command.specs.declared.asked.PowerTask.TheVariants as power
use Rattle.ata_command.specs.declared.asked.SmartTask.TheVariants as smart

-- what of a disk never changes: its sectors, how many queued commands it takes at a time, the most blocks of ranges of a TRIM
pub record DiskFacts : Type 0 where
  pub sectors : ℕ
  pub depth : ℕ
  pub trim_blocks : ℕ

-- a command that is refused for itself
abbrev pub aborted : Asked
aborted = ask.Refused (record { error = Aborted; lba = 0; wide = true; tag = None })

-- ## Sectors

-- LBA 27:24 of a command that is not EXT are in Device 3:0
abbrev pub lba_of : List ℕ → (wide : Bool) → ℕ
lba_of f true = field H2d Lba f
lba_of f false = field H2d Lba f % 0x1000000 + 0x1000000 * (field H2d Device f % 16)

-- a count of 0 stands for all that it could say and one more
abbrev pub sectors_asked : (count all : ℕ) → ℕ
sectors_asked count all = if count == 0 then all else count

abbrev pub count_of : List ℕ → (wide : Bool) → ℕ
count_of f true = sectors_asked (field H2d Count f) 65536
count_of f false = sectors_asked (field H2d Count f % 256) 256

-- IDNF says the first sector that the disk does not have
abbrev pub first_missing : DiskFacts → ℕ → ℕ
first_missing d lba = if nat_lt lba d.sectors then d.sectors else lba

abbrev pub tag_of_place : ℕ → Option ℕ
tag_of_place place = if nat_lt place 32 then Some place else None

-- a command that moves sectors, if the disk has all of them
abbrev pub moved : DiskFacts → block.Command → (wide : Bool) → Asked
moved d c wide = if nat_le (c.lba + c.count) d.sectors then ask.Moves (record { command = c; wide = wide })
    else ask.Refused (record { error = NotFound; lba = first_missing d c.lba; wide = wide; tag = tag_of_place c.place })

-- Features has the count of a queued command, Count 7:3 its tag, and Device 7 FUA
abbrev pub queued : List ℕ → (write : Bool) → DiskFacts → Settings → Asked
queued f write d s =
    if nat_le d.depth (field H2d Count f % 256 / 8)
    then ask.Refused (record { error = Aborted; lba = 0; wide = true; tag = Some (field H2d Count f % 256 / 8) })
    else moved d (record {
      place = field H2d Count f % 256 / 8;
      lba = field H2d Lba f;
      count = sectors_asked (field H2d Features f) 65536;
      write = write;
      lasting = write && ((field H2d Device f / 128 % 2 == 1) || not s.write_cache);
      protocol = protocol.Queued;
      block = 8192;
      auto_activate = write && s.auto_activate;
    }) true

abbrev pub protocol_of : Way → Protocol
protocol_of way.Dma = protocol.Dma
protocol_of way.Single = protocol.Pio
protocol_of way.Multiple = protocol.Pio
protocol_of way.Verify = protocol.Verify

abbrev pub block_of : ℕ → Option ℕ
block_of sectors = if sectors == 0 then None else Some (sectors * 512)

-- the bytes of a Data FIS, or of a DRQ data block
abbrev pub block_in : Way → Multiple → Option ℕ
block_in way.Dma m = Some 8192
block_in way.Single m = Some 512
block_in way.Multiple m = block_of (sectors_in m)
block_in way.Verify m = Some 8192

abbrev pub transferred_by : List ℕ → moves.Transfer → DiskFacts → Settings → Option ℕ → Asked
transferred_by f t d s None = aborted
transferred_by f t d s (Some block) = moved d (record {
  place = 32;
  lba = lba_of f t.wide;
  count = count_of f t.wide;
  write = t.write;
  lasting = t.write && (t.fua || not s.write_cache);
  protocol = protocol_of t.way;
  block = block;
  auto_activate = false;
}) t.wide

-- a read, a write or a verify that is not queued; READ MULTIPLE and WRITE MULTIPLE want SET MULTIPLE MODE first
abbrev pub transferred : List ℕ → moves.Transfer → DiskFacts → Settings → Asked
transferred f t d s = transferred_by f t d s (block_in t.way s.multiple)

-- ## Settings

abbrev pub mode_set : Option TransferMode → Option Setting
mode_set None = None
mode_set (Some mode) = Some (Mode mode)

-- the subcommands of SET FEATURES; Count 02h names DMA Setup auto-activate
abbrev pub setting_of : TransferMode → (feature count : ℕ) → Option Setting
setting_of mode feature count =
    (if feature == 0x02 then Some (WriteCache true)
    else (if feature == 0x82 then Some (WriteCache false)
    else (if feature == 0x03 then mode_set (mode_after mode count)
    else (if feature == 0x10 && count == 2 then Some (AutoActivate true)
    else (if feature == 0x90 && count == 2 then Some (AutoActivate false)
    else (if feature == 0x55 then Some (LookAhead false)
    else (if feature == 0xAA then Some (LookAhead true)
    else (if feature == 0x66 then Some (Reverts false)
    else (if feature == 0xCC then Some (Reverts true) else None)))))))))

abbrev pub sets : Option Setting → Asked
sets None = aborted
sets (Some s) = ask.Sets s

abbrev pub features_set : List ℕ → TransferMode → Asked
features_set f mode = sets (setting_of mode (field H2d Features f % 256) (field H2d Count f % 256))

abbrev pub sets_multiple : Option Multiple → Asked
sets_multiple None = aborted
sets_multiple (Some m) = ask.SetsMultiple m

abbrev pub multiple_set : List ℕ → Asked
multiple_set f = sets_multiple (multiple_of (field H2d Count f % 256))

-- ## Others

-- DATA SET MANAGEMENT: TRIM is bit 0 of Features, all other bits are reserved
abbrev pub trimmed : List ℕ → DiskFacts → Asked
trimmed f d =
    if (field H2d Features f % 256 == 1) && nat_lt 0 (field H2d Count f) && nat_le (field H2d Count f) d.trim_blocks
    then ask.Trims (field H2d Count f) else aborted

-- the log is in LBA 7:0, the page in LBA 15:8 and 39:32
abbrev pub log_page : List ℕ → (dma : Bool) → LogPage
log_page f dma = record {
  log = field H2d Lba f % 256;
  page = field H2d Lba f / 0x100 % 256 + 256 * (field H2d Lba f / 0x100000000 % 256);
  count = field H2d Count f;
  dma = dma;
}

-- the tasks of SMART; self-tests and logs are not there
abbrev pub smart_task : (feature count : ℕ) → Option SmartTask
smart_task feature count =
    (if feature == 0xD0 then Some smart.ReadData
    else (if feature == 0xD1 then Some smart.ReadThresholds
    else (if feature == 0xD2 && (count == 0 || count == 0xF1) then Some smart.Nothing
    else (if feature == 0xD8 then Some smart.Nothing
    else (if feature == 0xDA then Some smart.ReturnStatus else None)))))

abbrev pub does_smart : Option SmartTask → Asked
does_smart None = aborted
does_smart (Some task) = ask.Smart task

-- LBA 23:8 is C24Fh in each of them
abbrev pub smart_asked : List ℕ → Asked
smart_asked f = if field H2d Lba f / 0x100 % 0x10000 == 0xC24F
    then does_smart (smart_task (field H2d Features f % 256) (field H2d Count f % 256)) else aborted

-- ## All commands

abbrev pub asked_by : Opcode → List ℕ → DiskFacts → Settings → Asked
asked_by code.ReadQueued f d s = queued f false d s
asked_by code.WriteQueued f d s = queued f true d s
asked_by (code.Transfer t) f d s = transferred f t d s
asked_by code.Flush f d s = ask.Flushes
asked_by code.SetFeatures f d s = features_set f s.mode
asked_by code.SetMultiple f d s = multiple_set f
asked_by code.DataSet f d s = trimmed f d
asked_by code.Identify f d s = ask.Identifies
asked_by code.ReadLog f d s = ask.ReadsLog (log_page f false)
asked_by code.ReadLogDma f d s = ask.ReadsLog (log_page f true)
asked_by code.Smart f d s = smart_asked f
asked_by code.Standby f d s = ask.Power power.Standby
asked_by code.Idle f d s = ask.Power power.Idle
asked_by code.CheckPower f d s = ask.Power power.Check
asked_by code.Unknown f d s = aborted

-- what the command of these bytes asks for
unfoldable pub asked : List ℕ → DiskFacts → Settings → Asked
asked f d s = asked_by (opcode_of (field H2d Command f)) f d s

-- Sectors that are asked for are there; the queued commands have the tags' places, and the one that is not queued has place 32.
pub record IsMove (d : DiskFacts) (c : block.Command) : Type 0 where
  pub is : IsCommand c
  pub place : c.place < 33
  pub queued : is_queued c.protocol ≡ nat_lt c.place 32
  pub within : c.lba + c.count ≤ d.sectors

abbrev pub IsAsked : DiskFacts → Asked → Type 0
IsAsked d (ask.Moves m) = IsMove d m.command
IsAsked d (ask.Trims blocks) = (0 < blocks) × (blocks ≤ d.trim_blocks)
IsAsked d _ = Unit {0}

-- What a Register Host to Device FIS asks of a disk (ACS-3, commands; Serial ATA 3.x, 10.5.5).
use Rattle.std.specs.Prelude.{ℕ, ◌/◌, ◌%◌, ◌==◌, ◌&&◌, ◌<◌, ◌≤◌, Bool, true, false, List, if◌then◌else◌}
use Rattle.fis_view.specs.Table.{H2d, C, Command, Features, Lba, Count, Control, field}
use Rattle.disk_model.specs.declared.request.Command as queued
use Rattle.disk_model.specs.declared.request.Request.{Request, TheVariants.{Reset, Queue, ReadErrorLog, Identify, Flush, Other}}

-- how many sectors a queued command asks for: 0 in its Features stands for 65,536
abbrev pub sectors_asked : ℕ → ℕ
sectors_asked features = (if features == 0 then 65536 else features)

-- A queued command: its tag is in bits 7:3 of Count (ACS-3, READ FPDMA QUEUED and WRITE FPDMA QUEUED).
abbrev pub queued_command : List ℕ → Bool → queued.Command
queued_command f write = record {
  write = write;
  tag = field H2d Count f % 256 / 8;
  lba = field H2d Lba f;
  count = sectors_asked (field H2d Features f);
}

-- READ LOG EXT asks for the first page of log 10h: log address in LBA 7:0, page in LBA 15:8
abbrev pub names_error_log : List ℕ → Bool
names_error_log f =
    (field H2d Lba f % 256 == 0x10) && ((field H2d Lba f / 256 % 256 == 0) && (field H2d Count f == 1))

-- a command, by its Command register
abbrev pub command_request : List ℕ → ℕ → Request
command_request f code =
    (if code == 0x60 then Queue (queued_command f false)
    else (if code == 0x61 then Queue (queued_command f true)
    else (if (code == 0x2F) && names_error_log f then ReadErrorLog
    else (if code == 0xEC then Identify else (if code == 0xEA then Flush else Other)))))

-- A FIS with C 1 gives a command. One with C 0 writes the Device Control register, whose bit 2 is SRST.
abbrev pub request_of : List ℕ → Request
request_of f = (if field H2d C f == 1 then command_request f (field H2d Command f)
    else Reset (field H2d Control f / 4 % 2 == 1))

-- a command asks for 1 to 65,536 sectors, as many as a count of 16 bits can say
abbrev pub IsCounted : queued.Command → Type 0
IsCounted c = (0 < c.count) × (c.count ≤ 65536)

-- a queued command asks for so many sectors, and has one of 32 tags
abbrev pub Asks : Request → Type 0
Asks (Queue c) = IsCounted c × (c.tag < 32)
Asks (Reset on) = Unit {0}
Asks ReadErrorLog = Unit {0}
Asks Identify = Unit {0}
Asks Flush = Unit {0}
Asks Other = Unit {0}

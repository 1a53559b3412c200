-- What a command FIS, a Register Host to Device FIS (Serial ATA 3.x, 10.5.5), asks for.
use Rattle.std.specs.Prelude.{ℕ, ◌*◌, ◌/◌, ◌%◌, ◌==◌, ◌&&◌, ◌||◌, if◌then◌else◌, Bool, List, slice_index, Option, Some, None}
use Rattle.fis_view.specs.{Table.{H2d, PmPort, C, Command, Features, Count, field}, declared.build.H2dFields.H2dFields}
use Rattle.slots.specs.declared.work.{Work.Work, Kind.{Kind, TheVariants.{QueuedRead, QueuedWrite, DmaIn, DmaOut, PioIn, PioOut, NoData, Control}}}
use Rattle.hba_commands.specs.declared.request.Request.{Request}

-- the fields of these bytes that say what the command is
abbrev pub request_in : List ℕ → Request
request_in fis = record {
  pm_port = field H2d PmPort fis;
  c = field H2d C fis == 1;
  command = field H2d Command fis;
  features = field H2d Features fis;
  count = field H2d Count fis;
}

-- the same, if the type of the FIS, its byte 0, is 27h
abbrev pub request_at : List ℕ → Option Request
request_at fis = if slice_index fis 0 == 0x27 then Some (request_in fis) else None

-- the same, from the fields that a builder is given
abbrev pub request_of : H2dFields → Request
request_of fields = record {
  pm_port = fields.pm_port % 16;
  c = fields.c;
  command = fields.command;
  features = fields.features;
  count = fields.count;
}

-- a page of data (ACS-3): READ LOG EXT of one page, IDENTIFY DEVICE and IDENTIFY PACKET DEVICE
abbrev pub is_page : (command count : ℕ) → Bool
is_page command count = (command == 0x2F && count == 1) || command == 0xEC || command == 0xA1

-- a page of data that SMART (B0h) brings, by the low byte of Features: READ DATA, and the thresholds of older standards
abbrev pub is_smart_page : (command features : ℕ) → Bool
is_smart_page command features = command == 0xB0 && (features % 256 == 0xD0 || features % 256 == 0xD1)

-- READ SECTORS, READ SECTORS EXT, READ MULTIPLE and READ MULTIPLE EXT
abbrev pub reads_sectors : ℕ → Bool
reads_sectors command = command == 0x20 || command == 0x24 || command == 0xC4 || command == 0x29

-- WRITE SECTORS, WRITE SECTORS EXT, WRITE MULTIPLE and WRITE MULTIPLE EXT
abbrev pub writes_sectors : ℕ → Bool
writes_sectors command = command == 0x30 || command == 0x34 || command == 0xC5 || command == 0x39

-- the 48-bit commands among those for sectors and for DMA, READ LOG DMA EXT (47h) among them, whose Count has sixteen
-- bits
abbrev pub is_wide : ℕ → Bool
is_wide command = command == 0x24 || command == 0x29 || command == 0x34 || command == 0x39 || command == 0x25
    || command == 0x35 || command == 0x47

-- what SMART moves, by the low byte of Features: D5h is READ LOG, D6h WRITE LOG, each of Count pages
abbrev pub smart_kind : ℕ → Kind
smart_kind feature =
    if feature == 0xD0 || feature == 0xD1 || feature == 0xD5 then PioIn
    else if feature == 0xD6 then PioOut else NoData

-- The kind of a command code (ACS-3): 60h is READ FPDMA QUEUED, 61h is WRITE FPDMA QUEUED, C8h and 25h are READ
-- DMA and READ DMA EXT, 47h is READ LOG DMA EXT, CAh and 35h WRITE DMA and WRITE DMA EXT, B0h is SMART. Those that are
-- not named move no data here.
abbrev pub kind_of_command : (command features count : ℕ) → Kind
kind_of_command command features count =
    if command == 0x60 then QueuedRead else if command == 0x61 then QueuedWrite
    else if is_page command count || reads_sectors command then PioIn
    else if command == 0xC8 || command == 0x25 || command == 0x47 then DmaIn
    else if command == 0xCA || command == 0x35 then DmaOut
    else if writes_sectors command then PioOut
    else if command == 0xB0 then smart_kind (features % 256) else NoData

-- with C 1 the FIS writes the Command register, with C 0 the Device Control register
abbrev pub kind_of : Request → Kind
kind_of request =
    if request.c then kind_of_command request.command request.features request.count else Control

-- the number of 512-byte sectors in a field of sixteen bits, where 0 stands for 65,536; for a queued command
-- that is its Features
abbrev pub sectors : ℕ → ℕ
sectors features = if features == 0 then 65536 else features

-- the number of sectors of a command that has a Count of eight bits, where 0 stands for 256
abbrev pub few_sectors : ℕ → ℕ
few_sectors count = if count % 256 == 0 then 256 else count % 256

-- the number of sectors of a command for sectors or for DMA: its Count
abbrev pub counted : (command count : ℕ) → ℕ
counted command count = if is_wide command then sectors count else few_sectors count

-- how many bytes a command of a kind moves
abbrev pub length_of : Kind → Request → ℕ
length_of QueuedRead request = 512 * sectors request.features
length_of QueuedWrite request = 512 * sectors request.features
length_of DmaIn request = 512 * counted request.command request.count
length_of DmaOut request = 512 * counted request.command request.count
length_of PioIn request =
    if is_page request.command request.count || is_smart_page request.command request.features then 512
    else 512 * counted request.command request.count
length_of PioOut request = 512 * counted request.command request.count
length_of NoData request = 0
length_of Control request = 0

unfoldable pub work_of : Request → Work
work_of request = record { kind = kind_of request; len = length_of (kind_of request) request }

-- the tag of a queued command: bits 7:3 of its Count
abbrev pub tag_of : Request → ℕ
tag_of request = request.count % 256 / 8

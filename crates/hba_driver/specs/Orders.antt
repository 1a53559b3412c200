-- The driver's own commands as tables: READ PORT MULTIPLIER and WRITE PORT MULTIPLIER (Serial ATA 3.x, port
-- multiplier commands), software reset, IDENTIFY DEVICE and the commands of requests (ACS-3).
use Rattle.std.specs.Prelude.{ℕ, ◌+◌, ◌*◌, ◌/◌, ◌%◌, ◌&&◌, Bool, true, false, nat_lt, nat_le, if◌then◌else◌, Option, Some, None}
use Rattle.fis_view.specs.declared.build.H2dFields.{H2dFields}
use Rattle.slots.specs.Slots.{has_bit, lowest_below, match_some}
use Rattle.hba_driver.specs.declared.order.Order.{Order, TheVariants.{ResetOn, ResetOff, AwaitSignature, CountPorts, SetMask, Enable, Open, Scan}}
use Rattle.hba_driver.specs.declared.{order.Order.TheVariants.{Clear, Detect, Watch}, request.Work.Work, slot.Head.Head}
use Rattle.hba_driver.specs.declared.request.Work.TheVariants as work

-- the control port of the multiplier
abbrev pub control_port : ℕ
control_port = 15

-- a command with these fields, all others 0
abbrev pub command : (port command features lba device count : ℕ) → H2dFields
command port code features lba device count = record {
  pm_port = port;
  c = true;
  command = code;
  features = features;
  lba = lba;
  device = device;
  count = count;
  icc = 0;
  control = 0;
}

-- the Device Control register of a port, in which SRST is bit 2
abbrev pub control : (port value : ℕ) → H2dFields
control port value = record (command port 0 0 0 0 0) { c = false; control = value }

-- READ PORT MULTIPLIER of a register of a port, or of the multiplier itself, port Fh
abbrev pub reads : (port register : ℕ) → H2dFields
reads port register = command control_port 0xE4 register 0 port 0

-- WRITE PORT MULTIPLIER: the low byte of the value is in Count, the others are in LBA
abbrev pub writes : (port register value : ℕ) → H2dFields
writes port register value = command control_port 0xE8 register (value / 256) port (value % 256)

-- registers of the multiplier: GSCR[2] has the number of its ports, GSCR[32] a bit for each port with an
-- error, GSCR[33] the bits of PSCR[1] that count as an error, GSCR[96] the enabled features
abbrev pub port_count : ℕ
port_count = 2

abbrev pub error_ports : ℕ
error_ports = 32

abbrev pub error_mask : ℕ
error_mask = 33

abbrev pub features_on : ℕ
features_on = 96

-- registers of a port: PSCR[0] SStatus, PSCR[1] SError, PSCR[2] SControl
abbrev pub sstatus : ℕ
sstatus = 0

abbrev pub serror : ℕ
serror = 1

abbrev pub scontrol : ℕ
scontrol = 2

-- the bits N (16) and X (26) of SError: a device came or went
abbrev pub changes : ℕ
changes = 0x04010000

-- the command that slot 31 issues for an order, None if it issues nothing
unfoldable pub order_fields : Order → Option H2dFields
order_fields ResetOn = Some (control control_port 4)
order_fields ResetOff = Some (control control_port 0)
order_fields AwaitSignature = None
order_fields CountPorts = Some (reads control_port port_count)
order_fields SetMask = Some (writes control_port error_mask changes)
order_fields Enable = Some (writes control_port features_on 8)
order_fields (Open port) = Some (writes port scontrol 0)
order_fields Scan = Some (reads control_port error_ports)
order_fields (Clear port) = Some (writes port serror changes)
order_fields (Detect port) = Some (reads port sstatus)
order_fields Watch = None

-- the scan goes on with the lowest port from this one on that GSCR[32] named; if there is none, it is over
unfoldable pub scan_from : (found : ℕ) → ℕ → Order
scan_from found from =
    match_some (lowest_below (λ port. nat_le from port && has_bit found port) 15) Watch Clear

-- the first port is opened, if there is one
abbrev pub open_from : (ports : ℕ) → ℕ → Order
open_from ports from = if nat_lt from ports then Open from else Scan

-- the order after the answer to an order, for a multiplier with this many ports, of which the last scan found
-- these
unfoldable pub next_order : (ports found : ℕ) → Order → Order
next_order ports found ResetOn = ResetOff
next_order ports found ResetOff = AwaitSignature
next_order ports found AwaitSignature = CountPorts
next_order ports found CountPorts = SetMask
next_order ports found SetMask = Enable
next_order ports found Enable = open_from ports 0
next_order ports found (Open port) = open_from ports (port + 1)
next_order ports found Scan = scan_from found 0
next_order ports found (Clear port) = Detect port
next_order ports found (Detect port) = scan_from found (port + 1)
next_order ports found Watch = Scan

-- ---- devices

-- IDENTIFY DEVICE
abbrev pub identify_fields : (dev : ℕ) → H2dFields
identify_fields dev = command dev 0xEC 0 0 0 0

-- READ LOG EXT of the first page of the NCQ Command Error log, whose address is 10h
abbrev pub log_fields : (dev : ℕ) → H2dFields
log_fields dev = command dev 0x2F 0 0x10 0 1

-- READ FPDMA QUEUED and WRITE FPDMA QUEUED have their length in Features, and their tag, the slot, in bits
-- 7:3 of Count
abbrev pub work_fields : (slot : ℕ) → Work → (dev lba sectors : ℕ) → H2dFields
work_fields slot work.Read dev lba sectors = command dev 0x60 sectors lba 0x40 (8 * slot)
work_fields slot work.Write dev lba sectors = command dev 0x61 sectors lba 0x40 (8 * slot)
work_fields slot work.Flush dev lba sectors = command dev 0xEA 0 0 0 0

-- the command of a request in a slot
unfoldable pub request_fields : (slot : ℕ) → Head → H2dFields
request_fields slot head = work_fields slot head.work head.dev head.lba head.sectors

-- reads and writes are queued
abbrev pub is_queued : Work → Bool
is_queued work.Read = true
is_queued work.Write = true
is_queued work.Flush = false

abbrev pub is_flush : Work → Bool
is_flush work.Read = false
is_flush work.Write = false
is_flush work.Flush = true

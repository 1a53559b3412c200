-- What a tick sees of the port and of memory: AHCI 1.3.1, section 3.3 (registers) and 4.2.1 (received FISes);
-- Serial ATA 3.x, 10.5.6 (signatures); ACS-3, IDENTIFY DEVICE.
use Rattle.std.specs.Prelude.{ℕ, ◌+◌, ◌*◌, ◌/◌, ◌%◌, ◌^◌, ◌==◌, ◌&&◌, Bool, false, not, if◌then◌else◌, bit_or, ◌||◌, List, map, take, drop}
use Rattle.std.specs.{Prelude.{slice_index, sum, Option, Some, None, Result, Ok}, List.range_with_len, Result.result_unwrap_or}
use Rattle.fis_view.specs.{Seen.seen, Table.field, declared.{view.Fis.Fis, view.FisFault.FisFault}}
use Rattle.fis_view.specs.Table as table
use Rattle.fis_view.specs.declared.view.Fis.TheVariants as view
use Rattle.host_memory.specs.Memory.{Memory}
use Rattle.slots.specs.Slots.{has_bit}
use Rattle.hba_fbs.specs.{Posting.is_ata_signature, Reading.read_at, Views.{Port, view_of}}
use Rattle.hba_driver.specs.declared.{mode.Mode.{Mode, TheVariants.{Switching, CommandBased}}, path.TaskFile.TaskFile, sight.ErrorLog.ErrorLog}
use Rattle.hba_driver.specs.Seeing.{Sight}

-- the value of the register at an offset
unfoldable pub shown : Port → ℕ → ℕ
shown port offset = result_unwrap_or (read_at port offset) 0

-- the last Register Device to Host FIS of a PM Port: at 40h of its row of the received area, which is at
-- 1000h
abbrev pub last_d2h : List ℕ → ℕ → List ℕ
last_d2h structure dev = take 20 (drop (4160 + 256 * dev) structure)

-- a register's value in the answer of the multiplier, or its signature as a number; lowest byte first: Count
-- 7:0, LBA 7:0, LBA 15:8 and LBA 23:16
abbrev pub answer_in : Result Fis FisFault → ℕ
answer_in (Ok (view.RegD2H f)) =
    field table.D2h table.Lba f % 2 ^ 24 * 256 + field table.D2h table.Count f % 2 ^ 8
answer_in _ = 0

-- the signature of an ATA device
abbrev pub is_ata : Result Fis FisFault → Bool
is_ata (Ok (view.RegD2H f)) = is_ata_signature f
is_ata _ = false

-- the IDENTIFY data in the driver's buffer, at the start of the client area, is that of a device for queued
-- commands: word 76 has bit 8, and word 75 says a queue of 32
abbrev pub is_usable : List ℕ → Bool
is_usable client = (slice_index client 153 % 2 == 1) && (slice_index client 150 % 32 == 31)

-- The NCQ Command Error log in that buffer. It is whole if its 512 bytes add up to 0 modulo 256. Bit 7 of
-- byte 0 is NQ: the command that failed was not queued. Otherwise bits 4:0 are its tag. Byte 2 is Status,
-- byte 3 Error.
abbrev pub log_in : List ℕ → ErrorLog
log_in client = record {
  whole = sum (take 512 client) % 256 == 0;
  unqueued = slice_index client 0 / 128 % 2 == 1;
  tag = slice_index client 0 % 32;
  status = slice_index client 2;
  error = slice_index client 3;
}

-- the offsets of registers of the port
abbrev pub px_clb : ℕ
px_clb = 0x00

abbrev pub px_clbu : ℕ
px_clbu = 0x04

abbrev pub px_fb : ℕ
px_fb = 0x08

abbrev pub px_fbu : ℕ
px_fbu = 0x0C

abbrev pub px_is : ℕ
px_is = 0x10

abbrev pub px_cmd : ℕ
px_cmd = 0x18

abbrev pub px_tfd : ℕ
px_tfd = 0x20

abbrev pub px_sact : ℕ
px_sact = 0x34

abbrev pub px_ci : ℕ
px_ci = 0x38

abbrev pub px_sntf : ℕ
px_sntf = 0x3C

abbrev pub px_fbs : ℕ
px_fbs = 0x40

-- PxIS.HBFS with PxFBS.SDE 0: a fault has stopped the whole port
abbrev pub is_stopped : (is fbs : ℕ) → Bool
is_stopped is fbs = has_bit is 29 && not (has_bit fbs 2)

-- PxFBS.SDE and DWE: the device with a fault, if there is one
abbrev pub faulty_in : (fbs : ℕ) → Option ℕ
faulty_in fbs = if has_bit fbs 2 then Some (fbs / 2 ^ 16 % 16) else None

-- With command-based switching each fault stops the port: PxIS.OFS, IFS, HBFS or TFES. A notification does
-- while something is issued in a slot of a device, 0 to 30, since the scan could not be issued beside it.
abbrev pub is_stopped_alone : (is : ℕ) → (notified : Bool) → (issued : ℕ) → Bool
is_stopped_alone is notified issued =
    has_bit is 24 || has_bit is 27 || has_bit is 29 || has_bit is 30
    || (notified && not (issued % 0x80000000 == 0))

-- the port is stopped, or to be stopped
abbrev pub stopped_by : Mode → Port → (notified : Bool) → (issued : ℕ) → Bool
stopped_by Switching port notified issued = is_stopped (shown port px_is) (shown port px_fbs)
stopped_by CommandBased port notified issued = is_stopped_alone (shown port px_is) notified issued

-- the device whose fault is to be cleared
abbrev pub faulty_for : Mode → Port → Option ℕ
faulty_for Switching port = faulty_in (shown port px_fbs)
faulty_for CommandBased port = None

-- the row of the received area in which the answers of the multiplier are posted
abbrev pub answer_row : Mode → ℕ
answer_row Switching = 15
answer_row CommandBased = 0

-- the devices whose signature came: it stands in the device's row, or was heard
abbrev pub signed_by : Mode → Port → Memory → List Bool
signed_by Switching port memory =
    map (λ dev. is_ata (seen (last_d2h memory.structure dev))) (range_with_len 0 16)
signed_by CommandBased port memory =
    map (λ dev. (view_of dev port).state.signed) (range_with_len 0 16)

-- PxTFD: Status in bits 7:0, Error in bits 15:8
abbrev pub file_in : (tfd : ℕ) → TaskFile
file_in tfd = record { status = tfd % 256; error = tfd / 256 % 256 }

-- the task file that the port shows, of the device in PxFBS.DEV
abbrev pub file_shown : Port → TaskFile
file_shown port = file_in (shown port px_tfd)

unfoldable pub sight_of : Mode → Port → Memory → Sight
sight_of mode port memory = record {
  issued = bit_or (shown port px_ci) (shown port px_sact);
  stopped = stopped_by mode port (has_bit (shown port px_sntf) 15)
      (bit_or (shown port px_ci) (shown port px_sact));
  faulty = faulty_for mode port;
  resetting = (view_of 15 port).state.resetting;
  in_reset = map (λ dev. (view_of dev port).state.resetting) (range_with_len 0 16);
  notified = has_bit (shown port px_sntf) 15;
  answer = answer_in (seen (last_d2h memory.structure (answer_row mode)));
  signed = signed_by mode port memory;
  usable = is_usable memory.client;
  log = log_in memory.client;
}

-- What a FIS to the control port requests (Serial ATA 3.x, 16.2: READ PORT MULTIPLIER, WRITE PORT MULTIPLIER;
-- software reset of the control port).
use Rattle.std.specs.Prelude.{◌≡◌, ℕ, ◌+◌, ◌*◌, ◌%◌, ◌==◌, if◌then◌else◌, bit_and, List, Option, Some, None, Result, Ok, Err}
use Rattle.fis_view.specs.{Table.{H2d, C, Command, Features, Device, Lba, Count, Control, field}, Seen.seen, declared.view.Fis.Fis}
use Rattle.fis_view.specs.declared.view.FisFault.{FisFault}
use Rattle.fis_view.specs.declared.view.Fis.TheVariants as view
use Rattle.pm_control.specs.declared.request.{Address.Address, Request.{Request, TheVariants.{Read, Write, Unknown, Reset, EndReset}}}

-- the port is in Device 3:0, the number of the register in Features
abbrev pub address_in : List ℕ → Address
address_in f = record { port = field H2d Device f % 16; register = field H2d Features f }

-- the bytes of the value, the low byte first, are in Count 7:0, LBA 7:0, LBA 15:8 and LBA 23:16
abbrev pub value_in : List ℕ → ℕ
value_in f = field H2d Count f % 256 + 256 * (field H2d Lba f % 0x1000000)

-- with C set the FIS writes the Command register, with C clear the Device Control register, whose bit 2 is
-- SRST
abbrev pub requested : List ℕ → Request
requested f =
    (if field H2d C f == 1
    then (if field H2d Command f == 0xE4 then Read (address_in f) else if field H2d Command f == 0xE8
    then Write (address_in f) (value_in f) else Unknown)
    else (if bit_and (field H2d Control f) 4 == 0 then EndReset else Reset))

abbrev pub request_under : Result Fis FisFault → Option Request
request_under (Ok (view.RegH2D f)) = Some (requested f)
request_under (Ok fis) = None
request_under (Err fault) = None

-- a frame that gives a command: a Register Host to Device FIS with C set
abbrev pub IsCommand : List ℕ → Type 0
IsCommand bytes = (seen bytes ≡ Ok (view.RegH2D bytes)) × (field H2d C bytes ≡ 1)

-- a frame that is not a Register Host to Device FIS, or has a wrong length, requests nothing
abbrev pub request_in : List ℕ → Option Request
request_in bytes = request_under (seen bytes)

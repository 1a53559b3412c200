-- The registers of one device port (Serial ATA 3.x, 14.1: SStatus, SError and SControl; 16.4.2: PSCR[0],
-- PSCR[1] and PSCR[2] are these three), and what happens to them when a device comes or goes and when
-- SControl is written.
use Rattle.std.specs.Prelude.{◌≡◌, ℕ, ◌%◌, Bool, true, false, ◌==◌, ◌&&◌, if◌then◌else◌, bit_and, bit_or, Option, Some, None}
use Rattle.pm_registers.specs.{Bits.without, declared.port.PortRegisters.PortRegisters}

-- the field DET, bits 3:0 of SStatus and of SControl
abbrev pub det : ℕ → ℕ
det x = x % 16

-- the bits N (PhyRdy changed) and X (a device was exchanged) of SError
abbrev pub bit_n : ℕ
bit_n = 0x10000

abbrev pub bit_x : ℕ
bit_x = 0x4000000

-- offline, without a device
abbrev pub opening_port : PortRegisters
opening_port = record { status = 4; error = 0; control = 4; present = false }

-- open, without a device, or with one whose link came up before anything was counted as a change
abbrev pub open_port : Bool → PortRegisters
open_port present =
    record { status = (if present then 0x133 else 0); error = 0; control = 0; present = present }

-- the registers by their numbers
abbrev pub pscr : PortRegisters → ℕ → Option ℕ
pscr p register = (if register == 0 then Some p.status else if register == 1 then Some p.error
    else if register == 2 then Some p.control else None)

-- DET of SControl is 0; any other value closes the port
abbrev pub is_open : PortRegisters → Bool
is_open p = det p.control == 0

-- an open port and a device meet: N and X are set, and SStatus shows the device
abbrev pub met : PortRegisters → PortRegisters
met p = record p { status = 0x133; error = bit_or (bit_or p.error bit_n) bit_x }

-- a closed port opens: it meets the device, or SStatus shows that there is none
abbrev pub opened : PortRegisters → PortRegisters
opened p = if p.present then met p else record p { status = 0 }

-- A write to SControl stores the value. DET 0 opens the port if it was closed. DET 4 takes it offline. Any
-- other value closes it with SStatus 0.
abbrev pub controlled : PortRegisters → ℕ → PortRegisters
controlled p value =
    let next : PortRegisters = record p { control = value } in
    (if is_open next then (if is_open p then next else opened next)
    else record next { status = (if det value == 4 then 4 else 0) })

-- A write to a register: ones clear bits of SError, SControl acts, and SStatus is read-only.
abbrev pub port_written : PortRegisters → ℕ → ℕ → PortRegisters
port_written p register value =
    (if register == 1 then record p { error = without p.error value } else if register == 2
    then controlled p value else p)

-- a device comes; a closed port does not see it
abbrev pub inserted : PortRegisters → PortRegisters
inserted p = let next : PortRegisters = record p { present = true } in (if is_open p then met next else next)

-- the device goes; a closed port does not see it
abbrev pub removed : PortRegisters → PortRegisters
removed p =
    let next : PortRegisters = record p { present = false } in
    (if is_open p then record next { status = 0; error = bit_or p.error bit_n } else next)

-- bits of SError are set
abbrev pub raised : PortRegisters → ℕ → PortRegisters
raised p bits = record p { error = bit_or p.error bits }

-- whether FISes pass the port, in either direction: it is open, communication is established, and the host
-- has seen and cleared every exchange of the device
abbrev pub passes : PortRegisters → Bool
passes p = is_open p && det p.status == 3 && bit_and p.error bit_x == 0

-- SStatus shows that communication is established (DET 3) only where the port is open and a device is present
abbrev pub ShowsTruly : PortRegisters → Type 0
ShowsTruly p = det p.status ≡ 3 → (is_open p ≡ true) × (p.present ≡ true)

-- The registers of a port multiplier (Serial ATA 3.x, 16.4), as a finite map from a port and a number to a
-- value.
use Rattle.std.specs.Prelude.{◌≡◌, ◌≤◌, ℕ, Bool, true, false, not, ◌==◌, ◌&&◌, ◌||◌, nat_lt, if◌then◌else◌, bit_and, List, length, replicate}
use Rattle.std.specs.Prelude.{slice_set, slice_index_or, Option, Some, None, ok_or, is_some, Result, Err}
use Rattle.pm_registers.specs.{Bits.{without, shares, rises, bits_where}, declared.port.PortRegisters.PortRegisters}
use Rattle.pm_registers.specs.{declared.words.RegisterError.{RegisterError, TheVariants.{NoPort, NoRegister}}, Port.{opening_port, open_port, pscr}}
use Rattle.pm_registers.specs.Port.{port_written, inserted, removed, raised, passes, ShowsTruly}

-- what a multiplier holds: the number of its device ports, GSCR[33], GSCR[96], the registers of the ports
-- (those from `ports` on do not exist), and whether a notification is due
pub record RegisterMap : Type 0 where
  pub ports : ℕ
  pub mask : ℕ
  pub enabled : ℕ
  pub bank : List PortRegisters
  pub due : Bool

-- the PM Port of the control port, Fh
abbrev pub control_port : ℕ
control_port = 15

abbrev pub opening : ℕ → RegisterMap
opening ports =
    record { ports = ports; mask = 0x400FFFF; enabled = 0; bank = replicate 15 opening_port; due = false }

abbrev pub port_at : RegisterMap → ℕ → PortRegisters
port_at m n = slice_index_or m.bank n opening_port

-- what holds for every map: there are at most 15 device ports, and each shows its device truly
pub record IsSound (m : RegisterMap) : Type 0 where
  pub ports : m.ports ≤ 15
  pub bank : length m.bank ≡ 15
  pub shown : (n : ℕ) → ShowsTruly (port_at m n)

-- whether FISes pass device port n, in both directions; a port that does not exist passes none
abbrev pub forwards : RegisterMap → ℕ → Bool
forwards m n = nat_lt n m.ports && passes (port_at m n)

-- ---- reading

-- whether a port needs attention: its SError and GSCR[33] share a set bit
abbrev pub asks : RegisterMap → ℕ → Bool
asks m n = shares (port_at m n).error m.mask

-- GSCR[32]: bit n is set where device port n needs attention
abbrev pub summary : RegisterMap → ℕ
summary m = bits_where (asks m) m.ports

-- 16.4.1: the general status and control registers
abbrev pub gscr : RegisterMap → ℕ → Option ℕ
gscr m register =
    (if register == 0 then Some 0x10015241 else if register == 1 then Some 0xE else if register == 2
    then Some m.ports
    else if register == 32 then Some (summary m) else if register == 33 then Some m.mask
    else if register == 64 then Some 8 else if register == 96 then Some m.enabled else None)

abbrev pub has_port : RegisterMap → ℕ → Bool
has_port m port = port == control_port || nat_lt port m.ports

-- the register map, which is finite
abbrev pub register_at : RegisterMap → ℕ → ℕ → Option ℕ
register_at m port register =
    (if port == control_port then gscr m register else if nat_lt port m.ports
    then pscr (port_at m port) register else None)

-- its value, or the refusal: a port that does not exist is refused before a register that does not exist
abbrev pub read_at : RegisterMap → ℕ → ℕ → Result ℕ RegisterError
read_at m port register =
    (if has_port m port then ok_or (register_at m port register) NoRegister else Err NoPort)

-- ---- which bits a write changes

-- what a write of a value does to the register that it names
pub data WriteRule : Type 0 where
  -- nothing
  ReadOnly : WriteRule
  -- these bits of the value are stored; the others become 0
  Stores : ℕ → WriteRule
  -- ones in the value clear bits
  OnesClear : WriteRule

-- the table of write rules
abbrev pub write_rule : ℕ → ℕ → WriteRule
write_rule port register =
    (if port == control_port
    then (if register == 33 then Stores 0xFFFFFFFF else if register == 96 then Stores 8 else ReadOnly)
    else (if register == 1 then OnesClear else if register == 2 then Stores 0xFFFFFFFF else ReadOnly))

-- the register's value after a write of a value
abbrev pub after_rule : WriteRule → ℕ → ℕ → ℕ
after_rule ReadOnly old value = old
after_rule (Stores mask) old value = bit_and value mask
after_rule OnesClear old value = without old value

-- which registers a write can change: the one that it names, those that SControl acts on, and GSCR[32], which
-- is computed from others
abbrev pub may_change : ℕ → ℕ → ℕ → ℕ → Bool
may_change port register p r =
    p == control_port && r == 32 || p == port && (r == register || not (port == control_port) && register == 2
    && nat_lt r 2)

-- ---- what each call does

abbrev pub with_port : RegisterMap → ℕ → PortRegisters → RegisterMap
with_port m n p = record m { bank = slice_set m.bank n p }

-- 16.3.3, booting with legacy software: device port 0 is enabled from the start
abbrev pub opening_with_port_0 : ℕ → Bool → RegisterMap
opening_with_port_0 ports present = with_port (opening ports) 0 (open_port present)

-- bit 3 of GSCR[96]
abbrev pub notifies : RegisterMap → Bool
notifies m = shares m.enabled 8

-- at the end of a call that began with this GSCR[32]: a notification is due where it was before, and where
-- notifications are enabled and a bit of GSCR[32] went from 0 to 1
abbrev pub settled : ℕ → RegisterMap → RegisterMap
settled before m = record m { due = m.due || notifies m && rises before (summary m) }

abbrev pub control_written : RegisterMap → ℕ → ℕ → RegisterMap
control_written m register value =
    (if register == 33 then record m { mask = value } else if register == 96
    then record m { enabled = bit_and value 8 } else m)

abbrev pub written : RegisterMap → ℕ → ℕ → ℕ → RegisterMap
written m port register value =
    (if port == control_port then control_written m register value
    else with_port m port (port_written (port_at m port) register value))

-- a write; a refused write changes nothing
abbrev pub after_write : RegisterMap → ℕ → ℕ → ℕ → RegisterMap
after_write m port register value =
    (if is_some (register_at m port register) then settled (summary m) (written m port register value) else m)

-- a device comes to a port, or goes
abbrev pub after_insert : RegisterMap → ℕ → RegisterMap
after_insert m n = settled (summary m) (with_port m n (inserted (port_at m n)))

abbrev pub after_remove : RegisterMap → ℕ → RegisterMap
after_remove m n = settled (summary m) (with_port m n (removed (port_at m n)))

-- bits of a port's SError are set
abbrev pub after_raise : RegisterMap → ℕ → ℕ → RegisterMap
after_raise m n bits = settled (summary m) (with_port m n (raised (port_at m n) bits))

-- the notification is made
abbrev pub after_notice : RegisterMap → RegisterMap
after_notice m = record m { due = false }

-- the notification that was made is taken back: one is due again
abbrev pub after_restore : RegisterMap → RegisterMap
after_restore m = record m { due = true }

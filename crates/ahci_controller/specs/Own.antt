-- The registers of the port that the controller has beside those of the core: AHCI 1.3.1, sections 3.3.1 to 3.3.4 (addresses)
-- and 3.3.7 (PxCMD), 5.3.2 (a port starts) and 10.3.1 (when software may write ST).
use Rattle.std.specs.Prelude.{ℕ, ◌+◌, ◌*◌, ◌/◌, ◌%◌, ◌^◌, ◌==◌, ◌&&◌, ◌||◌, Bool, false, not, if◌then◌else◌}
use Rattle.slots.specs.Slots.{has_bit}
use Rattle.hba_fbs.specs.{Bits.{st, fre, fr, cr, pma, fbscp}, declared.registers.Registers.Registers}
use Rattle.ahci_controller.specs.declared.own.{Base.Base, OwnRegisters.OwnRegisters}

abbrev pub no_base : Base
no_base = record { lower = 0; upper = 0 }

abbrev pub opening_own : OwnRegisters
opening_own = record {
  list = no_base;
  area = no_base;
  list_used = no_base;
  area_used = no_base;
  starts = false;
  receives = false;
  multiplied = false;
  current = 0;
  errors = 0;
  bad = 0;
}

-- a reset of the controller keeps the addresses
abbrev pub reset_own : OwnRegisters → OwnRegisters
reset_own own = record opening_own { list = own.list; area = own.area }

-- with another address
abbrev pub own_list : OwnRegisters → (lower upper : ℕ) → OwnRegisters
own_list own lower upper = record own { list = record { lower = lower; upper = upper } }

abbrev pub own_area : OwnRegisters → (lower upper : ℕ) → OwnRegisters
own_area own lower upper = record own { area = record { lower = lower; upper = upper } }

-- a command that cannot be served stopped the port
abbrev pub is_failed : OwnRegisters → Bool
is_failed own = not (own.bad == 0)

-- the command list is aligned to 1024 bytes, and the received area to 256
abbrev pub list_of : OwnRegisters → ℕ
list_of own = own.list_used.lower / 1024 * 1024 + own.list_used.upper * 2 ^ 32

abbrev pub area_of : OwnRegisters → ℕ
area_of own = own.area_used.lower / 256 * 256 + own.area_used.upper * 2 ^ 32

-- a write of PxCMD: ST, FRE and PMA are kept as they are written
abbrev pub commanded : OwnRegisters → ℕ → OwnRegisters
commanded own value = record own {
  starts = has_bit value st;
  receives = has_bit value fre;
  multiplied = has_bit value pma;
}

-- these bits, or none
abbrev pub bits_if : Bool → ℕ → ℕ
bits_if set bits = if set then bits else 0

-- FRE of the core: as it was written, and 1 as long as ST is 1
abbrev pub receives_now : OwnRegisters → Registers → Bool
receives_now own r = own.receives || (own.starts && r.started)

-- The port runs from here on: ST and FRE were written, and PxTFD shows neither BSY nor DRQ as it starts. Until then ST is held:
-- the port does not run (P:NotRunning, 5.3.2), so it takes the signature that clears them (10.3.1 has software wait for that).
abbrev pub is_ready : OwnRegisters → (idle : Bool) → Registers → Bool
is_ready own idle r = own.starts && receives_now own r && (r.started || idle)

-- what is written to PxCMD of the core
abbrev pub engine_of : OwnRegisters → (idle : Bool) → Registers → ℕ
engine_of own idle r =
    bits_if (is_ready own idle r) (2 ^ st)
    + bits_if (receives_now own r) (2 ^ fre) + bits_if own.multiplied (2 ^ pma)

-- ST falls: the port ran before, or ST was held, and now it neither runs nor is to
abbrev pub falls : (before own : OwnRegisters) → (was now : Registers) → Bool
falls before own was now = not now.started && (was.started || before.starts && not own.starts)

-- The list is where PxCLB says as the port starts, the area where PxFB says as FRE rises. As ST falls no bad command is left,
-- and CCS is 0.
abbrev pub latched : OwnRegisters → (before : OwnRegisters) → (was now : Registers) → OwnRegisters
latched own before was now = record own {
  list_used = (if now.started && not was.started then own.list else own.list_used);
  area_used = (if own.receives && not before.receives then own.area else own.area_used);
  bad = (if falls before own was now then 0 else own.bad);
  current = (if falls before own was now then 0 else own.current);
}

-- PxCMD: ST, FRE and PMA as they were written; CCS is bits 12:8; FR shows FRE, CR is that of the core; SUD (1), POD (2) and FBSCP
-- are 1, and ICC reads 0
abbrev pub cmd_shown : OwnRegisters → Registers → ℕ
cmd_shown own r =
    bits_if own.starts (2 ^ st) + bits_if own.receives (2 ^ fre) + own.current % 32 * 2 ^ 8
    + bits_if own.receives (2 ^ fr) + bits_if r.started (2 ^ cr) + bits_if own.multiplied (2 ^ pma)
    + (2 ^ fbscp + 2 ^ 2 + 2 ^ 1)

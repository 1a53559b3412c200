-- The port's own registers: AHCI 1.3.1, section 3.3, Port Registers. Here is when a write is refused because
-- of them alone, and what an accepted write leaves in them.
use Rattle.std.specs.Prelude.{ℕ, ◌≡◌, ◌+◌, ◌*◌, ◌-◌, ◌^◌, ◌/◌, ◌%◌, ◌<◌, ◌≤◌, ◌==◌, ◌&&◌, ◌||◌, Bool, true, false, not, nat_lt, if◌then◌else◌, bit_or}
use Rattle.std.specs.{Prelude.{bit_and, Option, Some, None}, Bool.beq}
use Rattle.slots.specs.Slots.{has_bit}
use Rattle.hba_fbs.specs.declared.{error.WriteError.WriteError, register.Register.{Register, TheVariants.{Clb, Clbu, Fb, Fbu, Is, Ie, Cmd, Tfd, Sig}}}
use Rattle.hba_fbs.specs.{declared.{register.Register.TheVariants.{Serr, Sact, Ci, Sntf, Fbs}, registers.Registers.Registers}, Bits.{bit, without}}
use Rattle.hba_fbs.specs.Bits.{st, fre, fr, cr, pma, fbscp, interrupts, unknown_fis, en, ado, dev_unit}
use Rattle.hba_fbs.specs.declared.error.WriteError.TheVariants as refusal

-- the registers of a new port: no signature has come, and all else is 0
abbrev pub opening_registers : Registers
opening_registers = record {
  clb = 0;
  clbu = 0;
  fb = 0;
  fbu = 0;
  interrupts = 0;
  enabled = 0;
  started = false;
  receives = false;
  multiplied = false;
  signature = 0xFFFFFFFF;
  unknown = false;
  armed = 0;
  notified = 0;
  switching = false;
  chosen = 0;
}

-- What holds for the registers of every port: PxFBS.DEV has four bits, and FRE is 1 while ST is.
pub record AreOwn (r : Registers) : Type 0 where
  pub chosen : r.chosen < 16
  pub receives : r.started ≡ true → r.receives ≡ true

-- The same for a port beside a memory, where an area in use lies in the structure area, which ends at 100000h.
pub record AreRegisters (r : Registers) : Type 0 where
  pub chosen : r.chosen < 16
  -- the command list is in use while ST is 1, and FRE is 1 then
  pub started : r.started ≡ true → (r.receives ≡ true) × (r.clb + 0x400 ≤ 0x100000)
  -- the received area is in use while FRE is 1
  pub receives : r.receives ≡ true → r.fb + 0x1000 ≤ 0x100000

-- ---- what they show

-- PxCMD: FR shows FRE, and CR shows ST
abbrev pub cmd_of : Registers → ℕ
cmd_of r = bit st r.started + bit fre r.receives + bit fr r.receives + bit cr r.started + bit pma r.multiplied
    + 2 ^ fbscp

-- PxFBS without SDE and DWE; DEC reads 0
abbrev pub fbs_of : Registers → ℕ
fbs_of r = bit en r.switching + dev_unit * r.chosen + ado

-- ---- refusals

-- the received area does not lie in the structure area
abbrev pub is_area_outside : Registers → Bool
is_area_outside r = not (r.fbu == 0) || nat_lt 0x100000 (r.fb + 0x1000)

-- the command list does not lie in the structure area
abbrev pub is_list_outside : Registers → Bool
is_list_outside r = not (r.clbu == 0) || nat_lt 0x100000 (r.clb + 0x400)

-- why a write of PxCMD with these bits ST and FRE is refused
unfoldable pub cmd_refusal : Registers → (starts receives : Bool) → Option WriteError
cmd_refusal r starts receives =
    if r.receives && not receives && starts then Some refusal.Running
    else if receives && not r.receives && is_area_outside r then Some refusal.BadTable
    else if starts && not r.started && (not receives || is_list_outside r) then Some refusal.BadTable
    else None

-- PxCMD is to set FRE or ST for an area that does not lie in the structure area
abbrev pub starts_outside : Registers → (starts receives : Bool) → Bool
starts_outside r starts receives =
    receives && (not r.receives && is_area_outside r || starts && not r.started && is_list_outside r)

-- the refusal without it, for a port that holds no memory
abbrev pub cmd_refusal_by : Registers → (starts receives : Bool) → Option WriteError
cmd_refusal_by r starts receives =
    if r.receives && not receives && starts then Some refusal.Running
    else if starts && not r.started && not receives then Some refusal.BadTable
    else None

abbrev pub running_if : Bool → Option WriteError
running_if b = if b then Some refusal.Running else None

-- a one is refused while ST is 0
abbrev pub stopped_if_ones : Registers → ℕ → Option WriteError
stopped_if_ones r value = if not r.started && not (value == 0) then Some refusal.Stopped else None

-- the first refusal because of these registers alone
unfoldable pub own_refusal : Register → Registers → ℕ → Option WriteError
own_refusal Clb r value = running_if r.started
own_refusal Clbu r value = running_if r.started
own_refusal Fb r value = running_if r.receives
own_refusal Fbu r value = running_if r.receives
own_refusal Is r value = None
own_refusal Ie r value = None
own_refusal Cmd r value = cmd_refusal r (has_bit value st) (has_bit value fre)
own_refusal Tfd r value = None
own_refusal Sig r value = None
own_refusal Serr r value = None
own_refusal Sact r value = stopped_if_ones r value
own_refusal Ci r value = stopped_if_ones r value
own_refusal Sntf r value = None
own_refusal Fbs r value = running_if (r.started && not (beq (has_bit value en) r.switching))

-- the same for a port that holds no memory
unfoldable pub own_refusal_by : Register → Registers → ℕ → Option WriteError
own_refusal_by Cmd r value = cmd_refusal_by r (has_bit value st) (has_bit value fre)
own_refusal_by register r value = own_refusal register r value

-- what a memory refuses beside it
abbrev pub is_outside : Register → Registers → ℕ → Bool
is_outside Cmd r value = starts_outside r (has_bit value st) (has_bit value fre)
is_outside register r value = false

-- ---- what an accepted write leaves

-- ST falls from 1 to 0
abbrev pub falls : Registers → ℕ → Bool
falls r value = r.started && not (has_bit value st)

-- A write of PxCI takes the bits of the slots that it issues out of the armed ones. PxFBS.DEC is not stored.
unfoldable pub written : Register → Registers → ℕ → Registers
written Clb r value = record r { clb = value / 0x400 * 0x400 }
written Clbu r value = record r { clbu = value }
written Fb r value = record r { fb = value / 0x1000 * 0x1000 }
written Fbu r value = record r { fbu = value }
written Is r value = record r { interrupts = without r.interrupts (bit_and value interrupts) }
written Ie r value = record r { enabled = value }
written Cmd r value = record r {
  started = has_bit value st;
  receives = has_bit value fre;
  multiplied = has_bit value pma;
  armed = (if falls r value then 0 else r.armed);
}
written Tfd r value = r
written Sig r value = r
written Serr r value = record r { unknown = r.unknown && not (has_bit value unknown_fis) }
written Sact r value = record r { armed = bit_or r.armed value }
written Ci r value = record r { armed = without r.armed value }
written Sntf r value = record r { notified = bit_and r.notified (0xFFFF - value % 0x10000) }
written Fbs r value = record r { switching = has_bit value en; chosen = value / dev_unit % 16 }

-- Interrupts: AHCI 1.3.1, sections 3.1.2 (GHC), 3.1.3 (IS), 3.3.5 (PxIS), 3.3.6 (PxIE), 3.3.12 (PxSERR) and
-- 10.7 (Interrupts). How messages take the place of the line is our own definition, after 10.7.2.
use Rattle.std.specs.{Prelude.{ℕ, ◌+◌, ◌*◌, ◌^◌, ◌==◌, ◌&&◌, Bool, false, not, if◌then◌else◌, bit_and, bit_or}, Int.from_bool}
use Rattle.ahci_registers.specs.{Bits.{has_bit, without, clearable, known, shadows, shadowed}, declared.lines.Lines.Lines}

-- new interrupts, also after a reset of the controller
abbrev pub opening_lines : Lines
opening_lines = record { status = 0; mask = 0; enabled = false }

-- some cause is enabled in PxIE
unfoldable pub pends : Lines → Bool
pends l = not (bit_and l.status l.mask == 0)

-- The line is raised: GHC.IE is 1, and PxIS and PxIE have a bit in common.
unfoldable pub line : Lines → Bool
line l = l.enabled && not (bit_and l.status l.mask == 0)

-- ---- what the registers show

-- IS: bit 0 belongs to port 0
abbrev pub is_shown : Lines → ℕ
is_shown l = from_bool (pends l)

-- PxSERR: the bits that PxIS shows too
abbrev pub serr_shown : Lines → ℕ
serr_shown l = shadowed l.status

-- GHC: AE (31) is 1, IE is bit 1, and HR reads 0
abbrev pub ghc_shown : Lines → ℕ
ghc_shown l = 2 ^ 31 + 2 * from_bool l.enabled

-- ---- what happens to them

pub data LineEvent : Type 0 where
  -- causes come, as bits of PxIS; UFS, PCS and PRCS among them are errors of PxSERR
  Caused : (bits : ℕ) → LineEvent
  -- a write of PxIS, PxIE, IS, GHC, PxSERR
  WrotePortStatus : (value : ℕ) → LineEvent
  WrotePortMask : (value : ℕ) → LineEvent
  WroteStatus : (value : ℕ) → LineEvent
  WroteGlobal : (value : ℕ) → LineEvent
  WroteError : (value : ℕ) → LineEvent

-- Causes are added. Ones written to PxIS take bits, except those that show PxSERR; ones written to PxSERR
-- take these. A write of IS takes nothing, since its bit is computed. GHC.HR is bit 0, GHC.IE bit 1.
unfoldable pub after : Lines → LineEvent → Lines
after l (Caused bits) = record l { status = bit_or l.status (bit_and bits known) }
after l (WrotePortStatus value) = record l { status = without l.status (bit_and value clearable) }
after l (WrotePortMask value) = record l { mask = bit_and value known }
after l (WroteStatus value) = l
after l (WroteGlobal value) =
    if has_bit value 0 then opening_lines else record l { enabled = has_bit value 1 }
after l (WroteError value) = record l { status = without l.status (shadows value) }

-- The event asks for a message: an enabled cause, a write of a one to the port's bit of IS (which
-- acknowledges the bit while the port may still have a cause pending), and any other event that raises the
-- line.
unfoldable pub asks : Lines → LineEvent → Bool
asks l (Caused bits) = not (bit_and (bit_and bits known) l.mask == 0)
asks l (WroteStatus value) = has_bit value 0
asks l event = not (line l)

-- A message is due: the line is raised after the event, and the event asks for one.
abbrev pub is_due : Lines → LineEvent → Bool
is_due l event = line (after l event) && asks l event

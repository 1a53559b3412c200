-- Interrupts: AHCI 1.3.1, sections 3.1.3 (IS, whose bits ones clear) and 10.7.1 (IS.IPS is set while PxIS and PxIE have a bit
-- in common, and the line is raised while GHC.IE is 1 and a bit of IS is).
use Rattle.std.specs.{Prelude.{ℕ, ◌&&◌, ◌||◌, Bool, true, false, not}, Int.from_bool}
use Rattle.ahci_registers.specs.{Bits.has_bit, Lines.{LineEvent, after, is_due, opening_lines, pends, LineEvent.{Caused, WrotePortStatus}}}
use Rattle.ahci_registers.specs.{Lines.LineEvent.{WrotePortMask, WroteStatus, WroteGlobal, WroteError}, declared.lines.Lines.Lines}
use Rattle.ahci_controller.specs.declared.latch.{Edge.{Edge, TheVariants.{Steady, Rising, Falling}}, Latch.Latch, Told.Told}

abbrev pub opening_latch : Latch
opening_latch = record { lines = opening_lines; pending = false }

-- a one is written to IS.IPS, or the controller is reset
abbrev pub releases : LineEvent → Bool
releases (Caused bits) = false
releases (WrotePortStatus value) = false
releases (WrotePortMask value) = false
releases (WroteStatus value) = has_bit value 0
releases (WroteGlobal value) = has_bit value 0
releases (WroteError value) = false

-- IS.IPS was kept, or an enabled cause stands
abbrev pub over : Lines → Bool → Latch
over lines kept = record { lines = lines; pending = kept || pends lines }

abbrev pub latched : Latch → LineEvent → Latch
latched l event = over (after l.lines event) (not (releases event) && l.pending)

-- IS: bit 0 belongs to port 0
abbrev pub is_shown : Latch → ℕ
is_shown l = from_bool l.pending

abbrev pub raised : Latch → Bool
raised l = l.pending && l.lines.enabled

-- what came of the line
abbrev pub edge_between : (was is : Bool) → Edge
edge_between false true = Rising
edge_between false false = Steady
edge_between true true = Steady
edge_between true false = Falling

abbrev pub edge : (old new : Latch) → Edge
edge old new = edge_between (raised old) (raised new)

-- what causes tell
abbrev pub told : Latch → (causes : ℕ) → Told
told l causes = record { message = is_due l.lines (Caused causes); line = edge l (latched l (Caused causes)) }

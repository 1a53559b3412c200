-- Resets from outside the port: AHCI 1.3.1, sections 10.4.2 (Port Reset, by COMRESET) and 10.4.3 (HBA Reset).
use Rattle.hba_fbs.specs.{declared.registers.Registers.Registers, Registers.opening_registers, Views.{Port, opening_port}}

-- as it opens, with these registers; frames are counted on
abbrev pub reopened : Port → Registers → Port
reopened port registers = record opening_port { registers = registers; number = port.number }

-- the addresses stay
abbrev pub at_addresses : Registers → Registers
at_addresses r = record opening_registers { clb = r.clb; clbu = r.clbu; fb = r.fb; fbu = r.fbu }

-- a COMRESET leaves FRE, PMA, EN and DEV too
abbrev pub link_reset : Port → Port
link_reset port = reopened port (record (at_addresses port.registers) {
  receives = port.registers.receives;
  multiplied = port.registers.multiplied;
  switching = port.registers.switching;
  chosen = port.registers.chosen;
})

abbrev pub whole_reset : Port → Port
whole_reset port = reopened port (at_addresses port.registers)

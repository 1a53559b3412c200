-- What the registers read: AHCI 1.3.1, sections 3.1 and 3.3, and of PxTFD 10.4.2 (Port Reset).
use Rattle.std.specs.Prelude.{ℕ, ◌&&◌, Bool, not, bit_or}
use Rattle.slots.specs.Slots.{has_bit, match_some}
use Rattle.ahci_registers.specs.{Fixed.{capabilities, ports, version}, Lines.{ghc_shown, serr_shown}, Link.{action_of, detected_by, status_of}}
use Rattle.ahci_registers.specs.{Offsets.register_at, declared.link.LinkAction.{LinkAction, TheVariants.{NoAction, Comreset, Disable}}}
use Rattle.ahci_registers.specs.declared.register.Register.{Register, TheVariants.{Cap, Ghc, Is, Pi, Vs, Cap2, PxClb, PxClbu, PxFb, PxFbu, PxIs}}
use Rattle.ahci_registers.specs.declared.register.Register.TheVariants.{PxIe, PxCmd, PxTfd, PxSig, PxSsts, PxSctl, PxSerr, PxSact, PxCi, PxSntf}
use Rattle.ahci_registers.specs.declared.register.Register.TheVariants.{PxFbs}
use Rattle.hba_fbs.specs.{Reading.{shown_device, value_of}, Stopping.busy_file, Views.view_of}
use Rattle.hba_fbs.specs.declared.register.Register.TheVariants as on_port
use Rattle.ahci_controller.specs.{Latch.is_shown, Own.cmd_shown, States.ControllerState}

-- PxTFD: 7Fh during a COMRESET, and else that of the core. (10.4.2: while DET is 1 STS is 7Fh, and BSY is set as the device answers
-- behind it.)
abbrev pub file_in : LinkAction → ControllerState → ℕ
file_in NoAction c = busy_file (view_of (shown_device c.core) c.core).state
file_in Disable c = busy_file (view_of (shown_device c.core) c.core).state
file_in Comreset c = 0x7F

abbrev pub file_of : ControllerState → ℕ
file_of c = file_in (action_of c.link.control) c

-- it shows neither BSY nor DRQ
abbrev pub is_idle : ControllerState → Bool
is_idle c = not (has_bit (file_of c) 7) && not (has_bit (file_of c) 3)

-- PxIS, PxIE and PxSERR.DIAG are those of the interrupts, PxSSTS and PxSCTL of the link. PxCI shows also the slots whose commands
-- are still being read, and those of bad commands. PxTFD, PxSIG, PxSACT, PxSNTF and PxFBS are the core's.
unfoldable pub shown : Register → ControllerState → ℕ
shown Cap c = capabilities
shown Ghc c = ghc_shown c.latch.lines
shown Is c = is_shown c.latch
shown Pi c = ports
shown Vs c = version
shown Cap2 c = 0
shown PxClb c = c.own.list.lower
shown PxClbu c = c.own.list.upper
shown PxFb c = c.own.area.lower
shown PxFbu c = c.own.area.upper
shown PxIs c = c.latch.lines.status
shown PxIe c = c.latch.lines.mask
shown PxCmd c = cmd_shown c.own c.core.registers
shown PxTfd c = file_of c
shown PxSig c = value_of on_port.Sig c.core
shown PxSsts c = status_of (detected_by (action_of c.link.control))
shown PxSctl c = c.link.control
shown PxSerr c = bit_or (serr_shown c.latch.lines) c.own.errors
shown PxSact c = value_of on_port.Sact c.core
shown PxCi c = bit_or (bit_or (value_of on_port.Ci c.core) c.wants.pending) c.own.bad
shown PxSntf c = value_of on_port.Sntf c.core
shown PxFbs c = value_of on_port.Fbs c.core

-- and at an offset: 0 where none begins
abbrev pub read_at : ControllerState → ℕ → ℕ
read_at c offset = match_some (register_at offset) 0 (λ register. shown register c)

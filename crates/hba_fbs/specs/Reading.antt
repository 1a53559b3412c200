-- What a register shows: AHCI 1.3.1, section 3.3.
use Rattle.std.specs.Prelude.{ℕ, ◌+◌, ◌*◌, bit_or, if◌then◌else◌, Result, Ok, Err}
use Rattle.slots.specs.{Slots.{is_queued_issue, match_some}, Commands.{is_unanswered, slots_where}}
use Rattle.port_errors.specs.{Errors.shown, declared.errors.FbsBits.FbsBits}
use Rattle.hba_fbs.specs.declared.{error.NoRegister.NoRegister, register.Register.{Register, TheVariants.{Clb, Clbu, Fb, Fbu, Is, Ie, Cmd, Tfd, Sig}}}
use Rattle.hba_fbs.specs.{declared.register.Register.TheVariants.{Serr, Sact, Ci, Sntf, Fbs}, Bits.{bit, sde, dwe_unit, ufs, unknown_fis}}
use Rattle.hba_fbs.specs.{Offsets.register_at, Registers.{cmd_of, fbs_of}, Views.{Port, state_at, task_file}}

-- SDE and DWE at their places in PxFBS
abbrev pub fbs_errors : FbsBits → ℕ
fbs_errors bits = bit sde bits.sde + dwe_unit * bits.dwe

-- the device whose task file PxTFD shows: the one in PxFBS.DEV, and without FIS-based switching the active one
abbrev pub shown_device : Port → ℕ
shown_device port = if port.registers.switching then port.registers.chosen else port.active

-- The value of a register. PxIS.UFS shows DIAG.F of PxSERR. PxTFD is that of the device that is shown. PxSACT
-- shows the slots that are armed and those in which a queued command is issued. PxCI shows the slots that are
-- issued and not answered.
unfoldable pub value_of : Register → Port → ℕ
value_of Clb port = port.registers.clb
value_of Clbu port = port.registers.clbu
value_of Fb port = port.registers.fb
value_of Fbu port = port.registers.fbu
value_of Is port = bit_or port.registers.interrupts (bit ufs port.registers.unknown)
value_of Ie port = port.registers.enabled
value_of Cmd port = cmd_of port.registers
value_of Tfd port = task_file (state_at port.states (shown_device port))
value_of Sig port = port.registers.signature
value_of Serr port = bit unknown_fis port.registers.unknown
value_of Sact port = bit_or port.registers.armed (slots_where is_queued_issue port.slots)
value_of Ci port = slots_where is_unanswered port.slots
value_of Sntf port = port.registers.notified
value_of Fbs port = fbs_of port.registers + fbs_errors (shown port.errors.reported port.errors.port)

abbrev no_register : NoRegister
no_register = record {}

-- the value of the register at an offset, if there is one
abbrev pub read_at : Port → ℕ → Result ℕ NoRegister
read_at port offset =
    match_some (register_at offset) (Err no_register) (λ register. Ok (value_of register port))

-- What becomes a cause of an interrupt: AHCI 1.3.1, sections 3.3.5 (PxIS), 3.3.16 (PxFBS) and 9.3 (errors with
-- FIS-based switching).
use Rattle.std.specs.Prelude.{ℕ, ◌+◌, ◌/◌, ◌%◌, if◌then◌else◌, bit_or, Option, Some, None}
use Rattle.slots.specs.Slots.{has_bit, match_some}
use Rattle.port_errors.specs.{Errors.cause_of, Interrupts.{device_interrupts, hbfs, ifs}}
use Rattle.hba_fbs.specs.{Bits.{dec, dwe_unit, sde, without}, Reading.value_of, Views.Port}
use Rattle.hba_fbs.specs.declared.register.Register.TheVariants as on_port

-- An overflow comes with an error that drivers look at.
abbrev pub with_fatal : ℕ → ℕ
with_fatal bits = if has_bit bits 24 then bit_or bits ifs else bits

-- the causes of the bits that the core set in its PxIS since that read was
abbrev pub causes_since : ℕ → Port → ℕ
causes_since was port = with_fatal (without (value_of on_port.Is port) was)

-- the device that PxFBS shows to be faulty: DWE, where SDE is 1
abbrev pub shown_device : Port → Option ℕ
shown_device port = if has_bit (value_of on_port.Fbs port) sde
    then Some (value_of on_port.Fbs port / dwe_unit % 16) else None

-- the bits of its first cause
abbrev pub cause_bits : Port → ℕ
cause_bits port = match_some (shown_device port) 0 (λ dev. match_some (cause_of port.errors dev) 0
    (λ cause. with_fatal (device_interrupts cause)))

-- A write of PxFBS with DEC that leaves a device shown tells of that one again.
abbrev pub next_causes : ℕ → Port → ℕ
next_causes value port = if has_bit value dec then cause_bits port else 0

-- of a command that cannot be served: Interface Fatal Error, or Host Bus Fatal Error where memory is missing
abbrev pub bad_causes : ℕ
bad_causes = ifs

abbrev pub missing_causes : ℕ
missing_causes = ifs + hbfs

-- A caller that reads PxCI knows that the command of a slot stands.
use Rattle.std.specs.{Prelude.{◌≡◌, ℕ, Bool, true, List, Result, Ok}, declared.alloc.AllocError.AllocError}
use Rattle.ahci_registers.specs.declared.register.Register.TheVariants.{PxCi}
use Rattle.controller_laws.specs.Events.{Event}
use Rattle.ahci_machine.specs.States.{MachineState}
use Rattle.machine_theorem.specs.Standing.{HasStood}
use Rattle.uses_machine_theorem.specs.Led.{IsLed}

-- By some run that led here a command was issued in the slot, and its bit of PxCI has been 1 since then.
pub record IsStanding (now : MachineState) (slot : ℕ) : Type 0 where
  pub led : IsLed now
  pub since : List Event
  pub stood : HasStood PxCi slot since led.first led.deeds now led.run

abbrev pub BeginsToStand : (slot : ℕ) → MachineState → Result Bool AllocError → MachineState → Type 0
BeginsToStand slot old told new = told ≡ Ok true → IsLed old → IsStanding new slot

abbrev pub GoesOnStanding : (slot : ℕ) → MachineState → Result Bool AllocError → MachineState → Type 0
GoesOnStanding slot old told new = told ≡ Ok true → IsStanding old slot → IsStanding new slot

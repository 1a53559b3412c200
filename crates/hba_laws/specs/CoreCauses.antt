-- How long the cause of a fault stands at a host port that holds no memory: AHCI 1.3.1, section 9.3 (FIS-based
-- Switching: errors of one device and of the port).
use Rattle.std.specs.Prelude.{ℕ, ◌≡◌, ◌<◌, ◌==◌, ◌||◌, Bool, false, true, List, [], ◌∷◌, Some}
use Rattle.port_errors.specs.declared.cause.{DeviceCause.DeviceCause, Stop.Stop}
use Rattle.hba_fbs.specs.{declared.register.Register.{Register, TheVariants.Fbs}, Registers.falls, Taking.port_of, Views.{Port, view_of}}
use Rattle.hba_fbs.specs.Writing.{cleared_by, is_device}
use Rattle.hba_laws.specs.{Cores.{Commanded, CoreEvent, Flushed, Hung, Relinked, Restarted, RunsBy, Took, Wrote}, Isolation.lowers_st}

-- PxFBS.DEC clears this device
abbrev pub clears_one : ℕ → Port → Register → ℕ → Bool
clears_one n port Fbs value = is_device n (cleared_by port.errors value)
clears_one n port register value = false

-- PxCMD.ST falls, or the link or the controller is reset
abbrev pub clears_all : Port → CoreEvent → Bool
clears_all port (Wrote register value offer tables) = lowers_st register port.registers value
clears_all port (Commanded value) = falls port.registers value
clears_all port Relinked = true
clears_all port Restarted = true
clears_all port event = false

-- the device is cleared, flushed, gone or reset, or the whole port is cleared
abbrev pub clears_by : ℕ → Port → CoreEvent → Bool
clears_by n port (Wrote register value offer tables) =
    clears_one n port register value || lowers_st register port.registers value
clears_by n port (Flushed dev) = dev == n
clears_by n port (Commanded value) = falls port.registers value
clears_by n port (Hung dev line) = dev == n
clears_by n port Relinked = true
clears_by n port Restarted = true
clears_by n port event = false

-- a FIS of the device is received
abbrev pub is_from : ℕ → CoreEvent → Bool
is_from n (Took frame room report) = port_of frame == n
is_from n event = false

-- no event of a run is one of these
abbrev pub NoneBy : (Port → CoreEvent → Bool) → (old new : Port) (events : List CoreEvent) → RunsBy old events new
    → Type 0
NoneBy is old new [] run = Unit {0}
NoneBy is old new (event ∷ events) run = (is old event ≡ false) × NoneBy is run.0 new events run.2

-- The cause of a device's fault stands until the device or the port is cleared, whatever FISes follow, including its
-- own.
abbrev pub CoreDeviceCausesStay : Type 0
CoreDeviceCausesStay =
    (n : ℕ) → n < 16 → (cause : DeviceCause) → (old new : Port) (events : List CoreEvent) (run : RunsBy old events new)
    → NoneBy (clears_by n) old new events run
    → (view_of n old).fault ≡ Some cause → (view_of n new).fault ≡ Some cause

-- What stopped the port stands until ST falls, or a reset.
abbrev pub CorePortCausesStay : Type 0
CorePortCausesStay =
    (first : Stop) → (old new : Port) (events : List CoreEvent) (run : RunsBy old events new)
    → NoneBy clears_all old new events run → old.errors.port ≡ Some first → new.errors.port ≡ Some first

-- Over events that are not a FIS of a device and do not clear it, the device keeps its fault, or stays without one.
abbrev pub CoreOthersFaultNone : Type 0
CoreOthersFaultNone =
    (n : ℕ) → n < 16 → (old new : Port) (events : List CoreEvent) (run : RunsBy old events new)
    → NoneBy (λ port event. is_from n event || clears_by n port event) old new events run
    → (view_of n new).fault ≡ (view_of n old).fault

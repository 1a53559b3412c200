-- How long the cause of a fault stands: AHCI 1.3.1, section 9.3 (FIS-based Switching: errors of one device
-- and of the port).
use Rattle.std.specs.Prelude.{ℕ, ◌≡◌, ◌<◌, ◌==◌, ◌||◌, Bool, false, List, [], ◌∷◌, Some}
use Rattle.port_errors.specs.declared.cause.{DeviceCause.DeviceCause, Stop.Stop}
use Rattle.hba_fbs.specs.{declared.register.Register.{Register, TheVariants.Fbs}, Taking.port_of, Views.view_of, Writing.{cleared_by, is_device}}
use Rattle.hba_laws.specs.{Hosts.{Flushed, Host, HostEvent, Runs, Took, Wrote}, Isolation.lowers_st}

-- ---- what ends a cause

-- PxFBS.DEC clears this device
abbrev pub clears_device : ℕ → Host → Register → ℕ → Bool
clears_device n host Fbs value = is_device n (cleared_by host.port.errors value)
clears_device n host register value = false

-- PxCMD.ST falls
abbrev pub clears_port : Host → HostEvent → Bool
clears_port host (Wrote register value) = lowers_st register host.port.registers value
clears_port host event = false

-- the device is cleared or flushed, or the whole port is cleared
abbrev pub clears : ℕ → Host → HostEvent → Bool
clears n host (Wrote register value) =
    clears_device n host register value || lowers_st register host.port.registers value
clears n host (Flushed dev) = dev == n
clears n host event = false

-- a FIS of the device is received
abbrev pub comes_from : ℕ → HostEvent → Bool
comes_from n (Took frame report) = port_of frame == n
comes_from n event = false

-- no event of a run is one of these
abbrev pub NoneIn : (Host → HostEvent → Bool) → (old new : Host) (events : List HostEvent)
    → Runs old events new → Type 0
NoneIn is old new [] run = Unit {0}
NoneIn is old new (event ∷ events) run = (is old event ≡ false) × NoneIn is run.0 new events run.2

-- ---- laws

-- The cause of a device's fault stands until the device or the port is cleared, whatever FISes follow,
-- including its own.
abbrev pub DeviceCausesStay : Type 0
DeviceCausesStay =
    (n : ℕ) → n < 16 → (cause : DeviceCause)
    → (old new : Host) (events : List HostEvent) (run : Runs old events new)
    → NoneIn (clears n) old new events run
    → (view_of n old.port).fault ≡ Some cause → (view_of n new.port).fault ≡ Some cause

-- What stopped the port stands until ST falls.
abbrev pub PortCausesStay : Type 0
PortCausesStay =
    (first : Stop)
    → (old new : Host) (events : List HostEvent) (run : Runs old events new)
    → NoneIn clears_port old new events run
    → old.port.errors.port ≡ Some first → new.port.errors.port ≡ Some first

-- Over events that are not a FIS of a device and do not clear it, the device keeps its fault, or stays
-- without one. So no FIS of another device, and nothing that goes out, gives it a fault or changes its cause.
abbrev pub OthersFaultNone : Type 0
OthersFaultNone =
    (n : ℕ) → n < 16
    → (old new : Host) (events : List HostEvent) (run : Runs old events new)
    → NoneIn (λ host event. comes_from n event || clears n host event) old new events run
    → (view_of n new.port).fault ≡ (view_of n old.port).fault

-- What is left of a run that has not finished, and why it has not.
use Rattle.std.specs.{Prelude.{◌≡◌, ℕ, ◌||◌, Bool, true, false, All, Option, Some, None, List, map}, List.{AllZip, list_any}}
use Rattle.disk_model.specs.Histories.{Happening, Plan}
use Rattle.disk_thread.specs.{Runs.StationState, declared.worker.DiskEnd.DiskEnd}
use Rattle.pm_thread.specs.declared.end.PmEnd.{PmEnd}
use Rattle.host_memory.specs.Memory.{Memory}
use Rattle.host_thread.specs.{Runs.{GoesOn, HostView, IsRun as IsHostRun, is_open}, declared.{end.HostEnd.HostEnd, plan.Planned.Planned}}
use Rattle.runner.specs.{Posts.PostState, declared.worker.Fault.Fault}
use Rattle.runner.specs.declared.worker.Fault.TheVariants as fault
use Rattle.pm_threads.specs.{Ends.{Ends, RunsWith}, Seats.first_ports, declared.run.RunError.RunError}
use Rattle.pm_threads.specs.declared.run.RunError.TheVariants as error

-- The ends of all workers, that of the device at port n at place n. Each has the fault that ended it, if one
-- did, and its turns, if they were spent.
pub record Halt (D : Type 0) : Type 0 where
  pub disks : List (DiskEnd D)
  pub pm : PmEnd
  pub host : HostEnd

-- the workers alone
abbrev pub ends_of : {D : Type 0} → Halt D → Ends D
ends_of h = record { disks = map (λ e. e.station) h.disks; pm = h.pm.worker; host = h.host.worker }

-- ---- why

-- whether a worker ended by this fault
abbrev pub is_short : Option Fault → Bool
is_short (Some fault.OutOfMemory) = true
is_short f = false

abbrev pub is_shut : Option Fault → Bool
is_shut (Some fault.GateShut) = true
is_shut f = false

-- whether a worker says that its turns were spent
abbrev pub is_given : Option PostState → Bool
is_given None = false
is_given (Some spent) = true

-- whether the worker of a device, of the multiplier or of the host ended by lack of memory
abbrev pub is_any_short : {D : Type 0} → List (DiskEnd D) → (pm host : Option Fault) → Bool
is_any_short disks pm host = list_any (λ e. is_short e.fault) disks || is_short pm || is_short host

-- whether one of them says that its turns were spent
abbrev pub is_any_spent : {D : Type 0} → List (DiskEnd D) → (pm host : Option PostState) → Bool
is_any_spent disks pm host = list_any (λ e. is_given e.spent) disks || is_given pm || is_given host

-- the gate of a device did not open, and no worker lacked memory
pub record IsShut {D : Type 0} (h : Halt D) : Type 0 where
  pub memory : is_any_short h.disks h.pm.fault h.host.fault ≡ false
  pub shut : list_any (λ e. is_shut e.fault) h.disks ≡ true

-- no worker of a device had a fault, no worker lacked memory, and a request is open
pub record IsOpen {D : Type 0} (h : Halt D) : Type 0 where
  pub memory : is_any_short h.disks h.pm.fault h.host.fault ≡ false
  pub quiet : All (λ e. e.fault ≡ None) h.disks
  pub open_is : list_any is_open h.host.worker.states ≡ true

-- whether a worker says that its turns were spent
abbrev pub is_spent : {D : Type 0} → Halt D → Bool
is_spent h = is_any_spent h.disks h.pm.spent h.host.spent

-- Why the run has not finished.
abbrev pub IsWhy : {D : Type 0} → RunError → Halt D → Type 0
IsWhy error.OutOfMemory h = is_any_short h.disks h.pm.fault h.host.fault ≡ true
IsWhy error.GateShut h = IsShut h
IsWhy error.TurnsSpent h = IsOpen h × (is_spent h ≡ true)
IsWhy error.BadSetup h = ⊥
IsWhy error.Unexplained h = IsOpen h × (is_spent h ≡ false)

-- ---- of what

-- if no fault ended it, the worker of a device is a run of this unit
abbrev pub RanUnlessFault : {D : Type 0} → (D → Plan) → (D → List Happening → Type 0)
    → (Plan → List Happening → List ℕ → Type 0) → List (ℕ × ℕ) → D → DiskEnd D → Type 0
RanUnlessFault plan_of StandsFor MaySend pulls unit e =
    e.fault ≡ None → RunsWith plan_of StandsFor MaySend pulls unit e.station

-- These workers of devices and of a host led to this. Those of the devices that had no fault stay runs of
-- whatever units and pulls they were runs of. The host goes on with its plan.
pub record LeadsTo {D : Type 0} (plan_of : D → Plan) (StandsFor : D → List Happening → Type 0)
    (MaySend : Plan → List Happening → List ℕ → Type 0) (workers : List (StationState D)) (host : HostView)
    (h : Halt D) : Type 0 where
  pub disks : (pulls : List (ℕ × ℕ)) (units : List D)
      → AllZip (RunsWith plan_of StandsFor MaySend pulls) units workers
      → AllZip (RanUnlessFault plan_of StandsFor MaySend pulls) units h.disks
  pub ports : map (λ s. s.port) (ends_of h).disks ≡ map (λ w. w.port) workers
  pub goes_on : GoesOn host h.host.worker
  pub plan : h.host.worker.plan ≡ host.plan

-- It is left of a run of these units with these pulls, at this many ports, and of a host with this plan
-- beside this memory.
pub record IsLeftOf {D : Type 0} (plan_of : D → Plan) (StandsFor : D → List Happening → Type 0)
    (MaySend : Plan → List Happening → List ℕ → Type 0) (units : List D) (pulls : List (ℕ × ℕ)) (ports : ℕ)
    (start : Memory) (plan : List Planned) (h : Halt D) : Type 0 where
  pub disks : AllZip (RanUnlessFault plan_of StandsFor MaySend pulls) units h.disks
  pub at_ports : map (λ s. s.port) (ends_of h).disks ≡ first_ports ports
  pub hosted : IsHostRun start h.host.worker
  pub plan_is : h.host.worker.plan ≡ plan

-- What holds in the driver for a device while the device's port and the disk are together: from its flush on,
-- and again after an error from where both began anew, with the log or with a software reset (AHCI 1.3.1,
-- 5.5, how commands are issued, and 6.2.2, error recovery; ACS-3, READ LOG EXT, IDENTIFY DEVICE and FLUSH
-- CACHE EXT; Serial ATA 3.x, 10.5.6, signatures, and software reset).
--
-- Cited: a device with which nothing has failed since its flush, and the ticks that are calm for one
-- (specs/Steady.antt).
use Rattle.std.specs.Prelude.{ℕ, ◌≡◌, ◌≢◌, ◌<◌, ◌⊎◌, ◌||◌, Bool, true, false, List, None, Option, Some}
use Rattle.slots.specs.Slots.{issue_at}
use Rattle.hba_fbs.specs.Views.{view_of}
use Rattle.hba_driver.specs.declared.path.{Path.Path, Recovery.TheVariants.{Log, Reset}, Stage.{Stage, TheVariants.{Identify, ReadLog, AssertReset}}}
use Rattle.hba_driver.specs.declared.{path.{Stage.TheVariants.{ReleaseReset, AwaitReset}, TaskFile.TaskFile}, plan.Device.TheVariants.{Absent, Ready}}
use Rattle.hba_driver.specs.{declared.{plan.{Device.TheVariants.{Recovering, Starting}, Plan.Plan}, turn.Act.Act}, Drivers.{Driver, Entry, device_at}}
use Rattle.hba_driver.specs.{Drivers.{entry_at, is_issued, new_driver, waits}, Events.IsSoundHost, HostTurns.{Does, Host, HostTurn, Ticked, sight_in}}
use Rattle.hba_driver.specs.{Orders.is_flush, Steady.{HasSignature, IsFine, IsFlushTick, IsSteady, IsSteadyTurn, IsSwitching, detects}, Ticks.due}
use Rattle.hba_driver.specs.declared.turn.Act.TheVariants as act

-- ---- slot 30

-- slot 30 works on the device at this stage, and its command was issued or not
abbrev pub WorksOn : ℕ → Stage → Bool → Plan → Type 0
WorksOn n stage asked plan = plan.path ≡ Some (record { dev = n; stage = stage; asked = asked })

-- slot 30 does not work on the device
abbrev pub IsUnworked : ℕ → Plan → Type 0
IsUnworked n plan = (p : Path) → plan.path ≡ Some p → p.dev ≢ n

-- slot 30 works on the device at such a stage
abbrev pub IsAtStage : ℕ → (Stage → Type 0) → Plan → Type 0
IsAtStage n stages plan =
    (p : Path) × ((plan.path ≡ Some p) × ((p.dev ≡ n) × stages p.stage))

-- the disk is asked for a page
abbrev pub IsAsking : Stage → Type 0
IsAsking Identify = Unit {0}
IsAsking (ReadLog file) = Unit {0}
IsAsking AssertReset = ⊥
IsAsking ReleaseReset = ⊥
IsAsking AwaitReset = ⊥

-- SRST is or was cleared, and the signature is awaited
abbrev pub IsReleasing : Stage → Type 0
IsReleasing Identify = ⊥
IsReleasing (ReadLog file) = ⊥
IsReleasing AssertReset = ⊥
IsReleasing ReleaseReset = Unit {0}
IsReleasing AwaitReset = Unit {0}

-- both began anew when the command of the stage reached the disk: it went out
abbrev pub IsBegun : Stage → Type 0
IsBegun Identify = ⊥
IsBegun (ReadLog file) = Unit {0}
IsBegun AssertReset = ⊥
IsBegun ReleaseReset = Unit {0}
IsBegun AwaitReset = Unit {0}

-- ---- the plan

-- the state of slot 30 and of what is known of the device
pub data IsTendedBy (n : ℕ) (plan : Plan) : Type 0 where
  -- the device does not recover, and slot 30 works on it only to identify it while it starts
  Fine : IsFine (device_at plan n)
      → ((p : Path) → plan.path ≡ Some p → p.dev ≡ n
      → (p.stage ≡ Identify) × ((p.asked ≡ true) × (device_at plan n ≡ Starting)))
      → IsTendedBy n plan
  -- the device is reset, and SRST was cleared
  Releases : device_at plan n ≡ Recovering Reset → WorksOn n ReleaseReset true plan
      → IsTendedBy n plan
  Awaits : device_at plan n ≡ Recovering Reset → WorksOn n AwaitReset false plan
      → IsTendedBy n plan
  -- the device signed after its reset, and is identified
  Identifies : device_at plan n ≡ Recovering Reset → WorksOn n Identify true plan
      → IsTendedBy n plan
  -- its log is read
  Logs : (before file : TaskFile) → device_at plan n ≡ Recovering (Log before)
      → WorksOn n (ReadLog file) true plan → IsTendedBy n plan
  -- its log was not whole, so the device is to be reset
  Spoilt : device_at plan n ≡ Recovering Reset → IsUnworked n plan → IsTendedBy n plan

-- the device is looked for only while it is taken to be absent
pub record IsTendedPlan (n : ℕ) (plan : Plan) : Type 0 where
  pub way : IsTendedBy n plan
  pub order : detects n plan.asked plan.order ≡ true
      → device_at plan n ≡ Absent

-- the device is asked for something, or may be: it is ready, or a page of it is read
abbrev pub IsAskedOn : ℕ → Plan → Type 0
IsAskedOn n plan = (device_at plan n ≡ Ready) ⊎ IsAtStage n IsAsking plan

-- ---- requests

-- a request of the device that waits or is issued
pub record IsLiveAt (n s : ℕ) (entries : List (Option Entry)) (e : Entry) : Type 0 where
  pub stands : entry_at entries s ≡ Some e
  pub of_dev : e.head.dev ≡ n
  pub lives : (waits e.head || is_issued e.head) ≡ true

-- requests of the device wait or are issued only while it is ready, and a Flush alone
pub record AreTended (n : ℕ) (plan : Plan) (entries : List (Option Entry)) : Type 0 where
  pub ready : (s : ℕ) (e : Entry) → IsLiveAt n s entries e → device_at plan n ≡ Ready
  pub alone : (s r : ℕ) (e f : Entry) → IsLiveAt n s entries e → IsLiveAt n r entries f
      → is_flush e.head.work ≡ true → s ≡ r

pub record IsTended (n : ℕ) (d : Driver) : Type 0 where
  pub plan : IsTendedPlan n d.plan
  pub requests : AreTended n d.plan d.entries

-- the software reset of the device is issued, and none of its requests waits or is issued
pub record IsBeingReset (n : ℕ) (d : Driver) : Type 0 where
  pub device : device_at d.plan n ≡ Recovering Reset
  pub works : WorksOn n AssertReset true d.plan
  pub order : detects n d.plan.asked d.plan.order ≡ true → ⊥
  pub none : (s : ℕ) (e : Entry) → IsLiveAt n s d.entries e → ⊥

-- ---- turns

-- the turn is the tick that issues the software reset of the device
abbrev pub IsResetTurn : ℕ → Host → HostTurn → Type 0
IsResetTurn n old (Ticked acted) =
    due (sight_in old) old.driver ≡ Some (act.Steps n AssertReset)
IsResetTurn n old turn = ⊥

-- no command is issued in slot 30
abbrev pub IsStepless : Option Act → Type 0
IsStepless (Some (act.Steps dev stage)) = ⊥
IsStepless a = Unit {0}

abbrev pub IsSteplessTurn : Host → HostTurn → Type 0
IsSteplessTurn old (Ticked acted) = IsStepless (due (sight_in old) old.driver)
IsSteplessTurn old turn = Unit {0}

-- the port does not have the device in software reset
abbrev pub IsUnreset : ℕ → Host → Type 0
IsUnreset n h = (view_of n h.port).state.resetting ≡ false

-- What a turn leaves on the driver's side of a device.
pub record TendsOn (n : ℕ) (old : Host) (turn : HostTurn) (new : Host) : Type 0 where
  -- it is still tended, or its reset is issued
  pub next : IsTended n new.driver ⊎ (IsResetTurn n old turn × IsBeingReset n new.driver)
  pub ready : device_at old.driver.plan n ≡ Ready → device_at new.driver.plan n ≡ Ready
  -- it is asked for something only if it was before, or if its signature came
  pub asks : IsAskedOn n new.driver.plan → IsAskedOn n old.driver.plan
      ⊎ ((IsFine (device_at old.driver.plan n) × HasSignature n old)
      ⊎ (IsAtStage n IsReleasing old.driver.plan × IsUnreset n old))
  -- if it does not recover now, it did not before, or it was asked for something
  pub well : IsFine (device_at new.driver.plan n)
      → IsFine (device_at old.driver.plan n) ⊎ IsAskedOn n old.driver.plan
  -- if both began anew, the command for it was out before, and slot 30 issues nothing
  pub begun : IsAtStage n IsBegun new.driver.plan
      → IsAtStage n IsBegun old.driver.plan × IsSteplessTurn old turn
  -- its signature is awaited only if it was before, and as long as it is in reset
  pub releasing : IsAtStage n IsReleasing new.driver.plan
      → IsAtStage n IsReleasing old.driver.plan
  pub awaiting : IsAtStage n IsReleasing old.driver.plan
      → (view_of n old.port).state.resetting ≡ true → IsAtStage n IsReleasing new.driver.plan

-- ---- the law

pub record TurnsTend (n : ℕ) : Type 0 where
  -- a device with which nothing has failed since its flush is tended
  pub steady : (d : Driver) → IsSteady n d → IsTended n d
  -- when the driver opens, and after the device's flush
  pub opens : (given : ℕ)
      → IsTended n (new_driver given) × (IsAskedOn n (new_driver given).plan → ⊥)
  pub flushed : (old : Host) (acted : Bool) (new : Host) → Does old (Ticked acted) new
      → IsFlushTick n old → IsTended n new.driver × (IsAskedOn n new.driver.plan → ⊥)
  -- it is not in software reset after its flush
  pub unreset : (old : Host) (acted : Bool) (new : Host) → n < 16 → Does old (Ticked acted) new
      → IsFlushTick n old → IsUnreset n new
  -- when its software reset is issued, what slot 30 held before is over
  pub over : (old : Host) (acted : Bool) (p : Path) → IsSoundHost old
      → IsResetTurn n old (Ticked acted) → old.driver.plan.path ≡ Some p → p.asked ≡ true
      → issue_at old.port.slots 30 ≡ None
  -- over each turn that is calm for the device, with FIS-based switching
  pub stays : (old : Host) (turn : HostTurn) (new : Host) → n < 16 → Does old turn new → IsSwitching old
      → IsSteadyTurn n old turn → IsTended n old.driver → TendsOn n old turn new

abbrev pub EachIsTended : Type 0
EachIsTended = (n : ℕ) → TurnsTend n

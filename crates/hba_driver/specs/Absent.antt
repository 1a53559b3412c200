-- A device that the driver takes to be absent, over turns that do not flush it (Serial ATA 3.x, port
-- multipliers: SStatus, PSCR[0] of a fan-out port, says whether a device is there).
use Rattle.std.specs.Prelude.{ℕ, ◌≡◌, true}
use Rattle.hba_driver.specs.{declared.plan.Device.TheVariants.Absent, Drivers.device_at, HostTurns.{Does, Host, HostTurn}}
use Rattle.hba_driver.specs.Steady.{IsSteadyTurn, detects}

-- If a device is looked for only while it is taken to be absent, and is taken to be absent after a calm turn,
-- then it was so before the turn.
abbrev pub EachWasAbsent : Type 0
EachWasAbsent =
    (n : ℕ) (old : Host) (turn : HostTurn) (new : Host) → Does old turn new → IsSteadyTurn n old turn
    → (detects n old.driver.plan.asked old.driver.plan.order ≡ true → device_at old.driver.plan n ≡ Absent)
    → device_at new.driver.plan n ≡ Absent → device_at old.driver.plan n ≡ Absent

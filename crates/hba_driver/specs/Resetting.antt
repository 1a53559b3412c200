-- The tick that issues the software reset of a tended device (Serial ATA 3.x, software reset).
use Rattle.std.specs.Prelude.{ℕ, ◌≡◌, ◌<◌, Bool, true, false, Some}
use Rattle.hba_driver.specs.{Drivers.{Entry, entry_at}, HostTurns.{Does, Host, Ticked}, Laws.is_withdrawn, Slot30.{IsPlan30, Sets}}
use Rattle.hba_driver.specs.{Steady.{IsSwitching, detects}, Tended.{IsResetTurn, IsTended}}

-- Then the driver waits for the Control that sets SRST to go out, and no request of the device waits or is
-- issued.
pub record IsSetDriven (n : ℕ) (h : Host) : Type 0 where
  pub plan : IsPlan30 n Sets h.driver.plan
  pub unsought : detects n h.driver.plan.asked h.driver.plan.order ≡ false
  pub withdrawn : (s : ℕ) (e : Entry) → entry_at h.driver.entries s ≡ Some e → e.head.dev ≡ n
      → is_withdrawn e.head ≡ true

abbrev pub EachResetIsDriven : Type 0
EachResetIsDriven =
    (n : ℕ) (old : Host) (acted : Bool) (new : Host) → n < 16 → Does old (Ticked acted) new
    → IsSwitching old → IsResetTurn n old (Ticked acted) → IsTended n old.driver → IsSetDriven n new

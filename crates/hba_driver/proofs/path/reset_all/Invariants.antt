use Rattle.std.proofs.Common.{◌≡◌, ℕ, ◌<◌, ◌≤◌, get_or, length}
use Rattle.hba_driver.specs.{declared.plan.Device.TheVariants.Absent, Paths.reset_if_there}
use Rattle.hba_driver.proofs.path.reset_all.Given as goal

-- those so far are looked at, and the others are as they were
abbrev pub invariant-loop-device : goal.invariant-loop-device
invariant-loop-device l = record {
  long : length l.device-items ≡ length l.fn.devices;
  reset : (n : ℕ) → n < l.device-index → get_or l.device-items n Absent ≡ reset_if_there (get_or l.fn.devices n Absent);
  others : (n : ℕ) → l.device-index ≤ n → get_or l.device-items n Absent ≡ get_or l.fn.devices n Absent;
}

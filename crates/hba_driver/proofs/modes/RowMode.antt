-- For `commands_stand`. What holds of a frame in both modes, and the mode of a driver's port that runs.
use Rattle.std.proofs.Common.{◌≡◌, ℕ, Bool, true, false, List, sym, ◌∙◌, inl, inr, arith, Option, Some, None}
use Rattle.std.specs.Prelude.{◌&&◌, not, is_some}
use Rattle.std.proofs.lemmas.Bool.{cases_lt, false≢true, or_parts, or_right, true≢false}
use Rattle.fis_view.specs.Seen.{seen}
use Rattle.port_errors.specs.Errors.{Errors}
use Rattle.hba_fbs.specs.declared.{hearing.Fault.Fault, registers.Registers.Registers}
use Rattle.hba_fbs.specs.{Taking.{errors_in, ignores, is_ignored, is_running, passes_over, port_cause, stops_with}, Views.{Port, view_of}}
use Rattle.hba_fbs.specs.declared.hearing.Fault.TheVariants as fault
use Rattle.hba_driver.specs.{declared.mode.Mode.TheVariants.Switching, Events.AreDriven}

-- ---- in both modes

pub skipped_as : (dev : ℕ) (port : Port) (frame : List ℕ) → is_ignored (is_running port) (view_of dev port) (seen frame) ≡ true → ignores dev port frame ≡ true
skipped_as dev port frame h = or_right (passes_over port.registers.switching dev (view_of dev port) (seen frame)) (is_ignored (is_running port) (view_of dev port) (seen frame)) h

pub heard_as : (dev : ℕ) (port : Port) (frame : List ℕ) → ignores dev port frame ≡ false → is_ignored (is_running port) (view_of dev port) (seen frame) ≡ false
heard_as dev port frame h = (or_parts (passes_over port.registers.switching dev (view_of dev port) (seen frame)) (is_ignored (is_running port) (view_of dev port) (seen frame)) h).1

-- what does not stop the port is no fault of the port
pub spares_as : (on : Bool) (f : Option Fault) → stops_with on f ≡ false → is_some (port_cause f) ≡ false
spares_as on f h = (or_parts (not on && is_some f) (is_some (port_cause f)) h).1

pub faultless_as : (on : Bool) (errors : Errors) (dev : ℕ) (f : Option Fault) → stops_with on f ≡ false → errors.port ≡ None → (errors_in on errors dev f).port ≡ None
faultless_as true errors dev (Some (fault.Port c)) spares h = absurd (true≢false spares)
faultless_as false errors dev None spares h = h
faultless_as false errors dev (Some f) spares h = absurd (true≢false spares)
faultless_as true errors dev other spares h = h

-- ---- the driver's mode

-- a port that runs switches between devices
pub started_mode : (n m : ℕ) (r : Registers) → AreDriven Switching n m r → r.started ≡ true → r.switching ≡ true
started_mode n m r d starts = elim (cases_lt n 7) [
  | inl less ↦ absurd (false≢true (sym (d.stopped (omega (arith, less))) ∙ starts))
  | inr least ↦ d.switches (omega (arith, least))
]

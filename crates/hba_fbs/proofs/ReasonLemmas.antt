-- A FIS is ignored exactly where there is a reason.
use Rattle.std.proofs.Common.{◌≡◌, ℕ, Bool, true, false, refl, Option, Some, None}
use Rattle.std.specs.Prelude.{◌&&◌, ◌||◌, if◌then◌else◌, is_none, is_some, not, Result}
use Rattle.fis_view.specs.declared.view.{Fis.Fis, FisFault.FisFault}
use Rattle.port_errors.specs.declared.cause.{DeviceCause.DeviceCause, Stop.Stop}
use Rattle.hba_fbs.specs.declared.reasons.Ignored.TheVariants as why
use Rattle.hba_fbs.specs.{Posting.signs, Reasons.ignored_for, Taking.{is_ignored, is_running, passes_over}, Views.{DeviceView, Port}}

by_cases : (started : Bool) (stop : Option Stop) (fault : Option DeviceCause) (mute over : Bool)
    → is_some (if not started then Some why.Stopped else if is_some stop then Some why.PortFaulty else if is_some fault then Some why.DeviceFaulty else if mute then Some why.NoSignature else if over then Some why.Unasked else None)
    ≡ (over || (not (started && is_none stop) || is_some fault || mute))
by_cases false stop fault mute true = refl
by_cases false stop fault mute false = refl
by_cases true (Some s) fault mute true = refl
by_cases true (Some s) fault mute false = refl
by_cases true None (Some c) mute true = refl
by_cases true None (Some c) mute false = refl
by_cases true None None true true = refl
by_cases true None None true false = refl
by_cases true None None false true = refl
by_cases true None None false false = refl

pub ignored_is : (dev : ℕ) (port : Port) (view : DeviceView) (fis : Result Fis FisFault)
    → is_some (ignored_for dev port view fis) ≡ (passes_over port.registers.switching dev view fis || is_ignored (is_running port) view fis)
ignored_is dev port view fis =
    by_cases port.registers.started port.errors.port view.fault (view.state.resetting && not (signs fis)) (passes_over port.registers.switching dev view fis)

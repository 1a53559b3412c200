-- What slot 30 does with a device, stage by stage: it identifies the device (ACS-3, IDENTIFY DEVICE), reads
-- its error log (ACS-3, READ LOG EXT and the NCQ Command Error log), or resets it (Serial ATA 3.x, software
-- reset).
use Rattle.std.specs.Prelude.{ℕ, Bool, true, false, if◌then◌else◌, Option, Some, None}
use Rattle.fis_view.specs.declared.build.H2dFields.{H2dFields}
use Rattle.slots.specs.Slots.{has_bit}
use Rattle.hba_driver.specs.declared.path.{Recovery.{Recovery, TheVariants.{Log, Reset}}, Stage.{Stage, TheVariants.{Identify, ReadLog, AssertReset}}}
use Rattle.hba_driver.specs.declared.{path.{Stage.TheVariants.{ReleaseReset, AwaitReset}, TaskFile.TaskFile}, plan.Device.Device}
use Rattle.hba_driver.specs.{declared.plan.Device.TheVariants.{Absent, Starting, Ready, Recovering}, Orders.{control, identify_fields, log_fields}}

-- the command that slot 30 issues for a stage, None if it issues nothing
unfoldable pub stage_fields : (dev : ℕ) → Stage → Option H2dFields
stage_fields dev Identify = Some (identify_fields dev)
stage_fields dev (ReadLog file) = Some (log_fields dev)
stage_fields dev AssertReset = Some (control dev 4)
stage_fields dev ReleaseReset = Some (control dev 0)
stage_fields dev AwaitReset = None

-- its command reads a page of 512 bytes into the driver's buffer
abbrev pub reads_page : Stage → Bool
reads_page Identify = true
reads_page (ReadLog file) = true
reads_page AssertReset = false
reads_page ReleaseReset = false
reads_page AwaitReset = false

-- the stage after the command of a stage is over, None if the path ends with it; IDENTIFY DEVICE follows the
-- end of the reset, which has no command
unfoldable pub next_stage : Stage → Option Stage
next_stage Identify = None
next_stage (ReadLog file) = None
next_stage AssertReset = Some ReleaseReset
next_stage ReleaseReset = Some AwaitReset
next_stage AwaitReset = Some Identify

-- the first stage of what is due for a device; a device that starts is identified once its signature came
abbrev pub first_stage : Device → (signed : Bool) → Option Stage
first_stage Starting signed = if signed then Some Identify else None
first_stage (Recovering (Log file)) signed = Some (ReadLog file)
first_stage (Recovering Reset) signed = Some AssertReset
first_stage device signed = None

-- How a device recovers from a fault, if this was its task file after it. If the device was ready and ERR,
-- bit 0 of Status, is set, its log tells which of its commands failed. Any other device is reset.
abbrev pub recovery : Device → TaskFile → Recovery
recovery Ready file = if has_bit file.status 0 then Log file else Reset
recovery device file = Reset

-- after a fault of the port each device that is there is reset
abbrev pub reset_if_there : Device → Device
reset_if_there Absent = Absent
reset_if_there device = Recovering Reset

-- Behind a multiplier each FIS that comes to the controller names the port from which it came: that of its device, or the control port
-- (Serial ATA 3.x, 10.5, the PM Port field, and 16.3, frame transmission by a port multiplier). So a FIS of a port is one that its device sent.
use Rattle.std.specs.{Prelude.{◌≡◌, ◌<◌, ℕ, Bool, true, List, IfSome}, List.{All, Contains}}
use Rattle.fis_view.specs.Frames.{IsFrame, Stamped}
use Rattle.multiplier.specs.State.{pm_port}
use Rattle.fan_out.specs.declared.fan_out.FanOut.{FanOut, TheVariants.{Device, Multiplier}}
use Rattle.ahci_machine.specs.States.{IsOpeningMachine, MachineState}
use Rattle.machine_laws.specs.{ControllerLaws.RunsRuled, Deeds.Deed, Rising.{Frames, HaveRisen, frames_in, is_multiplier, no_frames, untaken}}

-- its PM Port is the port of its stamp
abbrev pub IsMarked : Stamped → Type 0
IsMarked f = IsFrame f.bytes → pm_port f ≡ f.stamp.port

-- so it is of the answer of the control port that waits
abbrev pub AnswersMarked : FanOut → Type 0
AnswersMarked (Device s) = Unit {0}
AnswersMarked (Multiplier f) = IfSome f.multiplier.answer IsMarked

-- and of each FIS that came to the controller, or is to be taken
pub record AreMarked (m : MachineState) (frames : Frames) : Type 0 where
  pub answer : AnswersMarked m.fan
  pub came : is_multiplier m.fan ≡ true → All IsMarked frames.came
  pub coming : is_multiplier m.fan ≡ true → All IsMarked (untaken m)

abbrev pub OpensMarked : Type 0
OpensMarked = (ports : ℕ) (legacy : Bool) (m : MachineState) → IsOpeningMachine ports legacy m → AreMarked m no_frames

-- whatever happens to it
abbrev pub GoesOnMarked : Type 0
GoesOnMarked = (old : MachineState) (deeds : List Deed) (new : MachineState) (run : RunsRuled old deeds new) (was : Frames)
    → HaveRisen old was → AreMarked old was → AreMarked new (frames_in was old deeds new run)

-- A FIS whose stamp has a device port is one that a device sent; so is each of a device that is alone.
abbrev pub PortFramesAreSent : Type 0
PortFramesAreSent = (m : MachineState) (frames : Frames) → HaveRisen m frames → (f : Stamped) → Contains frames.came f
    → (is_multiplier m.fan ≡ true → f.stamp.port < 15) → Contains frames.sent f

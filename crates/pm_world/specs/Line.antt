-- The orders of a host to the control port of its multiplier, and the answers to them, while they are
-- on their way (Serial ATA 3.x, 16.2: READ PORT MULTIPLIER and WRITE PORT MULTIPLIER, software reset
-- of the control port). The stage of slot 31 tells them (`hba_driver`, specs/Slot31.antt).
use Rattle.std.specs.Prelude.{ℕ, ◌≡◌, ◌≢◌, ◌<◌, ◌⊎◌, ◌==◌, ◌&&◌, Bool, true, false, List, [], ◌∷◌, length, Option, Some, None, Ok, Result}
use Rattle.fis_view.specs.{Frames.Stamped, Seen.seen, declared.{view.Fis.Fis, view.FisFault.FisFault}}
use Rattle.fis_view.specs.declared.view.Fis.TheVariants as view
use Rattle.pm_control.specs.{Requests.request_in, declared.request.Request.TheVariants.{Reset, EndReset}}
use Rattle.multiplier.specs.{Arbiter.control_port, State.pm_port}
use Rattle.hba_driver.specs.Slot31.{Asks, IsAnswer31, IsAt31, IsNotice31, IsSignature31, Resets, Signs, Stage31, orders_clear}
use Rattle.hba_driver.specs.HostTurns.{Host, Ticks}
use Rattle.pm_world.specs.{Attached.Attached, Places.{Places, is_config, new_world}, Rules.Run, declared.{step.Config.Config, step.Step.Step}}
use Rattle.pm_world.specs.declared.step.Answer.{Answer}

-- ---- on the way down

-- none of these frames is for the control port
abbrev pub NoneDown : List Stamped → Type 0
NoneDown [] = Prim.Unit {0}
NoneDown (f ∷ frames) = (pm_port f ≢ control_port) × NoneDown frames

-- the two FISes of a software reset
abbrev pub IsReset : Stamped → Type 0
IsReset f = request_in f.bytes ≡ Some Reset

abbrev pub IsEnd : Stamped → Type 0
IsEnd f = request_in f.bytes ≡ Some EndReset

-- each frame that is for the control port begins a reset
abbrev pub AreResets : List Stamped → Type 0
AreResets [] = Prim.Unit {0}
AreResets (f ∷ frames) = (pm_port f ≡ control_port → IsReset f) × AreResets frames

-- of the frames for the control port the last is of the second kind, and those before it are of the
-- first
abbrev pub EndsIn : (before last : Stamped → Type 0) → List Stamped → Type 0
EndsIn before last [] = ⊥
EndsIn before last (f ∷ frames) =
    ((pm_port f ≢ control_port) × EndsIn before last frames)
    ⊎ (((pm_port f ≡ control_port) × before f × EndsIn before last frames)
    ⊎ ((pm_port f ≡ control_port) × last f × NoneDown frames))

-- ---- on the way up

abbrev pub is_register : Result Fis FisFault → Bool
is_register (Ok (view.RegD2H f)) = true
is_register _ = false

-- an answer of the control port
abbrev pub is_reply : Stamped → Bool
is_reply f = f.stamp.port == control_port && is_register (seen f.bytes)

abbrev pub NoneUp : List Stamped → Type 0
NoneUp [] = Prim.Unit {0}
NoneUp (f ∷ frames) = (is_reply f ≡ false) × NoneUp frames

-- exactly one frame is an answer, and it is of this kind
abbrev pub OneUp : (Stamped → Type 0) → List Stamped → Type 0
OneUp reply [] = ⊥
OneUp reply (f ∷ frames) =
    ((is_reply f ≡ false) × OneUp reply frames)
    ⊎ ((is_reply f ≡ true) × reply f × NoneUp frames)

-- what else comes from the control port is a notification
abbrev pub AreNotices : List Stamped → Type 0
AreNotices [] = Prim.Unit {0}
AreNotices (f ∷ frames) =
    (f.stamp.port ≡ control_port → is_reply f ≡ false → IsNotice31 f.bytes) × AreNotices frames

-- ---- by stage

-- the answer waits at the control port, or goes up, or does not exist
abbrev pub HasCome : (Stamped → Type 0) → Option Stamped → List Stamped → Type 0
HasCome reply waits up =
    ((frame : Stamped) × (waits ≡ Some frame) × reply frame × NoneUp up)
    ⊎ ((waits ≡ None) × (OneUp reply up ⊎ NoneUp up))

-- the last order is on its way down, or its answer on its way up
abbrev pub IsOwed : (before last reply : Stamped → Type 0) → List Stamped → Option Stamped → List Stamped
    → Type 0
IsOwed before last reply down waits up =
    (EndsIn before last down × (waits ≡ None) × NoneUp up)
    ⊎ (NoneDown down × HasCome reply waits up)

abbrev pub never : Stamped → Type 0
never f = ⊥

abbrev pub any : Stamped → Type 0
any f = Prim.Unit {0}

abbrev pub OnLine : Stage31 → List Stamped → Option Stamped → List Stamped → Type 0
OnLine Resets down waits up = AreResets down × (waits ≡ None) × NoneUp up
OnLine Signs down waits up = IsOwed IsReset IsEnd (λ f. IsSignature31 f.bytes) down waits up
OnLine Asks down waits up = IsOwed never any (λ f. IsAnswer31 f.bytes) down waits up
OnLine stage down waits up = NoneDown down × (waits ≡ None) × NoneUp up

-- slot 31 of a world is at this stage, and this is on its way
pub record IsLine (stage : Stage31) (now : Places) : Type 0 where
  pub at : IsAt31 stage now.host
  pub line : OnLine stage now.downward.frames now.multiplier.answer now.upward.frames
  pub notices : AreNotices now.upward.frames

-- ---- the law

-- nothing of the control port is on its way
abbrev pub IsClean : Places → Type 0
IsClean now =
    NoneDown now.downward.frames × (now.multiplier.answer ≡ None) × NoneUp now.upward.frames

-- Slot 31 is at a stage, and what that stage tells is on its way. A tick orders that a port be
-- cleared only when nothing is on its way.
pub record HasLine (now : Places) : Type 0 where
  pub stage : Stage31
  pub is : IsLine stage now
  pub clears : (n : ℕ) (acted : Bool) (new : Host) → Ticks now.host acted new
      → orders_clear n now.host ≡ true → IsClean now × (n < 15)

abbrev pub OneOrderAtATime : Type 0
OneOrderAtATime =
    (config : Config) (units : List Attached) → is_config config (length units) ≡ true
    → (steps : List Step) (answers : List Answer) (now : Places)
    → Run (new_world config units) steps answers now → HasLine now

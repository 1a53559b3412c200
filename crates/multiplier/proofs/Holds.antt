-- A port that does not forward gives nothing.
use Rattle.std.proofs.Common.{◌≡◌, ◌<◌, ◌==◌, ◌&&◌, ◌||◌, if◌then◌else◌, ℕ, arith, Bool, true, false, Option, Some, None, refl, ◌∙◌}
use Rattle.std.proofs.lemmas.Bool.{eqb-true}
use Rattle.std.specs.Prelude.{is_some}
use Rattle.fis_view.specs.Frames.{Stamped}
use Rattle.multiplier.specs.{Arbiter.control_port, State.{PmState, held, ready}}
use Rattle.pm_ports.specs.Port.{PortState, rises, next_up}

and_true : (b : Bool) → b ≡ (b && true)
and_true true = refl
and_true false = refl

and_false : (b : Bool) → false ≡ (b && false)
and_false true = refl
and_false false = refl

blocked_by : (present : Option ℕ) (up : Option Stamped) → is_some (rises false present up) ≡ false
blocked_by present None = refl
blocked_by present (Some frame) = refl

pub blocked : (port : PortState) → is_some (next_up false port) ≡ false
blocked port = blocked_by port.present port.up

held_by : (forwards : Bool) (present : Option ℕ) (up : Option Stamped)
    → is_some (rises forwards present up) ≡ (is_some (rises true present up) && forwards)
held_by true present up = and_true (is_some (rises true present up))
held_by false present up = blocked_by present up ∙ and_false (is_some (rises true present up))

-- a frame goes up if it would from a port that forwards, and this one does
pub held_if : (forwards : Bool) (port : PortState) → is_some (next_up forwards port) ≡ (is_some (next_up true port) && forwards)
held_if forwards port = held_by forwards port.present port.up

ready_by : (pm : PmState) (n : ℕ) (b : Bool) → n < 15 → (n == control_port) ≡ b
    → (if b then pm.registers.due || is_some pm.answer else is_some (held pm n)) ≡ true → is_some (held pm n) ≡ true
ready_by pm n true lt e t = let same : n ≡ 15 = eqb-true n 15 e in absurd (omega arith)
ready_by pm n false lt e t = t

-- a device port that is ready has a frame that may go up
pub ready_holds : (pm : PmState) (n : ℕ) → n < 15 → ready pm n ≡ true → is_some (held pm n) ≡ true
ready_holds pm n lt t = ready_by pm n (n == control_port) lt refl t

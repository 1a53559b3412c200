-- What is behind the port of a host: a link is of two ends (Serial ATA 3.x, 13), and at the other one is a device or a port
-- multiplier (16.3).
use Rattle.std.specs.{Prelude.{◌≡◌, ◌&&◌, ℕ, nat_lt, not, Bool, false, Option, None, Result, Ok, Err, MatchResult}, Bool.MatchBool}
use Rattle.std.specs.declared.alloc.AllocError.{AllocError}
use Rattle.fis_view.specs.Frames.{Stamped}
use Rattle.pm_ports.specs.declared.port.Offered.{Offered, TheVariants.Dropped}
use Rattle.multiplier.specs.{Rules.{NextDownRule, NextUpRule}, declared.multiplier.{Passed.Passed, PmRefusal.PmRefusal}}
use Rattle.fan_out.specs.Fans as fan
use Rattle.fan_out.specs.Straights as straight
use Rattle.fan_out.specs.declared.{fan_out.FanOut.{FanOut, TheVariants.{Device, Multiplier}}, seat.{NotThere.NotThere, PlugError.PlugError}}
use Rattle.fan_out.specs.declared.seat.PlugError.TheVariants.{NoPort}

-- a device alone is at port 0
abbrev pub port_count : FanOut → ℕ
port_count (Device s) = 1
port_count (Multiplier f) = f.multiplier.registers.ports

-- what holds for every one
abbrev pub IsEnd : FanOut → Type 0
IsEnd (Device s) = straight.IsStraight s
IsEnd (Multiplier f) = fan.IsFan f

-- nothing is at the other end
abbrev pub is_bare : FanOut → Bool
is_bare (Device s) = not s.seat.is_there
is_bare (Multiplier f) = false

abbrev pub has_port : FanOut → ℕ → Bool
has_port end n = nat_lt n (port_count end)

abbrev pub PlugsAt : FanOut → ℕ → Result (Unit {0}) PlugError → FanOut → Type 0
PlugsAt (Device old) n result (Device new) = straight.PlugsStraight old result new
PlugsAt (Multiplier old) n result (Multiplier new) = fan.PlugsFan old n result new
PlugsAt old n result new = ⊥

abbrev pub Plugs : FanOut → ℕ → Result (Unit {0}) PlugError → FanOut → Type 0
Plugs old n result new = MatchBool (has_port old n) (PlugsAt old n result new) ((result ≡ Err NoPort) × (new ≡ old))

abbrev pub PullsAt : FanOut → ℕ → Result (Unit {0}) NotThere → FanOut → Type 0
PullsAt (Device old) n result (Device new) = straight.PullsStraight old result new
PullsAt (Multiplier old) n result (Multiplier new) = fan.PullsFan old n result new
PullsAt old n result new = ⊥

abbrev pub Pulls : FanOut → ℕ → Result (Unit {0}) NotThere → FanOut → Type 0
Pulls old n result new =
    MatchBool (has_port old n) (PullsAt old n result new) (MatchResult result (λ _. ⊥) (λ _. new ≡ old))

abbrev pub renewed_end : FanOut → FanOut
renewed_end (Device s) = Device (straight.renewed s)
renewed_end (Multiplier f) = Multiplier (fan.renewed f)

abbrev pub Sends : FanOut → Stamped → Result Passed (Stamped × PmRefusal) → FanOut → Type 0
Sends (Device old) frame result (Device new) = straight.SendsStraight old frame result new
Sends (Multiplier old) frame result (Multiplier new) = fan.SendsFan old frame result new
Sends old frame result new = ⊥

abbrev pub GivesUpThere : FanOut → Result (Option Stamped) AllocError → FanOut → Type 0
GivesUpThere (Device old) result (Device new) =
    MatchResult result (λ up. straight.GivesUp old up new) (λ _. ⊥)
GivesUpThere (Multiplier old) result (Multiplier new) = fan.Through (λ was now. NextUpRule was result now) old new
GivesUpThere old result new = ⊥

abbrev pub GivesDownAt : FanOut → ℕ → Option Stamped → FanOut → Type 0
GivesDownAt (Device old) n result (Device new) = straight.GivesDown old result new
GivesDownAt (Multiplier old) n result (Multiplier new) = fan.Through (λ was now. NextDownRule was n result now) old new
GivesDownAt old n result new = ⊥

abbrev pub GivesDownThere : FanOut → ℕ → Option Stamped → FanOut → Type 0
GivesDownThere old n result new =
    MatchBool (has_port old n) (GivesDownAt old n result new) ((result ≡ None) × (new ≡ old))

abbrev pub wants_there : FanOut → ℕ → Bool
wants_there (Device s) n = straight.wants s
wants_there (Multiplier f) n = fan.wants f n

abbrev pub wants_at : FanOut → ℕ → Bool
wants_at end n = has_port end n && wants_there end n

abbrev pub OffersAt : FanOut → ℕ → Stamped → Result Offered Stamped → FanOut → Type 0
OffersAt (Device old) n frame result (Device new) = straight.OffersStraight old frame result new
OffersAt (Multiplier old) n frame result (Multiplier new) = fan.OffersFan old n frame result new
OffersAt old n frame result new = ⊥

abbrev pub Offers : FanOut → ℕ → Stamped → Result Offered Stamped → FanOut → Type 0
Offers old n frame result new =
    MatchBool (has_port old n) (OffersAt old n frame result new) ((result ≡ Ok Dropped) × (new ≡ old))

abbrev pub Tells : FanOut → Option ℕ → FanOut → Type 0
Tells (Device old) result (Device new) = straight.TellsStraight old result new
Tells (Multiplier old) result (Multiplier new) = fan.TellsFan old result new
Tells old result new = ⊥

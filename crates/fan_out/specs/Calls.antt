-- Frames pass a fan in order (Serial ATA 3.x, 16.3, port multiplier: frame transmission), and a reset by SControl ends what was sent
-- before it (14.1.3, DET 1). Between two resets of the link each call is a few calls of the multiplier.
use Rattle.std.specs.{Prelude.{◌≡◌, ◌<◌, ◌==◌, ℕ, true, false, if◌then◌else◌, List, [], ◌∷◌, ◌++◌, Option, Some, Result, Ok}, List.flat_map}
use Rattle.std.specs.declared.alloc.AllocError.{AllocError}
use Rattle.fis_view.specs.Frames.{Stamped}
use Rattle.pm_ports.specs.{Port.is_gone, declared.port.Offered.{Offered, TheVariants.Held}}
use Rattle.multiplier.specs.{Passing.{held_of, of_conn}, State.{largest, port_at, rising}, declared.multiplier.{Passed.Passed, PmRefusal.PmRefusal}}
use Rattle.fan_out.specs.{FanOuts.{GivesDownThere, GivesUpThere, Offers, Plugs, Pulls, Sends, Tells}, Fans.{FanState, IsFan, is_in_reset, seat_at}}
use Rattle.fan_out.specs.declared.{fan_out.FanOut.{FanOut, TheVariants.{Device, Multiplier}}, seat.{NotThere.NotThere, PlugError.PlugError}}

-- a call other than `renew`, with its result
pub data FanCall : Type 0 where
  Plug : (n : ℕ) → Result (Unit {0}) PlugError → FanCall
  Pull : (n : ℕ) → Result (Unit {0}) NotThere → FanCall
  Send : Stamped → Result Passed (Stamped × PmRefusal) → FanCall
  GiveUp : Result (Option Stamped) AllocError → FanCall
  GiveDown : (n : ℕ) → Option Stamped → FanCall
  -- and the frame that waits at the port afterwards
  Offer : (n : ℕ) → Stamped → Result Offered Stamped → (waits : Option Stamped) → FanCall
  Tell : Option ℕ → FanCall

-- the frame that waits at a port to go up
abbrev pub waits_at : FanOut → ℕ → Option Stamped
waits_at (Device s) n = s.port.up
waits_at (Multiplier f) n = (port_at f.multiplier n).up

-- as in its contract
abbrev pub Does : FanOut → FanCall → FanOut → Type 0
Does old (Plug n result) new = Plugs old n result new
Does old (Pull n result) new = Pulls old n result new
Does old (Send frame result) new = Sends old frame result new
Does old (GiveUp result) new = GivesUpThere old result new
Does old (GiveDown n result) new = GivesDownThere old n result new
Does old (Offer n frame result waits) new = Offers old n frame result new × (waits ≡ waits_at new n)
Does old (Tell result) new = Tells old result new

-- one call after another
abbrev pub DoesAll : FanOut → List FanCall → FanOut → Type 0
DoesAll old [] new = new ≡ old
DoesAll old (call ∷ calls) new = (mid : FanOut) × Does old call mid × DoesAll mid calls new

-- what the host is given
abbrev pub given_by : FanCall → List Stamped
given_by (GiveUp (Ok (Some frame))) = frame ∷ []
given_by call = []

abbrev pub given : List FanCall → List Stamped
given calls = flat_map given_by calls

-- what the device at port n offers on connection c and is held, as it goes up
abbrev pub offered_by : ℕ → ℕ → FanCall → List Stamped
offered_by n c (Offer m frame (Ok Held) (Some waits)) = if m == n then of_conn n c (rising n waits ∷ []) else []
offered_by n c call = []

abbrev pub offered : ℕ → ℕ → List FanCall → List Stamped
offered n c calls = flat_map (offered_by n c) calls

-- What holds for calls that take one fan to another.
pub record PassesInOrder (old : FanState) (calls : List FanCall) (new : FanState) : Type 0 where
  pub fan : IsFan new
  -- For each connection: what the host is given, and then what waits at the port, is a beginning of what waited, and then what the
  -- device offered. What is missing was dropped with its connection.
  pub up : (n c : ℕ) → n < 15
      → (dropped : List Stamped)
      × (of_conn n c (given calls) ++ held_of n c new.multiplier ++ dropped
      ≡ held_of n c old.multiplier ++ offered n c calls)
  -- nothing is dropped of a connection that is not gone
  pub kept : (n c : ℕ) → n < 15 → is_gone (port_at new.multiplier n) c ≡ false
      → of_conn n c (given calls) ++ held_of n c new.multiplier ≡ held_of n c old.multiplier ++ offered n c calls
  -- nothing more is given of one that is gone
  pub over : (n c : ℕ) → n < 15 → is_gone (port_at old.multiplier n) c ≡ true → of_conn n c (given calls) ≡ []

-- A frame of the host ends the reset of a port: the connection that was there is gone, and the device is there on the next one, and is
-- to begin anew.
pub record EndsConnection (old : FanState) (n : ℕ) (new : FanState) : Type 0 where
  pub gone : is_gone (port_at new.multiplier n) (seat_at old n).last ≡ true
  pub there : (seat_at new n).is_there ≡ true
  pub begun : (seat_at new n).begun ≡ true

abbrev pub ResetEndsConnection : FanState → Stamped → Result Passed (Stamped × PmRefusal) → FanState → Type 0
ResetEndsConnection old frame result new =
    (n : ℕ) → n < old.multiplier.registers.ports
    → is_in_reset old.multiplier n ≡ true → is_in_reset new.multiplier n ≡ false
    → (seat_at old n).is_there ≡ true → (seat_at old n).last < largest
    → EndsConnection old n new

-- A port multiplier whose devices come and go, and are reset by their ports (Serial ATA 3.x, 16.3, port multiplier; 16.4.2, PSCR[2]
-- is SControl of the port; 14.1.3, SControl: DET 1 resets the device for as long as it stands there).
use Rattle.std.specs.Prelude.{◌≡◌, ◌≤◌, ◌<◌, ◌==◌, ◌&&◌, ℕ, zero, suc, nat_lt, Bool, true, false, if◌then◌else◌, List, length, replicate}
use Rattle.std.specs.Prelude.{slice_index_or, slice_set, Option, Some, None, is_none, is_some, MatchOption, MatchResult, Result, Ok, Err}
use Rattle.std.specs.{Bool.MatchBool, List.{find, range_with_len}, Result.result_err}
use Rattle.fis_view.specs.Frames.{Stamped}
use Rattle.pm_registers.specs.Port.{det}
use Rattle.pm_registers.specs.RegisterMap as map
use Rattle.pm_control.specs.{Requests.request_in, declared.request.Request.{Request, TheVariants.Write}}
use Rattle.pm_ports.specs.Port as port
use Rattle.pm_ports.specs.declared.port.Offered.{Offered, TheVariants.{Held, Dropped}}
use Rattle.multiplier.specs.{Rules.{FromHostRule, KeepsPorts, with_device, without_device}, declared.multiplier.{Passed.Passed, PmRefusal.PmRefusal}}
use Rattle.multiplier.specs.State as pm
use Rattle.fan_out.specs.Seats.{after_sent, connection, empty_seat, left, next_connection, plug_refusal, seated, sent_from, told}
use Rattle.fan_out.specs.declared.seat.{NotThere.NotThere, PlugError.PlugError, Seat.Seat}

pub record FanState : Type 0 where
  pub multiplier : pm.PmState
  -- whether port 0 is open from the start, for software that knows no multipliers
  pub legacy : Bool
  -- by port: the connection that is there, or was there last
  pub seats : List Seat

abbrev pub seat_at : FanState → ℕ → Seat
seat_at f n = slice_index_or f.seats n empty_seat

-- what holds for every fan: its multiplier is sound, and has the connections of the seats
pub record IsFan (f : FanState) : Type 0 where
  pub sound : pm.IsSound f.multiplier
  pub some : 1 ≤ f.multiplier.registers.ports
  pub room : length f.seats ≡ 15
  pub present : (n : ℕ) → (pm.port_at f.multiplier n).present ≡ connection (seat_at f n)
  pub last : (n : ℕ) → (pm.port_at f.multiplier n).last ≡ (seat_at f n).last

-- a new multiplier, of which port 0 is open from the start or not, with a device there or none
abbrev pub opening_multiplier : ℕ → Bool → Bool → pm.PmState
opening_multiplier ports legacy is_there =
    if legacy then pm.opening_with_port_0 ports (if is_there then Some 1 else None) else pm.opening ports

-- no device came, or one as connection 1 to the first seat, where port 0 is open from the start
abbrev pub opening_seats : Bool → Bool → List Seat
opening_seats legacy is_there =
    if legacy && is_there then slice_set (replicate 15 empty_seat) 0 (seated 1) else replicate 15 empty_seat

-- a new fan; a device may be at port 0 from the start, as connection 1, where that port is open
abbrev pub opening_fan : ℕ → Bool → Bool → FanState
opening_fan ports legacy is_there = record {
  multiplier = opening_multiplier ports legacy is_there;
  legacy = legacy;
  seats = opening_seats legacy is_there;
}

abbrev pub on : FanState → pm.PmState → FanState
on f m = record { multiplier = m; legacy = f.legacy; seats = f.seats }

-- a call of the multiplier alone, by its rule; who is where stays
abbrev pub Through : (pm.PmState → pm.PmState → Type 0) → FanState → FanState → Type 0
Through Rule old new =
    Rule old.multiplier new.multiplier × KeepsPorts old.multiplier new.multiplier × (new ≡ on old new.multiplier)

abbrev pub with_seat : FanState → ℕ → Seat → FanState
with_seat f n seat = record { multiplier = f.multiplier; legacy = f.legacy; seats = slice_set f.seats n seat }

-- ---- who is there

-- a device comes to a port, as this connection, if the port takes it
abbrev pub joined : FanState → ℕ → ℕ → FanState
joined f n conn =
    if is_some (port.came_refusal (pm.port_at f.multiplier n) conn) then f
    else record { multiplier = with_device f.multiplier n conn; legacy = f.legacy; seats = slice_set f.seats n (seated conn) }

-- the device of a port goes, and with it the frames that wait there
abbrev pub parted : FanState → ℕ → FanState
parted f n = record {
  multiplier = without_device f.multiplier n (seat_at f n).last;
  legacy = f.legacy;
  seats = slice_set f.seats n (left (seat_at f n));
}

abbrev pub PlugsFan : FanState → ℕ → Result (Unit {0}) PlugError → FanState → Type 0
PlugsFan old n result new =
    (result_err result ≡ plug_refusal (seat_at old n))
    × MatchResult result
    (λ _. new ≡ record {
      multiplier = with_device old.multiplier n (next_connection (seat_at old n));
      legacy = old.legacy;
      seats = slice_set old.seats n (seated (next_connection (seat_at old n)));
    })
    (λ _. new ≡ old)

abbrev pub PullsFan : FanState → ℕ → Result (Unit {0}) NotThere → FanState → Type 0
PullsFan old n result new =
    MatchResult result (λ _. ((seat_at old n).is_there ≡ true) × (new ≡ parted old n))
    (λ _. ((seat_at old n).is_there ≡ false) × (new ≡ old))

-- The device of a port goes and comes again, as the next connection: what it sent before is dropped, and it is to begin anew. After
-- the last connection nothing happens.
abbrev pub rejoined : FanState → ℕ → FanState
rejoined f n =
    if (seat_at f n).is_there && nat_lt (seat_at f n).last pm.largest
    then joined (parted f n) n (next_connection (seat_at f n))
    else f

-- the device of this seat, if there was one, comes to a port as connection 1
abbrev pub joined_again : FanState → ℕ → Seat → FanState
joined_again f n seat = if seat.is_there then joined f n 1 else f

-- the devices of these seats come to the first ports, one after another
abbrev pub all_joined : List Seat → ℕ → FanState → FanState
all_joined seats zero f = f
all_joined seats (suc n) f = joined_again (all_joined seats n f) n (slice_index_or seats n empty_seat)

-- the link was reset: all is as at first, and the same devices are plugged in
abbrev pub renewed : FanState → FanState
renewed f =
    all_joined f.seats f.multiplier.registers.ports
    (opening_fan f.multiplier.registers.ports f.legacy (seat_at f 0).is_there)

-- a port, and its seat, where a device was or not: its device is there, as connection 1, and is to begin, and nothing waits
abbrev pub renewed_port : Seat → port.PortState
renewed_port seat = if seat.is_there then port.with_connection port.empty_port 1 else port.empty_port

abbrev pub renewed_seat : Seat → Seat
renewed_seat seat = if seat.is_there then seated 1 else empty_seat

-- what that is at each port; FISes pass the device of port 0 at once where that port is open from the start
pub record IsRenewed (old new : FanState) : Type 0 where
  pub fan : IsFan new
  pub ports : new.multiplier.registers.ports ≡ old.multiplier.registers.ports
  pub legacy : new.legacy ≡ old.legacy
  pub answer : new.multiplier.answer ≡ None
  pub port : (n : ℕ) → n < old.multiplier.registers.ports
      → pm.port_at new.multiplier n ≡ renewed_port (seat_at old n)
  pub seat : (n : ℕ) → n < old.multiplier.registers.ports → seat_at new n ≡ renewed_seat (seat_at old n)
  pub passes : old.legacy ≡ true
      → pm.passes_to new.multiplier 0 ≡ (if (seat_at old 0).is_there then Some 1 else None)

-- the first port whose device is to begin anew
abbrev pub first_begun : FanState → Option ℕ
first_begun f = find (λ n. (seat_at f n).begun) (range_with_len 0 f.multiplier.registers.ports)

abbrev pub TellsFan : FanState → Option ℕ → FanState → Type 0
TellsFan old result new =
    (result ≡ first_begun old)
    × MatchOption result (new ≡ old) (λ n. new ≡ with_seat old n (told (seat_at old n)))

-- ---- to the devices

-- SControl of a port holds its device in reset
abbrev pub is_in_reset : pm.PmState → ℕ → Bool
is_in_reset m n = det (map.port_at m.registers n).control == 1

-- the port whose SControl a request writes
abbrev pub controlled_by : Option Request → Option ℕ
controlled_by (Some (Write at value)) = if at.register == 2 then Some at.port else None
controlled_by request = None

abbrev pub controlled : List ℕ → Option ℕ
controlled bytes = controlled_by (request_in bytes)

-- that port, if there is one and it is in reset
abbrev pub only_in_reset : pm.PmState → Option ℕ → Option ℕ
only_in_reset m (Some n) = if nat_lt n m.registers.ports && is_in_reset m n then Some n else None
only_in_reset m None = None

abbrev pub held_in_reset : pm.PmState → Stamped → Option ℕ
held_in_reset m frame = only_in_reset m (controlled frame.bytes)

-- a port that was in reset is so no more: its device begins anew
abbrev pub heeded : FanState → ℕ → FanState
heeded f n = if is_in_reset f.multiplier n then f else rejoined f n

-- The multiplier takes the frame. Where that ends the reset of a port, its device begins anew.
abbrev pub SendsFan : FanState → Stamped → Result Passed (Stamped × PmRefusal) → FanState → Type 0
SendsFan old frame result new =
    (mid : pm.PmState) × FromHostRule old.multiplier frame result mid × KeepsPorts old.multiplier mid
    × MatchOption (held_in_reset old.multiplier frame) (new ≡ on old mid) (λ n. new ≡ heeded (on old mid) n)

-- ---- to the host

-- whether a device is at a port and has sent nothing that waits
abbrev pub wants : FanState → ℕ → Bool
wants f n = (seat_at f n).is_there && is_none (pm.port_at f.multiplier n).up

-- a frame of the device at a port as it waits there
abbrev pub waiting : FanState → ℕ → Stamped → Stamped
waiting f n frame = sent_from n (seat_at f n) frame

-- the fan with it
abbrev pub held_fan : FanState → ℕ → Stamped → FanState
held_fan f n frame = record {
  multiplier = pm.with_port f.multiplier n (port.with_up (pm.port_at f.multiplier n) (Some (waiting f n frame)));
  legacy = f.legacy;
  seats = slice_set f.seats n (after_sent (seat_at f n));
}

abbrev pub OffersFan : FanState → ℕ → Stamped → Result Offered Stamped → FanState → Type 0
OffersFan old n frame result new =
    MatchBool (seat_at old n).is_there
    (MatchBool (is_none (pm.port_at old.multiplier n).up) ((result ≡ Ok Held) × (new ≡ held_fan old n frame))
    ((result ≡ Err frame) × (new ≡ old)))
    ((result ≡ Ok Dropped) × (new ≡ old))

-- What is behind the port of a host as words.
use Rattle.std.specs.Prelude.{◌≡◌, ℕ, ◌<◌, ◌^◌, ◌==◌, ◌&&◌, not, nat_le, nat_lt, List, ◌∷◌, length, slice_index_or, Bool, Option, Some, None}
use Rattle.std.specs.List.{AllByRecursion, list_all, range_with_len}
use Rattle.std.proofs.Common.{ap, sym, ◌∙◌}
use Rattle.saved_state.specs.State.{IsToldApart, put_all, put_bool, put_number, put_pair, put_three, number_apart, bool_apart, all_apart, pair_apart}
use Rattle.saved_state.specs.State.{three_apart, parts_apart}
use Rattle.pm_ports.specs.Port as port
use Rattle.pm_ports.specs.Saved.{KeepsPort, port_apart, put_port}
use Rattle.multiplier.specs.State as pm
use Rattle.multiplier.specs.Saved.{KeepsMultiplier, multiplier_apart, put_multiplier}
use Rattle.fan_out.specs.{Fans.{FanState, IsFan}, Seats.empty_seat, Straights.{IsStraight, StraightState}, declared.fan_out.FanOut.FanOut}
use Rattle.fan_out.specs.declared.{fan_out.FanOut.TheVariants.{Device, Multiplier}, seat.Seat.Seat}

-- ---- a seat: the last connection that came, whether its device is there, the number of its next frame, and whether it is to begin

abbrev pub SeatParts : Type 0
SeatParts = ℕ × Bool × (ℕ × Bool)

abbrev pub seat_parts : Seat → SeatParts
seat_parts seat = (seat.last, seat.is_there, (seat.sent, seat.begun))

abbrev pub put_seat_parts : SeatParts → List ℕ → List ℕ
put_seat_parts = put_three put_number put_bool (put_pair put_number put_bool)

abbrev pub KeepsSeatParts : SeatParts → Type 0
KeepsSeatParts parts = (parts.0 < 2 ^ 32) × Unit {0} × ((parts.2.0 < 2 ^ 32) × Unit {0})

abbrev pub put_seat : Seat → List ℕ → List ℕ
put_seat seat rest = put_seat_parts (seat_parts seat) rest

abbrev pub KeepsSeat : Seat → Type 0
KeepsSeat seat = KeepsSeatParts (seat_parts seat)

-- whether this connection is there, or none
abbrev pub is_at : Seat → Option ℕ → Bool
is_at seat (Some conn) = seat.is_there && conn == seat.last
is_at seat None = not seat.is_there

-- whether a port has the connections of the seat
abbrev pub seat_fits : Seat → port.PortState → Bool
seat_fits seat p = is_at seat p.present && p.last == seat.last

-- ---- one device: its port, its seat, and the PM Port of the FIS that it was given last

abbrev pub StraightParts : Type 0
StraightParts = port.PortState × Seat × ℕ

abbrev pub straight_parts : StraightState → StraightParts
straight_parts s = (s.port, s.seat, s.asked)

abbrev pub put_straight_parts : StraightParts → List ℕ → List ℕ
put_straight_parts = put_three put_port put_seat put_number

abbrev pub KeepsStraightParts : StraightParts → Type 0
KeepsStraightParts parts = KeepsPort parts.0 × KeepsSeat parts.1 × (parts.2 < 2 ^ 8)

abbrev pub put_straight : StraightState → List ℕ → List ℕ
put_straight s rest = put_straight_parts (straight_parts s) rest

abbrev pub KeepsStraight : StraightState → Type 0
KeepsStraight s = KeepsStraightParts (straight_parts s) × IsStraight s

abbrev pub straight_fits : port.PortState → Seat → ℕ → Bool
straight_fits p seat asked = seat_fits seat p && nat_lt asked 16

abbrev pub straight_parts_fit : StraightParts → Bool
straight_parts_fit parts = straight_fits parts.0 parts.1 parts.2

-- ---- a fan: its multiplier, whether port 0 is open from the start, and the seats

abbrev pub FanParts : Type 0
FanParts = pm.PmState × Bool × List Seat

abbrev pub fan_parts : FanState → FanParts
fan_parts f = (f.multiplier, f.legacy, f.seats)

abbrev pub put_fan_parts : FanParts → List ℕ → List ℕ
put_fan_parts = put_three put_multiplier put_bool (put_all put_seat)

abbrev pub KeepsFanParts : FanParts → Type 0
KeepsFanParts parts = KeepsMultiplier parts.0 × Unit {0} × ((length parts.2 ≡ 15) × AllByRecursion KeepsSeat parts.2)

abbrev pub put_fan : FanState → List ℕ → List ℕ
put_fan f rest = put_fan_parts (fan_parts f) rest

abbrev pub KeepsFan : FanState → Type 0
KeepsFan f = KeepsFanParts (fan_parts f) × IsFan f

-- whether each seat has the connections of its port
abbrev pub fits_at : pm.PmState → List Seat → ℕ → Bool
fits_at m seats n = seat_fits (slice_index_or seats n empty_seat) (pm.port_at m n)

unfoldable pub seats_fit : pm.PmState → List Seat → Bool
seats_fit m seats = list_all (fits_at m seats) (range_with_len 0 15)

abbrev pub fan_fits : pm.PmState → List Seat → Bool
fan_fits m seats = nat_le 1 m.registers.ports && seats_fit m seats

abbrev pub fan_parts_fit : FanParts → Bool
fan_parts_fit parts = fan_fits parts.0 parts.2

-- ---- either

abbrev pub put_end : FanOut → List ℕ → List ℕ
put_end (Device s) rest = 1 ∷ put_straight s rest
put_end (Multiplier f) rest = 2 ∷ put_fan f rest

abbrev pub KeepsEnd : FanOut → Type 0
KeepsEnd (Device s) = KeepsStraight s
KeepsEnd (Multiplier f) = KeepsFan f

-- ---- words are those of one value

pub seat_parts_apart : IsToldApart put_seat_parts KeepsSeatParts
seat_parts_apart = three_apart put_number (λ n. n < 2 ^ 32) (λ a b x y k l e. number_apart a b x y e)
    put_bool (λ _. Unit {0}) (λ a b x y k l e. bool_apart a b x y e)
    (put_pair put_number put_bool) (λ p. (p.0 < 2 ^ 32) × Unit {0})
    (pair_apart put_number (λ n. n < 2 ^ 32) (λ a b x y k l e. number_apart a b x y e)
    put_bool (λ _. Unit {0}) (λ a b x y k l e. bool_apart a b x y e))

pub seat_apart : IsToldApart put_seat KeepsSeat
seat_apart = parts_apart put_seat_parts KeepsSeatParts KeepsSeat seat_parts seat_parts_apart (λ v k. k)
    (λ a b e. ap (λ p. record { last = p.0; is_there = p.1; sent = p.2.0; begun = p.2.1 }) e)

pub straight_parts_apart : IsToldApart put_straight_parts KeepsStraightParts
straight_parts_apart = three_apart put_port KeepsPort port_apart put_seat KeepsSeat seat_apart
    put_number (λ n. n < 2 ^ 8) (λ a b x y k l e. number_apart a b x y e)

pub straight_apart : IsToldApart put_straight KeepsStraight
straight_apart = parts_apart put_straight_parts KeepsStraightParts KeepsStraight straight_parts straight_parts_apart (λ v k. k.0)
    (λ a b e. ap (λ p. record { port = p.0; seat = p.1; asked = p.2 }) e)

pub fan_parts_apart : IsToldApart put_fan_parts KeepsFanParts
fan_parts_apart = three_apart put_multiplier KeepsMultiplier multiplier_apart put_bool (λ _. Unit {0}) (λ a b x y k l e. bool_apart a b x y e)
    (put_all put_seat) (λ all. (length all ≡ 15) × AllByRecursion KeepsSeat all)
    (λ a b x y k l e. all_apart put_seat KeepsSeat seat_apart a b x y (k.0 ∙ sym l.0) k.1 l.1 e)

pub fan_apart : IsToldApart put_fan KeepsFan
fan_apart = parts_apart put_fan_parts KeepsFanParts KeepsFan fan_parts fan_parts_apart (λ v k. k.0)
    (λ a b e. ap (λ p. record { multiplier = p.0; legacy = p.1; seats = p.2 }) e)

pub end_apart : IsToldApart put_end KeepsEnd
end_apart (Device a) (Device b) x y k l e =
    let inner : put_straight a x ≡ put_straight b y = cc in
    let both = straight_apart a b x y k l inner in (ap Device both.0, both.1)
end_apart (Multiplier a) (Multiplier b) x y k l e =
    let inner : put_fan a x ≡ put_fan b y = cc in
    let both = fan_apart a b x y k l inner in (ap Multiplier both.0, both.1)
end_apart (Device a) (Multiplier b) x y k l e = absurd (cc)
end_apart (Multiplier a) (Device b) x y k l e = absurd (cc)

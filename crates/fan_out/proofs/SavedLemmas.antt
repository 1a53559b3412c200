-- The rules of what is restored: what fits is sound.
use Rattle.std.proofs.Common.{◌≡◌, ℕ, ◌==◌, Bool, true, false, not, if◌then◌else◌, Option, Some, None, refl, sym, ap, ◌∙◌, arith, inl, inr}
use Rattle.std.proofs.{Math.ListN.{get_or-eq_default}, lemmas.Bool.{and_from, and_parts, cases_lt, eq-eqb, eqb-true, le-leb, leb-true, lt-ltb}}
use Rattle.std.proofs.lemmas.Bool.{ltb-true}
use Rattle.std.specs.Prelude.{nat_le, nat_lt}
use Rattle.pm_ports.specs.Port as port
use Rattle.multiplier.specs.State as pm
use Rattle.multiplier.proofs.Door.{all_in, each_in}
use Rattle.fan_out.specs.{Fans.{FanState, IsFan, seat_at}, Seats.{connection, empty_seat}, Straights.{IsStraight, StraightState}, Saved.KeepsFanParts}
use Rattle.fan_out.specs.{Saved.{fan_fits, fan_parts, fits_at, is_at, seat_fits, seats_fit, straight_fits}, declared.seat.Seat.Seat}

-- ---- a seat and its port

there_by : (present : Option ℕ) (seat : Seat) (b : Bool) → seat.is_there ≡ b → is_at seat present ≡ true
    → present ≡ (if b then Some seat.last else None)
there_by None seat true is fit = absurd (let gone = rw is at fit in cc)
there_by None seat false is fit = refl
there_by (Some conn) seat true is fit = ap Some (eqb-true conn seat.last (and_parts seat.is_there (conn == seat.last) fit).1)
there_by (Some conn) seat false is fit = let there = (and_parts seat.is_there (conn == seat.last) fit).0 in absurd (cc)

there : (present : Option ℕ) (seat : Seat) → is_at seat present ≡ true → present ≡ connection seat
there present seat fit = there_by present seat seat.is_there refl fit

is_by : (present : Option ℕ) (seat : Seat) (b : Bool) → seat.is_there ≡ b → present ≡ (if b then Some seat.last else None)
    → is_at seat present ≡ true
is_by None seat true is same = absurd (cc)
is_by None seat false is same = ap not is
is_by (Some conn) seat true is same =
    let last : conn ≡ seat.last = cc in and_from seat.is_there (conn == seat.last) is (eq-eqb conn seat.last last)
is_by (Some conn) seat false is same = absurd (cc)

is_there : (present : Option ℕ) (seat : Seat) → present ≡ connection seat → is_at seat present ≡ true
is_there present seat same = is_by present seat seat.is_there refl same

abbrev Agrees : Seat → port.PortState → Type 0
Agrees seat p = (p.present ≡ connection seat) × (p.last ≡ seat.last)

agrees : (seat : Seat) (p : port.PortState) → seat_fits seat p ≡ true → Agrees seat p
agrees seat p fit =
    let both = and_parts (is_at seat p.present) (p.last == seat.last) fit in
    (there p.present seat both.0, eqb-true p.last seat.last both.1)

fits : (seat : Seat) (p : port.PortState) → p.present ≡ connection seat → p.last ≡ seat.last → seat_fits seat p ≡ true
fits seat p present last = and_from (is_at seat p.present) (p.last == seat.last) (is_there p.present seat present) (eq-eqb p.last seat.last last)

-- ---- one device

pub fit_straight : (s : StraightState) → straight_fits s.port s.seat s.asked ≡ true → IsStraight s
fit_straight s fit =
    let both = and_parts (seat_fits s.seat s.port) (nat_lt s.asked 16) fit in
    let seat = agrees s.seat s.port both.0 in
    record { present = seat.0; last = seat.1; asked = ltb-true s.asked 16 both.1 }

pub straight_fit : (s : StraightState) → IsStraight s → straight_fits s.port s.seat s.asked ≡ true
straight_fit s is = and_from (seat_fits s.seat s.port) (nat_lt s.asked 16) (fits s.seat s.port is.present is.last) (lt-ltb s.asked 16 is.asked)

-- ---- a multiplier

agree : (f : FanState) → KeepsFanParts (fan_parts f) → seats_fit f.multiplier f.seats ≡ true
    → (n : ℕ) → Agrees (seat_at f n) (pm.port_at f.multiplier n)
unfolding seats_fit
agree f keeps fit n =
    elim (cases_lt n 15) [
      | inl low ↦ agrees (seat_at f n) (pm.port_at f.multiplier n)
          (each_in (fits_at f.multiplier f.seats) 0 15 fit n (omega arith) (omega (arith, low)))
      | inr high ↦
          let seat : seat_at f n ≡ empty_seat = get_or-eq_default f.seats empty_seat (omega (arith, high, keeps.2.0)) in
          let none : pm.port_at f.multiplier n ≡ port.empty_port =
          get_or-eq_default f.multiplier.ports port.empty_port (omega (arith, high, keeps.0.0.0.2.0)) in (
            ap (λ (p : port.PortState). p.present) none ∙ sym (ap connection seat),
            ap (λ (p : port.PortState). p.last) none ∙ sym (ap (λ (s : Seat). s.last) seat),
          )
    ]

pub fit_fan : (f : FanState) → KeepsFanParts (fan_parts f) → fan_fits f.multiplier f.seats ≡ true → IsFan f
fit_fan f keeps fit =
    let both = and_parts (nat_le 1 f.multiplier.registers.ports) (seats_fit f.multiplier f.seats) fit in record {
      sound = keeps.0.1;
      some = leb-true 1 f.multiplier.registers.ports both.0;
      room = keeps.2.0;
      present = λ n. (agree f keeps both.1 n).0;
      last = λ n. (agree f keeps both.1 n).1;
    }

pub fan_fit : (f : FanState) → IsFan f → fan_fits f.multiplier f.seats ≡ true
unfolding seats_fit
fan_fit f is =
    and_from (nat_le 1 f.multiplier.registers.ports) (seats_fit f.multiplier f.seats) (le-leb 1 f.multiplier.registers.ports is.some)
    (all_in (fits_at f.multiplier f.seats) 0 15
    (λ n low. fits (seat_at f n) (pm.port_at f.multiplier n) (is.present n) (is.last n)))

-- What each call leaves is a fan.
use Rattle.std.proofs.Common.{◌≡◌, ◌≢◌, ℕ, zero, suc, ◌+◌, ◌<◌, ◌≤◌, Bool, true, false, List, [], ◌∷◌, length, replicate, Option, Some, None, Ok}
use Rattle.std.proofs.{Common.{refl, sym, ap, ◌∙◌, subst, arith, inl, inr}, lemmas.{Bool.{cases_eq, eq-eqb, lt-leb}, List.{length-set}}}
use Rattle.std.proofs.lemmas.{List.{get_or-set_other, get_or-set_same, set-set}, Option.same_Some}
use Rattle.std.specs.Prelude.{slice_set, slice_index_or, is_some, nat_le, if◌then◌else◌}
use Rattle.pm_registers.specs.RegisterMap as map
use Rattle.pm_registers.specs.Port.{open_port, ShowsTruly}
use Rattle.pm_registers.proofs.Door.{sound_set}
use Rattle.fis_view.specs.Frames.{Stamped}
use Rattle.pm_ports.specs.Port as port
use Rattle.pm_ports.specs.declared.port.Offered.{Offered, TheVariants.Held}
use Rattle.multiplier.specs.{Passing.{Call, Came, FromDevice, Gone, Does, Past, Suits, lost_from}, Rules.{FromDeviceRule, KeepsPorts, with_device}}
use Rattle.multiplier.specs.{Rules.without_device, State.{PmState, IsSound, IsSoundPort, first_port, opening_with_port_0, port_at, stamped}}
use Rattle.multiplier.proofs.Door.{not_up_to, one_step, opens_sound}
use Rattle.fan_out.specs.Fans.{FanState, IsFan, all_joined, joined_again, on, opening_fan, opening_multiplier, parted, seat_at, with_seat}
use Rattle.fan_out.specs.{Seats.{after_sent, connection, empty_seat, left, next_connection, seated, told}, declared.seat.Seat.Seat}

abbrev pub nothing : Past
nothing = record { up = []; down = []; made = [] }

pub stays_sound : (old : PmState) (call : Call) (new : PmState) → IsSound old → Suits nothing call → Does old call new → IsSound new
stays_sound old call new sound suits does = (one_step nothing old call new sound suits does).sound

-- a call that leaves who is where
pub through : (f : FanState) (new : PmState) (call : Call) → IsFan f → Suits nothing call → Does f.multiplier call new → KeepsPorts f.multiplier new → IsFan (on f new)
through f new call is suits does keeps = record {
  sound = stays_sound f.multiplier call new is.sound suits does;
  some = omega (arith, is.some, keeps.count);
  room = is.room;
  present = λ n. keeps.present n ∙ is.present n;
  last = λ n. keeps.last n ∙ is.last n;
}

-- a call that writes one port, and its seat
pub written : (f : FanState) (m : PmState) (n : ℕ) (p : port.PortState) (seat : Seat) → IsFan f → n < 15 → IsSound m → m.registers.ports ≡ f.multiplier.registers.ports
    → m.ports ≡ slice_set f.multiplier.ports n p → p.present ≡ connection seat → p.last ≡ seat.last
    → IsFan (record { multiplier = m; legacy = f.legacy; seats = slice_set f.seats n seat })
written f m n p seat is small sound count ports present last = record {
  sound = sound;
  some = omega (arith, is.some, count);
  room = length-set f.seats n seat ∙ is.room;
  present = λ k. elim (cases_eq k n) [
    | inl here ↦ subst (λ (j : ℕ). (port_at m j).present ≡ connection (slice_index_or (slice_set f.seats n seat) j empty_seat)) (sym here)
        (ap (λ (q : port.PortState). q.present) port_here ∙ present ∙ ap connection (sym seat_here))
    | inr other ↦ ap (λ (q : port.PortState). q.present) (port_there k other) ∙ is.present k ∙ ap connection (sym (seat_there k other))
  ];
  last = λ k. elim (cases_eq k n) [
    | inl here ↦ subst (λ (j : ℕ). (port_at m j).last ≡ (slice_index_or (slice_set f.seats n seat) j empty_seat).last) (sym here)
        (ap (λ (q : port.PortState). q.last) port_here ∙ last ∙ ap (λ (s : Seat). s.last) (sym seat_here))
    | inr other ↦ ap (λ (q : port.PortState). q.last) (port_there k other) ∙ is.last k ∙ ap (λ (s : Seat). s.last) (sym (seat_there k other))
  ];
}
  where
    room : length f.multiplier.ports ≡ 15
    room = is.sound.room

    seats : length f.seats ≡ 15
    seats = is.room

    port_here : port_at m n ≡ p
    port_here = ap (λ (ps : List port.PortState). slice_index_or ps n port.empty_port) ports ∙ get_or-set_same f.multiplier.ports n p port.empty_port (omega arith)

    port_there : (k : ℕ) → k ≢ n → port_at m k ≡ port_at f.multiplier k
    port_there k other = ap (λ (ps : List port.PortState). slice_index_or ps k port.empty_port) ports ∙ get_or-set_other f.multiplier.ports n k p port.empty_port other

    seat_here : slice_index_or (slice_set f.seats n seat) n empty_seat ≡ seat
    seat_here = get_or-set_same f.seats n seat empty_seat (omega arith)

    seat_there : (k : ℕ) → k ≢ n → slice_index_or (slice_set f.seats n seat) k empty_seat ≡ slice_index_or f.seats k empty_seat
    seat_there k other = get_or-set_other f.seats n k seat empty_seat other

-- a device came
pub came : (f : FanState) (n conn : ℕ) → IsFan f → n < f.multiplier.registers.ports → None ≡ port.came_refusal (port_at f.multiplier n) conn
    → IsFan (record { multiplier = with_device f.multiplier n conn; legacy = f.legacy; seats = slice_set f.seats n (seated conn) })
came f n conn is less lets =
    let most : f.multiplier.registers.ports ≤ 15 = is.sound.registers.ports in
    written f (with_device f.multiplier n conn) n (port.with_connection (port_at f.multiplier n) conn) (seated conn) is (omega arith)
    (stays_sound f.multiplier (Came n conn (Ok tt)) (with_device f.multiplier n conn) is.sound tt (less, (lets, refl))) refl refl refl refl

-- a device went
pub gone : (f : FanState) (n conn : ℕ) → IsFan f → n < f.multiplier.registers.ports → None ≡ port.gone_refusal (port_at f.multiplier n) conn
    → IsFan (record { multiplier = without_device f.multiplier n conn; legacy = f.legacy; seats = slice_set f.seats n (left (seat_at f n)) })
gone f n conn is less lets =
    let most : f.multiplier.registers.ports ≤ 15 = is.sound.registers.ports in
    let new : PmState = without_device f.multiplier n conn in
    written f new n (port.with_removal (port_at f.multiplier n) conn) (left (seat_at f n)) is (omega arith)
    (stays_sound f.multiplier (Gone n conn (Ok tt) (lost_from (port_at f.multiplier n).up (port_at new n).up) (lost_from (port_at f.multiplier n).down (port_at new n).down)) new is.sound tt
    (less, (lets, refl), refl, refl)) refl refl refl (is.last n)

-- a frame of a device waits
pub offers : (f : FanState) (n : ℕ) (seat : Seat) (frame : Stamped) (new : PmState) → IsFan f → n < f.multiplier.registers.ports → FromDeviceRule f.multiplier n frame (Ok Held) new
    → seat.is_there ≡ (seat_at f n).is_there → seat.last ≡ (seat_at f n).last → IsFan (record { multiplier = new; legacy = f.legacy; seats = slice_set f.seats n seat })
offers f n seat frame new is less rule there last =
    let most : f.multiplier.registers.ports ≤ 15 = is.sound.registers.ports in
    written f new n (port.with_up (port_at f.multiplier n) (Some (stamped n frame))) seat is (omega arith) (stays_sound f.multiplier (FromDevice n frame (Ok Held)) new is.sound tt (less, rule))
    (ap (λ (pm : PmState). pm.registers.ports) rule.2) (ap (λ (pm : PmState). pm.ports) rule.2)
    (is.present n ∙ (λ i. if sym there i then Some (sym last i) else None)) (is.last n ∙ sym last)

-- ---- a new one

open_shows : (present : Bool) → ShowsTruly (open_port present)
open_shows true = λ e. (refl, refl)
open_shows false = λ e. absurd (omega (arith, e))

first_sound : (device : Option ℕ) → ((conn : ℕ) → device ≡ Some conn → 1 ≤ conn) → IsSoundPort 0 (is_some device) (first_port device)
first_sound None counted = record {
  sound = record { counted = λ conn e. absurd cc; last = λ conn e. absurd cc; above = λ conn e. absurd cc; away = λ e. refl };
  agrees = refl;
  stamped = λ frame e. absurd cc;
  stays = λ frame e. absurd cc;
  meant = λ frame e. absurd cc;
}
first_sound (Some c) counted = record {
  sound = record {
    counted = λ conn e. let some : 1 ≤ conn = counted conn e in omega arith;
    last = λ conn e. sym (same_Some c conn e);
    above = λ conn e. let some : 1 ≤ conn = counted conn e in omega arith;
    away = λ e. absurd cc;
  };
  agrees = refl;
  stamped = λ frame e. absurd cc;
  stays = λ frame e. absurd cc;
  meant = λ frame e. absurd cc;
}

opens_with_port_0 : (ports : ℕ) (device : Option ℕ) → ports ≤ 15 → ((conn : ℕ) → device ≡ Some conn → 1 ≤ conn) → IsSound (opening_with_port_0 ports device)
opens_with_port_0 ports device most counted =
    let other = opens_sound ports most in
    record {
      served = other.served;
      registers = sound_set (map.opening ports) 0 (open_port (is_some device)) other.registers (open_shows (is_some device));
      room = refl;
      ports = each;
      answer = λ frame e. absurd cc;
      shows = λ frame e. absurd cc;
      given = tt;
    }
  where
    each : (n : ℕ) → IsSoundPort n (map.port_at (map.opening_with_port_0 ports (is_some device)) n).present (port_at (opening_with_port_0 ports device) n)
    each zero = first_sound device counted
    each (suc n) = (opens_sound ports most).ports (suc n)

pub empty_at : (count n : ℕ) → slice_index_or (replicate count port.empty_port) n port.empty_port ≡ port.empty_port
empty_at zero n = refl
empty_at (suc count) zero = refl
empty_at (suc count) (suc n) = empty_at count n

pub seat_empty : (count n : ℕ) → slice_index_or (replicate count empty_seat) n empty_seat ≡ empty_seat
seat_empty zero n = refl
seat_empty (suc count) zero = refl
seat_empty (suc count) (suc n) = seat_empty count n

pub opens : (ports : ℕ) (legacy is_there : Bool) → 1 ≤ ports → ports ≤ 15 → IsFan (opening_fan ports legacy is_there)
opens ports false is_there some most = record {
  sound = opens_sound ports most;
  some = some;
  room = refl;
  present = λ n. ap (λ (q : port.PortState). q.present) (empty_at 15 n) ∙ ap connection (sym (seat_empty 15 n));
  last = λ n. ap (λ (q : port.PortState). q.last) (empty_at 15 n) ∙ ap (λ (s : Seat). s.last) (sym (seat_empty 15 n));
}
opens ports true false some most = record {
  sound = opens_with_port_0 ports None most (λ conn e. absurd cc);
  some = some;
  room = refl;
  present = present;
  last = last;
}
  where
    present : (n : ℕ) → (port_at (opening_with_port_0 ports None) n).present ≡ connection (slice_index_or (replicate 15 empty_seat) n empty_seat)
    present zero = refl
    present (suc n) = ap (λ (q : port.PortState). q.present) (empty_at 14 n) ∙ ap connection (sym (seat_empty 14 n))

    last : (n : ℕ) → (port_at (opening_with_port_0 ports None) n).last ≡ (slice_index_or (replicate 15 empty_seat) n empty_seat).last
    last zero = refl
    last (suc n) = ap (λ (q : port.PortState). q.last) (empty_at 14 n) ∙ ap (λ (s : Seat). s.last) (sym (seat_empty 14 n))
opens ports true true some most = record {
  sound = opens_with_port_0 ports (Some 1) most (λ conn e. let same : 1 ≡ conn = same_Some 1 conn e in omega (arith, same));
  some = some;
  room = refl;
  present = present;
  last = last;
}
  where
    present : (n : ℕ) → (port_at (opening_with_port_0 ports (Some 1)) n).present ≡ connection (slice_index_or (slice_set (replicate 15 empty_seat) 0 (seated 1)) n empty_seat)
    present zero = refl
    present (suc n) = ap (λ (q : port.PortState). q.present) (empty_at 14 n) ∙ ap connection (sym (seat_empty 14 n))

    last : (n : ℕ) → (port_at (opening_with_port_0 ports (Some 1)) n).last ≡ (slice_index_or (slice_set (replicate 15 empty_seat) 0 (seated 1)) n empty_seat).last
    last zero = refl
    last (suc n) = ap (λ (q : port.PortState). q.last) (empty_at 14 n) ∙ ap (λ (s : Seat). s.last) (sym (seat_empty 14 n))

-- ---- what a port lets

-- a port at which no device is takes a later connection
pub lets_in : (f : FanState) (n conn : ℕ) → IsFan f → (seat_at f n).is_there ≡ false → (seat_at f n).last < conn → None ≡ port.came_refusal (port_at f.multiplier n) conn
lets_in f n conn is free later =
    let none : (port_at f.multiplier n).present ≡ None = is.present n ∙ ap (λ (b : Bool). if b then Some (seat_at f n).last else None) free in
    let last : (port_at f.multiplier n).last ≡ (seat_at f n).last = is.last n in
    let above : nat_le conn (port_at f.multiplier n).last ≡ false = lt-leb conn (port_at f.multiplier n).last (omega (arith, last, later)) in
    rw (none, above) refl

-- the connection that is there
pub present_is : (f : FanState) (n : ℕ) → IsFan f → (seat_at f n).is_there ≡ true → (port_at f.multiplier n).present ≡ Some (seat_at f n).last
present_is f n is there = is.present n ∙ ap (λ (b : Bool). if b then Some (seat_at f n).last else None) there

-- it can go
pub lets_go : (f : FanState) (n : ℕ) → IsFan f → (seat_at f n).is_there ≡ true → None ≡ port.gone_refusal (port_at f.multiplier n) (seat_at f n).last
lets_go f n is there = rw (present_is f n is there, eq-eqb (seat_at f n).last (seat_at f n).last refl) refl

-- and is not gone
pub not_gone : (f : FanState) (n : ℕ) → IsFan f → (seat_at f n).is_there ≡ true → port.is_gone (port_at f.multiplier n) (seat_at f n).last ≡ false
not_gone f n is there =
    let above : (port_at f.multiplier n).gone < (seat_at f n).last = (is.sound.ports n).sound.above (seat_at f n).last (present_is f n is there) in
    not_up_to (port_at f.multiplier n).gone (seat_at f n).last (λ most. absurd (omega (arith, above, most)))

-- after it went, the next one is let in
pub lets_again : (f : FanState) (n : ℕ) → IsFan f → n < f.multiplier.registers.ports → (seat_at f n).is_there ≡ true
    → None ≡ port.came_refusal (port_at (without_device f.multiplier n (seat_at f n).last) n) (next_connection (seat_at f n))
lets_again f n is less there =
    let most : f.multiplier.registers.ports ≤ 15 = is.sound.registers.ports in
    let small : n < 15 = omega arith in
    let room : length f.seats ≡ 15 = is.room in
    let here : slice_index_or (slice_set f.seats n (left (seat_at f n))) n empty_seat ≡ left (seat_at f n) = get_or-set_same f.seats n (left (seat_at f n)) empty_seat (omega arith) in
    lets_in (parted f n) n (next_connection (seat_at f n)) (gone f n (seat_at f n).last is less (lets_go f n is there))
    (ap (λ (s : Seat). s.is_there) here) (let same : (seat_at (parted f n) n).last ≡ (seat_at f n).last = ap (λ (s : Seat). s.last) here in omega (arith, same))

-- so it begins anew
pub again : (f : FanState) (n : ℕ) → IsFan f → n < f.multiplier.registers.ports → (seat_at f n).is_there ≡ true
    → IsFan (record { multiplier = with_device (without_device f.multiplier n (seat_at f n).last) n (next_connection (seat_at f n)); legacy = f.legacy; seats = slice_set f.seats n (seated (next_connection (seat_at f n))) })
again f n is less there =
    let parts : IsFan (parted f n) = gone f n (seat_at f n).last is less (lets_go f n is there) in
    let joins = came (parted f n) n (next_connection (seat_at f n)) parts less (lets_again f n is less there) in
    subst (λ (seats : List Seat). IsFan (record { multiplier = with_device (without_device f.multiplier n (seat_at f n).last) n (next_connection (seat_at f n)); legacy = f.legacy; seats = seats }))
    (set-set f.seats n (left (seat_at f n)) (seated (next_connection (seat_at f n)))) joins

-- ---- a device was told to begin

kept_seat : {A : Type 0} (part : Seat → A) (seats : List Seat) (m : ℕ) (s : Seat) → part s ≡ part (slice_index_or seats m empty_seat) → (n : ℕ)
    → part (slice_index_or (slice_set seats m s) n empty_seat) ≡ part (slice_index_or seats n empty_seat)
kept_seat part [] m s h n = refl
kept_seat part (q ∷ seats) zero s h zero = h
kept_seat part (q ∷ seats) zero s h (suc n) = refl
kept_seat part (q ∷ seats) (suc m) s h zero = refl
kept_seat part (q ∷ seats) (suc m) s h (suc n) = kept_seat part seats m s h n

pub told_fan : (f : FanState) (n : ℕ) → IsFan f → IsFan (with_seat f n (told (seat_at f n)))
told_fan f n is = record {
  sound = is.sound;
  some = is.some;
  room = length-set f.seats n (told (seat_at f n)) ∙ is.room;
  present = λ k. is.present k ∙ sym (kept_seat connection f.seats n (told (seat_at f n)) refl k);
  last = λ k. is.last k ∙ sym (kept_seat (λ (s : Seat). s.last) f.seats n (told (seat_at f n)) refl k);
}

-- ---- the same, as the code has it

pub joins_fan : (f : FanState) (n m conn : ℕ) (new : PmState) (seat : Seat) → IsFan f → n < f.multiplier.registers.ports → m ≡ n → None ≡ port.came_refusal (port_at f.multiplier n) conn
    → new ≡ with_device f.multiplier n conn → seat ≡ seated conn → IsFan (record { multiplier = new; legacy = f.legacy; seats = slice_set f.seats m seat })
joins_fan f n m conn new seat is less here lets now on =
    subst (λ (w : PmState × ℕ × Seat). IsFan (record { multiplier = w.0; legacy = f.legacy; seats = slice_set f.seats w.1 w.2 })) (λ i. (sym now i, sym here i, sym on i)) (came f n conn is less lets)

pub parts_fan : (f : FanState) (n m : ℕ) (new : PmState) (was seat : Seat) → IsFan f → n < f.multiplier.registers.ports → m ≡ n → was ≡ seat_at f n
    → None ≡ port.gone_refusal (port_at f.multiplier n) was.last → new ≡ without_device f.multiplier n was.last → seat ≡ left was
    → IsFan (record { multiplier = new; legacy = f.legacy; seats = slice_set f.seats m seat })
parts_fan f n m new was seat is less here there lets now off =
    subst (λ (w : PmState × ℕ × Seat). IsFan (record { multiplier = w.0; legacy = f.legacy; seats = slice_set f.seats w.1 w.2 })) (λ i. (sym now i, sym here i, sym (off ∙ ap left there) i)) (gone f n was.last is less lets)

pub offers_fan : (f : FanState) (n m : ℕ) (frame : Stamped) (offered : Offered) (new : PmState) (was seat : Seat) → IsFan f → n < f.multiplier.registers.ports → m ≡ n → was ≡ seat_at f n → offered ≡ Held
    → FromDeviceRule f.multiplier n frame (Ok offered) new → seat ≡ after_sent was → IsFan (record { multiplier = new; legacy = f.legacy; seats = slice_set f.seats m seat })
offers_fan f n m frame offered new was seat is less here there held rule after =
    subst (λ (w : ℕ × Seat). IsFan (record { multiplier = new; legacy = f.legacy; seats = slice_set f.seats w.0 w.1 })) (λ i. (sym here i, sym (after ∙ ap after_sent there) i))
    (offers f n (after_sent (seat_at f n)) frame new is less (subst (λ (o : Offered). FromDeviceRule f.multiplier n frame (Ok o) new) held rule) refl refl)

pub opens_fan : (ports : ℕ) (legacy is_there : Bool) (m : PmState) (seats : List Seat) → 1 ≤ ports → ports ≤ 15 → m ≡ opening_multiplier ports legacy is_there → seats ≡ (opening_fan ports legacy is_there).seats
    → (ports ≡ m.registers.ports) × IsFan (record { multiplier = m; legacy = legacy; seats = seats })
opens_fan ports legacy is_there m seats some most new empty = (
  count legacy ∙ sym (ap (λ (pm : PmState). pm.registers.ports) new),
  subst (λ (w : PmState × List Seat). IsFan (record { multiplier = w.0; legacy = legacy; seats = w.1 })) (λ i. (sym new i, sym empty i)) (opens ports legacy is_there some most),
)
  where
    count : (b : Bool) → ports ≡ (opening_multiplier ports b is_there).registers.ports
    count true = refl
    count false = refl

-- one device more comes again
pub next_joined : (seats : List Seat) (n : ℕ) (f g h : FanState) (seat : Seat) → g ≡ all_joined seats n f → h ≡ joined_again g n seat → seat ≡ slice_index_or seats n empty_seat → h ≡ all_joined seats (n + 1) f
next_joined seats n f g h seat so_far is there =
    let more : n + 1 ≡ suc n = omega arith in
    is ∙ (λ i. joined_again (so_far i) n (there i)) ∙ ap (λ (k : ℕ). all_joined seats k f) (sym more)

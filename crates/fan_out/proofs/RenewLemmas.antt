-- After a reset of the link the devices that were there are there, and nothing waits.
use Rattle.std.proofs.Common.{◌≡◌, ◌≢◌, ℕ, zero, suc, ◌<◌, ◌≤◌, ◌⊎◌, Bool, true, false, List, length, Option, Some, None, refl, sym, ap, ◌∙◌, subst}
use Rattle.std.proofs.{Common.{arith, inl, inr}, lemmas.{Bool.{cases_eq, lt-ltb}, List.{get_or-set_other, get_or-set_same}}}
use Rattle.std.specs.Prelude.{if◌then◌else◌, is_some, slice_set, slice_index_or, ◌&&◌}
use Rattle.pm_ports.specs.Port as port
use Rattle.pm_ports.specs.declared.port.PortError.{PortError}
use Rattle.pm_registers.specs.Port.{inserted, open_port, opening_port, passes}
use Rattle.pm_registers.specs.RegisterMap as map
use Rattle.multiplier.specs.{Rules.with_device, State.{passes_to, port_at}}
use Rattle.multiplier.proofs.Door.{other_port, this_port}
use Rattle.fan_out.specs.Fans.{FanState, IsFan, IsRenewed, all_joined, joined, joined_again, opening_fan, renewed, renewed_port, renewed_seat}
use Rattle.fan_out.specs.{Fans.seat_at, Seats.{empty_seat, seated}, declared.seat.Seat.Seat}
use Rattle.fan_out.proofs.FanLemmas.{came, empty_at, opens, seat_empty}

abbrev seat_of : List Seat → ℕ → Seat
seat_of seats n = slice_index_or seats n empty_seat

-- the device that was there is there, as connection 1
abbrev IsAgain : List Seat → ℕ → FanState → Type 0
IsAgain seats n g = (port_at g.multiplier n ≡ renewed_port (seat_of seats n)) × (seat_at g n ≡ renewed_seat (seat_of seats n))

abbrev IsFresh : ℕ → FanState → Type 0
IsFresh n g = (port_at g.multiplier n ≡ port.empty_port) × (seat_at g n ≡ empty_seat)

record Begins (seats : List Seat) (f : FanState) : Type 0 where
  each : (n : ℕ) → IsFresh n f ⊎ IsAgain seats n f
  first : f.legacy ≡ true → IsAgain seats 0 f

-- the devices of the first ports came
record CameTo (seats : List Seat) (f : FanState) (k : ℕ) (g : FanState) : Type 0 where
  fan : IsFan g
  count : g.multiplier.registers.ports ≡ f.multiplier.registers.ports
  legacy : g.legacy ≡ f.legacy
  answer : g.multiplier.answer ≡ f.multiplier.answer
  before : (n : ℕ) → n < k → IsAgain seats n g
  after : (n : ℕ) → k ≤ n → (port_at g.multiplier n ≡ port_at f.multiplier n) × (seat_at g n ≡ seat_at f n)
  first : f.legacy ≡ true → map.port_at g.multiplier.registers 0 ≡ map.port_at f.multiplier.registers 0

-- at one port more the device is there already, or none was
settles : (seats : List Seat) (f : FanState) (k : ℕ) (g : FanState) → CameTo seats f k g → IsAgain seats k g → CameTo seats f (suc k) g
settles seats f k g so_far again = record {
  fan = so_far.fan;
  count = so_far.count;
  legacy = so_far.legacy;
  answer = so_far.answer;
  before = λ n less. elim (cases_eq n k) [
    | inl here ↦ subst (λ (j : ℕ). IsAgain seats j g) (sym here) again
    | inr other ↦ so_far.before n (below n less other)
  ];
  after = λ n more. so_far.after n (omega (arith, more));
  first = so_far.first;
}
  where
    below : (n : ℕ) → n < suc k → n ≢ k → n < k
    below n less other = omega (arith, less, other)

module _ (seats : List Seat) (f : FanState) (k : ℕ) (g : FanState) (less : k < f.multiplier.registers.ports) (begins : Begins seats f) (so_far : CameTo seats f k g) (there : (seat_of seats k).is_there ≡ true)
    (fresh : IsFresh k f) where
  ends : FanState
  ends = record { multiplier = with_device g.multiplier k 1; legacy = g.legacy; seats = slice_set g.seats k (seated 1) }

  less_here : k < g.multiplier.registers.ports
  less_here = let count = so_far.count in omega (arith, less, count)

  small : k < 15
  small = let most : g.multiplier.registers.ports ≤ 15 = so_far.fan.sound.registers.ports in let here = less_here in omega (arith, most, here)

  empty : port_at g.multiplier k ≡ port.empty_port
  empty = (so_far.after k (omega arith)).0 ∙ fresh.0

  lets : None ≡ port.came_refusal (port_at g.multiplier k) 1
  lets = ap (λ (p : port.PortState). port.came_refusal p 1) (sym empty)

  joins : joined g k 1 ≡ record { multiplier = with_device g.multiplier k 1; legacy = g.legacy; seats = slice_set g.seats k (seated 1) }
  joins = ap (λ (o : Option PortError). if is_some o then g else record { multiplier = with_device g.multiplier k 1; legacy = g.legacy; seats = slice_set g.seats k (seated 1) }) (sym lets)

  came_port : port_at (with_device g.multiplier k 1) k ≡ renewed_port (seat_of seats k)
  came_port =
      this_port g.multiplier.ports k (port.with_connection (port_at g.multiplier k) 1) (let room : length g.multiplier.ports ≡ 15 = so_far.fan.sound.room in let s = small in omega (arith, room, s))
      ∙ ap (λ (p : port.PortState). port.with_connection p 1) empty
      ∙ ap (λ (b : Bool). if b then port.with_connection port.empty_port 1 else port.empty_port) (sym there)

  came_seat : slice_index_or (slice_set g.seats k (seated 1)) k empty_seat ≡ renewed_seat (seat_of seats k)
  came_seat =
      get_or-set_same g.seats k (seated 1) empty_seat (let room : length g.seats ≡ 15 = so_far.fan.room in let s = small in omega (arith, room, s))
      ∙ ap (λ (b : Bool). if b then seated 1 else empty_seat) (sym there)

  other_ports : (n : ℕ) → n ≢ k → port_at (with_device g.multiplier k 1) n ≡ port_at g.multiplier n
  other_ports n other = other_port g.multiplier.ports k n (port.with_connection (port_at g.multiplier k) 1) other

  other_seats : (n : ℕ) → n ≢ k → slice_index_or (slice_set g.seats k (seated 1)) n empty_seat ≡ seat_at g n
  other_seats n other = get_or-set_other g.seats k n (seated 1) empty_seat other

  -- it is not port 0 where that was open, since the device of that port is there already
  not_first : f.legacy ≡ true → 0 ≢ k
  not_first legacy = λ zero_is.
      let again : port_at f.multiplier 0 ≡ renewed_port (seat_of seats 0) = (begins.first legacy).0 in
      let at_k : port_at f.multiplier k ≡ renewed_port (seat_of seats k) = subst (λ (j : ℕ). port_at f.multiplier j ≡ renewed_port (seat_of seats j)) zero_is again in
      let both : port.empty_port ≡ port.with_connection port.empty_port 1 = sym fresh.0 ∙ at_k ∙ ap (λ (b : Bool). if b then port.with_connection port.empty_port 1 else port.empty_port) there in
      let wrong : false ≡ true = ap (λ (p : port.PortState). is_some p.present) both in
      absurd cc

  comes_new : CameTo seats f (suc k) (record { multiplier = with_device g.multiplier k 1; legacy = g.legacy; seats = slice_set g.seats k (seated 1) })
  comes_new = record {
    fan = came g k 1 so_far.fan less_here lets;
    count = so_far.count;
    legacy = so_far.legacy;
    answer = so_far.answer;
    before = λ n below. elim (cases_eq n k) [
      | inl here ↦ subst (λ (j : ℕ). IsAgain seats j (record { multiplier = with_device g.multiplier k 1; legacy = g.legacy; seats = slice_set g.seats k (seated 1) })) (sym here) (came_port, came_seat)
      | inr other ↦ (let old = so_far.before n (lower n below other) in (other_ports n other ∙ old.0, other_seats n other ∙ old.1))
    ];
    after = λ n more.
        let other : n ≢ k = above n more in
        let old = so_far.after n (omega (arith, more)) in
        (other_ports n other ∙ old.0, other_seats n other ∙ old.1);
    first = λ legacy. get_or-set_other g.multiplier.registers.bank k 0 (inserted (map.port_at g.multiplier.registers k)) opening_port (not_first legacy) ∙ so_far.first legacy;
  }
    where
      lower : (n : ℕ) → n < suc k → n ≢ k → n < k
      lower n less other = omega (arith, less, other)

      above : (n : ℕ) → suc k ≤ n → n ≢ k
      above n more = λ e. absurd (omega (arith, more, e))

one_more : (seats : List Seat) (f : FanState) (k : ℕ) (g : FanState) → k < f.multiplier.registers.ports → Begins seats f → CameTo seats f k g → CameTo seats f (suc k) (joined_again g k (seat_of seats k))
one_more seats f k g less begins so_far = by_there (seat_of seats k).is_there refl (begins.each k)
  where
    here : (port_at g.multiplier k ≡ port_at f.multiplier k) × (seat_at g k ≡ seat_at f k)
    here = so_far.after k (omega arith)

    again_of : IsAgain seats k f → IsAgain seats k g
    again_of again = (here.0 ∙ again.0, here.1 ∙ again.1)

    none_of : (seat_of seats k).is_there ≡ false → IsFresh k f → IsAgain seats k g
    none_of none fresh = (
      here.0 ∙ fresh.0 ∙ ap (λ (b : Bool). if b then port.with_connection port.empty_port 1 else port.empty_port) (sym none),
      here.1 ∙ fresh.1 ∙ ap (λ (b : Bool). if b then seated 1 else empty_seat) (sym none),
    )

    -- the port does not take a device where one is
    refused : (seat_of seats k).is_there ≡ true → IsAgain seats k g → joined g k 1 ≡ g
    refused there again =
        let at : port_at g.multiplier k ≡ port.with_connection port.empty_port 1 = again.0 ∙ ap (λ (b : Bool). if b then port.with_connection port.empty_port 1 else port.empty_port) there in
        ap (λ (p : port.PortState). if is_some (port.came_refusal p 1) then g else record { multiplier = with_device g.multiplier k 1; legacy = g.legacy; seats = slice_set g.seats k (seated 1) }) at

    by_there : (b : Bool) → (seat_of seats k).is_there ≡ b → IsFresh k f ⊎ IsAgain seats k f → CameTo seats f (suc k) (if b then joined g k 1 else g)
    by_there true there (inl fresh) = subst (λ (h : FanState). CameTo seats f (suc k) h) (sym (joins seats f k g less begins so_far there fresh)) (comes_new seats f k g less begins so_far there fresh)
    by_there true there (inr again) = subst (λ (h : FanState). CameTo seats f (suc k) h) (sym (refused there (again_of again))) (settles seats f k g so_far (again_of again))
    by_there false none (inl fresh) = settles seats f k g so_far (none_of none fresh)
    by_there false none (inr again) = settles seats f k g so_far (again_of again)

all_come : (seats : List Seat) (f : FanState) (k : ℕ) → k ≤ f.multiplier.registers.ports → IsFan f → Begins seats f → CameTo seats f k (all_joined seats k f)
all_come seats f zero most is begins = record {
  fan = is;
  count = refl;
  legacy = refl;
  answer = refl;
  before = λ n less. absurd (omega (arith, less));
  after = λ n more. (refl, refl);
  first = λ legacy. refl;
}
all_come seats f (suc k) most is begins = one_more seats f k (all_joined seats k f) (omega (arith, most)) begins (all_come seats f k (omega (arith, most)) is begins)

-- ---- what a new one has

begin : (seats : List Seat) (ports : ℕ) (legacy : Bool) → Begins seats (opening_fan ports legacy (seat_of seats 0).is_there)
begin seats ports false = record { each = λ n. inl (empty_at 15 n, seat_empty 15 n); first = λ legacy. absurd cc }
begin seats ports true = by_there (seat_of seats 0).is_there refl
  where
    again : (b : Bool) → (seat_of seats 0).is_there ≡ b → IsAgain seats 0 (opening_fan ports true b)
    again true is = (ap (λ (b : Bool). if b then port.with_connection port.empty_port 1 else port.empty_port) (sym is), ap (λ (b : Bool). if b then seated 1 else empty_seat) (sym is))
    again false is = (ap (λ (b : Bool). if b then port.with_connection port.empty_port 1 else port.empty_port) (sym is), ap (λ (b : Bool). if b then seated 1 else empty_seat) (sym is))

    fresh : (b : Bool) (n : ℕ) → IsFresh (suc n) (opening_fan ports true b)
    fresh true n = (empty_at 14 n, seat_empty 14 n)
    fresh false n = (empty_at 14 n, seat_empty 14 n)

    each : (b : Bool) → (seat_of seats 0).is_there ≡ b → (n : ℕ) → IsFresh n (opening_fan ports true b) ⊎ IsAgain seats n (opening_fan ports true b)
    each b is zero = inr (again b is)
    each b is (suc n) = inl (fresh b n)

    by_there : (b : Bool) → (seat_of seats 0).is_there ≡ b → Begins seats (opening_fan ports true b)
    by_there b is = record { each = each b is; first = λ legacy. again b is }

passes_open : (m : map.RegisterMap) (b : Bool) → 1 ≤ m.ports → map.port_at m 0 ≡ open_port b → map.forwards m 0 ≡ b
passes_open m b some is = ap (λ (t : Bool). t && passes (map.port_at m 0)) (lt-ltb 0 m.ports (omega (arith, some))) ∙ ap passes is ∙ by_there b
  where
    by_there : (b : Bool) → passes (open_port b) ≡ b
    by_there true = refl
    by_there false = refl

pub begins_anew : (f : FanState) → IsFan f → IsRenewed f (renewed f)
begins_anew f is = record {
  fan = all.fan;
  ports = all.count ∙ count f.legacy;
  legacy = all.legacy;
  answer = all.answer ∙ none f.legacy;
  port = λ n less. (all.before n less).0;
  seat = λ n less. (all.before n less).1;
  passes = passes_0;
}
  where
    there : Bool
    there = (seat_at f 0).is_there

    count : (b : Bool) → (opening_fan f.multiplier.registers.ports b (seat_at f 0).is_there).multiplier.registers.ports ≡ f.multiplier.registers.ports
    count true = refl
    count false = refl

    none : (b : Bool) → (opening_fan f.multiplier.registers.ports b (seat_at f 0).is_there).multiplier.answer ≡ None
    none true = refl
    none false = refl

    most : f.multiplier.registers.ports ≤ 15
    most = is.sound.registers.ports

    all : CameTo f.seats (opening_fan f.multiplier.registers.ports f.legacy (seat_at f 0).is_there) f.multiplier.registers.ports (renewed f)
    all =
        all_come f.seats (opening_fan f.multiplier.registers.ports f.legacy (seat_at f 0).is_there) f.multiplier.registers.ports (let c = count f.legacy in omega (arith, c))
        (opens f.multiplier.registers.ports f.legacy (seat_at f 0).is_there is.some most) (begin f.seats f.multiplier.registers.ports f.legacy)

    first_open : (b t : Bool) → b ≡ true → map.port_at (opening_fan f.multiplier.registers.ports b t).multiplier.registers 0 ≡ open_port t
    first_open true true legacy = refl
    first_open true false legacy = refl
    first_open false t legacy = absurd cc

    by_there : (b : Bool) (p : port.PortState) → p.present ≡ (renewed_port (seat_at f 0)).present → (seat_at f 0).is_there ≡ b → (if b then p.present else None) ≡ (if b then Some 1 else None)
    by_there true p e t = e ∙ ap (λ (b : Bool). (if b then port.with_connection port.empty_port 1 else port.empty_port).present) t
    by_there false p e t = refl

    passes_0 : f.legacy ≡ true → passes_to (renewed f).multiplier 0 ≡ (if (seat_at f 0).is_there then Some 1 else None)
    passes_0 legacy =
        let some : 1 ≤ (renewed f).multiplier.registers.ports = all.fan.some in
        let forwards : map.forwards (renewed f).multiplier.registers 0 ≡ (seat_at f 0).is_there = passes_open (renewed f).multiplier.registers (seat_at f 0).is_there some (all.first legacy ∙ first_open f.legacy (seat_at f 0).is_there legacy) in
        let first : IsAgain f.seats 0 (renewed f) = all.before 0 (let s = is.some in omega (arith, s)) in
        ap (λ (b : Bool). if b then (port_at (renewed f).multiplier 0).present else None) forwards
        ∙ by_there (seat_at f 0).is_there (port_at (renewed f).multiplier 0) (ap (λ (p : port.PortState). p.present) first.0) refl

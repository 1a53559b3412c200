-- What each call of what is behind the link does with the frame that waits for a device.
use Rattle.std.proofs.Common.{◌≡◌, ◌≢◌, ℕ, ◌<◌, Bool, true, false, List, [], ◌∷◌, ◌++◌, length, get_or, set, Option, Some, None, Result, Ok, Err}
use Rattle.std.proofs.{Common.{refl, sym, ap, subst, ◌∙◌, option_to_list, append-nil, arith, ◌+◌, length-set}, lemmas.Bool.{eqb-true, eqb-false}}
use Rattle.std.proofs.lemmas.{Bool.{eq-eqb, false≢true, ltb-true, ltb-false}, List.{get_or_past, get_or-set_same}, Option.{none-some, same_Some}}
use Rattle.std.specs.{Prelude.{◌==◌, ◌&&◌, if◌then◌else◌, is_none, is_some, nat_lt, MatchOption, MatchResult}, Bool.MatchBool, Option.option_map}
use Rattle.fis_view.specs.Frames.{Stamped}
use Rattle.slots.specs.Slots.{match_some}
use Rattle.pm_ports.specs.Port as port
use Rattle.pm_ports.specs.declared.port.Offered.{Offered, TheVariants.Dropped}
use Rattle.multiplier.specs.{Arbiter.control_port, Rules.{ControlGives, FromHostRule, NextDownRule, NextUpRule, PlaceGives, PortGives, ToControl}}
use Rattle.multiplier.specs.{Rules.{ToDevice, ToNobody, with_device}, State.{PmState, falling, passes_to, pm_port, port_at}}
use Rattle.multiplier.specs.declared.multiplier.{Passed.Passed, PmRefusal.PmRefusal}
use Rattle.multiplier.specs.State as pm
use Rattle.multiplier.specs.declared.multiplier.Passed.TheVariants as passed
use Rattle.multiplier.specs.declared.multiplier.PmRefusal.TheVariants as refusal
use Rattle.multiplier.proofs.Door.{kept_part, other_port, this_port, has_down}
use Rattle.fan_out.specs.FanOuts.{GivesDownAt, GivesDownThere, GivesUpThere, Offers, OffersAt, Plugs, PlugsAt, Pulls, PullsAt, Sends, Tells, has_port}
use Rattle.fan_out.specs.Fans.{FanState, SendsFan, heeded, held_fan, is_in_reset, joined, on, parted, rejoined, seat_at, with_seat}
use Rattle.fan_out.specs.{Seats.{connection, empty_seat, left, next_connection, seated, told}, Straights.{StraightState, addressed, pointed}}
use Rattle.fan_out.specs.declared.{fan_out.FanOut.{FanOut, TheVariants.{Device, Multiplier}}, seat.{NotThere.NotThere, PlugError.PlugError}}
use Rattle.fan_out.specs.declared.seat.{PlugError.TheVariants.NoPort, Seat.Seat}
use Rattle.fan_out.specs.Fans as fan
use Rattle.fan_out.specs.Straights as straight
use Rattle.machine_laws.proofs.Cases.{by_bool, by_option}
use Rattle.machine_laws.specs.Falling.{connection_at, goes_to, is_down_to, reached_at, waits_down}

-- ---- answers

abbrev Answer : Type 0
Answer = Result Passed (Stamped × PmRefusal)

abbrev sent : Passed → Answer
sent went = Ok went

abbrev back : Stamped → Answer
back frame = Err (frame, refusal.HoldFull)

sent_same : (x y : Passed) → sent x ≡ sent y → x ≡ y
sent_same x y is = ap or_x is
  where
    or_x : Answer → Passed
    or_x (Ok z) = z
    or_x (Err e) = x

not_back : {C : Type 0} (x : Passed) (frame : Stamped) → sent x ≡ back frame → C
not_back x frame is = absurd (subst is_fine is tt)
  where
    is_fine : Answer → Type 0
    is_fine (Ok y) = Unit {0}
    is_fine (Err f) = ⊥

no_some : {A : Type 0} {x : A} → None ≡ Some x → ⊥
no_some {A = A} {x = x} h = none-some x h

-- ---- lists

-- a list, with one more or none
abbrev pub and_one : List Stamped → Bool → Stamped → List Stamped
and_one was b frame = was ++ (if b then frame ∷ [] else [])

with_none : (now was : List Stamped) (b : Bool) (frame : Stamped) → b ≡ false → now ≡ was → now ≡ and_one was b frame
with_none now was true frame off is = absurd (false≢true (sym off))
with_none now was false frame off is = is ∙ sym (append-nil was)

with_one : (now was : Option Stamped) (b : Bool) (frame : Stamped) → b ≡ true → was ≡ None → now ≡ Some frame
    → option_to_list now ≡ and_one (option_to_list was) b frame
with_one now was true frame here none is = ap option_to_list is ∙ sym (ap (λ (o : Option Stamped). and_one (option_to_list o) true frame) none)
with_one now was false frame here none is = absurd (false≢true here)

-- ---- ports

-- a port at which something is exists
inside_by : (b : Bool) (m : PmState) (n conn : ℕ) → nat_lt n (length m.ports) ≡ b → (port_at m n).present ≡ Some conn → n < length m.ports
inside_by true m n conn is there = ltb-true n (length m.ports) is
inside_by false m n conn is there =
    absurd (no_some (sym (ap (λ (p : port.PortState). p.present) (get_or_past m.ports n port.empty_port (ltb-false n (length m.ports) is))) ∙ there))

inside : (m : PmState) (n conn : ℕ) → (port_at m n).present ≡ Some conn → n < length m.ports
inside m n conn there = inside_by (nat_lt n (length m.ports)) m n conn refl there

present_by : (b : Bool) (p : Option ℕ) (conn : ℕ) → (if b then p else None) ≡ Some conn → p ≡ Some conn
present_by true p conn is = is
present_by false p conn is = absurd (no_some is)

present : (m : PmState) (n conn : ℕ) → passes_to m n ≡ Some conn → (port_at m n).present ≡ Some conn
present m n conn is = present_by _ (port_at m n).present conn is

abbrev pub down_of : PmState → ℕ → Option Stamped
down_of m n = (port_at m n).down

kept_down : (m : PmState) (k : ℕ) (p : port.PortState) → p.down ≡ down_of m k → (n : ℕ) → (get_or (set m.ports k p) n port.empty_port).down ≡ down_of m n
kept_down m k p same n = kept_part (λ q. q.down) m.ports k p same n

-- ---- a frame of the host

abbrev reached : PmState → ℕ → ℕ
reached m n = match_some (port_at m n).present 0 (λ conn. conn)

abbrev Fell : PmState → PmState → Passed → Stamped → ℕ → Type 0
Fell old new went frame n = option_to_list (down_of new n) ≡ and_one (option_to_list (down_of old n)) (is_down_to went n) (falling (reached old n) frame)

control_fell : (old : PmState) (frame : Stamped) (went : Passed) (new : PmState) → ToControl old frame (Ok went) new → (n : ℕ) → Fell old new went frame n
control_fell old frame passed.Control new h n =
    with_none (option_to_list (down_of new n)) (option_to_list (down_of old n)) false (falling (reached old n) frame) refl
    (ap (λ (m : PmState). option_to_list (down_of m n)) h.2)
control_fell old frame other new h n = absurd h

nobody_fell : (old : PmState) (frame : Stamped) (went : Passed) (new : PmState) → ToNobody old (Ok went) new → (n : ℕ) → Fell old new went frame n
nobody_fell old frame passed.Dropped new h n =
    with_none (option_to_list (down_of new n)) (option_to_list (down_of old n)) false (falling (reached old n) frame) refl
    (ap (λ (m : PmState). option_to_list (down_of m n)) h)
nobody_fell old frame other new h n = absurd h

-- at the port itself
fell_here : (old : PmState) (k conn : ℕ) (frame : Stamped) (new : PmState) → (port_at old k).present ≡ Some conn → down_of old k ≡ None
    → new ≡ pm.with_port old k (port.with_down (port_at old k) (Some (falling conn frame))) → Fell old new (passed.Down k) frame k
fell_here old k conn frame new there none is =
    with_one (down_of new k) (down_of old k) (k == k) (falling (reached old k) frame) (eq-eqb k k refl) none
    (ap (λ (m : PmState). down_of m k) is
    ∙ ap (λ (p : port.PortState). p.down) (this_port old.ports k (port.with_down (port_at old k) (Some (falling conn frame))) (inside old k conn there))
    ∙ ap (λ (c : Option ℕ). Some (falling (match_some c 0 (λ x. x)) frame)) (sym there))

-- at another
fell_there : (old : PmState) (k conn : ℕ) (frame : Stamped) (new : PmState) (n : ℕ) → (k == n) ≡ false
    → new ≡ pm.with_port old k (port.with_down (port_at old k) (Some (falling conn frame))) → Fell old new (passed.Down k) frame n
fell_there old k conn frame new n off is =
    with_none (option_to_list (down_of new n)) (option_to_list (down_of old n)) (k == n) (falling (reached old n) frame) off
    (ap (λ (m : PmState). option_to_list (down_of m n)) is
    ∙ ap (λ (p : port.PortState). option_to_list p.down) (other_port old.ports k n (port.with_down (port_at old k) (Some (falling conn frame))) (λ same. eqb-false k n off (sym same))))

fell_by : (b : Bool) (old : PmState) (k conn : ℕ) (frame : Stamped) (new : PmState) (n : ℕ) → (k == n) ≡ b → (port_at old k).present ≡ Some conn → down_of old k ≡ None
    → new ≡ pm.with_port old k (port.with_down (port_at old k) (Some (falling conn frame))) → Fell old new (passed.Down k) frame n
fell_by true old k conn frame new n here there none is = subst (Fell old new (passed.Down k) frame) (eqb-true k n here) (fell_here old k conn frame new there none is)
fell_by false old k conn frame new n off there none is = fell_there old k conn frame new n off is

device_fell : (old : PmState) (k conn : ℕ) (frame : Stamped) (went : Passed) (new : PmState) → passes_to old k ≡ Some conn → ToDevice old k conn frame (Ok went) new
    → (n : ℕ) → Fell old new went frame n
device_fell old k conn frame (passed.Down m) new is h n =
    subst (λ (j : ℕ). Fell old new (passed.Down j) frame n) (sym h.0) (fell_by (k == n) old k conn frame new n refl (present old k conn is) h.1 h.2)
device_fell old k conn frame other new is h n = absurd h

pub host_fell : (old : PmState) (frame : Stamped) (went : Passed) (new : PmState) → FromHostRule old frame (Ok went) new → (n : ℕ) → Fell old new went frame n
host_fell old frame went new h n =
    by_bool (Fell old new went frame n) (ToControl old frame (Ok went) new)
    (MatchOption (passes_to old (pm_port frame)) (ToNobody old (Ok went) new) (λ conn. ToDevice old (pm_port frame) conn frame (Ok went) new))
    (pm_port frame == control_port) h
    (λ is by. control_fell old frame went new by n)
    (λ is by. by_option ℕ (Fell old new went frame n) (ToNobody old (Ok went) new) (λ conn. ToDevice old (pm_port frame) conn frame (Ok went) new)
    (passes_to old (pm_port frame)) by
    (λ none out. nobody_fell old frame went new out n)
    (λ conn there out. device_fell old (pm_port frame) conn frame went new there out n))

-- ---- a connection that ends

abbrev SeatOf : FanState → ℕ → Option ℕ
SeatOf f n = connection (seat_at f n)

seat_inside_by : (b : Bool) (f : FanState) (n : ℕ) → nat_lt n (length f.seats) ≡ b → (seat_at f n).is_there ≡ true → n < length f.seats
seat_inside_by true f n is there = ltb-true n (length f.seats) is
seat_inside_by false f n is there =
    absurd (false≢true (sym (ap (λ (s : Seat). s.is_there) (get_or_past f.seats n empty_seat (ltb-false n (length f.seats) is))) ∙ there))

connection_there : (s : Seat) → s.is_there ≡ true → connection s ≡ Some s.last
connection_there s there = ap (λ (b : Bool). if b then Some s.last else None) there

seat_now : (f : FanState) (k : ℕ) (s : Seat) → (seat_at f k).is_there ≡ true → get_or (set f.seats k s) k empty_seat ≡ s
seat_now f k s there = get_or-set_same f.seats k s empty_seat (seat_inside_by (nat_lt k (length f.seats)) f k refl there)

parted_here : (f : FanState) (k : ℕ) → (seat_at f k).is_there ≡ true → SeatOf (parted f k) k ≡ None
parted_here f k there = ap connection (seat_now f k (left (seat_at f k)) there)

rejoined_here : (refused : Bool) (f : FanState) (k conn : ℕ) → conn ≡ next_connection (seat_at f k) → (seat_at f k).is_there ≡ true
    → SeatOf (if refused then parted f k else record { multiplier = with_device (parted f k).multiplier k conn; legacy = f.legacy; seats = set (parted f k).seats k (seated conn) }) k
    ≡ SeatOf f k
    → ⊥
rejoined_here true f k conn next there same = no_some (sym (parted_here f k there) ∙ same ∙ connection_there (seat_at f k) there)
rejoined_here false f k conn next there same =
    another (seat_at f k).last conn next
    (sym (ap connection (get_or-set_same (set f.seats k (left (seat_at f k))) k (seated conn) empty_seat more)) ∙ same ∙ connection_there (seat_at f k) there)
  where
    more : k < length (set f.seats k (left (seat_at f k)))
    more = subst (λ (j : ℕ). k < j) (sym (length-set f.seats k (left (seat_at f k)))) (seat_inside_by (nat_lt k (length f.seats)) f k refl there)

    another : (x y : ℕ) → y ≡ x + 1 → Some y ≡ Some x → ⊥
    another x y is e = not_more (sym is ∙ same_Some y x e)
      where
        not_more : x + 1 ≡ x → ⊥
        not_more q = omega (arith, q)

joined_other : (refused : Bool) (f : FanState) (k n conn : ℕ) → n ≢ k
    → down_of (if refused then parted f k else record { multiplier = with_device (parted f k).multiplier k conn; legacy = f.legacy; seats = set (parted f k).seats k (seated conn) }).multiplier n
    ≡ down_of f.multiplier n
joined_other true f k n conn off = ap (λ (p : port.PortState). p.down) (other_port f.multiplier.ports k n (port.with_removal (port_at f.multiplier k) (seat_at f k).last) off)
joined_other false f k n conn off =
    ap (λ (p : port.PortState). p.down) (other_port (parted f k).multiplier.ports k n (port.with_connection (port_at (parted f k).multiplier k) conn) off)
    ∙ ap (λ (p : port.PortState). p.down) (other_port f.multiplier.ports k n (port.with_removal (port_at f.multiplier k) (seat_at f k).last) off)

joined_by : (at_it : Bool) (f : FanState) (k n : ℕ) → (k == n) ≡ at_it → (seat_at f k).is_there ≡ true
    → SeatOf (joined (parted f k) k (next_connection (seat_at f k))) n ≡ SeatOf f n
    → down_of (joined (parted f k) k (next_connection (seat_at f k))).multiplier n ≡ down_of f.multiplier n
joined_by true f k n is there same =
    absurd (rejoined_here (is_some (port.came_refusal (port_at (parted f k).multiplier k) (next_connection (seat_at f k)))) f k (next_connection (seat_at f k)) refl there
    (subst (λ (j : ℕ). SeatOf (joined (parted f k) k (next_connection (seat_at f k))) j ≡ SeatOf f j) (sym (eqb-true k n is)) same))
joined_by false f k n is there same =
    joined_other (is_some (port.came_refusal (port_at (parted f k).multiplier k) (next_connection (seat_at f k)))) f k n (next_connection (seat_at f k)) (λ e. eqb-false k n is (sym e))

and_first : (a b : Bool) → (a && b) ≡ true → a ≡ true
and_first true b h = refl
and_first false b h = absurd (false≢true h)

rejoined_by : (c : Bool) (f : FanState) (k n : ℕ) → ((seat_at f k).is_there && nat_lt (seat_at f k).last pm.largest) ≡ c
    → SeatOf (if c then joined (parted f k) k (next_connection (seat_at f k)) else f) n ≡ SeatOf f n
    → down_of (if c then joined (parted f k) k (next_connection (seat_at f k)) else f).multiplier n ≡ down_of f.multiplier n
rejoined_by true f k n is same = joined_by (k == n) f k n refl (and_first (seat_at f k).is_there (nat_lt (seat_at f k).last pm.largest) is) same
rejoined_by false f k n is same = refl

heeded_by : (stays : Bool) (f : FanState) (k n : ℕ) → SeatOf (if stays then f else rejoined f k) n ≡ SeatOf f n
    → down_of (if stays then f else rejoined f k).multiplier n ≡ down_of f.multiplier n
heeded_by true f k n same = refl
heeded_by false f k n same = rejoined_by ((seat_at f k).is_there && nat_lt (seat_at f k).last pm.largest) f k n refl same

heeded_down : (f : FanState) (k n : ℕ) → SeatOf (heeded f k) n ≡ SeatOf f n → down_of (heeded f k).multiplier n ≡ down_of f.multiplier n
heeded_down f k n same = heeded_by (is_in_reset f.multiplier k) f k n same

-- ---- a frame of the host, at either end

abbrev pub FellTo : FanOut → FanOut → Passed → Stamped → ℕ → Type 0
FellTo old new went frame n = option_to_list (waits_down new n) ≡ and_one (option_to_list (waits_down old n)) (is_down_to went n) (falling (reached_at old n) frame)

fan_fell : (old : FanState) (frame : Stamped) (went : Passed) (new : FanState) → SendsFan old frame (Ok went) new → (n : ℕ) → SeatOf new n ≡ SeatOf old n
    → FellTo (Multiplier old) (Multiplier new) went frame n
fan_fell old frame went new h n same =
    by_option ℕ (FellTo (Multiplier old) (Multiplier new) went frame n) (new ≡ on old h.0) (λ k. new ≡ heeded (on old h.0) k) (fan.held_in_reset old.multiplier frame) h.3
    (λ none is. ap (λ (f : FanState). option_to_list (down_of f.multiplier n)) is ∙ host_fell old.multiplier frame went h.0 h.1 n)
    (λ k there is. ap (λ (f : FanState). option_to_list (down_of f.multiplier n)) is
    ∙ ap option_to_list (heeded_down (on old h.0) k n (ap (λ (f : FanState). SeatOf f n) (sym is) ∙ same))
    ∙ host_fell old.multiplier frame went h.0 h.1 n)

-- the place of the device that is alone
straight_full : (here : Bool) (old new : StraightState) (frame : Stamped) (b : Bool) → is_some old.port.down ≡ b → b ≡ false
    → new ≡ straight.on_port old (port.with_down old.port (Some (addressed old.seat.last frame)))
    → option_to_list (if here then option_map (pointed 0) new.port.down else None)
    ≡ and_one (option_to_list (if here then option_map (pointed 0) old.port.down else None)) here (falling old.seat.last frame)
straight_full true old new frame b full off is =
    with_one (option_map (pointed 0) new.port.down) (option_map (pointed 0) old.port.down) true (falling old.seat.last frame) refl
    (empty old.port.down (full ∙ off))
    (ap (λ (s : StraightState). option_map (pointed 0) s.port.down) is)
  where
    empty : (o : Option Stamped) → is_some o ≡ false → option_map (pointed 0) o ≡ None
    empty None h = refl
    empty (Some f) h = absurd (false≢true (sym h))
straight_full false old new frame b full off is = refl

straight_same : (old new : StraightState) (went : Passed) (frame : Stamped) (n : ℕ) → went ≡ passed.Dropped → new ≡ old → FellTo (Device old) (Device new) went frame n
straight_same old new went frame n out is =
    subst (λ (w : Passed). FellTo (Device old) (Device new) w frame n) (sym out)
    (with_none (option_to_list (waits_down (Device new) n)) (option_to_list (waits_down (Device old) n)) false (falling old.seat.last frame) refl
    (ap (λ (s : StraightState). option_to_list (waits_down (Device s) n)) is))

pub straight_fell : (old : StraightState) (frame : Stamped) (went : Passed) (new : StraightState) → straight.SendsStraight old frame (Ok went) new → (n : ℕ)
    → FellTo (Device old) (Device new) went frame n
straight_fell old frame went new h n =
    by_bool (FellTo (Device old) (Device new) went frame n) _ ((sent went ≡ sent passed.Dropped) × (new ≡ old)) old.seat.is_there h
    (λ there by. by_bool (FellTo (Device old) (Device new) went frame n) ((sent went ≡ back frame) × (new ≡ old)) _ (is_some old.port.down) by
    (λ full is. not_back went frame is.0)
    (λ free is. subst (λ (w : Passed). FellTo (Device old) (Device new) w frame n) (sym (sent_same went (passed.Down 0) is.0))
    (straight_full (0 == n) old new frame (is_some old.port.down) refl free is.1)))
    (λ away is. straight_same old new went frame n (sent_same went passed.Dropped is.0) is.1)

pub sends_down : (old : FanOut) (frame : Stamped) (went : Passed) (new : FanOut) → Sends old frame (Ok went) new → (n : ℕ) → connection_at new n ≡ connection_at old n
    → FellTo old new went frame n
sends_down (Device old) frame went (Device new) h n same = straight_fell old frame went new h n
sends_down (Multiplier old) frame went (Multiplier new) h n same = fan_fell old frame went new h n same
sends_down (Device old) frame went (Multiplier new) h n same = absurd h
sends_down (Multiplier old) frame went (Device new) h n same = absurd h

-- ---- calls that leave it

abbrev pub Waits : FanOut → FanOut → ℕ → Type 0
Waits old new n = waits_down new n ≡ waits_down old n

straight_waits : (old new : StraightState) → new.port.down ≡ old.port.down → (n : ℕ) → Waits (Device old) (Device new) n
straight_waits old new same n = ap (λ (d : Option Stamped). if 0 == n then option_map (pointed 0) d else None) same

-- a frame goes up
port_gives : (old : PmState) (k : ℕ) (frame : Stamped) (new : PmState) → PortGives old k frame new → (n : ℕ) → down_of new n ≡ down_of old n
port_gives old k frame new h n =
    by_option Stamped (down_of new n ≡ down_of old n) ⊥ _ (pm.held old k) h (λ none off. absurd off)
    (λ was there by. ap (λ (m : PmState). down_of m n) by.2 ∙ kept_down old k (port.with_up (port_at old k) None) refl n)

control_gives : (old : PmState) (frame : Stamped) (new : PmState) → ControlGives old frame new → (n : ℕ) → down_of new n ≡ down_of old n
control_gives old frame new h n =
    by_bool (down_of new n ≡ down_of old n) _ _ old.registers.due h
    (λ due by. ap (λ (m : PmState). down_of m n) by.1) (λ none by. ap (λ (m : PmState). down_of m n) by.1)

place_gives : (old : PmState) (place : ℕ) (frame : Stamped) (new : PmState) → PlaceGives old place frame new → (n : ℕ) → down_of new n ≡ down_of old n
place_gives old place frame new h n =
    by_bool (down_of new n ≡ down_of old n) (ControlGives old frame new) (PortGives old place frame new) (place == control_port) h
    (λ is by. control_gives old frame new by n) (λ is by. port_gives old place frame new by n)

next_up : (old : PmState) (frame : Stamped) (new : PmState) → NextUpRule old (Ok (Some frame)) new → (n : ℕ) → down_of new n ≡ down_of old n
next_up old frame new h n =
    by_option ℕ (down_of new n ≡ down_of old n) ⊥ (λ place. PlaceGives old place frame new) (pm.next_place old) h (λ none off. absurd off)
    (λ place there by. place_gives old place frame new by n)

pub gives_up : (old : FanOut) (frame : Stamped) (new : FanOut) → GivesUpThere old (Ok (Some frame)) new → (n : ℕ) → Waits old new n
gives_up (Device old) frame (Device new) h n = straight_waits old new (ap (λ (s : StraightState). s.port.down) h.1) n
gives_up (Multiplier old) frame (Multiplier new) h n =
    ap (λ (f : FanState). down_of f.multiplier n) h.2 ∙ next_up old.multiplier frame new.multiplier h.0 n
gives_up (Device old) frame (Multiplier new) h n = absurd h
gives_up (Multiplier old) frame (Device new) h n = absurd h

-- a device sends one
offers_straight : (old : StraightState) (frame : Stamped) (offered : Offered) (new : StraightState) → straight.OffersStraight old frame (Ok offered) new → new.port.down ≡ old.port.down
offers_straight old frame offered new h =
    by_bool (new.port.down ≡ old.port.down) _ _ old.seat.is_there h
    (λ there by. by_bool (new.port.down ≡ old.port.down) _ _ (is_none old.port.up) by
    (λ free is. ap (λ (s : StraightState). s.port.down) is.1) (λ full is. ap (λ (s : StraightState). s.port.down) is.1))
    (λ away is. ap (λ (s : StraightState). s.port.down) is.1)

offers_fan : (old : FanState) (k : ℕ) (frame : Stamped) (offered : Offered) (new : FanState) → fan.OffersFan old k frame (Ok offered) new → (n : ℕ)
    → down_of new.multiplier n ≡ down_of old.multiplier n
offers_fan old k frame offered new h n =
    by_bool (down_of new.multiplier n ≡ down_of old.multiplier n) _ _ (seat_at old k).is_there h
    (λ there by. by_bool (down_of new.multiplier n ≡ down_of old.multiplier n) _ _ (is_none (port_at old.multiplier k).up) by
    (λ free is. ap (λ (f : FanState). down_of f.multiplier n) is.1
    ∙ kept_down old.multiplier k (port.with_up (port_at old.multiplier k) (Some (fan.waiting old k frame))) refl n)
    (λ full is. ap (λ (f : FanState). down_of f.multiplier n) is.1))
    (λ away is. ap (λ (f : FanState). down_of f.multiplier n) is.1)

offers_at : (old : FanOut) (k : ℕ) (frame : Stamped) (offered : Offered) (new : FanOut) → OffersAt old k frame (Ok offered) new → (n : ℕ) → Waits old new n
offers_at (Device old) k frame offered (Device new) h n = straight_waits old new (offers_straight old frame offered new h) n
offers_at (Multiplier old) k frame offered (Multiplier new) h n = offers_fan old k frame offered new h n
offers_at (Device old) k frame offered (Multiplier new) h n = absurd h
offers_at (Multiplier old) k frame offered (Device new) h n = absurd h

pub offers : (old : FanOut) (k : ℕ) (frame : Stamped) (offered : Offered) (new : FanOut) → Offers old k frame (Ok offered) new → (n : ℕ) → Waits old new n
offers old k frame offered new h n =
    by_bool (Waits old new n) (OffersAt old k frame (Ok offered) new) ((Ok offered ≡ Ok Dropped) × (new ≡ old)) (has_port old k) h
    (λ has by. offers_at old k frame offered new by n) (λ none is. ap (λ (f : FanOut). waits_down f n) is.1)

-- a device begins anew
tells_straight : (old : StraightState) (o : Option ℕ) (new : StraightState) → straight.TellsStraight old o new → new.port.down ≡ old.port.down
tells_straight old o new h =
    by_bool (new.port.down ≡ old.port.down) _ _ old.seat.begun h
    (λ there is. ap (λ (s : StraightState). s.port.down) is.1) (λ away is. ap (λ (s : StraightState). s.port.down) is.1)

tells_fan : (o : Option ℕ) (old new : FanState) → MatchOption o (new ≡ old) (λ k. new ≡ with_seat old k (told (seat_at old k))) → (n : ℕ)
    → down_of new.multiplier n ≡ down_of old.multiplier n
tells_fan None old new h n = ap (λ (f : FanState). down_of f.multiplier n) h
tells_fan (Some k) old new h n = ap (λ (f : FanState). down_of f.multiplier n) h

pub tells : (old : FanOut) (o : Option ℕ) (new : FanOut) → Tells old o new → (n : ℕ) → Waits old new n
tells (Device old) o (Device new) h n = straight_waits old new (tells_straight old o new h) n
tells (Multiplier old) o (Multiplier new) h n = tells_fan o old new h.1 n
tells (Device old) o (Multiplier new) h n = absurd h
tells (Multiplier old) o (Device new) h n = absurd h

-- a device is plugged in
plugs_straight : (old : StraightState) (r : Result (Unit {0}) PlugError) (new : StraightState)
    → MatchResult r (λ _. new ≡ straight.joined old (next_connection old.seat)) (λ _. new ≡ old) → new.port.down ≡ old.port.down
plugs_straight old (Ok x) new h = ap (λ (s : StraightState). s.port.down) h
plugs_straight old (Err e) new h = ap (λ (s : StraightState). s.port.down) h

plugs_fan : (old : FanState) (k : ℕ) (r : Result (Unit {0}) PlugError) (new : FanState) → fan.PlugsFan old k r new → (n : ℕ) → down_of new.multiplier n ≡ down_of old.multiplier n
plugs_fan old k (Ok x) new h n =
    ap (λ (f : FanState). down_of f.multiplier n) h.1
    ∙ kept_down old.multiplier k (port.with_connection (port_at old.multiplier k) (next_connection (seat_at old k))) refl n
plugs_fan old k (Err e) new h n = ap (λ (f : FanState). down_of f.multiplier n) h.1

plugs_at : (old : FanOut) (k : ℕ) (r : Result (Unit {0}) PlugError) (new : FanOut) → PlugsAt old k r new → (n : ℕ) → Waits old new n
plugs_at (Device old) k r (Device new) h n = straight_waits old new (plugs_straight old r new h.1) n
plugs_at (Multiplier old) k r (Multiplier new) h n = plugs_fan old k r new h n
plugs_at (Device old) k r (Multiplier new) h n = absurd h
plugs_at (Multiplier old) k r (Device new) h n = absurd h

pub plugs : (old : FanOut) (k : ℕ) (r : Result (Unit {0}) PlugError) (new : FanOut) → Plugs old k r new → (n : ℕ) → Waits old new n
plugs old k r new h n =
    by_bool (Waits old new n) (PlugsAt old k r new) ((r ≡ Err NoPort) × (new ≡ old)) (has_port old k) h
    (λ has by. plugs_at old k r new by n) (λ none is. ap (λ (f : FanOut). waits_down f n) is.1)

-- a device is pulled: another one's connection stays, and what waits for it
gone_straight : (old new : StraightState) → old.seat.is_there ≡ true → new ≡ straight.parted old → connection new.seat ≡ connection old.seat → ⊥
gone_straight old new there is same = no_some (sym (ap (λ (s : StraightState). connection s.seat) is) ∙ same ∙ connection_there old.seat there)

pulls_straight : (old : StraightState) (r : Result (Unit {0}) NotThere) (new : StraightState) → straight.PullsStraight old r new → connection new.seat ≡ connection old.seat
    → new.port.down ≡ old.port.down
pulls_straight old (Ok x) new h same = absurd (gone_straight old new h.0 h.1 same)
pulls_straight old (Err e) new h same = ap (λ (s : StraightState). s.port.down) h.1

parted_by : (at_it : Bool) (f : FanState) (k n : ℕ) → (k == n) ≡ at_it → (seat_at f k).is_there ≡ true → SeatOf (parted f k) n ≡ SeatOf f n
    → down_of (parted f k).multiplier n ≡ down_of f.multiplier n
parted_by true f k n is there same =
    absurd (no_some (sym (parted_here f k there) ∙ subst (λ (j : ℕ). SeatOf (parted f k) j ≡ SeatOf f j) (sym (eqb-true k n is)) same ∙ connection_there (seat_at f k) there))
parted_by false f k n is there same =
    ap (λ (p : port.PortState). p.down) (other_port f.multiplier.ports k n (port.with_removal (port_at f.multiplier k) (seat_at f k).last) (λ e. eqb-false k n is (sym e)))

pulls_fan : (old : FanState) (k : ℕ) (r : Result (Unit {0}) NotThere) (new : FanState) → fan.PullsFan old k r new → (n : ℕ) → SeatOf new n ≡ SeatOf old n
    → down_of new.multiplier n ≡ down_of old.multiplier n
pulls_fan old k (Ok x) new h n same =
    ap (λ (f : FanState). down_of f.multiplier n) h.1 ∙ parted_by (k == n) old k n refl h.0 (ap (λ (f : FanState). SeatOf f n) (sym h.1) ∙ same)
pulls_fan old k (Err e) new h n same = ap (λ (f : FanState). down_of f.multiplier n) h.1

pulls_at : (old : FanOut) (k : ℕ) (r : Result (Unit {0}) NotThere) (new : FanOut) → PullsAt old k r new → (n : ℕ) → connection_at new n ≡ connection_at old n → Waits old new n
pulls_at (Device old) k r (Device new) h n same = straight_waits old new (pulls_straight old r new h same) n
pulls_at (Multiplier old) k r (Multiplier new) h n same = pulls_fan old k r new h n same
pulls_at (Device old) k r (Multiplier new) h n same = absurd h
pulls_at (Multiplier old) k r (Device new) h n same = absurd h

pub pulls_none : (r : Result (Unit {0}) NotThere) (old new : FanOut) → MatchResult r (λ _. ⊥) (λ _. new ≡ old) → new ≡ old
pulls_none (Ok x) old new h = absurd h
pulls_none (Err e) old new h = h

pub pulls : (old : FanOut) (k : ℕ) (r : Result (Unit {0}) NotThere) (new : FanOut) → Pulls old k r new → (n : ℕ) → connection_at new n ≡ connection_at old n → Waits old new n
pulls old k r new h n same =
    by_bool (Waits old new n) (PullsAt old k r new) (MatchResult r (λ _. ⊥) (λ _. new ≡ old)) (has_port old k) h
    (λ has by. pulls_at old k r new by n same) (λ none is. ap (λ (f : FanOut). waits_down f n) (pulls_none r old new is))

-- the connection of a device that is pulled is there no more
pulled_at : (old : FanOut) (k : ℕ) (x : Unit {0}) (new : FanOut) → PullsAt old k (Ok x) new → connection_at new k ≡ connection_at old k → ⊥
pulled_at (Device old) k x (Device new) h same = gone_straight old new h.0 h.1 same
pulled_at (Multiplier old) k x (Multiplier new) h same =
    no_some (sym (parted_here old k h.0) ∙ ap (λ (f : FanState). SeatOf f k) (sym h.1) ∙ same ∙ connection_there (seat_at old k) h.0)
pulled_at (Device old) k x (Multiplier new) h same = h
pulled_at (Multiplier old) k x (Device new) h same = h

pub pulled_off : (old : FanOut) (k : ℕ) (x : Unit {0}) (new : FanOut) → Pulls old k (Ok x) new → connection_at new k ≡ connection_at old k → ⊥
pulled_off old k x new h same =
    by_bool ⊥ (PullsAt old k (Ok x) new) ⊥ (has_port old k) h (λ has by. pulled_at old k x new by same) (λ none off. off)

-- ---- a frame goes down

-- at a port it is the one that waited there, and none waits any more; at the others what waits stays
pub record GoesDown (old new : FanOut) (k : ℕ) (frame : Stamped) : Type 0 where
  pub was : waits_down old k ≡ Some frame
  pub none : waits_down new k ≡ None
  pub others : (n : ℕ) → (k == n) ≡ false → Waits old new n

-- a device alone is at port 0
alone : (k : ℕ) → nat_lt k 1 ≡ true → 0 ≡ k
alone k low = omega (arith, ltb-true k 1 low)

down_straight : (old : StraightState) (frame : Stamped) (new : StraightState) (k : ℕ) → 0 ≡ k → straight.GivesDown old (Some frame) new → GoesDown (Device old) (Device new) k frame
down_straight old frame new k is h = subst (λ (j : ℕ). GoesDown (Device old) (Device new) j frame) is here
  where
    by : (o : Option Stamped) → old.port.down ≡ o
        → MatchOption o ((Some frame ≡ None) × (new ≡ old)) (λ f. (Some frame ≡ Some (pointed 0 f)) × (new ≡ record { port = port.with_down old.port None; seat = old.seat; asked = pm_port f }))
        → GoesDown (Device old) (Device new) 0 frame
    by None there h = absurd (no_some (sym h.0))
    by (Some f) there h = record {
      was = ap (option_map (pointed 0)) there ∙ sym h.0;
      none = ap (λ (s : StraightState). option_map (pointed 0) s.port.down) h.1;
      others = λ n off. other n off;
    }
      where
        other_by : (b : Bool) → b ≡ false → (if b then option_map (pointed 0) new.port.down else None) ≡ (if b then option_map (pointed 0) old.port.down else None)
        other_by true off = absurd (false≢true (sym off))
        other_by false off = refl

        other : (n : ℕ) → (0 == n) ≡ false → Waits (Device old) (Device new) n
        other n off = other_by (0 == n) off

    here : GoesDown (Device old) (Device new) 0 frame
    here = by old.port.down refl h

down_fan : (old : FanState) (k : ℕ) (frame : Stamped) (new : FanState) → NextDownRule old.multiplier k (Some frame) new.multiplier → new ≡ on old new.multiplier
    → GoesDown (Multiplier old) (Multiplier new) k frame
down_fan old k frame new h is = record {
  was = h.0;
  none = ap (λ (m : PmState). down_of m k) h.1
      ∙ ap (λ (p : port.PortState). p.down) (this_port old.multiplier.ports k (port.with_down (port_at old.multiplier k) None) (has_down old.multiplier.ports k frame h.0));
  others = λ n off. ap (λ (m : PmState). down_of m n) h.1
      ∙ ap (λ (p : port.PortState). p.down) (other_port old.multiplier.ports k n (port.with_down (port_at old.multiplier k) None) (λ e. eqb-false k n off (sym e)));
}

down_at : (old : FanOut) (k : ℕ) (frame : Stamped) (new : FanOut) → has_port old k ≡ true → GivesDownAt old k (Some frame) new → GoesDown old new k frame
down_at (Device old) k frame (Device new) has h = down_straight old frame new k (alone k has) h
down_at (Multiplier old) k frame (Multiplier new) has h = down_fan old k frame new h.0 h.2
down_at (Device old) k frame (Multiplier new) has h = absurd h
down_at (Multiplier old) k frame (Device new) has h = absurd h

pub gives_down : (old : FanOut) (k : ℕ) (frame : Stamped) (new : FanOut) → GivesDownThere old k (Some frame) new → GoesDown old new k frame
gives_down old k frame new h =
    by_bool (GoesDown old new k frame) (GivesDownAt old k (Some frame) new) ((Some frame ≡ None) × (new ≡ old)) (has_port old k) h
    (λ has by. down_at old k frame new has by) (λ none is. absurd (no_some (sym is.0)))

-- ---- where a frame goes

straight_goes : (old : StraightState) (frame : Stamped) (went : Passed) (new : StraightState) → straight.SendsStraight old frame (Ok went) new
    → went ≡ (if old.seat.is_there then passed.Down 0 else passed.Dropped)
straight_goes old frame went new h = by old.seat.is_there h
  where
    by : (b : Bool) → MatchBool b (MatchBool (is_some old.port.down) ((sent went ≡ back frame) × (new ≡ old))
        ((sent went ≡ sent (passed.Down 0)) × (new ≡ straight.on_port old (port.with_down old.port (Some (addressed old.seat.last frame))))))
        ((sent went ≡ sent passed.Dropped) × (new ≡ old))
        → went ≡ (if b then passed.Down 0 else passed.Dropped)
    by true there =
        by_bool (went ≡ passed.Down 0) ((sent went ≡ back frame) × (new ≡ old)) _ (is_some old.port.down) there
        (λ full is. not_back went frame is.0) (λ free is. sent_same went (passed.Down 0) is.0)
    by false away = sent_same went passed.Dropped away.0

control_goes : (old : PmState) (frame : Stamped) (went : Passed) (new : PmState) → ToControl old frame (Ok went) new → went ≡ passed.Control
control_goes old frame passed.Control new h = refl
control_goes old frame other new h = absurd h

nobody_goes : (old : PmState) (went : Passed) (new : PmState) → ToNobody old (Ok went) new → went ≡ passed.Dropped
nobody_goes old passed.Dropped new h = refl
nobody_goes old other new h = absurd h

device_goes : (old : PmState) (k conn : ℕ) (frame : Stamped) (went : Passed) (new : PmState) → ToDevice old k conn frame (Ok went) new → went ≡ passed.Down k
device_goes old k conn frame (passed.Down m) new h = ap (λ (j : ℕ). passed.Down j) h.0
device_goes old k conn frame other new h = absurd h

host_goes : (control : Bool) (to : Option ℕ) (old : PmState) (frame : Stamped) (went : Passed) (new : PmState)
    → MatchBool control (ToControl old frame (Ok went) new) (MatchOption to (ToNobody old (Ok went) new) (λ conn. ToDevice old (pm_port frame) conn frame (Ok went) new))
    → went ≡ (if control then passed.Control else match_some to passed.Dropped (λ conn. passed.Down (pm_port frame)))
host_goes true to old frame went new h = control_goes old frame went new h
host_goes false None old frame went new h = nobody_goes old went new h
host_goes false (Some conn) old frame went new h = device_goes old (pm_port frame) conn frame went new h

pub goes_right : (old : FanOut) (frame : Stamped) (went : Passed) (new : FanOut) → Sends old frame (Ok went) new → went ≡ goes_to old frame
goes_right (Device old) frame went (Device new) h = straight_goes old frame went new h
goes_right (Multiplier old) frame went (Multiplier new) h =
    host_goes (pm_port frame == control_port) (passes_to old.multiplier (pm_port frame)) old.multiplier frame went h.0 h.1
goes_right (Device old) frame went (Multiplier new) h = absurd h
goes_right (Multiplier old) frame went (Device new) h = absurd h

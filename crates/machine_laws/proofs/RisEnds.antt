-- What ends a connection, and what does not.
use Rattle.std.proofs.Common.{◌≡◌, ◌≢◌, ℕ, ◌<◌, ◌≤◌, ◌==◌, Bool, true, false, length, Option, Some, None, Result, Ok, Err, refl, sym, ap, ◌∙◌, subst}
use Rattle.std.proofs.{Common.arith, lemmas.{Bool.{and_parts, eqb-false, ltb-true, true≢false, false≢true}, Option.same_Some}}
use Rattle.std.specs.{Prelude.{if◌then◌else◌, ◌&&◌, nat_lt, is_none, is_some, slice_set, MatchOption, MatchResult}, Bool.MatchBool}
use Rattle.fis_view.specs.Frames.{Stamped}
use Rattle.pm_ports.specs.Port as port
use Rattle.pm_ports.specs.declared.port.Offered.{Offered, TheVariants.{Held, Dropped}}
use Rattle.multiplier.specs.{Rules.{NextDownRule, with_device}, State.{PmState, port_at, pm_port}, declared.multiplier.Passed.Passed}
use Rattle.multiplier.specs.declared.multiplier.PmRefusal.{PmRefusal}
use Rattle.multiplier.specs.declared.multiplier.Passed.TheVariants as passed
use Rattle.multiplier.specs.declared.multiplier.PmRefusal.TheVariants as refusal
use Rattle.multiplier.proofs.Door.{kept_part, other_port, this_port, up_to}
use Rattle.fan_out.specs.{Calls.{FanCall, Plug, Pull, Send, GiveUp, GiveDown, Offer, Tell, Does as FanDoes}, FanOuts.port_count, Fans.FanState}
use Rattle.fan_out.specs.Fans.{IsFan, OffersFan, PlugsFan, PullsFan, SendsFan, Through, controlled, heeded, held_fan, held_in_reset}
use Rattle.fan_out.specs.{Fans.{is_in_reset as holds_in_reset, joined, on, only_in_reset, parted, rejoined, seat_at, waiting}, Seats.after_sent}
use Rattle.fan_out.specs.{Seats.{next_connection, seated, told}, Straights.{GivesDown, GivesUp, OffersStraight, PlugsStraight, PullsStraight}}
use Rattle.fan_out.specs.Straights.{SendsStraight, StraightState, TellsStraight, addressed, answering, on_port, pointed}
use Rattle.fan_out.specs.declared.{fan_out.FanOut.{FanOut, TheVariants.{Device, Multiplier}}, seat.{NotThere.NotThere, PlugError.PlugError}}
use Rattle.fan_out.specs.declared.seat.PlugError.TheVariants.{NoPort}
use Rattle.machine_laws.specs.Rising.{IsSoundEnd, is_in_reset, is_over, port_of}
use Rattle.machine_laws.proofs.{RisFan.no_device, RisStraight.no_multiplier}

abbrev gone_at : FanOut → ℕ → ℕ
gone_at f n = (port_of f n).gone

-- whether a call may end the connection of a port
abbrev pub ends_call : FanOut → FanCall → ℕ → Bool
ends_call f (Pull m result) n = m == n
ends_call f (Send frame result) n = is_in_reset f n
ends_call f call n = false

-- ---- a multiplier

abbrev gone_of : FanState → ℕ → ℕ
gone_of f n = (port_at f.multiplier n).gone

same_fan : (f g : FanState) (n : ℕ) → Multiplier g ≡ Multiplier f → gone_of g n ≡ gone_of f n
same_fan f g n is = ap (λ (e : FanOut). gone_at e n) is

plug_keeps : (f g : FanState) (m n : ℕ) (result : Result (Unit {0}) PlugError) → PlugsFan f m result g → gone_of g n ≡ gone_of f n
plug_keeps f g m n (Ok done) h =
    ap (λ (k : FanState). gone_of k n) h.1 ∙ kept_part (λ (p : port.PortState). p.gone) f.multiplier.ports m (port.with_connection (port_at f.multiplier m) (next_connection (seat_at f m))) refl n
plug_keeps f g m n (Err why) h = ap (λ (k : FanState). gone_of k n) h.1

part_keeps : (f : FanState) (m n : ℕ) → n ≢ m → gone_of (parted f m) n ≡ gone_of f n
part_keeps f m n other = ap (λ (p : port.PortState). p.gone) (other_port f.multiplier.ports m n (port.with_removal (port_at f.multiplier m) (seat_at f m).last) other)

pull_keeps : (f g : FanState) (m n : ℕ) (result : Result (Unit {0}) NotThere) → n ≢ m → PullsFan f m result g → gone_of g n ≡ gone_of f n
pull_keeps f g m n (Ok done) other h = ap (λ (k : FanState). gone_of k n) h.1 ∙ part_keeps f m n other
pull_keeps f g m n (Err why) other h = ap (λ (k : FanState). gone_of k n) h.1

join_keeps : (f : FanState) (k conn n : ℕ) → gone_of (joined f k conn) n ≡ gone_of f n
join_keeps f k conn n = by_refusal (is_some (port.came_refusal (port_at f.multiplier k) conn))
  where
    by_refusal : (b : Bool) → gone_of (if b then f else record { multiplier = with_device f.multiplier k conn; legacy = f.legacy; seats = slice_set f.seats k (seated conn) }) n ≡ gone_of f n
    by_refusal true = refl
    by_refusal false = kept_part (λ (p : port.PortState). p.gone) f.multiplier.ports k (port.with_connection (port_at f.multiplier k) conn) refl n

rejoin_keeps : (f : FanState) (k n : ℕ) → n ≢ k → gone_of (rejoined f k) n ≡ gone_of f n
rejoin_keeps f k n other = by_test ((seat_at f k).is_there && nat_lt (seat_at f k).last 4294967295)
  where
    by_test : (b : Bool) → gone_of (if b then joined (parted f k) k (next_connection (seat_at f k)) else f) n ≡ gone_of f n
    by_test true = join_keeps (parted f k) k (next_connection (seat_at f k)) n ∙ part_keeps f k n other
    by_test false = refl

heed_keeps : (f : FanState) (k n : ℕ) → n ≢ k → gone_of (heeded f k) n ≡ gone_of f n
heed_keeps f k n other = by_test (holds_in_reset f.multiplier k)
  where
    by_test : (b : Bool) → gone_of (if b then f else rejoined f k) n ≡ gone_of f n
    by_test true = refl
    by_test false = rejoin_keeps f k n other

-- the port that is meant is in reset
meant : (m : PmState) (o : Option ℕ) (k : ℕ) → only_in_reset m o ≡ Some k → holds_in_reset m k ≡ true
meant m None k h = absurd cc
meant m (Some n) k h = by_test (nat_lt n m.registers.ports && holds_in_reset m n) refl h
  where
    by_test : (b : Bool) → (nat_lt n m.registers.ports && holds_in_reset m n) ≡ b → (if b then Some n else None) ≡ Some k → holds_in_reset m k ≡ true
    by_test true is here = subst (λ (j : ℕ). holds_in_reset m j ≡ true) (same_Some n k here) (and_parts (nat_lt n m.registers.ports) (holds_in_reset m n) is).1
    by_test false is here = absurd cc

send_keeps : (f g : FanState) (n : ℕ) (frame : Stamped) (result : Result Passed (Stamped × PmRefusal)) → holds_in_reset f.multiplier n ≡ false → SendsFan f frame result g → gone_of g n ≡ gone_of f n
send_keeps f g n frame result off h = by_held (held_in_reset f.multiplier frame) refl h.3
  where
    by_held : (o : Option ℕ) → held_in_reset f.multiplier frame ≡ o → MatchOption o (g ≡ on f h.0) (λ k. g ≡ heeded (on f h.0) k) → gone_of g n ≡ gone_of f n
    by_held None e is = ap (λ (k : FanState). gone_of k n) is ∙ h.2.gone n
    by_held (Some k) e is =
        ap (λ (q : FanState). gone_of q n) is
        ∙ heed_keeps (on f h.0) k n (λ same. true≢false (sym (meant f.multiplier (controlled frame.bytes) k e) ∙ ap (holds_in_reset f.multiplier) (sym same) ∙ off))
        ∙ h.2.gone n

offer_keeps : (f g : FanState) (m n : ℕ) (frame : Stamped) (result : Result Offered Stamped) → OffersFan f m frame result g → gone_of g n ≡ gone_of f n
offer_keeps f g m n frame result h = by_there (seat_at f m).is_there (is_none (port_at f.multiplier m).up) h
  where
    by_there : (there room : Bool) → MatchBool there (MatchBool room ((result ≡ Ok Held) × (g ≡ held_fan f m frame)) ((result ≡ Err frame) × (g ≡ f))) ((result ≡ Ok Dropped) × (g ≡ f)) → gone_of g n ≡ gone_of f n
    by_there true true d =
        ap (λ (k : FanState). gone_of k n) d.1 ∙ kept_part (λ (p : port.PortState). p.gone) f.multiplier.ports m (port.with_up (port_at f.multiplier m) (Some (waiting f m frame))) refl n
    by_there true false d = ap (λ (k : FanState). gone_of k n) d.1
    by_there false room d = ap (λ (k : FanState). gone_of k n) d.1

fan_keeps : (f g : FanState) (call : FanCall) (n : ℕ) → FanDoes (Multiplier f) call (Multiplier g) → ends_call (Multiplier f) call n ≡ false → gone_of g n ≡ gone_of f n
fan_keeps f g (Plug m result) n does off = by_port (nat_lt m f.multiplier.registers.ports) does
  where
    by_port : (b : Bool) → MatchBool b (PlugsFan f m result g) ((result ≡ Err NoPort) × (Multiplier g ≡ Multiplier f)) → gone_of g n ≡ gone_of f n
    by_port true d = plug_keeps f g m n result d
    by_port false d = same_fan f g n d.1
fan_keeps f g (Pull m result) n does off = by_port (nat_lt m f.multiplier.registers.ports) result does
  where
    by_port : (b : Bool) (r : Result (Unit {0}) NotThere) → MatchBool b (PullsFan f m r g) (MatchResult r (λ _. ⊥) (λ _. Multiplier g ≡ Multiplier f)) → gone_of g n ≡ gone_of f n
    by_port true r d = pull_keeps f g m n r (λ same. eqb-false m n off (sym same)) d
    by_port false (Ok done) d = absurd d
    by_port false (Err why) d = same_fan f g n d
fan_keeps f g (Send frame result) n does off = send_keeps f g n frame result off does
fan_keeps f g (GiveUp result) n does off = does.1.gone n
fan_keeps f g (GiveDown m result) n does off = by_port (nat_lt m f.multiplier.registers.ports) does
  where
    by_port : (b : Bool) → MatchBool b (Through (λ was now. NextDownRule was m result now) f g) ((result ≡ None) × (Multiplier g ≡ Multiplier f)) → gone_of g n ≡ gone_of f n
    by_port true d = d.1.gone n
    by_port false d = same_fan f g n d.1
fan_keeps f g (Offer m frame result waits) n does off = by_port (nat_lt m f.multiplier.registers.ports) does.0
  where
    by_port : (b : Bool) → MatchBool b (OffersFan f m frame result g) ((result ≡ Ok Dropped) × (Multiplier g ≡ Multiplier f)) → gone_of g n ≡ gone_of f n
    by_port true d = offer_keeps f g m n frame result d
    by_port false d = same_fan f g n d.1
fan_keeps f g (Tell None) n does off = ap (λ (k : FanState). gone_of k n) does.1
fan_keeps f g (Tell (Some m)) n does off = ap (λ (k : FanState). gone_of k n) does.1

-- ---- a device

abbrev Keeps : StraightState → StraightState → Type 0
Keeps s t = t.port.gone ≡ s.port.gone

same_straight : (s t : StraightState) → Device t ≡ Device s → Keeps s t
same_straight s t is = ap (λ (e : FanOut). gone_at e 0) is

eq_straight : (s t u : StraightState) → t ≡ u → u.port.gone ≡ s.port.gone → Keeps s t
eq_straight s t u is same = ap (λ (x : StraightState). x.port.gone) is ∙ same

straight_sends : (s t : StraightState) (frame : Stamped) (result : Result Passed (Stamped × PmRefusal)) → SendsStraight s frame result t → Keeps s t
straight_sends s t frame result h = by_there s.seat.is_there (is_some s.port.down) h
  where
    by_there : (there full : Bool)
        → MatchBool there (MatchBool full ((result ≡ Err (frame, refusal.HoldFull)) × (t ≡ s)) ((result ≡ Ok (passed.Down 0)) × (t ≡ on_port s (port.with_down s.port (Some (addressed s.seat.last frame)))))) ((result ≡ Ok passed.Dropped) × (t ≡ s))
        → Keeps s t
    by_there true true d = eq_straight s t s d.1 refl
    by_there true false d = eq_straight s t (on_port s (port.with_down s.port (Some (addressed s.seat.last frame)))) d.1 refl
    by_there false full d = eq_straight s t s d.1 refl

straight_downs : (s t : StraightState) (result : Option Stamped) → GivesDown s result t → Keeps s t
straight_downs s t result h = by_down s.port.down h
  where
    by_down : (o : Option Stamped) → MatchOption o ((result ≡ None) × (t ≡ s)) (λ frame. (result ≡ Some (pointed 0 frame)) × (t ≡ record { port = port.with_down s.port None; seat = s.seat; asked = pm_port frame })) → Keeps s t
    by_down None d = eq_straight s t s d.1 refl
    by_down (Some frame) d = eq_straight s t (record { port = port.with_down s.port None; seat = s.seat; asked = pm_port frame }) d.1 refl

straight_tells : (s t : StraightState) (result : Option ℕ) → TellsStraight s result t → Keeps s t
straight_tells s t result h = by_begun s.seat.begun h
  where
    by_begun : (b : Bool) → MatchBool b ((result ≡ Some 0) × (t ≡ record { port = s.port; seat = told s.seat; asked = s.asked })) ((result ≡ None) × (t ≡ s)) → Keeps s t
    by_begun true d = eq_straight s t (record { port = s.port; seat = told s.seat; asked = s.asked }) d.1 refl
    by_begun false d = eq_straight s t s d.1 refl

straight_ups : (s t : StraightState) (r : Option Stamped) → GivesUp s r t → Keeps s t
straight_ups s t r h = ap (λ (x : StraightState). x.port.gone) h.1 ∙ by_some (is_some r)
  where
    by_some : (b : Bool) → (if b then port.with_up s.port None else s.port).gone ≡ s.port.gone
    by_some true = refl
    by_some false = refl

straight_offers : (s t : StraightState) (frame : Stamped) (result : Result Offered Stamped) → OffersStraight s frame result t → Keeps s t
straight_offers s t frame result h = by_there s.seat.is_there (is_none s.port.up) h
  where
    by_there : (there room : Bool)
        → MatchBool there (MatchBool room ((result ≡ Ok Held) × (t ≡ record { port = port.with_up s.port (Some (answering s frame)); seat = after_sent s.seat; asked = s.asked })) ((result ≡ Err frame) × (t ≡ s)))
        ((result ≡ Ok Dropped) × (t ≡ s)) → Keeps s t
    by_there true true d = eq_straight s t (record { port = port.with_up s.port (Some (answering s frame)); seat = after_sent s.seat; asked = s.asked }) d.1 refl
    by_there true false d = eq_straight s t s d.1 refl
    by_there false room d = eq_straight s t s d.1 refl

straight_plugs : (s t : StraightState) (result : Result (Unit {0}) PlugError) → PlugsStraight s result t → Keeps s t
straight_plugs s t (Ok done) h = ap (λ (x : StraightState). x.port.gone) h.1
straight_plugs s t (Err why) h = ap (λ (x : StraightState). x.port.gone) h.1

only_one : (m n : ℕ) → m < 1 → n < 1 → (m == n) ≡ false → ⊥
only_one m n less_m less_n off = eqb-false m n off (omega (arith, less_m, less_n))

straight_keeps : (s t : StraightState) (call : FanCall) (n : ℕ) → n < 1 → FanDoes (Device s) call (Device t) → ends_call (Device s) call n ≡ false → Keeps s t
straight_keeps s t (Plug m result) n less does off = by_port (nat_lt m 1) does
  where
    by_port : (b : Bool) → MatchBool b (PlugsStraight s result t) ((result ≡ Err NoPort) × (Device t ≡ Device s)) → Keeps s t
    by_port true d = straight_plugs s t result d
    by_port false d = same_straight s t d.1
straight_keeps s t (Pull m result) n less does off = by_port (nat_lt m 1) refl result does
  where
    by_port : (b : Bool) → nat_lt m 1 ≡ b → (r : Result (Unit {0}) NotThere) → MatchBool b (PullsStraight s r t) (MatchResult r (λ _. ⊥) (λ _. Device t ≡ Device s)) → Keeps s t
    by_port true is r d = absurd (only_one m n (ltb-true m 1 is) less off)
    by_port false is (Ok done) d = absurd d
    by_port false is (Err why) d = same_straight s t d
straight_keeps s t (Send frame result) n less does off = straight_sends s t frame result does
straight_keeps s t (GiveUp (Ok r)) n less does off = straight_ups s t r does
straight_keeps s t (GiveUp (Err why)) n less does off = absurd does
straight_keeps s t (GiveDown m result) n less does off = by_port (nat_lt m 1) does
  where
    by_port : (b : Bool) → MatchBool b (GivesDown s result t) ((result ≡ None) × (Device t ≡ Device s)) → Keeps s t
    by_port true d = straight_downs s t result d
    by_port false d = same_straight s t d.1
straight_keeps s t (Offer m frame result waits) n less does off = by_port (nat_lt m 1) does.0
  where
    by_port : (b : Bool) → MatchBool b (OffersStraight s frame result t) ((result ≡ Ok Dropped) × (Device t ≡ Device s)) → Keeps s t
    by_port true d = straight_offers s t frame result d
    by_port false d = same_straight s t d.1
straight_keeps s t (Tell result) n less does off = straight_tells s t result does

-- ---- each call, and each deed

call_keeps : (f g : FanOut) (call : FanCall) (n : ℕ) → n < port_count f → FanDoes f call g → ends_call f call n ≡ false → gone_at g n ≡ gone_at f n
call_keeps (Device s) (Device t) call n less does off = straight_keeps s t call n less does off
call_keeps (Device s) (Multiplier g) call n less does off = absurd (no_multiplier s g call does)
call_keeps (Multiplier f) (Device t) call n less does off = absurd (no_device f t call does)
call_keeps (Multiplier f) (Multiplier g) call n less does off = fan_keeps f g call n does off

pub over_keeps : (f g : FanOut) (call : FanCall) (n c : ℕ) → n < port_count f → FanDoes f call g → ends_call f call n ≡ false → is_over g n c ≡ is_over f n c
over_keeps f g call n c less does off = ap (λ (k : ℕ). port.is_up_to k c) (call_keeps f g call n less does off)

-- ---- what does end one

-- no device is there
none_there : (b : Bool) (o : Option ℕ) (last c : ℕ) → b ≡ false → o ≡ (if b then Some last else None) → o ≡ Some c → ⊥
none_there true o last c free is present = true≢false free
none_there false o last c free is present = none_some c (sym is ∙ present)
  where
    some_there : Option ℕ → Bool
    some_there None = false
    some_there (Some k) = true

    none_some : (k : ℕ) → None ≡ Some k → ⊥
    none_some k e = false≢true (ap some_there e)

pub fan_ends : (f g : FanState) (n c : ℕ) (r : Result (Unit {0}) NotThere) → IsFan f → n < f.multiplier.registers.ports → (port_at f.multiplier n).present ≡ Some c → PullsFan f n r g
    → port.is_gone (port_at g.multiplier n) c ≡ true
fan_ends f g n c (Ok done) is less present h =
    let most : f.multiplier.registers.ports ≤ 15 = is.sound.registers.ports in
    let room : length f.multiplier.ports ≡ 15 = is.sound.room in
    let last : c ≡ (seat_at f n).last = (is.sound.ports n).sound.last c present ∙ is.last n in
    let some : 0 < c = (is.sound.ports n).sound.counted c present in
    ap (λ (k : FanState). port.is_up_to (gone_of k n) c) h.1
    ∙ ap (λ (p : port.PortState). port.is_up_to p.gone c) (this_port f.multiplier.ports n (port.with_removal (port_at f.multiplier n) (seat_at f n).last) (omega (arith, room, less, most)))
    ∙ up_to (seat_at f n).last c some (omega (arith, last))
fan_ends f g n c (Err why) is less present h = absurd (none_there (seat_at f n).is_there (port_at f.multiplier n).present (seat_at f n).last c h.0 (is.present n) present)

pub straight_ends : (s t : StraightState) (c : ℕ) (r : Result (Unit {0}) NotThere) → IsSoundEnd (Device s) → s.port.present ≡ Some c → PullsStraight s r t → port.is_gone t.port c ≡ true
straight_ends s t c (Ok done) sound present h =
    let last : c ≡ s.seat.last = sound.1.last c present ∙ sound.0.last in
    ap (λ (x : StraightState). port.is_up_to x.port.gone c) h.1 ∙ up_to s.seat.last c (sound.1.counted c present) (omega (arith, last))
straight_ends s t c (Err why) sound present h = absurd (none_there s.seat.is_there s.port.present s.seat.last c h.0 sound.0.present present)

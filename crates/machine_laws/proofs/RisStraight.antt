-- FISes pass the link of one device in order.
use Rattle.std.proofs.Common.{◌≡◌, ℕ, ◌<◌, ◌≤◌, ◌==◌, Bool, true, false, not, List, [], ◌∷◌, ◌++◌, append_assoc, Option, Some, None, Result, Ok, Err}
use Rattle.std.proofs.{Common.{refl, sym, ap, ◌∙◌, subst, arith}, lemmas.{Bool.{eqb-true, true≢false, false≢true}, List.{append-nil}, Nat.mod_below}}
use Rattle.std.proofs.lemmas.Option.{same_Some}
use Rattle.std.specs.{Prelude.{if◌then◌else◌, ◌&&◌, nat_lt, is_none, is_some, slice_index, MatchOption, MatchResult}, Bool.MatchBool}
use Rattle.std.specs.Option.{option_to_list}
use Rattle.fis_view.specs.Frames.{Stamped}
use Rattle.pm_ports.specs.Port as port
use Rattle.pm_ports.specs.declared.port.Offered.{Offered, TheVariants.{Held, Dropped}}
use Rattle.multiplier.specs.{Passing.of_conn, State.pm_port, declared.multiplier.{Passed.Passed, PmRefusal.PmRefusal}}
use Rattle.multiplier.specs.declared.multiplier.Passed.TheVariants as passed
use Rattle.multiplier.specs.declared.multiplier.PmRefusal.TheVariants as refusal
use Rattle.multiplier.proofs.Door.{still_up_to, up_to_is}
use Rattle.fan_out.specs.{Calls.{FanCall, Plug, Pull, Send, GiveUp, GiveDown, Offer, Tell, Does, given, given_by}, Fans.FanState, Seats.after_sent}
use Rattle.fan_out.specs.{Seats.{connection, next_connection, plug_refusal, told}, Straights.{GivesDown, GivesUp, OffersStraight, PlugsStraight}}
use Rattle.fan_out.specs.Straights.{PullsStraight, SendsStraight, StraightState, TellsStraight, addressed, answering, joined, on_port}
use Rattle.fan_out.specs.{Straights.{opening_straight, parted, pointed, renewed}, declared.fan_out.FanOut.{FanOut, TheVariants.{Device, Multiplier}}}
use Rattle.fan_out.specs.declared.seat.{NotThere.NotThere, PlugError.{PlugError, TheVariants.{AlreadyThere, NoPort, Spent}}, Seat.Seat}
use Rattle.machine_laws.specs.Rising.{IsSoundEnd, Sends, sent_call}
use Rattle.machine_laws.proofs.RisFan.{Passage, Through, two}

-- ---- what a call leaves of a device's link

-- a frame that waits, of a connection
abbrev waits : ℕ → ℕ → StraightState → List Stamped
waits n c s = of_conn n c (option_to_list s.port.up)

record DevStep (s t : StraightState) (gives sent : List Stamped) : Type 0 where
  sound : IsSoundEnd (Device t)
  up : (n c : ℕ) → Passage n c (Device s) gives sent (Device t)
  -- of a connection that is over nothing is given, and nothing is sent
  over : (n c : ℕ) → port.is_gone s.port c ≡ true → (of_conn n c gives ≡ []) × (of_conn n c sent ≡ [])
  more : (c : ℕ) → port.is_gone s.port c ≡ true → port.is_gone t.port c ≡ true

stays : (s t : StraightState) → IsSoundEnd (Device t) → t.port.up ≡ s.port.up → t.port.gone ≡ s.port.gone → DevStep s t [] []
stays s t sound up gone = record {
  sound = sound;
  up = λ n c. record { dropped = []; order = ap (λ (o : Option Stamped). of_conn n c (option_to_list o) ++ []) up; whole = λ no. refl };
  over = λ n c is. (refl, refl);
  more = λ c is. ap (λ (g : ℕ). port.is_up_to g c) gone ∙ is;
}

same : (s t : StraightState) → IsSoundEnd (Device s) → t ≡ s → DevStep s t [] []
same s t sound is = subst (λ (x : StraightState). DevStep s x [] []) (sym is) (stays s s sound refl refl)

same_end : (s t : StraightState) → IsSoundEnd (Device s) → Device t ≡ Device s → DevStep s t [] []
same_end s t sound is = same s t sound (ap (straight_of s) is)
  where
    straight_of : StraightState → FanOut → StraightState
    straight_of u (Device v) = v
    straight_of u (Multiplier f) = u

-- who is there stays
keeps_sound : (s t : StraightState) → IsSoundEnd (Device s) → t.port.present ≡ s.port.present → t.port.last ≡ s.port.last → t.port.gone ≡ s.port.gone
    → connection t.seat ≡ connection s.seat → t.seat.last ≡ s.seat.last → t.asked < 16 → IsSoundEnd (Device t)
keeps_sound s t sound present last gone seat seat_last asked = (
  record { present = present ∙ sound.0.present ∙ sym seat; last = last ∙ sound.0.last ∙ sym seat_last; asked = asked },
  record {
    counted = λ c is. sound.1.counted c (sym present ∙ is);
    last = λ c is. sound.1.last c (sym present ∙ is) ∙ sym last;
    above = λ c is. subst (λ (g : ℕ). g < c) (sym gone) (sound.1.above c (sym present ∙ is));
    away = λ is. gone ∙ sound.1.away (sym present ∙ is) ∙ sym last;
  },
)

-- ---- who comes and goes

not_there : (seat : Seat) → None ≡ plug_refusal seat → seat.is_there ≡ false
not_there seat is = by_there seat.is_there is
  where
    by_there : (b : Bool) → None ≡ (if b then Some AlreadyThere else if seat.last == 4294967295 then Some Spent else None) → b ≡ false
    by_there true e = absurd cc
    by_there false e = refl

nobody : (s : StraightState) → IsSoundEnd (Device s) → s.seat.is_there ≡ false → s.port.gone ≡ s.seat.last
nobody s sound free = sound.1.away (sound.0.present ∙ ap (λ (b : Bool). if b then Some s.seat.last else None) free) ∙ sound.0.last

there_is : (s : StraightState) → IsSoundEnd (Device s) → s.seat.is_there ≡ true → s.port.present ≡ Some s.seat.last
there_is s sound there = sound.0.present ∙ ap (λ (b : Bool). if b then Some s.seat.last else None) there

-- a connection that comes is above all that are gone
joined_sound : (s : StraightState) (conn : ℕ) → s.port.gone < conn → IsSoundEnd (Device (joined s conn))
joined_sound s conn later = (
  record { present = refl; last = refl; asked = omega arith },
  record {
    counted = λ c is. let here : conn ≡ c = same_Some conn c is in omega (arith, here, later);
    last = λ c is. sym (same_Some conn c is);
    above = λ c is. subst (λ (k : ℕ). s.port.gone < k) (same_Some conn c is) later;
    away = λ is. absurd cc;
  },
)

plugs : (s t : StraightState) (result : Result (Unit {0}) PlugError) → IsSoundEnd (Device s) → PlugsStraight s result t → DevStep s t [] []
plugs s t (Ok done) sound h =
    let gone : s.port.gone ≡ s.seat.last = nobody s sound (not_there s.seat h.0) in
    subst (λ (x : StraightState). DevStep s x [] []) (sym h.1)
    (stays s (joined s (next_connection s.seat)) (joined_sound s (next_connection s.seat) (omega (arith, gone))) refl refl)
plugs s t (Err why) sound h = same s t sound h.1

parted_sound : (s : StraightState) → IsSoundEnd (Device s) → IsSoundEnd (Device (parted s))
parted_sound s sound = (
  record { present = refl; last = sound.0.last; asked = sound.0.asked },
  record { counted = λ c is. absurd cc; last = λ c is. absurd cc; above = λ c is. absurd cc; away = λ is. sym sound.0.last },
)

-- a frame of another connection
none_of : (n c : ℕ) (frame : Stamped) → (frame.stamp.conn ≡ c → ⊥) → of_conn n c (frame ∷ []) ≡ []
none_of n c frame other = by_test (frame.stamp.port == n) (frame.stamp.conn == c) refl
  where
    by_test : (a b : Bool) → (frame.stamp.conn == c) ≡ b → (if a && b then frame ∷ [] else []) ≡ []
    by_test true true is = absurd (other (eqb-true frame.stamp.conn c is))
    by_test true false is = refl
    by_test false b is = refl

-- what is left in its place, and what is dropped
record Leaves (highest n c : ℕ) (now was : Option Stamped) : Type 0 where
  dropped : List Stamped
  order : of_conn n c (option_to_list now) ++ dropped ≡ of_conn n c (option_to_list was) ++ []
  whole : port.is_up_to highest c ≡ false → dropped ≡ []

leaves : (highest n c : ℕ) (was : Option Stamped) → Leaves highest n c (port.left_in highest was) was
leaves highest n c None = record { dropped = []; order = refl; whole = λ no. refl }
leaves highest n c (Some frame) = by_test (port.is_up_to highest frame.stamp.conn) refl
  where
    by_test : (b : Bool) → port.is_up_to highest frame.stamp.conn ≡ b → Leaves highest n c (port.only_if (not b) frame) (Some frame)
    by_test true is = record {
      dropped = of_conn n c (frame ∷ []);
      order = sym (append-nil (of_conn n c (frame ∷ [])));
      whole = λ no. none_of n c frame (λ here. true≢false (sym is ∙ ap (port.is_up_to highest) here ∙ no));
    }
    by_test false is = record { dropped = []; order = refl; whole = λ no. refl }

pulls : (s t : StraightState) (result : Result (Unit {0}) NotThere) → IsSoundEnd (Device s) → PullsStraight s result t → DevStep s t [] []
pulls s t (Ok done) sound h = subst (λ (x : StraightState). DevStep s x [] []) (sym h.1) (record {
  sound = parted_sound s sound;
  up = λ n c. let l = leaves s.seat.last n c s.port.up in record { dropped = l.dropped; order = l.order; whole = l.whole };
  over = λ n c is. (refl, refl);
  more = λ c is.
      let below : s.port.gone < s.seat.last = sound.1.above s.seat.last (there_is s sound h.0) in
      still_up_to s.port.gone s.seat.last c (omega (arith, below)) is;
})
pulls s t (Err why) sound h = same s t sound h.1

-- ---- to the device

sends : (s t : StraightState) (frame : Stamped) (result : Result Passed (Stamped × PmRefusal)) → IsSoundEnd (Device s) → SendsStraight s frame result t → DevStep s t [] []
sends s t frame result sound h = by_there s.seat.is_there (is_some s.port.down) h
  where
    holds : StraightState
    holds = on_port s (port.with_down s.port (Some (addressed s.seat.last frame)))

    by_there : (there full : Bool)
        → MatchBool there (MatchBool full ((result ≡ Err (frame, refusal.HoldFull)) × (t ≡ s)) ((result ≡ Ok (passed.Down 0)) × (t ≡ holds))) ((result ≡ Ok passed.Dropped) × (t ≡ s)) → DevStep s t [] []
    by_there true true d = same s t sound d.1
    by_there true false d = subst (λ (x : StraightState). DevStep s x [] []) (sym d.1) (stays s holds (keeps_sound s holds sound refl refl refl refl refl sound.0.asked) refl refl)
    by_there false full d = same s t sound d.1

gives_down : (s t : StraightState) (result : Option Stamped) → IsSoundEnd (Device s) → GivesDown s result t → DevStep s t [] []
gives_down s t result sound h = by_down s.port.down h
  where
    gave : Stamped → StraightState
    gave frame = record { port = port.with_down s.port None; seat = s.seat; asked = pm_port frame }

    by_down : (o : Option Stamped) → MatchOption o ((result ≡ None) × (t ≡ s)) (λ frame. (result ≡ Some (pointed 0 frame)) × (t ≡ gave frame)) → DevStep s t [] []
    by_down None d = same s t sound d.1
    by_down (Some frame) d =
        subst (λ (x : StraightState). DevStep s x [] []) (sym d.1)
        (stays s (gave frame) (keeps_sound s (gave frame) sound refl refl refl refl refl (mod_below (slice_index frame.bytes 1) 16 (omega arith))) refl refl)

tells : (s t : StraightState) (result : Option ℕ) → IsSoundEnd (Device s) → TellsStraight s result t → DevStep s t [] []
tells s t result sound h = by_begun s.seat.begun h
  where
    says : StraightState
    says = record { port = s.port; seat = told s.seat; asked = s.asked }

    by_begun : (b : Bool) → MatchBool b ((result ≡ Some 0) × (t ≡ says)) ((result ≡ None) × (t ≡ s)) → DevStep s t [] []
    by_begun true d = subst (λ (x : StraightState). DevStep s x [] []) (sym d.1) (stays s says (keeps_sound s says sound refl refl refl refl refl sound.0.asked) refl refl)
    by_begun false d = same s t sound d.1

-- ---- to the host

-- a frame of the connection that is there is not of one that is over
not_over : (s : StraightState) (conn n c : ℕ) (frame : Stamped) → IsSoundEnd (Device s) → s.port.present ≡ Some conn → frame.stamp.conn ≡ conn → port.is_gone s.port c ≡ true
    → of_conn n c (frame ∷ []) ≡ []
not_over s conn n c frame sound present its gone =
    none_of n c frame (λ here.
    let above : s.port.gone < conn = sound.1.above conn present in
    let most : c ≤ s.port.gone = (up_to_is s.port.gone c gone).1 in
    let same_conn : c ≡ conn = sym here ∙ its in
    omega (arith, above, most, same_conn))

of_present : (s : StraightState) (n c : ℕ) (frame : Stamped) (o : Option ℕ) → IsSoundEnd (Device s) → s.port.present ≡ o → port.is_of_present o frame ≡ true → port.is_gone s.port c ≡ true
    → of_conn n c (frame ∷ []) ≡ []
of_present s n c frame None sound present is gone = absurd (false≢true is)
of_present s n c frame (Some conn) sound present is gone = not_over s conn n c frame sound present (eqb-true frame.stamp.conn conn is) gone

abbrev GivesStep : StraightState → StraightState → Option Stamped → Type 0
GivesStep s t r = DevStep s t (given_by (GiveUp (Ok r))) []

nothing_up : (s t : StraightState) (r : Option Stamped) → IsSoundEnd (Device s) → r ≡ None → t ≡ on_port s (if is_some r then port.with_up s.port None else s.port) → GivesStep s t r
nothing_up s t r sound none is =
    subst (GivesStep s t) (sym none)
    (subst (λ (x : StraightState). DevStep s x [] []) (sym (is ∙ ap (λ (o : Option Stamped). on_port s (if is_some o then port.with_up s.port None else s.port)) none))
    (stays s (on_port s s.port) (keeps_sound s (on_port s s.port) sound refl refl refl refl refl sound.0.asked) refl refl))

goes_up : (s t : StraightState) (r : Option Stamped) (frame : Stamped) → IsSoundEnd (Device s) → s.port.up ≡ Some frame → port.is_of_present s.port.present frame ≡ true → r ≡ Some frame
    → t ≡ on_port s (if is_some r then port.with_up s.port None else s.port) → GivesStep s t r
goes_up s t r frame sound here own given_it is =
    subst (GivesStep s t) (sym given_it)
    (subst (λ (x : StraightState). DevStep s x (frame ∷ []) []) (sym (is ∙ ap (λ (o : Option Stamped). on_port s (if is_some o then port.with_up s.port None else s.port)) given_it)) (record {
      sound = keeps_sound s gone_up sound refl refl refl refl refl sound.0.asked;
      up = λ n c. record {
        dropped = [];
        order = ap (λ (l : List Stamped). l ++ []) (append-nil (of_conn n c (frame ∷ [])) ∙ ap (λ (o : Option Stamped). of_conn n c (option_to_list o)) (sym here));
        whole = λ no. refl;
      };
      over = λ n c is_gone. (of_present s n c frame s.port.present sound refl own is_gone, refl);
      more = λ c is_gone. is_gone;
    }))
  where
    gone_up : StraightState
    gone_up = on_port s (port.with_up s.port None)

gives_up : (s t : StraightState) (r : Option Stamped) → IsSoundEnd (Device s) → GivesUp s r t → GivesStep s t r
gives_up s t r sound h = by_up s.port.up refl h.0
  where
    by_own : (frame : Stamped) → s.port.up ≡ Some frame → (b : Bool) → port.is_of_present s.port.present frame ≡ b → r ≡ port.only_if (true && b) frame → GivesStep s t r
    by_own frame here true own is = goes_up s t r frame sound here own is h.1
    by_own frame here false own is = nothing_up s t r sound is h.1

    by_up : (o : Option Stamped) → s.port.up ≡ o → r ≡ port.rises true s.port.present o → GivesStep s t r
    by_up None here is = nothing_up s t r sound is h.1
    by_up (Some frame) here is = by_own frame here (port.is_of_present s.port.present frame) refl is

abbrev OfferStep : StraightState → StraightState → ℕ → Stamped → Option Stamped → Result Offered Stamped → Type 0
OfferStep s t n frame waits_now result = DevStep s t [] (sent_call (Device s) (Offer n frame result waits_now))

none_up : (o : Option Stamped) → is_none o ≡ true → o ≡ None
none_up None e = refl
none_up (Some frame) e = absurd (false≢true e)

holds_it : (s t : StraightState) (frame : Stamped) → IsSoundEnd (Device s) → s.seat.is_there ≡ true → is_none s.port.up ≡ true
    → t ≡ record { port = port.with_up s.port (Some (answering s frame)); seat = after_sent s.seat; asked = s.asked } → DevStep s t [] (answering s frame ∷ [])
holds_it s t frame sound there empty is =
    subst (λ (x : StraightState). DevStep s x [] (answering s frame ∷ [])) (sym is) (record {
      sound = keeps_sound s holds sound refl refl refl refl refl sound.0.asked;
      up = λ n c. record {
        dropped = [];
        order = append-nil (of_conn n c (answering s frame ∷ [])) ∙ ap (λ (o : Option Stamped). of_conn n c (option_to_list o) ++ of_conn n c (answering s frame ∷ [])) (sym (none_up s.port.up empty));
        whole = λ no. refl;
      };
      over = λ n c gone. (refl, not_over s s.seat.last n c (answering s frame) sound (there_is s sound there) refl gone);
      more = λ c gone. gone;
    })
  where
    holds : StraightState
    holds = record { port = port.with_up s.port (Some (answering s frame)); seat = after_sent s.seat; asked = s.asked }

takes : (s t : StraightState) (n : ℕ) (frame : Stamped) (waits_now : Option Stamped) (result : Result Offered Stamped) → IsSoundEnd (Device s) → OffersStraight s frame result t → OfferStep s t n frame waits_now result
takes s t n frame waits_now result sound h = by_there s.seat.is_there (is_none s.port.up) refl refl h
  where
    by_there : (there room : Bool) → s.seat.is_there ≡ there → is_none s.port.up ≡ room
        → MatchBool there (MatchBool room ((result ≡ Ok Held) × (t ≡ record { port = port.with_up s.port (Some (answering s frame)); seat = after_sent s.seat; asked = s.asked })) ((result ≡ Err frame) × (t ≡ s)))
        ((result ≡ Ok Dropped) × (t ≡ s)) → OfferStep s t n frame waits_now result
    by_there true true is_there room d = subst (OfferStep s t n frame waits_now) (sym d.0) (holds_it s t frame sound is_there room d.1)
    by_there true false is_there room d = subst (OfferStep s t n frame waits_now) (sym d.0) (same s t sound d.1)
    by_there false room is_there is_room d = subst (OfferStep s t n frame waits_now) (sym d.0) (same s t sound d.1)

-- ---- each call

one_call : (s t : StraightState) (call : FanCall) → IsSoundEnd (Device s) → Does (Device s) call (Device t) → DevStep s t (given_by call) (sent_call (Device s) call)
one_call s t (Plug n result) sound does = by_port (nat_lt n 1) does
  where
    by_port : (b : Bool) → MatchBool b (PlugsStraight s result t) ((result ≡ Err NoPort) × (Device t ≡ Device s)) → DevStep s t [] []
    by_port true d = plugs s t result sound d
    by_port false d = same_end s t sound d.1
one_call s t (Pull n result) sound does = by_port (nat_lt n 1) result does
  where
    by_port : (b : Bool) (r : Result (Unit {0}) NotThere) → MatchBool b (PullsStraight s r t) (MatchResult r (λ _. ⊥) (λ _. Device t ≡ Device s)) → DevStep s t [] []
    by_port true r d = pulls s t r sound d
    by_port false (Ok done) d = absurd d
    by_port false (Err why) d = same_end s t sound d
one_call s t (Send frame result) sound does = sends s t frame result sound does
one_call s t (GiveUp (Ok r)) sound does = gives_up s t r sound does
one_call s t (GiveUp (Err why)) sound does = absurd does
one_call s t (GiveDown n result) sound does = by_port (nat_lt n 1) does
  where
    by_port : (b : Bool) → MatchBool b (GivesDown s result t) ((result ≡ None) × (Device t ≡ Device s)) → DevStep s t [] []
    by_port true d = gives_down s t result sound d
    by_port false d = same_end s t sound d.1
one_call s t (Offer n frame result waits_now) sound does = by_port (nat_lt n 1) does.0
  where
    by_port : (b : Bool) → MatchBool b (OffersStraight s frame result t) ((result ≡ Ok Dropped) × (Device t ≡ Device s)) → OfferStep s t n frame waits_now result
    by_port true d = takes s t n frame waits_now result sound d
    by_port false d = subst (OfferStep s t n frame waits_now) (sym d.0) (same_end s t sound d.1)
one_call s t (Tell result) sound does = tells s t result sound does

-- ---- one after another

joins : (g1 g2 u t d2 h s1 s2 : List Stamped) → g1 ++ u ≡ h ++ s1 → g2 ++ t ++ d2 ≡ u ++ s2 → (g1 ++ g2) ++ t ++ d2 ≡ h ++ (s1 ++ s2)
joins g1 g2 u t d2 h s1 s2 first next =
    ap (λ (l : List Stamped). l ++ d2) (append_assoc g1 g2 t)
    ∙ append_assoc g1 (g2 ++ t) d2
    ∙ ap (λ (l : List Stamped). g1 ++ l) next
    ∙ sym (append_assoc g1 u s2)
    ∙ ap (λ (l : List Stamped). l ++ s2) first
    ∙ append_assoc h s1 s2

joins_over : (g1 g2 u t d1 d2 h s1 s2 : List Stamped) → g1 ++ u ++ d1 ≡ h ++ s1 → g2 ++ t ++ d2 ≡ u ++ s2 → s2 ≡ [] → (g1 ++ g2) ++ t ++ (d2 ++ d1) ≡ h ++ (s1 ++ s2)
joins_over g1 g2 u t d1 d2 h s1 s2 first next none =
    sym (append_assoc ((g1 ++ g2) ++ t) d2 d1)
    ∙ ap (λ (l : List Stamped). l ++ d1)
    (ap (λ (l : List Stamped). l ++ d2) (append_assoc g1 g2 t) ∙ append_assoc g1 (g2 ++ t) d2
    ∙ ap (λ (l : List Stamped). g1 ++ l) (next ∙ ap (λ (l : List Stamped). u ++ l) none ∙ append-nil u))
    ∙ first
    ∙ ap (λ (l : List Stamped). h ++ l) (sym (append-nil s1) ∙ ap (λ (l : List Stamped). s1 ++ l) (sym none))

then_step : (s u t : StraightState) (g1 g2 s1 s2 : List Stamped) → DevStep s u g1 s1 → DevStep u t g2 s2 → DevStep s t (g1 ++ g2) (s1 ++ s2)
then_step s u t g1 g2 s1 s2 first next = record {
  sound = next.sound;
  up = λ n c. by_gone n c (port.is_gone u.port c) refl;
  over = λ n c is.
      let a = first.over n c is in
      let b = next.over n c (first.more c is) in
      (two n c g1 g2 ∙ (λ i. a.0 i ++ b.0 i), two n c s1 s2 ∙ (λ i. a.1 i ++ b.1 i));
  more = λ c is. next.more c (first.more c is);
}
  where
    whole_order : (n c : ℕ) (d : List Stamped) → of_conn n c g1 ++ of_conn n c g2 ++ waits n c t ++ d ≡ waits n c s ++ (of_conn n c s1 ++ of_conn n c s2)
        → of_conn n c (g1 ++ g2) ++ waits n c t ++ d ≡ waits n c s ++ of_conn n c (s1 ++ s2)
    whole_order n c d is =
        ap (λ (l : List Stamped). l ++ waits n c t ++ d) (two n c g1 g2) ∙ is ∙ ap (λ (l : List Stamped). waits n c s ++ l) (sym (two n c s1 s2))

    by_gone : (n c : ℕ) (b : Bool) → port.is_gone u.port c ≡ b → Passage n c (Device s) (g1 ++ g2) (s1 ++ s2) (Device t)
    by_gone n c true is = let a = first.up n c in let b = next.up n c in record {
      dropped = b.dropped ++ a.dropped;
      order = whole_order n c (b.dropped ++ a.dropped)
          (joins_over (of_conn n c g1) (of_conn n c g2) (waits n c u) (waits n c t) a.dropped b.dropped (waits n c s) (of_conn n c s1) (of_conn n c s2) a.order b.order (next.over n c is).1);
      whole = λ no. absurd (true≢false (sym (next.more c is) ∙ no));
    }
    by_gone n c false is = let a = first.up n c in let b = next.up n c in record {
      dropped = b.dropped;
      order = whole_order n c b.dropped
          (joins (of_conn n c g1) (of_conn n c g2) (waits n c u) (waits n c t) b.dropped (waits n c s) (of_conn n c s1) (of_conn n c s2)
          (sym (append-nil (of_conn n c g1 ++ waits n c u)) ∙ ap (λ (l : List Stamped). of_conn n c g1 ++ waits n c u ++ l) (sym (a.whole is)) ∙ a.order) b.order);
      whole = b.whole;
    }

-- ---- a device stays one

abbrev is_device : FanOut → Bool
is_device (Device s) = true
is_device (Multiplier f) = false

never : (s : StraightState) (f : FanState) → Multiplier f ≡ Device s → ⊥
never s f e = false≢true (ap is_device e)

pub no_multiplier : (s : StraightState) (f : FanState) (call : FanCall) → Does (Device s) call (Multiplier f) → ⊥
no_multiplier s f (Plug n result) does = by_port (nat_lt n 1) does
  where
    by_port : (b : Bool) → MatchBool b ⊥ ((result ≡ Err NoPort) × (Multiplier f ≡ Device s)) → ⊥
    by_port true d = d
    by_port false d = never s f d.1
no_multiplier s f (Pull n result) does = by_port (nat_lt n 1) result does
  where
    by_port : (b : Bool) (r : Result (Unit {0}) NotThere) → MatchBool b ⊥ (MatchResult r (λ _. ⊥) (λ _. Multiplier f ≡ Device s)) → ⊥
    by_port true r d = d
    by_port false (Ok done) d = d
    by_port false (Err why) d = never s f d
no_multiplier s f (Send frame result) does = does
no_multiplier s f (GiveUp result) does = does
no_multiplier s f (GiveDown n result) does = by_port (nat_lt n 1) does
  where
    by_port : (b : Bool) → MatchBool b ⊥ ((result ≡ None) × (Multiplier f ≡ Device s)) → ⊥
    by_port true d = d
    by_port false d = never s f d.1
no_multiplier s f (Offer n frame result waits_now) does = by_port (nat_lt n 1) does.0
  where
    by_port : (b : Bool) → MatchBool b ⊥ ((result ≡ Ok Dropped) × (Multiplier f ≡ Device s)) → ⊥
    by_port true d = d
    by_port false d = never s f d.1
no_multiplier s f (Tell result) does = does

all_calls : (s t : StraightState) (calls : List FanCall) (sent : List Stamped) → IsSoundEnd (Device s) → Sends (Device s) calls sent (Device t) → DevStep s t (given calls) sent
all_calls s t [] sent sound h = subst (DevStep s t []) (sym h.1) (same_end s t sound h.0)
all_calls s t (call ∷ calls) sent sound h = by_mid h.0 h.1 h.2.0 h.2.1 h.2.2 (λ u is later rest. all_calls u t calls later is rest)
  where
    by_mid : (mid : FanOut) → Does (Device s) call mid → (later : List Stamped) → sent ≡ sent_call (Device s) call ++ later → Sends mid calls later (Device t)
        → ((u : StraightState) → IsSoundEnd (Device u) → (rest : List Stamped) → Sends (Device u) calls rest (Device t) → DevStep u t (given calls) rest) → DevStep s t (given (call ∷ calls)) sent
    by_mid (Device u) first later is rest next =
        let one : DevStep s u (given_by call) (sent_call (Device s) call) = one_call s u call sound first in
        subst (DevStep s t (given (call ∷ calls))) (sym is) (then_step s u t (given_by call) (given calls) (sent_call (Device s) call) later one (next u one.sound later rest))
    by_mid (Multiplier f) first later is rest next = absurd (no_multiplier s f call first)

pub straight_through : (s t : StraightState) (calls : List FanCall) (sent : List Stamped) → IsSoundEnd (Device s) → Sends (Device s) calls sent (Device t) → Through (Device s) (given calls) sent (Device t)
straight_through s t calls sent sound h =
    let all : DevStep s t (given calls) sent = all_calls s t calls sent sound h in
    record { sound = all.sound; up = λ n c less. all.up n c; over = λ n c less is. (all.over n c is).0 }

-- whatever its stamp says
pub straight_all : (s t : StraightState) (calls : List FanCall) (sent : List Stamped) → IsSoundEnd (Device s) → Sends (Device s) calls sent (Device t) → (n c : ℕ) → Passage n c (Device s) (given calls) sent (Device t)
straight_all s t calls sent sound h n c = (all_calls s t calls sent sound h).up n c

-- ---- new ones

pub opening_sound : IsSoundEnd (Device opening_straight)
opening_sound = (
  record { present = refl; last = refl; asked = omega arith },
  record { counted = λ c is. absurd cc; last = λ c is. absurd cc; above = λ c is. absurd cc; away = λ is. refl },
)

pub renewed_sound : (s : StraightState) → IsSoundEnd (Device (renewed s))
renewed_sound s = by_there s.seat.is_there
  where
    by_there : (b : Bool) → IsSoundEnd (Device (if b then joined opening_straight 1 else opening_straight))
    by_there true = joined_sound opening_straight 1 (omega arith)
    by_there false = opening_sound

pub renewed_none : (s : StraightState) → (renewed s).port.up ≡ None
renewed_none s = by_there s.seat.is_there
  where
    by_there : (b : Bool) → (if b then joined opening_straight 1 else opening_straight).port.up ≡ None
    by_there true = refl
    by_there false = refl

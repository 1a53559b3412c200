-- Where nothing passes, what is behind the controller stays.
use Rattle.std.proofs.{Common.{◌≡◌, ℕ, Bool, true, false, Option, None, Some, Result, Ok, Err, refl, ap, ◌∙◌, subst}, lemmas.Bool.and_parts}
use Rattle.std.specs.{Prelude.{is_some, MatchOption, if◌then◌else◌, ◌==◌, ◌&&◌, nat_lt}, Bool.MatchBool, declared.alloc.AllocError.AllocError}
use Rattle.multiplier.specs.{declared.multiplier.Passed.Passed, Rules.{ToControl, ToDevice, ToNobody, ToPort}, State.{PmState, passes_to, pm_port}}
use Rattle.multiplier.specs.{Arbiter.control_port, declared.multiplier.PmRefusal.PmRefusal}
use Rattle.fis_view.specs.Frames.{Stamped}
use Rattle.fan_out.specs.{FanOuts.{GivesDownThere, GivesDownAt, GivesUpThere, Sends, has_port}, Fans.{FanState, held_in_reset, heeded, is_in_reset}}
use Rattle.fan_out.specs.{Fans.{on, only_in_reset, controlled}, Straights.{StraightState, addressed, on_port, pointed}}
use Rattle.fan_out.specs.declared.fan_out.FanOut.{FanOut, TheVariants.{Device, Multiplier}}
use Rattle.pm_ports.specs.Port.{with_down}
use Rattle.multiplier.specs.declared.multiplier.Passed.TheVariants as passed
use Rattle.multiplier.specs.declared.multiplier.PmRefusal.TheVariants as refusal

-- ---- nothing goes up

pub none_up : (old new : FanOut) → GivesUpThere old (Ok None) new → new ≡ old
none_up (Device s) (Device t) h = ap Device h.1
none_up (Device s) (Multiplier g) h = absurd h
none_up (Multiplier f) (Device t) h = absurd h
none_up (Multiplier f) (Multiplier g) h = ap Multiplier (h.2 ∙ ap (on f) h.0.1)

pub refused_up : (old new : FanOut) (e : AllocError) → GivesUpThere old (Err e) new → new ≡ old
refused_up (Device s) (Device t) e h = absurd h
refused_up (Device s) (Multiplier g) e h = absurd h
refused_up (Multiplier f) (Device t) e h = absurd h
refused_up (Multiplier f) (Multiplier g) e h = ap Multiplier (h.2 ∙ ap (on f) h.0.2)

-- ---- a frame is given back

to_port : (old new : PmState) (o : Option ℕ) (n : ℕ) (frame : Stamped) (given : Stamped × PmRefusal) → MatchOption o (ToNobody old (Err given) new) (λ conn. ToDevice old n conn frame (Err given) new) → (given.0 ≡ frame) × (new ≡ old)
to_port old new None n frame given h = absurd h
to_port old new (Some conn) n frame given h = (h.1, h.2)

to_any : (old new : PmState) (b : Bool) (frame : Stamped) (given : Stamped × PmRefusal) → MatchBool b (ToControl old frame (Err given) new) (ToPort old frame (Err given) new) → (given.0 ≡ frame) × (new ≡ old)
to_any old new true frame given h = (h.1, h.2)
to_any old new false frame given h = to_port old new (passes_to old (pm_port frame)) (pm_port frame) frame given h

in_reset : (m : PmState) (n k : ℕ) (b : Bool) → (nat_lt n m.registers.ports && is_in_reset m n) ≡ b → (if b then Some n else None) ≡ Some k → is_in_reset m k ≡ true
in_reset m n k true is here =
    let same : n ≡ k = cc here in
    let parts = and_parts (nat_lt n m.registers.ports) (is_in_reset m n) is in
    subst (λ (j : ℕ). is_in_reset m j ≡ true) same parts.1
in_reset m n k false is here = cc

held_is : (m : PmState) (o : Option ℕ) (k : ℕ) → only_in_reset m o ≡ Some k → is_in_reset m k ≡ true
held_is m None k h = cc
held_is m (Some n) k h = in_reset m n k (nat_lt n m.registers.ports && is_in_reset m n) refl h

still_held : (f : FanState) (n : ℕ) (b : Bool) → is_in_reset f.multiplier n ≡ b → b ≡ true → (if b then f else heeded f n) ≡ f
still_held f n true is h = refl
still_held f n false is h = cc

unheeded : (f : FanState) (n : ℕ) → is_in_reset f.multiplier n ≡ true → heeded f n ≡ f
unheeded f n h = rw h refl

stays : (f g : FanState) (mid : PmState) (frame : Stamped) (o : Option ℕ) → held_in_reset f.multiplier frame ≡ o → mid ≡ f.multiplier → MatchOption o (g ≡ on f mid) (λ n. g ≡ heeded (on f mid) n) → g ≡ f
stays f g mid frame None is same h = h ∙ ap (on f) same
stays f g mid frame (Some n) is same h = h ∙ ap (λ (m : PmState). heeded (on f m) n) same ∙ unheeded f n (held_is f.multiplier (controlled frame.bytes) n is)

abbrev Answer : Type 0
Answer = Result Passed (Stamped × PmRefusal)

abbrev back : Stamped × PmRefusal → Answer
back given = Err given

abbrev passes : Passed → Answer
passes p = Ok p

by_room : (s t : StraightState) (full : Bool) (frame : Stamped) (given : Stamped × PmRefusal) (held : StraightState) → MatchBool full ((back given ≡ back (frame, refusal.HoldFull)) × (t ≡ s)) ((back given ≡ passes (passed.Down 0)) × (t ≡ held)) → (given.0 ≡ frame) × (t ≡ s)
by_room s t true frame given held h = (cc h.0, h.1)
by_room s t false frame given held h = cc h.0

by_there : (s t : StraightState) (there full : Bool) (frame : Stamped) (given : Stamped × PmRefusal) (held : StraightState) → MatchBool there (MatchBool full ((back given ≡ back (frame, refusal.HoldFull)) × (t ≡ s)) ((back given ≡ passes (passed.Down 0)) × (t ≡ held))) ((back given ≡ passes passed.Dropped) × (t ≡ s)) → (given.0 ≡ frame) × (t ≡ s)
by_there s t true full frame given held h = by_room s t full frame given held h
by_there s t false full frame given held h = cc h.0

pub sends_back : (old new : FanOut) (frame : Stamped) (given : Stamped × PmRefusal) → Sends old frame (Err given) new → (given.0 ≡ frame) × (new ≡ old)
sends_back (Device s) (Device t) frame given h = let d = by_there s t s.seat.is_there (is_some s.port.down) frame given (on_port s (with_down s.port (Some (addressed s.seat.last frame)))) h in (d.0, ap Device d.1)
sends_back (Device s) (Multiplier g) frame given h = absurd h
sends_back (Multiplier f) (Device t) frame given h = absurd h
sends_back (Multiplier f) (Multiplier g) frame given h =
    let given_back = to_any f.multiplier h.0 (pm_port frame == control_port) frame given h.1 in
    (given_back.0, ap Multiplier (stays f g h.0 frame (held_in_reset f.multiplier frame) refl given_back.1 h.3))

-- ---- nothing goes down

abbrev none : Option Stamped
none = None

down_from : (s t : StraightState) (o : Option Stamped) (was : Stamped → StraightState) → MatchOption o ((none ≡ None) × (t ≡ s)) (λ frame. (none ≡ Some (pointed 0 frame)) × (t ≡ was frame)) → t ≡ s
down_from s t None was h = h.1
down_from s t (Some frame) was h = cc h.0

down_at : (old new : FanOut) (n : ℕ) → GivesDownAt old n None new → new ≡ old
down_at (Device s) (Device t) n h = ap Device (down_from s t s.port.down (λ frame. record { port = with_down s.port None; seat = s.seat; asked = pm_port frame }) h)
down_at (Device s) (Multiplier g) n h = absurd h
down_at (Multiplier f) (Device t) n h = absurd h
down_at (Multiplier f) (Multiplier g) n h = ap Multiplier (h.2 ∙ ap (on f) h.0.1)

down_if : (old new : FanOut) (n : ℕ) (b : Bool) → MatchBool b (GivesDownAt old n None new) ((none ≡ None) × (new ≡ old)) → new ≡ old
down_if old new n true h = down_at old new n h
down_if old new n false h = h.1

pub none_down : (old new : FanOut) (n : ℕ) → GivesDownThere old n None new → new ≡ old
none_down old new n h = down_if old new n (has_port old n) h

-- FISes pass a multiplier in order, by its law.
use Rattle.std.proofs.Common.{◌≡◌, ℕ, ◌<◌, ◌≤◌, ◌==◌, Bool, true, false, List, [], ◌∷◌, ◌++◌, append_assoc, length, Option, Some, None, Result, Ok}
use Rattle.std.proofs.{Common.{Err, refl, sym, ap, ◌∙◌, subst, arith}, lemmas.{Bool.{eqb-true, ltb-true, true≢false, false≢true}, List.{append-nil}}}
use Rattle.std.proofs.lemmas.List.Elements.{filter-append}
use Rattle.std.specs.{Prelude.{if◌then◌else◌, ◌&&◌, nat_lt, is_none, MatchResult}, Bool.MatchBool}
use Rattle.fis_view.specs.Frames.{Stamped}
use Rattle.pm_ports.specs.Port as port
use Rattle.pm_ports.specs.declared.port.Offered.{Offered, TheVariants.{Held, Dropped}}
use Rattle.multiplier.specs.{Passing.{held_of, of_conn}, State.{port_at, rising}}
use Rattle.multiplier.proofs.Door.{this_port}
use Rattle.fan_out.specs.Calls.{FanCall, Plug, Pull, Send, GiveUp, GiveDown, Offer, Tell, Does, DoesAll, PassesInOrder, given, offered, offered_by}
use Rattle.fan_out.specs.{Fans.{FanState, IsFan, OffersFan, held_fan, seat_at, waiting}, Straights.StraightState, declared.fan_out.FanOut.FanOut}
use Rattle.fan_out.specs.declared.{fan_out.FanOut.TheVariants.{Device, Multiplier}, seat.{NotThere.NotThere, PlugError.TheVariants.NoPort}}
use Rattle.machine_laws.specs.Rising.{IsSoundEnd, Sends, held_at, is_multiplier, is_over, sent_call}

-- of a connection, what the host is given, and then what waits, is a beginning of what waited, and then of what was sent
pub record Passage (n c : ℕ) (f : FanOut) (gives sent : List Stamped) (g : FanOut) : Type 0 where
  pub dropped : List Stamped
  pub order : of_conn n c gives ++ held_at n c g ++ dropped ≡ held_at n c f ++ of_conn n c sent
  pub whole : is_over g n c ≡ false → dropped ≡ []

pub record Through (f : FanOut) (gives sent : List Stamped) (g : FanOut) : Type 0 where
  pub sound : IsSoundEnd g
  pub up : (n c : ℕ) → n < 15 → Passage n c f gives sent g
  pub over : (n c : ℕ) → n < 15 → is_over f n c ≡ true → of_conn n c gives ≡ []

pub two : (n c : ℕ) (xs ys : List Stamped) → of_conn n c (xs ++ ys) ≡ of_conn n c xs ++ of_conn n c ys
two n c xs ys = filter-append (λ (f : Stamped). f.stamp.port == n && f.stamp.conn == c) xs ys

-- ---- calls, and what was sent by them

pub all_calls : (f g : FanOut) (calls : List FanCall) (sent : List Stamped) → Sends f calls sent g → DoesAll f calls g
all_calls f g [] sent h = h.0
all_calls f g (call ∷ calls) sent h = (h.0, h.1, all_calls h.0 g calls h.2.0 h.2.2)

pub then_sends : (f g h : FanOut) (xs ys : List FanCall) (s t : List Stamped) → Sends f xs s g → Sends g ys t h → Sends f (xs ++ ys) (s ++ t) h
then_sends f g h [] ys s t first next =
    subst (λ (l : List Stamped). Sends f ys l h) (ap (λ (l : List Stamped). l ++ t) (sym first.1)) (subst (λ (e : FanOut). Sends e ys t h) first.0 next)
then_sends f g h (x ∷ xs) ys s t first next =
    (first.0, first.1, (first.2.0 ++ t, ap (λ (l : List Stamped). l ++ t) first.2.1 ∙ append_assoc (sent_call f x) first.2.0 t, then_sends first.0 g h xs ys first.2.0 t first.2.2 next))

-- ---- a multiplier stays one, and a device

never : (f : FanState) (s : StraightState) → Device s ≡ Multiplier f → ⊥
never f s e = false≢true (ap is_multiplier e)

pub no_device : (f : FanState) (s : StraightState) (call : FanCall) → Does (Multiplier f) call (Device s) → ⊥
no_device f s (Plug n result) does = by_port (nat_lt n f.multiplier.registers.ports) does
  where
    by_port : (b : Bool) → MatchBool b ⊥ ((result ≡ Err NoPort) × (Device s ≡ Multiplier f)) → ⊥
    by_port true d = d
    by_port false d = never f s d.1
no_device f s (Pull n result) does = by_port (nat_lt n f.multiplier.registers.ports) result does
  where
    by_port : (b : Bool) (r : Result (Unit {0}) NotThere) → MatchBool b ⊥ (MatchResult r (λ _. ⊥) (λ _. Device s ≡ Multiplier f)) → ⊥
    by_port true r d = d
    by_port false (Ok done) d = d
    by_port false (Err why) d = never f s d
no_device f s (Send frame result) does = does
no_device f s (GiveUp result) does = does
no_device f s (GiveDown n result) does = by_port (nat_lt n f.multiplier.registers.ports) does
  where
    by_port : (b : Bool) → MatchBool b ⊥ ((result ≡ None) × (Device s ≡ Multiplier f)) → ⊥
    by_port true d = d
    by_port false d = never f s d.1
no_device f s (Offer n frame result waits) does = by_port (nat_lt n f.multiplier.registers.ports) does.0
  where
    by_port : (b : Bool) → MatchBool b ⊥ ((result ≡ Ok Dropped) × (Device s ≡ Multiplier f)) → ⊥
    by_port true d = d
    by_port false d = never f s d.1
no_device f s (Tell result) does = does

-- ---- what a multiplier took of its devices is what they sent

abbrev pub FansPass : Type 0
FansPass = (old new : FanState) (calls : List FanCall) → IsFan old → DoesAll (Multiplier old) calls (Multiplier new) → PassesInOrder old calls new

abbrev Answer : Type 0
Answer = Result Offered Stamped

abbrev held : Answer
held = Ok Held

abbrev let_go : Answer
let_go = Ok Dropped

abbrev back : Stamped → Answer
back frame = Err frame

abbrev is_held : Answer → Bool
is_held (Ok Held) = true
is_held answer = false

held_up : (f : FanState) (n : ℕ) (frame : Stamped) → IsFan f → n < f.multiplier.registers.ports → (port_at (held_fan f n frame).multiplier n).up ≡ Some (waiting f n frame)
held_up f n frame is less =
    let most : f.multiplier.registers.ports ≤ 15 = is.sound.registers.ports in
    let room : length f.multiplier.ports ≡ 15 = is.sound.room in
    ap (λ (p : port.PortState). p.up) (this_port f.multiplier.ports n (port.with_up (port_at f.multiplier n) (Some (waiting f n frame))) (omega (arith, room, less, most)))

waits_up : (f h : FanState) (n : ℕ) (frame : Stamped) → IsFan f → (b : Bool) → nat_lt n f.multiplier.registers.ports ≡ b
    → MatchBool b (OffersFan f n frame held h) ((held ≡ let_go) × (Multiplier h ≡ Multiplier f)) → (port_at h.multiplier n).up ≡ Some (waiting f n frame)
waits_up f h n frame is true less d = by_there (seat_at f n).is_there (is_none (port_at f.multiplier n).up) d
  where
    by_there : (there room : Bool) → MatchBool there (MatchBool room ((held ≡ held) × (h ≡ held_fan f n frame)) ((held ≡ back frame) × (h ≡ f))) ((held ≡ let_go) × (h ≡ f))
        → (port_at h.multiplier n).up ≡ Some (waiting f n frame)
    by_there true true e = ap (λ (g : FanState). (port_at g.multiplier n).up) e.1 ∙ held_up f n frame is (ltb-true n f.multiplier.registers.ports less)
    by_there true false e = absurd (true≢false (ap is_held e.0))
    by_there false room e = absurd (true≢false (ap is_held e.0))
waits_up f h n frame is false less d = absurd (true≢false (ap is_held d.0))

-- a FIS with a port in its stamp is of that port alone
of_its_port : (m n c : ℕ) (w : Stamped) (b : Bool) → (m == n) ≡ b → (if b then of_conn n c (rising n w ∷ []) else []) ≡ of_conn n c (rising m w ∷ [])
of_its_port m n c w true is = ap (λ (k : ℕ). of_conn n c (rising k w ∷ [])) (sym (eqb-true m n is))
of_its_port m n c w false is = sym (ap (λ (b : Bool). if b && (w.stamp.conn == c) then rising m w ∷ [] else []) is)

one_offered : (f h : FanState) (call : FanCall) → IsFan f → Does (Multiplier f) call (Multiplier h) → (n c : ℕ) → offered_by n c call ≡ of_conn n c (sent_call (Multiplier f) call)
one_offered f h (Offer m frame (Ok Held) waits) is does n c =
    subst (λ (o : Option Stamped). offered_by n c (Offer m frame (Ok Held) o) ≡ of_conn n c (rising m (waiting f m frame) ∷ []))
    (sym (does.1 ∙ waits_up f h m frame is (nat_lt m f.multiplier.registers.ports) refl does.0))
    (of_its_port m n c (waiting f m frame) (m == n) refl)
one_offered f h other is does n c = refl

pub after_one : FansPass → (f h : FanState) (call : FanCall) → IsFan f → Does (Multiplier f) call (Multiplier h) → IsFan h
after_one law f h call is does = (law f h (call ∷ []) is (Multiplier h, does, refl)).fan

all_offered : FansPass → (f g : FanState) (calls : List FanCall) (sent : List Stamped) → IsFan f → Sends (Multiplier f) calls sent (Multiplier g) → (n c : ℕ) → offered n c calls ≡ of_conn n c sent
all_offered law f g [] sent is h n c = sym (ap (of_conn n c) h.1)
all_offered law f g (call ∷ calls) sent is h n c = by_mid h.0 h.1 h.2.0 h.2.1 h.2.2 (λ k fan later rest. all_offered law k g calls later fan rest n c)
  where
    by_mid : (mid : FanOut) → Does (Multiplier f) call mid → (later : List Stamped) → sent ≡ sent_call (Multiplier f) call ++ later → Sends mid calls later (Multiplier g)
        → ((k : FanState) → IsFan k → (rest : List Stamped) → Sends (Multiplier k) calls rest (Multiplier g) → offered n c calls ≡ of_conn n c rest) → offered n c (call ∷ calls) ≡ of_conn n c sent
    by_mid (Multiplier k) first later is_sent rest next =
        (λ i. one_offered f k call is first n c i ++ next k (after_one law f k call is first) later rest i)
        ∙ sym (two n c (sent_call (Multiplier f) call) later) ∙ sym (ap (of_conn n c) is_sent)
    by_mid (Device s) first later is_sent rest next = absurd (no_device f s call first)

pub fan_through : FansPass → (f g : FanState) (calls : List FanCall) (sent : List Stamped) → IsFan f → Sends (Multiplier f) calls sent (Multiplier g) → Through (Multiplier f) (given calls) sent (Multiplier g)
fan_through law f g calls sent is h = record {
  sound = passes.fan;
  up = λ n c less. by_over n c less (is_over (Multiplier g) n c) refl;
  over = passes.over;
}
  where
    passes : PassesInOrder f calls g
    passes = law f g calls is (all_calls (Multiplier f) (Multiplier g) calls sent h)

    came : (n c : ℕ) → held_of n c f.multiplier ++ offered n c calls ≡ held_of n c f.multiplier ++ of_conn n c sent
    came n c = ap (λ (xs : List Stamped). held_of n c f.multiplier ++ xs) (all_offered law f g calls sent is h n c)

    by_over : (n c : ℕ) → n < 15 → (b : Bool) → is_over (Multiplier g) n c ≡ b → Passage n c (Multiplier f) (given calls) sent (Multiplier g)
    by_over n c less true is_so = record { dropped = (passes.up n c less).0; order = (passes.up n c less).1 ∙ came n c; whole = λ no. absurd (true≢false (sym is_so ∙ no)) }
    by_over n c less false is_so = record { dropped = []; order = append-nil (of_conn n c (given calls) ++ held_of n c g.multiplier) ∙ passes.kept n c less is_so ∙ came n c; whole = λ no. refl }

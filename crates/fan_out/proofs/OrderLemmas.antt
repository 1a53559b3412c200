-- Each call of a fan is a list of calls of its multiplier, and so frames pass in order.
use Rattle.std.proofs.Common.{◌≡◌, ℕ, ◌<◌, ◌≤◌, ◌==◌, Bool, true, false, List, [], ◌∷◌, ◌++◌, append_assoc, length, Option, Some, None, Result, Ok}
use Rattle.std.proofs.{Common.{Err, refl, sym, ap, ◌∙◌, subst, arith}, lemmas.{Bool.{and_parts, ltb-true}, Grind.{flat_map-append}}}
use Rattle.std.proofs.lemmas.{List.{append-nil}, Option.same_Some}
use Rattle.std.specs.{Prelude.{if◌then◌else◌, nat_lt, is_none, is_some, slice_set, MatchOption, MatchResult, ◌&&◌}, Bool.MatchBool}
use Rattle.std.specs.declared.alloc.AllocError.{AllocError}
use Rattle.fis_view.specs.Frames.{Stamped}
use Rattle.pm_ports.specs.Port as port
use Rattle.pm_ports.specs.declared.port.{PortError.PortError, Offered.Offered}
use Rattle.pm_ports.specs.declared.port.Offered.TheVariants as offered
use Rattle.multiplier.specs.Passing as pass
use Rattle.multiplier.specs.{Rules.{NextDownRule, NextUpRule, with_device, without_device}, State.{PmState, largest, port_at}}
use Rattle.multiplier.specs.declared.multiplier.{Passed.Passed, PmRefusal.PmRefusal}
use Rattle.multiplier.proofs.Door.{pass_in_order, this_port}
use Rattle.fan_out.specs.Calls.{FanCall, Plug, Pull, Send, GiveUp, GiveDown, Offer, Tell, Does, DoesAll, PassesInOrder, given, given_by}
use Rattle.fan_out.specs.{Calls.{offered as offered_in, offered_by}, Fans.{FanState, IsFan, OffersFan, PlugsFan, PullsFan, SendsFan, TellsFan}}
use Rattle.fan_out.specs.Fans.{Through, heeded, held_in_reset, is_in_reset, joined, on, only_in_reset, controlled, parted, rejoined, seat_at}
use Rattle.fan_out.specs.{Fans.{held_fan, waiting}, Straights.StraightState, Seats.{after_sent, next_connection, plug_refusal, seated}}
use Rattle.fan_out.specs.declared.{fan_out.FanOut.{FanOut, TheVariants.{Device, Multiplier}}, seat.{NotThere.NotThere, PlugError.PlugError}}
use Rattle.fan_out.specs.declared.seat.{PlugError.TheVariants.{AlreadyThere, NoPort, Spent}, Seat.Seat}
use Rattle.fan_out.proofs.FanLemmas.{came, gone, lets_go, lets_in, not_gone, nothing, offers, through, told_fan}

-- ---- lists of calls of a multiplier

runs_append : (past : pass.Past) (a b d : PmState) (xs ys : List pass.Call) → pass.DoesAll past a xs b → pass.DoesAll (pass.all_past past xs) b ys d → pass.DoesAll past a (xs ++ ys) d
runs_append past a b d [] ys first next = subst (λ (m : PmState). pass.DoesAll past m ys d) first next
runs_append past a b d (x ∷ xs) ys first next = (first.0, first.1, first.2, runs_append (pass.past_after past x) first.0 b d xs ys first.3 next)

past_append : (past : pass.Past) (xs ys : List pass.Call) → pass.all_past past (xs ++ ys) ≡ pass.all_past (pass.all_past past xs) ys
past_append past [] ys = refl
past_append past (x ∷ xs) ys = past_append (pass.past_after past x) xs ys

-- what takes one fan to another is a list of calls of its multiplier, which give these frames and take those in
record Split (old : FanState) (up : List Stamped) (took : ℕ → ℕ → List Stamped) (new : FanState) : Type 0 where
  inner : List pass.Call
  runs : (past : pass.Past) → pass.DoesAll past old.multiplier inner new.multiplier
  given : (past : pass.Past) → (pass.all_past past inner).up ≡ past.up ++ up
  took_in : (n c : ℕ) → pass.came_in n c inner ≡ took n c
  fan : IsFan new

abbrev no_frames : ℕ → ℕ → List Stamped
no_frames n c = []

both : (a b d : FanState) (u v : List Stamped) (s t : ℕ → ℕ → List Stamped) → Split a u s b → Split b v t d → Split a (u ++ v) (λ n c. s n c ++ t n c) d
both a b d u v s t first next = record {
  inner = first.inner ++ next.inner;
  runs = λ past. runs_append past a.multiplier b.multiplier d.multiplier first.inner next.inner (first.runs past) (next.runs (pass.all_past past first.inner));
  given = λ past. ap (λ (p : pass.Past). p.up) (past_append past first.inner next.inner) ∙ next.given (pass.all_past past first.inner) ∙ ap (λ (xs : List Stamped). xs ++ v) (first.given past) ∙ append_assoc past.up u v;
  took_in = λ n c. flat_map-append (pass.came_by n c) first.inner next.inner ∙ (λ i. first.took_in n c i ++ next.took_in n c i);
  fan = next.fan;
}

-- nothing is called
still : (f g : FanState) → IsFan f → g.multiplier ≡ f.multiplier → IsFan g → Split f [] no_frames g
still f g is same now = record { inner = []; runs = λ past. same; given = λ past. sym (append-nil past.up); took_in = λ n c. refl; fan = now }

same : (f g : FanState) → IsFan f → g ≡ f → Split f [] no_frames g
same f g is e = still f g is (ap (λ (h : FanState). h.multiplier) e) (subst IsFan (sym e) is)

-- one call that gives nothing
quiet : (f g : FanState) (call : pass.Call) → ((past : pass.Past) → pass.Suits past call) → pass.Does f.multiplier call g.multiplier → ((past : pass.Past) → (pass.past_after past call).up ≡ past.up)
    → ((n c : ℕ) → pass.came_by n c call ≡ []) → IsFan g → Split f [] no_frames g
quiet f g call suits does up none now = record {
  inner = call ∷ [];
  runs = λ past. (g.multiplier, suits past, does, refl);
  given = λ past. up past ∙ sym (append-nil past.up);
  took_in = λ n c. append-nil (pass.came_by n c call) ∙ none n c;
  fan = now;
}

-- ---- who comes and goes

comes : (f : FanState) (n conn : ℕ) → IsFan f → n < f.multiplier.registers.ports → None ≡ port.came_refusal (port_at f.multiplier n) conn
    → Split f [] no_frames (record { multiplier = with_device f.multiplier n conn; legacy = f.legacy; seats = slice_set f.seats n (seated conn) })
comes f n conn is less lets =
    quiet f _ (pass.Came n conn (Ok tt)) (λ past. tt) (less, (lets, refl)) (λ past. refl) (λ k c. refl) (came f n conn is less lets)

goes : (f : FanState) (n : ℕ) → IsFan f → n < f.multiplier.registers.ports → (seat_at f n).is_there ≡ true → Split f [] no_frames (parted f n)
goes f n is less there =
    let lets = lets_go f n is there in
    let new : PmState = without_device f.multiplier n (seat_at f n).last in
    quiet f (parted f n) (pass.Gone n (seat_at f n).last (Ok tt) (pass.lost_from (port_at f.multiplier n).up (port_at new n).up) (pass.lost_from (port_at f.multiplier n).down (port_at new n).down))
    (λ past. tt) (less, (lets, refl), refl, refl) (λ past. refl) (λ k c. refl) (gone f n (seat_at f n).last is less lets)

joins : (f : FanState) (n conn : ℕ) → IsFan f → n < f.multiplier.registers.ports → Split f [] no_frames (joined f n conn)
joins f n conn is less = by_refusal (port.came_refusal (port_at f.multiplier n) conn) refl
  where
    by_refusal : (o : Option PortError) → port.came_refusal (port_at f.multiplier n) conn ≡ o
        → Split f [] no_frames (if is_some o then f else record { multiplier = with_device f.multiplier n conn; legacy = f.legacy; seats = slice_set f.seats n (seated conn) })
    by_refusal None e = comes f n conn is less (sym e)
    by_refusal (Some why) e = same f f is refl

rejoins : (f : FanState) (n : ℕ) → IsFan f → n < f.multiplier.registers.ports → Split f [] no_frames (rejoined f n)
rejoins f n is less = by_test ((seat_at f n).is_there && nat_lt (seat_at f n).last largest) refl
  where
    by_test : (b : Bool) → ((seat_at f n).is_there && nat_lt (seat_at f n).last largest) ≡ b → Split f [] no_frames (if b then joined (parted f n) n (next_connection (seat_at f n)) else f)
    by_test true e =
        let went = goes f n is less (and_parts (seat_at f n).is_there (nat_lt (seat_at f n).last largest) e).0 in
        both f (parted f n) _ [] [] no_frames no_frames went (joins (parted f n) n (next_connection (seat_at f n)) went.fan less)
    by_test false e = same f f is refl

heeds : (f : FanState) (n : ℕ) → IsFan f → n < f.multiplier.registers.ports → Split f [] no_frames (heeded f n)
heeds f n is less = by_test (is_in_reset f.multiplier n)
  where
    by_test : (b : Bool) → Split f [] no_frames (if b then f else rejoined f n)
    by_test true = same f f is refl
    by_test false = rejoins f n is less

-- ---- each call

abbrev Splits : FanState → FanCall → FanState → Type 0
Splits f call g = Split f (given_by call) (λ n c. offered_by n c call) g

abbrev fan_of : FanState → FanOut → FanState
fan_of f (Multiplier g) = g
fan_of f (Device s) = f

same_end : (f g : FanState) → Multiplier g ≡ Multiplier f → g ≡ f
same_end f g e = ap (fan_of f) e

-- a connection is left
has_next : (seat : Seat) → None ≡ plug_refusal seat → (seat.is_there ≡ false)
has_next seat e = by_there seat.is_there e
  where
    by_there : (b : Bool) → None ≡ (if b then Some AlreadyThere else if seat.last == largest then Some Spent else None) → b ≡ false
    by_there true e = absurd cc
    by_there false e = refl

plugs : (f g : FanState) (n : ℕ) (result : Result (Unit {0}) PlugError) → IsFan f → n < f.multiplier.registers.ports → PlugsFan f n result g → Splits f (Plug n result) g
plugs f g n (Ok done) is less does =
    subst (λ (h : FanState). Split f [] no_frames h) (sym does.1)
    (comes f n (next_connection (seat_at f n)) is less (lets_in f n (next_connection (seat_at f n)) is (has_next (seat_at f n) does.0) (omega arith)))
plugs f g n (Err why) is less does = same f g is does.1

pulls : (f g : FanState) (n : ℕ) (result : Result (Unit {0}) NotThere) → IsFan f → n < f.multiplier.registers.ports → PullsFan f n result g → Splits f (Pull n result) g
pulls f g n (Ok done) is less does = subst (λ (h : FanState). Split f [] no_frames h) (sym does.1) (goes f n is less does.0)
pulls f g n (Err why) is less does = same f g is does.1

only_there : (m : PmState) (o : Option ℕ) (n : ℕ) → only_in_reset m o ≡ Some n → n < m.registers.ports
only_there m None n e = absurd cc
only_there m (Some k) n e = by_test (nat_lt k m.registers.ports && is_in_reset m k) refl e
  where
    by_test : (b : Bool) → (nat_lt k m.registers.ports && is_in_reset m k) ≡ b → (if b then Some k else None) ≡ Some n → n < m.registers.ports
    by_test true so e = subst (λ (j : ℕ). j < m.registers.ports) (same_Some k n e) (ltb-true k m.registers.ports (and_parts (nat_lt k m.registers.ports) (is_in_reset m k) so).0)
    by_test false so e = absurd cc

sends : (f g : FanState) (frame : Stamped) (result : Result Passed (Stamped × PmRefusal)) → IsFan f → SendsFan f frame result g → Splits f (Send frame result) g
sends f g frame result is does = by_held (held_in_reset f.multiplier frame) refl does.3
  where
    mid : PmState
    mid = does.0

    first : Split f [] no_frames (on f mid)
    first = quiet f (on f mid) (pass.FromHost frame result (pass.made_by result mid)) (λ past. tt) (does.1, refl) (λ past. refl) (λ n c. refl)
        (through f mid (pass.FromHost frame result (pass.made_by result mid)) is tt (does.1, refl) does.2)

    by_held : (o : Option ℕ) → held_in_reset f.multiplier frame ≡ o → MatchOption o (g ≡ on f mid) (λ n. g ≡ heeded (on f mid) n) → Splits f (Send frame result) g
    by_held None e now = subst (λ (h : FanState). Split f [] no_frames h) (sym now) first
    by_held (Some n) e now =
        let there : n < f.multiplier.registers.ports = only_there f.multiplier (controlled frame.bytes) n e in
        let count : mid.registers.ports ≡ f.multiplier.registers.ports = does.2.count in
        subst (λ (h : FanState). Split f [] no_frames h) (sym now)
        (both f (on f mid) (heeded (on f mid) n) [] [] no_frames no_frames first (heeds (on f mid) n first.fan (omega arith)))

gives_up : (f g : FanState) (result : Result (Option Stamped) AllocError) → IsFan f → Through (λ was now. NextUpRule was result now) f g → Splits f (GiveUp result) g
gives_up f g result is does = record {
  inner = pass.NextUp result ∷ [];
  runs = λ past. (g.multiplier, tt, does.0, refl);
  given = by_result result;
  took_in = λ n c. refl;
  fan = subst IsFan (sym does.2) (through f g.multiplier (pass.NextUp result) is tt does.0 does.1);
}
  where
    by_result : (r : Result (Option Stamped) AllocError) (past : pass.Past) → (pass.past_after past (pass.NextUp r)).up ≡ past.up ++ given_by (GiveUp r)
    by_result (Ok (Some frame)) past = refl
    by_result (Ok None) past = sym (append-nil past.up)
    by_result (Err why) past = sym (append-nil past.up)

gives_down : (f g : FanState) (n : ℕ) (result : Option Stamped) → IsFan f → n < f.multiplier.registers.ports → Through (λ was now. NextDownRule was n result now) f g → Splits f (GiveDown n result) g
gives_down f g n result is less does =
    quiet f g (pass.NextDown n result) (λ past. tt) (less, does.0) (by_result result) (λ k c. refl)
    (subst IsFan (sym does.2) (through f g.multiplier (pass.NextDown n result) is tt (less, does.0) does.1))
  where
    by_result : (r : Option Stamped) (past : pass.Past) → (pass.past_after past (pass.NextDown n r)).up ≡ past.up
    by_result (Some frame) past = refl
    by_result None past = refl

none_up : (o : Option Stamped) → is_none o ≡ true → o ≡ None
none_up None e = refl
none_up (Some frame) e = absurd cc

abbrev SplitsOffer : FanState → ℕ → Stamped → Result Offered Stamped → Option Stamped → FanState → Type 0
SplitsOffer f n frame result waits g = Splits f (Offer n frame result waits) g

holds : (f g : FanState) (n : ℕ) (frame : Stamped) (waits : Option Stamped) → IsFan f → n < f.multiplier.registers.ports → (seat_at f n).is_there ≡ true → is_none (port_at f.multiplier n).up ≡ true
    → g ≡ held_fan f n frame → waits ≡ (port_at g.multiplier n).up → SplitsOffer f n frame (Ok offered.Held) waits g
holds f g n frame waits is less there empty now waiting_is =
    subst (λ (o : Option Stamped). SplitsOffer f n frame (Ok offered.Held) o g) (sym (waiting_is ∙ ap (λ (h : FanState). (port_at h.multiplier n).up) now ∙ ap (λ (p : port.PortState). p.up) here)) (record {
      inner = pass.FromDevice n (waiting f n frame) (Ok offered.Held) ∷ [];
      runs = λ past. (g.multiplier, tt, (less, (not_gone f n is there, none, ap (λ (h : FanState). h.multiplier) now)), refl);
      given = λ past. sym (append-nil past.up);
      took_in = λ k c. append-nil (pass.came_by k c (pass.FromDevice n (waiting f n frame) (Ok offered.Held)));
      fan = subst IsFan (sym now) (offers f n (after_sent (seat_at f n)) (waiting f n frame) (held_fan f n frame).multiplier is less (not_gone f n is there, none, refl) refl refl);
    })
  where
    none : (port_at f.multiplier n).up ≡ None
    none = none_up (port_at f.multiplier n).up empty

    most : f.multiplier.registers.ports ≤ 15
    most = is.sound.registers.ports

    room : length f.multiplier.ports ≡ 15
    room = is.sound.room

    here : port_at (held_fan f n frame).multiplier n ≡ port.with_up (port_at f.multiplier n) (Some (waiting f n frame))
    here = this_port f.multiplier.ports n (port.with_up (port_at f.multiplier n) (Some (waiting f n frame))) (omega arith)

takes : (f g : FanState) (n : ℕ) (frame : Stamped) (result : Result Offered Stamped) (waits : Option Stamped) → IsFan f → n < f.multiplier.registers.ports → OffersFan f n frame result g
    → waits ≡ (port_at g.multiplier n).up → SplitsOffer f n frame result waits g
takes f g n frame result waits is less does waiting_is = by_there (seat_at f n).is_there refl does
  where
    by_room : (b : Bool) → (seat_at f n).is_there ≡ true → is_none (port_at f.multiplier n).up ≡ b
        → MatchBool b ((result ≡ Ok offered.Held) × (g ≡ held_fan f n frame)) ((result ≡ Err frame) × (g ≡ f)) → SplitsOffer f n frame result waits g
    by_room true there empty d = subst (λ (r : Result Offered Stamped). SplitsOffer f n frame r waits g) (sym d.0) (holds f g n frame waits is less there empty d.1 waiting_is)
    by_room false there full d = subst (λ (r : Result Offered Stamped). SplitsOffer f n frame r waits g) (sym d.0) (same f g is d.1)

    by_there : (b : Bool) → (seat_at f n).is_there ≡ b
        → MatchBool b (MatchBool (is_none (port_at f.multiplier n).up) ((result ≡ Ok offered.Held) × (g ≡ held_fan f n frame)) ((result ≡ Err frame) × (g ≡ f))) ((result ≡ Ok offered.Dropped) × (g ≡ f))
        → SplitsOffer f n frame result waits g
    by_there true there d = by_room (is_none (port_at f.multiplier n).up) there refl d
    by_there false there d = subst (λ (r : Result Offered Stamped). SplitsOffer f n frame r waits g) (sym d.0) (same f g is d.1)

tells : (f g : FanState) (result : Option ℕ) → IsFan f → TellsFan f result g → Splits f (Tell result) g
tells f g None is does = same f g is does.1
tells f g (Some n) is does = still f g is (ap (λ (h : FanState). h.multiplier) does.1) (subst IsFan (sym does.1) (told_fan f n is))

call_splits : (f g : FanState) (call : FanCall) → IsFan f → Does (Multiplier f) call (Multiplier g) → Splits f call g
call_splits f g (Plug n result) is does = by_port (nat_lt n f.multiplier.registers.ports) refl does
  where
    by_port : (b : Bool) → nat_lt n f.multiplier.registers.ports ≡ b → MatchBool b (PlugsFan f n result g) ((result ≡ Err NoPort) × (Multiplier g ≡ Multiplier f)) → Splits f (Plug n result) g
    by_port true less d = plugs f g n result is (ltb-true n f.multiplier.registers.ports less) d
    by_port false less d = same f g is (same_end f g d.1)
call_splits f g (Pull n result) is does = by_port (nat_lt n f.multiplier.registers.ports) refl result does
  where
    by_port : (b : Bool) → nat_lt n f.multiplier.registers.ports ≡ b → (r : Result (Unit {0}) NotThere)
        → MatchBool b (PullsFan f n r g) (MatchResult r (λ _. ⊥) (λ _. Multiplier g ≡ Multiplier f)) → Splits f (Pull n r) g
    by_port true less r d = pulls f g n r is (ltb-true n f.multiplier.registers.ports less) d
    by_port false less (Ok done) d = absurd d
    by_port false less (Err why) d = same f g is (same_end f g d)
call_splits f g (Send frame result) is does = sends f g frame result is does
call_splits f g (GiveUp result) is does = gives_up f g result is does
call_splits f g (GiveDown n result) is does = by_port (nat_lt n f.multiplier.registers.ports) refl does
  where
    by_port : (b : Bool) → nat_lt n f.multiplier.registers.ports ≡ b → MatchBool b (Through (λ was now. NextDownRule was n result now) f g) ((result ≡ None) × (Multiplier g ≡ Multiplier f))
        → Splits f (GiveDown n result) g
    by_port true less d = gives_down f g n result is (ltb-true n f.multiplier.registers.ports less) d
    by_port false less d = same f g is (same_end f g d.1)
call_splits f g (Offer n frame result waits) is does = by_port (nat_lt n f.multiplier.registers.ports) refl does.0
  where
    by_port : (b : Bool) → nat_lt n f.multiplier.registers.ports ≡ b → MatchBool b (OffersFan f n frame result g) ((result ≡ Ok offered.Dropped) × (Multiplier g ≡ Multiplier f))
        → SplitsOffer f n frame result waits g
    by_port true less d = takes f g n frame result waits is (ltb-true n f.multiplier.registers.ports less) d does.1
    by_port false less d = subst (λ (r : Result Offered Stamped). SplitsOffer f n frame r waits g) (sym d.0) (same f g is (same_end f g d.1))
call_splits f g (Tell result) is does = tells f g result is does

-- no call makes a device of a multiplier
abbrev is_multiplier : FanOut → Bool
is_multiplier (Multiplier f) = true
is_multiplier (Device s) = false

never : (f : FanState) (s : StraightState) → Device s ≡ Multiplier f → ⊥
never f s e = let wrong : false ≡ true = ap is_multiplier e in absurd cc

no_device : (f : FanState) (s : StraightState) (call : FanCall) → Does (Multiplier f) call (Device s) → ⊥
no_device f s (Plug n result) does = by_port (nat_lt n f.multiplier.registers.ports) does
  where
    by_port : (b : Bool) → MatchBool b ⊥ ((result ≡ Err NoPort) × (Device s ≡ Multiplier f)) → ⊥
    by_port true d = d
    by_port false d = never f s d.1
no_device f s (Pull n result) does = by_port (nat_lt n f.multiplier.registers.ports) result does
  where
    by_port : (b : Bool) (r : Result (Unit {0}) NotThere) → MatchBool b ⊥ (MatchResult r (λ _. ⊥) (λ _. Device s ≡ Multiplier f)) → ⊥
    by_port true r d = d
    by_port false (Ok done) d = d
    by_port false (Err why) d = never f s d
no_device f s (Send frame result) does = does
no_device f s (GiveUp result) does = does
no_device f s (GiveDown n result) does = by_port (nat_lt n f.multiplier.registers.ports) does
  where
    by_port : (b : Bool) → MatchBool b ⊥ ((result ≡ None) × (Device s ≡ Multiplier f)) → ⊥
    by_port true d = d
    by_port false d = never f s d.1
no_device f s (Offer n frame result waits) does = by_port (nat_lt n f.multiplier.registers.ports) does.0
  where
    by_port : (b : Bool) → MatchBool b ⊥ ((result ≡ Ok offered.Dropped) × (Device s ≡ Multiplier f)) → ⊥
    by_port true d = d
    by_port false d = never f s d.1
no_device f s (Tell result) does = does

abbrev Later : List FanCall → FanState → Type 0
Later calls g = (h : FanState) → IsFan h → DoesAll (Multiplier h) calls (Multiplier g) → Split h (given calls) (λ n c. offered_in n c calls) g

all_split : (f g : FanState) (calls : List FanCall) → IsFan f → DoesAll (Multiplier f) calls (Multiplier g) → Split f (given calls) (λ n c. offered_in n c calls) g
all_split f g [] is does = same f g is (same_end f g does)
all_split f g (call ∷ calls) is does = by_mid does.0 does.1 does.2 (λ h fan rest. all_split h g calls fan rest)
  where
    by_mid : (mid : FanOut) → Does (Multiplier f) call mid → DoesAll mid calls (Multiplier g) → Later calls g → Split f (given (call ∷ calls)) (λ n c. offered_in n c (call ∷ calls)) g
    by_mid (Multiplier h) first rest later =
        let one = call_splits f h call is first in
        both f h g (given_by call) (given calls) (λ n c. offered_by n c call) (λ n c. offered_in n c calls) one (later h one.fan rest)
    by_mid (Device s) first rest later = absurd (no_device f s call first)

-- ---- the law

pub passes : (old new : FanState) (calls : List FanCall) → IsFan old → DoesAll (Multiplier old) calls (Multiplier new) → PassesInOrder old calls new
passes old new calls is does = record {
  fan = split.fan;
  up = λ n c lt. (pass.lost_up n c split.inner, whole n c lt);
  kept = λ n c lt stays.
      sym (append-nil (pass.of_conn n c (given calls) ++ pass.held_of n c new.multiplier))
      ∙ ap (λ (xs : List Stamped). pass.of_conn n c (given calls) ++ pass.held_of n c new.multiplier ++ xs) (sym (law.kept n c lt stays).0)
      ∙ whole n c lt;
  over = λ n c lt over. ap (pass.of_conn n c) (sym (split.given nothing)) ∙ (law.over n c lt over).0;
}
  where
    split : Split old (given calls) (λ n c. offered_in n c calls) new
    split = all_split old new calls is does

    law : pass.PassInOrder nothing old.multiplier split.inner new.multiplier
    law = pass_in_order nothing old.multiplier new.multiplier split.inner is.sound (split.runs nothing)

    whole : (n c : ℕ) → n < 15 → pass.of_conn n c (given calls) ++ pass.held_of n c new.multiplier ++ pass.lost_up n c split.inner ≡ pass.held_of n c old.multiplier ++ offered_in n c calls
    whole n c lt =
        ap (λ (xs : List Stamped). pass.of_conn n c xs ++ pass.held_of n c new.multiplier ++ pass.lost_up n c split.inner) (sym (split.given nothing))
        ∙ law.up n c lt
        ∙ ap (λ (xs : List Stamped). pass.held_of n c old.multiplier ++ xs) (split.took_in n c)

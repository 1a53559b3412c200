-- Whatever holds of each FIS on its way to a device holds behind each deed, if it holds of each that falls to its port.
use Rattle.std.proofs.Common.{◌≡◌, ℕ, zero, suc, Bool, true, false, List, [], ◌∷◌, ◌++◌, get_or, set, Option, Some, None, Result, Ok, Err, refl, sym}
use Rattle.std.proofs.{Common.{subst, option_to_list, not, map, All}, lemmas.{Bool.{eqb-true, false≢true}, List.Elements.{All-append, All-cons}}}
use Rattle.std.proofs.lemmas.List.Elements.{All-head, All-nil, All-same, All-tail}
use Rattle.std.specs.{Prelude.{◌==◌, ◌&&◌, if◌then◌else◌, nat_lt, is_some, MatchResult}, Option.option_map, Result.IsErrOf}
use Rattle.fis_view.specs.Frames.{Stamped}
use Rattle.pm_ports.specs.Port as port
use Rattle.multiplier.specs.{Rules.with_device, State.{falling, port_at}, declared.multiplier.Passed.Passed}
use Rattle.multiplier.specs.State as pm
use Rattle.fan_out.specs.{FanOuts.{Pulls, PullsAt, Sends, has_port}, Fans.{FanState, heeded, is_in_reset, joined, on, parted, rejoined, seat_at}}
use Rattle.fan_out.specs.{Seats.{next_connection, seated}, Straights.{StraightState, pointed}, declared.fan_out.FanOut.{FanOut, TheVariants.Device}}
use Rattle.fan_out.specs.declared.{fan_out.FanOut.TheVariants.Multiplier, seat.NotThere.NotThere}
use Rattle.fan_out.specs.Fans as fan
use Rattle.fan_out.specs.Straights as straight
use Rattle.ahci_machine.specs.Acts as acts
use Rattle.ahci_machine.specs.{Bays.begun, Ports.{PullsMachine, PullsOut, has_bay}, States.{MachineState, bay_at}, declared.act.Act.Act}
use Rattle.ahci_machine.specs.declared.{bay.Bay.Bay, ports.PortFault.{PortFault, TheVariants.NoPort}}
use Rattle.ahci_machine.specs.declared.act.Act.TheVariants as act
use Rattle.machine_laws.proofs.{Cases.{by_bool, by_option}, FallEnds.{begun_forgets, ports_emptied}, FallFans.{and_one, down_of, host_fell}}
use Rattle.machine_laws.proofs.{FallFans.straight_fell, FallPorts.{Needs, Passes, down_in, pass_by, taken}}
use Rattle.machine_laws.proofs.FallFans as fans
use Rattle.machine_laws.specs.{Deeds.{Deed, Does, Moved, Wrote, Powered, Pulled, Removed}, Falling.{begins, ends, falls, is_down_to, reached_at}}
use Rattle.machine_laws.specs.Falling.{resets, waits_down, way_to}

-- ---- parts of a list

pub last : {X : Type 0} (P : X → Type 0) (xs ys : List X) → All P (xs ++ ys) → All P ys
last P [] ys h = h
last P (x ∷ xs) ys h = last P xs ys (All-tail P x (xs ++ ys) h)

pub first : {X : Type 0} (P : X → Type 0) (xs ys : List X) → All P (xs ++ ys) → All P xs
first P [] ys h = All-nil P
first P (x ∷ xs) ys h = All-cons P x xs (All-head P x (xs ++ ys) h) (first P xs ys (All-tail P x (xs ++ ys) h))

module _ (P : Stamped → Type 0) where
  abbrev Of : Option Stamped → Type 0
  Of o = All P (option_to_list o)

  none_of : Of None
  none_of = All-nil P

  -- ---- what waits at a port

  left_of : (conn : ℕ) (o : Option Stamped) → Of o → Of (port.left_in conn o)
  left_of conn None h = h
  left_of conn (Some f) h = by (not (port.is_up_to conn f.stamp.conn))
    where
      by : (b : Bool) → Of (port.only_if b f)
      by true = h
      by false = none_of

  abbrev port_in : List port.PortState → ℕ → Option Stamped
  port_in l n = (get_or l n port.empty_port).down

  set_port : (l : List port.PortState) (k n : ℕ) (p : port.PortState) → (Of (port_in l k) → Of p.down) → Of (port_in l n) → Of (port_in (set l k p) n)
  set_port [] k n p f h = h
  set_port (a ∷ l) zero zero p f h = f h
  set_port (a ∷ l) zero (suc n) p f h = h
  set_port (a ∷ l) (suc k) zero p f h = h
  set_port (a ∷ l) (suc k) (suc n) p f h = set_port l k n p f h

  parted_of : (f : FanState) (k n : ℕ) → Of (down_of f.multiplier n) → Of (down_of (parted f k).multiplier n)
  parted_of f k n h =
      set_port f.multiplier.ports k n (port.with_removal (port_at f.multiplier k) (seat_at f k).last)
      (left_of (seat_at f k).last (port_at f.multiplier k).down) h

  joined_of : (refused : Bool) (f : FanState) (k conn n : ℕ) → Of (down_of f.multiplier n)
      → Of (down_of (if refused then f else record { multiplier = with_device f.multiplier k conn; legacy = f.legacy; seats = set f.seats k (seated conn) }).multiplier n)
  joined_of true f k conn n h = h
  joined_of false f k conn n h = set_port f.multiplier.ports k n (port.with_connection (port_at f.multiplier k) conn) (λ was. was) h

  rejoined_of : (c : Bool) (f : FanState) (k n : ℕ) → Of (down_of f.multiplier n)
      → Of (down_of (if c then joined (parted f k) k (next_connection (seat_at f k)) else f).multiplier n)
  rejoined_of true f k n h =
      joined_of (is_some (port.came_refusal (port_at (parted f k).multiplier k) (next_connection (seat_at f k)))) (parted f k) k (next_connection (seat_at f k)) n (parted_of f k n h)
  rejoined_of false f k n h = h

  heeded_of : (c : Bool) (f : FanState) (k n : ℕ) → Of (down_of f.multiplier n) → Of (down_of (if c then f else rejoined f k).multiplier n)
  heeded_of true f k n h = h
  heeded_of false f k n h = rejoined_of ((seat_at f k).is_there && nat_lt (seat_at f k).last pm.largest) f k n h

  -- a frame of the host goes to the devices
  sends_of : (old : FanOut) (frame : Stamped) (went : Passed) (new : FanOut) → Sends old frame (Ok went) new → (n : ℕ)
      → All P (and_one (option_to_list (waits_down old n)) (is_down_to went n) (falling (reached_at old n) frame)) → Of (waits_down new n)
  sends_of (Device old) frame went (Device new) h n all = All-same P (option_to_list (waits_down (Device new) n)) _ (straight_fell old frame went new h n) all
  sends_of (Multiplier old) frame went (Multiplier new) h n all =
      by_option ℕ (Of (down_of new.multiplier n)) (new ≡ on old h.0) (λ k. new ≡ heeded (on old h.0) k) (fan.held_in_reset old.multiplier frame) h.3
      (λ none is. subst (λ (f : FanState). Of (down_of f.multiplier n)) (sym is) fell)
      (λ k there is. subst (λ (f : FanState). Of (down_of f.multiplier n)) (sym is) (heeded_of (is_in_reset (on old h.0).multiplier k) (on old h.0) k n fell))
    where
      fell : Of (down_of h.0 n)
      fell = All-same P (option_to_list (down_of h.0 n)) _ (host_fell old.multiplier frame went h.0 h.1 n) all
  sends_of (Device old) frame went (Multiplier new) h n all = absurd h
  sends_of (Multiplier old) frame went (Device new) h n all = absurd h

  -- a device is pulled
  alone_of : (here : Bool) (conn : ℕ) (o : Option Stamped) → Of (if here then option_map (pointed 0) o else None)
      → Of (if here then option_map (pointed 0) (port.left_in conn o) else None)
  alone_of false conn o h = none_of
  alone_of true conn None h = h
  alone_of true conn (Some f) h = by (not (port.is_up_to conn f.stamp.conn))
    where
      by : (b : Bool) → Of (option_map (pointed 0) (port.only_if b f))
      by true = h
      by false = none_of

  pulls_straight : (old : StraightState) (r : Result (Unit {0}) NotThere) (new : StraightState) → straight.PullsStraight old r new → (n : ℕ)
      → Of (waits_down (Device old) n) → Of (waits_down (Device new) n)
  pulls_straight old (Ok x) new h n all = subst (λ (s : StraightState). Of (waits_down (Device s) n)) (sym h.1) (alone_of (0 == n) old.seat.last old.port.down all)
  pulls_straight old (Err e) new h n all = subst (λ (s : StraightState). Of (waits_down (Device s) n)) (sym h.1) all

  pulls_fan : (old : FanState) (k : ℕ) (r : Result (Unit {0}) NotThere) (new : FanState) → fan.PullsFan old k r new → (n : ℕ)
      → Of (down_of old.multiplier n) → Of (down_of new.multiplier n)
  pulls_fan old k (Ok x) new h n all = subst (λ (f : FanState). Of (down_of f.multiplier n)) (sym h.1) (parted_of old k n all)
  pulls_fan old k (Err e) new h n all = subst (λ (f : FanState). Of (down_of f.multiplier n)) (sym h.1) all

  pulls_at : (old : FanOut) (k : ℕ) (r : Result (Unit {0}) NotThere) (new : FanOut) → PullsAt old k r new → (n : ℕ) → Of (waits_down old n) → Of (waits_down new n)
  pulls_at (Device old) k r (Device new) h n all = pulls_straight old r new h n all
  pulls_at (Multiplier old) k r (Multiplier new) h n all = pulls_fan old k r new h n all
  pulls_at (Device old) k r (Multiplier new) h n all = absurd h
  pulls_at (Multiplier old) k r (Device new) h n all = absurd h

  pulls_of : (old : FanOut) (k : ℕ) (r : Result (Unit {0}) NotThere) (new : FanOut) → Pulls old k r new → (n : ℕ) → Of (waits_down old n) → Of (waits_down new n)
  pulls_of old k r new h n all =
      by_bool (Of (waits_down new n)) (PullsAt old k r new) (MatchResult r (λ _. ⊥) (λ _. new ≡ old)) (has_port old k) h
      (λ has by. pulls_at old k r new by n all)
      (λ none is. subst (λ (f : FanOut). Of (waits_down f n)) (sym (fans.pulls_none r old new is)) all)

  -- ---- what a device was given

  set_bay : (l : List Bay) (k n : ℕ) (b : Bay) → b.down ≡ None → Of (down_in l n) → Of (down_in (set l k b) n)
  set_bay [] k n b none h = h
  set_bay (a ∷ l) zero zero b none h = subst Of (sym none) none_of
  set_bay (a ∷ l) zero (suc n) b none h = h
  set_bay (a ∷ l) (suc k) zero b none h = h
  set_bay (a ∷ l) (suc k) (suc n) b none h = set_bay l k n b none h

  pulled_bays : (k n : ℕ) (old new : MachineState) (answer : Result (Unit {0}) NotThere)
      → MatchResult answer (λ _. new ≡ record old { fan = new.fan; bays = set old.bays k (begun (bay_at old k)) }) (λ _. new ≡ record old { fan = new.fan })
      → Of (bay_at old n).down → Of (bay_at new n).down
  pulled_bays k n old new (Ok x) rest h =
      subst (λ (m : MachineState). Of (bay_at m n).down) (sym rest) (set_bay old.bays k n (begun (bay_at old k)) refl h)
  pulled_bays k n old new (Err e) rest h = subst (λ (m : MachineState). Of (bay_at m n).down) (sym rest) h

  -- ---- the whole way

  abbrev pub OnWay : MachineState → ℕ → Type 0
  OnWay m n = All P (way_to m n)

  both : (m : MachineState) (n : ℕ) → Of (bay_at m n).down → Of (waits_down m.fan n) → OnWay m n
  both m n given waits = All-append P (option_to_list (bay_at m n).down) (option_to_list (waits_down m.fan n)) given waits

  given_part : (m : MachineState) (n : ℕ) → OnWay m n → Of (bay_at m n).down
  given_part m n all = first P (option_to_list (bay_at m n).down) (option_to_list (waits_down m.fan n)) all

  waits_part : (m : MachineState) (n : ℕ) → OnWay m n → Of (waits_down m.fan n)
  waits_part m n all = last P (option_to_list (bay_at m n).down) (option_to_list (waits_down m.fan n)) all

  by_eq : (old new : MachineState) (n : ℕ) → new ≡ old → OnWay old n → OnWay new n
  by_eq old new n is all = subst (λ (m : MachineState). OnWay m n) (sym is) all

  pulled_way : (k : ℕ) (old new : MachineState) (told : Result (Unit {0}) PortFault) (n : ℕ) → PullsMachine k old told new → OnWay old n → OnWay new n
  pulled_way k old new told n h all =
      by_bool (OnWay new n) (PullsOut k old told new) (IsErrOf told NoPort × (new ≡ old)) (has_bay old k) h
      (λ inside there. both new n (pulled_bays k n old new there.answer there.pulls.rest (given_part old n all))
      (pulls_of old.fan k there.answer new.fan there.pulls.pulls n (waits_part old n all)))
      (λ outside is. by_eq old new n is.1 all)

  passed : (old new : MachineState) (n : ℕ) (out more : List Stamped) → Passes old new n out more → OnWay old n → All P more → OnWay new n
  passed old new n out more is all now =
      last P out (way_to new n) (All-same P (out ++ way_to new n) (way_to old n ++ more) is (All-append P (way_to old n) more all now))

  sends_way : (old new : MachineState) (went : Passed) (n : ℕ) → acts.SendsNext went old new → OnWay old n → All P (falls old (Moved (act.Sends went)) n) → OnWay new n
  sends_way old new went n h all now =
      both new n (subst (λ (m : MachineState). Of (bay_at m n).down) (sym h.rest) (given_part old n all))
      (sends_of old.fan h.frame went new.fan h.sends n
      (All-append P (option_to_list (waits_down old.fan n)) (if is_down_to went n then falling (reached_at old.fan n) h.frame ∷ [] else []) (waits_part old n all)
      (subst (λ (o : Option Stamped). All P (if is_down_to went n then map (falling (reached_at old.fan n)) (option_to_list o) else [])) h.on now)))

  begins_by : (b : Bool) (k n : ℕ) (old new : MachineState) → (k == n) ≡ b → Does old (Moved (act.Begins k)) new → OnWay old n → OnWay new n
  begins_by true k n old new is h all =
      let same : k ≡ n = eqb-true k n is in
      All-same P (way_to new n) (option_to_list (waits_down old.fan n))
      (begun_forgets old n new (subst (λ (j : ℕ). Does old (Moved (act.Begins j)) new) same h)) (waits_part old n all)
  begins_by false k n old new is h all =
      passed old new n [] [] (pass_by old (Moved (act.Begins k)) new n h tt is) all (All-nil P)

  reset_by : (b : Bool) (deed : Deed) (old new : MachineState) (n : ℕ) → resets deed ≡ b → Does old deed new → (b ≡ false → OnWay new n) → OnWay old n → OnWay new n
  reset_by true deed old new n is h other all = All-same P (way_to new n) (option_to_list (bay_at old n).down) (ports_emptied old deed new h is n) (given_part old n all)
  reset_by false deed old new n is h other all = other refl

  -- these need nothing
  plain : (deed : Deed) (old new : MachineState) (n : ℕ) → Does old deed new → Needs deed old new n → begins deed n ≡ false → OnWay old n → All P (falls old deed n) → OnWay new n
  plain deed old new n h needs go all now = passed old new n (ends old deed n) (falls old deed n) (pass_by old deed new n h needs go) all now

  moved_way : (a : Act) (old new : MachineState) (n : ℕ) → Does old (Moved a) new → OnWay old n → All P (falls old (Moved a) n) → OnWay new n
  moved_way (act.Sends went) old new n h all now =
      subst (λ (m : MachineState). OnWay m n) (sym h.turns) (sends_way old h.middle went n h.does all now)
  moved_way (act.Begins k) old new n h all now = begins_by (k == n) k n old new refl h all
  moved_way other old new n h all now = plain (Moved other) old new n h tt refl all now

  pub way_goes : (deed : Deed) (old new : MachineState) (n : ℕ) → Does old deed new → OnWay old n → All P (falls old deed n) → OnWay new n
  way_goes (Moved a) old new n h all now = moved_way a old new n h all now
  way_goes (Wrote offset width value written) old new n h all now =
      let deed : Deed = Wrote offset width value written in
      reset_by (resets deed) deed old new n refl h (λ off. plain deed old new n h tt off all now) all
  way_goes Powered old new n h all now = reset_by true Powered old new n refl h (λ off. absurd (false≢true (sym off))) all
  way_goes (Pulled k told) old new n h all now = pulled_way k old new told n h all
  way_goes (Removed k told) old new n h all now =
      passed h.pulled new n [] [] (taken k h.pulled new told n h.takes) (pulled_way k old h.pulled h.answer n h.pulls all) (All-nil P)
  way_goes other old new n h all now = plain other old new n h tt refl all now

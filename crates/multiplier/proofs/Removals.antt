-- What removals drop, each call, and all calls.
use Rattle.std.proofs.Common.{◌≡◌, ◌≢◌, ℕ, ◌<◌, ◌≤◌, ◌==◌, ◌&&◌, max, Bool, true, false, not, List, [], ◌∷◌, ◌++◌, append_assoc, length, map, Option}
use Rattle.std.proofs.{Common.{Some, None, Result, Ok, Err, refl, sym, ap, ◌∙◌, subst, arith, inl, inr}, lemmas.Bool.{cases_eq, cases_Bool, eq-eqb}}
use Rattle.std.proofs.lemmas.{Bool.ne_eqb, List.{append-nil, map-append, Elements.{filter-append}}}
use Rattle.std.specs.{Prelude.{if◌then◌else◌}, Option.option_to_list}
use Rattle.fis_view.specs.Frames.{Stamped}
use Rattle.pm_ports.specs.Port as port
use Rattle.pm_ports.specs.declared.port.{GoneError.GoneError, Offered.Offered}
use Rattle.pm_ports.specs.declared.port.Offered.TheVariants as offered
use Rattle.multiplier.specs.{State.{PmState, IsSound, port_at, rising, falling}, Rules.{FromDeviceRule, GoneRule, without_device}}
use Rattle.multiplier.specs.{declared.multiplier.{Passed.Passed, PmRefusal.PmRefusal}, Passing.{Call, FromHost, FromDevice, Came, Gone, NextUp}}
use Rattle.multiplier.specs.Passing.{PutBackUp, NextDown, PutBackDown, Does, DoesAll, Past, Suits, past_after, all_past, lost_from, of_conn, for_conn}
use Rattle.multiplier.specs.Passing.{held_of, came_by, came_in, lost_up_by, lost_up, to_port, falls_to, falls, passed_by, passed_down, lost_down_by}
use Rattle.multiplier.specs.Passing.{lost_down, present_after, all_present, gone_by, all_gone, highest, answers, answer_by, answers_made, PassInOrder}
use Rattle.multiplier.specs.Between.{IsOver, IsStep}
use Rattle.multiplier.specs.declared.multiplier.Passed.TheVariants as passed
use Rattle.multiplier.proofs.{Ports.{kept_part, this_port, other_port}, Gone.{up_to_is, still_up_to, never_up_to, goes}, Sound.gone_sound}
use Rattle.multiplier.proofs.PassingLemmas.{IsPlain, same, keep_connections, keep_falling, keep_last, keep_answer, keep_numbers, host_step}
use Rattle.multiplier.proofs.PassingLemmas.{offer_step, came_step, turn_step, put_back_step, lower_step, raise_step}

-- ---- one call

-- a call that drops nothing
record DropsNone (call : Call) : Type 0 where
  up : (n c : ℕ) → lost_up_by n c call ≡ []
  down : (n : ℕ) → lost_down_by n call ≡ []
  gone : (n : ℕ) → gone_by n call ≡ []

-- nor lets in what is gone
abbrev LetsNone : PmState → Call → Type 0
LetsNone old call = (n c : ℕ) → n < 15 → port.is_gone (port_at old n) c ≡ true → (came_by n c call ≡ []) × (for_conn c (passed_by n (port_at old n).present call) ≡ [])

as_step : (past : Past) (old : PmState) (call : Call) (new : PmState) → IsPlain past old call new → DropsNone call → LetsNone old call → IsStep past old call new
as_step past old call new is none lets = record {
  sound = is.sound;
  up = λ n c lt. ap (λ (xs : List Stamped). of_conn n c (past_after past call).up ++ held_of n c new ++ xs) (none.up n c) ∙ append-nil (of_conn n c (past_after past call).up ++ held_of n c new) ∙ is.up n c lt;
  connections = is.connections;
  last = is.last;
  present = is.present;
  down = λ n lt. ap (λ (xs : List Stamped). to_port n (past_after past call).down ++ falls_to n new ++ xs) (none.down n) ∙ append-nil (to_port n (past_after past call).down ++ falls_to n new) ∙ is.down n lt;
  connections_down = is.connections_down;
  gone = λ n lt. is.gone n ∙ ap (λ (xs : List ℕ). highest (port_at old n).gone xs) (sym (none.gone n));
  kept = λ n c lt not_so. (none.up n c, ap (for_conn c) (none.down n));
  over = λ n c lt gone. record { came = (lets n c lt gone).0; lost = none.up n c; passed = (lets n c lt gone).1; lost_down = ap (for_conn c) (none.down n) };
  answered = is.answered;
  numbers = is.numbers;
}

-- ---- a frame that passes is of no connection that is gone

test_other : (c : ℕ) (a : Bool) (frame : Stamped) → frame.stamp.conn ≢ c → (a && frame.stamp.conn == c) ≡ false
test_other c true frame ne = ne_eqb frame.stamp.conn c ne
test_other c false frame ne = refl

of_other_conn : (n c : ℕ) (frame : Stamped) → frame.stamp.conn ≢ c → of_conn n c (frame ∷ []) ≡ []
of_other_conn n c frame ne = rw (test_other c (frame.stamp.port == n) frame ne) refl

for_other_conn : (c : ℕ) (frame : Stamped) → frame.stamp.conn ≢ c → for_conn c (frame ∷ []) ≡ []
for_other_conn c frame ne = rw (ne_eqb frame.stamp.conn c ne) refl

-- where one is gone and the other is not
pub apart : (highest a c : ℕ) → port.is_up_to highest a ≡ false → port.is_up_to highest c ≡ true → a ≢ c
apart highest a c not_so so = λ same. absurd (let wrong : false ≡ true = sym not_so ∙ ap (port.is_up_to highest) same ∙ so in cc)

none_if : (b : Bool) {xs : List Stamped} → xs ≡ [] → (if b then xs else []) ≡ []
none_if true e = e
none_if false e = refl

-- the connection that is present is not gone
present_apart : (old : PmState) (n conn c : ℕ) → IsSound old → (port_at old n).present ≡ Some conn → port.is_gone (port_at old n) c ≡ true → conn ≢ c
present_apart old n conn c sound there so = λ same.
    let above : (port_at old n).gone < conn = (sound.ports n).sound.above conn there in
    let within : c ≤ (port_at old n).gone = (up_to_is (port_at old n).gone c so).1 in
    absurd (omega (arith, same))

falls_apart : (old : PmState) (n c : ℕ) (present : Option ℕ) (frame : Stamped) → IsSound old → (port_at old n).present ≡ present → port.is_gone (port_at old n) c ≡ true
    → for_conn c (falls present frame) ≡ []
falls_apart old n c None frame sound there so = refl
falls_apart old n c (Some conn) frame sound there so = for_other_conn c (falling conn frame) (present_apart old n conn c sound there so)

host_lets : (old : PmState) (frame : Stamped) (result : Result Passed (Stamped × PmRefusal)) (made : Option Stamped) → IsSound old → LetsNone old (FromHost frame result made)
host_lets old frame (Ok (passed.Down m)) made sound n c lt so = (refl, by_port (m == n))
  where
    by_port : (b : Bool) → for_conn c (if b then falls (port_at old n).present frame else []) ≡ []
    by_port true = falls_apart old n c (port_at old n).present frame sound refl so
    by_port false = refl
host_lets old frame (Ok passed.Control) made sound n c lt so = (refl, refl)
host_lets old frame other made sound n c lt so = (refl, refl)

offer_lets : (old : PmState) (m : ℕ) (frame : Stamped) (result : Result Offered Stamped) (new : PmState) → FromDeviceRule old m frame result new → LetsNone old (FromDevice m frame result)
offer_lets old m frame (Ok offered.Held) new rule n c lt so = (
  elim (cases_eq n m) [
    | inl here ↦ none_if (m == n) (of_other_conn n c (rising n frame) (apart (port_at old m).gone frame.stamp.conn c rule.0 (subst (λ (k : ℕ). port.is_gone (port_at old k) c ≡ true) here so)))
    | inr other ↦ ap (λ (b : Bool). if b then of_conn n c (rising n frame ∷ []) else []) (ne_eqb m n (λ h. other (sym h)))
  ],
  refl,
)
offer_lets old m frame other new rule n c lt so = (refl, refl)

-- ---- a device went

-- what a removal leaves in a place, and then what it dropped, is what was there
split_left : (gone : ℕ) (o : Option Stamped) → option_to_list (port.left_in gone o) ++ option_to_list (lost_from o (port.left_in gone o)) ≡ option_to_list o
split_left gone None = refl
split_left gone (Some frame) = by_test (port.is_up_to gone frame.stamp.conn)
  where
    by_test : (b : Bool) → option_to_list (port.only_if (not b) frame) ++ option_to_list (lost_from (Some frame) (port.only_if (not b) frame)) ≡ frame ∷ []
    by_test true = refl
    by_test false = refl

-- what it dropped counts for nothing where frames of connections that are gone do
lost_fails : (P : Option Stamped → List Stamped) (gone : ℕ) (o : Option Stamped) → P None ≡ [] → ((frame : Stamped) → port.is_up_to gone frame.stamp.conn ≡ true → P (Some frame) ≡ [])
    → P (lost_from o (port.left_in gone o)) ≡ []
lost_fails P gone None none fails = none
lost_fails P gone (Some frame) none fails = by_test (port.is_up_to gone frame.stamp.conn) refl
  where
    by_test : (b : Bool) → port.is_up_to gone frame.stamp.conn ≡ b → P (lost_from (Some frame) (port.only_if (not b) frame)) ≡ []
    by_test true is = fails frame is
    by_test false is = none

-- and where what was there did
lost_none : (P : Option Stamped → List Stamped) (o left : Option Stamped) → P None ≡ [] → P o ≡ [] → P (lost_from o left) ≡ []
lost_none P o None none is = is
lost_none P o (Some frame) none is = none

lost_same : (o : Option Stamped) → lost_from o o ≡ None
lost_same None = refl
lost_same (Some frame) = refl

held_apart : (old : PmState) (n c : ℕ) → IsSound old → port.is_gone (port_at old n) c ≡ true → held_of n c old ≡ []
held_apart old n c sound so = by_up (port_at old n).up refl
  where
    by_up : (o : Option Stamped) → (port_at old n).up ≡ o → of_conn n c (map (rising n) (option_to_list o)) ≡ []
    by_up None is = refl
    by_up (Some frame) is = of_other_conn n c (rising n frame) (apart (port_at old n).gone frame.stamp.conn c ((sound.ports n).stays frame is) so)

waits_apart : (old : PmState) (n c : ℕ) → IsSound old → port.is_gone (port_at old n) c ≡ true → for_conn c (falls_to n old) ≡ []
waits_apart old n c sound so = by_down (port_at old n).down refl
  where
    by_down : (o : Option Stamped) → (port_at old n).down ≡ o → for_conn c (option_to_list o) ≡ []
    by_down None is = refl
    by_down (Some frame) is = for_other_conn c frame (present_apart old n frame.stamp.conn c sound ((sound.ports n).meant frame is) so)

-- what is held of a connection, and what waits for it, of a place
abbrev up_of : ℕ → ℕ → Option Stamped → List Stamped
up_of n c o = of_conn n c (map (rising n) (option_to_list o))

abbrev down_of : ℕ → Option Stamped → List Stamped
down_of c o = for_conn c (option_to_list o)

up_apart : (n c gone : ℕ) (frame : Stamped) → port.is_up_to gone frame.stamp.conn ≡ true → port.is_up_to gone c ≡ false → up_of n c (Some frame) ≡ []
up_apart n c gone frame so not_so = of_other_conn n c (rising n frame) (λ same. apart gone c frame.stamp.conn not_so so (sym same))

down_apart : (c gone : ℕ) (frame : Stamped) → port.is_up_to gone frame.stamp.conn ≡ true → port.is_up_to gone c ≡ false → down_of c (Some frame) ≡ []
down_apart c gone frame so not_so = for_other_conn c frame (λ same. apart gone c frame.stamp.conn not_so so (sym same))

-- both parts of a place as they would go up
split_up : (n c gone : ℕ) (o : Option Stamped) → up_of n c (port.left_in gone o) ++ up_of n c (lost_from o (port.left_in gone o)) ≡ up_of n c o
split_up n c gone o =
    let left : List Stamped = option_to_list (port.left_in gone o) in
    let lost : List Stamped = option_to_list (lost_from o (port.left_in gone o)) in
    sym (filter-append (λ (f : Stamped). f.stamp.port == n && f.stamp.conn == c) (map (rising n) left) (map (rising n) lost))
    ∙ ap (of_conn n c) (sym (map-append (rising n) left lost))
    ∙ ap (λ (xs : List Stamped). of_conn n c (map (rising n) xs)) (split_left gone o)

module _ (past : Past) (old : PmState) (m conn : ℕ) (new : PmState) (sound : IsSound old) (lt : m < 15) (lets : port.gone_refusal (port_at old m) conn ≡ None) (e : new ≡ without_device old m conn) (done : Unit {0}) where
  abbrev left : port.PortState
  left = port.with_removal (port_at old m) conn

  abbrev dropped_up : Option Stamped
  dropped_up = lost_from (port_at old m).up (port.left_in conn (port_at old m).up)

  abbrev dropped_down : Option Stamped
  dropped_down = lost_from (port_at old m).down (port.left_in conn (port_at old m).down)

  abbrev goes_call : Call
  goes_call = Gone m conn (Ok done) dropped_up dropped_down

  left_here : port_at new m ≡ left
  left_here = let room : length old.ports ≡ 15 = sound.room in ap (λ (pm : PmState). port_at pm m) e ∙ this_port old.ports m left (omega arith)

  left_other : (n : ℕ) → n ≢ m → port_at new n ≡ port_at old n
  left_other n other = ap (λ (pm : PmState). port_at pm n) e ∙ other_port old.ports m n left other

  -- what is true of the port and of the others is true of each
  at_each : (P : ℕ → Bool → Type 0) → P m true → ((n : ℕ) → n ≢ m → P n false) → (n : ℕ) → P n (m == n)
  at_each P here others n =
      elim (cases_eq n m) [
        | inl same ↦ subst (λ (k : ℕ). P k (m == k)) (sym same) (subst (P m) (sym (eq-eqb m m refl)) here)
        | inr other ↦ subst (P n) (sym (ne_eqb m n (λ h. other (sym h)))) (others n other)
      ]

  left_up : (n c : ℕ) → of_conn n c past.up ++ held_of n c new ++ lost_up_by n c goes_call ≡ of_conn n c past.up ++ held_of n c old ++ []
  left_up n c =
      at_each (λ k b. of_conn k c past.up ++ held_of k c new ++ (if b then up_of k c dropped_up else []) ≡ of_conn k c past.up ++ held_of k c old ++ [])
      (ap (λ (p : port.PortState). of_conn m c past.up ++ up_of m c p.up ++ up_of m c dropped_up) left_here
      ∙ append_assoc (of_conn m c past.up) (up_of m c (port.left_in conn (port_at old m).up)) (up_of m c dropped_up)
      ∙ ap (λ (xs : List Stamped). of_conn m c past.up ++ xs) (split_up m c conn (port_at old m).up)
      ∙ sym (append-nil (of_conn m c past.up ++ held_of m c old)))
      (λ k other. ap (λ (p : port.PortState). of_conn k c past.up ++ up_of k c p.up ++ []) (left_other k other)) n

  left_down : (n : ℕ) → to_port n past.down ++ falls_to n new ++ lost_down_by n goes_call ≡ to_port n past.down ++ falls_to n old ++ []
  left_down n =
      at_each (λ k b. to_port k past.down ++ falls_to k new ++ (if b then option_to_list dropped_down else []) ≡ to_port k past.down ++ falls_to k old ++ [])
      (ap (λ (p : port.PortState). to_port m past.down ++ option_to_list p.down ++ option_to_list dropped_down) left_here
      ∙ append_assoc (to_port m past.down) (option_to_list (port.left_in conn (port_at old m).down)) (option_to_list dropped_down)
      ∙ ap (λ (xs : List Stamped). to_port m past.down ++ xs) (split_left conn (port_at old m).down)
      ∙ sym (append-nil (to_port m past.down ++ falls_to m old)))
      (λ k other. ap (λ (p : port.PortState). to_port k past.down ++ option_to_list p.down ++ []) (left_other k other)) n

  left_last : (n : ℕ) → (port_at new n).last ≡ (port_at old n).last
  left_last n = ap (λ (pm : PmState). (port_at pm n).last) e ∙ kept_part (λ (p : port.PortState). p.last) old.ports m left refl n

  left_present : (n : ℕ) → (port_at new n).present ≡ (if m == n then None else (port_at old n).present)
  left_present n =
      at_each (λ k b. (port_at new k).present ≡ (if b then None else (port_at old k).present))
      (ap (λ (p : port.PortState). p.present) left_here) (λ k other. ap (λ (p : port.PortState). p.present) (left_other k other)) n

  above_gone : (port_at old m).gone < conn
  above_gone = (sound.ports m).sound.above conn (goes (port_at old m) conn lets)

  left_gone : (n : ℕ) → (port_at new n).gone ≡ highest (port_at old n).gone (gone_by n goes_call)
  left_gone n =
      at_each (λ k b. (port_at new k).gone ≡ highest (port_at old k).gone (if b then conn ∷ [] else []))
      (let here : (port_at new m).gone ≡ conn = ap (λ (p : port.PortState). p.gone) left_here in omega (arith, above_gone))
      (λ k other. ap (λ (p : port.PortState). p.gone) (left_other k other)) n

  left_kept : (n c : ℕ) → port.is_gone (port_at new n) c ≡ false → (lost_up_by n c goes_call ≡ []) × (for_conn c (lost_down_by n goes_call) ≡ [])
  left_kept n c =
      at_each (λ k b. port.is_gone (port_at new k) c ≡ false → ((if b then up_of k c dropped_up else []) ≡ []) × (for_conn c (if b then option_to_list dropped_down else []) ≡ []))
      (λ not_so. let never : port.is_up_to conn c ≡ false = sym (ap (λ (p : port.PortState). port.is_gone p c) left_here) ∙ not_so in (
        lost_fails (up_of m c) conn (port_at old m).up refl (λ frame so. up_apart m c conn frame so never),
        lost_fails (down_of c) conn (port_at old m).down refl (λ frame so. down_apart c conn frame so never),
      ))
      (λ k other not_so. (refl, refl)) n

  left_over : (n c : ℕ) → port.is_gone (port_at old n) c ≡ true → (lost_up_by n c goes_call ≡ []) × (for_conn c (lost_down_by n goes_call) ≡ [])
  left_over n c =
      at_each (λ k b. port.is_gone (port_at old k) c ≡ true → ((if b then up_of k c dropped_up else []) ≡ []) × (for_conn c (if b then option_to_list dropped_down else []) ≡ []))
      (λ so. (
        lost_none (up_of m c) (port_at old m).up (port.left_in conn (port_at old m).up) refl (held_apart old m c sound so),
        lost_none (down_of c) (port_at old m).down (port.left_in conn (port_at old m).down) refl (waits_apart old m c sound so),
      ))
      (λ k other so. (refl, refl)) n

  left_step : IsStep past old goes_call new
  left_step = record {
    sound = subst IsSound (sym e) (gone_sound old m conn _ sound lt lets);
    up = λ n c small. left_up n c;
    connections = λ n small h. keep_connections past old new n (left_last n) h;
    last = λ n. keep_last past old new n (left_last n);
    present = λ n small. left_present n;
    down = λ n small. left_down n;
    connections_down = λ n small h. keep_falling past old new n (left_last n) h;
    gone = λ n small. left_gone n;
    kept = λ n c small not_so. left_kept n c not_so;
    over = λ n c small so. let o = left_over n c so in record { came = refl; lost = o.0; passed = refl; lost_down = o.1 };
    answered = keep_answer past old new (ap (λ (pm : PmState). pm.answer) e);
    numbers = λ first h. keep_numbers past old new (ap (λ (pm : PmState). pm.number) e) first h;
  }

refused_drops : (m conn : ℕ) (error : GoneError) → DropsNone (Gone m conn (Err error) None None)
refused_drops m conn error = record { up = λ n c. none_if (m == n) refl; down = λ n. none_if (m == n) refl; gone = λ n. refl }

gone_step : (past : Past) (old : PmState) (m conn : ℕ) (result : Result (Unit {0}) GoneError) (new : PmState) → IsSound old → m < 15 → GoneRule old m conn result new
    → IsStep past old (Gone m conn result (lost_from (port_at old m).up (port_at new m).up) (lost_from (port_at old m).down (port_at new m).down)) new
gone_step past old m conn (Ok done) new sound lt rule =
    let here : port_at new m ≡ port.with_removal (port_at old m) conn = left_here past old m conn new sound lt (sym rule.0) rule.1 done in
    subst (λ (p : port.PortState). IsStep past old (Gone m conn (Ok done) (lost_from (port_at old m).up p.up) (lost_from (port_at old m).down p.down)) new) (sym here)
    (left_step past old m conn new sound lt (sym rule.0) rule.1 done)
gone_step past old m conn (Err error) new sound lt rule =
    subst (λ (p : port.PortState). IsStep past old (Gone m conn (Err error) (lost_from (port_at old m).up p.up) (lost_from (port_at old m).down p.down)) new) (sym (ap (λ (pm : PmState). port_at pm m) rule.1))
    (subst (λ (o : Option Stamped × Option Stamped). IsStep past old (Gone m conn (Err error) o.0 o.1) new) (λ i. (sym (lost_same (port_at old m).up) i, sym (lost_same (port_at old m).down) i))
    (as_step past old (Gone m conn (Err error) None None) new
    (same past old (Gone m conn (Err error) None None) new (record { after = refl; came = λ n c. refl; passed = λ n. refl; present = λ n. refl; answer = refl }) sound rule.1)
    (refused_drops m conn error) (λ n c small so. (refl, refl))))

-- ---- each call

drops_none : {call : Call} → ((n c : ℕ) → lost_up_by n c call ≡ []) → ((n : ℕ) → lost_down_by n call ≡ []) → ((n : ℕ) → gone_by n call ≡ []) → DropsNone call
drops_none up down gone = record { up = up; down = down; gone = gone }

pub one_step : (past : Past) (old : PmState) (call : Call) (new : PmState) → IsSound old → Suits past call → Does old call new → IsStep past old call new
one_step past old (FromHost frame result made) new sound suits does =
    subst (λ (o : Option Stamped). IsStep past old (FromHost frame result o) new) (sym does.1)
    (as_step past old (FromHost frame result _) new (host_step past old frame result new sound does.0) (drops_none (λ n c. refl) (λ n. refl) (λ n. refl)) (host_lets old frame result _ sound))
one_step past old (FromDevice m frame result) new sound suits does =
    let most : old.registers.ports ≤ 15 = sound.registers.ports in
    let less : m < old.registers.ports = does.0 in
    as_step past old (FromDevice m frame result) new (offer_step past old m frame result new sound (omega arith) does.1) (drops_none (λ n c. refl) (λ n. refl) (λ n. refl)) (offer_lets old m frame result new does.1)
one_step past old (Came m conn result) new sound suits does =
    let most : old.registers.ports ≤ 15 = sound.registers.ports in
    let less : m < old.registers.ports = does.0 in
    as_step past old (Came m conn result) new (came_step past old m conn result new sound (omega arith) does.1) (drops_none (λ n c. refl) (λ n. refl) (λ n. refl)) (λ n c lt so. (refl, refl))
one_step past old (Gone m conn result up down) new sound suits does =
    let most : old.registers.ports ≤ 15 = sound.registers.ports in
    let less : m < old.registers.ports = does.0 in
    subst (λ (o : Option Stamped × Option Stamped). IsStep past old (Gone m conn result o.0 o.1) new) (λ i. (sym does.2 i, sym does.3 i)) (gone_step past old m conn result new sound (omega arith) does.1)
one_step past old (NextUp result) new sound suits does =
    as_step past old (NextUp result) new (turn_step past old result new sound does) (drops_none (λ n c. refl) (λ n. refl) (λ n. refl)) (λ n c lt so. (refl, refl))
one_step past old (PutBackUp frame) new sound suits does =
    as_step past old (PutBackUp frame) new (put_back_step past old frame new suits does.0 does.1) (drops_none (λ n c. refl) (λ n. refl) (λ n. refl)) (λ n c lt so. (refl, refl))
one_step past old (NextDown m result) new sound suits does =
    as_step past old (NextDown m result) new (lower_step past old m result new sound does.1) (drops_none (λ n c. refl) (λ n. refl) (λ n. refl)) (λ n c lt so. (refl, refl))
one_step past old (PutBackDown m frame) new sound suits does =
    as_step past old (PutBackDown m frame) new (raise_step past does.0.0 old m frame new does.0.1 does.0.2 (does.1 does.0.0 does.0.2) suits) (drops_none (λ n c. refl) (λ n. refl) (λ n. refl)) (λ n c lt so. (refl, refl))

-- ---- the highest that went

highest_one : (x g : ℕ) (ys : List ℕ) → highest (max x g) ys ≡ max x (highest g ys)
highest_one x g [] = refl
highest_one x g (y ∷ ys) = let e : highest (max x g) ys ≡ max x (highest g ys) = highest_one x g ys in omega arith

highest_on : (g : ℕ) (xs ys : List ℕ) → highest (highest g xs) ys ≡ highest g (xs ++ ys)
highest_on g [] ys = refl
highest_on g (x ∷ xs) ys = highest_one x (highest g xs) ys ∙ ap (λ (k : ℕ). max x k) (highest_on g xs ys)

pub highest_least : (g : ℕ) (xs : List ℕ) → g ≤ highest g xs
highest_least g [] = omega arith
highest_least g (x ∷ xs) = let least : g ≤ highest g xs = highest_least g xs in omega arith

-- ---- all calls

-- lists of what passed, what waits and what was dropped, one call after another
module _ {A : Type 0} (now h2 l1 mid h1 past h0 k0 k1 l0 : List A) (later : now ++ h2 ++ l1 ≡ mid ++ h1 ++ k1) (first : mid ++ h1 ++ l0 ≡ past ++ h0 ++ k0) where
  -- where the first call drops nothing
  joined : l0 ≡ [] → now ++ h2 ++ (l0 ++ l1) ≡ past ++ h0 ++ (k0 ++ k1)
  joined none =
      ap (λ ys. now ++ h2 ++ (ys ++ l1)) none
      ∙ later
      ∙ ap (λ ys. ys ++ k1) (sym (append-nil (mid ++ h1)) ∙ ap (λ ys. mid ++ h1 ++ ys) (sym none) ∙ first)
      ∙ append_assoc (past ++ h0) k0 k1

  -- where nothing passes after it
  ended : now ≡ mid → h2 ≡ [] → h1 ≡ [] → l1 ≡ [] → k1 ≡ [] → now ++ h2 ++ (l0 ++ l1) ≡ past ++ h0 ++ (k0 ++ k1)
  ended same after before lost came =
      ap (λ ys. ys ++ h2 ++ (l0 ++ l1)) same
      ∙ ap (λ ys. mid ++ ys ++ (l0 ++ l1)) (after ∙ sym before)
      ∙ ap (λ ys. mid ++ h1 ++ (l0 ++ ys)) lost
      ∙ ap (λ ys. mid ++ h1 ++ ys) (append-nil l0)
      ∙ first
      ∙ ap (λ ys. past ++ h0 ++ ys) (sym (append-nil k0) ∙ ap (λ ys. k0 ++ ys) (sym came))

-- where nothing waits, is dropped or comes in, what passed stays
nothing : {A : Type 0} (x' h' l x h c : List A) → x' ++ h' ++ l ≡ x ++ h ++ c → h' ≡ [] → l ≡ [] → h ≡ [] → c ≡ [] → x' ≡ x
nothing {A} x' h' l x h c e none lost held came =
    sym (twice x') ∙ ap (λ ys. x' ++ [] ++ ys) (sym lost) ∙ ap (λ ys. x' ++ ys ++ l) (sym none)
    ∙ e ∙ ap (λ ys. x ++ ys ++ c) held ∙ ap (λ ys. x ++ [] ++ ys) came ∙ twice x
  where
    twice : (ys : List A) → ys ++ [] ++ [] ≡ ys
    twice ys = append-nil (ys ++ []) ∙ append-nil ys

-- lists that are empty together
both_empty : {A : Type 0} (xs ys : List A) → xs ++ ys ≡ [] → (xs ≡ []) × (ys ≡ [])
both_empty [] ys e = (refl, e)
both_empty (x ∷ xs) ys e = absurd cc

-- the frames of a connection among those of three lists
three : (c : ℕ) (xs ys zs : List Stamped) → for_conn c (xs ++ ys ++ zs) ≡ for_conn c xs ++ for_conn c ys ++ for_conn c zs
three c xs ys zs =
    let test : Stamped → Bool = λ f. f.stamp.conn == c in
    filter-append test (xs ++ ys) zs ∙ ap (λ fs. fs ++ for_conn c zs) (filter-append test xs ys)

two : (c : ℕ) (xs ys : List Stamped) → for_conn c (xs ++ ys) ≡ for_conn c xs ++ for_conn c ys
two c xs ys = filter-append (λ f. f.stamp.conn == c) xs ys

-- what a call does to the frames of one connection on their way down
each_down : (past : Past) (old : PmState) (call : Call) (new : PmState) → IsStep past old call new → (n c : ℕ) → n < 15
    → for_conn c (to_port n (past_after past call).down) ++ for_conn c (falls_to n new) ++ for_conn c (lost_down_by n call)
    ≡ for_conn c (to_port n past.down) ++ for_conn c (falls_to n old) ++ for_conn c (passed_by n (port_at old n).present call)
each_down past old call new step n c lt =
    sym (three c (to_port n (past_after past call).down) (falls_to n new) (lost_down_by n call))
    ∙ ap (for_conn c) (step.down n lt)
    ∙ three c (to_port n past.down) (falls_to n old) (passed_by n (port_at old n).present call)

-- what is gone stays gone
pub step_gone : (past : Past) (old : PmState) (call : Call) (new : PmState) → IsStep past old call new → (n : ℕ) → n < 15 → (port_at old n).gone ≤ (port_at new n).gone
step_gone past old call new step n lt =
    let e : (port_at new n).gone ≡ highest (port_at old n).gone (gone_by n call) = step.gone n lt in
    let least : (port_at old n).gone ≤ highest (port_at old n).gone (gone_by n call) = highest_least (port_at old n).gone (gone_by n call) in
    omega arith

-- of a connection that is gone nothing passes
record PassesNone (n c : ℕ) (past : Past) (old : PmState) (calls : List Call) (new : PmState) : Type 0 where
  up : of_conn n c (all_past past calls).up ≡ of_conn n c past.up
  down : for_conn c (to_port n (all_past past calls).down) ≡ for_conn c (to_port n past.down)
  came : came_in n c calls ≡ []
  lost : lost_up n c calls ≡ []
  passed : for_conn c (passed_down n (port_at old n).present calls) ≡ []
  lost_down : for_conn c (lost_down n calls) ≡ []
  held : held_of n c new ≡ []
  waits : for_conn c (falls_to n new) ≡ []

none_after : {A : Type 0} {xs ys : List A} → xs ≡ [] → ys ≡ [] → xs ++ ys ≡ []
none_after {A} {xs} {ys} e f = ap (λ zs. zs ++ ys) e ∙ f

passes_none : (n c : ℕ) (past : Past) (old new : PmState) (calls : List Call) → n < 15 → IsSound old → DoesAll past old calls new → port.is_gone (port_at old n) c ≡ true → PassesNone n c past old calls new
passes_none n c past old new [] lt sound does so =
    subst (λ (pm : PmState). PassesNone n c past old [] pm) (sym does) (record {
      up = refl;
      down = refl;
      came = refl;
      lost = refl;
      passed = refl;
      lost_down = refl;
      held = held_apart old n c sound so;
      waits = waits_apart old n c sound so;
    })
passes_none n c past old new (call ∷ calls) lt sound does so =
    let mid : PmState = does.0 in
    let first : IsStep past old call mid = one_step past old call mid sound does.1 does.2 in
    let o : IsOver n c (port_at old n).present call = first.over n c lt so in
    let still : port.is_gone (port_at mid n) c ≡ true = still_up_to (port_at old n).gone (port_at mid n).gone c (step_gone past old call mid first n lt) so in
    let rest : PassesNone n c (past_after past call) mid calls new = passes_none n c (past_after past call) mid new calls lt first.sound does.3 still in
    record {
      up = rest.up ∙ nothing (of_conn n c (past_after past call).up) (held_of n c mid) (lost_up_by n c call) (of_conn n c past.up) (held_of n c old) (came_by n c call)
          (first.up n c lt) (held_apart mid n c first.sound still) o.lost (held_apart old n c sound so) o.came;
      down = rest.down ∙ nothing (for_conn c (to_port n (past_after past call).down)) (for_conn c (falls_to n mid)) (for_conn c (lost_down_by n call))
          (for_conn c (to_port n past.down)) (for_conn c (falls_to n old)) (for_conn c (passed_by n (port_at old n).present call))
          (each_down past old call mid first n c lt) (waits_apart mid n c first.sound still) o.lost_down (waits_apart old n c sound so) o.passed;
      came = none_after o.came rest.came;
      lost = none_after o.lost rest.lost;
      passed = two c (passed_by n (port_at old n).present call) (passed_down n (present_after n (port_at old n).present call) calls)
          ∙ none_after o.passed (ap (λ (p : Option ℕ). for_conn c (passed_down n p calls)) (sym (first.present n lt)) ∙ rest.passed);
      lost_down = two c (lost_down_by n call) (lost_down n calls) ∙ none_after o.lost_down rest.lost_down;
      held = rest.held;
      waits = rest.waits;
    }

pub pass_in_order : (past : Past) (old new : PmState) (calls : List Call) → IsSound old → DoesAll past old calls new → PassInOrder past old calls new
pass_in_order past old new [] sound does =
    subst (λ (pm : PmState). PassInOrder past old [] pm) (sym does) (record {
      sound = sound;
      up = λ n c lt. refl;
      connections = λ n lt h. h;
      last = λ n. omega arith;
      present = λ n lt. refl;
      down = λ n lt none. sym (append-nil (to_port n past.down ++ falls_to n old));
      down_each = λ n c lt. refl;
      connections_down = λ n lt h. h;
      gone = λ n lt. refl;
      kept = λ n c lt not_so. (refl, refl);
      over = λ n c lt so. (refl, refl);
      answered = sym (append-nil (answers past.up ++ option_to_list old.answer));
      numbers = λ first h. h;
    })
pass_in_order past old new (call ∷ calls) sound does =
    let mid : PmState = does.0 in
    let after : Past = past_after past call in
    let first : IsStep past old call mid = one_step past old call mid sound does.1 does.2 in
    let later : PassInOrder after mid calls new = pass_in_order after mid new calls first.sound does.3 in
    let now : Past = all_past after calls in
    let over : (n c : ℕ) → n < 15 → port.is_gone (port_at mid n) c ≡ true → PassesNone n c after mid calls new = λ n c lt so. passes_none n c after mid new calls lt first.sound does.3 so in
    let passed : (n : ℕ) → n < 15 → passed_down n (present_after n (port_at old n).present call) calls ≡ passed_down n (port_at mid n).present calls = λ n lt. ap (λ (o : Option ℕ). passed_down n o calls) (sym (first.present n lt)) in
    record {
      sound = later.sound;
      up = λ n c lt.
          elim (cases_Bool (port.is_gone (port_at mid n) c)) [
            | inl so ↦ let o = over n c lt so in
                ended (of_conn n c now.up) (held_of n c new) (lost_up n c calls) (of_conn n c after.up) (held_of n c mid) (of_conn n c past.up) (held_of n c old) (came_by n c call) (came_in n c calls) (lost_up_by n c call)
                (later.up n c lt) (first.up n c lt) o.up o.held (held_apart mid n c first.sound so) o.lost o.came
            | inr not_so ↦
                joined (of_conn n c now.up) (held_of n c new) (lost_up n c calls) (of_conn n c after.up) (held_of n c mid) (of_conn n c past.up) (held_of n c old) (came_by n c call) (came_in n c calls) (lost_up_by n c call)
                (later.up n c lt) (first.up n c lt) (first.kept n c lt not_so).0
          ];
      connections = λ n lt h. later.connections n lt (first.connections n lt h);
      last = λ n. let a : (port_at old n).last ≤ (port_at mid n).last = first.last n in let b : (port_at mid n).last ≤ (port_at new n).last = later.last n in omega arith;
      present = λ n lt. later.present n lt ∙ ap (λ (o : Option ℕ). all_present n o calls) (first.present n lt);
      down = λ n lt none.
          let each = both_empty (lost_down_by n call) (lost_down n calls) none in
          later.down n lt each.1 ∙ ap (λ xs. to_port n after.down ++ falls_to n mid ++ xs) (sym (passed n lt))
          ∙ ap (λ xs. xs ++ passed_down n (present_after n (port_at old n).present call) calls)
          (sym (append-nil (to_port n after.down ++ falls_to n mid)) ∙ ap (λ xs. to_port n after.down ++ falls_to n mid ++ xs) (sym each.0) ∙ first.down n lt)
          ∙ append_assoc (to_port n past.down ++ falls_to n old) (passed_by n (port_at old n).present call) (passed_down n (present_after n (port_at old n).present call) calls);
      down_each = λ n c lt.
          let f : List Stamped → List Stamped = for_conn c in
          let by = passed_by n (port_at old n).present call in
          let rest = passed_down n (port_at mid n).present calls in
          let split : f (lost_down n (call ∷ calls)) ≡ f (lost_down_by n call) ++ f (lost_down n calls) = two c (lost_down_by n call) (lost_down n calls) in
          let split_passed : f by ++ f rest ≡ f (passed_down n (port_at old n).present (call ∷ calls)) =
          ap (λ xs. f by ++ f xs) (sym (passed n lt)) ∙ sym (two c by (passed_down n (present_after n (port_at old n).present call) calls)) in
          let each : f (to_port n now.down) ++ f (falls_to n new) ++ (f (lost_down_by n call) ++ f (lost_down n calls)) ≡ f (to_port n past.down) ++ f (falls_to n old) ++ (f by ++ f rest) =
          elim (cases_Bool (port.is_gone (port_at mid n) c)) [
            | inl so ↦ let o = over n c lt so in
                ended (f (to_port n now.down)) (f (falls_to n new)) (f (lost_down n calls)) (f (to_port n after.down)) (f (falls_to n mid)) (f (to_port n past.down)) (f (falls_to n old)) (f by) (f rest) (f (lost_down_by n call))
                (later.down_each n c lt) (each_down past old call mid first n c lt) o.down o.waits (waits_apart mid n c first.sound so) o.lost_down o.passed
            | inr not_so ↦
                joined (f (to_port n now.down)) (f (falls_to n new)) (f (lost_down n calls)) (f (to_port n after.down)) (f (falls_to n mid)) (f (to_port n past.down)) (f (falls_to n old)) (f by) (f rest) (f (lost_down_by n call))
                (later.down_each n c lt) (each_down past old call mid first n c lt) (first.kept n c lt not_so).1
          ] in
          ap (λ xs. f (to_port n now.down) ++ f (falls_to n new) ++ xs) split ∙ each ∙ ap (λ xs. f (to_port n past.down) ++ f (falls_to n old) ++ xs) split_passed;
      connections_down = λ n lt h. later.connections_down n lt (first.connections_down n lt h);
      gone = λ n lt. later.gone n lt ∙ ap (λ (k : ℕ). highest k (all_gone n calls)) (first.gone n lt) ∙ highest_on (port_at old n).gone (gone_by n call) (all_gone n calls);
      kept = λ n c lt not_so.
          let grown : (port_at mid n).gone ≤ (port_at new n).gone =
          (let e : (port_at new n).gone ≡ highest (port_at mid n).gone (all_gone n calls) = later.gone n lt in
          let least : (port_at mid n).gone ≤ highest (port_at mid n).gone (all_gone n calls) = highest_least (port_at mid n).gone (all_gone n calls) in omega arith) in
          let a = first.kept n c lt (never_up_to (port_at mid n).gone (port_at new n).gone c grown not_so) in
          let b = later.kept n c lt not_so in
          (none_after a.0 b.0, two c (lost_down_by n call) (lost_down n calls) ∙ none_after a.1 b.1);
      over = λ n c lt so. let o = passes_none n c past old new (call ∷ calls) lt sound does so in (o.up, o.down);
      answered = joined_answers (answers now.up) (option_to_list new.answer) (answers after.up) (option_to_list mid.answer) (answers past.up) (option_to_list old.answer) (answer_by call) (answers_made calls) later.answered first.answered;
      numbers = λ start h. later.numbers start (first.numbers start h);
    }
  where
    joined_answers : {A : Type 0} (now waits mid held past waited came rest : List A) → now ++ waits ≡ mid ++ held ++ rest → mid ++ held ≡ past ++ waited ++ came → now ++ waits ≡ past ++ waited ++ (came ++ rest)
    joined_answers now waits mid held past waited came rest later first = later ∙ ap (λ xs. xs ++ rest) first ∙ append_assoc (past ++ waited) came rest

-- The rule of a restored multiplier: what fits is sound.
use Rattle.std.proofs.Common.{◌≡◌, ℕ, zero, suc, ◌+◌, ◌<◌, ◌≤◌, ◌==◌, ◌&&◌, Bool, true, false, not, List, [], ◌∷◌, length, slice_index, Option, Some}
use Rattle.std.proofs.{Common.{None, Err, refl, sym, ap, ◌∙◌, subst, arith, inl, inr}, Math.ListN.{get_or-eq_default}, lemmas.Bool.and_from}
use Rattle.std.proofs.lemmas.Bool.{and_parts, cases_Bool, cases_eq, cases_lt, eq-eqb, eqb-true, le-leb, leb-true}
use Rattle.std.specs.{Prelude.{is_some, nat_le}, Bool.beq, List.{AllByRecursion, list_all, range_with_len}}
use Rattle.saved_state.specs.{State.{KeepsOption, NotSaved, Restores}, declared.words.RestoreError.{RestoreError, TheVariants.OutOfMemory}}
use Rattle.fis_view.specs.{Frames.Stamped, Saved.KeepsFrame}
use Rattle.pm_registers.specs.RegisterMap as map
use Rattle.pm_registers.specs.{Port.opening_port, declared.port.PortRegisters.PortRegisters}
use Rattle.pm_ports.specs.Port as port
use Rattle.pm_ports.specs.Saved.{KeepsPort}
use Rattle.multiplier.specs.{Arbiter.control_port, Between.{Ports, at}, State.{IsPlace, IsSound, IsSoundPort, PmState, is_answer}, Saved.KeepsDown}
use Rattle.multiplier.specs.Saved.{KeepsGiven, KeepsParts, KeepsUp, answer_fits, down_fits, fits, fits_at, given_fits, parts_of, port_fits, ports_fit}
use Rattle.multiplier.specs.{Saved.{put_down, put_given, put_up, removal_fits, removals_fit, up_fits}, declared.given.Given.{Given, TheVariants.Up}}
use Rattle.multiplier.specs.declared.given.Given.TheVariants.{Down}

-- ---- tests

is_not : (b : Bool) → not b ≡ true → b ≡ false
is_not true e = absurd (cc)
is_not false e = refl

same_test : (a b : Bool) → beq a b ≡ true → a ≡ b
same_test true true e = refl
same_test false false e = refl
same_test true false e = absurd (cc)
same_test false true e = absurd (cc)

test_same : (a b : Bool) → a ≡ b → beq a b ≡ true
test_same true true e = refl
test_same false false e = refl
test_same true false e = absurd (cc)
test_same false true e = absurd (cc)

-- each number of a range
pub each_in : (test : ℕ → Bool) (a n : ℕ) → list_all test (range_with_len a n) ≡ true → (k : ℕ) → a ≤ k → k < a + n → test k ≡ true
each_in test a zero all k low high = absurd (omega (arith, low, high))
each_in test a (suc n) all k low high =
    let both = and_parts (test a) (list_all test (range_with_len (a + 1) n)) all in
    elim (cases_eq k a) [
      | inl same ↦ ap test same ∙ both.0
      | inr apart ↦ each_in test (a + 1) n both.1 k (omega (arith, low, apart)) (omega (arith, high))
    ]

pub all_in : (test : ℕ → Bool) (a n : ℕ) → ((k : ℕ) → k < a + n → test k ≡ true) → list_all test (range_with_len a n) ≡ true
all_in test a zero each = refl
all_in test a (suc n) each =
    and_from (test a) (list_all test (range_with_len (a + 1) n)) (each a (omega arith)) (all_in test (a + 1) n (λ k low. each k (omega (arith, low))))

pub one_fails : (test : ℕ → Bool) (n k : ℕ) → k < n → test k ≡ false → list_all test (range_with_len 0 n) ≡ false
one_fails test n k low fails =
    elim (cases_Bool (list_all test (range_with_len 0 n))) [
      | inl all ↦ let holds : test k ≡ true = each_in test 0 n all k (omega arith) (omega (arith, low)) in absurd (cc)
      | inr not_all ↦ not_all
    ]

-- ---- one port

up_sound : (n gone : ℕ) (up : Option Stamped) → up_fits n gone up ≡ true → (frame : Stamped) → up ≡ Some frame
    → (frame.stamp.port ≡ n) × (port.is_up_to gone frame.stamp.conn ≡ false)
up_sound n gone None fit frame is = absurd (cc)
up_sound n gone (Some there) fit frame is =
    let same : there ≡ frame = cc in
    let both = and_parts (there.stamp.port == n) (not (port.is_up_to gone there.stamp.conn)) fit in
    let P : Stamped → Type 0 = λ f. (f.stamp.port ≡ n) × (port.is_up_to gone f.stamp.conn ≡ false) in
    subst P same (eqb-true there.stamp.port n both.0, is_not (port.is_up_to gone there.stamp.conn) both.1)

sound_up : (n gone : ℕ) (up : Option Stamped) → ((frame : Stamped) → up ≡ Some frame → frame.stamp.port ≡ n)
    → ((frame : Stamped) → up ≡ Some frame → port.is_up_to gone frame.stamp.conn ≡ false) → up_fits n gone up ≡ true
sound_up n gone None stamped stays = refl
sound_up n gone (Some frame) stamped stays =
    and_from (frame.stamp.port == n) (not (port.is_up_to gone frame.stamp.conn)) (eq-eqb frame.stamp.port n (stamped frame refl)) (ap not (stays frame refl))

down_sound : (present : Option ℕ) (down : Option Stamped) → down_fits present down ≡ true → (frame : Stamped) → down ≡ Some frame
    → present ≡ Some frame.stamp.conn
down_sound present None fit frame is = absurd (cc)
down_sound None (Some there) fit frame is = absurd (cc)
down_sound (Some conn) (Some there) fit frame is =
    let same : there ≡ frame = cc in
    let meant : there.stamp.conn ≡ conn = eqb-true there.stamp.conn conn fit in
    ap Some (sym meant ∙ ap (λ (f : Stamped). f.stamp.conn) same)

sound_down : (present : Option ℕ) (down : Option Stamped) → ((frame : Stamped) → down ≡ Some frame → present ≡ Some frame.stamp.conn)
    → down_fits present down ≡ true
sound_down present None meant = refl
sound_down None (Some frame) meant = let e = meant frame refl in absurd (cc)
sound_down (Some conn) (Some frame) meant =
    let e : Some conn ≡ Some frame.stamp.conn = meant frame refl in
    let same : frame.stamp.conn ≡ conn = cc in
    eq-eqb frame.stamp.conn conn same

port_sound : (n : ℕ) (shown : Bool) (p : port.PortState) → port.IsSound p → port_fits n shown p ≡ true → IsSoundPort n shown p
port_sound n shown p sound fit =
    let both = and_parts (beq shown (is_some p.present) && up_fits n p.gone p.up) (down_fits p.present p.down) fit in
    let first = and_parts (beq shown (is_some p.present)) (up_fits n p.gone p.up) both.0 in record {
      sound = sound;
      agrees = same_test shown (is_some p.present) first.0;
      stamped = λ frame is. (up_sound n p.gone p.up first.1 frame is).0;
      stays = λ frame is. (up_sound n p.gone p.up first.1 frame is).1;
      meant = λ frame is. down_sound p.present p.down both.1 frame is;
    }

sound_port : (n : ℕ) (shown : Bool) (p : port.PortState) → IsSoundPort n shown p → port_fits n shown p ≡ true
sound_port n shown p is =
    and_from (beq shown (is_some p.present) && up_fits n p.gone p.up) (down_fits p.present p.down)
    (and_from (beq shown (is_some p.present)) (up_fits n p.gone p.up) (test_same shown (is_some p.present) is.agrees)
    (sound_up n p.gone p.up is.stamped is.stays))
    (sound_down p.present p.down is.meant)

-- ---- all of them

empty_sound : (n : ℕ) → IsSoundPort n false port.empty_port
empty_sound n = record {
  sound = record { counted = λ conn e. absurd (cc); last = λ conn e. absurd (cc); above = λ conn e. absurd (cc); away = λ e. refl };
  agrees = refl;
  stamped = λ frame e. absurd (cc);
  stays = λ frame e. absurd (cc);
  meant = λ frame e. absurd (cc);
}

-- ports that do not exist
beyond : (n : ℕ) (q : PortRegisters) (p : port.PortState) → q ≡ opening_port → p ≡ port.empty_port → IsSoundPort n q.present p
beyond n q p q_is p_is =
    let P : port.PortState → Type 0 = IsSoundPort n q.present in
    let Q : Bool → Type 0 = λ b. IsSoundPort n b port.empty_port in
    subst P (sym p_is) (subst Q (sym (ap (λ (r : PortRegisters). r.present) q_is)) (empty_sound n))

each_keeps : (ports : Ports) → AllByRecursion KeepsPort ports → (n : ℕ) → n < length ports → KeepsPort (at ports n)
each_keeps [] all n low = absurd (omega (arith, low))
each_keeps (p ∷ ports) all zero low = all.0
each_keeps (p ∷ ports) all (suc n) low = each_keeps ports all.1 n (omega (arith, low))

ports_sound : (registers : map.RegisterMap) (ports : Ports) → length registers.bank ≡ 15 → length ports ≡ 15 → AllByRecursion KeepsPort ports
    → ports_fit registers ports ≡ true → (n : ℕ) → IsSoundPort n (map.port_at registers n).present (at ports n)
unfolding ports_fit
ports_sound registers ports bank room all fit n =
    elim (cases_lt n 15) [
      | inl low ↦ port_sound n (map.port_at registers n).present (at ports n) (each_keeps ports all n (omega (arith, low, room))).1
          (each_in (fits_at registers ports) 0 15 fit n (omega arith) (omega (arith, low)))
      | inr high ↦ beyond n (map.port_at registers n) (at ports n) (get_or-eq_default registers.bank opening_port (omega (arith, high, bank)))
          (get_or-eq_default ports port.empty_port (omega (arith, high, room)))
    ]

sound_ports : (registers : map.RegisterMap) (ports : Ports) → ((n : ℕ) → IsSoundPort n (map.port_at registers n).present (at ports n))
    → ports_fit registers ports ≡ true
unfolding ports_fit
sound_ports registers ports each =
    all_in (fits_at registers ports) 0 15
    (λ n low. sound_port n (map.port_at registers n).present (at ports n) (each n))

-- ---- the answer that waits, and the frame that was given last

removals_sound : (ports : Ports) (shown : List ℕ) → length shown ≡ 15 → removals_fit ports shown ≡ true
    → (n : ℕ) → slice_index shown n ≤ (at ports n).gone
unfolding removals_fit
removals_sound ports shown long fit n =
    elim (cases_lt n 15) [
      | inl low ↦ leb-true (slice_index shown n) (at ports n).gone
          (each_in (removal_fits ports shown) 0 15 fit n (omega arith) (omega (arith, low)))
      | inr high ↦ let none : slice_index shown n ≡ 0 = get_or-eq_default shown 0 (omega (arith, high, long)) in omega (arith, none)
    ]

sound_removals : (ports : Ports) (shown : List ℕ) → ((n : ℕ) → slice_index shown n ≤ (at ports n).gone) → removals_fit ports shown ≡ true
unfolding removals_fit
sound_removals ports shown each =
    all_in (removal_fits ports shown) 0 15 (λ n low. le-leb (slice_index shown n) (at ports n).gone (each n))

abbrev FitsAnswer : Ports → Stamped → Type 0
FitsAnswer ports frame = (is_answer frame ≡ true) × ((n : ℕ) → slice_index frame.stamp.shown n ≤ (at ports n).gone)

answer_sound : (ports : Ports) (answer : Option Stamped) → KeepsOption KeepsFrame answer → answer_fits ports answer ≡ true
    → (frame : Stamped) → answer ≡ Some frame → FitsAnswer ports frame
answer_sound ports None keeps fit frame is = absurd (cc)
answer_sound ports (Some there) keeps fit frame is =
    let same : there ≡ frame = cc in
    let both = and_parts (is_answer there) (removals_fit ports there.stamp.shown) fit in
    let P : Stamped → Type 0 = FitsAnswer ports in
    subst P same (both.0, removals_sound ports there.stamp.shown keeps.0.0.2.1.0 both.1)

sound_answer : (ports : Ports) (answer : Option Stamped) → ((frame : Stamped) → answer ≡ Some frame → is_answer frame ≡ true)
    → ((frame : Stamped) → answer ≡ Some frame → (n : ℕ) → slice_index frame.stamp.shown n ≤ (at ports n).gone) → answer_fits ports answer ≡ true
sound_answer ports None is shows = refl
sound_answer ports (Some frame) is shows =
    and_from (is_answer frame) (removals_fit ports frame.stamp.shown) (is frame refl)
    (sound_removals ports frame.stamp.shown (shows frame refl))

given_sound : (given : Option Given) → given_fits given ≡ true → IsPlace given
given_sound (Some (Up before source stamp)) fit = leb-true before control_port fit
given_sound other fit = tt

sound_given : (given : Option Given) → IsPlace given → given_fits given ≡ true
sound_given (Some (Up before source stamp)) is = le-leb before control_port is
sound_given other is = refl

-- ---- words of no frame that was given

no_up : (old mid : List ℕ) → old ≡ 1 ∷ mid → NotSaved put_up KeepsUp mid → NotSaved put_given KeepsGiven old
no_up old mid is gone (Up before source stamp) rest k e =
    let inner : mid ≡ put_up (before, source, stamp) rest = cc in gone (before, source, stamp) rest k inner
no_up old mid is gone (Down n stamp) rest k e = absurd (cc)

no_down : (old mid : List ℕ) → old ≡ 2 ∷ mid → NotSaved put_down KeepsDown mid → NotSaved put_given KeepsGiven old
no_down old mid is gone (Up before source stamp) rest k e = absurd (cc)
no_down old mid is gone (Down n stamp) rest k e = let inner : mid ≡ put_down (n, stamp) rest = cc in gone (n, stamp) rest k inner

pub up_refused : (old mid new : List ℕ) (error : RestoreError) → old ≡ 1 ∷ mid → Restores put_up KeepsUp mid (Err error) new
    → Restores put_given KeepsGiven old (Err error) new
up_refused old mid new OutOfMemory is gone = tt
up_refused old mid new other is gone = no_up old mid is gone

pub down_refused : (old mid new : List ℕ) (error : RestoreError) → old ≡ 2 ∷ mid → Restores put_down KeepsDown mid (Err error) new
    → Restores put_given KeepsGiven old (Err error) new
down_refused old mid new OutOfMemory is gone = tt
down_refused old mid new other is gone = no_down old mid is gone

-- ---- the whole

pub fit_sound : (pm : PmState) → KeepsParts (parts_of pm) → fits pm.registers pm.ports pm.answer pm.served pm.given ≡ true → IsSound pm
fit_sound pm keeps fit =
    let all = and_parts (nat_le pm.served control_port && ports_fit pm.registers pm.ports && answer_fits pm.ports pm.answer) (given_fits pm.given) fit in
    let three = and_parts (nat_le pm.served control_port && ports_fit pm.registers pm.ports) (answer_fits pm.ports pm.answer) all.0 in
    let two = and_parts (nat_le pm.served control_port) (ports_fit pm.registers pm.ports) three.0 in
    let answers = answer_sound pm.ports pm.answer keeps.1.0 three.1 in record {
      served = leb-true pm.served control_port two.0;
      registers = keeps.0.0.1;
      room = keeps.0.2.0;
      ports = ports_sound pm.registers pm.ports keeps.0.0.1.bank keeps.0.2.0 keeps.0.2.1 two.1;
      answer = λ frame is. (answers frame is).0;
      shows = λ frame is. (answers frame is).1;
      given = given_sound pm.given all.1;
    }

pub sound_fits : (pm : PmState) → IsSound pm → fits pm.registers pm.ports pm.answer pm.served pm.given ≡ true
sound_fits pm sound =
    and_from (nat_le pm.served control_port && ports_fit pm.registers pm.ports && answer_fits pm.ports pm.answer) (given_fits pm.given)
    (and_from (nat_le pm.served control_port && ports_fit pm.registers pm.ports) (answer_fits pm.ports pm.answer)
    (and_from (nat_le pm.served control_port) (ports_fit pm.registers pm.ports) (le-leb pm.served control_port sound.served)
    (sound_ports pm.registers pm.ports sound.ports))
    (sound_answer pm.ports pm.answer sound.answer sound.shows))
    (sound_given pm.given sound.given)

-- For `none_is_stale`. What is known of slot 31 of the host, of port n and of the answers that name it, in each world
-- on the way.
use Rattle.std.proofs.Common.{◌≡◌, ℕ, ◌<◌, ◌==◌, ◌&&◌, Bool, true, false, List, [], ◌∷◌, ◌++◌, Option, Some, None, Ok, refl, sym, ap, subst, ◌∙◌, inl, inr}
use Rattle.std.specs.{Prelude.if◌then◌else◌, List.list_any, Int.bit_at}
use Rattle.std.proofs.lemmas.Bool.{eqb-true, false≢true, true≢false, false_from_ne_true}
use Rattle.fis_view.specs.Frames.{Stamped}
use Rattle.hba_driver.specs.{declared.order.Order.{Order, TheVariants.{Scan, Clear}}, Slot31.{Asks, Stage31, Waits}, Scans.{IsFound, found}}
use Rattle.hba_driver.specs.Between.{AreOfTheir, IsGoing}
use Rattle.pm_control.specs.{Answers.{IsAnswer, answer_to_request, registers_after_request}, Requests.request_in, declared.request.Request.Request}
use Rattle.pm_registers.specs.{Port.{inserted, removed}, RegisterMap.RegisterMap}
use Rattle.pm_registers.specs.RegisterMap as map
use Rattle.multiplier.specs.{Arbiter.control_port, State.{control_stamp, pm_port}}
use Rattle.pm_world.specs.{Cleared.{clears_x, is_cleared, is_up_from}, Downward.pushed_by, Places.{IsOrderly, Places}, Rules.Rule}
use Rattle.pm_world.specs.{declared.{step.Step.Step, step.Answer.Answer}, Line.{IsLine, NoneDown, NoneUp, is_reply}}
use Rattle.pm_world.specs.Stale.{is_clear, is_from, orders_clear, unsent_after}
use Rattle.pm_world.specs.declared.step.Answer.TheVariants as answer
use Rattle.pm_world.proofs.cleared.Cleared as ports
use Rattle.pm_world.proofs.{cleared.Cleared.{rule_goes, run_waits}, steps.Orderly.orderly_after, upward.PortMarks.{AllHavePortMarks, rule_marks}}
use Rattle.pm_world.proofs.meant.ChangeLemmas.{Change, Falls, Hears, IsBank, IsPlain, Replies, Rises, Stays, Takes, Turns}
use Rattle.pm_world.proofs.ports.{DownLemmas.{DownChange, Gone, Put, Quiet, down_change}, EachLemmas.{Each, Nothing, any_one, each_map, each_more}}
use Rattle.pm_world.proofs.ports.KeepingLemmas.{IsTrue, true_after}
use Rattle.pm_world.proofs.meant.PortLemmas.{AreFit, WritesChanges, fit_same, fit_set, inserted_fits, removed_fits, request_fit, summary_waits}
use Rattle.pm_world.proofs.{meant.RequestLemmas.{IsScan, names, scan_names}, ports.UpLemmas.{Left, Rose, Same, UpChange, up_change}}

-- ## What is known

-- port n passes nothing until it is cleared
abbrev pub Held : ℕ → Places → Type 0
Held n now = ports.Waits n now.multiplier.registers

-- an answer on its way up that names port n: the port is held, and no FIS of the port comes after the
-- answer
abbrev pub Tells : ℕ → Type 0 → List Stamped → Type 0
Tells n held [] = Prim.Unit {0}
Tells n held (f ∷ frames) = (is_reply f ≡ true → names n f.bytes ≡ true → held × Nothing (is_from n) frames) × Tells n held frames

-- only such frames on their way down are for the control port
abbrev pub Only : (Stamped → Type 0) → List Stamped → Type 0
Only P frames = Each (λ f. pm_port f ≡ control_port → P f) frames

-- GSCR[32] is read: the command is on its way, or the answer
pub record IsScanning (n : ℕ) (now : Places) : Type 0 where
  pub down : Only IsScan now.downward.frames
  pub waits : (g : Stamped) → now.multiplier.answer ≡ Some g → names n g.bytes ≡ true → Held n now
  pub up : Tells n (Held n now) now.upward.frames

-- port n was found: it is held, nothing of it is on its way up, and it is not to be cleared yet
pub record IsShut (n : ℕ) (unsent : Bool) (now : Places) : Type 0 where
  pub held : Held n now
  pub away : Nothing (is_from n) now.upward.frames
  pub sent : unsent ≡ false
  pub clean : Nothing (is_clear n) now.downward.frames

abbrev pub order_in : Places → Order
order_in now = now.host.driver.plan.order

pub record Knows (n : ℕ) (unsent : Bool) (now : Places) : Type 0 where
  pub going : IsGoing now.host
  pub their : AreOfTheir now.host.port
  pub risen : AllHavePortMarks now.multiplier now.upward.frames
  pub orderly : IsOrderly now
  pub true_is : IsTrue n now.multiplier
  pub fit : AreFit now.multiplier.registers
  -- PSCR[1] of a port is only written to clear N and X
  pub writes : Only (λ f. WritesChanges (request_in f.bytes)) now.downward.frames
  pub stage : Stage31
  pub is : IsLine stage now
  pub plan : IsFound now.host.driver.plan
  -- an order to clear port n that is not on its way waits in slot 31
  pub out : unsent ≡ true → (stage ≡ Waits) × (order_in now ≡ Clear n)
  pub due : stage ≡ Waits → order_in now ≡ Clear n → unsent ≡ true
  pub scanning : stage ≡ Asks → order_in now ≡ Scan → IsScanning n now
  pub shut : found n now.host ≡ true → IsShut n unsent now

-- ## Lists

each_same : (P : Stamped → Type 0) (xs ys : List Stamped) → ys ≡ xs → Each P xs → Each P ys
each_same P xs ys e h = subst (Each P) (sym e) h

pub only_clean : (n : ℕ) (frames : List Stamped) → Only IsScan frames → Nothing (is_clear n) frames
only_clean n frames h = each_map (λ (f : Stamped). pm_port f ≡ control_port → IsScan f) (λ (f : Stamped). is_clear n f ≡ false) frames (λ f is. by_port f (pm_port f == control_port) refl is) h
  where
    by_port : (f : Stamped) (b : Bool) → (pm_port f == control_port) ≡ b → (pm_port f ≡ control_port → IsScan f) → (b && clears_x n (request_in f.bytes)) ≡ false
    by_port f true own is = ap (clears_x n) (is (eqb-true (pm_port f) control_port own))
    by_port f false other is = refl

pub none_clean : (n : ℕ) (frames : List Stamped) → NoneDown frames → Nothing (is_clear n) frames
none_clean n [] h = tt
none_clean n (f ∷ frames) h = (false_from_ne_true (is_clear n f) (λ clears. h.0 (eqb-true (pm_port f) control_port (first clears))), none_clean n frames h.1)
  where
    parts : (a b : Bool) → (a && b) ≡ true → a ≡ true
    parts true b e = refl
    parts false b e = absurd (false≢true e)

    first : is_clear n f ≡ true → (pm_port f == control_port) ≡ true
    first e = parts (pm_port f == control_port) (clears_x n (request_in f.bytes)) e

pub none_only : (P : Stamped → Type 0) (frames : List Stamped) → NoneDown frames → Only P frames
none_only P [] h = tt
none_only P (f ∷ frames) h = (λ own. absurd (h.0 own), none_only P frames h.1)

pub none_named : (n : ℕ) (held : Type 0) (frames : List Stamped) → NoneUp frames → Tells n held frames
none_named n held [] h = tt
none_named n held (f ∷ frames) h = (λ reply named. absurd (true≢false (sym reply ∙ h.0)), none_named n held frames h.1)

names_map : (n : ℕ) (held after : Type 0) (frames : List Stamped) → (held → after) → Tells n held frames → Tells n after frames
names_map n held after [] go h = tt
names_map n held after (f ∷ frames) go h = (λ reply named. let is = h.0 reply named in (go is.0, is.1), names_map n held after frames go h.1)

names_more : (n : ℕ) (held : Type 0) (frames : List Stamped) (f : Stamped) → (held → (f.stamp.port == n) ≡ false) → (is_reply f ≡ true → names n f.bytes ≡ true → held) → Tells n held frames → Tells n held (frames ++ f ∷ [])
names_more n held [] f other last h = (λ reply named. (last reply named, tt), tt)
names_more n held (x ∷ frames) f other last h =
    (λ reply named. let is = h.0 reply named in (is.0, each_more (λ (g : Stamped). is_from n g ≡ false) frames f is.1 (other is.0)), names_more n held frames f other last h.1)

-- ## A step

pub plain_orders : (n : ℕ) (old : Places) (a : Answer) → IsPlain a → orders_clear n old a ≡ false
plain_orders n old answer.Ticked plain = absurd plain
plain_orders n old a plain = refl

pub plain_pushed : (old : Places) (s : Step) (a : Answer) (new : Places) → IsPlain a → pushed_by old s a new ≡ []
plain_pushed old s answer.Pushed new plain = absurd plain
plain_pushed old s a new plain = refl

either_false : (b unsent : Bool) → unsent ≡ false → (if b then false else unsent) ≡ false
either_false true unsent e = refl
either_false false unsent e = e

bank_fit : (m new : RegisterMap) → IsBank m new → AreFit m → AreFit new
bank_fit m new (ports, inl same) fit = fit_same m new ports same fit
bank_fit m new (ports, inr (k, inl came)) fit = fit_set m new k (inserted (map.port_at m k)) ports came (inserted_fits (map.port_at m k) (fit.fits k)) fit
bank_fit m new (ports, inr (k, inr gone)) fit = fit_set m new k (removed (map.port_at m k)) ports gone (removed_fits (map.port_at m k) (fit.fits k)) fit

module _ (n : ℕ) (below : n < 15) (unsent : Bool) (old : Places) (s : Step) (a : Answer) (new : Places) (rule : Rule old s (Ok a) new) (k : Knows n unsent old) where
  abbrev now : Bool
  now = unsent_after n unsent old s a new

  pub risen_now : AllHavePortMarks new.multiplier new.upward.frames
  risen_now = (rule_marks old s a new k.risen rule).risen

  pub orderly_now : IsOrderly new
  orderly_now = orderly_after old s a new k.orderly rule

  pub true_now : IsTrue n new.multiplier
  true_now = true_after n old s a new rule k.true_is

  -- ---- a port that is held

  none_cleared : Nothing (is_clear n) old.downward.frames → is_cleared n old a ≡ false
  none_cleared none = by_down (down_change n old s new k.orderly a rule)
    where
      by_down : DownChange n old s a new → is_cleared n old a ≡ false
      by_down (Quiet link pushed uncleared on) = uncleared
      by_down (Put f link pushed uncleared falls idle ids) = uncleared
      by_down (Gone f link pushed clears falls idle ids) =
          false_from_ne_true (is_cleared n old a) (λ cleared. true≢false (sym (clears cleared) ∙ (subst (Nothing (is_clear n)) link none).0))

  -- that goes on while the port is not cleared
  pub held_on : Nothing (is_clear n) old.downward.frames → Held n old → Held n new
  held_on none held = (rule_goes n old s a new rule).waits (none_cleared none) held

  -- and no frame of it goes up
  none_rises : Held n old → is_up_from n s a ≡ false
  none_rises held = (run_waits n old (s ∷ []) (a ∷ []) new (new, rule, refl) below k.orderly (record { shows = k.true_is.shows; told = held })).1

  -- one that was found is still shut
  pub shut_on : orders_clear n old a ≡ false → (list_any (is_clear n) (pushed_by old s a new) ≡ true → unsent ≡ true) → IsShut n unsent old → IsShut n now new
  shut_on idle once shut = record {
    held = held_on shut.clean shut.held;
    away = by_up (up_change n old new below k.orderly s a rule);
    sent = ap (λ (b : Bool). if b then true else if list_any (is_clear n) (pushed_by old s a new) then false else unsent) idle ∙ either_false (list_any (is_clear n) (pushed_by old s a new)) unsent shut.sent;
    clean = by_down (down_change n old s new k.orderly a rule);
  }
    where
      by_up : UpChange n old s a new → Nothing (is_from n) new.upward.frames
      by_up (Same link ids) = each_same (λ (f : Stamped). is_from n f ≡ false) old.upward.frames new.upward.frames link shut.away
      by_up (Rose f link ids passes other still) =
          each_same (λ (g : Stamped). is_from n g ≡ false) (old.upward.frames ++ f ∷ []) new.upward.frames link
          (each_more (λ (g : Stamped). is_from n g ≡ false) old.upward.frames f shut.away (other (none_rises shut.held)))
      by_up (Left f link told still) = (subst (Nothing (is_from n)) link shut.away).1

      by_down : DownChange n old s a new → Nothing (is_clear n) new.downward.frames
      by_down (Quiet link pushed uncleared on) = each_same (λ (f : Stamped). is_clear n f ≡ false) old.downward.frames new.downward.frames link shut.clean
      by_down (Put f link pushed uncleared falls still ids) =
          each_same (λ (g : Stamped). is_clear n g ≡ false) (old.downward.frames ++ f ∷ []) new.downward.frames link
          (each_more (λ (g : Stamped). is_clear n g ≡ false) old.downward.frames f shut.clean
          (false_from_ne_true (is_clear n f) (λ clears. true≢false (sym (once (ap (list_any (is_clear n)) pushed ∙ any_one (is_clear n) f ∙ clears)) ∙ shut.sent))))
      by_down (Gone f link pushed clears falls still ids) = (subst (Nothing (is_clear n)) link shut.clean).1

  -- ---- a step that is not a tick, and in which the host puts no frame on its link

  module _ (plain : IsPlain a) where
    pub plain_unsent : now ≡ unsent
    plain_unsent =
        ap (λ (b : Bool). if b then true else if list_any (is_clear n) (pushed_by old s a new) then false else unsent) (plain_orders n old a plain)
        ∙ ap (λ (l : List Stamped). if list_any (is_clear n) l then false else unsent) (plain_pushed old s a new plain)

    none_pushed : list_any (is_clear n) (pushed_by old s a new) ≡ true → unsent ≡ true
    none_pushed some = absurd (false≢true (sym (ap (list_any (is_clear n)) (plain_pushed old s a new plain)) ∙ some))

    pub plain_shut : IsShut n unsent old → IsShut n unsent new
    plain_shut shut = subst (λ (b : Bool). IsShut n b new) plain_unsent (shut_on (plain_orders n old a plain) none_pushed shut)

  -- what is known of the registers
  pub fit_now : Change old s a new → AreFit new.multiplier.registers
  fit_now (Stays aside waits up) = bank_fit old.multiplier.registers new.multiplier.registers aside.bank k.fit
  fit_now (Hears f host link own regs none is up) =
      subst AreFit (sym regs) (request_fit old.multiplier.registers (request_in f.bytes) ((subst (Only (λ (g : Stamped). WritesChanges (request_in g.bytes))) link k.writes).0 own) k.fit)
  fit_now (Falls f host link other bank waits up) = bank_fit old.multiplier.registers new.multiplier.registers bank k.fit
  fit_now (Rises f aside plain notice other waits up) = bank_fit old.multiplier.registers new.multiplier.registers aside.bank k.fit
  fit_now (Replies f aside other is none up) = bank_fit old.multiplier.registers new.multiplier.registers aside.bank k.fit
  fit_now (Takes f report of down up) = subst (λ pm. AreFit pm.registers) (sym of.pm) k.fit
  fit_now (Turns t silent of down up) = subst (λ pm. AreFit pm.registers) (sym of.pm) k.fit

  -- and of what is on its way down
  pub only_now : (P : Stamped → Type 0) → Change old s a new → Only P old.downward.frames → Only P new.downward.frames
  only_now P (Stays aside waits up) h = subst (Only P) (sym aside.down) h
  only_now P (Hears f host link own regs none is up) h = (subst (Only P) link h).1
  only_now P (Falls f host link other bank waits up) h = (subst (Only P) link h).1
  only_now P (Rises f aside plain notice other waits up) h = subst (Only P) (sym aside.down) h
  only_now P (Replies f aside other is none up) h = subst (Only P) (sym aside.down) h
  only_now P (Takes f report of down up) h = subst (Only P) (sym down) h
  only_now P (Turns t silent of down up) h = subst (Only P) (sym down) h

  -- ---- GSCR[32] is read, and goes on being read

  module _ (scan : IsScanning n old) where
    held_then : Held n old → Held n new
    held_then held = held_on (only_clean n old.downward.frames scan.down) held

    same_waits : new.multiplier.answer ≡ old.multiplier.answer → (g : Stamped) → new.multiplier.answer ≡ Some g → names n g.bytes ≡ true → Held n new
    same_waits same g is named = held_then (scan.waits g (sym same ∙ is) named)

    same_up : new.upward.frames ≡ old.upward.frames → Tells n (Held n new) new.upward.frames
    same_up same = subst (Tells n (Held n new)) (sym same) (names_map n (Held n old) (Held n new) old.upward.frames held_then scan.up)

    more_up : (f : Stamped) → new.upward.frames ≡ old.upward.frames ++ f ∷ [] → (is_up_from n s a ≡ false → (f.stamp.port == n) ≡ false) → (is_reply f ≡ true → names n f.bytes ≡ true → Held n old) → Tells n (Held n new) new.upward.frames
    more_up f link other last =
        subst (Tells n (Held n new)) (sym link)
        (names_map n (Held n old) (Held n new) (old.upward.frames ++ f ∷ []) held_then
        (names_more n (Held n old) old.upward.frames f (λ held. other (none_rises held)) last scan.up))

    -- what the control port answers
    heard_names : (f : Stamped) → IsScan f → new.multiplier.registers ≡ registers_after_request old.multiplier.registers (request_in f.bytes)
        → IsAnswer (answer_to_request old.multiplier.resetting old.multiplier.registers (request_in f.bytes)) (control_stamp old.multiplier) new.multiplier.answer
        → (g : Stamped) → new.multiplier.answer ≡ Some g → names n g.bytes ≡ true → Held n new
    heard_names f asks regs is g there named =
        let m : RegisterMap = old.multiplier.registers in
        let same : new.multiplier.registers ≡ m = regs ∙ ap (registers_after_request m) asks in
        let answer_is = subst (λ (o : Option Stamped). IsAnswer (answer_to_request old.multiplier.resetting m (request_in f.bytes)) (control_stamp old.multiplier) o) there is in
        let scanned = subst (λ (r : Option Request). IsAnswer (answer_to_request old.multiplier.resetting m r) (control_stamp old.multiplier) (Some g)) asks answer_is in
        let bit : bit_at (map.summary m) n ≡ 1 = scan_names n m old.multiplier.resetting (control_stamp old.multiplier) g k.fit.most scanned named in
        subst (ports.Waits n) (sym same) (summary_waits m n below k.fit bit)

    pub scan_now : Change old s a new → IsScanning n new
    scan_now c = record { down = only_now IsScan c scan.down; waits = by_waits c; up = by_up c }
      where
        by_waits : Change old s a new → (g : Stamped) → new.multiplier.answer ≡ Some g → names n g.bytes ≡ true → Held n new
        by_waits (Stays aside waits up) = same_waits waits
        by_waits (Hears f host link own regs none is up) = heard_names f ((subst (Only IsScan) link scan.down).0 own) regs is
        by_waits (Falls f host link other bank waits up) = same_waits waits
        by_waits (Rises f aside plain notice other waits up) = same_waits waits
        by_waits (Replies f aside other is none up) = λ g there named. let bad : None ≡ Some g = sym none ∙ there in absurd (cc)
        by_waits (Takes f report of down up) = same_waits (ap (λ pm. pm.answer) of.pm)
        by_waits (Turns t silent of down up) = same_waits (ap (λ pm. pm.answer) of.pm)

        by_up : Change old s a new → Tells n (Held n new) new.upward.frames
        by_up (Stays aside waits up) = same_up up
        by_up (Hears f host link own regs none is up) = same_up up
        by_up (Falls f host link other bank waits up) = same_up up
        by_up (Rises f aside plain notice other waits up) = more_up f up (other n) (λ reply. absurd (true≢false (sym reply ∙ plain)))
        by_up (Replies f aside other is none up) = more_up f up (other n) (λ reply named. scan.waits f is named)
        by_up (Takes f report of down up) = (subst (Tells n (Held n new)) up (names_map n (Held n old) (Held n new) old.upward.frames held_then scan.up)).1
        by_up (Turns t silent of down up) = same_up up

-- For `rested_plans_match`. What the driver takes a device to be, against what its port of the multiplier shows. Each way of the multiplier keeps it.
use Rattle.std.proofs.Common.{◌≡◌, ◌≢◌, ◌⊎◌, ℕ, ◌<◌, ◌≤◌, ◌==◌, ◌&&◌, Bool, true, false, List, [], ◌∷◌, ◌++◌, slice_index_or, refl, sym, ap, subst}
use Rattle.std.proofs.{Common.{◌∙◌, inl, inr, Option, Some, None, arith}, lemmas.Bool.{cases_Bool, cases_eq, eq-eqb, eqb-true, true≢false}}
use Rattle.std.specs.Prelude.{Result}
use Rattle.fis_view.specs.{Frames.Stamped, Seen.seen, declared.frame.Stamp.Stamp}
use Rattle.hba_laws.specs.Parts.{DevicePart}
use Rattle.pm_control.specs.{Answers.{IsAnswer, answer_to_request, read_answer, registers_after_request, value_answer}, Requests.request_in}
use Rattle.pm_control.specs.declared.request.Request.{Request}
use Rattle.pm_registers.specs.{Port.{det, is_open, opening_port, passes}, RegisterMap.{RegisterMap, port_at}}
use Rattle.pm_registers.specs.declared.{port.PortRegisters.PortRegisters, words.RegisterError.RegisterError}
use Rattle.multiplier.specs.{Arbiter.control_port, Between.{Answer as Answers, FromPort, Gives, Notice}, State.{PmState, control_stamp, pm_port}}
use Rattle.hba_driver.specs.declared.{order.Order.{Order, TheVariants.{Clear, Detect, Scan}}, plan.{Device.TheVariants.Absent, Plan.Plan}}
use Rattle.hba_driver.specs.{Drivers.device_at, Scans.{IsFound, is_scan}, Sights.answer_in, Slot31.{Asks, IsIn, IsLow, Resets, Signs, Stage31, Waits}}
use Rattle.hba_driver.specs.{Slot31.{control_of, is_off, is_on}, Steady.detects, Turns.is_there}
use Rattle.pm_world.specs.Line.{NoneDown, OnLine}
use Rattle.world_rests.proofs.{ControlFile.IsCalm, Frank.{NoneFails, at_low, is_well}, Heeded.scan_command, Marks.{AreShut, ClearsOne, MarksOn}}
use Rattle.world_rests.proofs.{Marks.{is_marked, marks_same, passes_parts, wish_clears, wish_marks}, Named.{IsMarked, IsNamed, found_beside}}
use Rattle.world_rests.proofs.Named.{marked_on, named_other, named_pm, named_scan, none_more, not_scanning, passes_of, risen_forwards, rises_named}
use Rattle.world_rests.proofs.{Named.slot31, Nothing.{HasNothing, nothing_pm}, Ordering.{AreOpen, IsOn, Upto, after_wish, answer_value, wish}}
use Rattle.world_rests.proofs.{Ordering.wish_shape, Orders.{Among, none_down}, Saying.{coming_other, coming_pm, coming_risen, not_control}}
use Rattle.world_rests.proofs.{Saying.{notice_none, said_answer, said_beside, said_other, said_pm}, SetUp.{Came, Falls, Held, IsCommand, IsComing}}
use Rattle.world_rests.proofs.{SetUp.{IsOfReset, IsSaid, IsSetUp, Rises, Unsent, asking_of, command_of, is_ordered, waits_by}, SetWays.ByControl}
use Rattle.world_rests.proofs.{SetWays.{ByOther, IsHeard, replies}, Setting.IsShape, Ways.{IsGood, Line}}

-- ---- what holds of a port

-- the port is open, and shows a device, or N or X of it is set
pub record IsShown (n : ℕ) (m : RegisterMap) : Type 0 where
  pub low : n < m.ports
  pub opened : is_open (port_at m n) ≡ true
  pub shows : ((port_at m n).present ≡ true) ⊎ (is_marked (port_at m n) ≡ true)

-- the driver takes a device to be there, or looks for one after a flush
abbrev pub IsTaken : ℕ → Plan → Type 0
IsTaken n p = (device_at p n ≢ Absent) ⊎ (detects n p.asked p.order ≡ true)

-- a device that is shown is taken to be there, unless N or X is set
abbrev pub IsTakenAt : ℕ → PortRegisters → Plan → Type 0
IsTakenAt n r p = is_open r ≡ true → r.present ≡ true → (is_marked r ≡ true) ⊎ IsTaken n p

-- SStatus with this value tells whether a device is present, unless N or X is set
abbrev pub Agrees : ℕ → RegisterMap → ℕ → Type 0
Agrees n m value = (is_marked (port_at m n) ≡ true) ⊎ (is_there value ≡ (port_at m n).present)

-- The driver has nothing of a device that is not shown. It takes one that is shown to be there, or looks for it. What it is told of it is so. And
-- until an order to clear the port has come to it, the driver has nothing of it.
pub record IsMatched (n : ℕ) (l : Line) : Type 0 where
  pub named : IsNamed n l
  pub shown : IsShown n l.pm.registers ⊎ HasNothing n l
  pub taken : IsTakenAt n (port_at l.pm.registers n) l.host.driver.plan
  pub tells : l.host.driver.plan.order ≡ Detect n → l.host.driver.plan.asked ≡ true → IsComing l ⊎ IsSaid (Agrees n l.pm.registers) l
  pub clears : l.host.driver.plan.order ≡ Clear n → l.host.driver.plan.asked ≡ true → (IsMarked n l.pm.registers × HasNothing n l) ⊎ (IsComing l → ⊥)

-- the same known of all of it
pub record IsHeld (ports : ℕ) (l : Line) : Type 0 where
  pub calm : IsCalm l
  pub set : IsSetUp ports l
  pub fails : NoneFails l
  pub shut : AreShut l.pm.registers
  pub found_is : IsFound l.host.driver.plan
  pub sought : (n : ℕ) → detects n l.host.driver.plan.asked l.host.driver.plan.order ≡ true → n < l.pm.registers.ports

-- ---- orders are apart

abbrev detected_port : Order → Option ℕ
detected_port (Detect k) = Some k
detected_port o = None

none_number : {P : Type 0} (a : ℕ) → None ≡ Some a → P
none_number a e = absurd (cc)

same_number : (a b : ℕ) → Some a ≡ Some b → a ≡ b
same_number a b e = cc

pub not_detect : {P : Type 0} (o p : Order) (n : ℕ) → o ≡ p → detected_port p ≡ None → o ≡ Detect n → P
not_detect o p n is other detect = none_number n (sym other ∙ ap detected_port (sym is ∙ detect))

pub detect_same : (o : Order) (k n : ℕ) → o ≡ Detect k → o ≡ Detect n → k ≡ n
detect_same o k n is detect = same_number k n (ap detected_port (sym is ∙ detect))

pub detect_command : (o : Order) (asked : Bool) (n : ℕ) → o ≡ Detect n → asked ≡ true → IsCommand o asked
detect_command o asked n is asks = record { asks = asks; on = ap is_on is; off = ap is_off is }

detect_sought : (o : Order) (asked : Bool) (n : ℕ) → o ≡ Detect n → detects n asked o ≡ true
detect_sought o asked n is = ap (detects n asked) is ∙ eq-eqb n n refl

pub clear_sought : (o : Order) (asked : Bool) (n : ℕ) → o ≡ Clear n → asked ≡ true → detects n asked o ≡ true
clear_sought o asked n is on = ap (detects n asked) is ∙ ap (λ (b : Bool). b && (n == n)) on ∙ eq-eqb n n refl

-- ---- what is said

pub said_map : (P Q : ℕ → Type 0) (l : Line) → ((value : ℕ) → P value → Q value) → IsSaid P l → IsSaid Q l
said_map P Q l on (Held f there reply is) = Held f there reply (on (answer_in (seen f.bytes)) is)
said_map P Q l on (Rises f there reply is) = Rises f there reply (on (answer_in (seen f.bytes)) is)
said_map P Q l on (Came clear told) = Came clear (λ free. on _ (told free))

module _ (ports : ℕ) (l : Line) (h : IsHeld ports l) where
  pub few : l.pm.registers.ports ≤ 15
  few = subst (λ (c : ℕ). c ≤ 15) (sym h.set.shape.ports_are) h.set.shape.most

  -- a port that is looked for is open
  pub detect_low : (n : ℕ) → l.host.driver.plan.order ≡ Detect n → n < l.pm.registers.ports
  detect_low n is = h.sought n (detect_sought l.host.driver.plan.order l.host.driver.plan.asked n is)

  pub detect_open : (n : ℕ) → l.host.driver.plan.order ≡ Detect n → is_open (port_at l.pm.registers n) ≡ true
  detect_open n is =
      let u : IsOn l.pm.registers l.host.driver.plan.ports × AreOpen l.pm.registers.ports l.pm.registers =
      subst (λ (o : Order). Upto o l.pm.registers l.host.driver.plan.ports) is (h.set.set (is_well l h.fails)).upto in
      u.1 n (detect_low n is)

-- ---- the registers change

module _ (n : ℕ) (l : Line) (down : List Stamped) (pm : PmState) (m : MarksOn (port_at l.pm.registers n) (port_at pm.registers n)) (ports : pm.registers.ports ≡ l.pm.registers.ports) (h : IsMatched n l) where
  abbrev after : Line
  after = record l { down = down; pm = pm }

  shown_on : IsShown n l.pm.registers → IsShown n pm.registers
  shown_on s = record {
    low = subst (λ (k : ℕ). n < k) (sym ports) s.low;
    opened = m.opens s.opened;
    shows = elim s.shows [
      | inl there ↦ elim (m.changes_are s.opened) [ inl marked ↦ inr marked | inr same ↦ inl (same ∙ there) ]
      | inr marked ↦ inr (m.marks marked)
    ];
  }

  marks_then : IsMarked n l.pm.registers → IsMarked n pm.registers
  marks_then = marked_on n l.pm.registers pm.registers ports m.marks

  taken_on : IsTakenAt n (port_at pm.registers n) l.host.driver.plan
  taken_on on there = elim (m.opening on) [
    | inr new ↦ inl (new there)
    | inl was ↦ elim (m.changes_are was) [
      | inl marked ↦ inl marked
      | inr same ↦ elim (h.taken was (sym same ∙ there)) [ inl marked ↦ inl (m.marks marked) | inr taken ↦ inr taken ]
    ]
  ]

  agrees_on : is_open (port_at l.pm.registers n) ≡ true → (value : ℕ) → Agrees n l.pm.registers value → Agrees n pm.registers value
  agrees_on was value (inl marked) = inl (m.marks marked)
  agrees_on was value (inr is) = elim (m.changes_are was) [ inl marked ↦ inl marked | inr same ↦ inr (is ∙ sym same) ]

  -- what else is to be shown: what is named, and told
  matched_on : IsNamed n after → (l.host.driver.plan.order ≡ Detect n → l.host.driver.plan.asked ≡ true → IsComing after ⊎ IsSaid (Agrees n pm.registers) after) → (IsComing after → IsComing l) → IsMatched n after
  matched_on named tells back = record {
    named = named;
    shown = elim h.shown [ inl s ↦ inl (shown_on s) | inr none ↦ inr (nothing_pm n l down pm l.up none.none none) ];
    taken = taken_on;
    tells = tells;
    clears = λ order asked. elim (h.clears order asked) [
      | inl both ↦ inl (marks_then both.0, nothing_pm n l down pm l.up both.1.none both.1)
      | inr gone ↦ inr (λ comes. gone (back comes))
    ];
  }

-- nothing is heard
pub pm_matched : (ports n : ℕ) (l : Line) → IsHeld ports l → (pm : PmState) → MarksOn (port_at l.pm.registers n) (port_at pm.registers n) → pm.registers.ports ≡ l.pm.registers.ports → pm.answer ≡ l.pm.answer → IsMatched n l
    → IsMatched n (record l { pm = pm })
pm_matched ports n l held pm m count answer h =
    matched_on n l l.down pm m count h (named_pm n l pm l.down h.named (marks_then n l l.down pm m count h) answer)
    (λ order asked. elim (h.tells order asked) [
      | inl comes ↦ inl (coming_pm l pm comes)
      | inr said ↦ inr (said_map (Agrees n l.pm.registers) (Agrees n pm.registers) (record l { pm = pm }) (agrees_on n l l.down pm m count h (detect_open ports l held n order)) (said_pm l pm (Agrees n l.pm.registers) answer said))
    ]) back
  where
    back : IsComing (record l { pm = pm }) → IsComing l
    back (Unsent w) = Unsent w
    back (Falls f there own) = Falls f there own

-- ---- a frame that the multiplier takes

-- the command of an order falls alone
falls_alone : (s : Stage31) (o : Order) (asked : Bool) (part : DevicePart) (f : Stamped) (rest : List Stamped) (waits : Option Stamped) (up : List Stamped) → IsCommand o asked → pm_port f ≡ control_port → IsIn s o asked part
    → OnLine s (f ∷ rest) waits up → NoneDown rest
falls_alone Resets o asked part f rest waits up c own (inl is) line = absurd (true≢false (sym (ap is_on is.0) ∙ c.on))
falls_alone Resets o asked part f rest waits up c own (inr is) line = absurd (true≢false (sym (ap is_off is.0) ∙ c.off))
falls_alone Signs o asked part f rest waits up c own (free, inl is) line = absurd (true≢false (sym (ap is_off is.0) ∙ c.off))
falls_alone Signs o asked part f rest waits up c own (free, inr is) line = absurd (true≢false (sym c.asks ∙ is.1))
falls_alone Asks o asked part f rest waits up c own is (inl (inl other, quiet, none)) = absurd (other.0 own)
falls_alone Asks o asked part f rest waits up c own is (inl (inr (inl before), quiet, none)) = absurd before.1
falls_alone Asks o asked part f rest waits up c own is (inl (inr (inr last), quiet, none)) = last.2
falls_alone Asks o asked part f rest waits up c own is (inr (none, come)) = absurd (none.0 own)
falls_alone s o asked part f rest waits up c own is line = absurd (line.0.0 own)

module _ (ports n : ℕ) (low : n < 15) (l : Line) (g : IsGood l) (held : IsHeld ports l) (f : Stamped) (rest : List Stamped) (pm : PmState) (is : l.down ≡ f ∷ rest) (h : IsMatched n l) where
  abbrev heard : Line
  heard = record l { down = rest; pm = pm }

  abbrev order : Order
  order = l.host.driver.plan.order

  abbrev asked : Bool
  asked = l.host.driver.plan.asked

  abbrev old : RegisterMap
  old = l.pm.registers

  first : Among f l.down
  first = subst (Among f) (sym is) (inl refl)

  back : IsComing heard → IsComing l
  back (Unsent w) = Unsent w
  back (Falls x there own) = Falls x (subst (Among x) (sym is) (inr there)) own

  marks_as : pm.registers ≡ old → MarksOn (port_at old n) (port_at pm.registers n)
  marks_as same = marks_same (port_at old n) (port_at pm.registers n) (ap (λ (m : RegisterMap). port_at m n) same)

  marked_as : pm.registers ≡ old → IsMarked n old → IsMarked n pm.registers
  marked_as same = subst (IsMarked n) (sym same)

  heard_other : pm_port f ≢ control_port → pm.answer ≡ l.pm.answer → pm.registers ≡ old → IsMatched n heard
  heard_other other answer same =
      matched_on n l rest pm (marks_as same) (ap (λ (m : RegisterMap). m.ports) same) h (named_pm n l pm rest h.named (marked_as same) answer)
      (λ at on. elim (h.tells at on) [
        | inl comes ↦ inl (coming_other l f rest pm is other comes)
        | inr said ↦
            inr (subst (λ (m : RegisterMap). IsSaid (Agrees n m) heard) (sym same) (said_other l f rest pm is other (Agrees n old) answer said))
      ]) back

  module _ (own : pm_port f ≡ control_port) (answers : IsAnswer (answer_to_request l.pm.resetting old (request_in f.bytes)) (control_stamp l.pm) pm.answer) (after_is : pm.registers ≡ registers_after_request old (request_in f.bytes)) where
    -- no command is asked for
    module _ (plain : is_ordered l.host ≡ false) where
      reset_same : IsOfReset f → pm.registers ≡ old
      reset_same (inl reset) = after_is ∙ ap (registers_after_request old) reset
      reset_same (inr end) = after_is ∙ ap (registers_after_request old) end

      plain_matched : IsMatched n heard
      plain_matched =
          let same : pm.registers ≡ old = reset_same (held.set.resets f first own plain) in
          matched_on n l rest pm (marks_as same) (ap (λ (m : RegisterMap). m.ports) same) h
          (named_other n l pm rest h.named (λ scans. true≢false (sym (asking_of order asked (scan_command order asked scans.order scans.asked)) ∙ plain)) (λ found_now. marked_as same))
          (λ at on. absurd (true≢false (sym (asking_of order asked (detect_command order asked n at on)) ∙ plain))) back

    module _ (ordered : is_ordered l.host ≡ true) where
      wished : request_in f.bytes ≡ wish order
      wished = held.set.falls f first own ordered

      wish_is : pm.registers ≡ after_wish old order
      wish_is = after_is ∙ ap (registers_after_request old) wished

      command : IsCommand order asked
      command = command_of order asked ordered

      answers_as : (o : Order) → order ≡ o → IsAnswer (answer_to_request l.pm.resetting old (wish o)) (control_stamp l.pm) pm.answer
      answers_as o at = subst (λ (r : Option Request). IsAnswer (answer_to_request l.pm.resetting old r) (control_stamp l.pm) pm.answer) (wished ∙ ap wish at) answers

      count : pm.registers.ports ≡ old.ports
      count = (subst (IsShape ports) (sym wish_is) (wish_shape ports old order held.set.shape)).ports_are ∙ sym held.set.shape.ports_are

      -- the command has come
      gone : IsComing heard → ⊥
      gone (Unsent w) =
          let stage : g.stage ≡ Waits = waits_by g.stage l.host w g.at g.at.is in
          none_down l.down f (subst (λ (s : Stage31). OnLine s l.down l.pm.answer l.up) stage g.line).0 first own
      gone (Falls x there to) =
          none_down rest x
          (falls_alone g.stage order asked (control_of l.host) f rest l.pm.answer l.up command own g.at.is (subst (λ (d : List Stamped). OnLine g.stage d l.pm.answer l.up) is g.line)) there to

      -- one of which marks stay
      kept : (o : Order) → order ≡ o → ((k : ℕ) → o ≢ Clear k) → MarksOn (port_at old n) (port_at pm.registers n)
      kept o at other = subst (λ (m : RegisterMap). MarksOn (port_at old n) (port_at m n)) (sym (wish_is ∙ ap (after_wish old) at)) (wish_marks old o other n)

      other_matched : (o : Order) → order ≡ o → ((k : ℕ) → o ≢ Clear k) → is_scan o ≡ false → (order ≡ Detect n → IsSaid (Agrees n pm.registers) heard) → IsMatched n heard
      other_matched o at other scan tells =
          let m = kept o at other in
          matched_on n l rest pm m count h (named_other n l pm rest h.named (not_scanning (slot31 l) o at scan) (λ found_now. marks_then n l rest pm m count h)) (λ detect on. inr (tells detect)) back

      -- the scan
      scan_matched : order ≡ Scan → IsMatched n heard
      scan_matched at =
          let same : pm.registers ≡ old = wish_is ∙ ap (after_wish old) at in
          let u : IsOn old l.host.driver.plan.ports × AreOpen old.ports old = subst (λ (o : Order). Upto o old l.host.driver.plan.ports) at (held.set.set (is_well l held.fails)).upto in
          matched_on n l rest pm (marks_as same) (ap (λ (m : RegisterMap). m.ports) same) h (named_scan n l pm rest h.named same (few ports l held) u.0.masked (answers_as Scan at))
          (λ detect on. not_detect order Scan n at refl detect) back

      -- a port is looked for
      abbrev r : PortRegisters
      r = port_at old n

      there_is : is_open r ≡ true → (b : Bool) → r.present ≡ b → is_there r.status ≡ b
      there_is on true there = eq-eqb (det r.status) 3 (held.set.shape.shows n on there)
      there_is on false none = by_test (is_there r.status) refl
        where
          by_test : (b : Bool) → is_there r.status ≡ b → b ≡ false
          by_test false e = refl
          by_test true e = absurd (true≢false (sym ((held.shut n).shows (eqb-true (det r.status) 3 e)).1 ∙ none))

      said_value : (o : Option Stamped) → pm.answer ≡ o → IsAnswer (Some (value_answer r.status)) (control_stamp l.pm) o → Agrees n pm.registers r.status → IsSaid (Agrees n pm.registers) heard
      said_value None there a agrees = absurd a
      said_value (Some x) there a agrees =
          Held x there (replies x (value_answer r.status) l.pm a.0 a.1) (subst (Agrees n pm.registers) (sym (answer_value r.status x.bytes (held.shut n).small a.0)) agrees)

      detect_said : order ≡ Detect n → IsSaid (Agrees n pm.registers) heard
      detect_said at =
          let same : pm.registers ≡ old = wish_is ∙ ap (after_wish old) at in
          let on : is_open r ≡ true = detect_open ports l held n at in
          said_value pm.answer refl
          (subst (λ (x : Result ℕ RegisterError). IsAnswer (Some (read_answer x)) (control_stamp l.pm) pm.answer) (at_low old (few ports l held) n 0 r.status (detect_low ports l held n at) refl) (answers_as (Detect n) at))
          (subst (λ (m : RegisterMap). Agrees n m r.status) (sym same) (inr (there_is on r.present refl)))

      -- a port is cleared
      module _ (k : ℕ) (at : order ≡ Clear k) where
        cleared : ClearsOne old pm.registers k
        cleared = subst (λ (m : RegisterMap). ClearsOne old m k) (sym (wish_is ∙ ap (after_wish old) at)) (wish_clears old k (subst IsLow at g.at.low) held.set.shape.bank)

        beside : n ≢ k → IsMatched n heard
        beside other =
            let m = marks_same (port_at old n) (port_at pm.registers n) (cleared.others n other) in
            matched_on n l rest pm m count h (named_other n l pm rest h.named (not_scanning (slot31 l) (Clear k) at refl) (λ found_now. marks_then n l rest pm m count h))
            (λ detect on. not_detect order (Clear k) n at refl detect) back

        here : n ≡ k → IsMatched n heard
        here same =
            let its : order ≡ Clear n = at ∙ ap Clear (sym same) in
            record {
              named = named_other n l pm rest h.named (not_scanning (slot31 l) (Clear k) at refl) (λ found_now. absurd (found_beside n k l.host at command.asks found_now same));
              shown = elim (h.clears its command.asks) [
                | inl both ↦ inr (nothing_pm n l rest pm l.up both.1.none both.1)
                | inr over ↦ absurd (over (Falls f first own))
              ];
              taken = λ on there. inr (inr (clear_sought order asked n its command.asks));
              tells = λ detect on. not_detect order (Clear k) n at refl detect;
              clears = λ clear on. inr gone;
            }

        clear_matched : IsMatched n heard
        clear_matched = elim (cases_eq n k) [ inl same ↦ here same | inr other ↦ beside other ]

      by_order : (o : Order) → order ≡ o → IsMatched n heard
      by_order Scan at = scan_matched at
      by_order (Clear k) at = clear_matched k at
      by_order (Detect k) at = other_matched (Detect k) at (λ j e. cc) refl detect_said
      by_order o at = other_matched o at (λ j e. cc) refl (λ detect. not_detect order o n at refl detect)

    own_matched : IsMatched n heard
    own_matched = elim (cases_Bool (is_ordered l.host)) [ inl ordered ↦ by_order ordered order refl | inr plain ↦ plain_matched plain ]

  pub hears_matched : IsHeard l.pm pm f → IsMatched n heard
  hears_matched (ByControl own answers after_is) = own_matched own answers after_is
  hears_matched (ByOther other answer same) = heard_other other answer same

-- ---- a frame that rises

module _ (ports n : ℕ) (low : n < 15) (l : Line) (held : IsHeld ports l) (f : Stamped) (pm : PmState) (h : IsMatched n l) where
  abbrev risen : Line
  risen = record l { pm = pm; up = l.up ++ f ∷ [] }

  risen_back : IsComing risen → IsComing l
  risen_back (Unsent w) = Unsent w
  risen_back (Falls x there own) = Falls x there own

  risen_matched : pm.registers.bank ≡ l.pm.registers.bank → pm.registers.ports ≡ l.pm.registers.ports → IsNamed n risen → (f.stamp.port ≡ n → IsShown n l.pm.registers) → (IsMarked n l.pm.registers → f.stamp.port ≢ n)
      → ((P : ℕ → Type 0) → IsSaid P l → IsSaid P risen) → IsMatched n risen
  risen_matched bank count named shown other said = record {
    named = named;
    shown = elim (cases_eq f.stamp.port n) [
      | inl its ↦ inl (shown_as (shown its))
      | inr beside ↦ elim h.shown [ inl s ↦ inl (shown_as s) | inr none ↦ inr (nothing_pm n l l.down pm (l.up ++ f ∷ []) (none_more n l.up f none.none beside) none) ]
    ];
    taken = subst (λ (q : PortRegisters). IsTakenAt n q l.host.driver.plan) (sym same) h.taken;
    tells = λ at on. elim (h.tells at on) [
      | inl comes ↦ inl (coming_risen l f pm comes)
      | inr told ↦ inr (said_map (Agrees n l.pm.registers) (Agrees n pm.registers) risen (λ value. subst (λ (q : PortRegisters). (is_marked q ≡ true) ⊎ (is_there value ≡ q.present)) (sym same)) (said (Agrees n l.pm.registers) told))
    ];
    clears = λ at on. elim (h.clears at on) [
      | inl both ↦
          inl (
            marked_on n l.pm.registers pm.registers count (λ marked. ap is_marked same ∙ marked) both.0,
            nothing_pm n l l.down pm (l.up ++ f ∷ []) (none_more n l.up f both.1.none (other both.0)) both.1,
          )
      | inr gone ↦ inr (λ comes. gone (risen_back comes))
    ];
  }
    where
      same : port_at pm.registers n ≡ port_at l.pm.registers n
      same = ap (λ (b : List PortRegisters). slice_index_or b n opening_port) bank

      shown_as : IsShown n l.pm.registers → IsShown n pm.registers
      shown_as s = record {
        low = subst (λ (k : ℕ). n < k) (sym count) s.low;
        opened = ap is_open same ∙ s.opened;
        shows = subst (λ (q : PortRegisters). (q.present ≡ true) ⊎ (is_marked q ≡ true)) (sym same) s.shows;
      }

  far : {P : Type 0} → f.stamp.port ≡ 15 → f.stamp.port ≡ n → P
  far own its = absurd (omega (arith, low, own, its))

  rises_by : Gives l.pm f pm → IsNamed n risen → IsMatched n risen
  rises_by (FromPort k was next other is port shown e) named =
      let stamp : f.stamp.port ≡ k = ap (λ (x : Stamped). x.stamp.port) shown in
      let through = passes_of l.pm.registers k (risen_forwards l.pm k was is) in
      let parts = passes_parts (port_at l.pm.registers k) through.1 in
      risen_matched (ap (λ (x : PmState). x.registers.bank) e) (ap (λ (x : PmState). x.registers.ports) e) named
      (λ its. subst (λ (j : ℕ). IsShown j l.pm.registers) (sym stamp ∙ its) (record { low = through.0; opened = parts.0; shows = inl ((held.shut k).shows parts.1).1 }))
      (λ marked its. absurd (true≢false (sym through.1 ∙ ap (λ (j : ℕ). passes (port_at l.pm.registers j)) (sym stamp ∙ its) ∙ (held.shut n).shut marked.marked)))
      (λ P. said_beside l f pm P (ap (λ (x : PmState). x.answer) e) (not_control f k other stamp))
  rises_by (Notice next due is e) named =
      let own : f.stamp.port ≡ 15 = ap (λ (s : Stamp). s.port) is.1 in
      risen_matched (ap (λ (x : PmState). x.registers.bank) e) (ap (λ (x : PmState). x.registers.ports) e) named (far own) (λ marked. far own)
      (λ P. said_beside l f pm P (ap (λ (x : PmState). x.answer) e) (notice_none f is.0.viewed))
  rises_by (Answers next is e) named =
      let own : f.stamp.port ≡ 15 = (held.calm.waits f is).0 in
      risen_matched (ap (λ (x : PmState). x.registers.bank) e) (ap (λ (x : PmState). x.registers.ports) e) named (far own) (λ marked. far own) (λ P. said_answer l f pm P is)

  pub rises_matched : Gives l.pm f pm → IsMatched n risen
  rises_matched gave = rises_by gave (rises_named n low l held.calm f pm held.shut h.named gave)

-- For `rested_plans_match`. A port that the answer to a scan names is marked until it is cleared, and no frame of it comes: those that went up
-- before the answer come before it, and none goes up while the port is marked.
use Rattle.std.proofs.Common.{◌≡◌, ◌≢◌, ◌⊎◌, ℕ, zero, suc, ◌+◌, ◌-◌, ◌*◌, ◌%◌, ◌^◌, ◌<◌, ◌≤◌, ◌==◌, ◌&&◌, ◌||◌, Bool, true, false, List, [], ◌∷◌}
use Rattle.std.proofs.{Common.{◌++◌, refl, sym, ap, subst, ◌∙◌, inl, inr, Option, Some, None, arith}, lemmas.Bool.{and_parts, cases_Bool, cases_lt}}
use Rattle.std.proofs.lemmas.{Bool.{false≢true, ltb-true, true≢false}, Nat.Bits.{bit_at_above, bit_at_cat_high, bit_at_cat_low, bit_at_lowest}}
use Rattle.std.specs.{Prelude.{if◌then◌else◌, nat_lt}, Int.bit_at}
use Rattle.fis_view.specs.{Frames.Stamped, Seen.seen, declared.frame.Stamp.Stamp}
use Rattle.slots.specs.Slots.{has_bit, own_issue}
use Rattle.pm_control.specs.Answers.{IsAnswer, answer_to_request}
use Rattle.pm_ports.specs.Port.{only_if, rises as rises_from}
use Rattle.pm_registers.specs.{Bits.{bits_where, shares}, Port.passes, RegisterMap.{RegisterMap, after_notice, asks, forwards, port_at, summary}}
use Rattle.pm_registers.proofs.Door.{bits_where_fits}
use Rattle.multiplier.specs.{Arbiter.control_port, Between.{Answer as Answers, FromPort, Gives, Notice}, State.{PmState, control_stamp, held}}
use Rattle.multiplier.specs.State as state
use Rattle.hba_fbs.specs.declared.report.TakeReport.{TakeReport}
use Rattle.hba_driver.specs.{declared.order.Order.{Order, TheVariants.{Clear, Scan}}, HostTurns.{Does, Host, HostTurn, Took}, Orders.changes}
use Rattle.hba_driver.specs.{Scans.{Finds, IsFound, ScansOn, found, is_left, is_scan, tells}, Sights.answer_in, Slot31.{Asks, Control, IsIn}}
use Rattle.hba_driver.specs.Slot31.{IsUnsent, Resets, Signs, Stage31, Turns31, control_in, control_of}
use Rattle.hba_driver.proofs.Door.{scans_on}
use Rattle.hba_laws.specs.Parts.{DevicePart}
use Rattle.pm_world.specs.Line.{NoneUp, OnLine, is_register, is_reply}
use Rattle.world_rests.proofs.{ControlFile.{IsCalm, among_either}, Marks.{AreShut, is_marked}, Ordering.{answer_value, wish}, Orders.Among}
use Rattle.world_rests.proofs.{Saying.{not_control, notice_none, took_same}, SetUp.sent_not, Slot31.none_there, Summary.summary_small, Ways.IsGood}
use Rattle.world_rests.proofs.Ways.{Line}

-- ---- the bits of GSCR[32]

abbrev one_if : Bool → ℕ
one_if b = if b then 1 else 0

bit_of_test : (test : ℕ → Bool) (n k : ℕ) → k < n → bit_at (bits_where test n) k ≡ one_if (test k)
unfolding bits_where
bit_of_test test zero k h = absurd (omega arith)
bit_of_test test (suc n) k h =
    let one : ℕ = one_if (test n) in
    let sum : bits_where test n + (if test n then 2 ^ n else 0) ≡ one * 2 ^ n + bits_where test n =
    elim (test n) as (λ b. bits_where test n + (if b then 2 ^ n else 0) ≡ one_if b * 2 ^ n + bits_where test n) [ true ↦ omega arith | false ↦ omega arith ] in
    ap (λ (x : ℕ). bit_at x k) sum ∙ elim (cases_lt k n) [
      | inl below ↦ bit_at_cat_low one n (bits_where test n) k below ∙ bit_of_test test n k below
      | inr at_top ↦
          let e : k ≡ n = omega arith in
          let zero_left : k - n ≡ 0 = omega arith in
          bit_at_cat_high one n (bits_where test n) k (bits_where_fits test n) at_top ∙ ap (bit_at one) zero_left ∙ bit_at_lowest one
          ∙ elim (test n) as (λ b. one_if b % 2 ≡ one_if b) [ true ↦ refl | false ↦ refl ] ∙ ap (λ (j : ℕ). one_if (test j)) (sym e)
    ]

test_of_one : (b : Bool) → (one_if b == 1) ≡ true → b ≡ true
test_of_one true is = refl
test_of_one false is = absurd (false≢true is)

-- each bit is of a port that asks
named_asks : (m : RegisterMap) (n : ℕ) → has_bit (summary m) n ≡ true → (n < m.ports) × (asks m n ≡ true)
named_asks m n is = elim (cases_lt n m.ports) [
  | inl low ↦ (low, test_of_one (asks m n) (ap (λ (k : ℕ). k == 1) (sym (bit_of_test (asks m) m.ports n low)) ∙ is))
  | inr past ↦ absurd (false≢true (ap (λ (k : ℕ). k == 1) (sym (bit_at_above (summary m) m.ports n (bits_where_fits (asks m) m.ports) past)) ∙ is))
]

-- ---- what is said of a port

-- the port exists, and N or X of it is set
pub record IsMarked (n : ℕ) (m : RegisterMap) : Type 0 where
  pub low : n < m.ports
  pub marked : is_marked (port_at m n) ≡ true

-- no frame of it
abbrev pub NoneOf : ℕ → List Stamped → Type 0
NoneOf n xs = (f : Stamped) → Among f xs → f.stamp.port ≢ n

-- the answer names it
abbrev Names : ℕ → Stamped → Type 0
Names n f = has_bit (answer_in (seen f.bytes)) n ≡ true

-- a port that an answer names is marked, and no frame of it goes up behind the answer
abbrev Behind : ℕ → RegisterMap → List Stamped → Type 0
Behind n m [] = Unit {0}
Behind n m (x ∷ xs) = (is_reply x ≡ true → Names n x → IsMarked n m × NoneOf n xs) × Behind n m xs

-- the answer to a scan is awaited
pub record IsScanning (c : Control) : Type 0 where
  pub order : c.order ≡ Scan
  pub asked : c.asked ≡ true

abbrev pub slot31 : Line → Control
slot31 l = control_in l.host.driver.plan

-- what that answer names is marked, and so is what it named, until the port is cleared
pub record IsNamed (n : ℕ) (l : Line) : Type 0 where
  pub waits : IsScanning (slot31 l) → (f : Stamped) → l.pm.answer ≡ Some f → Names n f → IsMarked n l.pm.registers
  pub up : IsScanning (slot31 l) → Behind n l.pm.registers l.up
  pub found_is : found n l.host ≡ true → IsMarked n l.pm.registers × NoneOf n l.up

-- ---- lists of frames

pub marked_on : (n : ℕ) (m r : RegisterMap) → r.ports ≡ m.ports → (is_marked (port_at m n) ≡ true → is_marked (port_at r n) ≡ true) → IsMarked n m → IsMarked n r
marked_on n m r ports marks is = record { low = subst (λ (k : ℕ). n < k) (sym ports) is.low; marked = marks is.marked }

behind_on : (n : ℕ) (m r : RegisterMap) (xs : List Stamped) → (IsMarked n m → IsMarked n r) → Behind n m xs → Behind n r xs
behind_on n m r [] on h = tt
behind_on n m r (x ∷ xs) on h = ((λ reply names. let b = h.0 reply names in (on b.0, b.1)), behind_on n m r xs on h.1)

pub none_more : (n : ℕ) (xs : List Stamped) (f : Stamped) → NoneOf n xs → f.stamp.port ≢ n → NoneOf n (xs ++ f ∷ [])
none_more n xs f none other g there = elim (among_either g f xs there) [ inl was ↦ none g was | inr same ↦ subst (λ (x : Stamped). x.stamp.port ≢ n) same other ]

behind_more : (n : ℕ) (m : RegisterMap) (xs : List Stamped) (f : Stamped) → (IsMarked n m → f.stamp.port ≢ n) → (is_reply f ≡ true → Names n f → IsMarked n m) → Behind n m xs → Behind n m (xs ++ f ∷ [])
behind_more n m [] f other names h = ((λ reply its. (names reply its, λ g there. absurd there)), tt)
behind_more n m (x ∷ xs) f other names h =
    ((λ reply its. let b = h.0 reply its in (b.0, none_more n xs f b.1 (other b.0))), behind_more n m xs f other names h.1)

behind_none : (n : ℕ) (m : RegisterMap) (xs : List Stamped) → NoneUp xs → Behind n m xs
behind_none n m [] none = tt
behind_none n m (x ∷ xs) none = ((λ reply names. absurd (true≢false (sym reply ∙ none.0))), behind_none n m xs none.1)

-- ---- the multiplier

module _ (n : ℕ) (l : Line) (pm : PmState) (down : List Stamped) (h : IsNamed n l) where
  abbrev after : Line
  after = record l { down = down; pm = pm }

  pub named_pm : (IsMarked n l.pm.registers → IsMarked n pm.registers) → pm.answer ≡ l.pm.answer → IsNamed n after
  named_pm on answer = record {
    waits = λ scans f there names. on (h.waits scans f (sym answer ∙ there) names);
    up = λ scans. behind_on n l.pm.registers pm.registers l.up on (h.up scans);
    found_is = λ is. let b = h.found_is is in (on b.0, b.1);
  }

  -- a command other than the scan
  pub named_other : (IsScanning (slot31 l) → ⊥) → (found n l.host ≡ true → IsMarked n l.pm.registers → IsMarked n pm.registers) → IsNamed n after
  named_other none on = record {
    waits = λ scans. absurd (none scans);
    up = λ scans. absurd (none scans);
    found_is = λ is. let b = h.found_is is in (on is b.0, b.1);
  }

  -- the scan
  pub named_scan : pm.registers ≡ l.pm.registers → l.pm.registers.ports ≤ 15 → l.pm.registers.mask ≡ changes → IsAnswer (answer_to_request l.pm.resetting l.pm.registers (wish Scan)) (control_stamp l.pm) pm.answer → IsNamed n after
  named_scan same most masked answers = record {
    waits = λ scans f there names. on (its f there names);
    up = λ scans. behind_on n l.pm.registers pm.registers l.up on (h.up scans);
    found_is = λ is. let b = h.found_is is in (on b.0, b.1);
  }
    where
      on : IsMarked n l.pm.registers → IsMarked n pm.registers
      on = subst (IsMarked n) (sym same)

      its : (f : Stamped) → pm.answer ≡ Some f → Names n f → IsMarked n l.pm.registers
      its f there names =
          let a = subst (λ (o : Option Stamped). IsAnswer (answer_to_request l.pm.resetting l.pm.registers (wish Scan)) (control_stamp l.pm) o) there answers in
          let named = named_asks l.pm.registers n (ap (λ (value : ℕ). has_bit value n) (sym (answer_value (summary l.pm.registers) f.bytes (summary_small l.pm.registers most) a.0)) ∙ names) in
          record { low = named.0; marked = ap (shares (port_at l.pm.registers n).error) (sym masked) ∙ named.1 }

pub not_scanning : (c : Control) (o : Order) → c.order ≡ o → is_scan o ≡ false → IsScanning c → ⊥
not_scanning c o is other scans = absurd (false≢true (sym other ∙ ap is_scan (sym is ∙ scans.order)))

-- a port that is found is not the one that is cleared
pub found_beside : (n k : ℕ) (h : Host) → h.driver.plan.order ≡ Clear k → h.driver.plan.asked ≡ true → found n h ≡ true → n ≢ k
found_beside n k h order asked is same = by_parts (or_parts_true (is_left n h.driver.plan) _ is)
  where
    or_parts_true : (a b : Bool) → (a || b) ≡ true → (a ≡ true) ⊎ (b ≡ true)
    or_parts_true true b e = inl refl
    or_parts_true false b e = inr e

    left_is : is_left n h.driver.plan ≡ (nat_lt k n && has_bit h.driver.plan.found n)
    left_is = ap (λ (o : Order). is_left n (record h.driver.plan { order = o })) order ∙ ap (λ (b : Bool). is_left n (record h.driver.plan { order = Clear k; asked = b })) asked

    by_parts : (is_left n h.driver.plan ≡ true) ⊎ (((is_scan h.driver.plan.order && h.driver.plan.asked) && tells n (control_of h)) ≡ true) → ⊥
    by_parts (inl left) =
        let less : k < n = ltb-true k n (and_parts (nat_lt k n) (has_bit h.driver.plan.found n) (sym left_is ∙ left)).0 in
        absurd (omega (arith, less, same))
    by_parts (inr named) =
        absurd (false≢true (sym (ap is_scan order) ∙ (and_parts (is_scan h.driver.plan.order) h.driver.plan.asked (and_parts (is_scan h.driver.plan.order && h.driver.plan.asked) (tells n (control_of h)) named).0).0))

-- ---- a frame rises

-- one that rises from a port passes it
pub risen_forwards : (pm : PmState) (n : ℕ) (was : Stamped) → held pm n ≡ Some was → forwards pm.registers n ≡ true
risen_forwards pm n was is = by_up (state.port_at pm n).up is
  where
    by_test : (a b : Bool) (f : Stamped) → only_if (a && b) f ≡ Some was → a ≡ true
    by_test true b f e = refl
    by_test false b f e = absurd (let wrong : None ≡ Some was = e in cc)

    by_up : (o : Option Stamped) → rises_from (forwards pm.registers n) (state.port_at pm n).present o ≡ Some was → forwards pm.registers n ≡ true
    by_up None e = absurd (let wrong : None ≡ Some was = e in cc)
    by_up (Some f) e = by_test (forwards pm.registers n) _ f e

pub passes_of : (m : RegisterMap) (n : ℕ) → forwards m n ≡ true → (n < m.ports) × (passes (port_at m n) ≡ true)
passes_of m n is = let both = and_parts (nat_lt n m.ports) (passes (port_at m n)) is in (ltb-true n m.ports both.0, both.1)

module _ (n : ℕ) (low : n < 15) (l : Line) (c : IsCalm l) (f : Stamped) (pm : PmState) (shut : AreShut l.pm.registers) (h : IsNamed n l) where
  abbrev risen : Line
  risen = record l { pm = pm; up = l.up ++ f ∷ [] }

  named_risen : (IsMarked n l.pm.registers → IsMarked n pm.registers) → (IsMarked n l.pm.registers → f.stamp.port ≢ n) → (IsScanning (slot31 l) → is_reply f ≡ true → Names n f → IsMarked n l.pm.registers)
      → ((g : Stamped) → pm.answer ≡ Some g → l.pm.answer ≡ Some g) → IsNamed n risen
  named_risen on other names waits = record {
    waits = λ scans g there its. on (h.waits scans g (waits g there) its);
    up = λ scans. behind_on n l.pm.registers pm.registers (l.up ++ f ∷ []) on (behind_more n l.pm.registers l.up f other (names scans) (h.up scans));
    found_is = λ is. let b = h.found_is is in (on b.0, none_more n l.up f b.1 (other b.0));
  }

  pub rises_named : Gives l.pm f pm → IsNamed n risen
  rises_named (FromPort k was next other is port shown e) =
      let same : pm.registers ≡ l.pm.registers = ap (λ (x : PmState). x.registers) e in
      let through = passes_of l.pm.registers k (risen_forwards l.pm k was is) in
      let stamp : f.stamp.port ≡ k = ap (λ (x : Stamped). x.stamp.port) shown in
      named_risen (subst (IsMarked n) (sym same))
      (λ marked its. absurd (true≢false (sym (subst (λ (j : ℕ). passes (port_at l.pm.registers j) ≡ true) (sym stamp ∙ its) through.1) ∙ (shut n).shut marked.marked)))
      (λ scans reply. absurd (true≢false (sym reply ∙ not_control f k other stamp))) (λ g there. sym (ap (λ (x : PmState). x.answer) e) ∙ there)
  rises_named (Notice next due is e) =
      let same : pm.registers ≡ after_notice l.pm.registers = ap (λ (x : PmState). x.registers) e in
      named_risen (λ marked. subst (IsMarked n) (sym same) (record { low = marked.low; marked = marked.marked }))
      (λ marked its. let own : f.stamp.port ≡ 15 = ap (λ (s : Stamp). s.port) is.1 in absurd (omega (arith, low, own, its)))
      (λ scans reply. absurd (true≢false (sym reply ∙ notice_none f is.0.viewed))) (λ g there. sym (ap (λ (x : PmState). x.answer) e) ∙ there)
  rises_named (Answers next is e) =
      let same : pm.registers ≡ l.pm.registers = ap (λ (x : PmState). x.registers) e in
      let own : f.stamp.port ≡ 15 = (c.waits f is).0 in
      named_risen (subst (IsMarked n) (sym same)) (λ marked its. absurd (omega (arith, low, own, its))) (λ scans reply. h.waits scans f is)
      (λ g there. absurd (let wrong : None ≡ Some g = sym (ap (λ (x : PmState). x.answer) e) ∙ there in cc))

-- ---- the host

module _ (n : ℕ) (low : n < 15) (l : Line) (g : IsGood l) (h : IsNamed n l) where
  -- a frame that it takes
  module _ (c : IsCalm l) (f : Stamped) (rest : List Stamped) (is : l.up ≡ f ∷ rest) (report : TakeReport) (host : Host) (does : Does l.host (Took f.bytes report) host)
      (t : Turns31 g.stage l.host (Took f.bytes report) host) (k : IsGood (record l { host = host; up = rest })) (all : IsFound l.host.driver.plan) where
    scans_then : IsScanning (control_in host.driver.plan) → IsScanning (slot31 l)
    scans_then = subst IsScanning (took_same l g c f rest is report host does t k)

    scanned : ScansOn n g.stage l.host (Took f.bytes report) host
    scanned = (scans_on n low g.stage t.next l.host (Took f.bytes report) host does g.going k.going g.at t.at t.is all).0

    finds : Finds n g.stage l.host (Took f.bytes report) → IsMarked n l.pm.registers × NoneOf n rest
    finds found_now =
        let asked : IsIn Asks l.host.driver.plan.order l.host.driver.plan.asked (control_of l.host) = subst (λ (s : Stage31). IsIn s l.host.driver.plan.order l.host.driver.plan.asked (control_of l.host)) found_now.asks g.at.is in
        let port : Rattle.hba_fbs.specs.Taking.port_of f.bytes ≡ f.stamp.port = c.marks f (subst (Among f) (sym is) (inl refl)) does.framed in
        let reply : is_reply f ≡ true = ap (λ (p : ℕ). (p == control_port) && is_register (seen f.bytes)) (sym port ∙ found_now.own) ∙ ap is_register found_now.answer.viewed in
        (subst (Behind n l.pm.registers) is (h.up (record { order = found_now.order; asked = asked.0 }))).0 reply found_now.bit

    pub takes_named : IsNamed n (record l { host = host; up = rest })
    takes_named = record {
      waits = λ scans. h.waits (scans_then scans);
      up = λ scans. (subst (Behind n l.pm.registers) is (h.up (scans_then scans))).1;
      found_is = λ now. elim (cases_Bool (found n l.host)) [
        | inl was ↦ let b = h.found_is was in (b.0, λ x there. b.1 x (subst (Among x) (sym is) (inr there)))
        | inr none ↦ finds (scanned.begins none now)
      ];
    }

  -- a turn that takes none
  module _ (turn : HostTurn) (host : Host) (down : List Stamped) (scans : (found n l.host ≡ false → found n host ≡ true → ⊥))
      (stays : IsScanning (control_in host.driver.plan) → IsScanning (slot31 l) ⊎ ((l.pm.answer ≡ None) × NoneUp l.up)) where
    pub turns_named : IsNamed n (record l { host = host; down = down })
    turns_named = record {
      waits = λ now f there names. elim (stays now) [ inl was ↦ h.waits was f there names | inr none ↦ absurd (let wrong : None ≡ Some f = sym none.0 ∙ there in cc) ];
      up = λ now. elim (stays now) [ inl was ↦ h.up was | inr none ↦ behind_none n l.pm.registers l.up none.1 ];
      found_is = λ now. elim (cases_Bool (found n l.host)) [ inl was ↦ h.found_is was | inr none ↦ absurd (scans none now) ];
    }

-- where the command of an order was issued now, no answer is on its way
pub unsent_clear : (s : Stage31) (o : Order) (asked : Bool) (part : DevicePart) (down : List Stamped) (waits : Option Stamped) (up : List Stamped) → IsUnsent o part → IsIn s o asked part → OnLine s down waits up → (waits ≡ None) × NoneUp up
unsent_clear Resets o asked part down waits up u is line = (line.1, line.2)
unsent_clear Signs o asked part down waits up u is line = none_there _ (own_issue part.view.slots 31) is.0 u.issued
unsent_clear Asks o asked part down waits up u is line = sent_not _ is.2.issue (own_issue part.view.slots 31) u.issued is.2.issued refl is.2.sent
unsent_clear s o asked part down waits up u is line = (line.1, line.2)

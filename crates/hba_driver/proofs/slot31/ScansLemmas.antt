-- For `scans_clear`. What a tick does to the ports that a scan found, as the driver's plan keeps them.
use Rattle.std.proofs.Common.{◌≡◌, ℕ, ◌+◌, ◌⊎◌, Bool, true, false, ◌&&◌, nat_lt, refl, sym, ◌∙◌, ap, subst, inl, inr, arith, Option, Some, None}
use Rattle.std.specs.Prelude.{◌==◌, is_some, nat_le}
use Rattle.std.proofs.lemmas.{Bool.{and_from, and_parts, cases_Bool, false≢true, true≢false}, Bool.Decides.nat_tests}
use Rattle.slots.specs.Slots.{has_bit, lowest_below, match_some}
use Rattle.slots.proofs.Door.{lowest_is}
use Rattle.hba_driver.specs.declared.order.Order.{Order, TheVariants.{ResetOn, AwaitSignature, CountPorts, Enable, Open, Scan, Clear, Detect, Watch}}
use Rattle.hba_driver.specs.{declared.{path.TaskFile.TaskFile, plan.Plan.Plan}, Seeing.Sight, declared.turn.Act.Act, Drivers.Driver}
use Rattle.hba_driver.specs.{Orders.{next_order, order_fields, scan_from}, Scans.{IsClearOf, IsFound, comes_to, is_left, is_scan}}
use Rattle.hba_driver.specs.Ticks.{acted, after_tick, done_ended, due, from_reset, plan_after, recovering, seen}
use Rattle.hba_driver.specs.{Turns.{control_seen, met_order, noted}, Slot31.{Control, control_in}}
use Rattle.hba_driver.specs.declared.turn.Act.TheVariants as act
use Rattle.hba_driver.proofs.slot31.Slot31Lemmas.{Early, IsOther, IsSeen, Looked, Ordered, acted_order, seen_free, seen_out, seen_unasked, turn_seen}
use Rattle.hba_driver.proofs.goes_on.StopLemmas.{either}

-- ---- what slot 31 looks at tells which ports are left

abbrev left_in : ℕ → Control → Bool
left_in n c = comes_to c.order c.asked n && has_bit c.found n

abbrev FoundIn : Control → Type 0
FoundIn c = IsClearOf c.order c.found

-- ---- an order that waits is not an order of a scan

abbrev Comes : ℕ → Bool → Order → Type 0
Comes n asked o = comes_to o asked n ≡ true

met_comes : (v : Sight) (n : ℕ) (o : Order) → Comes n false (met_order v o) → Comes n false o
unfolding met_order
met_comes v n AwaitSignature =
    either (λ (x : Order). Comes n false x → false ≡ true) v.resetting AwaitSignature _ (λ h. h)
    (either (λ (x : Order). Comes n false x → false ≡ true) (v.answer == 0x96690101) CountPorts ResetOn (λ h. h) (λ h. h))
met_comes v n Watch = either (λ (x : Order). Comes n false x → false ≡ true) v.notified Scan Watch (λ h. h) (λ h. h)
met_comes v n o = λ h. h

met_clear : (v : Sight) (found : ℕ) (o : Order) → IsClearOf o found → IsClearOf (met_order v o) found
unfolding met_order
met_clear v found AwaitSignature h =
    either (λ (x : Order). IsClearOf x found) v.resetting AwaitSignature _ tt (either (λ (x : Order). IsClearOf x found) (v.answer == 0x96690101) CountPorts ResetOn tt tt)
met_clear v found Watch h = either (λ (x : Order). IsClearOf x found) v.notified Scan Watch tt tt
met_clear v found o h = h

-- ---- the scan goes on

le_trans : (a b c : ℕ) → nat_le a b ≡ true → nat_le b c ≡ true → nat_le a c ≡ true
le_trans a b c h k = grind (arith, nat_tests)

lt_of_le : (a b : ℕ) → nat_le (a + 1) b ≡ true → nat_lt a b ≡ true
lt_of_le a b h = grind (arith, nat_tests)

le_of_lt : (a b : ℕ) → nat_lt a b ≡ true → nat_le a b ≡ true
le_of_lt a b h = grind (arith, nat_tests)

le_self : (a : ℕ) → nat_le a a ≡ true
le_self a = grind (arith, nat_tests)

lt_self : (a : ℕ) → nat_lt a a ≡ false
lt_self a = grind (arith, nat_tests)

abbrev test : (found from : ℕ) → ℕ → Bool
test found from port = nat_le from port && has_bit found port

scanned_comes : (found from n : ℕ) → Comes n false (scan_from found from) → nat_le from n ≡ true
unfolding scan_from
scanned_comes found from n = by_port (lowest_below (test found from) 15) (λ port is. (lowest_is (test found from) 15 port is).passes)
  where
    by_port : (o : Option ℕ) → ((port : ℕ) → o ≡ Some port → test found from port ≡ true) → Comes n false (match_some o Watch Clear) → nat_le from n ≡ true
    by_port None passes h = absurd (false≢true h)
    by_port (Some port) passes h = le_trans from port n (and_parts (nat_le from port) (has_bit found port) (passes port refl)).0 h

scanned_clear : (found from : ℕ) → IsClearOf (scan_from found from) found
unfolding scan_from
scanned_clear found from = by_port (lowest_below (test found from) 15) (λ port is. (lowest_is (test found from) 15 port is).passes)
  where
    by_port : (o : Option ℕ) → ((port : ℕ) → o ≡ Some port → test found from port ≡ true) → IsClearOf (match_some o Watch Clear) found
    by_port None passes = tt
    by_port (Some port) passes = (and_parts (nat_le from port) (has_bit found port) (passes port refl)).1

next_comes : (ports found n : ℕ) (o : Order) → is_scan o ≡ false → Comes n false (next_order ports found o) → Comes n true o
unfolding next_order
next_comes ports found n Enable plain = either (λ (x : Order). Comes n false x → false ≡ true) (nat_lt 0 ports) (Open 0) Scan (λ h. h) (λ h. h)
next_comes ports found n (Open port) plain = either (λ (x : Order). Comes n false x → false ≡ true) (nat_lt (port + 1) ports) (Open (port + 1)) Scan (λ h. h) (λ h. h)
next_comes ports found n Scan plain = absurd (true≢false plain)
next_comes ports found n (Detect port) plain = λ h. lt_of_le port n (scanned_comes found (port + 1) n h)
next_comes ports found n o plain = λ h. h

next_clear : (ports found : ℕ) (o : Order) → IsClearOf (next_order ports found o) found
unfolding next_order
next_clear ports found Enable = either (λ (x : Order). IsClearOf x found) (nat_lt 0 ports) (Open 0) Scan tt tt
next_clear ports found (Open port) = either (λ (x : Order). IsClearOf x found) (nat_lt (port + 1) ports) (Open (port + 1)) Scan tt tt
next_clear ports found Scan = scanned_clear found 0
next_clear ports found (Detect port) = scanned_clear found (port + 1)
next_clear ports found o = tt

-- ---- an answer is noted

noted_plain : (v : Sight) (o : Order) (p : Plan) → is_scan o ≡ false → (noted v o p).found ≡ p.found
unfolding noted
noted_plain v Scan p h = absurd (true≢false h)
noted_plain v o p h = refl

noted_scan : (v : Sight) (o : Order) (p : Plan) → is_scan o ≡ true → (noted v o p).found ≡ v.answer
unfolding noted
noted_scan v Scan p h = refl
noted_scan v o p h = absurd (false≢true h)

pub scan_is : (o : Order) → is_scan o ≡ true → o ≡ Scan
scan_is Scan h = refl
scan_is o h = absurd (false≢true h)

-- the driver looks at an answer to a read of GSCR[32], which names port n
pub record Reads (v : Sight) (p : Plan) (n : ℕ) : Type 0 where
  pub order : p.order ≡ Scan
  pub asked : p.asked ≡ true
  pub free : has_bit v.issued 31 ≡ false
  pub bit : has_bit v.answer n ≡ true

module _ (v : Sight) (p : Plan) where
  seen_left : (n : ℕ) → is_left n (control_seen v p) ≡ true → (is_left n p ≡ true) ⊎ Reads v p n
  seen_left n h = elim (cases_Bool p.asked) [
    | inl asked ↦ elim (cases_Bool (has_bit v.issued 31)) [
      | inl out ↦ inl (subst (λ (q : Plan). is_left n q ≡ true) (seen_out v p asked out) h)
      | inr free ↦ answer asked free (subst (λ (q : Plan). is_left n q ≡ true) (seen_free v p asked free) h)
    ]
    | inr unasked ↦
        let same : (comes_to (met_order v p.order) p.asked n && has_bit p.found n) ≡ true = subst (λ (q : Plan). is_left n q ≡ true) (seen_unasked v p unasked) h in
        let parts = and_parts (comes_to (met_order v p.order) p.asked n) (has_bit p.found n) same in
        let met : Comes n false (met_order v p.order) = subst (λ (b : Bool). Comes n b (met_order v p.order)) unasked parts.0 in
        inl (and_from (comes_to p.order p.asked n) (has_bit p.found n) (subst (λ (b : Bool). Comes n b p.order) (sym unasked) (met_comes v n p.order met)) parts.1)
  ]
    where
      answer : p.asked ≡ true → has_bit v.issued 31 ≡ false
          → (comes_to (met_order v (next_order (noted v p.order p).ports (noted v p.order p).found p.order)) false n && has_bit (noted v p.order p).found n) ≡ true
          → (is_left n p ≡ true) ⊎ Reads v p n
      answer asked free h =
          let next : Order = next_order (noted v p.order p).ports (noted v p.order p).found p.order in
          let parts = and_parts (comes_to (met_order v next) false n) (has_bit (noted v p.order p).found n) h in
          elim (cases_Bool (is_scan p.order)) [
            | inl scan ↦ inr (record {
              order = scan_is p.order scan;
              asked = asked;
              free = free;
              bit = subst (λ (f : ℕ). has_bit f n ≡ true) (noted_scan v p.order p scan) parts.1;
            })
            | inr plain ↦
                let comes : Comes n true p.order = next_comes (noted v p.order p).ports (noted v p.order p).found n p.order plain (met_comes v n next parts.0) in
                inl (and_from (comes_to p.order p.asked n) (has_bit p.found n) (subst (λ (b : Bool). Comes n b p.order) (sym asked) comes)
                (subst (λ (f : ℕ). has_bit f n ≡ true) (noted_plain v p.order p plain) parts.1))
          ]

  seen_found : IsFound p → IsFound (control_seen v p)
  seen_found h = elim (cases_Bool p.asked) [
    | inl asked ↦ elim (cases_Bool (has_bit v.issued 31)) [
      | inl out ↦ subst IsFound (sym (seen_out v p asked out)) h
      | inr free ↦
          subst IsFound (sym (seen_free v p asked free))
          (met_clear v (noted v p.order p).found (next_order (noted v p.order p).ports (noted v p.order p).found p.order) (next_clear (noted v p.order p).ports (noted v p.order p).found p.order))
    ]
    | inr unasked ↦ subst IsFound (sym (seen_unasked v p unasked)) (met_clear v p.found p.order h)
  ]

  -- an order that is asked stays
  pub seen_asked : (control_seen v p).asked ≡ true → control_seen v p ≡ p
  seen_asked h = elim (cases_Bool p.asked) [
    | inl asked ↦ elim (cases_Bool (has_bit v.issued 31)) [
      | inl out ↦ seen_out v p asked out
      | inr free ↦ absurd (true≢false (sym h ∙ ap (λ (q : Plan). q.asked) (seen_free v p asked free)))
    ]
    | inr unasked ↦ absurd (true≢false (sym h ∙ ap (λ (q : Plan). q.asked) (seen_unasked v p unasked) ∙ unasked))
  ]

-- ---- a tick

-- what it makes of what slot 31 looks at
pub data Moves (v : Sight) (p r : Plan) (a : Option Act) : Type 0 where
  Keeps : IsOther a → control_in r ≡ control_in p → Moves v p r a
  Sees : IsOther a → control_in r ≡ control_in (control_seen v p) → Moves v p r a
  Issues : (o : Order) → a ≡ Some (act.Orders o) → (control_seen v p).asked ≡ false → (control_seen v p).order ≡ o → is_some (order_fields o) ≡ true → control_in r ≡ record (control_in (control_seen v p)) { asked = true } → Moves v p r a
  Anew : IsOther a → r.order ≡ ResetOn → Moves v p r a

acted_other : (a : Option Act) (file : TaskFile) (d : Driver) → IsOther a → (control_in (acted a file d).plan ≡ control_in d.plan) ⊎ ((acted a file d).plan.order ≡ ResetOn)
unfolding plan_after
acted_other (Some act.Stops) file d other = inr refl
acted_other (Some (act.Clears dev)) file d other =
    either (λ (q : Plan). (control_in q ≡ control_in d.plan) ⊎ (q.order ≡ ResetOn)) (nat_lt dev 15) (recovering dev file d.plan) (from_reset d.plan) (inl refl) (inr refl)
acted_other (Some (act.Orders order)) file d other = absurd other
acted_other rest file d other = inl refl

pub moves : (v : Sight) (file : TaskFile) (d : Driver) → Moves v d.plan (after_tick v file d).plan (due v d)
unfolding after_tick
moves v file d = by_seen (turn_seen v d.plan (done_ended v.issued d.entries))
  where
    by_seen : IsSeen v d.plan (due v d) (seen v d).plan → Moves v d.plan (acted (due v d) file (seen v d)).plan (due v d)
    by_seen (Early other is) = elim (acted_other (due v d) file (seen v d) other) [ inl same ↦ Keeps other (same ∙ is) | inr reset ↦ Anew other reset ]
    by_seen (Looked other is) = elim (acted_other (due v d) file (seen v d) other) [ inl same ↦ Sees other (same ∙ is) | inr reset ↦ Anew other reset ]
    by_seen (Ordered o a is asked order fields) =
        Issues o a (sym (ap (λ (c : Control). c.asked) is) ∙ asked) (sym (ap (λ (c : Control). c.order) is) ∙ order) fields
        (ap (λ (x : Option Act). control_in (acted x file (seen v d)).plan) a ∙ acted_order o file (seen v d) ∙ ap (λ (c : Control). record c { asked = true }) is)

later : (n : ℕ) (o : Order) → Comes n true o → Comes n false o
later n (Clear port) h = le_of_lt port n h
later n o h = h

module _ (v : Sight) (p r : Plan) (a : Option Act) where
  pub moved_left : (n : ℕ) → Moves v p r a → is_left n r ≡ true → (is_left n p ≡ true) ⊎ Reads v p n
  moved_left n (Keeps other same) h = inl (ap (left_in n) (sym same) ∙ h)
  moved_left n (Sees other same) h = seen_left v p n (ap (left_in n) (sym same) ∙ h)
  moved_left n (Issues o is free order fields same) h =
      let c : Plan = control_seen v p in
      let parts = and_parts (comes_to c.order true n) (has_bit c.found n) (ap (left_in n) (sym same) ∙ h) in
      seen_left v p n (and_from (comes_to c.order c.asked n) (has_bit c.found n) (subst (λ (b : Bool). Comes n b c.order) (sym free) (later n c.order parts.0)) parts.1)
  moved_left n (Anew other is) h = absurd (false≢true (sym (ap (λ (o : Order). comes_to o r.asked n && has_bit r.found n) is) ∙ h))

  pub moved_found : Moves v p r a → IsFound p → IsFound r
  moved_found (Keeps other same) h = subst FoundIn (sym same) h
  moved_found (Sees other same) h = subst FoundIn (sym same) (seen_found v p h)
  moved_found (Issues o is free order fields same) h = subst FoundIn (sym same) (seen_found v p h)
  moved_found (Anew other is) h = subst (λ (o : Order). IsClearOf o r.found) (sym is) tt

  -- the tick orders that port n be cleared
  pub record Orders31 (n : ℕ) : Type 0 where
    pub left : (is_left n p ≡ true) ⊎ Reads v p n
    pub order : r.order ≡ Clear n
    pub asked : r.asked ≡ true

  not_other : (n : ℕ) → IsOther a → a ≡ Some (act.Orders (Clear n)) → ⊥
  not_other n other is = subst IsOther is other

  order_of : (o : Order) (n : ℕ) → a ≡ Some (act.Orders o) → a ≡ Some (act.Orders (Clear n)) → o ≡ Clear n
  order_of o n is clear = let both : Some (act.Orders o) ≡ Some (act.Orders (Clear n)) = sym is ∙ clear in cc

  pub moved_clears : (n : ℕ) → Moves v p r a → IsFound p → a ≡ Some (act.Orders (Clear n)) → Orders31 n
  moved_clears n (Keeps other same) h clear = absurd (not_other n other clear)
  moved_clears n (Sees other same) h clear = absurd (not_other n other clear)
  moved_clears n (Anew other is) h clear = absurd (not_other n other clear)
  moved_clears n (Issues o is free order fields same) h clear =
      let c : Plan = control_seen v p in
      let to : c.order ≡ Clear n = order ∙ order_of o n is clear in
      let bit : has_bit c.found n ≡ true = subst (λ (x : Order). IsClearOf x c.found) to (seen_found v p h) in
      let comes : comes_to c.order c.asked n ≡ true = ap (λ (b : Bool). comes_to c.order b n) free ∙ ap (λ (x : Order). comes_to x false n) to ∙ le_self n in
      record {
        left = seen_left v p n (and_from (comes_to c.order c.asked n) (has_bit c.found n) comes bit);
        order = ap (λ (x : Control). x.order) same ∙ to;
        asked = ap (λ (x : Control). x.asked) same;
      }

  pub cleared_none : (n : ℕ) → r.order ≡ Clear n → r.asked ≡ true → is_left n r ≡ false
  cleared_none n order asked =
      ap (λ (o : Order). comes_to o r.asked n && has_bit r.found n) order ∙ ap (λ (b : Bool). comes_to (Clear n) b n && has_bit r.found n) asked
      ∙ ap (λ (b : Bool). b && has_bit r.found n) (lt_self n)

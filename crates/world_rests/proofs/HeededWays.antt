-- For `rested_ports_are_open`. Each way of the multiplier leaves each port heeded that asks for attention.
use Rattle.std.proofs.Common.{◌≡◌, ◌≢◌, ◌⊎◌, ℕ, ◌<◌, ◌≤◌, Bool, true, false, List, [], ◌∷◌, ◌++◌, refl, sym, ap, subst, ◌∙◌, inl, inr, Option, Some}
use Rattle.std.proofs.{Common.None, lemmas.Bool.{cases_Bool, true≢false}}
use Rattle.std.specs.Prelude.{if◌then◌else◌, is_none}
use Rattle.fis_view.specs.{Frames.Stamped, declared.frame.Stamp.Stamp}
use Rattle.slots.specs.Slots.{has_bit}
use Rattle.pm_control.specs.{Answers.{IsAnswer, answer_to_request, registers_after_request, value_answer}, Requests.request_in}
use Rattle.pm_control.specs.declared.request.Request.{Request}
use Rattle.pm_ports.specs.Port.{came_refusal, gone_refusal}
use Rattle.pm_registers.specs.RegisterMap.{RegisterMap, after_notice, after_write, asks, notifies, summary}
use Rattle.multiplier.specs.{Arbiter.control_port, Between.{Answer as Answers, FromPort, Gives, Notice}, Rules.with_device as connected}
use Rattle.multiplier.specs.{Rules.without_device, State.{PmState, control_stamp, pm_port, port_at}}
use Rattle.hba_driver.specs.{declared.order.Order.{Order, TheVariants.{Clear, Detect, Scan, Watch}}, Orders.changes, Slot31.{Control, IsLow}}
use Rattle.hba_driver.specs.Slot31.{control_in}
use Rattle.pm_world.specs.{Rules.recorded, declared.link.Change.Change}
use Rattle.pm_world.specs.declared.link.Change.TheVariants as change
use Rattle.world_rests.proofs.Heeded.{AreHeeded, Early, HasBit, IsCleared, IsDue, IsHeeded, IsListed, IsNamed, IsNoticed, IsScanned, IsToCome}
use Rattle.world_rests.proofs.Heeded.{KeepsHeeded, Notifies, clear_same, clear_unasked, early_or_on, heeded_keeps, is_early, not_clear, not_scan}
use Rattle.world_rests.proofs.{Heeded.scan_unasked, Ordering.{Upto, after_wish, answer_value, clears_as, wish}, Orders.{Among, among_last}}
use Rattle.world_rests.proofs.{Orders.among_more, Saying.{coming_other, coming_pm, coming_risen, not_control, notice_none, said_answer, said_beside}}
use Rattle.world_rests.proofs.{Saying.{said_other, said_pm}, SetUp.{Held, IsOfReset, IsSaid, IsSetUp, IsWell, command_of, is_ordered}}
use Rattle.world_rests.proofs.{SetWays.{ByControl, ByOther, IsHeard, replies}, Setting.put_keeps, Summary.{AsksOn, asks_same, clear_asks, clear_due}}
use Rattle.world_rests.proofs.{Summary.{insert_asks, names_asking, remove_asks, summary_small}, Ways.{IsGood, Line}}

-- ---- the registers change

module _ (l : Line) (pm : PmState) (answer : pm.answer ≡ l.pm.answer) where
  abbrev changed : Line
  changed = record l { pm = pm }

  pm_keeps : (n : ℕ) (c : Control) → (l.pm.registers.due ≡ true → pm.registers.due ≡ true) → KeepsHeeded n c l changed
  pm_keeps n c due = record {
    due = λ d. IsDue (due d);
    notifies = λ f there own none. Notifies f there own none;
    noticed = λ is. IsNoticed is;
    coming = coming_pm l pm;
    said = λ order asked said. inr (said_pm l pm (HasBit n) answer said);
  }

  pub heeded_pm : pm.registers.ports ≡ l.pm.registers.ports → (IsWell l.host → (is_early l.host.driver.plan.order ≡ true) ⊎ AsksOn l.pm.registers pm.registers) → AreHeeded l → AreHeeded changed
  heeded_pm ports goes h = record {
    closed = h.closed;
    each = λ well n low asking. elim (goes well) [
      | inl early ↦ Early early
      | inr on ↦
          let within : n < l.pm.registers.ports = subst (λ (p : ℕ). n < p) ports low in
          elim (on.asks_on n within asking) [
            | inl was ↦ heeded_keeps n (control_in l.host.driver.plan) l changed (pm_keeps n (control_in l.host.driver.plan) on.due) (h.each well n within was)
            | inr due ↦ IsDue due
          ]
    ];
  }

recorded_ports : (pm : PmState) (n : ℕ) (c : Change) → (recorded pm n c).registers.ports ≡ pm.registers.ports
recorded_ports pm n (change.Came conn) = by_test (is_none (came_refusal (port_at pm n) conn))
  where
    by_test : (b : Bool) → (if b then connected pm n conn else pm).registers.ports ≡ pm.registers.ports
    by_test true = refl
    by_test false = refl
recorded_ports pm n (change.Gone conn) = by_test (is_none (gone_refusal (port_at pm n) conn))
  where
    by_test : (b : Bool) → (if b then without_device pm n conn else pm).registers.ports ≡ pm.registers.ports
    by_test true = refl
    by_test false = refl

recorded_asks : (pm : PmState) (n : ℕ) (c : Change) → notifies pm.registers ≡ true → AsksOn pm.registers (recorded pm n c).registers
recorded_asks pm n (change.Came conn) on = by_test (is_none (came_refusal (port_at pm n) conn))
  where
    by_test : (b : Bool) → AsksOn pm.registers (if b then connected pm n conn else pm).registers
    by_test true = insert_asks pm.registers n on
    by_test false = asks_same pm.registers pm.registers refl
recorded_asks pm n (change.Gone conn) on = by_test (is_none (gone_refusal (port_at pm n) conn))
  where
    by_test : (b : Bool) → AsksOn pm.registers (if b then without_device pm n conn else pm).registers
    by_test true = remove_asks pm.registers n on
    by_test false = asks_same pm.registers pm.registers refl

-- a device comes or goes
pub records_heeded : (ports : ℕ) (l : Line) (n : ℕ) (c : Change) → (recorded l.pm n c).answer ≡ l.pm.answer → IsSetUp ports l → AreHeeded l → AreHeeded (record l { pm = recorded l.pm n c })
records_heeded ports l n c answer u h =
    heeded_pm l (recorded l.pm n c) answer (recorded_ports l.pm n c)
    (λ well. elim (early_or_on l.host.driver.plan.order l.pm.registers l.host.driver.plan.ports (u.set well).upto) [ inl early ↦ inl early | inr on ↦ inr (recorded_asks l.pm n c on) ]) h

-- ---- a frame that the multiplier takes

module _ (ports : ℕ) (l : Line) (f : Stamped) (rest : List Stamped) (pm : PmState) (is : l.down ≡ f ∷ rest) (g : IsGood l) (u : IsSetUp ports l) (h : AreHeeded l) where
  abbrev heard : Line
  heard = record l { down = rest; pm = pm }

  abbrev order : Order
  order = l.host.driver.plan.order

  abbrev slot31 : Control
  slot31 = control_in l.host.driver.plan

  first : Among f l.down
  first = subst (Among f) (sym is) (inl refl)

  heeded_other : pm_port f ≢ control_port → pm.answer ≡ l.pm.answer → pm.registers ≡ l.pm.registers → AreHeeded heard
  heeded_other other answer same = record {
    closed = h.closed;
    each = λ well n low asking.
        heeded_keeps n slot31 l heard (record {
          due = λ d. IsDue (ap (λ (r : RegisterMap). r.due) same ∙ d);
          notifies = λ x there own none. Notifies x there own none;
          noticed = λ is_set. IsNoticed is_set;
          coming = coming_other l f rest pm is other;
          said = λ scan asked said. inr (said_other l f rest pm is other (HasBit n) answer said);
        }) (h.each well n (subst (λ (r : RegisterMap). n < r.ports) same low) (ap (λ (r : RegisterMap). asks r n) (sym same) ∙ asking));
  }

  -- what does not depend on the command
  left_heeded : (n : ℕ) → (l.pm.registers.due ≡ true → pm.registers.due ≡ true) → (order ≡ Scan → IsToCome l.host.driver.plan.asked l → IsHeeded n slot31 heard)
      → (order ≡ Scan → l.host.driver.plan.asked ≡ true → IsHeeded n slot31 heard) → (order ≡ Clear n → IsToCome l.host.driver.plan.asked l → IsHeeded n slot31 heard) → IsHeeded n slot31 l → IsHeeded n slot31 heard
  left_heeded n due scanned named cleared (Early early) = Early early
  left_heeded n due scanned named cleared (IsDue d) = IsDue (due d)
  left_heeded n due scanned named cleared (Notifies x there own none) = Notifies x there own none
  left_heeded n due scanned named cleared (IsNoticed is_set) = IsNoticed is_set
  left_heeded n due scanned named cleared (IsScanned scan comes) = scanned scan comes
  left_heeded n due scanned named cleared (IsNamed scan asked said) = named scan asked
  left_heeded n due scanned named cleared (IsCleared clear comes) = cleared clear comes
  left_heeded n due scanned named cleared (IsListed k at less bit) = IsListed k at less bit

  module _ (own : pm_port f ≡ control_port) (answers : IsAnswer (answer_to_request l.pm.resetting l.pm.registers (request_in f.bytes)) (control_stamp l.pm) pm.answer)
      (after_is : pm.registers ≡ registers_after_request l.pm.registers (request_in f.bytes)) where
    -- registers that stay
    module _ (same : pm.registers ≡ l.pm.registers) (well : IsWell l.host) (n : ℕ) (low : n < pm.registers.ports) (asking : asks pm.registers n ≡ true) where
      within : n < l.pm.registers.ports
      within = subst (λ (r : RegisterMap). n < r.ports) same low

      asked_before : asks l.pm.registers n ≡ true
      asked_before = ap (λ (r : RegisterMap). asks r n) (sym same) ∙ asking

      due_stays : l.pm.registers.due ≡ true → pm.registers.due ≡ true
      due_stays d = ap (λ (r : RegisterMap). r.due) same ∙ d

      -- the order neither scans nor clears
      same_heeded : (o : Order) → order ≡ o → (order ≡ Scan → ⊥) → (order ≡ Clear n → ⊥) → IsHeeded n slot31 heard
      same_heeded o at no_scan no_clear = left_heeded n due_stays (λ scan comes. absurd (no_scan scan)) (λ scan asked. absurd (no_scan scan)) (λ clear comes. absurd (no_clear clear)) (h.each well n within asked_before)

      -- no command is asked for
      plain_heeded : is_ordered l.host ≡ false → IsHeeded n slot31 heard
      plain_heeded plain =
          left_heeded n due_stays (λ scan comes. IsScanned scan (inl (scan_unasked order l.host.driver.plan.asked scan plain)))
          (λ scan asked. absurd (true≢false (sym asked ∙ scan_unasked order l.host.driver.plan.asked scan plain)))
          (λ clear comes. IsCleared clear (inl (clear_unasked order l.host.driver.plan.asked n clear plain))) (h.each well n within asked_before)

    reset_same : IsOfReset f → pm.registers ≡ l.pm.registers
    reset_same (inl reset) = after_is ∙ ap (registers_after_request l.pm.registers) reset
    reset_same (inr end) = after_is ∙ ap (registers_after_request l.pm.registers) end

    module _ (ordered : is_ordered l.host ≡ true) where
      wished : request_in f.bytes ≡ wish order
      wished = u.falls f first own ordered

      wish_is : pm.registers ≡ after_wish l.pm.registers order
      wish_is = after_is ∙ ap (registers_after_request l.pm.registers) wished

      most : l.pm.registers.ports ≤ 15
      most = subst (λ (c : ℕ). c ≤ 15) (sym u.shape.ports_are) u.shape.most

      -- the answer to a read of GSCR[32]
      summed : (n : ℕ) → has_bit (summary l.pm.registers) n ≡ true → (o : Option Stamped) → pm.answer ≡ o → IsAnswer (answer_to_request l.pm.resetting l.pm.registers (wish Scan)) (control_stamp l.pm) o → IsSaid (HasBit n) heard
      summed n bit None there a = absurd a
      summed n bit (Some x) there a =
          Held x there (replies x (value_answer (summary l.pm.registers)) l.pm a.0 a.1)
          (ap (λ (value : ℕ). has_bit value n) (answer_value (summary l.pm.registers) x.bytes (summary_small l.pm.registers most) a.0) ∙ bit)

      scan_heard : order ≡ Scan → (n : ℕ) → n < pm.registers.ports → asks pm.registers n ≡ true → IsHeeded n slot31 heard
      scan_heard at n low asking =
          let same : pm.registers ≡ l.pm.registers = wish_is ∙ ap (after_wish l.pm.registers) at in
          let bit : has_bit (summary l.pm.registers) n ≡ true = names_asking l.pm.registers n (subst (λ (r : RegisterMap). n < r.ports) same low) (ap (λ (r : RegisterMap). asks r n) (sym same) ∙ asking) in
          IsNamed at (command_of order l.host.driver.plan.asked ordered).asks
          (summed n bit pm.answer refl (subst (λ (r : Option Request). IsAnswer (answer_to_request l.pm.resetting l.pm.registers r) (control_stamp l.pm) pm.answer) (wished ∙ ap wish at) answers))

      clear_heard : (k : ℕ) → order ≡ Clear k → IsWell l.host → (n : ℕ) → n < pm.registers.ports → asks pm.registers n ≡ true → IsHeeded n slot31 heard
      clear_heard k at well n low asking =
          let below : k < 15 = subst IsLow at g.at.low in
          let made : pm.registers ≡ after_write l.pm.registers k 1 changes = wish_is ∙ ap (after_wish l.pm.registers) at ∙ clears_as l.pm.registers k below in
          let on : Upto (Clear k) l.pm.registers l.host.driver.plan.ports = subst (λ (o : Order). Upto o l.pm.registers l.host.driver.plan.ports) at (u.set well).upto in
          let kept = put_keeps ports l.pm.registers k 1 changes (inl refl) in
          let within : n < l.pm.registers.ports = subst (λ (p : ℕ). n < p) (ap (λ (r : RegisterMap). r.ports) made ∙ kept.ports) low in
          let both : (n ≢ k) × (asks l.pm.registers n ≡ true) =
          clear_asks l.pm.registers k below most u.shape.bank on.0.masked n within (ap (λ (r : RegisterMap). asks r n) (sym made) ∙ asking) in
          left_heeded n (λ d. ap (λ (r : RegisterMap). r.due) made ∙ clear_due l.pm.registers k below most u.shape.bank on.0.masked d) (λ scan comes. not_scan order (Clear k) at refl scan)
          (λ scan asked. not_scan order (Clear k) at refl scan) (λ clear comes. absurd (both.0 (sym (clear_same order k n at clear)))) (h.each well n within both.1)

      by_order : (o : Order) → order ≡ o → IsWell l.host → (n : ℕ) → n < pm.registers.ports → asks pm.registers n ≡ true → IsHeeded n slot31 heard
      by_order Scan at well n low asking = scan_heard at n low asking
      by_order (Clear k) at well n low asking = clear_heard k at well n low asking
      by_order (Detect k) at well n low asking =
          same_heeded (wish_is ∙ ap (after_wish l.pm.registers) at) well n low asking (Detect k) at (λ scan. not_scan order (Detect k) at refl scan) (λ clear. not_clear order (Detect k) n at refl clear)
      by_order Watch at well n low asking = same_heeded (wish_is ∙ ap (after_wish l.pm.registers) at) well n low asking Watch at (λ scan. not_scan order Watch at refl scan) (λ clear. not_clear order Watch n at refl clear)
      by_order o at well n low asking = Early (ap is_early at)

    heeded_own : AreHeeded heard
    heeded_own = record {
      closed = h.closed;
      each = λ well n low asking. elim (cases_Bool (is_ordered l.host)) [
        | inl ordered ↦ by_order ordered order refl well n low asking
        | inr plain ↦ plain_heeded (reset_same (u.resets f first own plain)) well n low asking plain
      ];
    }

  pub hears_heeded : IsHeard l.pm pm f → AreHeeded heard
  hears_heeded (ByControl own answers after_is) = heeded_own own answers after_is
  hears_heeded (ByOther other answer same) = heeded_other other answer same

-- ---- a frame that rises

module _ (l : Line) (f : Stamped) (pm : PmState) (h : AreHeeded l) where
  abbrev risen : Line
  risen = record l { pm = pm; up = l.up ++ f ∷ [] }

  risen_heeded : pm.registers.ports ≡ l.pm.registers.ports → ((n : ℕ) → asks pm.registers n ≡ asks l.pm.registers n)
      → ((n : ℕ) → l.pm.registers.due ≡ true → IsHeeded n (control_in l.host.driver.plan) risen) → ((n : ℕ) → IsSaid (HasBit n) l → IsSaid (HasBit n) risen) → AreHeeded risen
  risen_heeded ports same due said = record {
    closed = h.closed;
    each = λ well n low asking.
        heeded_keeps n (control_in l.host.driver.plan) l risen (record {
          due = due n;
          notifies = λ x there own none. Notifies x (among_more x f l.up there) own none;
          noticed = λ is. IsNoticed is;
          coming = coming_risen l f pm;
          said = λ scan asked told. inr (said n told);
        }) (h.each well n (subst (λ (p : ℕ). n < p) ports low) (sym (same n) ∙ asking));
  }

  same_risen : pm.registers ≡ l.pm.registers → ((n : ℕ) → IsSaid (HasBit n) l → IsSaid (HasBit n) risen) → AreHeeded risen
  same_risen same = risen_heeded (ap (λ (r : RegisterMap). r.ports) same) (λ n. ap (λ (r : RegisterMap). asks r n) same) (λ n d. IsDue (ap (λ (r : RegisterMap). r.due) same ∙ d))

  pub rises_heeded : Gives l.pm f pm → AreHeeded risen
  rises_heeded (FromPort n was next other is port shown e) =
      same_risen (ap (λ (x : PmState). x.registers) e) (λ k. said_beside l f pm (HasBit k) (ap (λ (x : PmState). x.answer) e) (not_control f n other (ap (λ (x : Stamped). x.stamp.port) shown)))
  rises_heeded (Notice next due is e) =
      let same : pm.registers ≡ after_notice l.pm.registers = ap (λ (x : PmState). x.registers) e in
      risen_heeded (ap (λ (r : RegisterMap). r.ports) same) (λ n. ap (λ (r : RegisterMap). asks r n) same)
      (λ n d. Notifies f (among_last f l.up) (ap (λ (s : Stamp). s.port) is.1) (notice_none f is.0.viewed)) (λ k. said_beside l f pm (HasBit k) (ap (λ (x : PmState). x.answer) e) (notice_none f is.0.viewed))
  rises_heeded (Answers next is e) = same_risen (ap (λ (x : PmState). x.registers) e) (λ k. said_answer l f pm (HasBit k) is)

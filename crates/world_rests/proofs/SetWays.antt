-- For `rested_ports_are_open`. Each way keeps what the driver has set in the multiplier.
use Rattle.std.proofs.Common.{◌≡◌, ◌≢◌, ℕ, ◌≤◌, ◌&&◌, Bool, true, false, List, [], ◌∷◌, ◌++◌, refl, sym, ap, subst, ◌∙◌, inl, inr, Option, Some, None}
use Rattle.std.proofs.{Common.Ok, lemmas.Bool.{cases_Bool, cases_eq, eq-eqb, ne_eqb, true≢false}}
use Rattle.std.specs.Prelude.{if◌then◌else◌, is_none, MatchBool, MatchOption}
use Rattle.fis_view.specs.{Built.{IsBuilt, d2h_given}, Frames.Stamped, Seen.seen, Table.D2h, declared.{build.D2hFields.D2hFields, frame.Stamp.Stamp}}
use Rattle.pm_control.specs.{Answers.{IsAnswer, answer_to_request, registers_after_request, value_answer}, Requests.request_in}
use Rattle.pm_control.specs.declared.request.Request.{Request}
use Rattle.pm_ports.specs.Port.{came_refusal, gone_refusal}
use Rattle.pm_registers.specs.RegisterMap.{RegisterMap}
use Rattle.multiplier.specs.{Arbiter.control_port, Between.{Answer as Answers, FromPort, Gives, Notice}, Rules.{FromHostRule, ToControl, ToDevice}}
use Rattle.multiplier.specs.{Rules.{ToNobody, ToPort, with_device as connected, without_device}, State.{PmState, control_stamp, passes_to, pm_port}}
use Rattle.multiplier.specs.{State.port_at, declared.multiplier.Passed.Passed}
use Rattle.multiplier.specs.declared.multiplier.Passed.TheVariants as passed
use Rattle.hba_driver.specs.declared.order.Order.TheVariants.{CountPorts}
use Rattle.pm_world.specs.{Line.{is_register, is_reply}, Rules.recorded, declared.link.Change.Change}
use Rattle.pm_world.specs.declared.link.Change.TheVariants as change
use Rattle.world_rests.proofs.{ControlFile.among_first, Ordering.{Done, Upto, counted, done_keeps, upto_keeps, wish, wish_done, wish_shape}}
use Rattle.world_rests.proofs.{Orders.Among, Saying.{coming_other, coming_pm, coming_risen, not_control, notice_none, said_answer, said_beside}}
use Rattle.world_rests.proofs.{Saying.{said_other, said_pm}, Setting.{IsShape, Keeps, insert_keeps, insert_shape, keeps_same, notice_keeps}}
use Rattle.world_rests.proofs.{Setting.{notice_shape, remove_keeps, remove_shape}, Ways.Line, SetUp.{Held, IsOfReset, IsSaid, IsSet, IsSetUp, IsWell}}
use Rattle.world_rests.proofs.SetUp.{is_ordered}

-- ---- the multiplier

same_host : (l : Line) (d : List Stamped) (pm : PmState) → ((f : Stamped) → Among f d → Among f l.down) → (ports : ℕ) → IsShape ports pm.registers → (IsWell l.host → IsSet ports (record l { down = d; pm = pm })) → IsSetUp ports l → IsSetUp ports (record l { down = d; pm = pm })
same_host l d pm within ports shape set u = record { shape = shape; falls = λ f there. u.falls f (within f there); resets = λ f there. u.resets f (within f there); set = set }

module _ (ports : ℕ) (l : Line) (pm : PmState) (k : Keeps l.pm.registers pm.registers) (answer : pm.answer ≡ l.pm.answer) where
  abbrev after : Line
  after = record l { pm = pm }

  set_pm : IsSet ports l → IsSet ports after
  set_pm s = record {
    upto = upto_keeps l.pm.registers pm.registers l.host.driver.plan.ports k l.host.driver.plan.order s.upto;
    done = λ asks. elim (s.done asks) [ inl c ↦ inl (coming_pm l pm c) | inr d ↦ inr (done_keeps l.pm.registers pm.registers l.host.driver.plan.ports k l.host.driver.plan.order d) ];
    told = λ asks counts. elim (s.told asks counts) [ inl c ↦ inl (coming_pm l pm c) | inr d ↦ inr (said_pm l pm (λ v. v ≡ ports) answer d) ];
  }

  pub setup_pm : IsShape ports pm.registers → IsSetUp ports l → IsSetUp ports after
  setup_pm shape u = same_host l l.down pm (λ f there. there) ports shape (λ well. set_pm (u.set well)) u

pub shape_as : (ports : ℕ) (m r : RegisterMap) → r ≡ m → IsShape ports m → IsShape ports r
shape_as ports m r same s = subst (IsShape ports) (sym same) s

pub recorded_both : (ports : ℕ) (pm : PmState) (n : ℕ) (c : Change) → IsShape ports pm.registers → IsShape ports (recorded pm n c).registers × Keeps pm.registers (recorded pm n c).registers
recorded_both ports pm n (change.Came conn) s = by_test (is_none (came_refusal (port_at pm n) conn))
  where
    by_test : (b : Bool) → IsShape ports (if b then connected pm n conn else pm).registers × Keeps pm.registers (if b then connected pm n conn else pm).registers
    by_test true = (insert_shape ports pm.registers n s, insert_keeps pm.registers n)
    by_test false = (s, keeps_same pm.registers pm.registers refl)
recorded_both ports pm n (change.Gone conn) s = by_test (is_none (gone_refusal (port_at pm n) conn))
  where
    by_test : (b : Bool) → IsShape ports (if b then without_device pm n conn else pm).registers × Keeps pm.registers (if b then without_device pm n conn else pm).registers
    by_test true = (remove_shape ports pm.registers n s, remove_keeps pm.registers n)
    by_test false = (s, keeps_same pm.registers pm.registers refl)

-- ---- a frame that the multiplier takes

module _ (old new : PmState) (f : Stamped) where
  pub data IsHeard : Type 0 where
    ByControl : pm_port f ≡ control_port → IsAnswer (answer_to_request old.resetting old.registers (request_in f.bytes)) (control_stamp old) new.answer → new.registers ≡ registers_after_request old.registers (request_in f.bytes) → IsHeard
    ByOther : pm_port f ≢ control_port → new.answer ≡ old.answer → new.registers ≡ old.registers → IsHeard

  by_conn : (p : Passed) (o : Option ℕ) → MatchOption o (ToNobody old (Ok p) new) (λ conn. ToDevice old (pm_port f) conn f (Ok p) new) → (new.answer ≡ old.answer) × (new.registers ≡ old.registers)
  by_conn passed.Dropped None acts = (ap (λ (pm : PmState). pm.answer) acts, ap (λ (pm : PmState). pm.registers) acts)
  by_conn _ None acts = absurd acts
  by_conn (passed.Down m) (Some conn) acts = (ap (λ (pm : PmState). pm.answer) acts.2, ap (λ (pm : PmState). pm.registers) acts.2)
  by_conn _ (Some conn) acts = absurd acts

  by_control : (p : Passed) → pm_port f ≡ control_port → ToControl old f (Ok p) new → IsHeard
  by_control passed.Control own acts = ByControl own acts.1 (ap (λ (pm : PmState). pm.registers) acts.2)
  by_control _ own acts = absurd acts

  pub heard_by : (p : Passed) → FromHostRule old f (Ok p) new → IsHeard
  heard_by p rule = elim (cases_eq (pm_port f) control_port) [
    | inl own ↦ by_control p own (subst (λ (b : Bool). MatchBool b (ToControl old f (Ok p) new) (ToPort old f (Ok p) new)) (eq-eqb (pm_port f) control_port own) rule)
    | inr other ↦
        let c = by_conn p (passes_to old (pm_port f)) (subst (λ (b : Bool). MatchBool b (ToControl old f (Ok p) new) (ToPort old f (Ok p) new)) (ne_eqb (pm_port f) control_port other) rule) in
        ByOther other c.0 c.1
  ]

-- an answer of the control port
pub replies : (g : Stamped) (fields : D2hFields) (pm : PmState) → IsBuilt D2h (d2h_given fields) g.bytes → g.stamp ≡ control_stamp pm → is_reply g ≡ true
replies g fields pm built stamp =
    ap (λ (b : Bool). b && is_register (seen g.bytes)) (eq-eqb g.stamp.port control_port (ap (λ (s : Stamp). s.port) stamp)) ∙ ap is_register built.viewed

module _ (ports : ℕ) (l : Line) (f : Stamped) (rest : List Stamped) (pm : PmState) (is : l.down ≡ f ∷ rest) (u : IsSetUp ports l) where
  abbrev heard : Line
  heard = record l { down = rest; pm = pm }

  behind : (x : Stamped) → Among x rest → Among x l.down
  behind x there = among_first x f rest l.down is there

  first : Among f l.down
  first = subst (Among f) (sym is) (inl refl)

  module _ (other : pm_port f ≢ control_port) (answer : pm.answer ≡ l.pm.answer) (same : pm.registers ≡ l.pm.registers) where
    set_other : IsSet ports l → IsSet ports heard
    set_other s =
        let k : Keeps l.pm.registers pm.registers = keeps_same l.pm.registers pm.registers same in
        record {
          upto = upto_keeps l.pm.registers pm.registers l.host.driver.plan.ports k l.host.driver.plan.order s.upto;
          done = λ asks. elim (s.done asks) [ inl c ↦ inl (coming_other l f rest pm is other c) | inr d ↦ inr (done_keeps l.pm.registers pm.registers l.host.driver.plan.ports k l.host.driver.plan.order d) ];
          told = λ asks counts. elim (s.told asks counts) [ inl c ↦ inl (coming_other l f rest pm is other c) | inr d ↦ inr (said_other l f rest pm is other (λ v. v ≡ ports) answer d) ];
        }

    heard_other : IsSetUp ports heard
    heard_other = same_host l rest pm behind ports (shape_as ports l.pm.registers pm.registers same u.shape) (λ well. set_other (u.set well)) u

  module _ (own : pm_port f ≡ control_port) (answers : IsAnswer (answer_to_request l.pm.resetting l.pm.registers (request_in f.bytes)) (control_stamp l.pm) pm.answer) (after_is : pm.registers ≡ registers_after_request l.pm.registers (request_in f.bytes)) where
    reset_same : IsOfReset f → pm.registers ≡ l.pm.registers
    reset_same (inl reset) = after_is ∙ ap (registers_after_request l.pm.registers) reset
    reset_same (inr end) = after_is ∙ ap (registers_after_request l.pm.registers) end

    module _ (asks : is_ordered l.host ≡ true) where
      wished : request_in f.bytes ≡ wish l.host.driver.plan.order
      wished = u.falls f first own asks

      wish_is : pm.registers ≡ registers_after_request l.pm.registers (wish l.host.driver.plan.order)
      wish_is = after_is ∙ ap (registers_after_request l.pm.registers) wished

      counted_by : (o : Option Stamped) → pm.answer ≡ o → IsAnswer (answer_to_request l.pm.resetting l.pm.registers (wish CountPorts)) (control_stamp l.pm) o → IsSaid (λ v. v ≡ ports) heard
      counted_by None there a = absurd a
      counted_by (Some g) there a =
          Held g there (replies g (value_answer l.pm.registers.ports) l.pm a.0 a.1) (counted l.pm.resetting l.pm.registers (control_stamp l.pm) g (subst (λ (c : ℕ). c ≤ 15) (sym u.shape.ports_are) u.shape.most) a ∙ u.shape.ports_are)

      set_own : IsSet ports l → IsSet ports heard
      set_own s =
          let both = wish_done ports l.pm.registers u.shape l.host.driver.plan.ports l.host.driver.plan.order s.upto in
          record {
            upto = subst (λ (m : RegisterMap). Upto l.host.driver.plan.order m l.host.driver.plan.ports) (sym wish_is) both.0;
            done = λ again. inr (subst (Done l.host.driver.plan.order) (sym wish_is) both.1);
            told = λ again counts.
                inr (counted_by pm.answer refl (subst (λ (r : Option Request). IsAnswer (answer_to_request l.pm.resetting l.pm.registers r) (control_stamp l.pm) pm.answer) (wished ∙ ap wish counts) answers));
          }

      heard_wish : IsSetUp ports heard
      heard_wish =
          same_host l rest pm behind ports (shape_as ports (registers_after_request l.pm.registers (wish l.host.driver.plan.order)) pm.registers wish_is (wish_shape ports l.pm.registers l.host.driver.plan.order u.shape))
          (λ well. set_own (u.set well)) u

    module _ (plain : is_ordered l.host ≡ false) where
      same_by : pm.registers ≡ l.pm.registers
      same_by = reset_same (u.resets f first own plain)

      set_plain : IsSet ports l → IsSet ports heard
      set_plain s = record {
        upto = subst (λ (m : RegisterMap). Upto l.host.driver.plan.order m l.host.driver.plan.ports) (sym same_by) s.upto;
        done = λ asks. absurd (true≢false (sym asks ∙ plain));
        told = λ asks counts. absurd (true≢false (sym asks ∙ plain));
      }

      heard_plain : IsSetUp ports heard
      heard_plain = same_host l rest pm behind ports (shape_as ports l.pm.registers pm.registers same_by u.shape) (λ well. set_plain (u.set well)) u

    heard_own : IsSetUp ports heard
    heard_own = elim (cases_Bool (is_ordered l.host)) [ inl asks ↦ heard_wish asks | inr plain ↦ heard_plain plain ]

  pub heard_set : IsHeard l.pm pm f → IsSetUp ports heard
  heard_set (ByControl own answers after_is) = heard_own own answers after_is
  heard_set (ByOther other answer same) = heard_other other answer same

-- ---- a frame that rises

module _ (ports : ℕ) (l : Line) (f : Stamped) (pm : PmState) (u : IsSetUp ports l) where
  abbrev risen : Line
  risen = record l { pm = pm; up = l.up ++ f ∷ [] }

  set_risen : Keeps l.pm.registers pm.registers → (IsSaid (λ v. v ≡ ports) l → IsSaid (λ v. v ≡ ports) risen) → IsSet ports l → IsSet ports risen
  set_risen k said s = record {
    upto = upto_keeps l.pm.registers pm.registers l.host.driver.plan.ports k l.host.driver.plan.order s.upto;
    done = λ asks. elim (s.done asks) [ inl c ↦ inl (coming_risen l f pm c) | inr d ↦ inr (done_keeps l.pm.registers pm.registers l.host.driver.plan.ports k l.host.driver.plan.order d) ];
    told = λ asks counts. elim (s.told asks counts) [ inl c ↦ inl (coming_risen l f pm c) | inr d ↦ inr (said d) ];
  }

  setup_risen : IsShape ports pm.registers → Keeps l.pm.registers pm.registers → (IsSaid (λ v. v ≡ ports) l → IsSaid (λ v. v ≡ ports) risen) → IsSetUp ports risen
  setup_risen shape k said = record { shape = shape; falls = u.falls; resets = u.resets; set = λ well. set_risen k said (u.set well) }

  pub rises_set : Gives l.pm f pm → IsSetUp ports risen
  rises_set (FromPort n was next other is port shown e) =
      let same : pm.registers ≡ l.pm.registers = ap (λ (x : PmState). x.registers) e in
      setup_risen (shape_as ports l.pm.registers pm.registers same u.shape) (keeps_same l.pm.registers pm.registers same)
      (said_beside l f pm (λ v. v ≡ ports) (ap (λ (x : PmState). x.answer) e) (not_control f n other (ap (λ (x : Stamped). x.stamp.port) shown)))
  rises_set (Notice next due is e) =
      let same = ap (λ (x : PmState). x.registers) e in
      setup_risen (subst (IsShape ports) (sym same) (notice_shape ports l.pm.registers u.shape)) (subst (Keeps l.pm.registers) (sym same) (notice_keeps l.pm.registers))
      (said_beside l f pm (λ v. v ≡ ports) (ap (λ (x : PmState). x.answer) e) (notice_none f is.0.viewed))
  rises_set (Answers next is e) =
      let same : pm.registers ≡ l.pm.registers = ap (λ (x : PmState). x.registers) e in
      setup_risen (shape_as ports l.pm.registers pm.registers same u.shape) (keeps_same l.pm.registers pm.registers same) (said_answer l f pm (λ v. v ≡ ports) is)

-- For `rested_plans_match`. The control port answers no order with an error: each order is of a register that exists. So the driver never begins
-- anew with it.
use Rattle.std.proofs.Common.{◌≡◌, ℕ, ◌+◌, ◌*◌, ◌<◌, ◌≤◌, ◌==◌, ◌&&◌, Bool, true, false, List, [], ◌∷◌, ◌++◌, refl, sym, ap, subst, ◌∙◌, inl, inr}
use Rattle.std.proofs.{Common.{Option, Some, None, Ok, Err, arith}, lemmas.Bool.{cases_Bool, cases_eq, lt-ltb, ne_eqb, or_right, true≢false}}
use Rattle.std.specs.Prelude.{◌%◌, ◌^◌, if◌then◌else◌, is_some, nat_lt, Result, ok_or}
use Rattle.fis_view.specs.{Built.cut, Frames.Stamped, Seen.seen, Table.{D2h, Error, Status, field, places}, declared.build.D2hFields.D2hFields}
use Rattle.fis_view.specs.declared.{frame.Stamp.Stamp, view.{Fis.Fis, FisFault.FisFault}}
use Rattle.fis_view.specs.declared.view.Fis.TheVariants as view
use Rattle.slots.specs.{Commands.{answer_of, answered_as}, Slots.{DeviceSlots, Issue, own_issue}, declared.answer.Answered.Answered}
use Rattle.slots.specs.declared.answer.Answered.TheVariants as answer
use Rattle.port_errors.specs.declared.cause.DeviceCause.{DeviceCause}
use Rattle.port_errors.specs.declared.cause.DeviceCause.TheVariants as cause
use Rattle.pm_control.specs.{Answers.{IsAnswer, answer_to_request, read_answer, signature, write_answer}, Requests.request_in}
use Rattle.pm_control.specs.declared.request.Request.{Request, TheVariants.{EndReset, Read, Unknown, Write}}
use Rattle.pm_registers.specs.{Port.pscr, RegisterMap.{RegisterMap, gscr, port_at, read_at, register_at, summary}}
use Rattle.pm_registers.specs.declared.words.RegisterError.{RegisterError, TheVariants.{NoPort, NoRegister}}
use Rattle.multiplier.specs.{Arbiter.control_port, Between.{Answer as Answers, FromPort, Gives, Notice}, State.{PmState, control_stamp, pm_port}}
use Rattle.hba_fbs.specs.declared.hearing.Happening.TheVariants as happening
use Rattle.hba_fbs.specs.{declared.report.TakeReport.TakeReport, Hearing.{answer_fault, answered, faulty, heard_register, quietly, signing}}
use Rattle.hba_fbs.specs.{Status.{after_reset, is_busy, is_error, with_file}, Tables.is_sound, Taking.{admitted, device_cause, heard_view, ignores}}
use Rattle.hba_fbs.specs.{Taking.{port_of, view_after_hearing}, Views.{DeviceView, view_of}}
use Rattle.hba_driver.specs.{declared.order.Order.{Order, TheVariants.{Clear, CountPorts, Detect, Enable, Open, Scan, SetMask}}, HostTurns.Does}
use Rattle.hba_driver.specs.{HostTurns.{Host, HostTurn, Pushed, Took}, Slot31.{Asks, IsIn, IsSent, Signs, Stage31, TakesOn, Turns31, control_of}}
use Rattle.hba_driver.specs.Slot31.{has_failed, is_resetting}
use Rattle.pm_world.specs.Line.{is_register, is_reply}
use Rattle.world_rests.proofs.{ControlFile.{IsCalm, among_either, recorded_answer}, Ordering.wish, Orders.{Among, register_view}, Saying.not_control}
use Rattle.world_rests.proofs.{Saying.notice_none, SetUp.{IsOfReset, IsSetUp, IsWell, is_ordered}, SetWays.{ByControl, ByOther, IsHeard, heard_by}}
use Rattle.world_rests.proofs.{Slot31.answered_free, Turning.took_turn, Unfaulted.{IsBeside, IsUnfaulted, turn_none}, Ways.{Hears, IsGood, IsInside}}
use Rattle.world_rests.proofs.Ways.{Line, Pushes, Records, Rises as GoesUp, Stays, Takes, Turns, Way}

-- ---- what is asked has an answer

-- the register of the request exists
abbrev IsMet : RegisterMap → Option Request → Type 0
IsMet m (Some (Read at)) = (value : ℕ) × (read_at m at.port at.register ≡ Ok value)
IsMet m (Some (Write at value)) = (old : ℕ) × (read_at m at.port at.register ≡ Ok old)
IsMet m (Some Unknown) = ⊥
IsMet m other = Unit {0}

right : is_error (cut (places D2h Status) 0x50) ≡ false
unfolding cut places
right = refl

built_right : (fields : D2hFields) (stamp : Stamp) (g : Stamped) → fields.status ≡ 0x50 → IsAnswer (Some fields) stamp (Some g) → is_error (field D2h Status g.bytes) ≡ false
built_right fields stamp g status is = ap is_error (is.0.fields Status) ∙ ap (λ (s : ℕ). is_error (cut (places D2h Status) s)) status ∙ right

read_right : (r : Result ℕ RegisterError) (value : ℕ) → r ≡ Ok value → (stamp : Stamp) (g : Stamped) → IsAnswer (Some (read_answer r)) stamp (Some g) → is_error (field D2h Status g.bytes) ≡ false
read_right r value there stamp g is = built_right (read_answer r) stamp g (ap (λ (x : Result ℕ RegisterError). (read_answer x).status) there) is

write_right : (r : Result ℕ RegisterError) (value : ℕ) → r ≡ Ok value → (stamp : Stamp) (g : Stamped) → IsAnswer (Some (write_answer r)) stamp (Some g) → is_error (field D2h Status g.bytes) ≡ false
write_right r value there stamp g is = built_right (write_answer r) stamp g (ap (λ (x : Result ℕ RegisterError). (write_answer x).status) there) is

end_right : (b : Bool) (stamp : Stamp) (g : Stamped) → IsAnswer (if b then Some signature else None) stamp (Some g) → is_error (field D2h Status g.bytes) ≡ false
end_right true stamp g is = built_right signature stamp g refl is
end_right false stamp g is = absurd is

-- then its answer is no error
met_right : (mark : Bool) (m : RegisterMap) (r : Option Request) → IsMet m r → (stamp : Stamp) (g : Stamped) → IsAnswer (answer_to_request mark m r) stamp (Some g) → is_error (field D2h Status g.bytes) ≡ false
met_right mark m (Some (Read at)) met stamp g is = read_right (read_at m at.port at.register) met.0 met.1 stamp g is
met_right mark m (Some (Write at value)) met stamp g is = write_right (read_at m at.port at.register) met.0 met.1 stamp g is
met_right mark m (Some Unknown) met stamp g is = absurd met
met_right mark m (Some EndReset) met stamp g is = end_right mark stamp g is
met_right mark m other met stamp g is = absurd is

-- the four bits that a FIS has for the port
abbrev low : ℕ → ℕ
low port = (port % 2 ^ 8 + 2 ^ 8 * 0) % 16

low_is : (port : ℕ) → port < 15 → low port ≡ port
low_is port below = omega (arith, below)

module _ (m : RegisterMap) (most : m.ports ≤ 15) where
  read_port : (k register value : ℕ) → k < m.ports → pscr (port_at m k) register ≡ Some value → read_at m k register ≡ Ok value
  read_port k register value within is =
      let here : nat_lt k m.ports ≡ true = lt-ltb k m.ports within in
      let other : (k == 15) ≡ false = ne_eqb k 15 (λ same. absurd (omega (arith, within, most, same))) in
      let there : register_at m k register ≡ Some value =
      ap (λ (b : Bool). if b then gscr m register else (if nat_lt k m.ports then pscr (port_at m k) register else None)) other
      ∙ ap (λ (b : Bool). if b then pscr (port_at m k) register else None) here ∙ is in
      ap (λ (b : Bool). if b then ok_or (register_at m k register) NoRegister else Err NoPort) (or_right (k == 15) (nat_lt k m.ports) here) ∙ ap (λ (o : Option ℕ). ok_or o NoRegister) there

  -- the port of the order exists
  abbrev pub IsOfPort : Order → Type 0
  IsOfPort (Open k) = k < m.ports
  IsOfPort (Clear k) = k < m.ports
  IsOfPort (Detect k) = k < m.ports
  IsOfPort o = Unit {0}

  pub at_low : (k register value : ℕ) → k < m.ports → pscr (port_at m k) register ≡ Some value → read_at m (low k) register ≡ Ok value
  at_low k register value within is = subst (λ (j : ℕ). read_at m j register ≡ Ok value) (sym (low_is k (omega (arith, within, most)))) (read_port k register value within is)

  wish_met : (o : Order) → IsOfPort o → IsMet m (wish o)
  wish_met CountPorts is = (m.ports, refl)
  wish_met SetMask is = (m.mask, refl)
  wish_met Enable is = (m.enabled, refl)
  wish_met Scan is = (summary m, refl)
  wish_met (Open k) is = ((port_at m k).control, at_low k 2 (port_at m k).control is refl)
  wish_met (Clear k) is = ((port_at m k).error, at_low k 1 (port_at m k).error is refl)
  wish_met (Detect k) is = ((port_at m k).status, at_low k 0 (port_at m k).status is refl)
  wish_met o is = tt

-- ---- over each way

-- an answer is no error
abbrev IsFrank : Stamped → Type 0
IsFrank f = is_reply f ≡ true → is_error (field D2h Status f.bytes) ≡ false

-- the control port has no fault, and no answer on its way is an error
pub record NoneFails (l : Line) : Type 0 where
  pub well : IsUnfaulted 15 l.host.port
  pub waits : (f : Stamped) → l.pm.answer ≡ Some f → IsFrank f
  pub up : (f : Stamped) → Among f l.up → IsFrank f

pub is_well : (l : Line) → NoneFails l → IsWell l.host
is_well l n = ap is_some n.well

-- ---- the multiplier takes a frame

module _ (ports : ℕ) (l : Line) (f : Stamped) (rest : List Stamped) (pm : PmState) (is : l.down ≡ f ∷ rest) (u : IsSetUp ports l) (n : NoneFails l)
    (order : is_ordered l.host ≡ true → (most : l.pm.registers.ports ≤ 15) → IsOfPort l.pm.registers most l.host.driver.plan.order) where
  abbrev heard : Line
  heard = record l { down = rest; pm = pm }

  most : l.pm.registers.ports ≤ 15
  most = subst (λ (c : ℕ). c ≤ 15) (sym u.shape.ports_are) u.shape.most

  reset_met : IsOfReset f → IsMet l.pm.registers (request_in f.bytes)
  reset_met (inl reset) = subst (IsMet l.pm.registers) (sym reset) tt
  reset_met (inr end) = subst (IsMet l.pm.registers) (sym end) tt

  request_met : pm_port f ≡ control_port → IsMet l.pm.registers (request_in f.bytes)
  request_met own = elim (cases_Bool (is_ordered l.host)) [
    | inl ordered ↦
        subst (IsMet l.pm.registers) (sym (u.falls f (subst (Among f) (sym is) (inl refl)) own ordered)) (wish_met l.pm.registers most l.host.driver.plan.order (order ordered most))
    | inr plain ↦ reset_met (u.resets f (subst (Among f) (sym is) (inl refl)) own plain)
  ]

  hears_frank : IsHeard l.pm pm f → NoneFails heard
  hears_frank (ByControl own answers after_is) = record {
    well = n.well;
    waits = λ g there reply. met_right l.pm.resetting l.pm.registers (request_in f.bytes) (request_met own) (control_stamp l.pm) g (subst (λ (o : Option Stamped). IsAnswer (answer_to_request l.pm.resetting l.pm.registers (request_in f.bytes)) (control_stamp l.pm) o) there answers);
    up = n.up;
  }
  hears_frank (ByOther other answer same) = record { well = n.well; waits = λ g there. n.waits g (sym answer ∙ there); up = n.up }

-- ---- a frame rises

module _ (l : Line) (f : Stamped) (pm : PmState) (n : NoneFails l) where
  risen : (IsFrank f) → ((g : Stamped) → pm.answer ≡ Some g → l.pm.answer ≡ Some g) → NoneFails (record l { pm = pm; up = l.up ++ f ∷ [] })
  risen frank waits = record {
    well = n.well;
    waits = λ g there. n.waits g (waits g there);
    up = λ g there. elim (among_either g f l.up there) [ inl was ↦ n.up g was | inr same ↦ subst IsFrank same frank ];
  }

  rises_frank : Gives l.pm f pm → NoneFails (record l { pm = pm; up = l.up ++ f ∷ [] })
  rises_frank (FromPort k was next other is port shown e) =
      risen (λ reply. absurd (true≢false (sym reply ∙ not_control f k other (ap (λ (x : Stamped). x.stamp.port) shown)))) (λ g there. sym (ap (λ (x : PmState). x.answer) e) ∙ there)
  rises_frank (Notice next due is e) = risen (λ reply. absurd (true≢false (sym reply ∙ notice_none f is.0.viewed))) (λ g there. sym (ap (λ (x : PmState). x.answer) e) ∙ there)
  rises_frank (Answers next is e) = risen (n.waits f is) (λ g there. absurd (let wrong : None ≡ Some g = sym (ap (λ (x : PmState). x.answer) e) ∙ there in cc))

-- ---- the host takes one

-- an answer to a command of slot 31 that frees it is no fault
answer_none : (a : Answered) (own : DeviceSlots) (i : Issue) → own_issue own 31 ≡ Some i → own_issue (answered_as a own) 31 ≡ None → device_cause (answer_fault a) ≡ None
answer_none (answer.Short slot) own i there free = absurd (let wrong : None ≡ Some i = sym free ∙ there in cc)
answer_none answer.Nobody own i there free = refl
answer_none (answer.Queued slot) own i there free = refl
answer_none (answer.Done slot) own i there free = refl

-- a Register FIS that is no error, at a view that is not being reset
register_none : (v : DeviceView) (status error : ℕ) (bytes : List ℕ) → is_error status ≡ false → (v.state.resetting ≡ false → is_busy status ≡ false → device_cause (answer_fault (answer_of v.slots)) ≡ None)
    → (view_after_hearing v (signing bytes (heard_register v.slots v.state status error))).fault ≡ None
register_none v status error bytes fine none = by_tests v.state.resetting (is_error status) (is_busy status) fine none
  where
    by_tests : (r e b : Bool) → e ≡ false → (r ≡ false → b ≡ false → device_cause (answer_fault (answer_of v.slots)) ≡ None)
        → (view_after_hearing v (signing bytes (if r then quietly (after_reset v.state status error) happening.Nothing
        else (if e then faulty (with_file v.state status error) cause.TaskFile
        else (if b then quietly (with_file v.state status error) happening.Nothing else answered (answer_of v.slots) (with_file v.state status error)))))).fault ≡ None
    by_tests true e b x h = refl
    by_tests false true b x h = absurd (true≢false x)
    by_tests false false true x h = refl
    by_tests false false false x h = h refl refl

module _ (l : Line) (g : IsGood l) (c : IsCalm l) (f : Stamped) (rest : List Stamped) (is : l.up ≡ f ∷ rest) (report : TakeReport) (host : Host) (does : Does l.host (Took f.bytes report) host)
    (t : Turns31 g.stage l.host (Took f.bytes report) host) (n : NoneFails l) where
  first : Among f l.up
  first = subst (Among f) (sym is) (inl refl)

  abbrev v : DeviceView
  v = view_of 15 l.host.port

  -- the stage stays
  same_none : t.next ≡ g.stage → IsUnfaulted 15 host.port
  same_none next = by_fault (view_of 15 host.port).fault (t.at.fault ∙ ap has_failed next ∙ sym g.at.fault ∙ ap is_some n.well)
    where
      by_fault : (o : Option DeviceCause) → is_some o ≡ false → o ≡ None
      by_fault None e = refl
      by_fault (Some x) e = absurd (true≢false e)

  module _ (own : port_of f.bytes ≡ 15) (viewed : seen f.bytes ≡ Ok (view.RegD2H f.bytes)) where
    reply : is_reply f ≡ true
    reply = ap (λ (k : ℕ). (k == control_port) && is_register (seen f.bytes)) (sym (c.marks f first does.framed) ∙ own) ∙ ap is_register viewed

    heard_none : ((view_of 15 l.host.port).state.resetting ≡ false → is_busy (field D2h Status f.bytes) ≡ false → device_cause (answer_fault (answer_of v.slots)) ≡ None) → IsUnfaulted 15 host.port
    heard_none none = elim (cases_Bool (ignores (port_of f.bytes) l.host.port f.bytes)) [
      | inl skips ↦ subst (IsUnfaulted 15) (sym (does.ignored skips).port) n.well
      | inr hears ↦
          let left : view_of 15 host.port ≡ heard_view 15 v (is_sound l.host.memory l.host.port.commands v.slots) (admitted 15 (seen f.bytes)) =
          subst (λ (k : ℕ). view_of k host.port ≡ heard_view k (view_of k l.host.port) (is_sound l.host.memory l.host.port.commands (view_of k l.host.port).slots) (admitted k (seen f.bytes))) own (does.heard hears).own in
          ap (λ (x : DeviceView). x.fault)
          (left ∙ ap (λ (o : Result Fis FisFault). heard_view 15 v (is_sound l.host.memory l.host.port.commands v.slots) (admitted 15 o)) viewed
          ∙ register_view v (is_sound l.host.memory l.host.port.commands v.slots) f.bytes)
          ∙ register_none v (field D2h Status f.bytes) (field D2h Error f.bytes) f.bytes (n.up f first reply) none
    ]

    asks_none : g.stage ≡ Asks → IsUnfaulted 15 host.port
    asks_none stage =
        let at : IsIn Asks l.host.driver.plan.order l.host.driver.plan.asked (control_of l.host) = subst (λ (s : Stage31). IsIn s l.host.driver.plan.order l.host.driver.plan.asked (control_of l.host)) stage g.at.is in
        let s : IsSent (control_of l.host) = at.2 in
        heard_none (λ calm done. answer_none (answer_of v.slots) v.slots s.issue s.issued (answered_free l.host.port.slots g.going.way.sound.ruled.table s.issue s.issued s.sent s.plain))

    signs_none : g.stage ≡ Signs → IsUnfaulted 15 host.port
    signs_none stage = heard_none (λ calm done. absurd (true≢false (sym (g.at.resetting ∙ ap is_resetting stage) ∙ calm)))

  own_none : port_of f.bytes ≡ 15 → TakesOn g.stage f.bytes t.next → IsUnfaulted 15 host.port
  own_none own (inl same) = same_none same.0
  own_none own (inr (quiet, inl a)) = asks_none own a.1.viewed a.0
  own_none own (inr (quiet, inr a)) = signs_none own a.1.viewed a.0

  takes_frank : NoneFails (record l { host = host; up = rest })
  takes_frank = record {
    well = elim (cases_eq (port_of f.bytes) 15) [ inl own ↦ own_none own (t.is.0 own) | inr other ↦ same_none (t.is.1 other) ];
    waits = n.waits;
    up = λ g there. n.up g (subst (Among g) (sym is) (inr there));
  }

-- ---- each way

turned : (l : Line) (t : HostTurn) (host : Host) (d : List Stamped) → IsGood l → Does l.host t host → IsBeside 15 t → NoneFails l → NoneFails (record l { host = host; down = d })
turned l t host d g does beside n = record { well = turn_none 15 (omega arith) l.host host t g.going.way.sound does beside n.well; waits = n.waits; up = n.up }

beside_inside : (t : HostTurn) → IsInside t → IsBeside 15 t
beside_inside (Took frame report) inside = absurd inside
beside_inside other inside = tt

pub keeps_frank : (ports : ℕ) (l m : Line) → IsGood l → IsCalm l → IsSetUp ports l → (is_ordered l.host ≡ true → (most : l.pm.registers.ports ≤ 15) → IsOfPort l.pm.registers most l.host.driver.plan.order) → Way l m → NoneFails l → NoneFails m
keeps_frank ports l m g c u order (Stays pm registers resetting answer e) n = subst NoneFails (sym e) (record { well = n.well; waits = λ f there. n.waits f (sym answer ∙ there); up = n.up })
keeps_frank ports l m g c u order (Records k what e) n = subst NoneFails (sym e) (record { well = n.well; waits = λ f there. n.waits f (sym (recorded_answer l.pm k what) ∙ there); up = n.up })
keeps_frank ports l m g c u order (Hears f rest p pm is rule e) n = subst NoneFails (sym e) (hears_frank ports l f rest pm is u n order (heard_by l.pm pm f p rule))
keeps_frank ports l m g c u order (GoesUp f pm gave e) n = subst NoneFails (sym e) (rises_frank l f pm n gave)
keeps_frank ports l m g c u order (Takes f rest report host is does of e) n = subst NoneFails (sym e) (takes_frank l g c f rest is report host does (took_turn l g c f rest is report host does of) n)
keeps_frank ports l m g c u order (Pushes f host does e) n = subst NoneFails (sym e) (turned l (Pushed (Some f)) host (l.down ++ f ∷ []) g does tt n)
keeps_frank ports l m g c u order (Turns t inside host does e) n = subst NoneFails (sym e) (turned l t host l.down g does (beside_inside t inside) n)

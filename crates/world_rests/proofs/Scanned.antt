-- For `rested_ports_are_open`. A tick that orders a scan issues its command: the command waits in slot 31.
use Rattle.std.proofs.Common.{◌≡◌, ℕ, ◌+◌, ◌*◌, ◌^◌, ◌≤◌, ◌==◌, ◌&&◌, Bool, true, false, cond, not, if◌then◌else◌, List, [], ◌∷◌, ◌++◌, refl, sym, ap}
use Rattle.std.proofs.{Common.{subst, ◌∙◌, inl, inr, Option, Some, None, arith}, lemmas.Bool.{and_parts, cases_Bool, eq-eqb, false≢true, lt-ltb}}
use Rattle.std.proofs.lemmas.{Bool.{true≢false}, Nat.Bits.{bit_at-pow_same}}
use Rattle.std.specs.{Prelude.{is_none, is_some}, Option.option_or}
use Rattle.fis_view.specs.declared.build.H2dFields.{H2dFields}
use Rattle.host_memory.specs.Memory.{IsHostMemory, Memory}
use Rattle.slots.specs.{Slots.{Issue, has_bit, lowest, new_issue, own_issue, slots_of}, Table.IsTable}
use Rattle.slots.proofs.Door.{none_below}
use Rattle.hba_commands.specs.{Commands.command_at, declared.command.Command.Command}
use Rattle.hba_fbs.specs.declared.{error.WriteError.WriteError, register.Register.TheVariants.{Ci, Fbs, Sntf}, registers.Registers.Registers}
use Rattle.hba_fbs.specs.{Issuing.{aimed, any_slot, asked, is_bad, is_busy, issue_with, view_issued}, Offsets.register_at, Registers.own_refusal}
use Rattle.hba_fbs.specs.{Registers.written, Views.{DeviceView, Port, view_of}, Writing.{Accepts, apart_refusal, is_apart, slots_refusal, view_after}}
use Rattle.hba_fbs.specs.Writing.{write_refusal}
use Rattle.hba_fbs.specs.declared.error.WriteError.TheVariants as refusal
use Rattle.hba_fbs.proofs.Door.{aimed_chosen}
use Rattle.hba_laws.proofs.Door.{is_own, own_issued}
use Rattle.hba_driver.specs.declared.{mode.Mode.{Mode, TheVariants.Switching}, order.Order.{Order, TheVariants.{CountPorts, Detect, Scan}}}
use Rattle.hba_driver.specs.{declared.plan.Plan.Plan, Accepted.{AreAccepted, TurnAccepts, TurnsAccept}, Between.{IsGoing, Runs}, Drivers.Driver}
use Rattle.hba_driver.specs.{Drivers.Entry, Effects.{ActsAll, effects_of, order_effects, sending}, Events.opening_host, HostTurns.{Does, DoesAll}}
use Rattle.hba_driver.specs.{HostTurns.{Host, HostTurn, Ticked, sight_in}, Orders.{control_port, error_ports, order_fields, reads}, Scans.is_scan}
use Rattle.hba_driver.specs.{Seeing.Sight, Sights.{file_shown, px_ci}, Slot31.{Asks, Fails, IsAt31, IsIn, Resets, Rests, Signs, Stage31, Told, Waits}}
use Rattle.hba_driver.specs.{Slot31.{control_of, is_off, is_on}, Ticks.{acted, after_tick, done_ended, due, effects, effects_due, plan_after, seen}}
use Rattle.hba_driver.specs.Turns.{allowed, control_news, control_seen, control_turn, device_turn, early_due, noted, order_allowed, order_due}
use Rattle.hba_driver.specs.Turns.{plain_turn, turn_of}
use Rattle.hba_driver.proofs.Door.{not_below, runs_turn, seen_free, seen_out, seen_unasked, writes_are_accepted}
use Rattle.world_rests.proofs.{Notified.orders_scan, SetUp.{IsWell, sent_not}, Slot31.none_there}

-- ---- turns from an opening

pub record IsDriven (start : Memory) (h : Host) : Type 0 where
  pub turns : List HostTurn
  pub run : DoesAll (opening_host 0 start) turns h

does_more : (old : Host) (turns : List HostTurn) (mid : Host) (t : HostTurn) (new : Host) → DoesAll old turns mid → Does mid t new → DoesAll old (turns ++ t ∷ []) new
does_more old [] mid t new run does = (new, subst (λ (h : Host). Does h t new) run does, refl)
does_more old (s ∷ turns) mid t new run does = (run.0, run.1, does_more run.0 turns mid t new run.2 does)

pub driven_more : (start : Memory) (h : Host) (t : HostTurn) (new : Host) → Does h t new → IsDriven start h → IsDriven start new
driven_more start h t new does d = record { turns = d.turns ++ t ∷ []; run = does_more (opening_host 0 start) d.turns h t new d.run does }

-- the writes of one turn more are accepted
last_accepts : (old : Host) (turns : List HostTurn) (mid : Host) → DoesAll old turns mid → ((all : List HostTurn) (h : Host) (run : DoesAll old all h) → TurnsAccept old h all run)
    → (t : HostTurn) (new : Host) (does : Does mid t new) → TurnAccepts mid t new does
last_accepts old [] mid run accepts t new does = subst (λ (h : Host). (d : Does h t new) → TurnAccepts h t new d) (sym run) (λ d. (accepts (t ∷ []) new (new, d, refl)).0) does
last_accepts old (s ∷ turns) mid run accepts t new does = last_accepts run.0 turns mid run.2 (λ all h more. (accepts (s ∷ all) h (run.0, run.1, more)).1) t new does

pub turn_accepts : (start : Memory) → IsHostMemory start → (h : Host) → IsDriven start h → (t : HostTurn) (new : Host) (does : Does h t new) → TurnAccepts h t new does
turn_accepts start right h d t new does = last_accepts (opening_host 0 start) d.turns h d.run (λ all k run. writes_are_accepted Switching 0 start right all k run) t new does

-- ---- a command is issued in slot 31

-- it is for the control port, and has not gone out
pub record HasNew (port : Port) : Type 0 where
  pub issue : Issue
  pub there : own_issue (view_of 15 port).slots 31 ≡ Some issue
  pub unsent : issue.sent ≡ false

none_of : (o : Option ℕ) → is_some o ≡ false → o ≡ None
none_of None is = refl
none_of (Some k) is = absurd (true≢false is)

some_of : (o : Option Command) → is_none o ≡ false → (c : Command) × (o ≡ Some c)
some_of None is = absurd (true≢false is)
some_of (Some c) is = (c, refl)

right_of : (a b : Bool) → a ≡ true → (a && b) ≡ false → b ≡ false
right_of true b h is = is
right_of false b h is = absurd (false≢true h)

last_bit : has_bit (2 ^ 31) 31 ≡ true
last_bit = ap (λ (k : ℕ). k == 1) (bit_at-pow_same 31)

-- a write of PxCI is not refused for a bad command
not_bad : (zero busy apart bad : Bool) (e : WriteError) (started : Bool) → started ≡ true
    → option_or (if not started && not zero then Some refusal.Stopped else None)
    (if started then (if busy then Some refusal.SlotBusy else if apart then Some e else if bad then Some refusal.BadTable else None) else None) ≡ None → bad ≡ false
not_bad zero busy apart bad e false on is = absurd (false≢true on)
not_bad zero true apart bad e true on is = absurd (let wrong : Some refusal.SlotBusy ≡ None = is in cc)
not_bad zero false true bad e true on is = absurd (let wrong : Some e ≡ None = is in cc)
not_bad zero false false true e true on is = absurd (let wrong : Some refusal.BadTable ≡ None = is in cc)
not_bad zero false false false e true on is = refl

module _ (p q : Port) (m : Memory) (table : IsTable p.slots) (started : p.registers.started ≡ true) (on : p.registers.switching ≡ true) (chosen : p.registers.chosen ≡ 15) (free : write_refusal p m px_ci (2 ^ 31) ≡ None)
    (accepts : Accepts p m Ci (2 ^ 31) q) where
  good : is_bad p.registers m 31 ≡ false
  unfolding register_at own_refusal slots_refusal
  good =
      let bad : any_slot (2 ^ 31) (is_bad p.registers m) ≡ false =
      not_bad (2 ^ 31 == 0) (any_slot (2 ^ 31) (is_busy p.slots)) (is_apart p m (2 ^ 31)) (any_slot (2 ^ 31) (is_bad p.registers m)) (apart_refusal p.registers) p.registers.started started free in
      right_of (has_bit (2 ^ 31) 31) (is_bad p.registers m 31) last_bit
      (none_below (λ slot. has_bit (2 ^ 31) slot && is_bad p.registers m slot) 32 (none_of (lowest (λ slot. has_bit (2 ^ 31) slot && is_bad p.registers m slot)) bad) 31 (omega arith))

  ci_new : HasNew q
  unfolding view_after
  ci_new =
      let commands : ℕ → Option Command = asked p.registers m (2 ^ 31) in
      let target : ℕ = aimed p.registers m.structure (2 ^ 31) in
      let aims : target ≡ 15 = aimed_chosen p.registers m.structure (2 ^ 31) on ∙ chosen in
      let view : view_of 15 q ≡ view_issued p.registers m (2 ^ 31) (view_of 15 p) =
      accepts.views 15 (omega arith) ∙ ap (λ (b : Bool). if b then view_issued p.registers m (2 ^ 31) (view_of 15 p) else view_of 15 p) (eq-eqb 15 target (sym aims)) in
      let c : (c : Command) × (command_at m p.registers.clb 31 (has_bit p.registers.armed 31) ≡ Some c) = some_of (command_at m p.registers.clb 31 (has_bit p.registers.armed 31)) good in
      let asks : commands 31 ≡ Some c.0 = ap (λ (b : Bool). if b then command_at m p.registers.clb 31 (has_bit p.registers.armed 31) else None) last_bit ∙ c.1 in
      let was : Option Issue = own_issue (slots_of 15 p.slots) 31 in
      record {
        issue = new_issue target c.0.work;
        there =
            ap (λ (v : DeviceView). own_issue v.slots 31) view ∙ ap (λ (f : ℕ → Option Issue). f 31) (own_issued target commands (slots_of 15 p.slots) 32 (is_own 15 p.slots table).long)
            ∙ ap (λ (b : Bool). cond b (issue_with target (commands 31) was) was) (lt-ltb 31 32 (omega arith)) ∙ ap (λ (o : Option Command). issue_with target o was) asks;
        unsent = refl;
      }

-- the writes that issue a command of slot 31
module _ (fields : H2dFields) (old new : Port) (before after : Memory) (started : old.registers.started ≡ true) where
  sent_new : (acts : ActsAll (sending Switching 31 15 fields false) old before new after) → AreAccepted (sending Switching 31 15 fields false) old before new after acts → HasNew new
  unfolding ActsAll AreAccepted register_at written
  sent_new acts accepted =
      let f : Accepts acts.0 acts.1 Fbs (256 * 15 + 1) acts.4.0 = acts.4.2.0.accepted accepted.1.0 in
      let c : Accepts acts.4.0 acts.4.1 Ci (2 ^ 31) acts.4.4.0 = acts.4.4.2.0.accepted accepted.1.1.0 in
      let starts : acts.4.0.registers.started ≡ true = ap (λ (r : Registers). r.started) f.registers ∙ ap (λ (p : Port). p.registers.started) acts.2.0 ∙ started in
      let switches : acts.4.0.registers.switching ≡ true = ap (λ (r : Registers). r.switching) f.registers in
      let chosen : acts.4.0.registers.chosen ≡ 15 = ap (λ (r : Registers). r.chosen) f.registers in
      subst HasNew (sym acts.4.4.4.0) (ci_new acts.4.0 acts.4.4.0 acts.4.1 acts.4.3.table starts switches chosen accepted.1.1.0 c)

module _ (old new : Port) (before after : Memory) (started : old.registers.started ≡ true) where
  scan_new : (acts : ActsAll (order_effects Switching Scan) old before new after) → AreAccepted (order_effects Switching Scan) old before new after acts → HasNew new
  unfolding ActsAll AreAccepted order_effects order_fields register_at written
  scan_new acts accepted =
      let s : Accepts old before Sntf 0x8000 acts.0 = acts.2.0.accepted accepted.0 in
      sent_new (reads control_port error_ports) acts.0 new acts.1 after (ap (λ (r : Registers). r.started) s.registers ∙ started) acts.4 accepted.1

-- ---- the tick

noted_mode : (v : Sight) (o : Order) (p : Plan) → (noted v o p).mode ≡ p.mode
unfolding noted
noted_mode v CountPorts p = refl
noted_mode v Scan p = refl
noted_mode v (Detect port) p = refl
noted_mode v o p = refl

seen_mode : (v : Sight) (p : Plan) → (control_seen v p).mode ≡ p.mode
seen_mode v p = elim (cases_Bool p.asked) [
  | inl asked ↦ elim (cases_Bool (has_bit v.issued 31)) [
    | inl on ↦ ap (λ (q : Plan). q.mode) (seen_out v p asked on)
    | inr off ↦ ap (λ (q : Plan). q.mode) (seen_free v p asked off) ∙ noted_mode v p.order p
  ]
  | inr unasked ↦ ap (λ (q : Plan). q.mode) (seen_unasked v p unasked)
]

is_false : (b : Bool) → not b ≡ true → b ≡ false
is_false true is = absurd (false≢true is)
is_false false is = refl

scan_is : (o : Order) → is_scan o ≡ true → o ≡ Scan
scan_is Scan is = refl
scan_is o is = absurd (false≢true is)

-- a new command in slot 31 waits
new_waits : (s : Stage31) (h : Host) → IsAt31 s h → IsWell h → HasNew h.port → h.driver.plan.order ≡ Scan → h.driver.plan.asked ≡ true → s ≡ Waits
new_waits s h at well new scan asked = by_stage s at at.is
  where
    by_stage : (x : Stage31) → IsAt31 x h → IsIn x h.driver.plan.order h.driver.plan.asked (control_of h) → x ≡ Waits
    by_stage Waits here is = refl
    by_stage Rests here is = absurd (true≢false (sym asked ∙ is.0))
    by_stage Resets here (inl is) = absurd (true≢false (sym (ap is_on is.0) ∙ ap is_on scan))
    by_stage Resets here (inr is) = absurd (true≢false (sym (ap is_off is.0) ∙ ap is_off scan))
    by_stage Signs here is = none_there new.issue (own_issue (control_of h).view.slots 31) is.0 new.there
    by_stage Asks here is = sent_not new.issue is.2.issue (own_issue (control_of h).view.slots 31) new.there is.2.issued new.unsent is.2.sent
    by_stage Told here (a, on, inl free) = none_there new.issue (own_issue (control_of h).view.slots 31) free new.there
    by_stage Told here (a, on, inr sent) = sent_not new.issue sent.issue (own_issue (control_of h).view.slots 31) new.there sent.issued new.unsent sent.sent
    by_stage Fails here is = absurd (true≢false (sym here.fault ∙ well))

module _ (h : Host) (g : IsGoing h) (ticked : Bool) (new : Host) (does : Does h (Ticked ticked) new) (is : orders_scan h ≡ true) where
  abbrev v : Sight
  v = sight_in h

  abbrev p : Plan
  p = h.driver.plan

  -- the plan once the driver has looked at what came
  abbrev c : Plan
  c = control_seen v p

  abbrev entries : List (Option Entry)
  entries = done_ended v.issued h.driver.entries

  quiet : is_some (early_due v p) ≡ false
  quiet = is_false (is_some (early_due v p)) (and_parts (not (is_some (early_due v p))) (not c.asked && is_scan c.order) is).0

  unasked : c.asked ≡ false
  unasked = is_false c.asked (and_parts (not c.asked) (is_scan c.order) (and_parts (not (is_some (early_due v p))) (not c.asked && is_scan c.order) is).1).0

  scan : c.order ≡ Scan
  scan = scan_is c.order (and_parts (not c.asked) (is_scan c.order) (and_parts (not (is_some (early_due v p))) (not c.asked && is_scan c.order) is).1).1

  -- the order is due
  scan_due : order_due c ≡ order_due (record c { order = Scan; asked = false })
  scan_due = ap (λ (a : Bool). order_due (record c { asked = a })) unasked ∙ ap (λ (o : Order). order_due (record c { order = o; asked = false })) scan

  order_some : is_some (order_due c) ≡ true
  unfolding order_fields
  order_some = ap (λ a. is_some a) scan_due

  allowed_is : order_allowed v c entries ≡ order_due c
  allowed_is = ap (λ (m : Mode). allowed m v c entries (order_due c)) (seen_mode v p ∙ g.way.sound.drives)

  turn_is : turn_of v p entries ≡ plain_turn c (order_due c) (control_news v p)
  unfolding turn_of
  turn_is =
      ap (λ (b : Bool). if b then plain_turn p (early_due v p) false else control_turn v (control_news v p) c entries) quiet
      ∙ ap (λ a. if is_some a then plain_turn c a (control_news v p) else device_turn v (control_news v p) c entries) allowed_is
      ∙ ap (λ (b : Bool). if b then plain_turn c (order_due c) (control_news v p) else device_turn v (control_news v p) c entries) order_some

  due_is : due v h.driver ≡ order_due (record c { order = Scan; asked = false })
  due_is = ap (λ t. t.act) turn_is ∙ scan_due

  least : 7 ≤ p.opened
  unfolding order_fields
  least =
      let runs : Runs p (order_due (record c { order = Scan; asked = false })) = subst (Runs p) due_is (runs_turn v p entries) in
      not_below p.opened 7 runs.0

  effects_are : effects v h.driver ≡ order_effects Switching Scan
  unfolding effects_of order_fields
  effects_are = ap (λ (m : Mode). effects_due m (due v h.driver)) g.way.sound.drives ∙ ap (effects_due Switching) due_is

  plan_is : new.driver.plan ≡ record c { asked = true }
  unfolding after_tick plan_after order_fields
  plan_is = ap (λ (x : Driver). x.plan) does.driver ∙ ap (λ a. (acted a (file_shown new.port) (seen v h.driver)).plan) due_is ∙ ap (λ t. record t.plan { asked = true }) turn_is

  pub scan_ordered : new.driver.plan.order ≡ Scan
  scan_ordered = ap (λ (q : Plan). q.order) plan_is ∙ scan

  pub scan_asked : new.driver.plan.asked ≡ true
  scan_asked = ap (λ (q : Plan). q.asked) plan_is

  -- its command waits
  pub scan_waits : (start : Memory) → IsHostMemory start → IsDriven start h → (s : Stage31) → IsAt31 s new → IsWell new → IsAt31 Waits new
  scan_waits start right d s at well =
      let has : HasNew new.port =
      subst (λ es. (x : ActsAll es h.port h.memory new.port new.memory) → AreAccepted es h.port h.memory new.port new.memory x → HasNew new.port) (sym effects_are)
      (λ x accepted. scan_new h.port new.port h.memory new.memory (g.way.sound.registers.starts least (omega (arith, g.up))) x accepted) does.does (turn_accepts start right h d (Ticked ticked) new does) in
      subst (λ (x : Stage31). IsAt31 x new) (new_waits s new at well has scan_ordered scan_asked) at

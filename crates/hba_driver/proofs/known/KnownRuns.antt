-- For `devices_are_known`. Over turns of the host, a device that is ready is known, and so is one of which a request is
-- issued.
use Rattle.std.proofs.Common.{◌≡◌, ◌≢◌, ℕ, zero, suc, ◌+◌, ◌<◌, Bool, true, false, ◌&&◌, ◌||◌, List, [], ◌∷◌, get_or, replicate, set, refl, sym, ◌∙◌}
use Rattle.std.proofs.{Common.{ap, subst, inl, inr, arith, Option, Some, None}, lemmas.Bool.{eq-eqb, eqb-true, false_from_ne_true, false≢true}}
use Rattle.std.proofs.lemmas.Bool.{lt-ltb, ne_eqb, or_parts, true_from_ne_false, true≢false}
use Rattle.std.specs.{Prelude.{if◌then◌else◌, ◌==◌, not, nat_lt}, List.list_any}
use Rattle.host_memory.specs.Memory.{IsHostMemory, Memory}
use Rattle.slots.specs.Slots.{Issue, has_bit, issue_at, match_some}
use Rattle.hba_fbs.specs.Views.{Port}
use Rattle.hba_laws.proofs.Door.{own_in}
use Rattle.hba_driver.specs.declared.{mode.Mode.{Mode, TheVariants.Switching}, order.Order.{Order, TheVariants.{ResetOn, Clear}}, path.Path.Path}
use Rattle.hba_driver.specs.declared.{path.{Stage.{Stage, TheVariants.Identify}, TaskFile.TaskFile}, plan.{Device.TheVariants.Absent, Plan.Plan}}
use Rattle.hba_driver.specs.{Seeing.Sight, declared.turn.Act.Act, Drivers.{Driver, Entry, has_ended, has_ended_in, is_issued, is_issued_in}}
use Rattle.hba_driver.specs.{declared.slot.Phase.{Phase, TheVariants.Ended}, Effects.{ActsAll, effects_of, opening_write}, Events.opening_host}
use Rattle.hba_driver.specs.{HostTurns.{Does, DoesAll, Host, HostTurn, Took, Pushed, Ticked, Submitted, Polled, Put, sight_in}, Known.DevicesAreKnown}
use Rattle.hba_driver.specs.{Known.{identifies, is_identify, known_after, known_over}, Laws.flushes, Paths.stage_fields, Sights.file_shown}
use Rattle.hba_driver.specs.{Submits.{after_poll, lowest_ended, new_entry, next_slot}, Ticks.{acted, after_tick, done_ended, due, effects}}
use Rattle.hba_driver.specs.{Ticks.{effects_due, from_reset, ordered, plan_after, recovering, seen, turn, unless}, Between.{Awaits, Due, HostUnknown}}
use Rattle.hba_driver.specs.Between.{IsAwaited, IsIssuedAt, IsOnWay, IsUnknown, IsUpIn, MayClear, MayEnd, NoneIssued, Runs, is_logging, is_named}
use Rattle.hba_driver.specs.Between.{is_reading, is_trusted}
use Rattle.hba_driver.specs.declared.turn.Act.TheVariants as act
use Rattle.hba_driver.proofs.{accepted.AcceptLemmas.{Goes, free_here, goes_on, is_up, none_here, way_opens, way_turn}, known.ActLemmas.here_act}
use Rattle.hba_driver.proofs.{known.AwaitLemmas.{awaited_pushed, awaited_took, here_effects}, events.DrivenLemmas.not_below}
use Rattle.hba_driver.proofs.{ticks.DueLemmas.{goes_turn, runs_turn}, issued.EndingLemmas.may_end, known.FreshLemmas.fresh_identify}
use Rattle.hba_driver.proofs.{known.KnownLemmas.{comes_back, unknown_tick}, ticks.LifeLemmas.due_seen, done.OutLemmas.{kept_clear, kept_effects}}
use Rattle.hba_driver.proofs.{done.OutLemmas.{kept_stopped, lasting_act, opening_is}, known.PushedLemmas.{plain_at, request_known}}
use Rattle.hba_driver.proofs.{calls.RequestLemmas.set_cases, ticks.ServeLemmas.{act_clears, cleared, ticks_serve}, modes.SwitchLemmas.tick_acts}
use Rattle.hba_driver.proofs.issued.TickingLemmas.{free_slot}
use Rattle.hba_driver.proofs.ends.DoneLemmas as done

-- ---- a device that is not known

some_path : (x y : Path) → Some x ≡ Some y → x ≡ y
some_path x y e = cc

-- ---- the path of a tick

-- a path that an act leaves was there before, and is not of a device that is cleared
unless_was : (dev : ℕ) (o : Option Path) (p : Path) → unless dev o ≡ Some p → (o ≡ Some p) × (p.dev ≢ dev)
unless_was dev None p e = absurd (cc)
unless_was dev (Some path) p e = by_test (path.dev == dev) refl e
  where
    by_test : (b : Bool) → (path.dev == dev) ≡ b → (if b then None else Some path) ≡ Some p → (Some path ≡ Some p) × (p.dev ≢ dev)
    by_test true is e = absurd (cc)
    by_test false is e = (e, λ same. true≢false (sym (eq-eqb path.dev dev (ap (λ (x : Path). x.dev) (some_path path p e) ∙ same)) ∙ is))

-- what is known of an act that leaves this path
data Leaves (a : Act) (plan : Plan) (p : Path) : Type 0 where
  Begins : (dev : ℕ) (stage : Stage) → a ≡ act.Steps dev stage → p ≡ record { dev = dev; stage = stage; asked = true } → Leaves a plan p
  Keeps : plan.path ≡ Some p → (a ≡ act.Stops → ⊥) → ((k : ℕ) → a ≡ act.Clears k → p.dev ≢ k) → ((k : ℕ) → a ≡ act.Orders (Clear k) → p.dev ≢ k) → ((dev : ℕ) (stage : Stage) → a ≡ act.Steps dev stage → ⊥) → Leaves a plan p

leaves_order : (order : Order) (plan : Plan) (p : Path) → (ordered order plan).path ≡ Some p → (plan.path ≡ Some p) × ((k : ℕ) → order ≡ Clear k → p.dev ≢ k)
leaves_order (Clear port) plan p e =
    let was = unless_was port plan.path p e in
    (was.0, λ k same at. was.1 (at ∙ sym (port_is k same)))
  where
    port_is : (k : ℕ) → Clear port ≡ Clear k → port ≡ k
    port_is k e = cc
leaves_order other plan p e = (e, λ k same. absurd (cc))

leaves_clear : (dev : ℕ) (file : TaskFile) (plan : Plan) (p : Path) → p.dev < 15 → (if nat_lt dev 15 then recovering dev file plan else from_reset plan).path ≡ Some p → (plan.path ≡ Some p) × (p.dev ≢ dev)
leaves_clear dev file plan p low e = by_test (nat_lt dev 15) refl e
  where
    by_test : (b : Bool) → nat_lt dev 15 ≡ b → (if b then recovering dev file plan else from_reset plan).path ≡ Some p → (plan.path ≡ Some p) × (p.dev ≢ dev)
    by_test true is e = unless_was dev plan.path p e
    by_test false is e = (e, λ same. let low_is : p.dev < 15 = low in true≢false (sym (lt_of (subst (λ (k : ℕ). k < 15) same low_is)) ∙ is))
      where
        lt_of : dev < 15 → nat_lt dev 15 ≡ true
        lt_of h = lt-ltb dev 15 h

leaves : (a : Act) (file : TaskFile) (plan : Plan) (p : Path) → p.dev < 15 → (plan_after a file plan).path ≡ Some p → Leaves a plan p
unfolding plan_after
leaves (act.Opens k) file plan p low e = Keeps e (λ is. absurd (cc)) (λ k is. absurd (cc)) (λ k is. absurd (cc)) (λ dev stage is. absurd (cc))
leaves act.Stops file plan p low e = absurd (cc)
leaves (act.Restarts k) file plan p low e = Keeps e (λ is. absurd (cc)) (λ k is. absurd (cc)) (λ k is. absurd (cc)) (λ dev stage is. absurd (cc))
leaves (act.Clears dev) file plan p low e =
    let was = leaves_clear dev file plan p low e in
    Keeps was.0 (λ is. absurd (cc)) (λ k is at. was.1 (at ∙ sym (dev_is k is))) (λ k is. absurd (cc)) (λ d stage is. absurd (cc))
  where
    dev_is : (k : ℕ) → act.Clears dev ≡ act.Clears k → dev ≡ k
    dev_is k e = cc
leaves (act.Orders order) file plan p low e =
    let was = leaves_order order plan p e in
    Keeps was.0 (λ is. absurd (cc)) (λ k is. absurd (cc)) (λ k is. was.1 k (order_is k is)) (λ dev stage is. absurd (cc))
  where
    order_is : (k : ℕ) → act.Orders order ≡ act.Orders (Clear k) → order ≡ Clear k
    order_is k e = cc
leaves (act.Steps dev stage) file plan p low e = Begins dev stage refl (sym (some_path (record { dev = dev; stage = stage; asked = true }) p e))
leaves (act.Issues slot dev queued) file plan p low e = Keeps e (λ is. absurd (cc)) (λ k is. absurd (cc)) (λ k is. absurd (cc)) (λ d stage is. absurd (cc))

-- ---- what a tick leaves in slot 30

module _ (n : ℕ) (below : n < 15) (old new : Host) (w : IsOnWay old) where
  abbrev v : Sight
  v = sight_in old

  sixteen : n < 16
  sixteen = omega (arith, below)

  flushes_none : (a : Act) → ((k : ℕ) → a ≡ act.Orders (Clear k) → n ≢ k) → list_any (flushes n) (effects_due Switching (Some a)) ≡ false
  flushes_none a orders = false_from_ne_true (list_any (flushes n) (effects_due Switching (Some a))) (λ flushed. orders n (some_act a (act.Orders (Clear n)) (act_clears Switching n (Some a) flushed)) refl)
    where
      some_act : (x y : Act) → Some x ≡ Some y → x ≡ y
      some_act x y e = cc

  opens_due : (k : ℕ) → due v old.driver ≡ Some (act.Opens k) → old.driver.plan.opened < 7
  opens_due k is =
      let d = subst (Due v (seen v old.driver).plan (seen v old.driver).entries) is (due_seen v old.driver) in
      let same : (turn v old.driver).plan.opened ≡ old.driver.plan.opened = (goes_turn v old.driver.plan (done_ended v.issued old.driver.entries)).opened in
      let less : (turn v old.driver).plan.opened < 7 = d.1 in
      omega (arith, same, less)

  -- the same issue stays, unless the device or the port is cleared
  kept_issue : (a : Act) (i : Issue) → due v old.driver ≡ Some a → (a ≡ act.Stops → ⊥) → ((k : ℕ) → a ≡ act.Clears k → n ≢ k) → ((k : ℕ) → a ≡ act.Orders (Clear k) → n ≢ k)
      → ActsAll (effects_due Switching (Some a)) old.port old.memory new.port new.memory → IsIssuedAt old.port n 30 i → IsIssuedAt new.port n 30 i
  unfolding effects_of ActsAll
  kept_issue (act.Opens k) i is stops clears orders acts here =
      let less : old.driver.plan.opened < 7 = opens_due k is in
      let stopped : old.port.registers.started ≡ false = w.sound.registers.stopped (omega (arith, less)) in
      let there : IsIssuedAt acts.0 n 30 i = kept_stopped (opening_write Switching k) old.port acts.0 old.memory acts.1 n 30 i (opening_is Switching k) stopped sixteen acts.2 w.sound.ruled.table here in
      subst (λ (p : Port). IsIssuedAt p n 30 i) (sym acts.4.0) there
  kept_issue act.Stops i is stops clears orders acts here = absurd (stops refl)
  kept_issue (act.Clears k) i is stops clears orders acts here =
      let may : MayClear k old.port = (subst (λ (a : Option Act). MayEnd Switching a old.port) is (may_end old w.sound)).1 in
      kept_clear old.port new.port old.memory new.memory 30 n k i sixteen (clears k refl) may w.sound.ruled.table acts here
  kept_issue other i is stops clears orders acts here =
      kept_effects (effects_due Switching (Some other)) old.port new.port old.memory new.memory n 30 i
      (lasting_act Switching (Some other) refl (λ j e. absurd (cc))) (flushes_none other orders) sixteen acts w.sound.ruled.table here

  slot_below : (slot dev : ℕ) (queued : Bool) → due v old.driver ≡ Some (act.Issues slot dev queued) → slot ≢ 30
  slot_below slot dev queued is same =
      let d = subst (Due v (seen v old.driver).plan (seen v old.driver).entries) is (due_seen v old.driver) in
      let less : slot < 30 = d.0.below in
      absurd (omega (arith, less, same))

  kept_awaited : (a : Act) → due v old.driver ≡ Some a → (a ≡ act.Stops → ⊥) → ((k : ℕ) → a ≡ act.Clears k → n ≢ k) → ((k : ℕ) → a ≡ act.Orders (Clear k) → n ≢ k) → ((dev : ℕ) (stage : Stage) → a ≡ act.Steps dev stage → ⊥)
      → ActsAll (effects_due Switching (Some a)) old.port old.memory new.port new.memory → IsAwaited n old.port → IsAwaited n new.port
  kept_awaited a is stops clears orders steps acts h = record {
    own = record { issue = h.own.issue; is = kept_issue a h.own.issue is stops clears orders acts h.own.is; pio = h.own.pio; short = h.own.short };
    command =
        ap is_identify (here_effects (effects_due Switching (Some a)) old.port new.port old.memory new.memory
        (here_act a steps (λ slot dev queued same. slot_below slot dev queued (is ∙ ap (λ (x : Act). Some x) same))) acts)
        ∙ h.command;
  }

  -- the tick that issues it
  identify_due : due v old.driver ≡ Some (act.Steps n Identify) → ActsAll (effects_due Switching (Some (act.Steps n Identify))) old.port old.memory new.port new.memory → IsAwaited n new.port
  unfolding effects_of stage_fields
  identify_due is acts =
      let runs = subst (Runs old.driver.plan) is (runs_turn v old.driver.plan (done_ended v.issued old.driver.entries)) in
      let goes : Goes old = goes_on old w (not_below old.driver.plan.opened 7 runs.0) in
      let step = subst (Due v (seen v old.driver).plan (seen v old.driver).entries) is goes.due_is in
      let more = subst (Runs (seen v old.driver).plan) is goes.runs in
      fresh_identify n old.port new.port old.memory new.memory below
      (subst (λ (m : Mode). IsUpIn m old.port.registers) ((goes_turn v old.driver.plan (done_ended v.issued old.driver.entries)).mode ∙ w.sound.drives) (is_up (seen v old.driver) old.port old.memory goes.knows more.1)) w.unarmed
      (free_here (seen v old.driver) old.port old.memory goes.knows 30 (free_slot (seen v old.driver) n Identify step)) w.sound.memory acts

  -- ---- a tick, whatever it does

  bit_set : IsAwaited n old.port → has_bit v.issued 30 ≡ true
  bit_set h = true_from_ne_false (has_bit v.issued 30) (λ clear.
      let none : issue_at old.port.slots 30 ≡ None = done.free_slot old.driver.plan.mode old.port old.memory 30 w.sound.ruled.table (omega arith) clear in
      let wrong : None ≡ Some h.own.issue = sym none ∙ (own_in n 30 old.port.slots h.own.issue h.own.is).1 in absurd (cc))

  never_back : HostUnknown n old → comes_back v n old.driver.plan.path ≡ false
  never_back h = by_path old.driver.plan.path refl
    where
      by_tests : (p : Path) → old.driver.plan.path ≡ Some p → (d s a : Bool) → (p.dev == n) ≡ d → is_named p.stage ≡ s → p.asked ≡ a → (d && (s && (a && not (has_bit v.issued 30)))) ≡ false
      by_tests p is true true true d s a = ap (λ (b : Bool). not b) (bit_set (h.awaits p is (eqb-true p.dev n d) s a))
      by_tests p is true true false d s a = refl
      by_tests p is true false a d s e = refl
      by_tests p is false s a d x y = refl

      by_path : (o : Option Path) → old.driver.plan.path ≡ o → comes_back v n o ≡ false
      by_path None is = refl
      by_path (Some p) is = by_tests p is (p.dev == n) (is_named p.stage) p.asked refl refl refl

  named_is : (stage : Stage) → is_named stage ≡ true → stage ≡ Identify
  named_is Identify h = refl
  named_is other h = absurd (false≢true h)

  awaits_then : (h : HostUnknown n old) (file : TaskFile) → ActsAll (effects_due Switching (due v old.driver)) old.port old.memory new.port new.memory → Awaits n (after_tick v file old.driver).plan.path new.port
  unfolding after_tick ActsAll
  awaits_then h file acts p here dev named asked = by_act (turn v old.driver).act refl here acts
    where
      was : (turn v old.driver).plan.path ≡ Some p → IsAwaited n old.port
      was e = h.awaits p ((goes_turn v old.driver.plan (done_ended v.issued old.driver.entries)).back p e asked) dev named asked

      low : p.dev < 15
      low = omega (arith, dev, below)

      by_leaves : (a : Act) → due v old.driver ≡ Some a → ActsAll (effects_due Switching (Some a)) old.port old.memory new.port new.memory → Leaves a (seen v old.driver).plan p → IsAwaited n new.port
      by_leaves a is acts (Begins d stage begins path) =
          let to : d ≡ n = sym (ap (λ (x : Path). x.dev) path) ∙ dev in
          let of : stage ≡ Identify = named_is stage (ap (λ (x : Path). is_named x.stage) (sym path) ∙ named) in
          let is_act : a ≡ act.Steps n Identify = begins ∙ ap (λ (k : ℕ). act.Steps k stage) to ∙ ap (λ (s : Stage). act.Steps n s) of in
          identify_due (is ∙ ap (λ (x : Act). Some x) is_act) (subst (λ (x : Act). ActsAll (effects_due Switching (Some x)) old.port old.memory new.port new.memory) is_act acts)
      by_leaves a is acts (Keeps e stops clears orders steps) =
          kept_awaited a is stops (λ k same at. clears k same (dev ∙ at)) (λ k same at. orders k same (dev ∙ at)) steps acts (was e)

      by_act : (o : Option Act) → (turn v old.driver).act ≡ o → (acted o file (seen v old.driver)).plan.path ≡ Some p → ActsAll (effects_due Switching o) old.port old.memory new.port new.memory → IsAwaited n new.port
      by_act None is here acts = subst (IsAwaited n) (sym acts.0) (was here)
      by_act (Some a) is here acts = by_leaves a is acts (leaves a file (seen v old.driver).plan p low here)

  unknown_ticked : (did : Bool) → Does old (Ticked did) new → HostUnknown n old → HostUnknown n new
  unknown_ticked did does h = record {
    driver = subst (IsUnknown n) (sym does.driver) (unknown_tick n v (file_shown new.port) old.driver (never_back h) h.driver);
    awaits = subst (λ (d : Driver). Awaits n d.plan.path new.port) (sym does.driver) (awaits_then h (file_shown new.port) (tick_acts old did new does w.sound));
  }

  -- ---- the tick of its flush

  flush_path : (file : TaskFile) → list_any (flushes n) (effects v old.driver) ≡ true → (p : Path) → (after_tick v file old.driver).plan.path ≡ Some p → p.dev ≢ n
  unfolding plan_after
  flush_path file flushed p e = (unless_was n (seen v old.driver).plan.path p (sym (ap (λ (d : Driver). d.plan.path) (cleared v file old.driver n flushed)) ∙ e)).1

  flushed_unknown : (did : Bool) → Does old (Ticked did) new → list_any (flushes n) (effects v old.driver) ≡ true → HostUnknown n new
  flushed_unknown did does flushed = subst (λ (d : Driver). HostUnknown n (record new { driver = d })) (sym does.driver) (record {
    driver = record {
      plan = record {
        device = ap is_trusted (ticks_serve.leaves v (file_shown new.port) old.driver n flushed);
        path = by_path (after_tick v (file_shown new.port) old.driver).plan.path refl;
      };
      entries = λ s e here issued same. ended_not e (ticks_serve.ends v (file_shown new.port) old.driver n s e flushed here same) issued;
    };
    awaits = λ p here dev named asked. absurd (flush_path (file_shown new.port) flushed p here dev);
  })
    where
      by_path : (o : Option Path) → (after_tick v (file_shown new.port) old.driver).plan.path ≡ o → is_reading n o ≡ false
      by_path None is = refl
      by_path (Some p) is = ap (λ (b : Bool). b && is_logging p.stage) (ne_eqb p.dev n (flush_path (file_shown new.port) flushed p is))

      ended_phase : (p : Phase) → has_ended_in p ≡ true → is_issued_in p ≡ true → ⊥
      ended_phase (Ended o) a b = false≢true b
      ended_phase other a b = false≢true a

      ended_not : (e : Entry) → has_ended e.head ≡ true → is_issued e.head ≡ true → ⊥
      ended_not e a b = ended_phase e.head.phase a b

-- ---- each turn

none_taken : (n : ℕ) (entries : List (Option Entry)) (slot : ℕ) (x : Option Entry) → ((e : Entry) → x ≡ Some e → is_issued e.head ≡ false) → NoneIssued n entries → NoneIssued n (set entries slot x)
none_taken n entries slot x new h s e here issued = elim (set_cases entries slot x s e here) [
  | inl at ↦ absurd (true≢false (sym issued ∙ new e at.1))
  | inr beside ↦ h s e beside.1 issued
]

polled : (n : ℕ) (d : Driver) → IsUnknown n d → IsUnknown n (after_poll d)
unfolding after_poll
polled n d h = by_slot (lowest_ended d.entries)
  where
    by_slot : (o : Option ℕ) → IsUnknown n (match_some o d (λ slot. record d { entries = set d.entries slot None }))
    by_slot None = h
    by_slot (Some slot) = record { plan = h.plan; entries = none_taken n d.entries slot None (λ e is. absurd (cc)) h.entries }

path_polled : (d : Driver) → (after_poll d).plan ≡ d.plan
unfolding after_poll
path_polled d = by_slot (lowest_ended d.entries)
  where
    by_slot : (o : Option ℕ) → (match_some o d (λ slot. record d { entries = set d.entries slot None })).plan ≡ d.plan
    by_slot None = refl
    by_slot (Some slot) = refl

same_driver : (n : ℕ) (old new : Host) → new.driver ≡ old.driver → (IsAwaited n old.port → IsAwaited n new.port) → HostUnknown n old → HostUnknown n new
same_driver n old new same goes h = record {
  driver = subst (IsUnknown n) (sym same) h.driver;
  awaits = λ p here dev named asked. goes (h.awaits p (sym (ap (λ (d : Driver). d.plan.path) same) ∙ here) dev named asked);
}

unknown_turn : (n : ℕ) → n < 15 → (old : Host) (t : HostTurn) (new : Host) → Does old t new → IsOnWay old → identifies n old t ≡ false → HostUnknown n old → HostUnknown n new
unknown_turn n below old (Took frame report) new does w none h = same_driver n old new does.driver (awaited_took n old new frame report does none) h
unknown_turn n below old (Pushed frame) new does w none h = same_driver n old new does.driver (awaited_pushed n old new frame does w.sound.ruled.table) h
unknown_turn n below old (Ticked did) new does w none h = unknown_ticked n below old new w did does h
unknown_turn n below old (Submitted dev request ticket) new does w none h = record {
  driver = subst (IsUnknown n) (sym does.taken.driver)
      (record { plan = h.driver.plan; entries = none_taken n old.driver.entries (next_slot old.driver) (Some (new_entry (old.driver.given + 1) dev request)) (λ e is. ap (λ (x : Entry). is_issued x.head) (sym (some_entry _ e is))) h.driver.entries });
  awaits = λ p here d named asked. subst (IsAwaited n) (sym does.port) (h.awaits p (sym (ap (λ (x : Driver). x.plan.path) does.taken.driver) ∙ here) d named asked);
}
  where
    some_entry : (x y : Entry) → Some x ≡ Some y → x ≡ y
    some_entry x y e = cc
unknown_turn n below old (Polled completion) new does w none h = record {
  driver = subst (IsUnknown n) (sym does.driver) (polled n old.driver h.driver);
  awaits = λ p here d named asked. subst (IsAwaited n) (sym does.port)
      (h.awaits p (sym (ap (λ (x : Plan). x.path) (path_polled old.driver)) ∙ sym (ap (λ (x : Driver). x.plan.path) does.driver) ∙ here) d named asked);
}
unknown_turn n below old (Put at bytes) new does w none h = same_driver n old new does.driver (λ a. subst (IsAwaited n) (sym does.port) a) h

pub known_turn : (n : ℕ) → n < 15 → (known : Bool) (old : Host) (t : HostTurn) (new : Host) → Does old t new → IsOnWay old → (known ≡ false → HostUnknown n old) → known_after n known old t ≡ false → HostUnknown n new
known_turn n below known old (Ticked did) new does w h e = by_flush (list_any (flushes n) (effects (sight_in old) old.driver)) refl e
  where
    by_flush : (b : Bool) → list_any (flushes n) (effects (sight_in old) old.driver) ≡ b → (if b then false else known || false) ≡ false → HostUnknown n new
    by_flush true is e = flushed_unknown n below old new w did does is
    by_flush false is e = unknown_ticked n below old new w did does (h (or_parts known false e).0)
known_turn n below known old (Took frame report) new does w h e =
    let both = or_parts known (identifies n old (Took frame report)) e in
    unknown_turn n below old (Took frame report) new does w both.1 (h both.0)
known_turn n below known old other new does w h e = unknown_turn n below old other new does w refl (h (or_parts known false e).0)

-- ---- over turns

known_run : (n : ℕ) → n < 15 → (known : Bool) (old new : Host) (turns : List HostTurn) (run : DoesAll old turns new) → IsOnWay old → (known ≡ false → HostUnknown n old) → known_over n known old new turns run ≡ false → HostUnknown n new
known_run n below known old new [] run w h e = subst (HostUnknown n) (sym run) (h e)
known_run n below known old new (t ∷ turns) run w h e =
    known_run n below (known_after n known old t) run.0 new turns run.2 (way_turn old t run.0 run.1 w) (known_turn n below known old t run.0 run.1 w h) e

way_run : (old new : Host) (turns : List HostTurn) → DoesAll old turns new → IsOnWay old → IsOnWay new
way_run old new [] run w = subst IsOnWay (sym run) w
way_run old new (t ∷ turns) run w = way_run run.0 new turns run.2 (way_turn old t run.0 run.1 w)

absent_at : (count n : ℕ) → is_trusted (get_or (replicate count Absent) n Absent) ≡ false
absent_at zero n = refl
absent_at (suc count) zero = refl
absent_at (suc count) (suc n) = absent_at count n

pub opening_unknown : (given : ℕ) (start : Memory) (n : ℕ) → HostUnknown n (opening_host given start)
opening_unknown given start n = record {
  driver = record { plan = record { device = absent_at 15 n; path = refl }; entries = λ s e here issued. none_here s e here };
  awaits = λ p here dev named asked. absurd (cc);
}

unknown_at : (given : ℕ) (start : Memory) → IsHostMemory start → (turns : List HostTurn) (h : Host) (run : DoesAll (opening_host given start) turns h) (n : ℕ) → n < 15 → known_over n false (opening_host given start) h turns run ≡ false → HostUnknown n h
unknown_at given start size turns h run n below e = known_run n below false (opening_host given start) h turns run (way_opens given start size) (λ none. opening_unknown given start n) e

pub devices_are_known : DevicesAreKnown
devices_are_known = record {
  ready = λ given start size turns h run n below is. true_from_ne_false (known_over n false (opening_host given start) h turns run) (λ e.
      false≢true (sym (unknown_at given start size turns h run n below e).driver.plan.device ∙ ap is_trusted is));
  issued = λ given start size turns h run s e here issued.
      let way : IsOnWay h = way_run (opening_host given start) h turns run (way_opens given start size) in
      let below : e.head.dev < 15 = (way.served.bounded.entries s e here).dev in
      true_from_ne_false (known_over e.head.dev false (opening_host given start) h turns run) (λ x.
      (unknown_at given start size turns h run e.head.dev below x).driver.entries s e here issued refl);
  pushed = λ given start size turns h run frame after does below asks.
      let first : IsOnWay (opening_host given start) = way_opens given start size in
      let way : IsOnWay h = way_run (opening_host given start) h turns run first in
      request_known h after frame way (plain_at given start turns h run first) below asks (λ k. known_over k false (opening_host given start) h turns run ≡ true)
      (λ s e here issued.
      let low : e.head.dev < 15 = (way.served.bounded.entries s e here).dev in
      true_from_ne_false (known_over e.head.dev false (opening_host given start) h turns run) (λ x.
      (unknown_at given start size turns h run e.head.dev low x).driver.entries s e here issued refl)) does;
}

-- For `rested_ports_are_open`. The control port's bit of PxSNTF over each turn of the host: a notification sets it, and nothing but the order
-- to scan clears it.
use Rattle.std.proofs.Common.{◌≡◌, ℕ, zero, suc, ◌+◌, ◌*◌, ◌^◌, ◌<◌, ◌≤◌, ◌==◌, ◌&&◌, ◌||◌, max, Bool, true, false, not, bit_or, if◌then◌else◌, List}
use Rattle.std.proofs.{Common.{[], ◌∷◌, refl, sym, ap, subst, ◌∙◌, inl, inr, Option, Some, None, Ok, arith}, lemmas.Bool.{cases_Bool, eqb-true}}
use Rattle.std.proofs.lemmas.{Bool.{false≢true, true≢false}, Nat.Bits.{bit_at-lt, bit_at-pow_same, bit_at_or}}
use Rattle.std.specs.{Prelude.{is_none, is_some, nat_lt, MatchOption, Result}, Int.bit_at, Option.option_or}
use Rattle.fis_view.specs.{Frames.Stamped, Seen.seen, Table.{Bits, N, field}, declared.{build.H2dFields.H2dFields, view.{Fis.Fis, FisFault.FisFault}}}
use Rattle.fis_view.specs.declared.view.Fis.TheVariants as view
use Rattle.host_memory.specs.Memory.{Memory}
use Rattle.slots.specs.Slots.{has_bit, lowest_below, match_some}
use Rattle.hba_fbs.specs.declared.{error.WriteError.WriteError, hearing.Heard.Heard, register.Register.{Register, TheVariants.Sntf}}
use Rattle.hba_fbs.specs.{declared.{registers.Registers.Registers, report.TakeReport.TakeReport}, Bits.bit, Offsets.register_at, Posting.posted}
use Rattle.hba_fbs.specs.{Posting.signs, Registers.written, Sending.{Gives, Nothing, Outgoing, Unreadable, outgoing}, Taking.{admitted, heard_now}}
use Rattle.hba_fbs.specs.{Taking.{ignores, is_of_transfer, is_running, owns_none, port_of, posted_of, settled}, Views.{Port, view_of}}
use Rattle.hba_fbs.specs.{Writing.{Accepts, write_refusal}, Reading.value_of}
use Rattle.hba_driver.specs.declared.{mode.Mode.{Mode, TheVariants.{CommandBased, Switching}}, order.Order.{Order, TheVariants.AwaitSignature}}
use Rattle.hba_driver.specs.declared.{order.Order.TheVariants.{Clear, Scan, Watch}, path.{Path.Path, Stage.{Stage, TheVariants.AwaitReset}}}
use Rattle.hba_driver.specs.{declared.plan.Plan.Plan, Between.IsGoing, Drivers.{Entry, entry_at}, Effects.{ActsAll, Tries, clearing, effects_of}}
use Rattle.hba_driver.specs.{Effects.{issuing, opening_write, order_effects, restart_write, sending}, Events.IsSoundHost, HostTurns.{Does, Host}}
use Rattle.hba_driver.specs.{HostTurns.{Pushed, Ticked, Took, sight_in}, Modes.{clears_with, enabled}, Orders.{is_queued, order_fields}}
use Rattle.hba_driver.specs.{Paths.stage_fields, Scans.is_scan, Seeing.Sight, Sights.{px_ci, px_clb, px_clbu, px_cmd, px_fb, px_fbs, px_fbu, px_is}}
use Rattle.hba_driver.specs.{Sights.{px_sact, shown, sight_of}, Ticks.{done_ended, effects_due}, Turns.{allowed, control_news, control_seen}}
use Rattle.hba_driver.specs.Turns.{control_turn, device_due, device_of, device_or_request, device_seen, device_turn, early_due, fault_due, is_due}
use Rattle.hba_driver.specs.Turns.{issue_of, may_go_to, may_issue, opening_due, order_allowed, order_due, path_due, plain_turn, request_due}
use Rattle.hba_driver.specs.Turns.{restart_due, stage_due, stage_for, step_of, turn_of}
use Rattle.hba_driver.proofs.Door.{tick_acts}

-- the bit of the control port is set
abbrev pub is_noticed : Host → Bool
is_noticed h = has_bit h.port.registers.notified 15

-- the driver sees it
pub notified_seen : (h : Host) → (sight_in h).notified ≡ is_noticed h
unfolding sight_of shown value_of register_at
notified_seen h = refl

-- ---- a frame is taken

or_bit : (a b : ℕ) → has_bit a 15 ≡ true → has_bit (bit_or a b) 15 ≡ true
or_bit a b is =
    let one : bit_at a 15 ≡ 1 = eqb-true (bit_at a 15) 1 is in
    let small : bit_at b 15 < 2 = bit_at-lt b 15 in
    ap (λ (k : ℕ). k == 1) (bit_at_or a b 15 ∙ ap (λ (k : ℕ). max k (bit_at b 15)) one ∙ most (bit_at b 15) small)
  where
    most : (k : ℕ) → k < 2 → max 1 k ≡ 1
    most k small = omega (arith, small)

or_set : (a : ℕ) → has_bit (bit_or a (2 ^ 15)) 15 ≡ true
or_set a =
    let small : bit_at a 15 < 2 = bit_at-lt a 15 in
    ap (λ (k : ℕ). k == 1) (bit_at_or a (2 ^ 15) 15 ∙ ap (λ (k : ℕ). max (bit_at a 15) k) (bit_at-pow_same 15) ∙ most (bit_at a 15) small)
  where
    most : (k : ℕ) → k < 2 → max k 1 ≡ 1
    most k small = omega (arith, small)

-- it stays when a FIS is posted
posted_stays : (r : Registers) (dev : ℕ) (b : Bool) (fis : Option Fis) (h : Heard) → has_bit r.notified 15 ≡ true → has_bit (settled (posted_of r dev b fis) h).notified 15 ≡ true
unfolding posted settled
posted_stays r dev b (Some (view.SetBits f)) h is = or_bit r.notified (bit dev (field Bits N f == 1)) is
posted_stays r dev b other h is = is

-- a notification sets it
posted_sets : (r : Registers) (b : Bool) (f : List ℕ) (h : Heard) → field Bits N f ≡ 1 → has_bit (settled (posted_of r 15 b (Some (view.SetBits f))) h).notified 15 ≡ true
unfolding posted settled
posted_sets r b f h notes = ap (λ (k : ℕ). has_bit (bit_or r.notified (bit 15 (k == 1))) 15) notes ∙ or_set r.notified

module _ (old new : Host) (frame : List ℕ) (report : TakeReport) (does : Does old (Took frame report) new) where
  pub took_noticed : is_noticed old ≡ true → is_noticed new ≡ true
  took_noticed is = elim (cases_Bool (ignores (port_of frame) old.port frame)) [
    | inl skips ↦ ap (λ (p : Port). has_bit p.registers.notified 15) (does.ignored skips).port ∙ is
    | inr hears ↦
        ap (λ (r : Registers). has_bit r.notified 15) (does.heard hears).registers
        ∙ posted_stays old.port.registers (port_of frame) (view_of (port_of frame) old.port).state.resetting (admitted (port_of frame) (seen frame)) (heard_now old.port old.memory (port_of frame) (admitted (port_of frame) (seen frame))) is
  ]

  -- a notification of the control port that is heard
  module _ (own : port_of frame ≡ 15) (viewed : seen frame ≡ Ok (view.SetBits frame)) (notes : field Bits N frame ≡ 1) where
    read : (dev : ℕ) → dev ≡ 15 → (fis : Result Fis FisFault) → fis ≡ Ok (view.SetBits frame) → (b : Bool) (h : Heard) → has_bit (settled (posted_of old.port.registers dev b (admitted dev fis)) h).notified 15 ≡ true
    read dev is fis e b h =
        subst (λ (n : ℕ). has_bit (settled (posted_of old.port.registers n b (admitted n fis)) h).notified 15 ≡ true) (sym is)
        (subst (λ (x : Result Fis FisFault). has_bit (settled (posted_of old.port.registers 15 b (admitted 15 x)) h).notified 15 ≡ true) (sym e) (posted_sets old.port.registers b frame h notes))

    pub took_notice : ignores (port_of frame) old.port frame ≡ false → is_noticed new ≡ true
    took_notice hears =
        ap (λ (r : Registers). has_bit r.notified 15) (does.heard hears).registers
        ∙ read (port_of frame) own (seen frame) viewed (view_of (port_of frame) old.port).state.resetting (heard_now old.port old.memory (port_of frame) (admitted (port_of frame) (seen frame)))

-- what the control port sends is heard while the port runs, the control port has no fault, and no software reset of it is under way
pub control_heard : (h : Host) (frame : List ℕ) → port_of frame ≡ 15 → is_running h.port ≡ true → is_some (view_of 15 h.port).fault ≡ false → (view_of 15 h.port).state.resetting ≡ false
    → ignores (port_of frame) h.port frame ≡ false
control_heard h frame own runs well calm =
    subst (λ (n : ℕ). ignores n h.port frame ≡ false) (sym own)
    (by_tests h.port.registers.switching (is_of_transfer (seen frame)) (owns_none (view_of 15 h.port).slots) (is_running h.port) (is_some (view_of 15 h.port).fault) (view_of 15 h.port).state.resetting (signs (seen frame)) runs well calm)
  where
    by_tests : (switching transfer none running fault resetting signed : Bool) → running ≡ true → fault ≡ false → resetting ≡ false
        → (not switching && not (15 == 15) && transfer && none || (not running || fault || (resetting && not signed))) ≡ false
    by_tests true transfer none true false false signed x y z = refl
    by_tests false transfer none true false false signed x y z = refl
    by_tests switching transfer none false fault resetting signed x y z = absurd (false≢true x)
    by_tests switching transfer none true true resetting signed x y z = absurd (true≢false y)
    by_tests switching transfer none true false true signed x y z = absurd (true≢false z)

-- the port runs once it is open
pub going_runs : (h : Host) → IsGoing h → 7 ≤ h.driver.plan.opened → is_running h.port ≡ true
going_runs h g least =
    let done : 2 ≤ h.driver.plan.restarted = omega (arith, g.up) in
    ap (λ (b : Bool). b && is_none h.port.errors.port) (g.way.sound.registers.starts least done) ∙ ap is_none g.calm.faultless

-- ---- a frame is given

gives_same : (o : Outgoing) (old : Port) (memory : Memory) (frame : Option Stamped) (new : Port) → Gives o old memory frame new → new.registers.notified ≡ old.registers.notified
gives_same Nothing old memory frame new gives = ap (λ (p : Port). p.registers.notified) gives.1
gives_same (Unreadable dev) old memory frame new gives = ap (λ (p : Port). p.registers.notified) gives.1
gives_same other old memory None new gives = absurd gives
gives_same rest old memory (Some f) new gives = ap (λ (r : Registers). r.notified) gives.registers

pub pushed_noticed : (old new : Host) (frame : Option Stamped) → Does old (Pushed frame) new → is_noticed new ≡ is_noticed old
pushed_noticed old new frame does = ap (λ (k : ℕ). has_bit k 15) (gives_same (outgoing old.port old.memory) old.port old.memory frame new.port does.gives)

-- ---- a tick

-- the register is another one
abbrev leaves_at : Option Register → Bool
leaves_at (Some Sntf) = false
leaves_at other = true

written_same : (register : Register) (r : Registers) (value : ℕ) → leaves_at (Some register) ≡ true → (written register r value).notified ≡ r.notified
unfolding written
written_same Sntf r value is = absurd (false≢true is)
written_same other r value is = refl

tried_same : (o : Option Register) (offset value : ℕ) (old : Port) (memory : Memory) (new : Port) → register_at offset ≡ o → leaves_at o ≡ true → Tries old memory offset value new → new.registers.notified ≡ old.registers.notified
tried_same o offset value old memory new at is tries = by_refusal (write_refusal old memory offset value) refl
  where
    accepted : (p : Option Register) → leaves_at p ≡ true → MatchOption p ⊥ (λ register. Accepts old memory register value new) → new.registers.notified ≡ old.registers.notified
    accepted None free accepts = absurd accepts
    accepted (Some register) free accepts = ap (λ (r : Registers). r.notified) accepts.registers ∙ written_same register old.registers value free

    by_refusal : (e : Option WriteError) → write_refusal old memory offset value ≡ e → new.registers.notified ≡ old.registers.notified
    by_refusal None none = accepted o is (subst (λ (p : Option Register). MatchOption p ⊥ (λ register. Accepts old memory register value new)) at (tries.accepted none))
    by_refusal (Some e) some = ap (λ (p : Port). p.registers.notified) (tries.refused e some)

port_same : (old new : Port) → new ≡ old → new.registers.notified ≡ old.registers.notified
port_same old new same = ap (λ (p : Port). p.registers.notified) same

module _ (old new : Port) (before after : Memory) where
  abbrev Same : Type 0
  Same = new.registers.notified ≡ old.registers.notified

  -- one write
  opens_same : (k : ℕ) → ActsAll (opening_write Switching k ∷ []) old before new after → Same
  unfolding ActsAll opening_write register_at
  opens_same zero acts = port_same acts.0 new acts.4.0 ∙ tried_same (register_at px_clb) px_clb 0 old before acts.0 refl refl acts.2.0
  opens_same (suc zero) acts = port_same acts.0 new acts.4.0 ∙ tried_same (register_at px_clbu) px_clbu 0 old before acts.0 refl refl acts.2.0
  opens_same (suc (suc zero)) acts = port_same acts.0 new acts.4.0 ∙ tried_same (register_at px_fb) px_fb 0x1000 old before acts.0 refl refl acts.2.0
  opens_same (suc (suc (suc zero))) acts = port_same acts.0 new acts.4.0 ∙ tried_same (register_at px_fbu) px_fbu 0 old before acts.0 refl refl acts.2.0
  opens_same (suc (suc (suc (suc zero)))) acts = port_same acts.0 new acts.4.0 ∙ tried_same (register_at px_fbs) px_fbs (enabled Switching) old before acts.0 refl refl acts.2.0
  opens_same (suc (suc (suc (suc (suc zero))))) acts = port_same acts.0 new acts.4.0 ∙ tried_same (register_at px_cmd) px_cmd 0x10 old before acts.0 refl refl acts.2.0
  opens_same (suc (suc (suc (suc (suc (suc zero)))))) acts = port_same acts.0 new acts.4.0 ∙ tried_same (register_at px_cmd) px_cmd 0x20011 old before acts.0 refl refl acts.2.0
  opens_same (suc (suc (suc (suc (suc (suc (suc k))))))) acts = port_same acts.0 new acts.4.0 ∙ tried_same (register_at px_cmd) px_cmd 0x20011 old before acts.0 refl refl acts.2.0

  restarts_same : (k : ℕ) → ActsAll (restart_write k ∷ []) old before new after → Same
  unfolding ActsAll restart_write register_at
  restarts_same zero acts = port_same acts.0 new acts.4.0 ∙ tried_same (register_at px_is) px_is 0xFFFFFFFF old before acts.0 refl refl acts.2.0
  restarts_same (suc zero) acts = port_same acts.0 new acts.4.0 ∙ tried_same (register_at px_cmd) px_cmd 0x20011 old before acts.0 refl refl acts.2.0
  restarts_same (suc (suc k)) acts = port_same acts.0 new acts.4.0 ∙ tried_same (register_at px_cmd) px_cmd 0x20011 old before acts.0 refl refl acts.2.0

  clearing_same : (dev : ℕ) → ActsAll (clearing Switching dev) old before new after → Same
  unfolding ActsAll register_at
  clearing_same dev acts =
      port_same acts.4.0 new acts.4.4.0 ∙ tried_same (register_at px_fbs) px_fbs (256 * dev + clears_with Switching) acts.0 acts.1 acts.4.0 refl refl acts.4.2.0
      ∙ tried_same (register_at px_is) px_is 0x49000000 old before acts.0 refl refl acts.2.0

  -- a command that is issued
  issuing_same : (slot dev : ℕ) (queued : Bool) → ActsAll (issuing Switching slot dev queued) old before new after → Same
  unfolding ActsAll register_at
  issuing_same slot dev true acts =
      port_same acts.4.4.0 new acts.4.4.4.0 ∙ tried_same (register_at px_ci) px_ci (2 ^ slot) acts.4.0 acts.4.1 acts.4.4.0 refl refl acts.4.4.2.0
      ∙ tried_same (register_at px_sact) px_sact (2 ^ slot) acts.0 acts.1 acts.4.0 refl refl acts.4.2.0 ∙ tried_same (register_at px_fbs) px_fbs (256 * dev + 1) old before acts.0 refl refl acts.2.0
  issuing_same slot dev false acts =
      port_same acts.4.0 new acts.4.4.0 ∙ tried_same (register_at px_ci) px_ci (2 ^ slot) acts.0 acts.1 acts.4.0 refl refl acts.4.2.0
      ∙ tried_same (register_at px_fbs) px_fbs (256 * dev + 1) old before acts.0 refl refl acts.2.0

sending_same : (slot dev : ℕ) (fields : H2dFields) (buffer : Bool) (old new : Port) (before after : Memory) → ActsAll (sending Switching slot dev fields buffer) old before new after
    → new.registers.notified ≡ old.registers.notified
unfolding ActsAll
sending_same slot dev fields buffer old new before after acts = issuing_same acts.0 new acts.1 after slot dev false acts.4 ∙ port_same old acts.0 acts.2.0

-- ---- what is due

module _ (old new : Port) (before after : Memory) where
  abbrev Stays : Type 0
  Stays = new.registers.notified ≡ old.registers.notified

  none_leaves : ActsAll (effects_due Switching None) old before new after → Stays
  unfolding ActsAll
  none_leaves acts = port_same old new acts.0

  either_leaves : (b : Bool) (x y : Option _) → (ActsAll (effects_due Switching x) old before new after → Stays) → (ActsAll (effects_due Switching y) old before new after → Stays)
      → ActsAll (effects_due Switching (if b then x else y)) old before new after → Stays
  either_leaves true x y h k = h
  either_leaves false x y h k = k

  or_leaves : (x y : Option _) → (ActsAll (effects_due Switching x) old before new after → Stays) → (ActsAll (effects_due Switching y) old before new after → Stays)
      → ActsAll (effects_due Switching (option_or x y)) old before new after → Stays
  or_leaves None y h k = k
  or_leaves (Some a) y h k = h

  match_leaves : {A : Type 0} (o : Option A) (x : Option _) (f : A → Option _) → (ActsAll (effects_due Switching x) old before new after → Stays) → ((a : A) → ActsAll (effects_due Switching (f a)) old before new after → Stays)
      → ActsAll (effects_due Switching (match_some o x f)) old before new after → Stays
  match_leaves None x f h k = h
  match_leaves (Some a) x f h k = k a

  allowed_leaves : (mode : Mode) (v : Sight) (plan : Plan) (entries : List (Option Entry)) (x : Option _) → (ActsAll (effects_due Switching x) old before new after → Stays)
      → ActsAll (effects_due Switching (allowed mode v plan entries x)) old before new after → Stays
  allowed_leaves Switching v plan entries x h = h
  allowed_leaves CommandBased v plan entries None h = none_leaves
  allowed_leaves CommandBased v plan entries (Some a) h = either_leaves (may_go_to v plan entries (device_of a)) (Some a) None h none_leaves

  -- what comes before everything else
  fault_leaves : (v : Sight) (stopped : Bool) (faulty : Option ℕ) → ActsAll (effects_due Switching (fault_due (record v { stopped = stopped; faulty = faulty }))) old before new after → Stays
  unfolding effects_of ActsAll register_at
  fault_leaves v true faulty acts = port_same acts.0 new acts.4.0 ∙ tried_same (register_at px_cmd) px_cmd 0x20010 old before acts.0 refl refl acts.2.0
  fault_leaves v false None acts = none_leaves acts
  fault_leaves v false (Some dev) acts = clearing_same old new before after dev acts

  early_leaves : (v : Sight) (plan : Plan) → ActsAll (effects_due Switching (early_due v plan)) old before new after → Stays
  unfolding early_due effects_of
  early_leaves v plan =
      or_leaves (opening_due plan) (option_or (restart_due plan) (fault_due v)) (either_leaves (nat_lt plan.opened 7) _ None (λ acts. opens_same old new before after plan.opened acts) none_leaves)
      (or_leaves (restart_due plan) (fault_due v) (either_leaves (nat_lt plan.restarted 2) _ None (λ acts. restarts_same old new before after plan.restarted acts) none_leaves) (fault_leaves v v.stopped v.faulty))

  -- an order, unless it is to scan
  order_leaves : (plan : Plan) (o : Order) (asked : Bool) → (asked ≡ false → is_scan o ≡ false) → ActsAll (effects_due Switching (order_due (record plan { order = o; asked = asked }))) old before new after → Stays
  unfolding order_fields effects_of order_effects ActsAll
  order_leaves plan o true other acts = none_leaves acts
  order_leaves plan Scan false other acts = absurd (true≢false (other refl))
  order_leaves plan (Clear port) false other acts =
      sending_same 31 15 _ false acts.4.0 new acts.4.1 after acts.4.4 ∙ port_same acts.0 acts.4.0 acts.4.2.0 ∙ ap (λ (r : Registers). r.notified) acts.2.0.registers
  order_leaves plan AwaitSignature false other acts = none_leaves acts
  order_leaves plan Watch false other acts = none_leaves acts
  order_leaves plan o false other acts = sending_same 31 15 _ false old new before after acts

  -- a step for a device
  step_leaves : (dev : ℕ) (stage : Stage) → ActsAll (effects_due Switching (step_of dev stage)) old before new after → Stays
  unfolding stage_fields effects_of
  step_leaves dev AwaitReset acts = none_leaves acts
  step_leaves dev stage acts = sending_same 30 dev _ _ old new before after acts

  path_leaves : (path : Path) → ActsAll (effects_due Switching (path_due path)) old before new after → Stays
  path_leaves path = either_leaves path.asked None (step_of path.dev path.stage) none_leaves (step_leaves path.dev path.stage)

  device_leaves : (v : Sight) (plan : Plan) → ActsAll (effects_due Switching (device_due v plan)) old before new after → Stays
  unfolding device_due
  device_leaves v plan =
      match_leaves plan.path (match_some (lowest_below (is_due v plan) 15) None (stage_due v plan)) path_due
      (match_leaves (lowest_below (is_due v plan) 15) None (stage_due v plan) none_leaves (λ dev. match_leaves (stage_for v plan dev) None (step_of dev) none_leaves (step_leaves dev))) path_leaves

  -- a request
  issue_leaves : (slot : ℕ) (o : Option Entry) → ActsAll (effects_due Switching (issue_of slot o)) old before new after → Stays
  unfolding effects_of
  issue_leaves slot None acts = none_leaves acts
  issue_leaves slot (Some entry) acts = issuing_same old new before after slot entry.head.dev (is_queued entry.head.work) acts

  request_leaves : (plan : Plan) (entries : List (Option Entry)) → ActsAll (effects_due Switching (request_due plan entries)) old before new after → Stays
  unfolding request_due
  request_leaves plan entries =
      match_leaves (lowest_below (λ slot. may_issue plan (entry_at entries slot)) 30) None (λ slot. issue_of slot (entry_at entries slot)) none_leaves (λ slot. issue_leaves slot (entry_at entries slot))

  rest_leaves : (v : Sight) (plan : Plan) (entries : List (Option Entry)) → ActsAll (effects_due Switching (device_or_request v plan entries)) old before new after → Stays
  rest_leaves v plan entries =
      or_leaves (allowed plan.mode v plan entries (device_due v plan)) (allowed plan.mode v plan entries (request_due plan entries))
      (allowed_leaves plan.mode v plan entries (device_due v plan) (device_leaves v plan)) (allowed_leaves plan.mode v plan entries (request_due plan entries) (request_leaves plan entries))

  -- nothing comes before the order
  turn_leaves : (v : Sight) (p : Plan) (entries : List (Option Entry)) → (is_some (early_due v p) ≡ false → (control_seen v p).asked ≡ false → is_scan (control_seen v p).order ≡ false)
      → ActsAll (effects_due Switching (turn_of v p entries).act) old before new after → Stays
  unfolding turn_of
  turn_leaves v p entries other = by_early (is_some (early_due v p)) refl
    where
      by_order : (b : Bool) → is_some (early_due v p) ≡ false
          → ActsAll (effects_due Switching (if b then plain_turn (control_seen v p) (order_allowed v (control_seen v p) entries) (control_news v p) else device_turn v (control_news v p) (control_seen v p) entries).act) old before new after → Stays
      by_order true none =
          allowed_leaves (control_seen v p).mode v (control_seen v p) entries (order_due (control_seen v p)) (order_leaves (control_seen v p) (control_seen v p).order (control_seen v p).asked (other none))
      by_order false none = rest_leaves v (device_seen v (control_seen v p)) entries

      by_early : (b : Bool) → is_some (early_due v p) ≡ b
          → ActsAll (effects_due Switching (if b then plain_turn p (early_due v p) false else control_turn v (control_news v p) (control_seen v p) entries).act) old before new after → Stays
      by_early true some = early_leaves v p
      by_early false none = by_order (is_some (order_allowed v (control_seen v p) entries)) none

-- the tick orders a scan
abbrev pub orders_scan : Host → Bool
orders_scan h = not (is_some (early_due (sight_in h) h.driver.plan)) && (not (control_seen (sight_in h) h.driver.plan).asked && is_scan (control_seen (sight_in h) h.driver.plan).order)

pub ticked_noticed : (old : Host) (acted : Bool) (new : Host) → Does old (Ticked acted) new → IsSoundHost old → orders_scan old ≡ false → is_noticed new ≡ is_noticed old
ticked_noticed old acted new does sound other =
    let v : Sight = sight_in old in
    let p : Plan = old.driver.plan in
    ap (λ (k : ℕ). has_bit k 15)
    (turn_leaves old.port new.port old.memory new.memory v p (done_ended v.issued old.driver.entries)
    (λ none unasked. by_tests (is_some (early_due v p)) (control_seen v p).asked (is_scan (control_seen v p).order) none unasked other) (tick_acts old acted new does sound))
  where
    by_tests : (early asked scan : Bool) → early ≡ false → asked ≡ false → (not early && (not asked && scan)) ≡ false → scan ≡ false
    by_tests false false scan x y is = is
    by_tests true asked scan x y is = absurd (true≢false x)
    by_tests false true scan x y is = absurd (true≢false y)

-- For `writes_are_accepted`. The port takes every write of a tick.
use Rattle.std.proofs.Common.{◌≡◌, ℕ, ◌+◌, ◌*◌, ◌<◌, ◌≤◌, Bool, true, false, ◌&&◌, nat_lt, List, [], ◌∷◌, length, replicate, refl, sym, ◌∙◌, ap}
use Rattle.std.proofs.{Common.{subst, inl, inr, arith, Option, Some, None}, lemmas.Bool.{cases_Bool, cases_eq, cases_lt, false≢true, le-ltb}}
use Rattle.std.proofs.lemmas.{Bool.{or_parts, true≢false, Decides.nat_tests}, List.{get_or-replicate, get_or_past, length-replicate}}
use Rattle.std.specs.{Prelude.{◌||◌, ◌==◌, ◌%◌, if◌then◌else◌, is_some, not}, List.list_any}
use Rattle.fis_view.specs.declared.build.H2dFields.{H2dFields}
use Rattle.host_memory.specs.{Memory.{IsHostMemory, Memory}, Place.total_of}
use Rattle.hba_commands.specs.{Commands.is_proper, Requests.{request_of, work_of}, Writing.{header_for, total_if_usable}}
use Rattle.slots.specs.{Table.IsTable, Slots.{Issue, has_bit, issue_at, match_some, no_own_slots, own_issue}}
use Rattle.hba_fbs.specs.{declared.{register.Register.TheVariants.{Is, Cmd, Fbs}, registers.Registers.Registers}, Offsets.register_at}
use Rattle.hba_fbs.specs.{Registers.{falls, own_refusal, written}, Views.{DeviceView, Flushes, Port}, Sending.outgoing, Writing.Accepts}
use Rattle.hba_fbs.specs.Writing.{slots_refusal, write_refusal}
use Rattle.hba_laws.specs.{Client.{Touches, own}, Delivering.touches_after, History.{Transfer, issued}}
use Rattle.hba_laws.proofs.Door.{some_inj}
use Rattle.hba_driver.specs.declared.{effect.Effect.Effect, mode.Mode.{Mode, TheVariants.{Switching, CommandBased}}, order.Order.Order}
use Rattle.hba_driver.specs.declared.{order.Order.TheVariants.{AwaitSignature, Scan, Clear, Watch}, path.{Path.Path, Stage.Stage}}
use Rattle.hba_driver.specs.declared.path.Stage.TheVariants.{Identify, ReadLog, AssertReset, ReleaseReset, AwaitReset}
use Rattle.hba_driver.specs.{declared.{request.Outcome.TheVariants.Done, slot.Phase.TheVariants.Ended, turn.Act.Act}, Seeing.Sight}
use Rattle.hba_driver.specs.{Accepted.{AreAccepted, TurnAccepts, TurnsAccept, WritesAreAccepted}, Drivers.{holds as entry_holds, Driver, Entry}}
use Rattle.hba_driver.specs.{Drivers.{entry_at, is_issued, rephase, rephased}, Effects.{ActsAll, IsRuled, buffer_prd, clearing, effects_of, issuing}}
use Rattle.hba_driver.specs.{Effects.{opening_write, order_effects, prds_with, restart_write, sending, stage_effects, table_of}, Events.AreDriven}
use Rattle.hba_driver.specs.{Events.{IsSoundHostIn, events_over, opening_host_in, shared_by}, HostTurns.{Does, DoesAll, Host, HostTurn, Took, Pushed}}
use Rattle.hba_driver.specs.{HostTurns.{Ticked, sight_in}, Orders.{control, control_port, identify_fields, is_queued, log_fields, order_fields}}
use Rattle.hba_driver.specs.{Orders.request_fields, Paths.stage_fields, Served.{IsServed, RunServes}, Sights.{file_shown, px_cmd, px_fbs}}
use Rattle.hba_driver.specs.{Ticks.{done_ended, due, effects, effects_due, is_done, seen, turn}, Turns.{control_beside, device_of}}
use Rattle.hba_driver.specs.{Turns.{is_issued_of_other, may_go, may_go_to, path_beside}, Between.{AreFit, Due, From, IsFit, IsFree, IsIssuedAt}}
use Rattle.hba_driver.specs.Between.{IsOnWayIn, IsUpIn, MayEnd, Runs, Waiting, beside}
use Rattle.hba_driver.specs.declared.effect.Effect.TheVariants as effect
use Rattle.hba_driver.specs.declared.turn.Act.TheVariants as act
use Rattle.hba_driver.proofs.{events.DrivenLemmas.{not_below, tick_is}, ticks.DueLemmas.{MayGo, PlanGoes, goes_turn, runs_then, turn_alone}}
use Rattle.hba_driver.proofs.{issued.EndingLemmas.{clear_taken, is_accepted, stop_taken}, events.EventLemmas.sound_beside}
use Rattle.hba_driver.proofs.{accepted.FitLemmas.{fit_rephased, fit_turn}, requests.HistoryLemmas.back_of, issued.IssueLemmas.told_of}
use Rattle.hba_driver.proofs.{issued.IssuingLemmas.slot_of_issue, ticks.LifeLemmas.{due_seen, entry_of_rephased, keeps_seen, length_of_rephased}}
use Rattle.hba_driver.proofs.{events.OpenLemmas.{opens_taken, restart_taken, stays_gives, stays_took, up_of, zero_either}, issued.ServedLemmas.bit_on}
use Rattle.hba_driver.proofs.issued.{ServedLemmas.{may_end_in, not_done, seen_served, turns_serve}, ServingLemmas.not_busy}
use Rattle.hba_driver.proofs.{events.SoundLemmas.{hosts_stay_sound, sound_turn}, issued.TickingLemmas.{else_entry, free_order, free_slot, not_both}}
use Rattle.hba_driver.proofs.{issued.TickingLemmas.{request_port, step_dev}, calls.SubmitLemmas.none_conflict, accepted.UpLemmas.{Issues, MayAim}}
use Rattle.hba_driver.proofs.accepted.UpLemmas.{Placed, alone_by, free_by, issuing_taken, same_alone, same_free, sntf_step}

-- ---- what an act leaves, if the port takes it

pub record Taken (es : List Effect) (old : Port) (before : Memory) (new : Port) (after : Memory) (acts : ActsAll es old before new after) : Type 0 where
  pub accepted : AreAccepted es old before new after acts
  pub unarmed : new.registers.armed ≡ 0

none_taken : (old new : Port) (before after : Memory) (acts : ActsAll [] old before new after) → old.registers.armed ≡ 0 → Taken [] old before new after acts
unfolding ActsAll AreAccepted
none_taken old new before after acts none = record { accepted = tt; unarmed = ap (λ (p : Port). p.registers.armed) acts.0 ∙ none }

-- without FIS-based switching nothing is issued for another device
abbrev pub Alone : Mode → ℕ → Port → Type 0
Alone mode dev port = mode ≡ CommandBased → MayAim CommandBased dev port

no_alone : {P : Type 0} → Switching ≡ CommandBased → P
no_alone h = cc

-- the same for the device for which an act issues a command
abbrev AloneTo : Mode → Option ℕ → Port → Type 0
AloneTo mode None port = Unit {0}
AloneTo mode (Some dev) port = Alone mode dev port

abbrev pub AloneFor : Mode → Option Act → Port → Type 0
AloneFor mode None port = Unit {0}
AloneFor mode (Some a) port = AloneTo mode (device_of a) port

-- a command of the driver's own
sending_taken : (mode : Mode) (slot dev : ℕ) (fields : H2dFields) (buffer : Bool) (old new : Port) (before after : Memory) → slot < 32 → dev < 16 → IsUpIn mode old.registers → IsTable old.slots → Alone mode dev old → old.registers.armed ≡ 0 → issue_at old.slots slot ≡ None
    → (request_of fields).pm_port ≡ dev → total_if_usable (length before.client) (prds_with buffer) ≡ Some (total_of (prds_with buffer)) → length (prds_with buffer) ≤ 248
    → is_proper (header_for (request_of fields) (table_of slot) (length (prds_with buffer))) (request_of fields) (total_of (prds_with buffer)) slot false ≡ true
    → (acts : ActsAll (sending mode slot dev fields buffer) old before new after) → Taken (sending mode slot dev fields buffer) old before new after acts
unfolding ActsAll AreAccepted
sending_taken mode slot dev fields buffer old new before after below dev_below up table may none free to usable few proper acts =
    let w = acts.2.1.structure in
    let placed : Placed slot dev (prds_with buffer) fields false acts.1 = record {
      header = w.header;
      to_dev = to;
      request_is = w.request;
      total = w.total (length acts.1.client) ∙ ap (λ (c : List ℕ). total_if_usable (length c) (prds_with buffer)) acts.2.1.client ∙ usable;
      few = few;
      proper = proper;
    } in
    let i : Issues mode slot dev false fields acts.0 acts.1 new after acts.4 =
    issuing_taken mode slot dev false (prds_with buffer) fields acts.0 new acts.1 after below dev_below (subst (λ (p : Port). IsUpIn mode p.registers) (sym acts.2.0) up)
    acts.3.table (λ is. subst (λ (p : Port). MayAim CommandBased dev p) (sym acts.2.0) (may is))
    (ap (λ (p : Port). p.registers.armed) acts.2.0 ∙ none) (ap (λ (p : Port). issue_at p.slots slot) acts.2.0 ∙ free) placed acts.4 in
    record { accepted = (tt, i.accepted); unarmed = i.unarmed }

-- ---- orders

-- an order is a proper command in slot 31, to the control port
record IsOrderly (f : H2dFields) : Type 0 where
  pub to : f.pm_port ≡ 15
  pub proper : is_proper (header_for (request_of f) (table_of 31) 0) (request_of f) 0 31 false ≡ true

orderly_by : (g f : H2dFields) → IsOrderly g → Some g ≡ Some f → IsOrderly f
orderly_by g f h is = subst IsOrderly (some_inj g f is) h

orderly_none : (f : H2dFields) → None ≡ Some f → IsOrderly f
orderly_none f h = cc

orderly : (order : Order) (f : H2dFields) → order_fields order ≡ Some f → IsOrderly f
unfolding order_fields is_proper work_of
orderly AwaitSignature f h = orderly_none f h
orderly Watch f h = orderly_none f h
orderly other f h = orderly_by _ f (record { to = refl; proper = refl }) h

abbrev command_effects : Mode → Option H2dFields → List Effect
command_effects mode o = match_some o [] (λ f. sending mode 31 control_port f false)

command_taken : (mode : Mode) (o : Option H2dFields) (old new : Port) (before after : Memory) → ((f : H2dFields) → o ≡ Some f → IsOrderly f) → IsUpIn mode old.registers → IsTable old.slots → Alone mode control_port old → old.registers.armed ≡ 0 → issue_at old.slots 31 ≡ None
    → (acts : ActsAll (command_effects mode o) old before new after) → Taken (command_effects mode o) old before new after acts
command_taken mode None old new before after is up table may none free acts = none_taken old new before after acts none
command_taken mode (Some f) old new before after is up table may none free acts =
    sending_taken mode 31 control_port f false old new before after (omega arith) (omega arith) up table may none free (ap (λ (k : ℕ). k % 16) (is f refl).to) refl (omega arith) (is f refl).proper acts

no_issue : (s : ℕ) (i : Issue) {P : Type 0} → own_issue no_own_slots s ≡ Some i → P
no_issue s i h = elim (cases_lt s 32) [
  | inl less ↦ none_some (sym (get_or-replicate 32 s None None less) ∙ h)
  | inr least ↦ none_some (sym (get_or_past (replicate 32 None) s None (rw (length-replicate {A = Option Issue} 32 None) least)) ∙ h)
]
  where
    none_some : {Q : Type 0} → None ≡ Some i → Q
    none_some h = cc

-- a flush issues nothing
pub flushed_before : (old new : Port) (dev n s : ℕ) (i : Issue) → Flushes old dev new → IsIssuedAt new n s i → IsIssuedAt old n s i
flushed_before old new dev n s i h here = elim (cases_eq n dev) [
  | inl same ↦ no_issue s i (ap (λ (v : DeviceView). own_issue v.slots s) (sym h.own) ∙ subst (λ (k : ℕ). IsIssuedAt new k s i) same here)
  | inr other ↦ ap (λ (v : DeviceView). own_issue v.slots s) (sym (h.others n other)) ∙ here
]

flushed_alone : (old new : Port) (port dev : ℕ) → IsTable new.slots → Flushes old port new → ((s : ℕ) (i : Issue) → issue_at old.slots s ≡ Some i → i.dev ≡ dev)
    → (s : ℕ) (i : Issue) → issue_at new.slots s ≡ Some i → i.dev ≡ dev
flushed_alone old new port dev table flushed alone s i here = alone_by old new dev table (λ n s i below here. flushed_before old new port n s i flushed here) alone s i here

order_taken : (mode : Mode) (order : Order) (old new : Port) (before after : Memory) → IsUpIn mode old.registers → IsTable old.slots → Alone mode control_port old → old.registers.armed ≡ 0 → issue_at old.slots 31 ≡ None → (acts : ActsAll (order_effects mode order) old before new after)
    → Taken (order_effects mode order) old before new after acts
unfolding ActsAll AreAccepted order_effects
order_taken mode Scan old new before after up table may none free acts =
    let s = sntf_step old acts.0 before acts.1 up acts.2 in
    let c : Taken (command_effects mode (order_fields Scan)) acts.0 acts.1 new after acts.4 =
    command_taken mode (order_fields Scan) acts.0 new acts.1 after (orderly Scan) s.0.up acts.3.table (λ is. same_alone old acts.0 control_port acts.3.table s.0.views (may is)) (s.1 ∙ none) (same_free old acts.0 31 acts.3.table s.0.views free) acts.4 in
    record { accepted = (s.0.accepted, c.accepted); unarmed = c.unarmed }
order_taken Switching (Clear port) old new before after up table may none free acts =
    let flushed : Flushes old port acts.0 = acts.2.0 in
    let next : acts.4.0 ≡ acts.0 = acts.4.2.0 in
    let free1 : issue_at acts.0.slots 31 ≡ None = free_by old acts.0 31 acts.3.table (λ n i below here. flushed_before old acts.0 port n 31 i flushed here) free in
    let up1 : IsUpIn Switching acts.0.registers = subst (IsUpIn Switching) (sym flushed.registers) up in
    let none1 : acts.0.registers.armed ≡ 0 = ap (λ (r : Registers). r.armed) flushed.registers ∙ none in
    let c : Taken (command_effects Switching (order_fields (Clear port))) acts.4.0 acts.4.1 new after acts.4.4 =
    command_taken Switching (order_fields (Clear port)) acts.4.0 new acts.4.1 after (orderly (Clear port)) (subst (λ (p : Port). IsUpIn Switching p.registers) (sym next) up1) acts.4.3.table (λ is. no_alone is)
    (ap (λ (p : Port). p.registers.armed) next ∙ none1) (ap (λ (p : Port). issue_at p.slots 31) next ∙ free1) acts.4.4 in
    record { accepted = (tt, (tt, c.accepted)); unarmed = c.unarmed }
order_taken CommandBased (Clear port) old new before after up table may none free acts =
    let flushed : Flushes old port acts.0 = acts.2.0 in
    let free1 : issue_at acts.0.slots 31 ≡ None = free_by old acts.0 31 acts.3.table (λ n i below here. flushed_before old acts.0 port n 31 i flushed here) free in
    let up1 : IsUpIn CommandBased acts.0.registers = subst (IsUpIn CommandBased) (sym flushed.registers) up in
    let none1 : acts.0.registers.armed ≡ 0 = ap (λ (r : Registers). r.armed) flushed.registers ∙ none in
    let c : Taken (command_effects CommandBased (order_fields (Clear port))) acts.0 acts.1 new after acts.4 =
    command_taken CommandBased (order_fields (Clear port)) acts.0 new acts.1 after (orderly (Clear port)) up1 acts.3.table (λ is. flushed_alone old acts.0 port control_port acts.3.table flushed (may is)) none1 free1 acts.4 in
    record { accepted = (tt, c.accepted); unarmed = c.unarmed }
order_taken mode other old new before after up table may none free acts = command_taken mode (order_fields other) old new before after (orderly other) up table may none free acts

-- ---- the identify command

identify_test : (port : Bool) → port ≡ true → ((5 == 5) && port && (not false && not false && not false) && (512 == 512)) ≡ true
identify_test true h = refl
identify_test false h = absurd (false≢true h)

equal_is : (x y : ℕ) → x ≡ y → (x == y) ≡ true
equal_is x y h = grind (arith, nat_tests)

pub identify_proper : (dev : ℕ) → is_proper (header_for (request_of (identify_fields dev)) (table_of 30) 1) (request_of (identify_fields dev)) 512 30 false ≡ true
unfolding is_proper work_of
identify_proper dev = identify_test (dev % 16 == dev % 16) (equal_is (dev % 16) (dev % 16) refl)

pub buffer_usable : (len : ℕ) → 1048576 ≤ len → total_if_usable len (buffer_prd ∷ []) ≡ Some 512
buffer_usable len long = by_end (nat_lt (1048576 + len) (1048576 + 512)) 512 (le-ltb (1048576 + len) (1048576 + 512) (omega (arith, long)))
  where
    by_end : (b : Bool) (n : ℕ) → b ≡ false → (if (((1048576 % 2 == 0) && (512 % 2 == 0) && not (nat_lt 1048576 1048576 || b)) && true) && not (false || false) then Some n else None) ≡ Some n
    by_end true n h = absurd (true≢false h)
    by_end false n h = refl

identify_taken : (mode : Mode) (dev : ℕ) (old new : Port) (before after : Memory) → dev < 15 → IsUpIn mode old.registers → IsTable old.slots → Alone mode dev old → old.registers.armed ≡ 0 → issue_at old.slots 30 ≡ None → IsHostMemory before
    → (acts : ActsAll (sending mode 30 dev (identify_fields dev) true) old before new after) → Taken (sending mode 30 dev (identify_fields dev) true) old before new after acts
identify_taken mode dev old new before after below up table may none free m acts =
    sending_taken mode 30 dev (identify_fields dev) true old new before after (omega arith) (omega (arith, below)) up table may none free (small dev below) (buffer_usable (length before.client) m.client_least) (omega arith)
    (identify_proper dev) acts
  where
    small : (n : ℕ) → n < 15 → n % 16 ≡ n
    small n h = omega (arith, h)

-- ---- each stage of a path

pub log_proper : (dev : ℕ) → is_proper (header_for (request_of (log_fields dev)) (table_of 30) 1) (request_of (log_fields dev)) 512 30 false ≡ true
unfolding is_proper work_of
log_proper dev = identify_test (dev % 16 == dev % 16) (equal_is (dev % 16) (dev % 16) refl)

pub control_proper : (dev value : ℕ) → is_proper (header_for (request_of (control dev value)) (table_of 30) 0) (request_of (control dev value)) 0 30 false ≡ true
unfolding is_proper work_of
control_proper dev value = rw (equal_is (dev % 16) (dev % 16) refl) refl

pub small_dev : (n : ℕ) → n < 15 → n % 16 ≡ n
small_dev n h = omega (arith, h)

control_taken : (mode : Mode) (dev value : ℕ) (old new : Port) (before after : Memory) → dev < 15 → IsUpIn mode old.registers → IsTable old.slots → Alone mode dev old → old.registers.armed ≡ 0 → issue_at old.slots 30 ≡ None
    → (acts : ActsAll (sending mode 30 dev (control dev value) false) old before new after) → Taken (sending mode 30 dev (control dev value) false) old before new after acts
control_taken mode dev value old new before after below up table may none free acts =
    sending_taken mode 30 dev (control dev value) false old new before after (omega arith) (omega (arith, below)) up table may none free (small_dev dev below) refl (omega arith) (control_proper dev value) acts

step_taken : (mode : Mode) (dev : ℕ) (stage : Stage) (old new : Port) (before after : Memory) → dev < 15 → IsUpIn mode old.registers → IsTable old.slots → Alone mode dev old → old.registers.armed ≡ 0 → issue_at old.slots 30 ≡ None → IsHostMemory before
    → (acts : ActsAll (stage_effects mode dev stage) old before new after) → Taken (stage_effects mode dev stage) old before new after acts
unfolding stage_fields
step_taken mode dev Identify old new before after below up table may none free m acts = identify_taken mode dev old new before after below up table may none free m acts
step_taken mode dev (ReadLog file) old new before after below up table may none free m acts =
    sending_taken mode 30 dev (log_fields dev) true old new before after (omega arith) (omega (arith, below)) up table may none free (small_dev dev below) (buffer_usable (length before.client) m.client_least) (omega arith)
    (log_proper dev) acts
step_taken mode dev AssertReset old new before after below up table may none free m acts = control_taken mode dev 4 old new before after below up table may none free acts
step_taken mode dev ReleaseReset old new before after below up table may none free m acts = control_taken mode dev 0 old new before after below up table may none free acts
step_taken mode dev AwaitReset old new before after below up table may none free m acts = none_taken old new before after acts none

-- ---- the writes that stop the port, start it again, and clear a device

stops_taken : (old new : Port) (before after : Memory) → old.registers.receives ≡ true → old.registers.armed ≡ 0 → (acts : ActsAll (effect.Writes px_cmd 131088 ∷ []) old before new after)
    → Taken (effect.Writes px_cmd 131088 ∷ []) old before new after acts
unfolding ActsAll AreAccepted register_at written
stops_taken old new before after on none acts =
    let free : write_refusal old before px_cmd 131088 ≡ None = stop_taken old before on in
    let accepts : Accepts old before Cmd 131088 acts.0 = acts.2.0.accepted free in
    record { accepted = (free, tt); unarmed = ap (λ (p : Port). p.registers.armed) acts.4.0 ∙ ap (λ (r : Registers). r.armed) accepts.registers ∙ zero_either (falls old.registers 131088) old.registers.armed none }

restarts_taken : (mode : Mode) (k n : ℕ) (old new : Port) (before after : Memory) → k < 2 → 7 ≤ n → AreDriven mode n k old.registers → old.registers.armed ≡ 0 → (acts : ActsAll (restart_write k ∷ []) old before new after)
    → Taken (restart_write k ∷ []) old before new after acts
unfolding ActsAll AreAccepted
restarts_taken mode k n old new before after less least driven none acts =
    let s = restart_taken mode k n less least old acts.0 before acts.1 acts.2 driven in
    record { accepted = (s.0, tt); unarmed = ap (λ (p : Port). p.registers.armed) acts.4.0 ∙ s.2 none }

clears_taken : (dev : ℕ) (old new : Port) (before after : Memory) → old.registers.switching ≡ true → old.registers.armed ≡ 0 → (acts : ActsAll (clearing Switching dev) old before new after)
    → Taken (clearing Switching dev) old before new after acts
unfolding ActsAll AreAccepted register_at written own_refusal slots_refusal
clears_taken dev old new before after on none acts =
    let first : Accepts old before Is 1224736768 acts.0 = is_accepted 1224736768 old acts.0 before acts.1 acts.2 in
    let switches : acts.0.registers.switching ≡ true = ap (λ (r : Registers). r.switching) first.registers ∙ on in
    let unarmed : acts.0.registers.armed ≡ 0 = ap (λ (r : Registers). r.armed) first.registers ∙ none in
    let free : write_refusal acts.0 acts.1 px_fbs (256 * dev + 3) ≡ None = clear_taken dev acts.0 acts.1 switches in
    let second : Accepts acts.0 acts.1 Fbs (256 * dev + 3) acts.4.0 = acts.4.2.0.accepted free in
    record { accepted = (refl, (free, tt)); unarmed = ap (λ (p : Port). p.registers.armed) acts.4.4.0 ∙ ap (λ (r : Registers). r.armed) second.registers ∙ unarmed }

-- ---- a request is issued

-- what is known of the driver after it has looked at all that came, and of the port
pub record Knows (d : Driver) (port : Port) (memory : Memory) : Type 0 where
  pub past : Touches
  pub served : IsServed d (beside port memory) past
  pub fit : AreFit d memory
  pub ruled : IsRuled port
  pub sized : IsHostMemory memory
  pub least : 7 ≤ d.plan.opened
  pub driven : AreDriven d.plan.mode d.plan.opened d.plan.restarted port.registers
  pub unarmed : port.registers.armed ≡ 0

-- a port that need not be started again runs
pub is_up : (d : Driver) (port : Port) (memory : Memory) → Knows d port memory → nat_lt d.plan.restarted 2 ≡ false → IsUpIn d.plan.mode port.registers
is_up d port memory k more = up_of d.plan.opened d.plan.restarted port.registers k.least (not_below d.plan.restarted 2 more) k.driven

not_issued : (o : Option Issue) → is_some o ≡ false → o ≡ None
not_issued None h = refl
not_issued (Some i) h = cc

pub free_here : (d : Driver) (port : Port) (memory : Memory) → Knows d port memory → (slot : ℕ) → IsFree d slot → issue_at port.slots slot ≡ None
free_here d port memory k slot free = elim (cases_Bool (is_some (issue_at port.slots slot))) [
  | inl busy ↦ absurd (not_busy d (beside port memory) k.past slot slot (sound_beside port memory k.ruled k.sized) k.served free busy refl)
  | inr idle ↦ not_issued (issue_at port.slots slot) idle
]

free_waiting : (d : Driver) (slot dev : ℕ) → Waiting d.plan d.entries slot dev → IsFree d slot
free_waiting d slot dev w n t (inl r) = absurd (not_both w.entry.head.phase w.waits_is (ap (λ (e : Entry). is_issued e.head) (some_inj w.entry r.entry (sym w.stands ∙ r.stands)) ∙ r.goes))
free_waiting d slot dev w n t (inr (inl i)) = absurd (omega (arith, i.slot, w.below))
free_waiting d slot dev w n t (inr (inr o)) = absurd (omega (arith, o.slot, w.below))

pub issue_taken : (d : Driver) (slot dev : ℕ) (queued : Bool) (old new : Port) (before after : Memory) → Knows d old before → IsUpIn d.plan.mode old.registers → Alone d.plan.mode dev old → (w : Waiting d.plan d.entries slot dev) → is_queued w.entry.head.work ≡ queued
    → (acts : ActsAll (issuing d.plan.mode slot dev queued) old before new after) → Issues d.plan.mode slot dev queued (request_fields slot w.entry.head) old before new after acts
issue_taken d slot dev queued old new before after k up may w queue acts =
    let e : Entry = w.entry in
    let stood = k.served.commands slot e w.stands in
    let bounds = k.served.bounded.entries slot e w.stands in
    let fit : IsFit slot e before = k.fit slot e w.stands in
    let to : (request_of (request_fields slot e.head)).pm_port ≡ dev = ap (λ (n : ℕ). n % 16) (request_port slot e.head) ∙ small e.head.dev bounds.dev ∙ w.of_dev in
    let placed : Placed slot dev e.prds (request_fields slot e.head) queued before = record {
      header = stood.header;
      to_dev = to;
      request_is = stood.request;
      total = fit.total;
      few = bounds.few;
      proper = subst (λ (b : Bool). is_proper (header_for (request_of (request_fields slot e.head)) (table_of slot) (length e.prds)) (request_of (request_fields slot e.head)) (total_of e.prds) slot b ≡ true) queue fit.proper;
    } in
    issuing_taken d.plan.mode slot dev queued e.prds (request_fields slot e.head) old new before after (omega (arith, w.below)) (subst (λ (n : ℕ). n < 16) w.of_dev (omega (arith, bounds.dev))) up k.ruled.table may k.unarmed
    (free_here d old before k slot (free_waiting d slot dev w)) placed acts
  where
    small : (n : ℕ) → n < 15 → n % 16 ≡ n
    small n h = omega (arith, h)

-- ---- each act

-- a fault of a device is cleared only with FIS-based switching
clears_in : (mode : Mode) (dev : ℕ) (old new : Port) (before after : Memory) → mode ≡ Switching → IsUpIn mode old.registers → old.registers.armed ≡ 0 → (acts : ActsAll (clearing mode dev) old before new after) → Taken (clearing mode dev) old before new after acts
clears_in Switching dev old new before after is up none acts = clears_taken dev old new before after up.switches none acts
clears_in CommandBased dev old new before after is up none acts = cc

-- what the port must show for it
abbrev pub MayClearIn : Mode → Option Act → Type 0
MayClearIn mode (Some (act.Clears dev)) = mode ≡ Switching
MayClearIn mode a = Unit {0}

pub act_taken : (d : Driver) (v : Sight) (a : Option Act) (old new : Port) (before after : Memory) → Knows d old before → Due v d.plan d.entries a → Runs d.plan a → ((k : ℕ) → a ≡ Some (act.Opens k) → ⊥)
    → AloneFor d.plan.mode a old → MayClearIn d.plan.mode a → (acts : ActsAll (effects_due d.plan.mode a) old before new after) → Taken (effects_due d.plan.mode a) old before new after acts
unfolding effects_of
act_taken d v None old new before after k due runs opens alone clear acts = none_taken old new before after acts k.unarmed
act_taken d v (Some (act.Opens n)) old new before after k due runs opens alone clear acts = absurd (opens n refl)
act_taken d v (Some act.Stops) old new before after k due runs opens alone clear acts = stops_taken old new before after (is_up d old before k runs.1).receives k.unarmed acts
act_taken d v (Some (act.Restarts n)) old new before after k due runs opens alone clear acts =
    restarts_taken d.plan.mode n d.plan.opened old new before after (subst (λ (m : ℕ). m < 2) (sym due.0) due.1) k.least (subst (λ (m : ℕ). AreDriven d.plan.mode d.plan.opened m old.registers) (sym due.0) k.driven) k.unarmed acts
act_taken d v (Some (act.Clears dev)) old new before after k due runs opens alone clear acts = clears_in d.plan.mode dev old new before after clear (is_up d old before k runs.1) k.unarmed acts
act_taken d v (Some (act.Orders order)) old new before after k due runs opens alone clear acts =
    order_taken d.plan.mode order old new before after (is_up d old before k runs.1) k.ruled.table alone k.unarmed (free_here d old before k 31 (free_order d due)) acts
act_taken d v (Some (act.Steps dev stage)) old new before after k due runs opens alone clear acts =
    step_taken d.plan.mode dev stage old new before after (step_dev d dev stage k.served.bounded.path due) (is_up d old before k runs.1) k.ruled.table alone k.unarmed (free_here d old before k 30 (free_slot d dev stage due)) k.sized acts
act_taken d v (Some (act.Issues slot dev queued)) old new before after k due runs opens alone clear acts =
    let i : Issues d.plan.mode slot dev queued (request_fields slot due.0.entry.head) old before new after acts = issue_taken d slot dev queued old new before after k (is_up d old before k runs.1) alone due.0 due.1 acts in
    record { accepted = i.accepted; unarmed = i.unarmed }

-- ---- a host on its way

-- what a tick of an open port knows
pub knows_seen : {mode : Mode} (h : Host) → IsOnWayIn mode h → 7 ≤ h.driver.plan.opened → Knows (seen (sight_in h) h.driver) h.port h.memory
knows_seen {mode} h w least =
    let v : Sight = sight_in h in
    let goes : PlanGoes v h.driver.plan (turn v h.driver).plan = goes_turn v h.driver.plan (done_ended v.issued h.driver.entries) in
    record {
      past = w.past;
      served = seen_served h.driver.plan.mode h.port h.memory h.driver w.past (sound_beside h.port h.memory w.sound.ruled w.sound.memory) w.served;
      fit = λ s f here.
          let d : Driver = h.driver in
          let b = back_of (entry_at d.entries s) (entry_at (seen (sight_in h) d).entries s) (keeps_seen (sight_in h) d s) f here in
          subst (λ (x : Entry). IsFit s x h.memory) (sym b.2.same) (fit_rephased f.head.phase s b.0 h.memory (w.fit s b.0 b.1));
      ruled = w.sound.ruled;
      sized = w.sound.memory;
      least = subst (λ (n : ℕ). 7 ≤ n) (sym goes.opened) least;
      driven =
          subst (λ (m : Mode). AreDriven m (turn v h.driver).plan.opened (turn v h.driver).plan.restarted h.port.registers) (sym (goes.mode ∙ w.sound.drives))
          (subst (λ (n : ℕ). AreDriven mode n (turn v h.driver).plan.restarted h.port.registers) (sym goes.opened)
          (subst (λ (m : ℕ). AreDriven mode h.driver.plan.opened m h.port.registers) (sym goes.restarted) w.sound.registers));
      unarmed = w.unarmed;
    }

-- ---- a tick

-- the write that opens the port is taken
opening_taken : (mode : Mode) (k m : ℕ) (old new : Port) (before after : Memory) → k < 7 → AreDriven mode k m old.registers → old.registers.armed ≡ 0 → (acts : ActsAll (opening_write mode k ∷ []) old before new after)
    → Taken (opening_write mode k ∷ []) old before new after acts
unfolding ActsAll AreAccepted
opening_taken mode k m old new before after less driven none acts =
    let s = opens_taken mode k m less old acts.0 before acts.1 acts.2 driven in
    record { accepted = (s.0, tt); unarmed = ap (λ (p : Port). p.registers.armed) acts.4.0 ∙ s.2 none }

taken_by : (es fs : List Effect) (old new : Port) (before after : Memory) → es ≡ fs → (acts : ActsAll es old before new after) → ((x : ActsAll fs old before new after) → Taken fs old before new after x)
    → Taken es old before new after acts
taken_by es fs old new before after is acts h =
    subst (λ (gs : List Effect). (x : ActsAll gs old before new after) → Taken gs old before new after x) (sym is) h acts

-- what the turn of an open port knows
pub record Goes (h : Host) : Type 0 where
  pub knows : Knows (seen (sight_in h) h.driver) h.port h.memory
  pub due_is : Due (sight_in h) (seen (sight_in h) h.driver).plan (seen (sight_in h) h.driver).entries (due (sight_in h) h.driver)
  pub runs : Runs (seen (sight_in h) h.driver).plan (due (sight_in h) h.driver)
  pub opens : (k : ℕ) → due (sight_in h) h.driver ≡ Some (act.Opens k) → ⊥
  pub alone : AloneFor (seen (sight_in h) h.driver).plan.mode (due (sight_in h) h.driver) h.port
  pub clear : MayClearIn (seen (sight_in h) h.driver).plan.mode (due (sight_in h) h.driver)

-- ---- nothing is issued beside another device

not_other : (a b : Bool) → a ≡ true → (a && not b) ≡ false → b ≡ true
not_other true true h k = refl
not_other true false h k = absurd (true≢false k)
not_other false b h k = absurd (false≢true h)

not_issued_other : (a b : Bool) → b ≡ true → (not a && b) ≡ false → a ≡ true
not_issued_other true b h k = refl
not_issued_other false true h k = absurd (true≢false k)
not_issued_other false false h k = absurd (false≢true h)

not_true : (b : Bool) → not b ≡ true → b ≡ false
not_true true h = absurd (false≢true h)
not_true false h = refl

dev_is : (x y : ℕ) → (x == y) ≡ true → x ≡ y
dev_is x y h = grind (arith, nat_tests)

-- a request whose bit is set stays issued
still_issued : (v : Sight) (d : Driver) (s : ℕ) (e : Entry) → entry_at d.entries s ≡ Some e → is_issued e.head ≡ true → has_bit v.issued s ≡ true → entry_at (done_ended v.issued d.entries) s ≡ Some e
still_issued v d s e here goes on =
    entry_of_rephased (is_done v.issued) (Ended Done) d.entries s ∙ ap (rephase (is_done v.issued s) (Ended Done)) here
    ∙ else_entry (is_done v.issued s e.head) (Some (rephased (Ended Done) e)) (Some e) (not_done (is_issued e.head) (has_bit v.issued s) on)

module _ (mode : Mode) (h : Host) (w : IsOnWayIn mode h) (dev : ℕ)
    (goes : may_go (sight_in h) (turn (sight_in h) h.driver).plan (done_ended (sight_in h).issued h.driver.entries) dev ≡ true) where
  beside_parts : (control_beside (sight_in h) dev ≡ false) × ((path_beside (sight_in h) (turn (sight_in h) h.driver).plan dev ≡ false)
      × (list_any (entry_holds (is_issued_of_other dev)) (done_ended (sight_in h).issued h.driver.entries) ≡ false))
  beside_parts =
      let none = not_true _ goes in
      let first = or_parts (control_beside (sight_in h) dev || path_beside (sight_in h) (turn (sight_in h) h.driver).plan dev) _ none in
      let two = or_parts (control_beside (sight_in h) dev) _ first.0 in
      (two.0, (two.1, first.1))

  of_from : (n s : ℕ) (t : Transfer) → issued s (own n w.past) ≡ Some t → From h.driver n s t → has_bit (sight_in h).issued s ≡ true → n ≡ dev
  of_from n s t here (inl r) on =
      let v : Sight = sight_in h in
      let still : entry_at (done_ended v.issued h.driver.entries) s ≡ Some r.entry = still_issued v h.driver s r.entry r.stands r.goes on in
      let inside : s < length (done_ended v.issued h.driver.entries) = omega (arith, r.slot, length_of_rephased (is_done v.issued) (Ended Done) h.driver.entries, w.served.bounded.slots) in
      let test : entry_holds (is_issued_of_other dev) (Some r.entry) ≡ false =
      subst (λ (o : Option Entry). entry_holds (is_issued_of_other dev) o ≡ false) still (none_conflict (entry_holds (is_issued_of_other dev)) (done_ended v.issued h.driver.entries) s beside_parts.1.1 inside) in
      sym r.of_dev ∙ dev_is r.entry.head.dev dev (not_issued_other (r.entry.head.dev == dev) (is_issued r.entry.head) r.goes test)
  of_from n s t here (inr (inl i)) on =
      let v : Sight = sight_in h in
      let bit : has_bit v.issued 30 ≡ true = subst (λ (k : ℕ). has_bit v.issued k ≡ true) i.slot on in
      let there : (turn v h.driver).plan.path ≡ Some i.path = (goes_turn v h.driver.plan (done_ended v.issued h.driver.entries)).path bit i.path i.goes i.asked in
      let test : (has_bit v.issued 30 && not (i.path.dev == dev)) ≡ false =
      sym (ap (λ (o : Option Path). match_some o false (λ path. has_bit v.issued 30 && not (path.dev == dev))) there) ∙ beside_parts.1.0 in
      sym i.of_dev ∙ dev_is i.path.dev dev (not_other (has_bit v.issued 30) (i.path.dev == dev) bit test)
  of_from n s t here (inr (inr o)) on =
      let v : Sight = sight_in h in
      let bit : has_bit v.issued 31 ≡ true = subst (λ (k : ℕ). has_bit v.issued k ≡ true) o.slot on in
      o.of_dev ∙ sym (dev_is dev control_port (not_other (has_bit v.issued 31) (dev == control_port) bit beside_parts.0))

  alone_at : (s : ℕ) (i : Issue) → issue_at h.port.slots s ≡ Some i → i.dev ≡ dev
  alone_at s i here =
      let found = told_of (shared_by h) w.past w.sound.ruled.table w.served.told s i here in
      let one = w.served.issues i.dev s found.0 found.1 in
      of_from i.dev s found.0 found.1 one.from
      (bit_on h.driver.plan.mode h.port h.memory h.driver w.past (sound_beside h.port h.memory w.sound.ruled w.sound.memory) w.served i.dev s found.0 one.dev (slot_of_issue h.driver i.dev s found.0 one.from) found.1)

alone_for : {mode : Mode} (h : Host) → IsOnWayIn mode h → AloneFor h.driver.plan.mode (due (sight_in h) h.driver) h.port
alone_for {mode} h w = by_act (due (sight_in h) h.driver) (turn_alone (sight_in h) h.driver.plan (done_ended (sight_in h).issued h.driver.entries))
  where
    by_dev : (o : Option ℕ) → (h.driver.plan.mode ≡ CommandBased → may_go_to (sight_in h) (turn (sight_in h) h.driver).plan (done_ended (sight_in h).issued h.driver.entries) o ≡ true) → AloneTo h.driver.plan.mode o h.port
    by_dev None goes = tt
    by_dev (Some dev) goes = λ is. alone_at mode h w dev (goes is)

    by_act : (a : Option Act) → (h.driver.plan.mode ≡ CommandBased → MayGo (sight_in h) (turn (sight_in h) h.driver).plan (done_ended (sight_in h).issued h.driver.entries) a) → AloneFor h.driver.plan.mode a h.port
    by_act None goes = tt
    by_act (Some a) goes = by_dev (device_of a) goes

clear_for : {mode : Mode} (h : Host) → IsOnWayIn mode h → MayClearIn h.driver.plan.mode (due (sight_in h) h.driver)
clear_for h w = by_act (due (sight_in h) h.driver) (may_end_in h w.sound)
  where
    by_act : (a : Option Act) → MayEnd h.driver.plan.mode a h.port → MayClearIn h.driver.plan.mode a
    by_act (Some (act.Clears dev)) may = may.0
    by_act other may = tt

pub goes_on : {mode : Mode} (h : Host) → IsOnWayIn mode h → 7 ≤ h.driver.plan.opened → Goes h
goes_on h w least =
    let v : Sight = sight_in h in
    let mode_is : (seen v h.driver).plan.mode ≡ h.driver.plan.mode = (goes_turn v h.driver.plan (done_ended v.issued h.driver.entries)).mode in
    let opened : (turn v h.driver).plan.opened ≡ h.driver.plan.opened = (goes_turn v h.driver.plan (done_ended v.issued h.driver.entries)).opened in
    record {
      knows = knows_seen h w least;
      due_is = due_seen v h.driver;
      runs = runs_then v h.driver.plan (done_ended v.issued h.driver.entries);
      alone = subst (λ (m : Mode). AloneFor m (due v h.driver) h.port) (sym mode_is) (alone_for h w);
      clear = subst (λ (m : Mode). MayClearIn m (due v h.driver)) (sym mode_is) (clear_for h w);
      opens = λ k is.
          let is_next : Due v (seen v h.driver).plan (seen v h.driver).entries (Some (act.Opens k)) =
          subst (λ (a : Option Act). Due v (seen v h.driver).plan (seen v h.driver).entries a) is (due_seen v h.driver) in
          omega (arith, least, opened, is_next.1);
    }

pub tick_taken : {mode : Mode} (h : Host) (a : Bool) (new : Host) (does : Does h (Ticked a) new) → IsOnWayIn mode h → Taken (effects (sight_in h) h.driver) h.port h.memory new.port new.memory does.does
tick_taken h a new does w = elim (tick_is (sight_in h) (file_shown new.port) h.driver) [
  | inl first ↦
      let k : ℕ = h.driver.plan.opened in
      taken_by (effects (sight_in h) h.driver) (opening_write h.driver.plan.mode k ∷ []) h.port new.port h.memory new.memory first.one does.does
      (opening_taken h.driver.plan.mode k h.driver.plan.restarted h.port new.port h.memory new.memory first.less (driven_in h w.sound) w.unarmed)
  | inr going ↦
      let g : Goes h = goes_on h w going.least in
      let d : Driver = seen (sight_in h) h.driver in
      let mode_is : (seen (sight_in h) h.driver).plan.mode ≡ h.driver.plan.mode = (goes_turn (sight_in h) h.driver.plan (done_ended (sight_in h).issued h.driver.entries)).mode in
      taken_by (effects (sight_in h) h.driver) (effects_due (seen (sight_in h) h.driver).plan.mode (due (sight_in h) h.driver)) h.port new.port h.memory new.memory
      (ap (λ (m : Mode). effects_due m (due (sight_in h) h.driver)) (sym mode_is)) does.does
      (act_taken d (sight_in h) (due (sight_in h) h.driver) h.port new.port h.memory new.memory g.knows g.due_is g.runs g.opens g.alone g.clear)
]
  where
    driven_in : {mode : Mode} (h : Host) → IsSoundHostIn mode h → AreDriven h.driver.plan.mode h.driver.plan.opened h.driver.plan.restarted h.port.registers
    driven_in h s = subst (λ (m : Mode). AreDriven m h.driver.plan.opened h.driver.plan.restarted h.port.registers) (sym s.drives) s.registers

-- ---- every turn

abbrev one_turn : (old : Host) (t : HostTurn) (new : Host) → Does old t new → DoesAll old (t ∷ []) new
one_turn old t new h = (new, h, refl)

same_armed : (p q : Port) → q ≡ p → p.registers.armed ≡ 0 → q.registers.armed ≡ 0
same_armed p q is none = ap (λ (x : Port). x.registers.armed) is ∙ none

unarmed_turn : {mode : Mode} (old : Host) (t : HostTurn) (new : Host) → Does old t new → IsOnWayIn mode old → new.port.registers.armed ≡ 0
unarmed_turn old (Took frame report) new h w = (stays_took old new frame report h).armed ∙ w.unarmed
unarmed_turn old (Pushed frame) new h w = (stays_gives (outgoing old.port old.memory) old.port old.memory frame new.port h.gives).armed ∙ w.unarmed
unarmed_turn old (Ticked a) new h w = (tick_taken old a new h w).unarmed
unarmed_turn old other new h w = same_armed old.port new.port h.port w.unarmed

pub way_turn : {mode : Mode} (old : Host) (t : HostTurn) (new : Host) → Does old t new → IsOnWayIn mode old → IsOnWayIn mode new
way_turn {mode} old t new h w =
    let next : IsSoundHostIn mode new = sound_turn old t new h w.sound in
    let r : RunServes old new (t ∷ []) (one_turn old t new h) w.past = turns_serve.runs old new (t ∷ []) (one_turn old t new h) w.sound w.past w.served in
    record {
      sound = next;
      past = touches_after w.past (shared_by old) (shared_by new) (events_over old new (t ∷ []) (one_turn old t new h)) r.runs;
      served = r.last;
      unarmed = unarmed_turn old t new h w;
      fit = fit_turn old t new h w.sound next w.served.bounded w.fit;
    }

pub none_here : (s : ℕ) (e : Entry) {P : Type 0} → entry_at (replicate 30 None) s ≡ Some e → P
none_here s e h = elim (cases_lt s 30) [
  | inl less ↦ none_some (sym (get_or-replicate 30 s None None less) ∙ h)
  | inr least ↦ none_some (sym (get_or_past (replicate 30 None) s None (rw (length-replicate {A = Option Entry} 30 None) least)) ∙ h)
]
  where
    none_some : {Q : Type 0} → None ≡ Some e → Q
    none_some h = cc

pub way_opens : {mode : Mode} (given : ℕ) (start : Memory) → IsHostMemory start → IsOnWayIn mode (opening_host_in mode given start)
way_opens {mode} given start right = record {
  sound = hosts_stay_sound.opens mode given start right;
  past = [];
  served = turns_serve.opens mode given start right;
  unarmed = refl;
  fit = λ s e here. none_here s e here;
}

turn_accepts : {mode : Mode} (old : Host) (t : HostTurn) (new : Host) (h : Does old t new) → IsOnWayIn mode old → TurnAccepts old t new h
turn_accepts old (Ticked a) new h w = (tick_taken old a new h w).accepted
turn_accepts old other new h w = tt

turns_accept : {mode : Mode} (turns : List HostTurn) (old new : Host) (run : DoesAll old turns new) → IsOnWayIn mode old → TurnsAccept old new turns run
turns_accept [] old new run w = tt
turns_accept (t ∷ turns) old new run w = (turn_accepts old t run.0 run.1 w, turns_accept turns run.0 new run.2 (way_turn old t run.0 run.1 w))

pub writes_are_accepted : WritesAreAccepted
writes_are_accepted mode given start right turns h run = turns_accept turns (opening_host_in mode given start) h run (way_opens given start right)

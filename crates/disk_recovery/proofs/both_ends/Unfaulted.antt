-- For `ends_go_on`. While no FIS of a device is heard with a fault, no fault of it stands at the host's port, no tick
-- clears one, and the port opened stays open.
use Rattle.std.proofs.Common.{◌≡◌, ◌≢◌, ◌&&◌, ℕ, ◌<◌, ◌≤◌, Bool, true, false, not, List, [], ◌∷◌, ◌++◌, refl, sym, ap, subst, ◌∙◌, inl, inr, Option}
use Rattle.std.proofs.{Common.{Some, None, arith}, lemmas.Bool.{cases_Bool, cases_eq, false≢true, true≢false}}
use Rattle.std.specs.{Prelude.{◌==◌, ◌⊎◌, if◌then◌else◌, is_some}, List.flat_map}
use Rattle.fis_view.specs.{Frames.Stamped, Seen.seen, declared.view.Fis.Fis}
use Rattle.host_memory.specs.Memory.{Memory}
use Rattle.port_errors.specs.{Errors.{Errors, cause_of, named_by, shown as errors_shown}, declared.cause.Stop.Stop}
use Rattle.hba_fbs.specs.declared.{hearing.Heard.Heard, register.Register.{Register, TheVariants.{Ci, Cmd, Fbs}}, report.TakeReport.TakeReport}
use Rattle.hba_fbs.specs.{Issuing.{aimed, view_issued}, Registers.falls, Sending.{Gives, Nothing, Outgoing, Unreadable, outgoing}, Taking.Hears}
use Rattle.hba_fbs.specs.Taking.{Ignores, admitted, device_cause, heard_now, heard_report, ignores, place_in, port_cause, port_of, row_for}
use Rattle.hba_fbs.specs.{Taking.stops_with, Views.{DeviceView, Port, stopped_view, view_of}, Writing.{cleared_by, is_device, view_after}}
use Rattle.hba_laws.specs.Hosts as event
use Rattle.hba_laws.specs.{Hosts.{HostEvent, Runs, TakesFrame}, Isolation.stops_port}
use Rattle.hba_driver.specs.{declared.mode.Mode.TheVariants.Switching, Effects.{ActsAll, effects_of, order_effects}, Events.IsSoundHost}
use Rattle.hba_driver.specs.{Events.{events_of_effects, events_over, shared_by, taken_by, took}, declared.plan.Plan.Plan, Drivers.Driver}
use Rattle.hba_driver.specs.{Going.GoesOn, HostTurns.{Does, DoesAll, Host, HostTurn, Polled, Submitted, Ticked, Took, Tooks, sight_in}}
use Rattle.hba_driver.specs.{Sights.file_shown, Steady.{IsCalmTick, IsClearTick, IsFlushTick}, Ticks.effects_due, Between.{MayClear, MayEnd}}
use Rattle.disk_recovery.specs.Between.{AreUnfaulted, IsUnfaulted}
use Rattle.hba_driver.proofs.Door.{calm_or_flush, each_run_tells, may_end, poll_plan, spares_as, tick_is, turns_are_events}

same_port : (n : ℕ) (old new : Port) → new ≡ old → IsUnfaulted n old → IsUnfaulted n new
same_port n old new same is = subst (IsUnfaulted n) (sym same) is

same_view : (n : ℕ) (old new : Port) → view_of n new ≡ view_of n old → IsUnfaulted n old → IsUnfaulted n new
same_view n old new same is = ap (λ (v : DeviceView). v.fault) same ∙ is

same_errors : (n : ℕ) (old new : Port) → new.errors ≡ old.errors → IsUnfaulted n old → IsUnfaulted n new
same_errors n old new same is = ap (λ (e : Errors). cause_of e n) same ∙ is

-- ---- a FIS is taken

none_told : (dev : ℕ) (row : Option ℕ) (fis : Option Fis) (h : Heard) (report : TakeReport) → report ≡ heard_report dev (place_in row fis) h → report.fault ≡ None
    → device_cause h.fault ≡ None
unfolding heard_report
none_told dev row fis h report is none = sym (ap (λ (r : TakeReport). r.fault) is) ∙ none

took_unfaulted : (n : ℕ) (old : event.Host) (frame : List ℕ) (report : TakeReport) (new : event.Host) → TakesFrame old frame report new
    → (port_of frame ≡ n → report.fault ≡ None) → IsUnfaulted n old.port → IsUnfaulted n new.port
took_unfaulted n old frame report new tooks well is = elim (cases_Bool (ignores (port_of frame) old.port frame)) [
  | inl skip ↦ same_port n old.port new.port (tooks.ignored skip).port is
  | inr hears ↦ heard hears (cases_eq n (port_of frame))
]
  where
    heard : ignores (port_of frame) old.port frame ≡ false → (n ≡ port_of frame) ⊎ (n ≢ port_of frame) → IsUnfaulted n new.port
    heard hears (inl own) =
        subst (λ (k : ℕ). IsUnfaulted k new.port) (sym own)
        (ap (λ (v : DeviceView). v.fault) (tooks.heard hears).own
        ∙ none_told (port_of frame) (row_for old.port (port_of frame)) (admitted (port_of frame) (seen frame))
        (heard_now old.port old.memory (port_of frame) (admitted (port_of frame) (seen frame))) report (tooks.heard hears).reports (well (sym own)))
    heard hears (inr other) = same_view n old.port new.port ((tooks.heard hears).others n other) is

-- ---- a FIS goes out

gave_unfaulted : (n : ℕ) (o : Outgoing) (old : Port) (memory : Memory) (frame : Option Stamped) (new : Port) → Gives o old memory frame new
    → IsUnfaulted n old → IsUnfaulted n new
gave_unfaulted n Nothing old memory frame new gives is = same_port n old new gives.1 is
gave_unfaulted n (Unreadable dev) old memory frame new gives is = subst (IsUnfaulted n) (sym gives.1) is
gave_unfaulted n other old memory None new gives is = absurd gives
gave_unfaulted n rest old memory (Some f) new gives is = same_errors n old new gives.errors is

-- ---- a register is written

stopped_unfaulted : (b : Bool) (v : DeviceView) → v.fault ≡ None → (if b then stopped_view v else v).fault ≡ None
stopped_unfaulted true v is = refl
stopped_unfaulted false v is = is

issued_unfaulted : (b : Bool) (v w : DeviceView) → w.fault ≡ v.fault → v.fault ≡ None → (if b then w else v).fault ≡ None
issued_unfaulted true v w same is = same ∙ is
issued_unfaulted false v w same is = is

written_unfaulted : (n : ℕ) (register : Register) (old : Port) (memory : Memory) (value : ℕ) → IsUnfaulted n old
    → (view_after register old memory value n).fault ≡ None
unfolding view_after
written_unfaulted n Cmd old memory value is = stopped_unfaulted (falls old.registers value) (view_of n old) is
written_unfaulted n Ci old memory value is =
    issued_unfaulted (n == aimed old.registers memory.structure value) (view_of n old) (view_issued old.registers memory value (view_of n old)) refl is
written_unfaulted n Fbs old memory value is = stopped_unfaulted (is_device n (cleared_by old.errors value)) (view_of n old) is
written_unfaulted n register old memory value is = is

-- ---- events

events_unfaulted : (n : ℕ) → n < 16 → (old : event.Host) (events : List HostEvent) (new : event.Host) → Runs old events new
    → AreUnfaulted n (flat_map took events) → IsUnfaulted n old.port → IsUnfaulted n new.port
events_unfaulted n below old [] new run well is = subst (λ (h : event.Host). IsUnfaulted n h.port) (sym run) is
events_unfaulted n below old (event.Took frame report ∷ events) new run well is =
    events_unfaulted n below run.0 events new run.2 well.1 (took_unfaulted n old frame report run.0 run.1 well.0 is)
events_unfaulted n below old (event.Wrote register value ∷ events) new run well is =
    events_unfaulted n below run.0 events new run.2 well
    (ap (λ (v : DeviceView). v.fault) (run.1.1.views n below) ∙ written_unfaulted n register old.port old.memory value is)
events_unfaulted n below old (event.Flushed dev ∷ events) new run well is =
    events_unfaulted n below run.0 events new run.2 well (elim (cases_eq n dev) [
      | inl own ↦ subst (λ (k : ℕ). IsUnfaulted k run.0.port) (sym own) (ap (λ (v : DeviceView). v.fault) run.1.0.own)
      | inr other ↦ same_view n old.port run.0.port (run.1.0.others n other) is
    ])
events_unfaulted n below old (event.Gave frame ∷ events) new run well is =
    events_unfaulted n below run.0 events new run.2 well
    (gave_unfaulted n (outgoing old.port old.memory) old.port old.memory frame run.0.port run.1.0 is)
events_unfaulted n below old (other ∷ events) new run well is =
    events_unfaulted n below run.0 events new run.2 well (same_port n old.port run.0.port run.1.1 is)

-- ---- turns

pub turns_unfaulted : (n : ℕ) → n < 16 → (old : Host) (turns : List HostTurn) (new : Host) → DoesAll old turns new → IsSoundHost old
    → AreUnfaulted n (flat_map taken_by turns) → IsUnfaulted n old.port → IsUnfaulted n new.port
turns_unfaulted n below old turns new run sound well is =
    events_unfaulted n below (shared_by old) (events_over old new turns run) (shared_by new) (turns_are_events Switching old new turns run sound).runs
    (subst (AreUnfaulted n) (sym (each_run_tells old new turns run).taken) well) is

-- the turn takes no FIS of the device with a fault
abbrev pub IsTurnUnfaulted : ℕ → HostTurn → Type 0
IsTurnUnfaulted n (Took frame report) = port_of frame ≡ n → report.fault ≡ None
IsTurnUnfaulted n turn = Unit {0}

taken_unfaulted : (n : ℕ) (turn : HostTurn) → IsTurnUnfaulted n turn → AreUnfaulted n (flat_map taken_by (turn ∷ []))
taken_unfaulted n (Took frame report) none = (none, tt)
taken_unfaulted n other none = tt

pub turn_unfaulted : (n : ℕ) → n < 16 → (old : Host) (turn : HostTurn) (new : Host) → Does old turn new → IsSoundHost old → IsTurnUnfaulted n turn
    → (view_of n old.port).fault ≡ None → (view_of n new.port).fault ≡ None
turn_unfaulted n below old turn new does sound none is =
    turns_unfaulted n below old (turn ∷ []) new (new, does, refl) sound (taken_unfaulted n turn none) is

-- the tick that flushes the device ends its fault
record IsFlushFirst (n : ℕ) (events : List HostEvent) : Type 0 where
  rest : List HostEvent
  is : events ≡ event.Flushed n ∷ rest

flush_first : (n : ℕ) (rest : List HostEvent) → IsFlushFirst n (event.Flushed n ∷ rest)
flush_first n rest = record { rest = rest; is = refl }

flush_events : (n : ℕ) (old : Host) (acted : Bool) (new : Host) (does : Does old (Ticked acted) new) → IsFlushTick n old
    → IsFlushFirst n (events_over old new (Ticked acted ∷ []) (new, does, refl))
unfolding ActsAll events_of_effects effects_of order_effects
flush_events n old acted new does flush =
    subst (λ a. (acts : ActsAll (effects_due old.driver.plan.mode a) old.port old.memory new.port new.memory)
    → IsFlushFirst n (events_of_effects (effects_due old.driver.plan.mode a) old.port old.memory new.port new.memory acts ++ []))
    (sym flush) (λ acts. flush_first n _) does.does

first_unfaulted : (n : ℕ) → n < 16 → (old : event.Host) (events : List HostEvent) (new : event.Host) → IsFlushFirst n events → Runs old events new
    → AreUnfaulted n (flat_map took events) → IsUnfaulted n new.port
first_unfaulted n below old events new first run well =
    let ran : Runs old (event.Flushed n ∷ first.rest) new = subst (λ (es : List HostEvent). Runs old es new) first.is run in
    events_unfaulted n below ran.0 first.rest new ran.2 (subst (λ (es : List HostEvent). AreUnfaulted n (flat_map took es)) first.is well)
    (ap (λ (v : DeviceView). v.fault) ran.1.0.own)

pub flush_unfaulted : (n : ℕ) → n < 16 → (old : Host) (acted : Bool) (new : Host) → Does old (Ticked acted) new → IsSoundHost old → IsFlushTick n old
    → IsUnfaulted n new.port
flush_unfaulted n below old acted new does sound flush =
    let run : DoesAll old (Ticked acted ∷ []) new = (new, does, refl) in
    first_unfaulted n below (shared_by old) (events_over old new (Ticked acted ∷ []) run) (shared_by new)
    (flush_events n old acted new does flush)
    (turns_are_events Switching old new (Ticked acted ∷ []) run sound).runs
    (subst (AreUnfaulted n) (sym (each_run_tells old new (Ticked acted ∷ []) run).taken) tt)

-- ---- no tick clears a fault

reported : (o : Option ℕ) (p : Option Stop) (dev : ℕ) → named_by (errors_shown o p) ≡ Some dev → o ≡ Some dev
reported None None dev is = absurd (cc)
reported None (Some c) dev is = absurd (cc)
reported (Some x) None dev is = is
reported (Some x) (Some c) dev is = absurd (cc)

pub never_cleared : (n : ℕ) (h : Host) → IsSoundHost h → IsUnfaulted n h.port → IsClearTick n h → ⊥
never_cleared n h sound none tick =
    let may : MayClear n h.port = (subst (λ a. MayEnd Switching a h.port) tick (may_end h sound)).1 in
    let marked : is_some (cause_of h.port.errors n) ≡ true =
    (sound.ruled.faults.reported_is_marked n (reported h.port.errors.reported h.port.errors.port n may.faulty)).1 in
    false≢true (sym (ap is_some none) ∙ marked)

-- ---- a tick that does not flush the device

pub tick_goes : (n : ℕ) (h : Host) → GoesOn h → IsSoundHost h → IsUnfaulted n h.port → (IsFlushTick n h → ⊥) → IsCalmTick n h
tick_goes n h goes sound none unflushed = elim (calm_or_flush n h goes (never_cleared n h sound none)) [
  | inl calm ↦ calm
  | inr flush ↦ absurd (unflushed flush)
]

-- ---- a FIS is heard

none_of : {A : Type 0} (o : Option A) → is_some o ≡ false → o ≡ None
none_of None is = refl
none_of (Some c) is = absurd (true≢false is)

and_second : (a b : Bool) → a ≡ false → (not a && b) ≡ false → b ≡ false
and_second false b is both = both
and_second true b is both = absurd (true≢false is)

ignored_says : (dev : ℕ) (old : Port) (before : Memory) (report : TakeReport) (new : Port) (after : Memory) → Ignores dev old before report new after
    → report.ignored ≡ true
ignored_says dev old before report new after is = ap (λ (r : TakeReport). r.ignored) is.reports

heard_says : (dev : ℕ) (old : Port) (before : Memory) (frame : List ℕ) (report : TakeReport) (new : Port) (after : Memory)
    → Hears dev old before frame report new after
    → report.stopped ≡ port_cause (heard_now old before dev (admitted dev (seen frame))).fault
unfolding Rattle.hba_fbs.specs.Taking.heard_report
heard_says dev old before frame report new after is = ap (λ (r : TakeReport). r.stopped) is.reports

-- a FIS that is heard, and does not stop the port
pub not_stopped : (h : Host) (bytes : List ℕ) (report : TakeReport) (new : Host) → Tooks h bytes report new → report.ignored ≡ false
    → stops_port (port_of bytes) h.port h.memory bytes ≡ false → report.stopped ≡ None
not_stopped h bytes report new tooks heard goes = elim (cases_Bool (ignores (port_of bytes) h.port bytes)) [
  | inl ignored ↦
      absurd (true≢false (sym (ignored_says (port_of bytes) h.port h.memory report new.port new.memory (tooks.ignored ignored)) ∙ heard))
  | inr hears ↦
      heard_says (port_of bytes) h.port h.memory bytes report new.port new.memory (tooks.heard hears)
      ∙ none_of (port_cause (heard_now h.port h.memory (port_of bytes) (admitted (port_of bytes) (seen bytes))).fault)
      (spares_as h.port.registers.switching (heard_now h.port h.memory (port_of bytes) (admitted (port_of bytes) (seen bytes))).fault
      (and_second (ignores (port_of bytes) h.port bytes)
      (stops_with h.port.registers.switching (heard_now h.port h.memory (port_of bytes) (admitted (port_of bytes) (seen bytes))).fault) hears goes))
]

-- ---- the port stays open

stays_open : (m k : ℕ) → k ≡ m → 7 ≤ m → 7 ≤ k
stays_open m k same least = omega (arith, same, least)

pub opened_stays : (old : Host) (turn : HostTurn) (new : Host) → Does old turn new → 7 ≤ old.driver.plan.opened → 7 ≤ new.driver.plan.opened
opened_stays old (Ticked acted) new does least = elim (tick_is (sight_in old) (file_shown new.port) old.driver) [
  | inl first ↦ absurd (omega (arith, least, first.less))
  | inr going ↦
      stays_open old.driver.plan.opened new.driver.plan.opened (ap (λ (d : Driver). d.plan.opened) does.driver ∙ going.opened_is) least
]
opened_stays old (Submitted dev request ticket) new does least =
    stays_open old.driver.plan.opened new.driver.plan.opened (ap (λ (d : Driver). d.plan.opened) does.taken.driver) least
opened_stays old (Polled completion) new does least =
    stays_open old.driver.plan.opened new.driver.plan.opened
    (ap (λ (d : Driver). d.plan.opened) does.driver ∙ ap (λ (p : Plan). p.opened) (poll_plan old.driver)) least
opened_stays old other new does least =
    stays_open old.driver.plan.opened new.driver.plan.opened (ap (λ (d : Driver). d.plan.opened) does.driver) least

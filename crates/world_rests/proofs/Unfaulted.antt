-- For `rested_plans_match`. A device gets a fault at the host port only by a frame of its own.
use Rattle.std.proofs.Common.{◌≡◌, ◌≢◌, ℕ, ◌<◌, ◌==◌, Bool, true, false, List, [], ◌∷◌, refl, sym, ap, subst, ◌∙◌, inl, inr, Option, Some, None}
use Rattle.std.proofs.lemmas.Bool.{cases_Bool, cases_eq}
use Rattle.std.specs.Prelude.{if◌then◌else◌, is_some}
use Rattle.fis_view.specs.Frames.{Stamped}
use Rattle.host_memory.specs.Memory.{Memory}
use Rattle.port_errors.specs.Errors.{Errors, cause_of}
use Rattle.hba_fbs.specs.{declared.{register.Register.{Register, TheVariants.{Ci, Cmd, Fbs}}, report.TakeReport.TakeReport}, Issuing.aimed}
use Rattle.hba_fbs.specs.{Issuing.view_issued, Registers.falls, Sending.{Gives, Nothing, Outgoing, Unreadable, outgoing}, Taking.{ignores, port_of}}
use Rattle.hba_fbs.specs.{Views.{DeviceView, Port, stopped_view, view_of}, Writing.{cleared_by, is_device, view_after}}
use Rattle.hba_laws.specs.Hosts as event
use Rattle.hba_laws.specs.Hosts.{HostEvent}
use Rattle.hba_driver.specs.{declared.mode.Mode.TheVariants.Switching, Events.{IsSoundHost, events_over, shared_by}, HostTurns.{Does, DoesAll, Host}}
use Rattle.hba_driver.specs.{HostTurns.{HostTurn, Polled, Pushed, Put, Submitted, Ticked, Ticks, Took, sight_in}, Seeing.Sight}
use Rattle.hba_driver.proofs.Door.{each_run_tells, faulty_shown, sight_is, turns_are_events}
use Rattle.world_rests.proofs.Slot31.{AreQuiet, IsQuiet, are_quiet}

-- the device has no fault at the port
abbrev pub IsUnfaulted : ℕ → Port → Type 0
IsUnfaulted n port = (view_of n port).fault ≡ None

fault_as : (n : ℕ) (old new : Port) → view_of n new ≡ view_of n old → IsUnfaulted n old → IsUnfaulted n new
fault_as n old new same none = ap (λ (v : DeviceView). v.fault) same ∙ none

port_as : (n : ℕ) (old new : Port) → new ≡ old → IsUnfaulted n old → IsUnfaulted n new
port_as n old new same none = subst (IsUnfaulted n) (sym same) none

-- where the driver sees no faulty device there is none
pub none_faulty : (h : Host) → IsSoundHost h → h.port.errors.port ≡ None → (sight_in h).faulty ≡ None → (n : ℕ) → IsUnfaulted n h.port
none_faulty h sound whole clear = by_reported h.port.errors.reported refl
  where
    by_reported : (o : Option ℕ) → h.port.errors.reported ≡ o → (n : ℕ) → IsUnfaulted n h.port
    by_reported None is = sound.ruled.faults.none_is_marked is
    by_reported (Some first) is = λ n.
        let shown = faulty_shown h.port h.memory sound.ruled whole (ap is_some is) in
        let wrong : Some shown.0 ≡ None = sym shown.1 ∙ sym (ap (λ (v : Sight). v.faulty) (sight_is h sound)) ∙ clear in
        absurd (cc)

module _ (n : ℕ) (low : n < 16) where
  -- ---- a tick

  register_none : (r : Register) (old : Port) (memory : Memory) (value : ℕ) → IsUnfaulted n old → (view_after r old memory value n).fault ≡ None
  unfolding view_after
  register_none Cmd old memory value none = by_fall (falls old.registers value)
    where
      by_fall : (b : Bool) → (if b then stopped_view (view_of n old) else view_of n old).fault ≡ None
      by_fall true = refl
      by_fall false = none
  register_none Ci old memory value none = by_aim (n == aimed old.registers memory.structure value)
    where
      by_aim : (b : Bool) → (if b then view_issued old.registers memory value (view_of n old) else view_of n old).fault ≡ None
      by_aim true = none
      by_aim false = none
  register_none Fbs old memory value none = by_device (is_device n (cleared_by old.errors value))
    where
      by_device : (b : Bool) → (if b then stopped_view (view_of n old) else view_of n old).fault ≡ None
      by_device true = refl
      by_device false = none
  register_none other old memory value none = none

  event_none : (e : HostEvent) (old new : event.Host) → IsQuiet e → event.Does old e new → IsUnfaulted n old.port → IsUnfaulted n new.port
  event_none (event.Took frame report) old new quiet does none = absurd quiet
  event_none (event.Gave frame) old new quiet does none = absurd quiet
  event_none (event.Wrote register value) old new quiet does none = ap (λ (v : DeviceView). v.fault) (does.1.views n low) ∙ register_none register old.port old.memory value none
  event_none (event.Flushed dev) old new quiet does none = elim (cases_eq n dev) [
    | inl own ↦ ap (λ (k : ℕ). (view_of k new.port).fault) own ∙ ap (λ (v : DeviceView). v.fault) does.0.own
    | inr other ↦ fault_as n old.port new.port (does.0.others n other) none
  ]
  event_none other old new quiet does none = port_as n old.port new.port does.1 none

  events_none : (es : List HostEvent) (old new : event.Host) → AreQuiet es → event.Runs old es new → IsUnfaulted n old.port → IsUnfaulted n new.port
  events_none [] old new quiet runs none = subst (λ (h : event.Host). IsUnfaulted n h.port) (sym runs) none
  events_none (e ∷ es) old new quiet runs none = events_none es runs.0 new quiet.1 runs.2 (event_none e old runs.0 quiet.0 runs.1 none)

  tick_none : (old new : Host) (acted : Bool) → IsSoundHost old → Ticks old acted new → IsUnfaulted n old.port → IsUnfaulted n new.port
  tick_none old new acted sound ticks none =
      let run : DoesAll old (Ticked acted ∷ []) new = (new, ticks, refl) in
      let tells = each_run_tells old new (Ticked acted ∷ []) run in
      events_none (events_over old new (Ticked acted ∷ []) run) (shared_by old) (shared_by new) (are_quiet (events_over old new (Ticked acted ∷ []) run) tells.taken tells.given)
      (turns_are_events Switching old new (Ticked acted ∷ []) run sound).runs none

  -- ---- a frame

  gives_none : (o : Outgoing) (old : Port) (memory : Memory) (frame : Option Stamped) (new : Port) → Gives o old memory frame new → IsUnfaulted n old → IsUnfaulted n new
  gives_none Nothing old memory frame new gives none = port_as n old new gives.1 none
  gives_none (Unreadable dev) old memory frame new gives none = ap (λ (p : Port). cause_of p.errors n) gives.1 ∙ none
  gives_none other old memory None new gives none = absurd gives
  gives_none other old memory (Some f) new gives none = ap (λ (e : Errors). cause_of e n) gives.errors ∙ none

  took_none : (old new : Host) (frame : List ℕ) (report : TakeReport) → Does old (Took frame report) new → port_of frame ≢ n → IsUnfaulted n old.port → IsUnfaulted n new.port
  took_none old new frame report does other none = elim (cases_Bool (ignores (port_of frame) old.port frame)) [
    | inl skips ↦ port_as n old.port new.port (does.ignored skips).port none
    | inr hears ↦ fault_as n old.port new.port ((does.heard hears).others n (λ same. other (sym same))) none
  ]

-- the frame that is taken, if it is one of the device
abbrev pub IsBeside : ℕ → HostTurn → Type 0
IsBeside n (Took frame report) = port_of frame ≢ n
IsBeside n turn = Unit {0}

-- a turn that takes no frame of the device gives it no fault
pub turn_none : (n : ℕ) → n < 16 → (old new : Host) (t : HostTurn) → IsSoundHost old → Does old t new → IsBeside n t → IsUnfaulted n old.port → IsUnfaulted n new.port
turn_none n low old new (Took frame report) sound does other none = took_none n low old new frame report does other none
turn_none n low old new (Pushed frame) sound does other none = gives_none n low (outgoing old.port old.memory) old.port old.memory frame new.port does.gives none
turn_none n low old new (Ticked acted) sound does other none = tick_none n low old new acted sound does none
turn_none n low old new (Submitted dev request ticket) sound does other none = port_as n old.port new.port does.port none
turn_none n low old new (Polled c) sound does other none = port_as n old.port new.port does.port none
turn_none n low old new (Put at bytes) sound does other none = port_as n old.port new.port does.port none

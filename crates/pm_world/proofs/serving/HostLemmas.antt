-- For `ports_rest_at_a_flush`. A host that serves a disk honestly goes on to do so at each step of a world.
use Rattle.std.proofs.Common.{◌≡◌, ◌≢◌, ◌==◌, ℕ, ◌<◌, Bool, true, false, List, [], ◌∷◌, ◌++◌, drop, length, map, refl, sym, ap, subst, ◌∙◌, inl, inr}
use Rattle.std.proofs.{Common.{Option, Some, None, Ok}, lemmas.List.{append-nil}}
use Rattle.std.specs.Prelude.{◌⊎◌, if◌then◌else◌}
use Rattle.fis_view.specs.{Frames.{IsFrame, Stamped, marked}, Seen.seen}
use Rattle.host_memory.specs.Memory.{is_memory_size}
use Rattle.hba_fbs.specs.{declared.report.TakeReport.TakeReport, Taking.port_of}
use Rattle.disk_model.specs.{Ends.IsRight, Histories.{Happening, Plugged, Received, Sent}, Ledger.ledger}
use Rattle.multiplier.specs.State.{pm_port}
use Rattle.hba_laws.specs.{Client.Touches, Delivering.touches_after}
use Rattle.hba_driver.specs.{declared.request.{Request.Request, Ticket.Ticket}, Events.{events_over, shared_by}, HostTurns.{DoesAll, Host, HostTurn}}
use Rattle.hba_driver.specs.{HostTurns.{Polled, Pushed, Put, Submitted, Ticked, Took}, Steady.{IsCalmTick, IsFlushTick}}
use Rattle.disk_simulation.specs.{Heard.IsTakenWell, Joined.IsShort, Same.SlotCommand}
use Rattle.disk_recovery.specs.Kept.{CalmTurnsKeep, FlushOpens, IsCalmTurn, IsServedHonestly, OpensHonestly, PushesKeep, ServesOn, TakesKeep}
use Rattle.disk_recovery.specs.Kept.{given_to}
use Rattle.disk_recovery.proofs.Door.{calm_turns_keep, flush_opens, opens_honestly, pushes_keep, takes_keep}
use Rattle.pm_world.specs.{Places.{Places, Queue}, Rules.{CameRule, DiskSendRule, DiskTakeRule, GoneRule, InjectRule, PmDownRule, PmFromDeviceRule}}
use Rattle.pm_world.specs.{Rules.{PmPresenceRule, Rule}, Turns.turn_of, declared.step.{Step.Step, Answer.Answer}, HostTouches.{AreTouched, goes}}
use Rattle.pm_world.specs.PathEnds.{for_port}
use Rattle.pm_world.specs.declared.step.Step.TheVariants as step
use Rattle.pm_world.specs.declared.step.Answer.TheVariants as answer
use Rattle.pm_world.proofs.{turns.HostFold.rule_does, steps.Steps.{at_both, at_device}, serving.{FrameLemmas.pushes_frame, GivenLemmas.HasGiven}}
use Rattle.pm_world.proofs.{serving.GivenLemmas.host_gives, paths.PathLemmas.drop_front}

-- ## The host

-- what a driver keeps of a disk
pub record DriversServe : Type 0 where
  pub starts : OpensHonestly
  pub opens : FlushOpens
  pub calm : CalmTurnsKeep
  pub takes : TakesKeep
  pub pushes : PushesKeep

pub drivers_serve : DriversServe
drivers_serve = record { starts = opens_honestly; opens = flush_opens; calm = calm_turns_keep; takes = takes_keep; pushes = pushes_keep }

-- it serves disk n honestly, after these turns, with these FISes of the disk since the disk was
-- plugged in
pub record HostOn (n len : ℕ) (turns : List HostTurn) (h : Host) (given : List Happening) : Type 0 where
  pub commands : ℕ → SlotCommand
  pub touches : Touches
  pub serves : IsServedHonestly n h given commands touches
  pub touched : AreTouched len turns h touches

module _ (law : DriversServe) (n len : ℕ) (below : n < 15) (right : is_memory_size len ≡ true) where
  module _ (turns : List HostTurn) (old : Host) (given : List Happening) (h : HostOn n len turns old given) where
    on_served : (t : HostTurn) (new : Host) (run : DoesAll old (t ∷ []) new) (later : List Happening) → ServesOn n old t new run later h.touches
        → HostOn n len (turns ++ t ∷ []) new later
    on_served t new run later s = record {
      commands = s.next;
      touches = touches_after h.touches (shared_by old) (shared_by new) (events_over old new (t ∷ []) run) s.serves.runs;
      serves = s.honestly;
      touched = goes turns t old new h.touches run s.serves h.touched;
    }

    pub on_calm : (t : HostTurn) (new : Host) → DoesAll old (t ∷ []) new → IsCalmTurn n old t → HostOn n len (turns ++ t ∷ []) new given
    on_calm t new run calm = on_served t new run given (law.calm n old t new run given h.commands h.touches below calm h.serves)

    pub on_flush : (new : Host) → DoesAll old (Ticked true ∷ []) new → IsFlushTick n old → HostOn n len (turns ++ Ticked true ∷ []) new (Plugged ∷ [])
    on_flush new run flush =
        on_served (Ticked true) new run (Plugged ∷ []) (law.opens n old true new run h.touches below flush h.serves.sound h.serves.served)

    pub on_push : (frame : Option Stamped) (new : Host) → DoesAll old (Pushed frame ∷ []) new → ((f : Stamped) → frame ≡ Some f → IsFrame f.bytes)
        → HostOn n len (turns ++ Pushed frame ∷ []) new (given ++ given_to n frame)
    on_push frame new run frames =
        on_served (Pushed frame) new run (given ++ given_to n frame) (law.pushes n old frame new run given h.commands h.touches below frames h.serves)

    pub on_take : (plain : List ℕ) (report : TakeReport) (new : Host) → DoesAll old (Took (marked plain n) report ∷ []) new → IsFrame plain
        → port_of (marked plain n) ≡ n → IsTakenWell (shared_by old) (marked plain n) report (shared_by new) → IsRight (ledger given) (seen plain)
        → IsShort (seen plain) → HostOn n len (turns ++ Took (marked plain n) report ∷ []) new (given ++ Sent plain ∷ [])
    on_take plain report new run framed port taken is_right short =
        on_served (Took (marked plain n) report) new run (given ++ Sent plain ∷ [])
        (law.takes n old plain report new run given h.commands h.touches below framed port taken is_right short h.serves)

    pub on_none : (new : Host) → new ≡ old → HostOn n len (turns ++ []) new given
    on_none new same =
        subst (λ (ts : List HostTurn). HostOn n len ts new given) (sym (append-nil turns))
        (subst (λ (x : Host). HostOn n len turns x given) (sym same) h)

-- ## The turn of a step

pub idle_turn : (old new : Places) (s : Step) → (turn_of old s answer.Idle new ≡ []) ⊎ (turn_of old s answer.Idle new ≡ Pushed None ∷ [])
idle_turn old new step.HostPush = inr refl
idle_turn old new _ = inl refl

pub record IsSubmit (turns : List HostTurn) (ticket : ℕ) : Type 0 where
  pub dev : ℕ
  pub request : Request
  pub is : turns ≡ Submitted dev request ticket ∷ []

pub submitted_turn : (old new : Places) (s : Step) (ticket : Ticket) → (turn_of old s (answer.Submitted ticket) new ≡ [])
    ⊎ IsSubmit (turn_of old s (answer.Submitted ticket) new) ticket.0
submitted_turn old new (step.Submit dev request) ticket = inr (record { dev = dev; request = request; is = refl })
submitted_turn old new _ ticket = inl refl

pub record IsPut (turns : List HostTurn) : Type 0 where
  pub at : ℕ
  pub bytes : List ℕ
  pub is : turns ≡ Put at bytes ∷ []

pub put_turn : (old new : Places) (s : Step) → (turn_of old s answer.Put new ≡ []) ⊎ IsPut (turn_of old s answer.Put new)
put_turn old new (step.Put at bytes) = inr (record { at = at; bytes = bytes; is = refl })
put_turn old new _ = inl refl

-- a step with such an answer is not a turn of the host
abbrev pub IsNoTurn : Answer → Type 0
IsNoTurn (answer.Took port conn number bytes report) = ⊥
IsNoTurn answer.Pushed = ⊥
IsNoTurn answer.Ticked = ⊥
IsNoTurn answer.Idle = ⊥
IsNoTurn (answer.Submitted ticket) = ⊥
IsNoTurn (answer.Polled completion) = ⊥
IsNoTurn answer.Put = ⊥
IsNoTurn a = Prim.Unit {0}

pub none_told : (old new : Places) (s : Step) (a : Answer) → IsNoTurn a → turn_of old s a new ≡ []
none_told old new s (answer.Took port conn number bytes report) quiet = absurd quiet
none_told old new s answer.Pushed quiet = absurd quiet
none_told old new s answer.Ticked quiet = absurd quiet
none_told old new s answer.Idle quiet = absurd quiet
none_told old new s (answer.Submitted ticket) quiet = absurd quiet
none_told old new s (answer.Polled completion) quiet = absurd quiet
none_told old new s answer.Put quiet = absurd quiet
none_told old new (step.Put at bytes) a quiet = refl
none_told old new s a quiet = refl

-- what is pushed is what the link has now and did not have before
pub pushed_turn : (old new : Places) (s : Step) → Rule old s (Ok answer.Pushed) new
    → turn_of old s answer.Pushed new ≡ map (λ frame. Pushed (Some frame)) (drop (length old.downward.frames) new.downward.frames)
pushed_turn old new (step.Came m) rule = absurd (at_device old m answer.Pushed new (CameRule m) rule).rule.1
pushed_turn old new (step.Gone m) rule = absurd (at_device old m answer.Pushed new (GoneRule m) rule).rule.1
pushed_turn old new (step.DiskSend m) rule = absurd (at_device old m answer.Pushed new (DiskSendRule m) rule).rule.1
pushed_turn old new (step.Inject m given) rule = absurd (at_device old m answer.Pushed new (InjectRule m given) rule).rule.1
pushed_turn old new (step.DiskTake m) rule = absurd (at_device old m answer.Pushed new (DiskTakeRule m) rule).rule
pushed_turn old new (step.PmPresence m) rule = absurd (at_both old m answer.Pushed new (PmPresenceRule m) rule).rule
pushed_turn old new (step.PmFromDevice m) rule = absurd (at_both old m answer.Pushed new (PmFromDeviceRule m) rule).rule
pushed_turn old new (step.PmDown m) rule = absurd (at_both old m answer.Pushed new (PmDownRule m) rule).rule
pushed_turn old new step.HostPush rule = refl
pushed_turn old new other rule = absurd rule.0

-- ## A step

module _ (law : DriversServe) (n len : ℕ) (below : n < 15) (right : is_memory_size len ≡ true) (turns : List HostTurn) (old : Places) (s : Step) (new : Places)
    (given : List Happening) (h : HostOn n len turns old.host given) where
  -- a step that is this turn
  at_turn : (ts : List HostTurn) (t : HostTurn) (later : List Happening) → ts ≡ t ∷ [] → DoesAll old.host ts new.host
      → (DoesAll old.host (t ∷ []) new.host → HostOn n len (turns ++ t ∷ []) new.host later) → HostOn n len (turns ++ ts) new.host later
  at_turn ts t later is does goes_on =
      subst (λ (us : List HostTurn). HostOn n len (turns ++ us) new.host later) (sym is)
      (goes_on (subst (λ (us : List HostTurn). DoesAll old.host us new.host) is does))

  -- and a step that is none
  no_turn : (ts : List HostTurn) → ts ≡ [] → DoesAll old.host ts new.host → HostOn n len (turns ++ ts) new.host given
  no_turn ts is does =
      subst (λ (us : List HostTurn). HostOn n len (turns ++ us) new.host given) (sym is)
      (on_none law n len below right turns old.host given h new.host (subst (λ (us : List HostTurn). DoesAll old.host us new.host) is does))

  calm_turn : (ts : List HostTurn) (t : HostTurn) → ts ≡ t ∷ [] → DoesAll old.host ts new.host → IsCalmTurn n old.host t → HostOn n len (turns ++ ts) new.host given
  calm_turn ts t is does calm =
      at_turn ts t given is does (λ run. on_calm law n len below right turns old.host given h t new.host run calm)

  pub step_flushes : Rule old s (Ok answer.Ticked) new → IsFlushTick n old.host → HostOn n len (turns ++ turn_of old s answer.Ticked new) new.host (Plugged ∷ [])
  step_flushes rule flush =
      at_turn (turn_of old s answer.Ticked new) (Ticked true) (Plugged ∷ []) refl (rule_does old s answer.Ticked new rule)
      (λ run. on_flush law n len below right turns old.host given h new.host run flush)

  -- what it gives is what the device gets from what enters the host's link
  pub record HasPushed : Type 0 where
    pub frame : Stamped
    pub link : new.downward.frames ≡ old.downward.frames ++ frame ∷ []
    pub host : HostOn n len (turns ++ turn_of old s answer.Pushed new) new.host (given ++ map (λ bytes. Received bytes) (for_port n frame))

  same_given : (b : Bool) (x : List ℕ) → (if b then Received x ∷ [] else []) ≡ map (λ bytes. Received bytes) (if b then x ∷ [] else [])
  same_given true x = refl
  same_given false x = refl

  pub step_pushes : Rule old s (Ok answer.Pushed) new → HasPushed
  step_pushes rule =
      let g : HasGiven old new = host_gives old new s rule in
      let link : new.downward.frames ≡ old.downward.frames ++ g.frame ∷ [] = ap (λ (q : Queue). q.frames) g.link in
      let one : turn_of old s answer.Pushed new ≡ Pushed (Some g.frame) ∷ [] =
      pushed_turn old new s rule
      ∙ ap (λ (xs : List Stamped). map (λ frame. Pushed (Some frame)) (drop (length old.downward.frames) xs)) link
      ∙ ap (λ (xs : List Stamped). map (λ frame. Pushed (Some frame)) xs) (drop_front old.downward.frames (g.frame ∷ [])) in
      record {
        frame = g.frame;
        link = link;
        host =
            subst (λ (xs : List Happening). HostOn n len (turns ++ turn_of old s answer.Pushed new) new.host (given ++ xs))
            (same_given (pm_port g.frame == n) (marked g.frame.bytes 0))
            (at_turn (turn_of old s answer.Pushed new) (Pushed (Some g.frame)) (given ++ given_to n (Some g.frame)) one (rule_does old s answer.Pushed new rule)
            (λ run. on_push law n len below right turns old.host given h (Some g.frame) new.host run
            (λ f is. let same : g.frame ≡ f = cc is in subst (λ (x : Stamped). IsFrame x.bytes) same
            (pushes_frame len right turns old.host new.host h.touches h.touched g.frame g.pushes))));
      }

  -- the other steps leave what was given and heard as it was
  abbrev pub IsBeside : Answer → Type 0
  IsBeside (answer.Took port conn number bytes report) = n ≢ port_of bytes
  IsBeside answer.Pushed = ⊥
  IsBeside answer.Ticked = IsCalmTick n old.host
  IsBeside a = Prim.Unit {0}

  no_frame : (f : Stamped) → None ≡ Some f → IsFrame f.bytes
  no_frame f e = cc e

  pub step_keeps : (a : Answer) → Rule old s (Ok a) new → IsBeside a → HostOn n len (turns ++ turn_of old s a new) new.host given
  step_keeps (answer.Took port conn number bytes report) rule beside =
      calm_turn (turn_of old s (answer.Took port conn number bytes report) new) (Took bytes report) refl
      (rule_does old s (answer.Took port conn number bytes report) new rule) beside
  step_keeps answer.Pushed rule beside = absurd beside
  step_keeps answer.Ticked rule beside = calm_turn (turn_of old s answer.Ticked new) (Ticked true) refl (rule_does old s answer.Ticked new rule) beside
  step_keeps answer.Idle rule beside = elim (idle_turn old new s) [
    | inl none ↦ no_turn (turn_of old s answer.Idle new) none (rule_does old s answer.Idle new rule)
    | inr one ↦
        subst (λ (xs : List Happening). HostOn n len (turns ++ turn_of old s answer.Idle new) new.host xs) (append-nil given)
        (at_turn (turn_of old s answer.Idle new) (Pushed None) (given ++ []) one (rule_does old s answer.Idle new rule)
        (λ run. on_push law n len below right turns old.host given h None new.host run no_frame))
  ]
  step_keeps (answer.Submitted ticket) rule beside = elim (submitted_turn old new s ticket) [
    | inl none ↦ no_turn (turn_of old s (answer.Submitted ticket) new) none (rule_does old s (answer.Submitted ticket) new rule)
    | inr one ↦
        calm_turn (turn_of old s (answer.Submitted ticket) new) (Submitted one.dev one.request ticket.0) one.is
        (rule_does old s (answer.Submitted ticket) new rule) tt
  ]
  step_keeps (answer.Polled completion) rule beside =
      calm_turn (turn_of old s (answer.Polled completion) new) (Polled completion) refl (rule_does old s (answer.Polled completion) new rule) tt
  step_keeps answer.Put rule beside = elim (put_turn old new s) [
    | inl none ↦ no_turn (turn_of old s answer.Put new) none (rule_does old s answer.Put new rule)
    | inr one ↦ calm_turn (turn_of old s answer.Put new) (Put one.at one.bytes) one.is (rule_does old s answer.Put new rule) tt
  ]
  step_keeps other rule beside = no_turn (turn_of old s other new) (none_told old new s other tt) (rule_does old s other new rule)

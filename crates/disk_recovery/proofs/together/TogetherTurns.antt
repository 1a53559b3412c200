-- For `calm_turns_serve_on`. The driver goes on to serve a disk over a calm turn, from where both began anew, and
-- begins to there.
use Rattle.std.proofs.Common.{◌≡◌, ◌≢◌, ℕ, zero, suc, ◌^◌, ◌<◌, ◌⊎◌, Bool, true, false, List, [], ◌∷◌, ◌++◌, refl, sym, ◌∙◌, ap, subst, inl, inr, arith, Option, Some, None, length}
use Rattle.std.specs.Prelude.{if◌then◌else◌, ◌==◌}
use Rattle.std.proofs.lemmas.Bool.{ne_eqb}
use Rattle.host_memory.specs.Memory.{Memory}
use Rattle.hba_commands.specs.declared.command.Command as issued_command
use Rattle.hba_fbs.specs.{declared.{register.Register.{Register, TheVariants.Ci}, registers.Registers.Registers}, Issuing.{aimed, asked, view_issued}}
use Rattle.hba_fbs.specs.{Views.{DeviceView, view_of}, Writing.view_after}
use Rattle.disk_model.specs.{Histories.Happening, Ledger.{Ledger, ledger}}
use Rattle.hba_laws.specs.{Client.{Touches, own}, Delivering.{history_after, touched, touches_after}, History.History, Hosts.{HostEvent, Runs}}
use Rattle.hba_laws.specs.{Sound.AreHosts, Between.{history_below, with_issued}}
use Rattle.hba_laws.specs.Hosts as event
use Rattle.hba_laws.proofs.Door.{histories_are_parts, own_app, own_below_is}
use Rattle.disk_simulation.specs.{Anew.IsHostedOn, Calm.{AreCalm, IsCalm, IssuesFor, WritesIssues}, Elsewhere.{IsElsewhere, LeavesDevice}}
use Rattle.disk_simulation.specs.{Together.is_sent, Same.SlotCommand}
use Rattle.disk_simulation.proofs.Door.{calm_leaves_together, hosted_on_is_kept, others_leave_device}
use Rattle.hba_driver.specs.{Drivers.entry_at, Events.{events_over, shared_by}, HostTurns.{DoesAll, Host, HostTurn, Took, Pushed, Ticked, Polled}}
use Rattle.hba_driver.specs.{Served.RunServes, Steady.{HasSignature, IsSteadyTurn, Issues, slot_in}, Tended.{IsSteplessTurn, IsTended, TendsOn}}
use Rattle.hba_driver.proofs.Door.{asked_is, rows_stay, sound_turn, stepless_slot, tick_beside, turn_tended, turns_serve}
use Rattle.disk_recovery.specs.{Kept.IsCalmTurn, Together.{CalmTurnsKeepOn, IsServedOn, ServesOnAnew}, Between.{AreAway, CalmEnds}}
use Rattle.disk_recovery.proofs.honest.{AwayLemmas.{beside_away, calm_ends}, TurnLemmas.{after, command_in, named_then, tag_in, told_by}}

-- ---- calm runs

pub calm_runs_on : (n : ℕ) (base : List Happening) (old new : event.Host) (events : List HostEvent) (run : Runs old events new) (given : List Happening) (commands next : ℕ → SlotCommand) (past : History) → n < 15 → AreHosts old new events run
    → AreCalm n (ledger given) commands old new events run next → IsHostedOn n base old given commands past → IsHostedOn n base new given next (history_after n past old new events run)
calm_runs_on n base old new [] run given commands next past below hosts calm hosted =
    subst (λ (h : event.Host). IsHostedOn n base h given next past) (sym run) (subst (λ (f : ℕ → SlotCommand). IsHostedOn n base old given f past) (sym calm) hosted)
calm_runs_on n base old new (e ∷ events) run given commands next past below hosts calm hosted =
    calm_runs_on n base run.0 new events run.2 given calm.0 next (own n (touched old e) ++ past) below hosts.1 calm.2
    (calm_leaves_together n base old run.0 e given commands calm.0 past below hosts.0 run.1 calm.1 hosted)

-- they begin and end no software reset of the device
issued_state : (registers : Registers) (memory : Memory) (value : ℕ) (v : DeviceView) (b : Bool) → (if b then view_issued registers memory value v else v).state.resetting ≡ v.state.resetting
issued_state registers memory value v true = refl
issued_state registers memory value v false = refl

written_state : (n value : ℕ) (k : Ledger) (old mid : event.Host) (commands next : ℕ → SlotCommand) (register : Register) → n < 16 → event.Does old (event.Wrote register value) mid → WritesIssues n k old commands register value next
    → (view_of n mid.port).state.resetting ≡ (view_of n old.port).state.resetting
unfolding view_after
written_state n value k old mid commands next Ci small does is =
    ap (λ (v : DeviceView). v.state.resetting) (does.1.views n small) ∙ issued_state old.port.registers old.memory value (view_of n old.port) (n == aimed old.port.registers old.memory.structure value)
written_state n value k old mid commands next other small does is = absurd is

issues_state : (n : ℕ) (k : Ledger) (old mid : event.Host) (commands next : ℕ → SlotCommand) (e : HostEvent) → n < 16 → event.Does old e mid → IssuesFor n k old commands e next → (view_of n mid.port).state.resetting ≡ (view_of n old.port).state.resetting
issues_state n k old mid commands next (event.Wrote register value) small does is = written_state n value k old mid commands next register small does is
issues_state n k old mid commands next other small does is = absurd is

one_state : (n : ℕ) (k : Ledger) (old mid : event.Host) (commands next : ℕ → SlotCommand) (e : HostEvent) → n < 16 → event.Does old e mid → IsCalm n k old commands e next → (view_of n mid.port).state.resetting ≡ (view_of n old.port).state.resetting
one_state n k old mid commands next e small does (inl away) =
    let left : LeavesDevice n old e mid = others_leave_device n old mid e small does away.0 in ap (λ (v : DeviceView). v.state.resetting) left.view
one_state n k old mid commands next e small does (inr is) = issues_state n k old mid commands next e small does is

calm_state : (n : ℕ) (k : Ledger) (old new : event.Host) (events : List HostEvent) (run : Runs old events new) (commands next : ℕ → SlotCommand) → n < 16 → AreCalm n k commands old new events run next → (view_of n new.port).state.resetting ≡ (view_of n old.port).state.resetting
calm_state n k old new [] run commands next small calm = ap (λ (h : event.Host). (view_of n h.port).state.resetting) run
calm_state n k old new (e ∷ events) run commands next small calm =
    calm_state n k run.0 new events run.2 calm.0 next small calm.2 ∙ one_state n k old run.0 commands calm.0 e small run.1 calm.1

-- ---- what is issued in another slot leaves slot 30

sent_with : (memory : Memory) (m : ℕ) (o : Option issued_command.Command) (past : History) → ((command : issued_command.Command) → o ≡ Some command → m ≢ 30) → is_sent 30 past ≡ true → is_sent 30 (with_issued memory m o past) ≡ true
sent_with memory m None past other is = is
sent_with memory m (Some command) past other is = ap (λ (b : Bool). if b then false else is_sent 30 past) (ne_eqb m 30 (other command refl)) ∙ is

sent_below : (memory : Memory) (commands : ℕ → Option issued_command.Command) (past : History) (m : ℕ) → ((s : ℕ) (command : issued_command.Command) → commands s ≡ Some command → s ≢ 30) → is_sent 30 past ≡ true → is_sent 30 (history_below memory commands past m) ≡ true
sent_below memory commands past zero other is = is
sent_below memory commands past (suc m) other is = sent_with memory m (commands m) (history_below memory commands past m) (other m) (sent_below memory commands past m other is)

sent_issues : (n slot : ℕ) (old : event.Host) (e : HostEvent) (past : Touches) → slot ≢ 30 → Issues n slot old e → is_sent 30 (own n past) ≡ true → is_sent 30 (own n (touched old e ++ past)) ≡ true
sent_issues n slot old e past other i is =
    let asks : ℕ → Option issued_command.Command = asked old.port.registers old.memory (2 ^ slot) in
    let only : (s : ℕ) (command : issued_command.Command) → asked old.port.registers old.memory (2 ^ slot) s ≡ Some command → s ≢ 30 =
    λ s command here same. other (sym (asked_is old.port old.memory slot s command here).slot_is ∙ same) in
    let there : is_sent 30 (own n (touched old (event.Wrote Ci (2 ^ slot)) ++ past)) ≡ true =
    ap (is_sent 30) (own_app n (touched old (event.Wrote Ci (2 ^ slot))) past
    ∙ ap (λ (d : ℕ). own n (Rattle.hba_laws.specs.Delivering.issued_below d old.memory (asked old.port.registers old.memory (2 ^ slot)) 32) ++ own n past) i.for_dev
    ∙ own_below_is n old.memory (asked old.port.registers old.memory (2 ^ slot)) (own n past) 32)
    ∙ sent_below old.memory (asked old.port.registers old.memory (2 ^ slot)) (own n past) 32 only is in
    subst (λ (x : HostEvent). is_sent 30 (own n (touched old x ++ past)) ≡ true) (sym i.is) there

sent_away : (n slot : ℕ) (old new : event.Host) (events : List HostEvent) (run : Runs old events new) (past : Touches) → n < 16 → slot ≢ 30 → AreAway n slot old new events run → is_sent 30 (own n past) ≡ true
    → is_sent 30 (own n (touches_after past old new events run)) ≡ true
sent_away n slot old new [] run past small other away is = is
sent_away n slot old new (e ∷ events) run past small other away is =
    sent_away n slot run.0 new events run.2 (touched old e ++ past) small other away.1 (by_one away.0)
  where
    by_one : IsElsewhere n old e ⊎ Issues n slot old e → is_sent 30 (own n (touched old e ++ past)) ≡ true
    by_one (inl elsewhere) =
        let left : LeavesDevice n old e run.0 = others_leave_device n old run.0 e small run.1 elsewhere in
        ap (is_sent 30) (own_app n (touched old e) past ∙ ap (λ (h : History). h ++ own n past) left.history) ∙ is
    by_one (inr i) = sent_issues n slot old e past other i is

-- ---- a calm turn

module _ (n : ℕ) (base : List Happening) (old : Host) (turn : HostTurn) (new : Host) (run : DoesAll old (turn ∷ []) new) (given : List Happening) (commands : ℕ → SlotCommand) (touches : Touches) (below : n < 15)
    (h : IsServedOn n base old given commands touches) where
  abbrev serves : RunServes old new (turn ∷ []) run touches
  serves = turns_serve.runs old new (turn ∷ []) run h.sound touches h.served

  -- the events of the turn are none of the disk's, or issue for it
  goes_on : (slot : ℕ) → AreAway n slot (shared_by old) (shared_by new) (events_over old new (turn ∷ []) run) (turns_serve.runs old new (turn ∷ []) run h.sound touches h.served).runs
      → TendsOn n old turn new → IsTended n new.driver → (IsSteplessTurn old turn → slot ≢ 30) → (HasSignature n new → HasSignature n old) → ServesOnAnew n base old turn new run given given commands touches
  goes_on slot away tends tended other rows =
      let small : n < 16 = omega (arith, below) in
      let c : SlotCommand = told_by (length (ledger given).writes) (command_in slot (entry_at new.driver.entries slot)) in
      let tags : (s : ℕ) → (commands s).command.tag ≡ s = (hosted_on_is_kept n base (shared_by old) given commands (own n touches) below h.hosted).joined.same.tags in
      let ends : CalmEnds n slot (ledger given) (told_by (length (ledger given).writes) (command_in slot (entry_at new.driver.entries slot))) commands (shared_by old) (shared_by new) (events_over old new (turn ∷ []) run) serves.runs touches =
      calm_ends n slot (ledger given) (told_by (length (ledger given).writes) (command_in slot (entry_at new.driver.entries slot))) (tag_in slot (entry_at new.driver.entries slot)) (omega arith) commands (shared_by old) (shared_by new) (events_over old new (turn ∷ []) run) serves.runs touches small tags away in
      let hosted : IsHostedOn n base (shared_by new) given ends.next (history_after n (own n touches) (shared_by old) (shared_by new) (events_over old new (turn ∷ []) run) serves.runs) =
      calm_runs_on n base (shared_by old) (shared_by new) (events_over old new (turn ∷ []) run) serves.runs given commands ends.next (own n touches) below serves.sound.hosts ends.calm h.hosted in
      let state : (view_of n new.port).state.resetting ≡ (view_of n old.port).state.resetting = calm_state n (ledger given) (shared_by old) (shared_by new) (events_over old new (turn ∷ []) run) serves.runs commands ends.next small ends.calm in
      record {
        next = ends.next;
        serves = serves;
        on = record {
          sound = sound_turn old turn new (after old turn new run) h.sound;
          served = serves.last;
          hosted = subst (λ (p : History). IsHostedOn n base (shared_by new) given ends.next p) (sym (histories_are_parts n touches (shared_by old) (shared_by new) (events_over old new (turn ∷ []) run) serves.runs)) hosted;
          tended = tended;
          named = named_then n old turn new (after old turn new run) commands ends.next touches (touches_after touches (shared_by old) (shared_by new) (events_over old new (turn ∷ []) run) serves.runs) below slot (length (ledger given).writes) h.served serves.last.bounded.slots h.named ends.fresh;
          signed = λ asked. elim (tends.asks asked) [
            | inl was ↦ h.signed was
            | inr more ↦ elim more [ inl shows ↦ h.row shows.0 shows.1 | inr over ↦ h.ended over.0 over.1 ]
          ];
          row = λ fine signs. elim (tends.well fine) [ inl was ↦ h.row was (rows signs) | inr asked ↦ h.signed asked ];
          ended = λ there off. h.ended (tends.releasing there) (sym state ∙ off);
          begun = λ there t here.
              let was = tends.begun there in
              let apart : slot ≢ 30 = other was.1 in
              sent_away n slot (shared_by old) (shared_by new) (events_over old new (turn ∷ []) run) serves.runs touches small apart away
              (h.begun was.0 t (elim (ends.fresh 30 t here) [ inl fresh ↦ absurd (apart (sym fresh.0)) | inr was ↦ was.0 ]));
          resets = λ set.
              let was = h.resets (sym state ∙ set) in
              (tends.awaiting was.0 (sym state ∙ set), was.1);
        };
        counted = λ s t here. elim (ends.fresh s t here) [
          | inl fresh ↦ inr (ap (λ (x : SlotCommand). x.since) fresh.1)
          | inr was ↦ inl was
        ];
      }

apart_31 : ◌≢◌ {A = ℕ} 31 30
apart_31 is = omega (arith, is)

pub calm_turn : (n : ℕ) (base : List Happening) (old : Host) (turn : HostTurn) (new : Host) (run : DoesAll old (turn ∷ []) new) (given : List Happening) (commands : ℕ → SlotCommand) (touches : Touches) → n < 15
    → IsCalmTurn n old turn → TendsOn n old turn new → IsTended n new.driver → IsServedOn n base old given commands touches → ServesOnAnew n base old turn new run given given commands touches
calm_turn n base old (Took frame report) new run given commands touches below calm tends tended h =
    let d = after old (Took frame report) new run in
    goes_on n base old (Took frame report) new run given commands touches below h 31 (inl calm, tt) tends tended (λ t. apart_31)
    (rows_stay n old (Took frame report) new (omega (arith, below)) d h.sound (inl (λ e. calm (sym e))))
calm_turn n base old (Pushed frame) new run given commands touches below calm tends tended h = absurd calm
calm_turn n base old (Ticked a) new run given commands touches below calm tends tended h =
    let d = after old (Ticked a) new run in
    let runs = (turns_serve.runs old new (Ticked a ∷ []) run h.sound touches h.served).runs in
    goes_on n base old (Ticked a) new run given commands touches below h (slot_in old)
    (beside_away n (slot_in old) (shared_by old) (shared_by new) (events_over old new (Ticked a ∷ []) run) runs (tick_beside n old a new run h.sound h.served.bounded calm runs))
    tends tended (stepless_slot old a)
    (rows_stay n old (Ticked a) new (omega (arith, below)) d h.sound calm)
calm_turn n base old (Polled c) new run given commands touches below calm tends tended h =
    let d = after old (Polled c) new run in
    goes_on n base old (Polled c) new run given commands touches below h 31 tt tends tended (λ t. apart_31)
    (rows_stay n old (Polled c) new (omega (arith, below)) d h.sound tt)
calm_turn n base old other new run given commands touches below calm tends tended h =
    let d = after old other new run in
    goes_on n base old other new run given commands touches below h 31 (inl tt, tt) tends tended (λ t. apart_31)
    (rows_stay n old other new (omega (arith, below)) d h.sound tt)

-- a turn that is calm for it is so for the driver
steady_of : (n : ℕ) (old : Host) (turn : HostTurn) → IsCalmTurn n old turn → IsSteadyTurn n old turn
steady_of n old (Pushed frame) calm = absurd calm
steady_of n old (Ticked a) calm = calm
steady_of n old other calm = tt

pub calm_tends : (n : ℕ) (base : List Happening) (old : Host) (turn : HostTurn) (new : Host) → DoesAll old (turn ∷ []) new → (given : List Happening) (commands : ℕ → SlotCommand) (touches : Touches) → n < 15 → IsCalmTurn n old turn
    → IsServedOn n base old given commands touches → TendsOn n old turn new
calm_tends n base old turn new run given commands touches below calm h = turn_tended n old turn new (omega (arith, below)) (after old turn new run) h.sound.drives (steady_of n old turn calm) h.tended

pub calm_turns_keep_on : CalmTurnsKeepOn
calm_turns_keep_on n base old turn new run given commands touches below calm never h =
    let tends : TendsOn n old turn new = calm_tends n base old turn new run given commands touches below calm h in
    calm_turn n base old turn new run given commands touches below calm tends (elim tends.next [ inl on ↦ on | inr reset ↦ absurd (never reset.0) ]) h

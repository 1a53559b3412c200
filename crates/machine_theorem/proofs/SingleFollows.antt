-- The number of the first byte that a Data FIS brings for a READ DMA is that of the Data which came since its command went.
use Rattle.std.proofs.Common.{◌≡◌, ◌⊎◌, ℕ, ◌+◌, ◌<◌, ◌&&◌, Bool, true, false, not, List, [], ◌∷◌, ◌++◌, append_assoc, drop, inl, inr, refl, sym, ap}
use Rattle.std.proofs.{Common.{subst, ◌∙◌, Option, Some, None, arith}, lemmas.{Bool.{false≢true, true≢false}, List.{length-drop}}}
use Rattle.std.specs.Prelude.{◌==◌, if◌then◌else◌}
use Rattle.fis_view.specs.Seen.{seen}
use Rattle.hba_commands.specs.declared.command.Command.{Command}
use Rattle.slots.specs.{Slots.{Issue, holds, is_control, issue_at, match_some}, Work.{is_dma, is_read}, declared.work.Kind.{Kind, TheVariants.DmaIn}}
use Rattle.slots.specs.declared.work.Kind.TheVariants.{Control}
use Rattle.hba_fbs.specs.{Registers.falls, Taking.port_of, Views.{Port, last_command, view_of}, declared.error.WriteError.WriteError}
use Rattle.hba_fbs.specs.declared.{report.Wrote.Wrote, turn.Turn.{Turn, TheVariants.{Feeds, Orders, Rests}}}
use Rattle.hba_laws.specs.{Agreement.IsTold, CoreHistories.{AreFramedBy, FillsFrom, turned_for, happened}, Cores.{AreCores, CoreEvent, IsCore}}
use Rattle.hba_laws.specs.{Cores.RunsBy, Delivering.{begun_by, event_sent, is_control_issue}, History.{Carried, Event as HistoryEvent, History}}
use Rattle.hba_laws.specs.Cores as core
use Rattle.hba_laws.specs.History as history
use Rattle.ahci_controller.specs.{Next.{is_halted, next_write, written}, States.ControllerState, Taking.{is_overflow, part_of, payload_of}}
use Rattle.ahci_controller.specs.declared.{next.Next.Next, taking.Took.Took}
use Rattle.ahci_controller.specs.declared.feeding.Fed.TheVariants as fed_answer
use Rattle.ahci_controller.specs.declared.next.Next.TheVariants as next_step
use Rattle.controller_laws.specs.{CoreEvents.{AreCoreEvents, of_event, of_next, of_turn}, Events.{Does, Event, IsController, Runs, Takes}}
use Rattle.controller_laws.specs.Events as call
use Rattle.sata_disk_books.specs.Counted.{Counted, more_by}
use Rattle.machine_theorem.specs.{Ending.HasNoQueued, Following.{AllHeardWell, HearsWell, told_call, told_calls}, Tags.once_if, Waits.commanded_in}
use Rattle.machine_theorem.specs.Waits.{is_command_issue, is_commanded, waits_in}
use Rattle.machine_theorem.proofs.{Ordered.last_kept, SetupHistory.{Follows, IsMild, NoneUp, carried_follows, mild_follows, nothing_up}}
use Rattle.machine_theorem.proofs.{SetupHistory.set_up_follows, SetupFrames.has_up, SetupCores.{Beside, first_core, told_next}, SetupCalls.CarriesAt}
use Rattle.machine_theorem.proofs.SetupCalls.{Laws, core_events, first_kept, hears_case, none_taken, taken_beside, told_same, up_now}
use Rattle.machine_theorem.proofs.SingleWell.{set_up_waits}

control_dma : (k : Kind) → is_control k ≡ true → is_dma k ≡ true → ⊥
control_dma Control e f = false≢true f
control_dma other e f = absurd (cc)

sent_mild : (b : Bool) (slot : ℕ) → IsMild (if b then history.SentControl slot else history.Sent slot)
sent_mild true slot = tt
sent_mild false slot = tt

module _ (laws : Laws) (n : ℕ) (low : n < 16) (slot : ℕ) where
  abbrev pub start : Option Counted
  start = Some (record { tag = slot; count = 0 })

  -- ---- a turn of the port

  -- A command that goes to the device is a Control; or it is that of the slot, and nothing came yet.
  abbrev IsRight : Option Counted → Port → Turn → Type 0
  IsRight t port (Orders dev s command) = (dev == n) ≡ true → (holds is_control_issue (issue_at port.slots s) ≡ true) ⊎ ((s ≡ slot) × (t ≡ start))
  IsRight t port (Feeds dev s offset len) = ⊥
  IsRight t port Rests = Unit {0}

  begun_case : (s : ℕ) (i : Issue) (e : HistoryEvent) (past : History) (t : Option Counted) (dma : Bool) → is_dma i.work.kind ≡ dma → IsMild e
      → (is_control i.work.kind ≡ true) ⊎ ((s ≡ slot) × (t ≡ start)) → Follows DmaIn past t
      → Follows DmaIn ((if dma then history.SetUp s 0 i.work.len (is_read i.work.kind) ∷ [] else []) ++ e ∷ past) t
  begun_case s i e past t false is mild right was = mild_follows DmaIn e past t mild was
  begun_case s i e past t true is mild (inl control) was = absurd (control_dma i.work.kind control is)
  begun_case s i e past t true is mild (inr its) was =
      set_up_follows DmaIn s 0 i.work.len (is_read i.work.kind) (e ∷ past) t
      (its.1 ∙ ap (λ (j : ℕ). Some (record { tag = j; count = 0 })) (sym its.0))

  begun_right : (s : ℕ) (o : Option Issue) (e : HistoryEvent) (past : History) (t : Option Counted) → IsMild e
      → (holds is_control_issue o ≡ true) ⊎ ((s ≡ slot) × (t ≡ start)) → Follows DmaIn past t → Follows DmaIn (begun_by s o ++ e ∷ past) t
  begun_right s None e past t mild right was = mild_follows DmaIn e past t mild was
  begun_right s (Some i) e past t mild right was = begun_case s i e past t (is_dma i.work.kind) refl mild right was

  order_right : (port : Port) (s : ℕ) (past : History) (t : Option Counted) → (holds is_control_issue (issue_at port.slots s) ≡ true) ⊎ ((s ≡ slot) × (t ≡ start))
      → Follows DmaIn past t → Follows DmaIn ((begun_by s (issue_at port.slots s) ++ event_sent port.slots s ∷ []) ++ past) t
  order_right port s past t right was =
      subst (λ (h : History). Follows DmaIn h t) (sym (append_assoc (begun_by s (issue_at port.slots s)) (event_sent port.slots s ∷ []) past))
      (begun_right s (issue_at port.slots s) (event_sent port.slots s) past t (sent_mild (holds is_control_issue (issue_at port.slots s)) s) right was)

  if_right : (b : Bool) (h past : History) (t : Option Counted) → (b ≡ true → Follows DmaIn (h ++ past) t) → Follows DmaIn past t
      → Follows DmaIn ((if b then h else []) ++ past) t
  if_right true h past t now was = now refl
  if_right false h past t now was = was

  turn_right : (port : Port) (turn : Turn) (bytes : List ℕ) (past : History) (t : Option Counted) → IsRight t port turn → Follows DmaIn past t
      → Follows DmaIn (turned_for n port turn bytes ++ past) t
  turn_right port Rests bytes past t right was = was
  turn_right port (Feeds dev s offset len) bytes past t right was = absurd right
  turn_right port (Orders dev s command) bytes past t right was =
      if_right (dev == n) (begun_by s (issue_at port.slots s) ++ event_sent port.slots s ∷ []) past t (λ own. order_right port s past t (right own) was) was

  -- the events of such a turn
  abbrev IsTurn : Option Counted → Port → CoreEvent → Type 0
  IsTurn t port (core.Chose turn bytes) = IsRight t port turn
  IsTurn t port (core.Commanded value) = Unit {0}
  IsTurn t port other = ⊥

  abbrev AllTurn : Option Counted → (old : Port) → (events : List CoreEvent) → (new : Port) → RunsBy old events new → Type 0
  AllTurn t old [] new run = Unit {0}
  AllTurn t old (e ∷ later) new run = IsTurn t old e × AllTurn t run.0 later new run.2

  event_right : (port : Port) (e : CoreEvent) (past : History) (t : Option Counted) → IsTurn t port e → Follows DmaIn past t → Follows DmaIn (happened n port e ++ past) t
  event_right port (core.Chose turn bytes) past t right was = turn_right port turn bytes past t right was
  event_right port (core.Commanded value) past t right was =
      if_right (falls port.registers value) (history.Emptied ∷ []) past t (λ e. mild_follows DmaIn history.Emptied past t tt was) was
  event_right port other past t right was = absurd right

  events_right : (events : List CoreEvent) (old new : Port) (run : RunsBy old events new) → AreCores old new events run → AreFramedBy events → (t : Option Counted)
      → AllTurn t old events new run → Beside DmaIn n old t → Beside DmaIn n new t
  events_right [] old new run cores frames t right was = subst (λ (p : Port). Beside DmaIn n p t) (sym run) was
  events_right (e ∷ later) old new run cores frames t right was =
      let next : IsCore run.0 = first_core later run.0 new run.2 cores.1 in
      events_right later run.0 new run.2 cores.1 frames.1 t right.1 (record {
        past = happened n old e ++ was.past;
        told = told_next DmaIn refl laws.views n low e old run.0 run.1 cores.0 next frames.0 was.past was.told;
        follows = event_right old e was.past t right.0 was.follows;
      })

  -- ---- a call that turns

  abbrev IsRightNext : Option Counted → ControllerState → Next → Type 0
  IsRightNext t old (next_step.Order dev s fis) =
      (i : Issue) → issue_at old.core.slots s ≡ Some i → (i.dev == n) ≡ true → (is_control i.work.kind ≡ true) ⊎ ((s ≡ slot) × (t ≡ start))
  IsRightNext t old other = Unit {0}

  issue_right : (old : ControllerState) (t : Option Counted) (s : ℕ) (o : Option Issue) (l : Option Command) → issue_at old.core.slots s ≡ o
      → ((i : Issue) → issue_at old.core.slots s ≡ Some i → (i.dev == n) ≡ true → (is_control i.work.kind ≡ true) ⊎ ((s ≡ slot) × (t ≡ start)))
      → IsRight t old.core (match_some o Rests (λ issue. match_some l Rests (Orders issue.dev s)))
  issue_right old t s None l is right = tt
  issue_right old t s (Some i) None is right = tt
  issue_right old t s (Some i) (Some command) is right = λ own. elim (right i is own) [
    | inl control ↦ inl (ap (λ (o : Option Issue). holds is_control_issue o) is ∙ control)
    | inr its ↦ inr its
  ]

  next_right : (next : Next) (old : ControllerState) (new : Port) (run : RunsBy old.core (of_next next old) new) (t : Option Counted) → IsRightNext t old next
      → AllTurn t old.core (of_next next old) new run
  next_right (next_step.Order dev s fis) old new run t right =
      (issue_right old t s (issue_at old.core.slots s) (last_command old.core.commands s) refl right, tt)
  next_right other old new run t right = tt

  commanded_right : (o : Option WriteError) (value : ℕ) (old new : Port) (run : RunsBy old (match_some o (core.Commanded value ∷ []) (λ e. [])) new) (t : Option Counted)
      → AllTurn t old (match_some o (core.Commanded value ∷ []) (λ e. [])) new run
  commanded_right None value old new run t = (tt, tt)
  commanded_right (Some e) value old new run t = tt

  halts_right : (halted started : Bool) (next : Next) (old : ControllerState) (new : Port) (run : RunsBy old.core (of_turn halted started next old) new) (t : Option Counted)
      → IsRightNext t old next → AllTurn t old.core (of_turn halted started next old) new run
  halts_right true started next old new run t right = next_right next old new run t right
  halts_right false true next old new run t right = next_right next old new run t right
  halts_right false false next old new run t right = commanded_right _ _ old.core new run t

  turned_right : (o : Option Next) (next : Next) (old : ControllerState) (new : Port)
      (run : RunsBy old.core (match_some o (of_turn (is_halted (written old)) old.core.registers.started next old) (λ write. of_next next old)) new) (t : Option Counted)
      → IsRightNext t old next
      → AllTurn t old.core (match_some o (of_turn (is_halted (written old)) old.core.registers.started next old) (λ write. of_next next old)) new run
  turned_right None next old new run t right = halts_right (is_halted (written old)) old.core.registers.started next old new run t right
  turned_right (Some write) next old new run t right = next_right next old new run t right

  pub turned_beside : (next : Next) (old new : ControllerState) → Does old (call.Turned next) new → IsController old → IsController new → (t : Option Counted)
      → IsRightNext t old next → Beside DmaIn n old.core t → Beside DmaIn n new.core t
  turned_beside next old new does k l t right was =
      let are : AreCoreEvents old.core (of_event old (call.Turned next) new does) new.core = core_events DmaIn refl laws n low old new (call.Turned next) k l does in
      events_right (of_event old (call.Turned next) new does) old.core new.core are.run are.sound.cores are.sound.frames t
      (turned_right (next_write old) next old new.core are.run t right) was

  -- ---- each call

  comes_on : (c : ControllerState) (t : Option Counted) → CarriesAt DmaIn refl laws n low more_by c t
  comes_on c t frame own was context set way =
      subst (λ (j : ℕ). Follows DmaIn (Carried (drop 4 frame) ∷ was.past) (more_by j t)) (length-drop 4 frame) (carried_follows DmaIn (drop 4 frame) was.past t was.follows)

  control_of : (a c : Bool) → (a && not c) ≡ false → a ≡ true → c ≡ true
  control_of true true e f = refl
  control_of true false e f = absurd (cc)
  control_of false c e f = absurd (cc)

  -- none is a command for the device
  none_commanded : (next : Next) (old : ControllerState) (t : Option Counted) → is_commanded n old (call.Turned next) ≡ false → IsRightNext t old next
  none_commanded (next_step.Order dev s fis) old t none = λ i is own.
      inl (control_of (i.dev == n) (is_control i.work.kind) (ap (λ (o : Option Issue). holds (is_command_issue n) o) (sym is) ∙ none) own)
  none_commanded other old t none = tt

  call_beside : (e : Event) (old new : ControllerState) (does : Does old e new) → IsController old → IsController new → HearsWell n old e
      → is_commanded n old e ≡ false → (t : Option Counted) → Beside DmaIn n old.core t → Beside DmaIn n new.core (told_call n e t)
  call_beside (call.Took frame took) old new does k l well none t was =
      subst (λ (x : Option Counted). Beside DmaIn n new.core (if port_of frame == n then x else t)) (told_same (seen frame) t)
      (taken_beside DmaIn refl laws n low more_by old new frame took does k l well t (comes_on old t) was)
  call_beside (call.Turned next) old new does k l well none t was = turned_beside next old new does k l t (none_commanded next old t none) was
  call_beside (call.Wrote offset value written) old new does k l well none t was =
      none_taken DmaIn refl laws n low (call.Wrote offset value written) old new does k l tt t was
  call_beside (call.WroteWide offset width value written) old new does k l well none t was =
      none_taken DmaIn refl laws n low (call.WroteWide offset width value written) old new does k l tt t was
  call_beside (call.Supplied s number bytes supply) old new does k l well none t was =
      none_taken DmaIn refl laws n low (call.Supplied s number bytes supply) old new does k l tt t was
  call_beside (call.Missed s number supply) old new does k l well none t was =
      none_taken DmaIn refl laws n low (call.Missed s number supply) old new does k l tt t was
  call_beside (call.Left frame why) old new does k l well none t was = none_taken DmaIn refl laws n low (call.Left frame why) old new does k l tt t was
  call_beside (call.Said write) old new does k l well none t was = none_taken DmaIn refl laws n low (call.Said write) old new does k l tt t was
  call_beside (call.Gathered dev number frame (fed_answer.Goes message line)) old new does k l well none t was =
      none_taken DmaIn refl laws n low (call.Gathered dev number frame (fed_answer.Goes message line)) old new does k l (λ e. absurd (true≢false e)) t was
  call_beside (call.Gathered dev number frame other) old new does k l well none t was =
      none_taken DmaIn refl laws n low (call.Gathered dev number frame other) old new does k l tt t was
  call_beside (call.NotThere dev number fed) old new does k l well none t was =
      none_taken DmaIn refl laws n low (call.NotThere dev number fed) old new does k l tt t was

  none_once : (b : Bool) (m : ℕ) → once_if b + m ≡ 0 → (b ≡ false) × (m ≡ 0)
  none_once true m e = absurd (omega (arith, e))
  none_once false m e = (refl, omega (arith, e))

  calls_beside : (events : List Event) (old new : ControllerState) (run : Runs old events new) → AllHeardWell n old events new run
      → commanded_in n old events new run ≡ 0 → (t : Option Counted) → Beside DmaIn n old.core t → Beside DmaIn n new.core (told_calls n t events)
  unfolding told_calls
  calls_beside [] old new run well none t was = subst (λ (c : ControllerState). Beside DmaIn n c.core t) (sym run.1) was
  calls_beside (e ∷ later) old new run well none t was =
      let both = none_once (is_commanded n old e) (commanded_in n run.1.0 later new run.1.2) none in
      calls_beside later run.1.0 new run.1.2 well.1 both.1 (told_call n e t)
      (call_beside e old run.1.0 run.1.1 run.0 (first_kept later run.1.0 new run.1.2) well.0 both.0 t was)

  -- while no slot of the device waits, no READ DMA is set up
  none_up : (c : ControllerState) → IsController c → HasNoQueued n c → waits_in n c ≡ false → (past : History) → IsTold (view_of n c.core) past
      → NoneUp DmaIn past
  none_up c k plain free past told s up =
      let h = has_up DmaIn (view_of n c.core) past s told up in
      false≢true (sym free ∙ set_up_waits n c k plain h.context h.set)

  -- ---- the stretch from the command on

  pub follows : (at : ControllerState) (dev : ℕ) (fis : List ℕ) (later : List Event) (now after : ControllerState)
      (run : Runs at (call.Turned (next_step.Order dev slot fis) ∷ later) now) → HasNoQueued n at → waits_in n at ≡ false
      → (past : History) → IsTold (view_of n at.core) past → AllHeardWell n run.1.0 later now run.1.2 → commanded_in n run.1.0 later now run.1.2 ≡ 0
      → (frame : List ℕ) (took : Took) → Takes now frame took after → port_of frame ≡ n → is_overflow took.report.fault ≡ false
      → (wrote : Wrote) → took.brought ≡ Some wrote → (issue : Issue) → issue_at now.core.slots wrote.slot ≡ Some issue → issue.work.kind ≡ DmaIn
      → told_calls n start later ≡ Some (record { tag = wrote.slot; count = wrote.offset })
  follows at dev fis later now after run plain free past told well none frame took takes own calm wrote brought issue there kind =
      let mid : ControllerState = run.1.0 in
      let first : Beside DmaIn n at.core start =
      record { past = past; told = told; follows = nothing_up DmaIn past start (none_up at run.0 plain free past told) } in
      let went : Beside DmaIn n mid.core start =
      turned_beside (next_step.Order dev slot fis) at mid run.1.1 run.0 (first_kept later mid now run.1.2) start (λ i is its. inr (refl, refl)) first in
      let last : Beside DmaIn n now.core (told_calls n start later) = calls_beside later mid now run.1.2 well none start went in
      let is : took.report.wrote ≡ Some wrote =
      sym (takes.hears.brought_is ∙ ap (λ (b : Bool). if b then part_of now (port_of frame) (payload_of (seen frame)) else took.report.wrote) calm) ∙ brought in
      let fills : FillsFrom wrote.slot wrote.offset wrote.len last.past =
      hears_case laws n low now frame took.report after.core last.past wrote now.core.registers.started
      (last_kept (call.Turned (next_step.Order dev slot fis) ∷ later) at now run) own takes.hears.core last.told is in
      last.follows wrote.slot (up_now DmaIn refl laws n low now last.past wrote.slot wrote.offset wrote.len issue last.told fills there kind)
      ∙ ap (λ k. Some (record { tag = wrote.slot; count = k })) fills.from

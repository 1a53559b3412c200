-- The number of the first byte that a Data FIS brings for a PIO data-in is that of the Data which came since its command went.
use Rattle.std.proofs.Common.{◌≡◌, ℕ, zero, suc, ◌+◌, ◌-◌, ◌<◌, ◌&&◌, Bool, true, false, not, cond, List, [], ◌∷◌, ◌++◌, drop, length, refl, sym, ap}
use Rattle.std.proofs.{Common.{subst, ◌∙◌, arith, Option, Some, None}, lemmas.{Bool.{and_parts, eq-eqb, eqb-true, false≢true}, List.{length-drop}}}
use Rattle.std.specs.{Prelude.{◌==◌, IfSome, MatchOption, count_by, is_some, if◌then◌else◌, Result, Ok, Err}, List.range_with_len, Option.option_map}
use Rattle.fis_view.specs.{Seen.seen, declared.view.{Fis.Fis, FisFault.FisFault}}
use Rattle.fis_view.specs.declared.view.Fis.TheVariants as view
use Rattle.slots.specs.{Bytes.{came_of, is_over, none_over}, Commands.sent_issue, Data.{payload, payload_len}, Setup.came, Slots.{Issue, context_of}}
use Rattle.slots.specs.{Slots.{holds, is_control, is_pio, is_waiting, issue_at, match_some, own_issue, slots_of}, Table.IsIssue}
use Rattle.slots.specs.declared.{table.Context.Context, work.{Kind.{Kind, TheVariants.PioIn}, Work.Work}}
use Rattle.slots.proofs.Door.{count_more, over_none}
use Rattle.hba_commands.specs.declared.command.Command.{Command}
use Rattle.hba_fbs.specs.{Taking.port_of, Turning.feeds, Views.{Port, last_command, view_of}, declared.report.{TakeReport.TakeReport, Wrote.Wrote}}
use Rattle.hba_fbs.specs.declared.{turn.Turn.{Turn, TheVariants.{Feeds, Orders, Rests}}}
use Rattle.hba_laws.specs.{Agreement.{ContextAgrees, IsTold, SetupAgrees, end_of, is_for, is_pio_issue, work_of_issue}, CoreHistories.FillsFrom}
use Rattle.hba_laws.specs.{CoreHistories.{event_by, history_through, turned_for}, Cores.RunsBy, Delivering.is_control_issue}
use Rattle.hba_laws.specs.History.{Event as HistoryEvent, History, Setup, Transfer, bytes_of, is_at, is_set_up, issued, last_setup, next_number}
use Rattle.hba_laws.specs.History.{waiting_in}
use Rattle.hba_laws.specs.History as history
use Rattle.hba_laws.proofs.Door.{payload_is}
use Rattle.ahci_controller.specs.{States.ControllerState, Taking.{is_overflow, part_of, payload_of, room_for}, declared.feeding.Fed.Fed}
use Rattle.ahci_controller.specs.declared.taking.Took.{Took}
use Rattle.ahci_controller.specs.declared.feeding.Fed.TheVariants as fed_answer
use Rattle.ahci_controller.specs.declared.next.Next.TheVariants as next_step
use Rattle.controller_laws.specs.{CoreEvents.{of_fed, of_frame}, Events.{Does, Event, IsController, Runs, Takes}}
use Rattle.controller_laws.specs.Events as call
use Rattle.machine_theorem.specs.{Ending.{AllUnqueued, HasNoQueued, carries}, Following.{AllHeardWell, HearsWell}, InTurn.{answers}}
use Rattle.machine_theorem.specs.{SingleNumbers.{since_by, since_call, since_calls}, Tags.once_if, Waits.{commanded_in, is_answered}}
use Rattle.machine_theorem.specs.Waits.{is_command_issue, is_commanded, taken_in}
use Rattle.machine_theorem.proofs.{Calm.{NotSent, fis_not}, CallEvents.{AllOf, CallGoes, FrameIs, grown, order_of}, DataHeard.well_carried}
use Rattle.machine_theorem.proofs.{FisEvents.{IsNoData, fis_plain}, OrderedOnce.{IsOrderedOnce, ordered_once}, Ordered.last_kept, PioHistory.Counts}
use Rattle.machine_theorem.proofs.{PioHistory.{IsCalm, IsUpSo, all_counts, calm_of, came_counts, fed_counts, pio_next}, QuietCalls.of_issue}
use Rattle.machine_theorem.proofs.{SetupCalls.hears_case, SetupCores.fed_none, Shutting.{then', told_then}}
use Rattle.machine_theorem.proofs.{SingleWell.{Needs, set_up_issue, well_needs}, Waiting.{IsSent, core_events, first_kept, low_slot, not_true}}
use Rattle.machine_theorem.proofs.Waiting.{sent_now}
use Rattle.machine_theorem.proofs.SetupCalls as setup
use Rattle.machine_theorem.proofs.Waiting as waiting

-- ---- a command that was not sent has moved no byte

abbrev tally : Bool → ℕ
tally b = cond b 1 0

count_none : (p : ℕ → Bool) → ((b : ℕ) → p b ≡ false) → (n : ℕ) → count_by p (range_with_len 0 n) ≡ 0
count_none p none zero = refl
count_none p none (suc n) =
    let one : tally (p n) ≡ 0 = ap tally (none n) in
    let rest = count_none p none n in
    count_more p n ∙ omega (arith, rest, one)

came_new : (len : ℕ) → came_of (none_over len) len ≡ 0
unfolding came_of
came_new len = count_none (is_over (none_over len)) (over_none len) len

came_none : (i : Issue) → i.over ≡ none_over i.work.len → came i ≡ 0
came_none i none = ap (λ (o : List Bool). came_of o i.work.len) none ∙ came_new i.work.len

-- ---- what goes by a turn

abbrev CalmTurn : (n : ℕ) → Port → Turn → Type 0
CalmTurn n port (Orders dev slot command) = ((dev == n) && not (holds is_control_issue (issue_at port.slots slot))) ≡ false
CalmTurn n port (Feeds dev slot offset len) = (dev == n) ≡ false
CalmTurn n port Rests = Unit {0}

none_if : (b : Bool) (e : HistoryEvent) → b ≡ false → AllOf IsCalm (if b then e ∷ [] else [])
none_if true e is = absurd (cc)
none_if false e is = tt

turn_calm : (n : ℕ) (port : Port) (turn : Turn) (bytes : List ℕ) → CalmTurn n port turn → AllOf IsCalm (turned_for n port turn bytes)
turn_calm n port Rests bytes calm = tt
turn_calm n port (Feeds dev slot offset len) bytes apart = none_if (dev == n) (history.Carried (drop 4 bytes)) apart
turn_calm n port (Orders dev slot command) bytes unsent = order_of IsCalm calm_of n port dev slot (dev == n) refl unsent

orders_calm : (n slot : ℕ) (port : Port) (o : Option Issue) (l : Option Command) → issue_at port.slots slot ≡ o → holds (is_command_issue n) o ≡ false
    → CalmTurn n port (match_some o Rests (λ issue. match_some l Rests (Orders issue.dev slot)))
orders_calm n slot port None l is none = tt
orders_calm n slot port (Some issue) None is none = tt
orders_calm n slot port (Some issue) (Some command) is none = ap (λ (o : Option Issue). (issue.dev == n) && not (holds is_control_issue o)) is ∙ none

-- no Data go by the call
abbrev IsNoFeed : Event → Type 0
IsNoFeed (call.Gathered dev number frame fed) = ⊥
IsNoFeed e = Unit {0}

goes_calm : (n : ℕ) (e : Event) (old : ControllerState) → is_commanded n old e ≡ false → IsNoFeed e
    → CallGoes IsCalm calm_of CalmTurn turn_calm n e old
goes_calm n (call.Turned (next_step.Order dev slot fis)) old none feed =
    orders_calm n slot old.core (issue_at old.core.slots slot) (last_command old.core.commands slot) refl none
goes_calm n (call.Turned other) old none feed = tt
goes_calm n (call.Gathered dev number frame fed) old none feed = absurd feed
goes_calm n e old none feed = tt

-- ---- a FIS

both_calm : (e : HistoryEvent) → NotSent e → IsNoData e → IsCalm e
both_calm (history.Sent slot) sent none = absurd sent
both_calm (history.Carried bytes) sent none = absurd none
both_calm (history.Issued slot t) sent none = tt
both_calm (history.SentControl slot) sent none = tt
both_calm (history.SetUp tag offset count to_host) sent none = tt
both_calm (history.PioSetUp count to_host ends) sent none = tt
both_calm history.Answered sent none = tt
both_calm (history.Named mask) sent none = tt
both_calm history.Emptied sent none = tt

some_calm : (o : Option HistoryEvent) → IfSome o NotSent → IfSome o IsNoData → IfSome o IsCalm
some_calm None sent none = tt
some_calm (Some e) sent none = both_calm e sent none

same_slot : (r s : ℕ) (o : Option ℕ) → is_at r o ≡ true → is_at s o ≡ true → r ≡ s
same_slot r s None a b = absurd (false≢true a)
same_slot r s (Some k) a b = sym (eqb-true k r a) ∙ eqb-true k s b

the_context : (s : ℕ) (o : Option Context) → is_for s o ≡ true → (c : Context) × ((o ≡ Some c) × (c.slot ≡ s))
the_context s None e = absurd (false≢true e)
the_context s (Some c) e = (c, (refl, eqb-true c.slot s e))

match_at : {A : Type 0} (P : A → Type 0) (o : Option A) → MatchOption o ⊥ P → (x : A) × ((o ≡ Some x) × P x)
match_at P None h = absurd h
match_at P (Some x) h = (x, (refl, h))

pio_in : (k : Kind) → is_pio k ≡ true → k ≡ PioIn
pio_in PioIn e = refl
pio_in other e = absurd (cc)

waiting_laws : setup.Laws → waiting.Laws
waiting_laws laws = record { events = laws.events; views = laws.views }

module _ (laws : setup.Laws) (n : ℕ) (low : n < 16) where
  abbrev facts : waiting.Laws
  facts = waiting_laws laws

  -- the history behind a call
  abbrev Behind : (e : Event) (old new : ControllerState) (k : IsController old) (l : IsController new) (does : Does old e new) (past : History)
      → IsTold (view_of n old.core) past → ℕ → Type 0
  Behind e old new k l does past told u = Counts (then' facts n low e old new k l does past told) u

  calm_call : (e : Event) (old new : ControllerState) (k : IsController old) (l : IsController new) (does : Does old e new) (past : History)
      → (told : IsTold (view_of n old.core) past) → is_commanded n old e ≡ false → IsNoFeed e → FrameIs IsCalm calm_of CalmTurn turn_calm n e
      → (t : ℕ) → Counts past t → Behind e old new k l does past told t
  calm_call e old new k l does past told none feed frame t was =
      let g = grown IsCalm calm_of CalmTurn turn_calm n e old new does (core_events facts n low old new e k l does).run (goes_calm n e old none feed)
      frame past in
      subst (λ (h : History). Counts h t) (sym g.is) (all_counts g.more past t g.all was)

  -- ---- Data go to the device

  fed_up : (old : ControllerState) → IsController old → (past : History) → IsTold (view_of n old.core) past → (dev : ℕ) → dev ≡ n → (c : Context)
      → context_of old.core.slots dev ≡ Some c → c.activated ≡ true → IsUpSo false past
  fed_up old k past told dev same c is active s x at there pio = by (is_set_up s past) refl
    where
      due : payload (context_of old.core.slots dev) ≡ Some (c.slot, c.next, payload_len c)
      due = ap payload is ∙ ap (λ (b : Bool). if b then Some (c.slot, c.next, payload_len c) else None) active

      by : (b : Bool) → is_set_up s past ≡ b → b ≡ false
      by true up = absurd (fed_none PioIn refl n old.core past k.slots told dev c.slot c.next (payload_len c) same due s
          (record { transfer = x; is = there; up = up; kind = pio_in x.work.kind pio }))
      by false up = refl

  feed_case : (old : ControllerState) → IsController old → (past : History) → IsTold (view_of n old.core) past → (t : ℕ) → Counts past t → (dev : ℕ)
      (frame : List ℕ) → (o : Option Context) → context_of old.core.slots dev ≡ o
      → Counts (turned_for n old.core (match_some (payload o) Rests (feeds dev)) frame ++ past) t
  feed_case old k past told t was dev frame None is = was
  feed_case old k past told t was dev frame (Some c) is = by c.activated refl
    where
      if_own : (b : Bool) → (dev == n) ≡ b → c.activated ≡ true → Counts ((if b then history.Carried (drop 4 frame) ∷ [] else []) ++ past) t
      if_own true same on = fed_counts (drop 4 frame) past t (fed_up old k past told dev (eqb-true dev n same) c is on) was
      if_own false apart on = was

      by : (b : Bool) → c.activated ≡ b
          → Counts (turned_for n old.core (match_some (if b then Some (c.slot, c.next, payload_len c) else None) Rests (feeds dev)) frame ++ past) t
      by false off = was
      by true on = if_own (dev == n) refl on

  feed_through : (fed : Fed) (old new : ControllerState) → IsController old → (past : History) → IsTold (view_of n old.core) past → (t : ℕ)
      → Counts past t → (dev : ℕ) (frame : List ℕ) (run : RunsBy old.core (of_fed fed old dev frame) new.core)
      → Counts (history_through n past old.core new.core (of_fed fed old dev frame) run) t
  feed_through (fed_answer.Goes message line) old new k past told t was dev frame run = feed_case old k past told t was dev frame (context_of
      old.core.slots dev) refl
  feed_through other old new k past told t was dev frame run = was

  -- ---- Data come

  frame_through : (b : Bool) (old : ControllerState) (frame : List ℕ) (report : TakeReport) (new : Port) (past : History) (u : ℕ)
      (run : RunsBy old.core (of_frame b old frame report ∷ []) new) → b ≡ true
      → event_by old.core (room_for old (port_of frame)) frame ≡ Some (history.Carried (drop 4 frame)) → (port_of frame == n) ≡ true
      → Counts (history.Carried (drop 4 frame) ∷ past) u → Counts (history_through n past old.core new (of_frame b old frame report ∷ []) run) u
  frame_through true old frame report new past u run starts event own now =
      subst (λ (q : Bool). Counts ((if q then match_some (event_by old.core (room_for old (port_of frame)) frame) [] (λ e. e ∷ []) else []) ++ past)
      u) (sym own)
      (subst (λ (o : Option HistoryEvent). Counts (match_some o [] (λ e. e ∷ []) ++ past) u) (sym event) now)
  frame_through false old frame report new past u run starts event own now = absurd (false≢true starts)

  -- the slot that waits is set up
  data_up : (old : ControllerState) → IsController old → HasNoQueued n old → (past : History) → IsTold (view_of n old.core) past → (c : Context)
      → context_of old.core.slots n ≡ Some c → IsUpSo true past
  data_up old k has past told c is s x at there pio =
      let it = set_up_issue n old k has c is in
      let at_c : is_at c.slot (waiting_in past) ≡ true = (told.agrees.issues_agree c.slot it.0 it.1.0).waits_is ∙ it.1.1 in
      let same : s ≡ c.slot = same_slot s c.slot (waiting_in past) at at_c in
      ap (λ (r : ℕ). is_set_up r past) same ∙ (told.agrees.issues_agree c.slot it.0 it.1.0).set_up_is ∙ ap (is_for c.slot) is
      ∙ eq-eqb c.slot c.slot refl

  data_call : (frame : List ℕ) (took : Took) (old new : ControllerState) (k : IsController old) (l : IsController new)
      (does : Does old (call.Took frame took) new) → HearsWell n old (call.Took frame took) → HasNoQueued n old → (past : History)
      → (told : IsTold (view_of n old.core) past) → (t : ℕ) → Counts past t → (port_of frame == n) ≡ true → (f : List ℕ)
      → seen frame ≡ Ok (view.Payload f) → Behind (call.Took frame took) old new k l does past told (t + (length f - 4))
  data_call frame took old new k l does well has past told t was own f viewed =
      let same : port_of frame ≡ n = eqb-true (port_of frame) n own in
      let needs = subst (λ (j : ℕ). Needs (view_of j old.core) (view.Payload f)) same (well_needs old new frame took does (well same) (view.Payload f)
      viewed) in
      let now = came_counts (drop 4 frame) past t (data_up old k has past told needs.0 needs.1) was in
      let long : length (drop 4 frame) ≡ length f - 4 = length-drop 4 frame ∙ ap (λ (g : List ℕ). length g - 4) (sym (payload_is frame f viewed)) in
      frame_through old.core.registers.started old frame took.report new.core past (t + (length f - 4))
      (core_events facts n low old new (call.Took frame took) k l does).run (well same).started (well_carried old new frame took does (well same) f
      viewed) own
      (subst (λ (j : ℕ). Counts (history.Carried (drop 4 frame) ∷ past) (t + j)) long now)

  -- ---- each call

  no_data_call : (frame : List ℕ) (took : Took) (old new : ControllerState) (k : IsController old) (l : IsController new)
      (does : Does old (call.Took frame took) new) → (past : History) → (told : IsTold (view_of n old.core) past) → (t : ℕ) → Counts past t
      → ((port_of frame == n) ≡ true → carries (seen frame) ≡ false) → Behind (call.Took frame took) old new k l does past told t
  no_data_call frame took old new k l does past told t was none =
      calm_call (call.Took frame took) old new k l does past told refl tt
      (λ own port room. some_calm (event_by port room frame) (fis_not port room frame) (fis_plain port room frame (none own))) t was

  taken_call : (frame : List ℕ) (took : Took) (old new : ControllerState) (k : IsController old) (l : IsController new)
      (does : Does old (call.Took frame took) new) → HearsWell n old (call.Took frame took) → HasNoQueued n old → (past : History)
      → (told : IsTold (view_of n old.core) past) → (t : ℕ) → Counts past t → (own : Bool) → (port_of frame == n) ≡ own → (r : Result Fis FisFault)
      → seen frame ≡ r → (own && answers r) ≡ false → Behind (call.Took frame took) old new k l does past told (if own then since_by r t else t)
  taken_call frame took old new k l does well has past told t was false apart r is none =
      no_data_call frame took old new k l does past told t was (λ own. absurd (false≢true (sym apart ∙ own)))
  taken_call frame took old new k l does well has past told t was true own (Ok (view.RegD2H f)) is none = absurd (cc)
  taken_call frame took old new k l does well has past told t was true own (Ok (view.Payload f)) is none =
      data_call frame took old new k l does well has past told t was own f is
  taken_call frame took old new k l does well has past told t was true own (Ok (view.RegH2D f)) is none =
      no_data_call frame took old new k l does past told t was (λ e. ap carries is)
  taken_call frame took old new k l does well has past told t was true own (Ok (view.SetBits f)) is none =
      no_data_call frame took old new k l does past told t was (λ e. ap carries is)
  taken_call frame took old new k l does well has past told t was true own (Ok (view.DmaActivate f)) is none =
      no_data_call frame took old new k l does past told t was (λ e. ap carries is)
  taken_call frame took old new k l does well has past told t was true own (Ok (view.DmaSetup f)) is none =
      no_data_call frame took old new k l does past told t was (λ e. ap carries is)
  taken_call frame took old new k l does well has past told t was true own (Ok (view.PioSetup f)) is none =
      no_data_call frame took old new k l does past told t was (λ e. ap carries is)
  taken_call frame took old new k l does well has past told t was true own (Ok (view.Unknown f)) is none =
      no_data_call frame took old new k l does past told t was (λ e. ap carries is)
  taken_call frame took old new k l does well has past told t was true own (Err fault) is none =
      no_data_call frame took old new k l does past told t was (λ e. ap carries is)

  one_call : (e : Event) (old new : ControllerState) (k : IsController old) (l : IsController new) (does : Does old e new) → HearsWell n old e
      → HasNoQueued n old → is_commanded n old e ≡ false → is_answered n e ≡ false → (past : History) → (told : IsTold (view_of n old.core) past)
      → (t : ℕ) → Counts past t → Behind e old new k l does past told (since_call n e t)
  one_call (call.Took frame took) old new k l does well has none free past told t was =
      taken_call frame took old new k l does well has past told t was (port_of frame == n) refl (seen frame) refl free
  one_call (call.Gathered dev number frame fed) old new k l does well has none free past told t was =
      feed_through fed old new k past told t was dev frame (core_events facts n low old new (call.Gathered dev number frame fed) k l does).run
  one_call (call.Turned next) old new k l does well has none free past told t was = calm_call (call.Turned next) old new k l does past told none tt tt
      t was
  one_call (call.Wrote offset value written) old new k l does well has none free past told t was =
      calm_call (call.Wrote offset value written) old new k l does past told none tt tt t was
  one_call (call.WroteWide offset width value written) old new k l does well has none free past told t was =
      calm_call (call.WroteWide offset width value written) old new k l does past told none tt tt t was
  one_call (call.Supplied slot number bytes supply) old new k l does well has none free past told t was =
      calm_call (call.Supplied slot number bytes supply) old new k l does past told none tt tt t was
  one_call (call.Missed slot number supply) old new k l does well has none free past told t was =
      calm_call (call.Missed slot number supply) old new k l does past told none tt tt t was
  one_call (call.Left frame why) old new k l does well has none free past told t was = calm_call (call.Left frame why) old new k l does past told none
      tt tt t was
  one_call (call.Said write) old new k l does well has none free past told t was = calm_call (call.Said write) old new k l does past told none tt tt t
      was
  one_call (call.NotThere dev number fed) old new k l does well has none free past told t was =
      calm_call (call.NotThere dev number fed) old new k l does past told none tt tt t was

  -- ---- from the command on

  record Counted (c : ControllerState) (t : ℕ) : Type 0 where
    past : History
    told : IsTold (view_of n c.core) past
    counts : Counts past t

  none_once : (b : Bool) (m : ℕ) → once_if b + m ≡ 0 → (b ≡ false) × (m ≡ 0)
  none_once true m e = absurd (omega (arith, e))
  none_once false m e = (refl, omega (arith, e))

  all_calls : (events : List Event) (old new : ControllerState) (run : Runs old events new) → AllHeardWell n old events new run
      → AllUnqueued n old events new run → commanded_in n old events new run ≡ 0 → taken_in n events ≡ 0 → (t : ℕ) → Counted old t
      → Counted new (since_calls n t events)
  unfolding since_calls
  all_calls [] old new run well plain none untaken t was = subst (λ (c : ControllerState). Counted c t) (sym run.1) was
  all_calls (e ∷ later) old new run well plain none untaken t was =
      let mid : ControllerState = run.1.0 in
      let l : IsController mid = first_kept later mid new run.1.2 in
      let a = none_once (is_commanded n old e) (commanded_in n mid later new run.1.2) none in
      let b = none_once (is_answered n e) (taken_in n later) untaken in
      all_calls later mid new run.1.2 well.1 plain.2 a.1 b.1 (since_call n e t) (record {
        past = then' facts n low e old mid run.0 l run.1.1 was.past was.told;
        told = told_then facts n low e old mid run.0 l run.1.1 was.past was.told;
        counts = one_call e old mid run.0 l run.1.1 well.0 plain.0 a.0 b.0 was.past was.told t was.counts;
      })

  -- as the command goes nothing came
  module _ (to slot : ℕ) (fis : List ℕ) (old new : ControllerState) (k : IsController old) (l : IsController new)
      (does : Does old (call.Turned (next_step.Order to slot fis)) new) (is : is_commanded n old (call.Turned (next_step.Order to slot fis)) ≡ true)
      (past : History) (told : IsTold (view_of n old.core) past) where
    abbrev after : History
    after = then' facts n low (call.Turned (next_step.Order to slot fis)) old new k l does past told

    told_now : IsTold (view_of n new.core) after
    told_now = told_then facts n low (call.Turned (next_step.Order to slot fis)) old new k l does past told

    below : slot < 32
    below = low_slot n slot old k is

    it : IsSent n slot old new
    it = sent_now n to slot fis old new below k l does is

    none : came it.issue ≡ 0
    none =
        let long = k.slots.slots in
        let lt = below in
        let h : IsOrderedOnce slot old.core new.core = ordered_once old new to slot fis (omega (arith, long, lt)) does in
        let both = and_parts (h.issue.dev == n) (not (is_control h.issue.work.kind)) (ap (holds (is_command_issue n)) (sym h.was) ∙ is) in
        let issue : IsIssue h.issue = subst (λ (o : Option Issue). MatchOption o (Unit {0}) IsIssue) h.was (k.slots.issues slot) in
        let there : issue_at new.core.slots slot ≡ Some (sent_issue h.issue) = h.sent (not_true (is_control h.issue.work.kind) both.1) in
        let same : it.issue ≡ sent_issue h.issue = ap (λ (o : Option Issue). match_some o it.issue (λ i. i)) (sym it.is ∙ there) in
        ap came same ∙ came_none (sent_issue h.issue) (issue.unsent h.unsent)

    nothing : (s : ℕ) (x : Transfer) → is_at s (waiting_in after) ≡ true → issued s after ≡ Some x → bytes_of s after ≡ 0
    nothing s x at there =
        let here : is_at slot (waiting_in after) ≡ true = (told_now.agrees.issues_agree slot it.issue it.mine).waits_is ∙ it.waits in
        let same : s ≡ slot = same_slot s slot (waiting_in after) at here in
        ap (λ (r : ℕ). bytes_of r after) same ∙ sym (told_now.agrees.issues_agree slot it.issue it.mine).came_is ∙ none

    ordered : Counted new 0
    ordered = record { past = after; told = told_now; counts = λ s x at there pio. nothing s x at there }

  -- ---- the number

  numbered : (c : ControllerState) (past : History) → IsTold (view_of n c.core) past → (s : ℕ) (i : Issue)
      → own_issue (slots_of n c.core.slots) s ≡ Some i → is_pio i.work.kind ≡ true → is_set_up s past ≡ true → next_number past ≡ bytes_of s past
  numbered c past told s i mine pio up =
      let x = the_context s (context_of c.core.slots n) (sym (told.agrees.issues_agree s i mine).set_up_is ∙ up) in
      let ends = option_map end_of (view_of n c.core).state.block in
      let agrees : ContextAgrees (own_issue (slots_of n c.core.slots)) x.0 ends past = told.agrees.context_agrees x.0 x.1.0 in
      let g = match_at (SetupAgrees x.0 ends past) (last_setup past) agrees.of_setup in
      let kind : holds is_pio_issue (own_issue (slots_of n c.core.slots) x.0.slot) ≡ true =
      ap (λ (r : ℕ). holds is_pio_issue (own_issue (slots_of n c.core.slots) r)) x.1.1 ∙ ap (holds is_pio_issue) mine ∙ pio in
      pio_next s past g.0 g.1.0 (ap (λ (o : Option ℕ). is_some o) g.1.1.ends_is ∙ sym agrees.of_kind ∙ kind) up

  pub pio_since : (slot : ℕ) (at : ControllerState) (to : ℕ) (fis : List ℕ) (later : List Event) (now after : ControllerState)
      → (rest : Runs at (call.Turned (next_step.Order to slot fis) ∷ later) now)
      → AllUnqueued n at (call.Turned (next_step.Order to slot fis) ∷ later) now rest
      → is_commanded n at (call.Turned (next_step.Order to slot fis)) ≡ true → (past : History) → IsTold (view_of n at.core) past
      → AllHeardWell n rest.1.0 later now rest.1.2 → commanded_in n rest.1.0 later now rest.1.2 ≡ 0 → taken_in n later ≡ 0 → (frame : List ℕ)
      (took : Took) → Takes now frame took after → port_of frame ≡ n → is_overflow took.report.fault ≡ false → (wrote : Wrote)
      → took.brought ≡ Some wrote → (issue : Issue) → own_issue (slots_of n now.core.slots) wrote.slot ≡ Some issue → is_waiting issue ≡ true
      → is_pio issue.work.kind ≡ true → since_calls n 0 later ≡ wrote.offset
  pio_since slot at to fis later now after rest plains is past told well none untaken frame took takes own calm wrote brought issue mine waits pio =
      let mid : ControllerState = rest.1.0 in
      let first : Counted mid 0 = ordered to slot fis at mid rest.0 (first_kept later mid now rest.1.2) rest.1.1 is past told in
      let last : Counted now (since_calls n 0 later) = all_calls later mid now rest.1.2 well plains.2 none untaken 0 first in
      let report : took.report.wrote ≡ Some wrote =
      sym (takes.hears.brought_is ∙ ap (λ (b : Bool). if b then part_of now (port_of frame) (payload_of (seen frame)) else took.report.wrote) calm) ∙
      brought in
      let fills : FillsFrom wrote.slot wrote.offset wrote.len last.past =
      hears_case laws n low now frame took.report after.core last.past wrote now.core.registers.started
      (last_kept (call.Turned (next_step.Order to slot fis) ∷ later) at now rest) own takes.hears.core last.told report in
      let x = of_issue (issued wrote.slot last.past) issue.work (last.told.issued wrote.slot
      ∙ ap (λ (o : Option Issue). option_map work_of_issue o) mine) in
      let waits_there : is_at wrote.slot (waiting_in last.past) ≡ true = (last.told.agrees.issues_agree wrote.slot issue mine).waits_is ∙ waits in
      sym (last.counts wrote.slot x.0 waits_there x.1.0 (ap (λ (w : Work). is_pio w.kind) x.1.1 ∙ pio))
      ∙ sym (numbered now last.past last.told wrote.slot issue mine pio fills.is_up) ∙ fills.from

-- For `core_delivers`. Data is within what is issued, and fills what reports and turns say.
use Rattle.std.proofs.Common.{◌≡◌, ℕ, zero, suc, ◌+◌, ◌<◌, ◌≤◌, Bool, true, false, List, [], ◌∷◌, ◌++◌, drop, length, length-drop, append_assoc, refl}
use Rattle.std.proofs.{Common.{sym, ap, subst, ◌∙◌, inl, inr, Option, Some, None, arith, min}, lemmas.Bool.{cases_lt, eq-eqb, eqb-true}}
use Rattle.std.proofs.lemmas.List.{get_or_past}
use Rattle.std.specs.{Prelude.{MatchOption, ◌==◌, if◌then◌else◌, slice_index}, Option.option_map}
use Rattle.fis_view.specs.Seen.{seen}
use Rattle.host_memory.specs.declared.table.Prd.{Prd}
use Rattle.hba_commands.specs.declared.command.Command.{Command}
use Rattle.slots.specs.{Slots.{DeviceSlots, Issue, context_of, holds, issue_at, match_some, own_issue}, Work.{is_dma, is_read}}
use Rattle.slots.specs.declared.{answer.Answered.Answered, table.Context.Context, work.Work.Work}
use Rattle.slots.specs.declared.answer.Answered.TheVariants as answer
use Rattle.hba_fbs.specs.declared.{hearing.{Happening.Happening, Heard.Heard}, register.Register.{Register, TheVariants.{Cmd, Ci, Fbs}}}
use Rattle.hba_fbs.specs.declared.{report.{TakeReport.TakeReport, Wrote.Wrote}, room.Room.Room, status.Block.Block, turn.Turn.Turn}
use Rattle.hba_fbs.specs.{declared.turn.Turn.TheVariants.{Feeds, Orders, Rests}, Deciding.decided, Offering.{Offer, aimed_by, asked_by}}
use Rattle.hba_fbs.specs.{Registers.falls, Taking.{admitted, heard_report, ignores, port_of, wrote_by}, Turning.turn_of, Views.{DeviceView, Port}}
use Rattle.hba_fbs.specs.{Views.view_of, Writing.{cleared_by, is_device}}
use Rattle.hba_fbs.specs.declared.hearing.Happening.TheVariants as happening
use Rattle.hba_laws.specs.{Agreement.{IsTold, end_of, is_for}, Alike.{told_issue, told_issued}, Client.IsWithin, CoreHistories.CoreChoicesFilled}
use Rattle.hba_laws.specs.CoreHistories.{CoreDataIsWithin, CoreReportsFilled, CoreSendsFilled, FillsFrom, ReportsFilled, WereWithin, event_by}
use Rattle.hba_laws.specs.{CoreHistories.{happened, history_through, turned_for, written_for}, Cores.{Chose, Commanded, CoreEvent, Flushed, Gave}}
use Rattle.hba_laws.specs.{Cores.{Hearkens, Hung, IsCore, Placed, RunsBy, Took}, Delivering.{begun_by, event_heard, event_of, event_sent}}
use Rattle.hba_laws.specs.{Delivering.is_control_issue, History.{Carried, Emptied, History, Sent, SentControl, SetUp, issued}, Between.HasContext}
use Rattle.hba_laws.specs.Between.{IsOwn}
use Rattle.hba_laws.specs.Cores as core
use Rattle.hba_laws.proofs.{completed.DoneLemmas.{below_16, last_core}, histories.{CarryLemmas.next_is, CoreEventLemmas.{GoesBy, IsFeeding}}}
use Rattle.hba_laws.proofs.histories.{CoreEventLemmas.{chosen_goes, core_views_are_told, says_of, step_by, turn_goes}, HearLemmas.decided_cases}
use Rattle.hba_laws.proofs.{histories.{StepLemmas.Says, ViewLemmas.is_own}, placed.WithinLemmas.{Carries, heard_carries, the_transfer, within_is}}

-- what is set up is what the device's context says
fills_from : (n : ℕ) (own : DeviceSlots) (ends : Option ℕ) (past : History) (c : Context) (len : ℕ) → IsOwn n own → Says own ends past → own.context ≡ Some c → len ≤ c.left → FillsFrom c.slot c.next len past
fills_from n own ends past c len is says now fits =
    let has : HasContext n own c = is.contexts c now in
    let t = the_transfer (issued c.slot past) (own_issue own c.slot) has.issue has.at (says.issued c.slot) in
    let room : c.next + c.left ≤ has.issue.work.len = has.is.fits in
    let within : c.next + len ≤ t.0.work.len = subst (λ (w : ℕ). c.next + len ≤ w) (sym (ap (λ (w : Work). w.len) t.2)) (omega (arith, room, fits)) in
    record {
      is_up = (says.agrees.issues_agree c.slot has.issue has.at).set_up_is ∙ ap (is_for c.slot) now ∙ eq-eqb c.slot c.slot refl;
      from = next_is (own_issue own) c ends past (says.agrees.context_agrees c now);
      of_issue = subst (λ o. MatchOption o ⊥ (λ u. c.next + len ≤ u.work.len)) (sym t.1) within;
    }

-- what is known of the happening that a frame is, for a table of some room
decided_carries : (n : ℕ) (v : DeviceView) (room : Room) (frame : List ℕ) → (sound : Bool) × Carries v.slots sound (length (drop 4 frame)) (decided n v room (admitted n (seen frame))).happening
decided_carries n v room frame =
    decided_cases (λ (h : Heard). (sound : Bool) × Carries v.slots sound (length (drop 4 frame)) h.happening) n v (admitted n (seen frame)) room (false, heard_carries n v false frame) (true, heard_carries n v true frame) (true, tt)

within_if : (b : Bool) (h past : History) → WereWithin past → (b ≡ true → WereWithin (h ++ past)) → WereWithin ((if b then h else []) ++ past)
within_if true h past w here = here refl
within_if false h past w here = w

within_issue : (slot : ℕ) (table : List Prd) (o : Option Command) (past : History) → WereWithin past → WereWithin (told_issue slot table o ++ past)
within_issue slot table None past w = w
within_issue slot table (Some command) past w = w

within_issued : (commands : ℕ → Option Command) (tables : ℕ → List Prd) (m : ℕ) (past : History) → WereWithin past → WereWithin (told_issued commands tables m ++ past)
unfolding told_issued
within_issued commands tables zero past w = w
within_issued commands tables (suc m) past w =
    subst WereWithin (sym (append_assoc (told_issue m (tables m) (commands m)) (told_issued commands tables m) past))
    (within_issue m (tables m) (commands m) (told_issued commands tables m ++ past) (within_issued commands tables m past w))

within_begun : (slot : ℕ) (o : Option Issue) (past : History) → WereWithin past → WereWithin ((begun_by slot o ++ (if holds is_control_issue o then SentControl slot else Sent slot) ∷ []) ++ past)
within_begun slot None past w = w
within_begun slot (Some i) past w = by_kind (is_dma i.work.kind) (is_control_issue i)
  where
    by_kind : (d b : Bool) → WereWithin (((if d then SetUp slot 0 i.work.len (is_read i.work.kind) ∷ [] else []) ++ (if b then SentControl slot else Sent slot) ∷ []) ++ past)
    by_kind true true = w
    by_kind true false = w
    by_kind false true = w
    by_kind false false = w

module _ (n : ℕ) (old : Port) (is_core : IsCore old) (past : History) (told : IsTold (view_of n old) past) where
  abbrev v : DeviceView
  v = view_of n old

  abbrev ends : Option ℕ
  ends = option_map end_of v.state.block

  says : Says v.slots ends past
  says = says_of v past told

  owns : IsOwn n v.slots
  owns = is_own n old.slots is_core.slots

  -- ---- Data that is heard

  -- a happening and its event fill what the report says
  by_answer : (a : Answered) (block : Option Block) (payload : List ℕ) → ReportsFilled None payload (event_of (happening.Answered a) block payload) past
  by_answer answer.Nobody block payload = tt
  by_answer other block payload = tt

  by_block : (count : ℕ) (to_host : Bool) (block : Option Block) (payload : List ℕ) → ReportsFilled None payload (event_of (happening.PioSetUp count to_host) block payload) past
  by_block count to_host None payload = tt
  by_block count to_host (Some b) payload = tt

  by_happening : (x : Happening) (sound : Bool) (block : Option Block) (payload : List ℕ) → Carries v.slots sound (length payload) x → ReportsFilled (wrote_by x) payload (event_of x block payload) past
  by_happening (happening.Answered a) sound block payload carries = by_answer a block payload
  by_happening (happening.PioSetUp count to_host) sound block payload carries = by_block count to_host block payload
  by_happening (happening.Carried wrote finishes) sound block payload carries = record {
    is = refl;
    len = ap (λ (w : Wrote). w.len) carries.wrote_is;
    fills = subst (λ (w : Wrote). FillsFrom w.slot w.offset w.len past) (sym carries.wrote_is) (fills_from n v.slots ends past carries.context (length payload) owns says carries.now carries.fits);
  }
  by_happening other sound block payload carries = tt

  -- and are within
  within_happening : (x : Happening) (sound : Bool) (block : Option Block) (payload : List ℕ) → Carries v.slots sound (length payload) x → WereWithin past
      → WereWithin (match_some (event_of x block payload) [] (λ e. e ∷ []) ++ past)
  within_happening (happening.Answered answer.Nobody) sound block payload carries w = w
  within_happening (happening.PioSetUp count to_host) sound None payload carries w = w
  within_happening (happening.PioSetUp count to_host) sound (Some b) payload carries w = w
  within_happening (happening.Carried wrote finishes) sound block payload carries w =
      (within_is n v.slots ends past carries.context (length payload) owns says carries.now carries.fits, w)
  within_happening other sound block payload carries w = w

  -- ---- Data that goes out

  fed_within : (dev slot offset len : ℕ) → IsFeeding old dev slot offset len → n ≡ dev → (size : ℕ) → size ≡ len → IsWithin past size
  fed_within dev slot offset len fed same size is_len =
      let now : v.slots.context ≡ Some fed.context = ap (λ (d : ℕ). context_of old.slots d) same ∙ fed.now in
      let most : len ≡ min fed.context.left 8192 = fed.len_is in
      within_is n v.slots ends past fed.context size owns says now (omega (arith, most, is_len))

  pub fed_fills : (slot offset len : ℕ) → IsFeeding old n slot offset len → FillsFrom slot offset len past
  fed_fills slot offset len fed =
      let most : len ≡ min fed.context.left 8192 = fed.len_is in
      let fills : FillsFrom fed.context.slot fed.context.next len past = fills_from n v.slots ends past fed.context len owns says fed.now (omega (arith, most)) in
      subst (λ (k : ℕ). FillsFrom k offset len past) (sym fed.slot_is) (subst (λ (k : ℕ). FillsFrom fed.context.slot k len past) (sym fed.offset_is) fills)

  -- ---- one event

  took_within : (frame : List ℕ) (room : Room) → WereWithin past → (dev : ℕ) → n ≡ dev → (b : Bool)
      → WereWithin (match_some (if b then None else event_heard (decided dev (view_of dev old) room (admitted dev (seen frame))) (drop 4 frame)) [] (λ e. e ∷ []) ++ past)
  took_within frame room w dev same true = w
  took_within frame room w dev same false =
      subst (λ (d : ℕ). WereWithin (match_some (event_heard (decided d (view_of d old) room (admitted d (seen frame))) (drop 4 frame)) [] (λ e. e ∷ []) ++ past)) same
      (let h : Heard = decided n v room (admitted n (seen frame)) in
      let carries = decided_carries n v room frame in
      within_happening h.happening carries.0 h.state.block (drop 4 frame) carries.1 w)

  turn_within : (t : Turn) (bytes : List ℕ) → GoesBy old t → core.HasBytes t bytes → WereWithin past → WereWithin (turned_for n old t bytes ++ past)
  turn_within Rests bytes goes sized w = w
  turn_within (Feeds dev slot offset len) bytes goes sized w =
      let cut = length-drop 4 bytes in
      let long : length bytes ≡ 4 + len = sized in
      within_if (dev == n) (Carried (drop 4 bytes) ∷ []) past w
      (λ same. (fed_within dev slot offset len goes (sym (eqb-true dev n same)) (length (drop 4 bytes)) (omega (arith, cut, long)), w))
  turn_within (Orders dev slot command) bytes goes sized w =
      within_if (dev == n) (begun_by slot (issue_at old.slots slot) ++ event_sent old.slots slot ∷ []) past w (λ same. within_begun slot (issue_at old.slots slot) past w)

  written_within : (register : Register) (value : ℕ) (offer : Offer) (tables : ℕ → List Prd) → WereWithin past → WereWithin (written_for n old register value offer tables ++ past)
  written_within Cmd value offer tables w = within_if (falls old.registers value) (Emptied ∷ []) past w (λ b. w)
  written_within Ci value offer tables w =
      within_if (n == aimed_by old.registers offer value) (told_issued (asked_by offer value) tables 32) past w (λ b. within_issued (asked_by offer value) tables 32 past w)
  written_within Fbs value offer tables w = within_if (is_device n (cleared_by old.errors value)) (Emptied ∷ []) past w (λ b. w)
  written_within other value offer tables w = w

  pub event_within : (event : CoreEvent) (new : Port) → core.DoesBy old event new → WereWithin past → WereWithin (happened n old event ++ past)
  event_within (Took frame room report) new does w =
      within_if (port_of frame == n) (match_some (event_by old room frame) [] (λ e. e ∷ [])) past w
      (λ same. took_within frame room w (port_of frame) (sym (eqb-true (port_of frame) n same)) (ignores (port_of frame) old frame))
  event_within (core.Wrote register value offer tables) new does w = written_within register value offer tables w
  event_within (Flushed dev) new does w = within_if (dev == n) (Emptied ∷ []) past w (λ b. w)
  event_within (Gave bytes) new does w = turn_within (turn_of old) bytes (turn_goes old) does.1 w
  event_within (Placed dev slots offer tables) new does w =
      within_if (dev == n) (told_issued (asked_by offer slots) tables 32) past w (λ b. within_issued (asked_by offer slots) tables 32 past w)
  event_within (Chose turn bytes) new does w = turn_within turn bytes (chosen_goes old turn does.0) does.2 w
  event_within (Commanded value) new does w = within_if (falls old.registers value) (Emptied ∷ []) past w (λ b. w)
  event_within (Hung dev line) new does w = within_if (dev == n) (Emptied ∷ []) past w (λ b. w)
  event_within other new does w = w

-- ---- lists of events

pub core_data_is_within : CoreDataIsWithin
core_data_is_within n lt old new [] run sound past told w = w
core_data_is_within n lt old new (event ∷ events) run sound past told w =
    core_data_is_within n lt run.0 new events run.2 (record { cores = sound.cores.1; frames = sound.frames.1 }) (happened n old event ++ past)
    (step_by n old sound.cores.0 past told event run.0 lt sound.frames.0 run.1) (event_within n old sound.cores.0 past told event run.0 run.1 w)

-- a report fills as it says
reports_filled : (port : Port) → IsCore port → (frame : List ℕ) (room : Room) (report : TakeReport) (new : Port) (past : History) → IsTold (view_of (port_of frame) port) past → Hearkens port frame room report new
    → (b : Bool) → ignores (port_of frame) port frame ≡ b
    → ReportsFilled report.wrote (drop 4 frame) (if b then None else event_heard (decided (port_of frame) (view_of (port_of frame) port) room (admitted (port_of frame) (seen frame))) (drop 4 frame)) past
unfolding heard_report
reports_filled port is frame room report new past told does true e = subst (λ (o : Option Wrote). ReportsFilled o (drop 4 frame) None past) (sym (ap (λ (r : TakeReport). r.wrote) (does.ignored e).reports)) tt
reports_filled port is frame room report new past told does false e =
    let n : ℕ = port_of frame in
    let h : Heard = decided n (view_of n port) room (admitted n (seen frame)) in
    let carries = decided_carries n (view_of n port) room frame in
    subst (λ (o : Option Wrote). ReportsFilled o (drop 4 frame) (event_heard h (drop 4 frame)) past) (sym (ap (λ (r : TakeReport). r.wrote) (does.heard e).reports))
    (by_happening n port is past told h.happening carries.0 h.state.block (drop 4 frame) carries.1)

pub core_reports_filled : CoreReportsFilled
core_reports_filled old port new events run runs frame room report past told does =
    let n : ℕ = port_of frame in
    reports_filled port (last_core old port events run runs.cores) frame room report new (history_through (port_of frame) past old port events run)
    (core_views_are_told (port_of frame) (below_16 (slice_index frame 1)) old port events run runs past told) does (ignores (port_of frame) port frame) refl

below : (port : Port) → IsCore port → (n : ℕ) (c : Context) → context_of port.slots n ≡ Some c → n < 16
below port is n c now = elim (cases_lt n 16) [
  | inl lt ↦ lt
  | inr ge ↦
      let long = is.slots.devices in
      let none : None ≡ Some c = sym (get_or_past port.slots.contexts n None (omega (arith, ge, long))) ∙ now in cc
]

pub core_sends_filled : CoreSendsFilled
core_sends_filled old port events run runs dev slot offset len past is told =
    let last : IsCore port = last_core old port events run runs.cores in
    let fed : IsFeeding port dev slot offset len = subst (GoesBy port) is (turn_goes port) in
    fed_fills dev port last (history_through dev past old port events run) (core_views_are_told dev (below port last dev fed.context fed.now) old port events run runs past told) slot offset len fed

pub core_choices_filled : CoreChoicesFilled
core_choices_filled old port events run runs dev slot offset len past may told =
    let last : IsCore port = last_core old port events run runs.cores in
    let fed : IsFeeding port dev slot offset len = chosen_goes port (Feeds dev slot offset len) may in
    fed_fills dev port last (history_through dev past old port events run) (core_views_are_told dev may.1.dev_below old port events run runs past told) slot offset len fed

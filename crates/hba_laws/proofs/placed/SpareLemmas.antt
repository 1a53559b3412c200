-- For `delivers`. Where the PRDs of issued commands stay, they read as at the issue.
use Rattle.std.proofs.Common.{◌≡◌, ℕ, zero, suc, ◌%◌, ◌<◌, Bool, true, false, cond, eqb, List, [], ◌∷◌, ◌++◌, drop, length, refl, sym, ap, subst, ◌∙◌}
use Rattle.std.proofs.{Common.{inl, inr, Option, Some, None, ◌⊎◌, arith}, lemmas.Bool.{cases_Bool, cases_eq, cases_lt, eqb-true, false≢true}}
use Rattle.std.proofs.lemmas.List.{get_or_past, FromFn.{get_or-map-range_with_len, length-map-range_with_len}}
use Rattle.std.specs.{Prelude.{MatchOption, is_some, slice_index, if◌then◌else◌, map}, Option.{option_map, option_or}}
use Rattle.fis_view.specs.{Frames.Stamped, Seen.seen}
use Rattle.host_memory.specs.Memory.{Memory}
use Rattle.hba_commands.specs.declared.command.Command.{Command}
use Rattle.slots.specs.{Work.{is_dma, is_read}, Slots.{Issue, holds, issue_at, match_some, own_issue, slots_of}}
use Rattle.slots.specs.declared.answer.Answered.TheVariants as answer
use Rattle.hba_fbs.specs.declared.{hearing.Happening.Happening, register.Register.{Register, TheVariants.{Cmd, Ci, Fbs}}}
use Rattle.hba_fbs.specs.{declared.{report.TakeReport.TakeReport, status.Block.Block}, Issuing.{aimed, asked, commands_with}, Registers.falls}
use Rattle.hba_fbs.specs.{Sending.{Gives, Outgoing, outgoing}, Tables.prds_of, Taking.{admitted, heard_now, ignores, port_of}, Views.Port}
use Rattle.hba_fbs.specs.{Views.last_command, Writing.{Accepts, cleared_by, commands_after, refusal_of}}
use Rattle.hba_fbs.specs.declared.hearing.Happening.TheVariants as happening
use Rattle.hba_fbs.specs.Sending as out
use Rattle.hba_laws.specs.{Agreement.{AreHistoriesOf, work_of_issue, work_of_transfer}, Client.{By, Filling, Puts, Stops, Touches, filling, own}}
use Rattle.hba_laws.specs.Delivering.{begun_by, DataReadsAsIssued, HasTables, HaveTables, IsReadAsIssued, ReadsAsIssued, SparedTablesRead}
use Rattle.hba_laws.specs.Delivering.{SparesTables, by_device, event_heard, event_of, event_taken, is_control_issue, issued_below, touched}
use Rattle.hba_laws.specs.{Delivering.{touched_by_clear, touched_by_out, touched_by_write}, History.{Carried, Emptied, Event, History, Issued, Sent}}
use Rattle.hba_laws.specs.{History.{SentControl, SetUp, Transfer, completes, issued, unless}, Hosts.{Does, Flushed, Gave, Host, HostEvent, Put}}
use Rattle.hba_laws.specs.{Hosts.{TakesFrame, Took, Wrote}, Sound.IsHost, Between.{NoneIssues, NotIssue, history_below, transfer_of, with_issued}}
use Rattle.hba_laws.proofs.{placed.ClientLemmas.histories_step, histories.IssueLemmas.{asked_free, other_below, own_app, own_below_is}}
use Rattle.hba_laws.proofs.histories.{StandLemmas.{filling_is, some_inj}, ViewLemmas.own_in}

-- ---- what was issued before

by_completion : (b : Event → History → Transfer → Bool) (e : Event) (past : History) (o : Option Transfer) (t : Transfer)
    → match_some o None (λ u. unless (b e past u) (Some u)) ≡ Some t → o ≡ Some t
by_completion b e past None t h = h
by_completion b e past (Some u) t h = by_test (b e past u) h
  where
    by_test : (c : Bool) → unless c (Some u) ≡ Some t → Some u ≡ Some t
    by_test true h = cc
    by_test false h = h

by_control : (b : Bool) (o : Option Transfer) (t : Transfer) → unless b o ≡ Some t → o ≡ Some t
by_control true o t h = cc
by_control false o t h = h

pub issued_before : (s : ℕ) (e : Event) (past : History) (t : Transfer) → NotIssue e → issued s (e ∷ past) ≡ Some t → issued s past ≡ Some t
unfolding NotIssue
issued_before s (Issued slot u) past t not h = absurd not
issued_before s (SentControl slot) past t not h = by_control (eqb slot s) (issued s past) t h
issued_before s Emptied past t not h = cc
issued_before s e past t not h = by_completion (λ e past u. completes s e past u.work) e past (issued s past) t h

pub was_there : (n s : ℕ) (touches past : Touches) (t : Transfer) → NoneIssues touches → issued s (own n (touches ++ past)) ≡ Some t → issued s (own n past) ≡ Some t
unfolding NoneIssues
was_there n s [] past t none h = h
was_there n s (By dev e ∷ rest) past t none h = was_there n s rest past t none.1 (by_test (eqb dev n) h)
  where
    by_test : (b : Bool) → issued s (cond b (e ∷ own n (rest ++ past)) (own n (rest ++ past))) ≡ Some t → issued s (own n (rest ++ past)) ≡ Some t
    by_test true h = issued_before s e (own n (rest ++ past)) t none.0 h
    by_test false h = h
was_there n s (Stops ∷ rest) past t none h = let bad : None ≡ Some t = h in cc
was_there n s (Puts at bytes ∷ rest) past t none h = was_there n s rest past t none h

-- ---- which events issue nothing

happening_none : (dev : ℕ) (x : Happening) (block : Option Block) (payload : List ℕ) → NoneIssues (by_device dev (event_of x block payload))
unfolding NoneIssues NotIssue
happening_none dev happening.Nothing block payload = tt
happening_none dev (happening.Answered (answer.Short slot)) block payload = tt
happening_none dev (happening.PioSetUp count to_host) None payload = tt
happening_none dev (happening.PioSetUp count to_host) (Some b) payload = (tt, tt)
happening_none dev happening.Activated block payload = tt
happening_none dev other block payload = (tt, tt)

pub took_none : (old : Host) (frame : List ℕ) → NoneIssues (by_device (port_of frame) (event_taken old frame))
unfolding NoneIssues
took_none old frame = by_ignored (ignores (port_of frame) old.port frame)
  where
    by_ignored : (b : Bool) → NoneIssues (by_device (port_of frame) (cond b None (event_heard (heard_now old.port old.memory (port_of frame) (admitted (port_of frame) (seen frame))) (drop 4 frame))))
    by_ignored true = tt
    by_ignored false =
        let h = heard_now old.port old.memory (port_of frame) (admitted (port_of frame) (seen frame)) in
        happening_none (port_of frame) h.happening h.state.block (drop 4 frame)

pub out_none : (old : Host) (o : Outgoing) → NoneIssues (touched_by_out old o)
unfolding NoneIssues NotIssue
out_none old (out.Data dev offset len command) = (tt, tt)
out_none old (out.Order dev slot command) = by_issue (issue_at old.port.slots slot)
  where
    by_kind : (i : Issue) (d b : Bool) → NoneIssues (map (By dev) (if d then SetUp slot 0 i.work.len (is_read i.work.kind) ∷ [] else []) ++ By dev (cond b (SentControl slot) (Sent slot)) ∷ [])
    by_kind i true true = (tt, (tt, tt))
    by_kind i true false = (tt, (tt, tt))
    by_kind i false true = (tt, tt)
    by_kind i false false = (tt, tt)

    by_issue : (o : Option Issue) → NoneIssues (map (By dev) (begun_by slot o) ++ By dev (cond (holds is_control_issue o) (SentControl slot) (Sent slot)) ∷ [])
    by_issue None = (tt, tt)
    by_issue (Some i) = by_kind i (is_dma i.work.kind) (is_control_issue i)
out_none old other = tt

pub clear_none : (o : Option ℕ) → NoneIssues (touched_by_clear o)
unfolding NoneIssues NotIssue
clear_none None = tt
clear_none (Some dev) = (tt, tt)

pub falls_none : (b : Bool) → NoneIssues (cond b (Stops ∷ []) [])
unfolding NoneIssues
falls_none true = tt
falls_none false = tt

pub gives_commands : (o : Outgoing) (old new : Port) (memory : Memory) (frame : Option Stamped) → Gives o old memory frame new → new.commands ≡ old.commands
gives_commands (out.Data dev offset len command) old new memory None does = absurd does
gives_commands (out.Data dev offset len command) old new memory (Some f) does = does.commands
gives_commands (out.Order dev slot command) old new memory None does = absurd does
gives_commands (out.Order dev slot command) old new memory (Some f) does = does.commands
gives_commands other old new memory frame does = ap (λ (p : Port). p.commands) does.1

-- ---- one event

module _ (old : Host) (host : IsHost old) (past : Touches) (hist : AreHistoriesOf old past) (tables : HaveTables old past) (new : Host) (spares : SparesTables old new) where
  -- what a history issues stands in the slot
  stands : (n s : ℕ) (t : Transfer) → n < 16 → issued s (own n past) ≡ Some t → (s < 32) × (is_some (issue_at old.port.slots s) ≡ true)
  stands n s t lt at = by_issue (own_issue (slots_of n old.port.slots) s) refl
    where
      by_issue : (o : Option Issue) → own_issue (slots_of n old.port.slots) s ≡ o → (s < 32) × (is_some (issue_at old.port.slots s) ≡ true)
      by_issue None e =
          let bad : Some t.work ≡ None = sym (ap (option_map work_of_transfer) at) ∙ (hist n lt).issued s ∙ ap (option_map work_of_issue) e in cc
      by_issue (Some i) e =
          let p = own_in n s old.port.slots i e in
          let long = host.slots.slots in
          (omega (arith, long, p.0), ap is_some p.1)

  -- it was issued before, and its command is the same
  kept_table : (n s : ℕ) (t : Transfer) (command : Command) → n < 16 → issued s (own n past) ≡ Some t → last_command old.port.commands s ≡ Some command → prds_of new.memory command ≡ t.table
  kept_table n s t command lt at last = spares s command (stands n s t lt at).1 last ∙ tables n lt s t command at last

  none_issued : (touches : Touches) → NoneIssues touches → new.port.commands ≡ old.port.commands → HaveTables new (touches ++ past)
  none_issued touches none same n lt s t command at last =
      kept_table n s t command lt (was_there n s touches past t none at) (ap (λ c. last_command c s) (sym same) ∙ last)

  -- ---- commands are issued

  abbrev commands : ℕ → ℕ → Option Command
  commands value = asked old.port.registers old.memory value

  abbrev IsNewOr : ℕ → History → ℕ → Transfer → Type 0
  IsNewOr value h s t = ((command : Command) × (commands value s ≡ Some command) × (transfer_of old.memory command ≡ t)) ⊎ (issued s h ≡ Some t)

  next_case : (value : ℕ) (h later : History) (m s : ℕ) (t : Transfer) → (issued s later ≡ Some t → IsNewOr value h s t) → (o : Option Command) → commands value m ≡ o
      → issued s (with_issued old.memory m o later) ≡ Some t → IsNewOr value h s t
  next_case value h later m s t rest None here e = rest e
  next_case value h later m s t rest (Some command) here e = by_test (eqb m s) refl e
    where
      by_test : (b : Bool) → eqb m s ≡ b → cond b (Some (transfer_of old.memory command)) (issued s later) ≡ Some t → IsNewOr value h s t
      by_test true is e = inl (command, ap (commands value) (sym (eqb-true m s is)) ∙ here, some_inj (transfer_of old.memory command) t e)
      by_test false is e = rest e

  issued_cases : (value : ℕ) (h : History) (m s : ℕ) (t : Transfer) → issued s (history_below old.memory (commands value) h m) ≡ Some t → IsNewOr value h s t
  issued_cases value h zero s t e = inr e
  issued_cases value h (suc m) s t e =
      next_case value h (history_below old.memory (commands value) h m) m s t (issued_cases value h m s t) (commands value m) refl e

  -- the command of a slot after the write
  command_then : (value s : ℕ) → new.port.commands ≡ commands_with (commands value) old.port.commands
      → (command : Command) → last_command new.port.commands s ≡ Some command → option_or (commands value s) (last_command old.port.commands s) ≡ Some command
  unfolding commands_with
  command_then value s same command last = elim (cases_lt s (length old.port.commands)) [
    | inl lt ↦
        sym (get_or-map-range_with_len (λ slot. option_or (commands value slot) (last_command old.port.commands slot)) 0 (length old.port.commands) s s None lt (omega arith))
        ∙ sym (ap (λ c. last_command c s) same) ∙ last
    | inr ge ↦
        let long = length-map-range_with_len (λ slot. option_or (commands value slot) (last_command old.port.commands slot)) 0 (length old.port.commands) in
        let none : None ≡ Some command = sym (get_or_past (commands_with (commands value) old.port.commands) s None (omega (arith, long, ge))) ∙ sym (ap (λ c. last_command c s) same) ∙ last in cc
  ]

  not_asked : (value s : ℕ) → s < 32 → is_some (issue_at old.port.slots s) ≡ true → refusal_of Ci old.port old.memory value ≡ None → (o : Option Command) → commands value s ≡ o → o ≡ None
  not_asked value s lt here accepted None e = refl
  not_asked value s lt here accepted (Some command) e =
      absurd (false≢true (sym (ap is_some (asked_free old.port old.memory value s accepted lt (ap is_some e))) ∙ here))

  -- after a write of PxCI
  ci_tables : (value : ℕ) → refusal_of Ci old.port old.memory value ≡ None → new.port.commands ≡ commands_with (commands value) old.port.commands → new.memory ≡ old.memory
      → HaveTables new (issued_below (aimed old.port.registers old.memory.structure value) old.memory (commands value) 32 ++ past)
  ci_tables value accepted same memory n lt s t command at last = elim (cases_eq (aimed old.port.registers old.memory.structure value) n) [
    | inl chosen ↦
        by_case (issued_cases value (own n past) 32 s t
        (sym (ap (issued s) (own_app n (issued_below (aimed old.port.registers old.memory.structure value) old.memory (commands value) 32) past
        ∙ ap (λ (d : ℕ). own n (issued_below d old.memory (commands value) 32) ++ own n past) chosen ∙ own_below_is n old.memory (commands value) (own n past) 32)) ∙ at))
    | inr ne ↦
        before (sym (ap (issued s) (own_app n (issued_below (aimed old.port.registers old.memory.structure value) old.memory (commands value) 32) past
        ∙ ap (λ h. h ++ own n past) (other_below n (aimed old.port.registers old.memory.structure value) old.memory (commands value) 32 ne))) ∙ at)
  ]
    where
      before : issued s (own n past) ≡ Some t → prds_of new.memory command ≡ t.table
      before was =
          let here = stands n s t lt was in
          let none : commands value s ≡ None = not_asked value s here.0 here.1 accepted (commands value s) refl in
          kept_table n s t command lt was (sym (ap (λ o. option_or o (last_command old.port.commands s)) none) ∙ command_then value s same command last)

      by_case : IsNewOr value (own n past) s t → prds_of new.memory command ≡ t.table
      by_case x = elim x [
        | inl p ↦
            let is : p.0 ≡ command = some_inj p.0 command (sym (ap (λ o. option_or o (last_command old.port.commands s)) p.1) ∙ command_then value s same command last) in
            ap (λ (m : Memory). prds_of m command) memory ∙ ap (prds_of old.memory) (sym is) ∙ ap (λ (u : Transfer). u.table) p.2
        | inr was ↦ before was
      ]

  wrote_tables : (register : Register) (value : ℕ) → refusal_of register old.port old.memory value ≡ None → Accepts old.port old.memory register value new.port → new.memory ≡ old.memory
      → HaveTables new (touched_by_write register old value ++ past)
  unfolding commands_after NoneIssues
  wrote_tables Cmd value accepted does memory = none_issued (touched_by_write Cmd old value) (falls_none (falls old.port.registers value)) does.commands
  wrote_tables Ci value accepted does memory = ci_tables value accepted does.commands memory
  wrote_tables Fbs value accepted does memory = none_issued (touched_by_write Fbs old value) (clear_none (cleared_by old.port.errors value)) does.commands
  wrote_tables other value accepted does memory = none_issued [] tt does.commands

  took_commands : (frame : List ℕ) (report : TakeReport) → TakesFrame old frame report new → new.port.commands ≡ old.port.commands
  took_commands frame report does = elim (cases_Bool (ignores (port_of frame) old.port frame)) [
    | inl ignored ↦ ap (λ (p : Port). p.commands) (does.ignored ignored).port
    | inr heard ↦ (does.heard heard).commands
  ]

  pub event_tables : (event : HostEvent) → Does old event new → HaveTables new (touched old event ++ past)
  unfolding NoneIssues NotIssue
  event_tables (Took frame report) does = none_issued (by_device (port_of frame) (event_taken old frame)) (took_none old frame) (took_commands frame report does)
  event_tables (Wrote register value) does = wrote_tables register value does.0 does.1 does.2
  event_tables (Flushed dev) does = none_issued (By dev Emptied ∷ []) (tt, tt) does.0.commands
  event_tables (Gave frame) does =
      none_issued (touched_by_out old (outgoing old.port old.memory)) (out_none old (outgoing old.port old.memory)) (gives_commands (outgoing old.port old.memory) old.port new.port old.memory frame does.0)
  event_tables (Put at bytes) does = none_issued (Puts at bytes ∷ []) tt (ap (λ (p : Port). p.commands) does.1)
  event_tables other does = none_issued [] tt (ap (λ (p : Port). p.commands) does.1)

-- Data is written by the table that stood there at the issue
data_reads : (old : Host) (past : History) (n : ℕ) → HasTables n old past → (e : Event) → DataReadsAsIssued old past e
data_reads old past n tables (Carried bytes) = by_filling (filling past) refl
  where
    by_last : (f : Filling) → filling past ≡ Some f → (o : Option Command) → last_command old.port.commands f.slot ≡ o → MatchOption o (Unit {0}) (λ command. prds_of old.memory command ≡ f.transfer.table)
    by_last f e None last = tt
    by_last f e (Some command) last = tables f.slot f.transfer command (filling_is past f e).is_issued last

    by_filling : (o : Option Filling) → filling past ≡ o → MatchOption o (Unit {0}) (ReadsAsIssued old)
    by_filling None e = tt
    by_filling (Some f) e = by_last f e (last_command old.port.commands f.slot) refl
data_reads old past n tables e = tt

below_16 : (n : ℕ) → n % 16 < 16
below_16 n = omega arith

pub event_reads : (old : Host) (past : Touches) → HaveTables old past → (event : HostEvent) → IsReadAsIssued past old event
event_reads old past tables (Took frame report) = by_event (event_taken old frame)
  where
    by_event : (o : Option Event) → MatchOption o (Unit {0}) (DataReadsAsIssued old (own (port_of frame) past))
    by_event None = tt
    by_event (Some e) = data_reads old (own (port_of frame) past) (port_of frame) (tables (port_of frame) (below_16 (slice_index frame 1))) e
event_reads old past tables event = tt

pub spared_tables_read : SparedTablesRead
spared_tables_read old new [] run sound past hist tables spared = (tt, subst (λ (h : Host). HaveTables h past) (sym run) tables)
spared_tables_read old new (event ∷ events) run sound past hist tables spared =
    let rest = spared_tables_read run.0 new events run.2 (record { hosts = sound.hosts.1; frames = sound.frames.1 }) (touched old event ++ past)
    (histories_step old sound.hosts.0 past hist event run.0 sound.frames.0 run.1)
    (event_tables old sound.hosts.0 past hist tables run.0 spared.0 event run.1) spared.1 in
    ((event_reads old past tables event, rest.0), rest.1)

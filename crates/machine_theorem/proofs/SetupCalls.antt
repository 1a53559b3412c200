-- The history of a device beside what its FISes say, over the calls of a controller.
use Rattle.std.proofs.Common.{◌≡◌, ℕ, ◌+◌, ◌-◌, length, ◌<◌, ◌≤◌, ◌^◌, Bool, true, false, List, [], ◌∷◌, ◌++◌, append-nil, drop, refl, sym, ap, subst}
use Rattle.std.proofs.{Common.{◌∙◌, Option, Some, None}, lemmas.{Bool.{eqb-true, false≢true, true≢false}, List.{length-drop}}}
use Rattle.std.specs.Prelude.{◌==◌, ◌%◌, if◌then◌else◌, Result, Ok, Err}
use Rattle.fis_view.specs.{Seen.seen, declared.view.{Fis.Fis, FisFault.FisFault}}
use Rattle.fis_view.specs.declared.view.Fis.TheVariants as view
use Rattle.guest_fetch.specs.Commands.{Fetched}
use Rattle.hba_commands.specs.declared.command.Command.{Command}
use Rattle.slots.specs.{Data.payload, Slots.{Issue, context_of, issue_at, match_some, own_issue}, declared.work.Kind.{Kind, TheVariants.QueuedRead}}
use Rattle.slots.specs.{declared.work.Work.Work, Work.{is_dma, is_read}}
use Rattle.ahci_registers.specs.Bits as line_bits
use Rattle.ahci_registers.specs.{Offsets.register_at, declared.{link.Effect.Effect, register.Register.Register}}
use Rattle.ahci_registers.specs.declared.link.Effect.TheVariants as effect
use Rattle.ahci_registers.specs.declared.register.Register.TheVariants as ahci
use Rattle.hba_fbs.specs.{Greeting.Greets, Taking.{heard_report, port_of}, Turning.feeds, Views.{Port, last_command, view_of}}
use Rattle.hba_fbs.specs.declared.{turn.Turn.TheVariants.{Orders, Rests}, error.WriteError.WriteError, report.{TakeReport.TakeReport, Wrote.Wrote}}
use Rattle.hba_fbs.specs.declared.register.Register as port_register
use Rattle.hba_fbs.specs.declared.register.Register.TheVariants as on_port
use Rattle.hba_laws.proofs.Door.{own_in}
use Rattle.hba_laws.specs.{Agreement.IsTold, CoreHistories.{CoreChoicesFilled, CoreReportsFilled, CoreViewsAreTold, FillsFrom, ReportsFilled}}
use Rattle.hba_laws.specs.{CoreHistories.event_by, Cores.CoreEvent, History.{Carried, History, Transfer, issued}}
use Rattle.hba_laws.specs.Cores as core
use Rattle.ahci_controller.specs.{Access.{fits, high_of, low_of, merged, ones_of, spread_of}, Issuing.{device_of, offered_command}, Next.is_halted}
use Rattle.ahci_controller.specs.{Next.{next_write, turn_to, written}, Offers.{offer_in, offers_nothing}, Reading.shown, States.ControllerState}
use Rattle.ahci_controller.specs.{States.kept, Taking.{CoreHearsIf, part_of, payload_of, room_for}, Wide.{WritesFitting, block_of}}
use Rattle.ahci_controller.specs.{Writing.{clears_busy, link_effect, told_refusal}, declared.{access.Width.Width, feeding.Fed.Fed}}
use Rattle.ahci_controller.specs.declared.{issuing.Supply.Supply, latch.Edge.Edge, next.Next.Next, taking.Took.Took, wide.WideWritten.WideWritten}
use Rattle.ahci_controller.specs.declared.feeding.Fed.TheVariants as fed_answer
use Rattle.ahci_controller.specs.declared.issuing.Supply.TheVariants as supply_answer
use Rattle.ahci_controller.specs.declared.next.Next.TheVariants as next_step
use Rattle.controller_laws.specs.CoreEvents.{AreCoreEvents, EventsAreCoreEvents, commanded_by, no_tables, of_event, of_fed, of_frame, of_next}
use Rattle.controller_laws.specs.CoreEvents.{of_part, of_register, of_supply, of_turn, of_wide, overridden_by, relinked_by, reset_by, told}
use Rattle.controller_laws.specs.Events.{Does, Event, IsController, Runs}
use Rattle.controller_laws.specs.Events as call
use Rattle.sata_disk_books.specs.{Counted.{Counted, more_by}, Fises.told_by}
use Rattle.machine_theorem.specs.Following.{AllHeardWell, DataFollowSetups, HearsWell, IsHeardWell, told_call, told_calls}
use Rattle.machine_theorem.proofs.{Ordered.{fed_some, last_kept}, SetupHistory.{Follows, IsUp, NoneUp, carried_follows, nothing_up}}
use Rattle.machine_theorem.proofs.{SetupFrames.{has_up, is_blocks, the_issue, told_with}, SetupCores.{AreNoFises, Beside, Carries, IsNoFis}}
use Rattle.machine_theorem.proofs.SetupCores.{IsWritten, fed_beside, fis_beside, fises_none, match_is, other_beside}

-- ---- calls that take no FIS

module _ (k : Kind) (n : ℕ) where
  both_none : (xs ys : List CoreEvent) → AreNoFises k n xs → AreNoFises k n ys → AreNoFises k n (xs ++ ys)
  both_none [] ys a b = b
  both_none (x ∷ xs) ys a b = (a.0, both_none xs ys a.1 b)

  told_none : (o : Option WriteError) (r : port_register.Register) (value : ℕ) → IsWritten r
      → AreNoFises k n (match_some o (core.Wrote r value (offer_in offers_nothing) no_tables ∷ []) (λ e. []))
  told_none None r value is = (is, tt)
  told_none (Some e) r value is = tt

  reset_none : (b : Bool) → AreNoFises k n (reset_by b)
  reset_none true = (tt, (tt, tt))
  reset_none false = tt

  relinked_none : (e : Effect) (c : ControllerState) (value : ℕ) → AreNoFises k n (relinked_by e c value)
  relinked_none effect.Nothing c value = tt
  relinked_none effect.LinkReset c value = (tt, (tt, tt))
  relinked_none effect.LinkUp c value = tt

  overridden_none : (b : Bool) (p : Port) → AreNoFises k n (overridden_by b p)
  overridden_none true p = (tt, tt)
  overridden_none false p = tt

  commanded_none : (o : Option WriteError) (value : ℕ) → AreNoFises k n (match_some o (core.Commanded value ∷ []) (λ e. []))
  commanded_none None value = (tt, tt)
  commanded_none (Some e) value = tt

  register_none : (r : Register) (c : ControllerState) (value : ℕ) → AreNoFises k n (of_register r c value)
  register_none ahci.Ghc c value = reset_none (line_bits.has_bit value 0)
  register_none ahci.PxIs c value = told_none (told_refusal c on_port.Is _) on_port.Is _ tt
  register_none ahci.PxCmd c value = both_none (overridden_by (clears_busy c value) c.core) (commanded_by c value) (overridden_none (clears_busy c value) c.core) (commanded_none _ _)
  register_none ahci.PxSctl c value = relinked_none (link_effect c value) c value
  register_none ahci.PxSerr c value = told_none (told_refusal c on_port.Serr _) on_port.Serr _ tt
  register_none ahci.PxSact c value = told_none (told_refusal c on_port.Sact _) on_port.Sact _ tt
  register_none ahci.PxSntf c value = told_none (told_refusal c on_port.Sntf _) on_port.Sntf _ tt
  register_none ahci.PxFbs c value = told_none (told_refusal c on_port.Fbs _) on_port.Fbs _ tt
  register_none other c value = tt

  write_none : (o : Option Register) (value : Register → ℕ) (c : ControllerState) → AreNoFises k n (match_some o [] (λ r. of_register r c (value r)))
  write_none None value c = tt
  write_none (Some r) value c = register_none r c (value r)

  if_written : (b : Bool) (o : Option Register) (value : Register → ℕ) (c : ControllerState) → AreNoFises k n (if b then [] else match_some o [] (λ r. of_register r c (value r)))
  if_written true o value c = tt
  if_written false o value c = write_none o value c

  part_none : (c : ControllerState) (offset value mask : ℕ) → AreNoFises k n (of_part c offset value mask)
  part_none c offset value mask = if_written (mask == 0) (register_at offset) (λ r. merged r (shown r c) value mask) c

  wide_none : (b : Bool) (old : ControllerState) (offset : ℕ) (width : Width) (value : ℕ) (result : WideWritten) (new : ControllerState)
      (h : WritesFitting b old offset width value result new) → AreNoFises k n (of_wide b old offset width value result new h)
  wide_none true old offset width value result new h =
      let low : ℕ = low_of (spread_of (offset % 8) value) in
      let high : ℕ = high_of (spread_of (offset % 8) value) in
      let low_mask : ℕ = low_of (spread_of (offset % 8) (ones_of width)) in
      let high_mask : ℕ = high_of (spread_of (offset % 8) (ones_of width)) in
      both_none (of_part old (block_of offset) low low_mask) (of_part h.middle (block_of offset + 4) high high_mask) (part_none old (block_of offset) low low_mask)
      (part_none h.middle (block_of offset + 4) high high_mask)
  wide_none false old offset width value result new h = tt

  placed_none : (slot : ℕ) (o : Option Fetched) → AreNoFises k n (match_some o [] (λ command. core.Placed (device_of command) (2 ^ slot) (offer_in (offered_command command)) no_tables ∷ []))
  placed_none slot None = tt
  placed_none slot (Some command) = (tt, tt)

  supply_none : (slot : ℕ) (told : Supply) (new : ControllerState) → AreNoFises k n (of_supply told slot new)
  supply_none slot (supply_answer.Issued dev) new = placed_none slot (kept new slot)
  supply_none slot supply_answer.More new = tt
  supply_none slot (supply_answer.NotTaken reason message line) new = tt
  supply_none slot supply_answer.OutOfMemory new = tt
  supply_none slot supply_answer.Stale new = tt

  last_plain : is_dma k ≡ false → (p : Option Command) (dev slot : ℕ) (fis : List ℕ) → IsNoFis k n (core.Chose (match_some p Rests (Orders dev slot)) fis)
  last_plain other None dev slot fis = tt
  last_plain other (Some command) dev slot fis = other

  issue_plain : is_dma k ≡ false → (o : Option Issue) (p : Option Command) (slot : ℕ) (fis : List ℕ)
      → IsNoFis k n (core.Chose (match_some o Rests (λ issue. match_some p Rests (Orders issue.dev slot))) fis)
  issue_plain other None p slot fis = tt
  issue_plain other (Some issue) p slot fis = last_plain other p issue.dev slot fis

  next_none : is_dma k ≡ false → (next : Next) (old : ControllerState) → AreNoFises k n (of_next next old)
  next_none other (next_step.Order dev slot fis) old = (issue_plain other (issue_at old.core.slots slot) (last_command old.core.commands slot) slot fis, tt)
  next_none other said old = tt

  turn_none : is_dma k ≡ false → (halted started : Bool) (next : Next) (old : ControllerState) → AreNoFises k n (of_turn halted started next old)
  turn_none other true started next old = next_none other next old
  turn_none other false true next old = next_none other next old
  turn_none other false false next old = commanded_none _ _

  turned_none : is_dma k ≡ false → (o : Option Next) (next : Next) (old : ControllerState)
      → AreNoFises k n (match_some o (of_turn (is_halted (written old)) old.core.registers.started next old) (λ write. of_next next old))
  turned_none other None next old = turn_none other (is_halted (written old)) old.core.registers.started next old
  turned_none other (Some write) next old = next_none other next old

  payload_plain : (o : Option (ℕ × ℕ × ℕ)) (dev : ℕ) (frame : List ℕ) → (is_read k ≡ false → (dev == n) ≡ false) → IsNoFis k n (core.Chose (match_some o Rests (feeds dev)) frame)
  payload_plain None dev frame apart = tt
  payload_plain (Some x) dev frame apart = apart

  abbrev pub IsNoTake : Event → Type 0
  IsNoTake (call.Took frame took) = ⊥
  IsNoTake (call.Turned next) = is_dma k ≡ false
  IsNoTake (call.Gathered dev number frame (fed_answer.Goes message line)) = is_read k ≡ false → (dev == n) ≡ false
  IsNoTake e = Unit {0}

  fed_none : (fed : Fed) (old : ControllerState) (dev number : ℕ) (frame : List ℕ) → IsNoTake (call.Gathered dev number frame fed) → AreNoFises k n (of_fed fed old dev frame)
  fed_none (fed_answer.Goes message line) old dev number frame apart = (payload_plain (payload (context_of old.core.slots dev)) dev frame apart, tt)
  fed_none other old dev number frame apart = tt

  pub call_none : (e : Event) (old new : ControllerState) (does : Does old e new) → IsNoTake e → AreNoFises k n (of_event old e new does)
  call_none (call.Wrote offset value written) old new does is = write_none (register_at offset) (λ r. value) old
  call_none (call.WroteWide offset width value written) old new does is = wide_none (fits width offset) old offset width value written new does
  call_none (call.Supplied slot number bytes told) old new does is = supply_none slot told new
  call_none (call.Missed slot number told) old new does is = tt
  call_none (call.Took frame took) old new does is = absurd is
  call_none (call.Left frame why) old new does is = tt
  call_none (call.Turned next) old new does is = turned_none is (next_write old) next old
  call_none (call.Said write) old new does is = tt
  call_none (call.Gathered dev number frame fed) old new does is = fed_none fed old dev number frame is
  call_none (call.NotThere dev number fed) old new does is = tt

-- ---- each call

pub record Laws : Type 0 where
  pub events : EventsAreCoreEvents
  pub views : CoreViewsAreTold
  pub filled : CoreReportsFilled
  pub chosen : CoreChoicesFilled

pub first_kept : (events : List Event) (old new : ControllerState) → Runs old events new → IsController old
first_kept [] old new run = run.0
first_kept (e ∷ events) old new run = run.0

pub greeted_none : (old new : Port) (dev : ℕ) (o : Option (List ℕ)) (report : TakeReport) → Greets old dev o report new → report.wrote ≡ None
unfolding heard_report
greeted_none old new dev None report h = ap (λ (r : TakeReport). r.wrote) h.reports
greeted_none old new dev (Some f) report h = ap (λ (r : TakeReport). r.wrote) h.reports

module _ (k : Kind) (stream : is_blocks k ≡ false) (laws : Laws) (n : ℕ) (low : n < 16) where
  pub core_events : (old new : ControllerState) (e : Event) → IsController old → IsController new → (does : Does old e new) → AreCoreEvents old.core (of_event old e new does) new.core
  core_events old new e is l does =
      subst (λ (events : List CoreEvent). AreCoreEvents old.core events new.core) (append-nil (of_event old e new does))
      (laws.events old new (e ∷ []) (is, (new, does, (l, refl))))

  pub none_taken : (e : Event) (old new : ControllerState) (does : Does old e new) → IsController old → IsController new → IsNoTake k n e → (t : Option Counted)
      → Beside k n old.core t → Beside k n new.core t
  none_taken e old new does is l plain t was =
      let are : AreCoreEvents old.core (of_event old e new does) new.core = core_events old new e is l does in
      fises_none k stream laws.views n low (of_event old e new does) old.core new.core are.run are.sound.cores are.sound.frames (call_none k n e old new does plain) t was

  -- where Data of the device come, this follows
  abbrev pub CarriesAt : (data' : ℕ → Option Counted → Option Counted) → (c : ControllerState) → (t : Option Counted) → Type 0
  CarriesAt data' c t = (frame : List ℕ) → port_of frame ≡ n → (was : Beside k n c.core t) → Carries k data' c.core frame was.past t

  -- a FIS is taken
  taken_case : (data' : ℕ → Option Counted → Option Counted) (old new : ControllerState) (frame : List ℕ) (took : Took) (started own : Bool) → old.core.registers.started ≡ started
      → (port_of frame == n) ≡ own → (are : AreCoreEvents old.core (of_frame started old frame took.report ∷ []) new.core) → (port_of frame ≡ n → IsHeardWell old took)
      → (t : Option Counted) → CarriesAt data' old t → Beside k n old.core t → Beside k n new.core (if own then told_with data' (seen frame) t else t)
  taken_case data' old new frame took false true starts own are well t carries was = absurd (false≢true (sym starts ∙ (well (eqb-true (port_of frame) n own)).started))
  taken_case data' old new frame took false false starts own are well t carries was =
      fises_none k stream laws.views n low (core.Greeted frame took.report ∷ []) old.core new.core are.run are.sound.cores are.sound.frames (tt, tt) t was
  taken_case data' old new frame took true true starts own are well t carries was =
      let same : port_of frame ≡ n = eqb-true (port_of frame) n own in
      let w : IsHeardWell old took = well same in
      subst (λ (p : Port). Beside k n p (told_with data' (seen frame) t)) (sym are.run.2)
      (fis_beside k stream laws.views n low data' old.core are.run.0 frame (room_for old (port_of frame)) took.report same are.sound.cores.0 are.sound.cores.1 are.sound.frames.0 are.run.1
      w.heard w.well w.runs t was (carries frame same was))
  taken_case data' old new frame took true false starts own are well t carries was =
      subst (λ (p : Port). Beside k n p t) (sym are.run.2)
      (other_beside k stream laws.views n low old.core are.run.0 frame (room_for old (port_of frame)) took.report own are.sound.cores.0 are.sound.cores.1 are.sound.frames.0 are.run.1 t was)

  pub taken_beside : (data' : ℕ → Option Counted → Option Counted) (old new : ControllerState) (frame : List ℕ) (took : Took) (does : Does old (call.Took frame took) new)
      → IsController old → IsController new → HearsWell n old (call.Took frame took) → (t : Option Counted) → CarriesAt data' old t → Beside k n old.core t
      → Beside k n new.core (if port_of frame == n then told_with data' (seen frame) t else t)
  taken_beside data' old new frame took does is l well t carries was =
      taken_case data' old new frame took old.core.registers.started (port_of frame == n) refl refl (core_events old new (call.Took frame took) is l does) well t carries was

  -- Data go to it
  pub gone_beside : (old new : ControllerState) (dev number : ℕ) (frame : List ℕ) (message : Bool) (line : Edge)
      (does : Does old (call.Gathered dev number frame (fed_answer.Goes message line)) new) → IsController old → IsController new → dev ≡ n → (t : Option Counted)
      → Beside k n old.core t → Beside k n new.core (more_by (length frame - 4) t)
  gone_beside old new dev number frame message line does is l same t was =
      let e : Event = call.Gathered dev number frame (fed_answer.Goes message line) in
      let are : AreCoreEvents old.core (core.Chose (turn_to old dev) frame ∷ []) new.core = core_events old new e is l does in
      subst (λ (p : Port). Beside k n p (more_by (length frame - 4) t)) (sym are.run.2)
      (fed_beside k stream laws.views n low old.core are.run.0 dev frame (payload (context_of old.core.slots dev)) same
      (fed_some old new dev number (fed_answer.Goes message line) tt does.1) are.sound.cores.0 are.sound.cores.1 are.run.1 t was)

  -- ---- the beginning, and the slot

  pub nothing_set : (port : Port) (past : History) → IsTold (view_of n port) past → context_of port.slots n ≡ None → NoneUp k past
  nothing_set port past told none s up = let h = has_up k (view_of n port) past s told up in (let both = sym h.set ∙ none in cc)

  pub starts_beside : (port : Port) (past : History) → IsTold (view_of n port) past → context_of port.slots n ≡ None → Beside k n port None
  starts_beside port past told none = record { past = past; told = told; follows = nothing_up k past None (nothing_set port past told none) }

  -- the slot is set up
  pub up_now : (at : ControllerState) (past : History) (slot offset len : ℕ) (issue : Issue) → IsTold (view_of n at.core) past → FillsFrom slot offset len past
      → issue_at at.core.slots slot ≡ Some issue → issue.work.kind ≡ k → IsUp k slot past
  up_now at past slot offset len issue told fills there kind =
      let x = match_is (λ (y : Transfer). offset + len ≤ y.work.len) (issued slot past) fills.of_issue in
      let i = the_issue (issued slot past) (own_issue (view_of n at.core).slots slot) x.0 (told.issued slot) x.1.0 in
      let same : i.0 ≡ issue = ap (λ (o : Option Issue). match_some o i.0 (λ y. y)) (sym (own_in n slot at.core.slots i.0 i.1.0).1 ∙ there) in
      record {
        transfer = x.0;
        is = x.1.0;
        up = fills.is_up;
        kind = sym (ap (λ (w : Work). w.kind) i.1.1) ∙ ap (λ (y : Issue). y.work.kind) same ∙ kind;
      }

-- ---- a queued read: Data come

pub told_same : (r : Result Fis FisFault) (t : Option Counted) → told_with more_by r t ≡ told_by r t
told_same (Ok (view.DmaSetup f)) t = refl
told_same (Ok (view.Payload f)) t = refl
told_same (Ok other) t = refl
told_same (Err e) t = refl

module _ (laws : Laws) (n : ℕ) (low : n < 16) where
  comes_on : (c : ControllerState) (t : Option Counted) → CarriesAt QueuedRead refl laws n low more_by c t
  comes_on c t frame own was context set way =
      subst (λ (j : ℕ). Follows QueuedRead (Carried (drop 4 frame) ∷ was.past) (more_by j t)) (length-drop 4 frame) (carried_follows QueuedRead (drop 4 frame) was.past t was.follows)

  call_beside : (e : Event) (old new : ControllerState) (does : Does old e new) → IsController old → IsController new → HearsWell n old e → (t : Option Counted)
      → Beside QueuedRead n old.core t → Beside QueuedRead n new.core (told_call n e t)
  call_beside (call.Took frame took) old new does k l well t was =
      subst (λ (x : Option Counted). Beside QueuedRead n new.core (if port_of frame == n then x else t)) (told_same (seen frame) t)
      (taken_beside QueuedRead refl laws n low more_by old new frame took does k l well t (comes_on old t) was)
  call_beside (call.Wrote offset value written) old new does k l well t was = none_taken QueuedRead refl laws n low (call.Wrote offset value written) old new does k l tt t was
  call_beside (call.WroteWide offset width value written) old new does k l well t was =
      none_taken QueuedRead refl laws n low (call.WroteWide offset width value written) old new does k l tt t was
  call_beside (call.Supplied slot number bytes supply) old new does k l well t was =
      none_taken QueuedRead refl laws n low (call.Supplied slot number bytes supply) old new does k l tt t was
  call_beside (call.Missed slot number supply) old new does k l well t was = none_taken QueuedRead refl laws n low (call.Missed slot number supply) old new does k l tt t was
  call_beside (call.Left frame why) old new does k l well t was = none_taken QueuedRead refl laws n low (call.Left frame why) old new does k l tt t was
  call_beside (call.Turned next) old new does k l well t was = none_taken QueuedRead refl laws n low (call.Turned next) old new does k l refl t was
  call_beside (call.Said write) old new does k l well t was = none_taken QueuedRead refl laws n low (call.Said write) old new does k l tt t was
  call_beside (call.Gathered dev number frame (fed_answer.Goes message line)) old new does k l well t was =
      none_taken QueuedRead refl laws n low (call.Gathered dev number frame (fed_answer.Goes message line)) old new does k l (λ e. absurd (true≢false e)) t was
  call_beside (call.Gathered dev number frame other) old new does k l well t was =
      none_taken QueuedRead refl laws n low (call.Gathered dev number frame other) old new does k l tt t was
  call_beside (call.NotThere dev number fed) old new does k l well t was = none_taken QueuedRead refl laws n low (call.NotThere dev number fed) old new does k l tt t was

  calls_beside : (events : List Event) (old new : ControllerState) (run : Runs old events new) → AllHeardWell n old events new run → (t : Option Counted)
      → Beside QueuedRead n old.core t → Beside QueuedRead n new.core (told_calls n t events)
  unfolding told_calls
  calls_beside [] old new run well t was = subst (λ (c : ControllerState). Beside QueuedRead n c.core t) (sym run.1) was
  calls_beside (e ∷ later) old new run well t was =
      calls_beside later run.1.0 new run.1.2 well.1 (told_call n e t)
      (call_beside e old run.1.0 run.1.1 run.0 (first_kept later run.1.0 new run.1.2) well.0 t was)

  filled_now : (at : ControllerState) (frame : List ℕ) (report : TakeReport) (new : Port) (past : History) (wrote : Wrote) → IsController at → port_of frame ≡ n
      → core.Hearkens at.core frame (room_for at (port_of frame)) report new → IsTold (view_of n at.core) past → report.wrote ≡ Some wrote → FillsFrom wrote.slot wrote.offset wrote.len past
  filled_now at frame report new past wrote k own hears told is =
      let told_own : IsTold (view_of (port_of frame) at.core) past = subst (λ (j : ℕ). IsTold (view_of j at.core) past) (sym own) told in
      let all = laws.filled at.core at.core new [] refl (record { cores = record { port = k.port; slots = k.slots }; frames = tt }) frame (room_for at (port_of frame)) report past told_own hears in
      (subst (λ (o : Option Wrote). ReportsFilled o (drop 4 frame) (event_by at.core (room_for at (port_of frame)) frame) past) is all).fills

  pub hears_case : (at : ControllerState) (frame : List ℕ) (report : TakeReport) (new : Port) (past : History) (wrote : Wrote) (started : Bool) → IsController at → port_of frame ≡ n
      → CoreHearsIf started at frame report new → IsTold (view_of n at.core) past → report.wrote ≡ Some wrote → FillsFrom wrote.slot wrote.offset wrote.len past
  hears_case at frame report new past wrote true k own hears told is =
      filled_now at frame report new past wrote k own (record { ignored = hears.ignored; heard = hears.heard }) told is
  hears_case at frame report new past wrote false k own hears told is =
      absurd (let both = sym is ∙ greeted_none at.core new (port_of frame) _ report hears in cc)

-- and it is that of Data
pub hears_event : (laws : Laws) (n : ℕ) (at : ControllerState) (frame : List ℕ) (report : TakeReport) (new : Port) (past : History) (wrote : Wrote)
    (started : Bool)
    → IsController at → port_of frame ≡ n → CoreHearsIf started at frame report new → IsTold (view_of n at.core) past → report.wrote ≡ Some wrote
    → event_by at.core (room_for at (port_of frame)) frame ≡ Some (Carried (drop 4 frame))
hears_event laws n at frame report new past wrote true k own hears told is =
    let told_own : IsTold (view_of (port_of frame) at.core) past = subst (λ (j : ℕ). IsTold (view_of j at.core) past) (sym own) told in
    let all = laws.filled at.core at.core new [] refl (record { cores = record { port = k.port; slots = k.slots }; frames = tt }) frame (room_for at
    (port_of frame)) report past told_own
    (record { ignored = hears.ignored; heard = hears.heard }) in
    (subst (λ (o : Option Wrote). ReportsFilled o (drop 4 frame) (event_by at.core (room_for at (port_of frame)) frame) past) is all).is
hears_event laws n at frame report new past wrote false k own hears told is =
    absurd (let both = sym is ∙ greeted_none at.core new (port_of frame) _ report hears in cc)

pub data_follow : Laws → DataFollowSetups
data_follow laws n low old at new events run past told none well frame took takes own calm wrote brought issue there kind =
    let now : Beside QueuedRead n at.core (told_calls n None events) =
    calls_beside laws n low events old at run well None (starts_beside QueuedRead refl laws n low old.core past told none) in
    let is : took.report.wrote ≡ Some wrote =
    sym (takes.hears.brought_is ∙ ap (λ (b : Bool). if b then part_of at (port_of frame) (payload_of (seen frame)) else took.report.wrote) calm) ∙ brought in
    let fills : FillsFrom wrote.slot wrote.offset wrote.len now.past =
    hears_case laws n low at frame took.report new.core now.past wrote at.core.registers.started (last_kept events old at run) own takes.hears.core now.told is in
    now.follows wrote.slot (up_now QueuedRead refl laws n low at now.past wrote.slot wrote.offset wrote.len issue now.told fills there kind)
    ∙ ap (λ k. Some (record { tag = wrote.slot; count = k })) fills.from

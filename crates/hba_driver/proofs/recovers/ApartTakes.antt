-- For `devices_are_apart`. A FIS of a device that recovers is ignored, leaves its stage, or is a fault.
use Rattle.std.proofs.Common.{◌≡◌, ◌≢◌, ℕ, ◌-◌, ◌<◌, ◌≤◌, Bool, true, false, ◌&&◌, ◌||◌, List, length, refl, sym, ◌∙◌, ap, subst, inl, inr, arith}
use Rattle.std.proofs.{Common.{Option, Some, None}, lemmas.Bool.{cases_Bool, cases_eq, cases_lt, false≢true, true≢false}}
use Rattle.std.specs.Prelude.{if◌then◌else◌, ◌==◌, not, is_none, is_some, Result, Err}
use Rattle.fis_view.specs.{Seen.seen, Table.field, declared.view.Fis.Fis}
use Rattle.fis_view.specs.Table as table
use Rattle.fis_view.specs.declared.view.Fis.TheVariants as view
use Rattle.hba_commands.specs.{declared.command.Command.Command, Requests.{request_of, work_of}}
use Rattle.slots.specs.{Commands.{answer_for, answer_of, is_done}, Setup.{dma_context, out_context, out_setup, pio_fault, pio_issue, setup_fault}}
use Rattle.slots.specs.{Setup.transfer_fault, Data.may_activate, Slots.{DeviceSlots, Issue, context_unless, has_bit, holds, is_done_issue}}
use Rattle.slots.specs.{Slots.{is_out_issue, is_sent_pio, is_waiting, match_some, new_issue, own_issue, sent_pio, waiting}, Work.is_queued}
use Rattle.slots.specs.declared.{answer.{Answered.Answered, SetupError.SetupError}, table.Context.Context}
use Rattle.slots.specs.declared.answer.Answered.TheVariants as answer
use Rattle.slots.specs.declared.answer.SetupError.TheVariants as refused
use Rattle.slots.proofs.Door.{lowest_is}
use Rattle.port_errors.specs.declared.cause.DeviceCause.TheVariants as cause
use Rattle.hba_fbs.specs.declared.hearing.Happening.TheVariants as happening
use Rattle.hba_fbs.specs.declared.{hearing.Heard.Heard, report.TakeReport.TakeReport, state.DeviceState.DeviceState, status.Block.Block}
use Rattle.hba_fbs.specs.{declared.hearing.Happening.Happening, Hearing.{answered, block_of, faulty, heard_data, heard_data_of, heard_out, heard_pio}}
use Rattle.hba_fbs.specs.{Hearing.{heard_setup, heard_d2h, heard_fis, quietly, set_up, tag_of, heard_register, signing}, Posting.signs}
use Rattle.hba_fbs.specs.{Status.{after_reset, is_busy, is_error, with_file}, Taking.{heard_view, ignores, is_running, port_of, view_after_hearing}}
use Rattle.hba_fbs.specs.Views.{DeviceView, Port, last_command, view_of}
use Rattle.hba_laws.specs.Client.{Touches}
use Rattle.hba_laws.proofs.Door.{held, own_freed, some_inj}
use Rattle.hba_driver.specs.{Drivers.Driver, Events.{IsSoundHost, shared_by}, HostTurns.{Does, Host, Took}, Orders.control, Served.IsServed}
use Rattle.hba_driver.specs.Slot30.{Asks, Cleared, Faulty, IsAt30, IsSlot30, LogSent, MayCome30, On, Sets, Stage30, TakesLead30, TakesOn30, Turns30}
use Rattle.hba_driver.specs.Slot30.{is_faulty, is_resetting}
use Rattle.hba_driver.proofs.{recovers.ApartPushes.{IsDriven30, alone_issue, control_kind, driven_at, kept30}, modes.RowMode.skipped_as}
use Rattle.hba_driver.proofs.goes_on.StopLemmas.{either}

-- ---- a device to which nothing went out and for which nothing queued is issued

abbrev IsIdle : DeviceSlots → Type 0
IsIdle own = (s : ℕ) (i : Issue) → own_issue own s ≡ Some i → (i.sent ≡ false) × (is_queued i.work.kind ≡ false)

first : (a b : Bool) → (a && b) ≡ true → a ≡ true
first true b h = refl
first false b h = absurd (false≢true h)

and_none : (a b : Bool) → a ≡ false → (a && b) ≡ false
and_none true b h = absurd (true≢false h)
and_none false b h = refl

none_second : (a b : Bool) → b ≡ false → (a && b) ≡ false
none_second true b h = h
none_second false b h = refl

no_waiting : (own : DeviceSlots) → IsIdle own → waiting own ≡ None
no_waiting own idle = by_slot (waiting own) refl
  where
    by_slot : (o : Option ℕ) → waiting own ≡ o → waiting own ≡ None
    by_slot None is = is
    by_slot (Some s) is =
        let i = held is_waiting (own_issue own s) (lowest_is (λ slot. holds is_waiting (own_issue own slot)) 32 s is).passes in
        absurd (false≢true (sym (idle s i.0 i.1).0 ∙ first i.0.sent (not i.0.answered) i.2))

no_pio : (own : DeviceSlots) → IsIdle own → sent_pio own ≡ None
no_pio own idle = by_slot (sent_pio own) refl
  where
    by_slot : (o : Option ℕ) → sent_pio own ≡ o → sent_pio own ≡ None
    by_slot None is = is
    by_slot (Some s) is =
        let i = held is_sent_pio (own_issue own s) (lowest_is (λ slot. holds is_sent_pio (own_issue own slot)) 32 s is).passes in
        absurd (false≢true (sym (idle s i.0 i.1).0 ∙ first i.0.sent _ i.2))

no_out : (own : DeviceSlots) → IsIdle own → (count : ℕ) (to_host : Bool) → out_setup own count to_host ≡ Err refused.NotOutstanding
no_out own idle count to_host =
    ap (λ (o : Option ℕ). match_some (match_some o None (λ slot. if holds is_out_issue (own_issue own slot) then Some slot else None)) (Err refused.NotOutstanding) (λ slot.
    match_some (own_issue own slot) (Err refused.NotOutstanding) (out_context slot count to_host))) (no_waiting own idle)

no_setup : (own : DeviceSlots) → IsIdle own → (tag offset count : ℕ) (to_host : Bool) → setup_fault (own_issue own tag) offset count to_host ≡ Some refused.NotOutstanding
no_setup own idle tag offset count to_host = by_issue (own_issue own tag) refl
  where
    by_issue : (o : Option Issue) → own_issue own tag ≡ o → setup_fault o offset count to_host ≡ Some refused.NotOutstanding
    by_issue None is = refl
    by_issue (Some i) is = ap (λ (b : Bool). if b then transfer_fault i offset count to_host else Some refused.NotOutstanding) (and_none (is_queued i.work.kind) i.answered (idle tag i is).1)

none_done : (own : DeviceSlots) → IsIdle own → (mask : ℕ) → is_done mask own 30 ≡ false
none_done own idle mask = none_second (has_bit mask 30) (holds is_done_issue (own_issue own 30)) (by_issue (own_issue own 30) refl)
  where
    by_issue : (o : Option Issue) → own_issue own 30 ≡ o → holds is_done_issue o ≡ false
    by_issue None is = refl
    by_issue (Some i) is = and_none (is_queued i.work.kind) _ (idle 30 i is).1

-- what it hears leaves slot 30, and no data is set up
record Stays (w u : DeviceView) : Type 0 where
  pub issue : own_issue u.slots 30 ≡ own_issue w.slots 30
  pub context : u.slots.context ≡ None
  pub resetting : u.state.resetting ≡ false

module _ (w : DeviceView) (none : w.slots.context ≡ None) (reset : w.state.resetting ≡ false) (idle : IsIdle w.slots) where
  abbrev Hears : Heard → Type 0
  Hears h = Stays w (view_after_hearing w h)

  answer_none : answer_of w.slots ≡ answer.Nobody
  answer_none = ap (λ (o : Option ℕ). match_some o answer.Nobody (λ slot. match_some (own_issue w.slots slot) answer.Nobody (answer_for slot))) (no_waiting w.slots idle)

  d2h_stays : (status error : ℕ) → Hears (heard_d2h w.slots w.state status error)
  d2h_stays status error =
      either Hears (is_error status) _ _ (record { issue = refl; context = none; resetting = reset })
      (either Hears (is_busy status) _ _ (record { issue = refl; context = none; resetting = reset })
      (subst (λ (a : Answered). Hears (answered a (with_file w.state status error))) (sym answer_none) (record { issue = refl; context = none; resetting = reset })))

  named_slots : (mask : ℕ) → own_issue (Rattle.slots.specs.Commands.after_complete mask w.slots) 30 ≡ own_issue w.slots 30
  named_slots mask =
      ap (λ (f : ℕ → Option Issue). f 30) (own_freed (is_done mask w.slots) w.slots)
      ∙ ap (λ (b : Bool). if b then None else own_issue w.slots 30) (none_done w.slots idle mask)

  refused_stays : (o : Option SetupError) (state : DeviceState) (block : Option Block) (h : Happening) → state.resetting ≡ false → o ≡ Some refused.NotOutstanding → Hears (set_up o state block h)
  refused_stays o state block h res is = subst (λ (x : Option SetupError). Hears (set_up x state block h)) (sym is) (record { issue = refl; context = none; resetting = res })

  setup_stays : (tag offset count : ℕ) (to_host auto : Bool) → Hears (heard_setup w.slots w.state tag offset count to_host auto)
  setup_stays tag offset count to_host auto = refused_stays (setup_fault (own_issue w.slots tag) offset count to_host) w.state None (happening.SetUp (dma_context tag offset count to_host auto)) reset (no_setup w.slots idle tag offset count to_host)

  pio_stays : (status error count : ℕ) (to_host : Bool) (block : Block) → Hears (heard_pio w.slots w.state status error count to_host block)
  pio_stays status error count to_host block =
      either Hears (is_error status) _ _ (record { issue = refl; context = none; resetting = reset })
      (either Hears (is_some (sent_pio w.slots)) _ _
      (refused_stays (pio_fault (pio_issue w.slots) count to_host) (with_file w.state status error) (Some block) (happening.PioSetUp count to_host) reset
      (ap (λ (o : Option ℕ). pio_fault (match_some o None (own_issue w.slots)) count to_host) (no_pio w.slots idle)))
      (subst (λ (o : Result Context SetupError). Hears (heard_out (with_file w.state status error) block o)) (sym (no_out w.slots idle count to_host)) (record { issue = refl; context = none; resetting = reset })))

  data_stays : (sound : Bool) (count : ℕ) → Hears (heard_data w.slots w.state sound count)
  data_stays sound count =
      subst (λ (c : Option Context). Hears (match_some c (faulty w.state cause.Stray) (heard_data_of w.slots w.state sound count))) (sym none) (record { issue = refl; context = none; resetting = reset })

  -- the mark of a signature is not of slot 30
  signing_stays : (f : List ℕ) (h : Heard) → Hears h → Hears (signing f h)
  signing_stays f h stays = record { issue = stays.issue; context = stays.context; resetting = stays.resetting }

  fis_stays : (sound : Bool) (fis : Fis) → Hears (heard_fis w.slots w.state sound fis)
  unfolding heard_fis
  fis_stays sound (view.RegD2H f) =
      signing_stays f (heard_register w.slots w.state (field table.D2h table.Status f) (field table.D2h table.Error f))
      (subst (λ (b : Bool). Hears (if b then quietly (after_reset w.state (field table.D2h table.Status f) (field table.D2h table.Error f)) happening.Nothing else heard_d2h w.slots w.state (field table.D2h table.Status f) (field table.D2h table.Error f))) (sym reset)
      (d2h_stays (field table.D2h table.Status f) (field table.D2h table.Error f)))
  fis_stays sound (view.SetBits f) =
      either Hears (is_error (field table.Bits table.Status f)) _ _ (record { issue = refl; context = none; resetting = reset })
      (record { issue = named_slots (field table.Bits table.SActive f); context = ap (context_unless (is_done (field table.Bits table.SActive f) w.slots)) none; resetting = reset })
  fis_stays sound (view.DmaActivate f) =
      subst (λ (c : Option Context). Hears (if may_activate c then quietly w.state happening.Activated else faulty w.state cause.Stray)) (sym none) (record { issue = refl; context = none; resetting = reset })
  fis_stays sound (view.DmaSetup f) = setup_stays (tag_of f) (field table.Setup table.Offset f) (field table.Setup table.Count f) (field table.Setup table.D f == 1) (field table.Setup table.A f == 1)
  fis_stays sound (view.PioSetup f) = pio_stays (field table.Pio table.Status f) (field table.Pio table.Error f) (field table.Pio table.Transfer f) (field table.Pio table.D f == 1) (block_of f)
  fis_stays sound (view.Payload f) = data_stays sound (length f - 4)
  fis_stays sound other = record { issue = refl; context = none; resetting = reset }

  heard_stays : (dev : ℕ) (sound : Bool) (o : Option Fis) → Stays w (heard_view dev w sound o)
  heard_stays dev sound None = record { issue = refl; context = none; resetting = reset }
  heard_stays dev sound (Some fis) = fis_stays sound fis

-- ---- what is ignored

faulty_ignored : (r f s : Bool) → f ≡ true → (not r || f || s) ≡ true
faulty_ignored true true s h = refl
faulty_ignored false true s h = refl
faulty_ignored r false s h = absurd (false≢true h)

reset_ignored : (r f a b : Bool) → a ≡ true → b ≡ false → (not r || f || (a && not b)) ≡ true
reset_ignored true true true false h k = refl
reset_ignored true false true false h k = refl
reset_ignored false f true false h k = refl
reset_ignored r f a true h k = absurd (true≢false k)
reset_ignored r f false b h k = absurd (false≢true h)

closed_ignored : (r f s : Bool) → r ≡ false → (not r || f || s) ≡ true
closed_ignored true f s h = absurd (true≢false h)
closed_ignored false f s h = refl

not_started : (a b : Bool) → a ≡ false → (a && b) ≡ false
not_started false b h = refl
not_started true b h = absurd (true≢false h)

-- ---- a FIS is taken

module _ (n : ℕ) (past : Touches) (old : Host) (frame : List ℕ) (report : TakeReport) (new : Host) (stage : Stage30) (low : n < 15) (served : IsServed old.driver (shared_by old) past) (does : Does old (Took frame report) new) (at : IsAt30 n stage old) where
  driven : IsDriven30 n stage new.driver
  driven = subst (IsDriven30 n stage) (sym does.driver) (driven_at n stage old at)

  kept : view_of n new.port ≡ view_of n old.port → new.port.commands ≡ old.port.commands → IsAt30 n stage new
  kept same commands = kept30 n stage old new same (λ some. ap (λ (l : List (Option Command)). last_command l 30) commands) driven at

  skipped : ignores (port_of frame) old.port frame ≡ true → IsAt30 n stage new
  skipped skip = kept (ap (view_of n) (does.ignored skip).port) (ap (λ (p : Port). p.commands) (does.ignored skip).port)

  commands_same : new.port.commands ≡ old.port.commands
  commands_same = elim (cases_Bool (ignores (port_of frame) old.port frame)) [
    | inl skip ↦ ap (λ (p : Port). p.commands) (does.ignored skip).port
    | inr hears ↦ (does.heard hears).commands
  ]

  -- a frame of another device
  took_other : port_of frame ≢ n → IsAt30 n stage new
  took_other other = elim (cases_Bool (ignores (port_of frame) old.port frame)) [
    | inl skip ↦ skipped skip
    | inr hears ↦ kept ((does.heard hears).others n (λ same. other (sym same))) (does.heard hears).commands
  ]

  record Took30 : Type 0 where
    pub next : Stage30
    pub now : IsAt30 n next new
    pub is : TakesOn30 stage next

  -- it is ignored
  fault_skips : port_of frame ≡ n → is_some (view_of n old.port).fault ≡ true → ignores (port_of frame) old.port frame ≡ true
  fault_skips own failed =
      ap (λ (k : ℕ). ignores k old.port frame) own
      ∙ skipped_as n old.port frame (faulty_ignored (is_running old.port) (is_some (view_of n old.port).fault) ((view_of n old.port).state.resetting && not (signs (seen frame))) failed)

  reset_skips : port_of frame ≡ n → (view_of n old.port).state.resetting ≡ true → signs (seen frame) ≡ false → ignores (port_of frame) old.port frame ≡ true
  reset_skips own reset none =
      ap (λ (k : ℕ). ignores k old.port frame) own
      ∙ skipped_as n old.port frame (reset_ignored (is_running old.port) (is_some (view_of n old.port).fault) (view_of n old.port).state.resetting (signs (seen frame)) reset none)

  same_stage : (s : Stage30) → stage ≡ s → (s ≡ s → TakesOn30 s s) → IsAt30 n stage new → Took30
  same_stage s is on now = record { next = stage; now = now; is = subst (λ (x : Stage30). TakesOn30 x x) (sym is) (on refl) }

  -- it may be heard
  heard_own : port_of frame ≡ n → is_faulty stage ≡ false → IsIdle (view_of n old.port).slots → (view_of n old.port).state.resetting ≡ false → is_resetting stage ≡ false
      → ((p : Port) → own_issue (view_of n p).slots 30 ≡ own_issue (view_of n old.port).slots 30 → p.commands ≡ old.port.commands → IsSlot30 n stage p) → TakesOn30 stage stage → TakesOn30 stage Faulty → Took30
  heard_own own well idle reset none slot on off = elim (cases_Bool (ignores (port_of frame) old.port frame)) [
    | inl skip ↦ record { next = stage; now = skipped skip; is = on }
    | inr hears ↦
        let stays : Stays (view_of n old.port) (view_of n new.port) =
        subst (λ (k : ℕ). Stays (view_of k old.port) (view_of k new.port)) own
        (subst (Stays (view_of (port_of frame) old.port)) (sym (does.heard hears).own)
        (heard_stays (view_of (port_of frame) old.port) (subst (λ (k : ℕ). (view_of k old.port).slots.context ≡ None) (sym own) (at.apart well).context) (subst (λ (k : ℕ). (view_of k old.port).state.resetting ≡ false) (sym own) reset)
        (subst (λ (k : ℕ). IsIdle (view_of k old.port).slots) (sym own) idle) (port_of frame) _ _)) in
        elim (cases_Bool (is_some (view_of n new.port).fault)) [
          | inl failed ↦ record { next = Faulty; now = record { opened = driven.opened; fault = failed; apart = λ w. absurd (true≢false w) }; is = off }
          | inr fine ↦ record {
            next = stage;
            now = record {
              opened = driven.opened;
              fault = fine ∙ sym well;
              apart = λ w. record { plan = driven.plan w; slot = slot new.port stays.issue commands_same; context = stays.context; resetting = stays.resetting ∙ sym none; withdrawn = driven.withdrawn w };
            };
            is = on;
          }
        ]
  ]

  idle_cleared : stage ≡ Cleared → IsIdle (view_of n old.port).slots
  idle_cleared is s i there =
      let well : is_faulty stage ≡ false = ap is_faulty is in
      let here : own_issue (view_of n old.port).slots 30 ≡ Some i = subst (λ (k : ℕ). own_issue (view_of n old.port).slots k ≡ Some i) (alone_issue n past old stage low served at well s i there) there in
      let free : own_issue (view_of n old.port).slots 30 ≡ None = subst (λ (x : Stage30). IsSlot30 n x old.port) is (at.apart well).slot in
      let bad : None ≡ Some i = sym free ∙ here in
      cc

  idle_sets : stage ≡ Sets → IsIdle (view_of n old.port).slots
  idle_sets is s i there =
      let well : is_faulty stage ≡ false = ap is_faulty is in
      let here : own_issue (view_of n old.port).slots 30 ≡ Some i = subst (λ (k : ℕ). own_issue (view_of n old.port).slots k ≡ Some i) (alone_issue n past old stage low served at well s i there) there in
      let u = subst (λ (x : Stage30). IsSlot30 n x old.port) is (at.apart well).slot in
      let it : new_issue n (work_of (request_of (control n 4))) ≡ i = some_inj (new_issue n (work_of (request_of (control n 4)))) i (sym u.issued ∙ here) in
      (sym (ap (λ (x : Issue). x.sent) it), sym (ap (λ (x : Issue). is_queued x.work.kind) it) ∙ (control_kind n 4).0)

  own_by : (s : Stage30) → stage ≡ s → port_of frame ≡ n → MayCome30 s frame → Took30
  own_by Faulty is own may = same_stage Faulty is (λ e. refl) (skipped (fault_skips own (at.fault ∙ ap is_faulty is)))
  own_by Cleared is own may =
      let well : is_faulty stage ≡ false = ap is_faulty is in
      heard_own own well (idle_cleared is) ((at.apart well).resetting ∙ ap is_resetting is) (ap is_resetting is)
      (λ p issue commands. subst (λ (x : Stage30). IsSlot30 n x p) (sym is) (issue ∙ subst (λ (x : Stage30). IsSlot30 n x old.port) is (at.apart well).slot))
      (subst (λ (x : Stage30). TakesOn30 x x) (sym is) (inl refl)) (subst (λ (x : Stage30). TakesOn30 x Faulty) (sym is) (inr refl))
  own_by Asks is own may = absurd may
  own_by LogSent is own may = absurd may
  own_by Sets is own may =
      let well : is_faulty stage ≡ false = ap is_faulty is in
      let u = subst (λ (x : Stage30). IsSlot30 n x old.port) is (at.apart well).slot in
      heard_own own well (idle_sets is) ((at.apart well).resetting ∙ ap is_resetting is) (ap is_resetting is)
      (λ p issue commands. subst (λ (x : Stage30). IsSlot30 n x p) (sym is)
      (record { issued = issue ∙ u.issued; command = u.command; there = ap (λ (l : List (Option Command)). last_command l 30) commands ∙ u.there; work = u.work; built = u.built }))
      (subst (λ (x : Stage30). TakesOn30 x x) (sym is) (inl refl)) (subst (λ (x : Stage30). TakesOn30 x Faulty) (sym is) (inr refl))
  own_by other is own may = same_stage other is (λ e. refl) (skipped (reset_skips own ((at.apart (ap is_faulty is)).resetting ∙ ap is_resetting is) may))

  pub took_turn : (port_of frame ≡ n → MayCome30 stage frame) → Turns30 n stage (Took frame report) new
  took_turn may = elim (cases_eq (port_of frame) n) [
    | inl own ↦
        let t = own_by stage refl own (may own) in
        record { next = t.next; at = t.now; is = (λ same. t.is, λ other. absurd (other own)) }
    | inr other ↦ record { next = stage; at = took_other other; is = (λ own. absurd (other own), λ far. refl) }
  ]

-- ---- the first fault

begins : (n : ℕ) (old : Host) (frame : List ℕ) (report : TakeReport) (new : Host) → IsSoundHost old → Does old (Took frame report) new
    → is_some (view_of n old.port).fault ≡ false → is_some (view_of n new.port).fault ≡ true → IsAt30 n Faulty new
begins n old frame report new sound does well failed = record {
  opened = subst (λ (d : Driver). 7 ≤ d.plan.opened) (sym does.driver) opened;
  fault = failed;
  apart = λ w. absurd (true≢false w);
}
  where
    opened : 7 ≤ old.driver.plan.opened
    opened = elim (cases_lt old.driver.plan.opened 7) [
      | inr least ↦ least
      | inl less ↦
          let off : is_running old.port ≡ false = not_started old.port.registers.started (is_none old.port.errors.port) (sound.registers.stopped (omega (arith, less))) in
          let skip : ignores (port_of frame) old.port frame ≡ true =
          skipped_as (port_of frame) old.port frame
          (closed_ignored (is_running old.port) (is_some (view_of (port_of frame) old.port).fault) ((view_of (port_of frame) old.port).state.resetting && not (signs (seen frame))) off) in
          absurd (false≢true (sym well ∙ ap (λ (p : Port). is_some (view_of n p).fault) (sym (does.ignored skip).port) ∙ failed))
    ]

pub takes_lead : (n : ℕ) → TakesLead30 n
takes_lead n = record {
  turns = λ past old frame report new stage low served does at may. took_turn n past old frame report new stage low served does at may;
  begins = λ old frame report new low sound does own well failed. begins n old frame report new sound does well failed;
}

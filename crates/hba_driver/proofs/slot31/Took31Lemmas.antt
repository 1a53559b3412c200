-- For `orders_take_turns`. A frame that comes leads slot 31 from a stage to a stage.
use Rattle.std.proofs.Common.{◌≡◌, ◌≢◌, ℕ, zero, suc, ◌+◌, ◌<◌, ◌≤◌, ◌⊎◌, Bool, true, false, ◌&&◌, ◌||◌, List, [], ◌∷◌, ◌++◌, refl, sym, ◌∙◌, ap}
use Rattle.std.proofs.{Common.{subst, inl, inr, arith, Option, Some, None, Ok}, lemmas.Bool.{cases_Bool, cases_lt, ne_eqb, or_parts, true≢false}}
use Rattle.std.proofs.lemmas.{Nat.Bits.bit_at-zero}
use Rattle.std.specs.Prelude.{◌==◌, if◌then◌else◌, not, is_none, is_some, Result}
use Rattle.fis_view.specs.{Seen.seen, Table.{Bits, D2h, Error, SActive, Status, field}, declared.view.{Fis.Fis, FisFault.FisFault}}
use Rattle.fis_view.specs.declared.view.Fis.TheVariants as view
use Rattle.port_errors.specs.declared.cause.DeviceCause.TheVariants as cause
use Rattle.slots.specs.{Commands.{after_complete, answer_for, answer_of, answered_as, completed, is_done, is_short, is_slot}, Slots.DeviceSlots}
use Rattle.slots.specs.Slots.{Issue, context_unless, freed, has_bit, holds, is_done_issue, is_queued_issue, is_short_issue, is_whole_issue}
use Rattle.slots.specs.{Slots.{mask_below, match_some, own_issue, waiting}, Work.{is_queued, needs_all}, declared.answer.Answered.Answered}
use Rattle.slots.specs.declared.table.Context.{Context}
use Rattle.slots.specs.declared.answer.Answered.TheVariants as answer
use Rattle.slots.proofs.Door.{mask_none, mask_same}
use Rattle.hba_fbs.specs.declared.hearing.Fault.TheVariants as fault
use Rattle.hba_fbs.specs.declared.hearing.Happening.TheVariants as happening
use Rattle.hba_fbs.specs.{declared.{hearing.Heard.Heard, report.TakeReport.TakeReport, state.DeviceState.DeviceState}, Hearing.answer_fault}
use Rattle.hba_fbs.specs.{Hearing.{answered, faulty, heard_bits, heard_d2h, heard_fis, named, quietly, short_fault, signing}, Posting.is_signature}
use Rattle.hba_fbs.specs.{Posting.signs, Status.{after_reset, is_busy, is_error, with_bits, with_file}, Taking.{admitted, device_cause, heard_view}}
use Rattle.hba_fbs.specs.{Taking.{ignores, is_ignored, is_running, passes_over, port_of, view_after_hearing}, Views.{DeviceView, Port, view_of}}
use Rattle.hba_laws.specs.Hosts as event
use Rattle.hba_laws.specs.{Isolation.{Came, after_fis, part_after, part_after_all, row_with, skips}, Parts.{DevicePart, part_of, with_view}}
use Rattle.hba_laws.proofs.Door.{own_freed, some_inj}
use Rattle.hba_driver.specs.{declared.order.Order.{Order, TheVariants.{ResetOff, AwaitSignature}}, Drivers.Driver, Going.IsOfControl, HostTurns.Does}
use Rattle.hba_driver.specs.{HostTurns.{Host, Took}, Slot31.{Asks, IsAnswer31, IsAt31, IsFree31, IsIn, IsLow, IsNotice31, IsSent, IsSignature31}}
use Rattle.hba_driver.specs.Slot31.{IsUnsent, Fails, MayCome31, Resets, Rests, Signs, Stage31, Told, Waits, control_of, has_failed, is_off, is_on}
use Rattle.hba_driver.specs.{Slot31.{is_quiet, is_resetting}, Between.IsGoing}
use Rattle.hba_driver.proofs.{slot31.ControlLemmas.{Runs15, part_event}, goes_on.GoingLemmas.stops_none, events.OpenLemmas.up_of}
use Rattle.hba_driver.proofs.{slot31.Push31Lemmas.issued31, modes.RowMode.skipped_as}

-- ---- an open port

pub going_runs : (h : Host) → IsGoing h → 7 ≤ h.driver.plan.opened → Runs15 h.port h.memory
going_runs h g least = record {
  ruled = g.way.sound.ruled;
  sized = g.way.sound.memory;
  calm = g.calm;
  started = (up_of h.driver.plan.opened h.driver.plan.restarted h.port.registers least (omega (arith, g.up)) g.way.sound.registers).starts;
  area = g.way.sound.registers.area (omega (arith, least));
}

-- ---- what leaves driver and part leaves the stage

pub kept31 : (stage : Stage31) (old new : Host) → new.driver ≡ old.driver → control_of new ≡ control_of old → IsAt31 stage old → IsAt31 stage new
kept31 stage old new driver part at = record {
  fault = ap (λ (x : DevicePart). is_some x.view.fault) part ∙ at.fault;
  context = ap (λ (x : DevicePart). x.view.slots.context) part ∙ at.context;
  resetting = ap (λ (x : DevicePart). x.view.state.resetting) part ∙ at.resetting;
  is = subst (λ (x : DevicePart). IsIn stage new.driver.plan.order new.driver.plan.asked x) (sym part) (subst (λ (d : Driver). IsIn stage d.plan.order d.plan.asked (control_of old)) (sym driver) at.is);
  low = subst (λ (d : Driver). IsLow d.plan.order) (sym driver) at.low;
  closed = λ less. at.closed (subst (λ (d : Driver). d.plan.opened < 7) driver less);
}

-- a port that is not open ignores all that comes
ignored_closed : (running : Bool) (v : DeviceView) (o : Result Fis FisFault) → running ≡ false → is_ignored running v o ≡ true
ignored_closed false v o h = refl
ignored_closed true v o h = absurd (true≢false h)

not_started : (a b : Bool) → a ≡ false → (a && b) ≡ false
not_started false b h = refl
not_started true b h = absurd (true≢false h)

pub closed_same : (old new : Host) (frame : List ℕ) (report : TakeReport) → Does old (Took frame report) new → IsGoing old → old.driver.plan.opened < 7 → control_of new ≡ control_of old
closed_same old new frame report does g less =
    let off : is_running old.port ≡ false = not_started old.port.registers.started (is_none old.port.errors.port) (g.way.sound.registers.stopped (omega (arith, less))) in
    let skip : ignores (port_of frame) old.port frame ≡ true =
    skipped_as (port_of frame) old.port frame (ignored_closed (is_running old.port) (view_of (port_of frame) old.port) (seen frame) off) in
    ap (λ (p : Port). part_of 15 (record { port = p; memory = new.memory })) (does.ignored skip).port
    ∙ ap (λ m. part_of 15 (record { port = old.port; memory = m })) (does.ignored skip).memory

module _ (old : Host) (g : IsGoing old) (new : Host) (n : IsGoing new) (frame : List ℕ) (report : TakeReport) (does : Does old (Took frame report) new) (of : IsOfControl frame) where
  opened_same : 7 ≤ old.driver.plan.opened → 7 ≤ new.driver.plan.opened
  opened_same least = subst (λ (d : Driver). 7 ≤ d.plan.opened) (sym does.driver) least

  pub took_part : 7 ≤ old.driver.plan.opened → control_of new ≡ part_after_all 15 (control_of old) ((if port_of frame == 15 then Came frame ∷ [] else []) ++ [])
  took_part least =
      part_event old.port new.port old.memory new.memory (event.Took frame report) (going_runs old g least) (going_runs new n (opened_same least))
      (record { ignored = does.ignored; heard = does.heard }) ((stops_none old g).takes frame of)

  -- another device's frame leaves the part
  pub took_other : (stage : Stage31) → port_of frame ≢ 15 → IsAt31 stage old → IsAt31 stage new
  took_other stage other at = elim (cases_lt old.driver.plan.opened 7) [
    | inl less ↦ kept31 stage old new does.driver (closed_same old new frame report does g less) at
    | inr least ↦
        kept31 stage old new does.driver
        (took_part least ∙ ap (λ (b : Bool). part_after_all 15 (control_of old) ((if b then Came frame ∷ [] else []) ++ [])) (ne_eqb (port_of frame) 15 other)) at
  ]

  -- a frame of the control port
  pub took_own : 7 ≤ old.driver.plan.opened → port_of frame ≡ 15 → control_of new ≡ part_after 15 (control_of old) (Came frame)
  took_own least own =
      took_part least ∙ ap (λ (b : Bool). part_after_all 15 (control_of old) ((if b then Came frame ∷ [] else []) ++ [])) (own_is (port_of frame) own)
    where
      own_is : (k : ℕ) → k ≡ 15 → (k == 15) ≡ true
      own_is k is = ap (λ (m : ℕ). m == 15) is

-- ---- a notification

all_none : (test : ℕ → Bool) → ((k : ℕ) → test k ≡ false) → (n : ℕ) → mask_below test n ≡ 0
all_none test none zero = mask_none test
all_none test none (suc n) =
    let more : suc n ≡ n + 1 = omega arith in
    ap (mask_below test) more ∙ sym (mask_same test n 0 (sym (all_none test none n)) (none n))

no_bit : (k : ℕ) → has_bit 0 k ≡ false
no_bit k = ap (λ (n : ℕ). n == 1) (bit_at-zero k)

none_short : (own : DeviceSlots) → (completed 0 own).short ≡ 0
none_short own = all_none (is_short 0 own) (λ k. ap (λ (b : Bool). b && holds is_short_issue (own_issue own k)) (no_bit k)) 32

pub none_done : (own : DeviceSlots) → own_issue (after_complete 0 own) 31 ≡ own_issue own 31
none_done own = ap (λ (f : ℕ → Option Issue). f 31) (own_freed (is_done 0 own) own) ∙ ap (λ (b : Bool). if b && holds is_done_issue (own_issue own 31) then None else own_issue own 31) (no_bit 31)

context_none : (F : ℕ → Bool) (c : Option Context) → c ≡ None → context_unless F c ≡ None
context_none F c is = ap (context_unless F) is

heard_notice : (own : DeviceSlots) (state : DeviceState) (status error mask : ℕ) → is_error status ≡ false → mask ≡ 0 → heard_bits own state status error mask ≡ named (completed 0 own) (with_bits state status error) 0
heard_notice own state status error mask right none =
    ap (λ (b : Bool). if b then faulty (with_bits state status error) cause.TaskFile else named (completed mask own) (with_bits state status error) mask) right
    ∙ ap (λ (m : ℕ). named (completed m own) (with_bits state status error) m) none

notice_fault : (own : DeviceSlots) → short_fault (completed 0 own) ≡ None
notice_fault own = ap (λ (n : ℕ). if n == 0 then None else Some (fault.Device cause.Short)) (none_short own)

-- the parts say the same about slot 31
pub record Alike31 (x y : DevicePart) : Type 0 where
  pub issue : own_issue y.view.slots 31 ≡ own_issue x.view.slots 31
  pub command : is_some (own_issue x.view.slots 31) ≡ true → y.commands 31 ≡ x.commands 31

alike_unsent : (order : Order) (x y : DevicePart) → Alike31 x y → IsUnsent order x → IsUnsent order y
alike_unsent order x y like u = record {
  fields = u.fields;
  are = u.are;
  issued = like.issue ∙ u.issued;
  command = u.command;
  there = like.command (ap is_some u.issued) ∙ u.there;
  work = u.work;
  built = u.built;
}

alike_sent : (x y : DevicePart) → Alike31 x y → IsSent x → IsSent y
alike_sent x y like s = record { issue = s.issue; issued = like.issue ∙ s.issued; sent = s.sent; plain = s.plain }

pub alike_in : (stage : Stage31) (order : Order) (asked : Bool) (x y : DevicePart) → Alike31 x y → IsIn stage order asked x → IsIn stage order asked y
alike_in Rests order asked x y like is = is
alike_in Waits order asked x y like is = (is.0, is.1, alike_unsent order x y like is.2)
alike_in Resets order asked x y like (inl is) = inl (is.0, is.1, like.issue ∙ is.2)
alike_in Resets order asked x y like (inr (off, inl free)) = inr (off, inl free)
alike_in Resets order asked x y like (inr (off, inr is)) = inr (off, inr (is.0, alike_unsent order x y like is.1))
alike_in Signs order asked x y like is = (like.issue ∙ is.0, is.1)
alike_in Asks order asked x y like is = (is.0, is.1, alike_sent x y like is.2)
alike_in Told order asked x y like (on, o, inl free) = (on, o, inl (like.issue ∙ free))
alike_in Told order asked x y like (on, o, inr s) = (on, o, inr (alike_sent x y like s))
alike_in Fails order asked x y like is = tt

-- a FIS that is heard leaves the command of a slot that stays issued
command_stays : (part : DevicePart) (w : DeviceView) → own_issue w.slots 31 ≡ own_issue part.view.slots 31 → is_some (own_issue part.view.slots 31) ≡ true → (with_view part w).commands 31 ≡ part.commands 31
command_stays part w same there = ap (λ (o : Option Issue). if is_some o then part.commands 31 else None) same ∙ ap (λ (b : Bool). if b then part.commands 31 else None) there

-- in both modes nothing else of the control port is ignored
passes_control : (on : Bool) (v : DeviceView) (o : Result Fis FisFault) → passes_over on 15 v o ≡ false
passes_control true v o = refl
passes_control false v o = refl

skips_control : (part : DevicePart) (o : Result Fis FisFault) → skips 15 part o ≡ is_ignored true part.view o
skips_control part o = ap (λ (b : Bool). b || is_ignored true part.view o) (passes_control (is_some part.row) part.view o)

-- a frame that is not ignored
pub heard_part : (part : DevicePart) (frame : List ℕ) (fis : Fis) → seen frame ≡ Ok fis → admitted 15 (Ok fis) ≡ Some fis → is_ignored true part.view (Ok fis) ≡ false → part_after 15 part (Came frame) ≡ after_fis 15 part (Some fis)
heard_part part frame fis viewed may hears =
    ap (λ o. if skips 15 part o then part else after_fis 15 part (admitted 15 o)) viewed
    ∙ ap (λ (b : Bool). if b then part else after_fis 15 part (admitted 15 (Ok fis))) (skips_control part (Ok fis) ∙ hears)
    ∙ ap (after_fis 15 part) may

pub skipped_part : (part : DevicePart) (frame : List ℕ) (fis : Fis) → seen frame ≡ Ok fis → is_ignored true part.view (Ok fis) ≡ true → part_after 15 part (Came frame) ≡ part
skipped_part part frame fis viewed ignored =
    ap (λ o. if skips 15 part o then part else after_fis 15 part (admitted 15 o)) viewed
    ∙ ap (λ (b : Bool). if b then part else after_fis 15 part (admitted 15 (Ok fis))) (skips_control part (Ok fis) ∙ ignored)

ignores_by : (v : DeviceView) (o : Result Fis FisFault) (b : Bool) → is_some v.fault ≡ false → v.state.resetting ≡ b → is_ignored true v o ≡ (b && not (signs o))
ignores_by v o b none resetting = ap (λ (f : Bool). (not true || f) || (v.state.resetting && not (signs o))) none ∙ ap (λ (r : Bool). r && not (signs o)) resetting

pub notice_view : (v : DeviceView) (frame : List ℕ) → IsNotice31 frame → heard_view 15 v true (Some (view.SetBits frame)) ≡ view_after_hearing v (named (completed 0 v.slots) (with_bits v.state (field Bits Status frame) (field Bits Error frame)) 0)
unfolding heard_fis
notice_view v frame is = ap (view_after_hearing v) (heard_notice v.slots v.state (field Bits Status frame) (field Bits Error frame) (field Bits SActive frame) is.right is.names)

-- ---- an answer

heard_right : (own : DeviceSlots) (state : DeviceState) (status error : ℕ) → is_error status ≡ false → is_busy status ≡ false → heard_d2h own state status error ≡ answered (answer_of own) (with_file state status error)
heard_right own state status error right done =
    ap (λ (b : Bool). if b then faulty (with_file state status error) cause.TaskFile
    else if is_busy status then quietly (with_file state status error) happening.Nothing else answered (answer_of own) (with_file state status error)) right
    ∙ ap (λ (b : Bool). if b then quietly (with_file state status error) happening.Nothing else answered (answer_of own) (with_file state status error)) done

-- the answer to a command that moves no data
abbrev IsPlainAnswer : Answered → Type 0
IsPlainAnswer (answer.Queued slot) = ⊥
IsPlainAnswer (answer.Short slot) = ⊥
IsPlainAnswer other = Unit {0}

plain_for : (slot : ℕ) (i : Issue) (moves queued : Bool) → needs_all i.work.kind ≡ moves → is_queued_issue i ≡ queued → (moves || queued) ≡ false → IsPlainAnswer (answer_for slot i)
plain_for slot i false false p q none =
    subst IsPlainAnswer (sym (ap (λ (b : Bool). if b then answer.Queued slot else if needs_all i.work.kind && not (is_whole_issue i) then answer.Short slot else answer.Done slot) q
    ∙ ap (λ (b : Bool). if b && not (is_whole_issue i) then answer.Short slot else answer.Done slot) p)) tt
plain_for slot i true queued p q none = absurd (true≢false none)
plain_for slot i false true p q none = absurd (true≢false none)

plain_answer : (own : DeviceSlots) → ((s : ℕ) (i : Issue) → own_issue own s ≡ Some i → (needs_all i.work.kind || is_queued i.work.kind) ≡ false) → IsPlainAnswer (answer_of own)
plain_answer own plain = by_slot (waiting own)
  where
    by_issue : (slot : ℕ) (o : Option Issue) → own_issue own slot ≡ o → IsPlainAnswer (match_some o answer.Nobody (answer_for slot))
    by_issue slot None is = tt
    by_issue slot (Some i) is = plain_for slot i (needs_all i.work.kind) (is_queued_issue i) refl refl (plain slot i is)

    by_slot : (o : Option ℕ) → IsPlainAnswer (match_some o answer.Nobody (λ slot. match_some (own_issue own slot) answer.Nobody (answer_for slot)))
    by_slot None = tt
    by_slot (Some slot) = by_issue slot (own_issue own slot) refl

plain_fault : (a : Answered) → IsPlainAnswer a → device_cause (answer_fault a) ≡ None
plain_fault (answer.Queued slot) is = absurd is
plain_fault (answer.Short slot) is = absurd is
plain_fault other is = refl

plain_context : (a : Answered) (own : DeviceSlots) → IsPlainAnswer a → own.context ≡ None → (answered_as a own).context ≡ None
plain_context answer.Nobody own is none = none
plain_context (answer.Done slot) own is none = context_none (is_slot slot) own.context none
plain_context other own is none = absurd is

plain_issue : (a : Answered) (own : DeviceSlots) → IsPlainAnswer a → (own_issue (answered_as a own) 31 ≡ None) ⊎ (own_issue (answered_as a own) 31 ≡ own_issue own 31)
plain_issue answer.Nobody own is = inr refl
plain_issue (answer.Done slot) own is = by_test (is_slot slot 31) (ap (λ (f : ℕ → Option Issue). f 31) (own_freed (is_slot slot) own))
  where
    by_test : (b : Bool) → own_issue (freed (is_slot slot) own) 31 ≡ (if b then None else own_issue own 31) → (own_issue (freed (is_slot slot) own) 31 ≡ None) ⊎ (own_issue (freed (is_slot slot) own) 31 ≡ own_issue own 31)
    by_test true e = inl e
    by_test false e = inr e
plain_issue other own is = absurd is

on_off : (o : Order) → o ≡ ResetOff → is_on o ≡ false
on_off o is = ap is_on is

off_await : (o : Order) → o ≡ AwaitSignature → is_off o ≡ false
off_await o is = ap is_off is

-- ---- what a frame of the control port leaves

-- the stage after it
pub record Took31 (stage : Stage31) (frame : List ℕ) (new : Host) : Type 0 where
  pub next : Stage31
  pub follows : ((next ≡ stage) × IsNotice31 frame) ⊎ ((is_quiet next ≡ true) × (((stage ≡ Asks) × IsAnswer31 frame) ⊎ ((stage ≡ Signs) × IsSignature31 frame)))
  pub at : IsAt31 next new
  pub waits : next ≡ Waits → stage ≡ Waits

module _ (old : Host) (g : IsGoing old) (new : Host) (n : IsGoing new) (frame : List ℕ) (report : TakeReport) (does : Does old (Took frame report) new) (of : IsOfControl frame) (own : port_of frame ≡ 15) (stage : Stage31) (at : IsAt31 stage old) where
  -- the part that a view makes with another state, without fault and setup
  made31 : (next : Stage31) (w : DeviceView) (fis : Fis) → control_of new ≡ record (with_view (control_of old) w) { row = row_with (control_of old).row (Some fis) } → is_some w.fault ≡ has_failed next → w.slots.context ≡ None
      → w.state.resetting ≡ is_resetting next → IsIn next old.driver.plan.order old.driver.plan.asked (record (with_view (control_of old) w) { row = row_with (control_of old).row (Some fis) })
      → (old.driver.plan.opened < 7 → next ≡ Rests) → IsAt31 next new
  made31 next w fis part none context resetting is closed = record {
    fault = ap (λ (x : DevicePart). is_some x.view.fault) part ∙ none;
    context = ap (λ (x : DevicePart). x.view.slots.context) part ∙ context;
    resetting = ap (λ (x : DevicePart). x.view.state.resetting) part ∙ resetting;
    is = subst (λ (x : DevicePart). IsIn next new.driver.plan.order new.driver.plan.asked x) (sym part)
        (subst (λ (d : Driver). IsIn next d.plan.order d.plan.asked (record (with_view (control_of old) w) { row = row_with (control_of old).row (Some fis) })) (sym does.driver) is);
    low = subst (λ (d : Driver). IsLow d.plan.order) (sym does.driver) at.low;
    closed = λ less. closed (subst (λ (d : Driver). d.plan.opened < 7) does.driver less);
  }

  shut : 7 ≤ old.driver.plan.opened → (next : Stage31) → old.driver.plan.opened < 7 → next ≡ Rests
  shut least next less = absurd (omega (arith, least, less))

  notice_heard : has_failed stage ≡ false → 7 ≤ old.driver.plan.opened → IsNotice31 frame → is_ignored true (control_of old).view (Ok (view.SetBits frame)) ≡ false → IsAt31 stage new
  notice_heard well least is hears =
      let x : DevicePart = control_of old in
      let w : DeviceView = view_after_hearing x.view (named (completed 0 x.view.slots) (with_bits x.view.state (field Bits Status frame) (field Bits Error frame)) 0) in
      let part : control_of new ≡ record (with_view x w) { row = row_with x.row (Some (view.SetBits frame)) } =
      took_own old g new n frame report does of least own ∙ heard_part x frame (view.SetBits frame) is.viewed refl hears
      ∙ ap (λ (y : DeviceView). record (with_view x y) { row = row_with x.row (Some (view.SetBits frame)) }) (notice_view x.view frame is) in
      made31 stage w (view.SetBits frame) part (ap (λ f. is_some (device_cause f)) (notice_fault x.view.slots) ∙ sym well) (context_none (is_done 0 x.view.slots) x.view.slots.context at.context) at.resetting
      (alike_in stage old.driver.plan.order old.driver.plan.asked x _ (record { issue = none_done x.view.slots; command = command_stays x w (none_done x.view.slots) }) at.is)
      (shut least stage)

  heard_well : is_ignored true (control_of old).view (Ok (view.SetBits frame)) ≡ false → has_failed stage ≡ false
  heard_well hears = sym at.fault ∙ (or_parts (is_some (control_of old).view.fault) ((control_of old).view.state.resetting && not (signs (Ok (view.SetBits frame)))) hears).0

  -- a notification leaves the stage
  took_notice : IsNotice31 frame → IsAt31 stage new
  took_notice is = elim (cases_lt old.driver.plan.opened 7) [
    | inl less ↦ kept31 stage old new does.driver (closed_same old new frame report does g less) at
    | inr least ↦ elim (cases_Bool (is_ignored true (control_of old).view (Ok (view.SetBits frame)))) [
      | inl skips ↦ kept31 stage old new does.driver (took_own old g new n frame report does of least own ∙ skipped_part (control_of old) frame (view.SetBits frame) is.viewed skips) at
      | inr hears ↦ notice_heard (heard_well hears) least is hears
    ]
  ]

  -- ---- an answer

  register_heard : has_failed stage ≡ false → (b : Bool) → (control_of old).view.state.resetting ≡ b → (b && not (is_signature frame)) ≡ false → seen frame ≡ Ok (view.RegD2H frame) → 7 ≤ old.driver.plan.opened
      → control_of new ≡ after_fis 15 (control_of old) (Some (view.RegD2H frame))
  register_heard well b resetting hears viewed least =
      took_own old g new n frame report does of least own
      ∙ heard_part (control_of old) frame (view.RegD2H frame) viewed refl (ignores_by (control_of old).view (Ok (view.RegD2H frame)) b (at.fault ∙ well) resetting ∙ hears)

  signed : stage ≡ Signs → 7 ≤ old.driver.plan.opened → (is : IsSignature31 frame) → Took31 stage frame new
  unfolding heard_fis
  signed waits least is =
      let x : DevicePart = control_of old in
      let on : x.view.state.resetting ≡ true = at.resetting ∙ ap is_resetting waits in
      let state : DeviceState = after_reset x.view.state (field D2h Status frame) (field D2h Error frame) in
      let w : DeviceView = view_after_hearing x.view (signing frame (quietly state happening.Nothing)) in
      let h : heard_view 15 x.view true (Some (view.RegD2H frame)) ≡ w =
      ap (λ (b : Bool). view_after_hearing x.view (signing frame (if b then quietly state happening.Nothing else heard_d2h x.view.slots x.view.state (field D2h Status frame) (field D2h Error frame)))) on in
      let part : control_of new ≡ record (with_view x w) { row = row_with x.row (Some (view.RegD2H frame)) } =
      register_heard (ap has_failed waits) true on (ap not is.signs) is.viewed least ∙ ap (λ (y : DeviceView). record (with_view x y) { row = row_with x.row (Some (view.RegD2H frame)) }) h in
      by_order (subst (λ (s : Stage31). IsIn s old.driver.plan.order old.driver.plan.asked x) waits at.is) w part refl at.context refl refl
    where
      by_order : IsIn Signs old.driver.plan.order old.driver.plan.asked (control_of old) → (w : DeviceView) → control_of new ≡ record (with_view (control_of old) w) { row = row_with (control_of old).row (Some (view.RegD2H frame)) } → is_some w.fault ≡ false
          → w.slots.context ≡ None → w.state.resetting ≡ false → w.slots ≡ (control_of old).view.slots → Took31 stage frame new
      by_order (free, inl asked) w part none context quiet slots = record {
        next = Told;
        follows = inr (refl, inr (waits, is));
        at = made31 Told w (view.RegD2H frame) part none context quiet (asked.1, on_off old.driver.plan.order asked.0, inl (ap (λ (s : DeviceSlots). own_issue s 31) slots ∙ free)) (shut least Told);
        waits = λ w. cc;
      }
      by_order (free, inr awaits) w part none context quiet slots = record {
        next = Rests;
        follows = inr (refl, inr (waits, is));
        at = made31 Rests w (view.RegD2H frame) part none context quiet (awaits.1, off_await old.driver.plan.order awaits.0) (shut least Rests);
        waits = λ w. cc;
      }

  -- the answer to a command, with an error or without one
  module _ (waits : stage ≡ Asks) (least : 7 ≤ old.driver.plan.opened) (is : IsAnswer31 frame) where
    off : (control_of old).view.state.resetting ≡ false
    off = at.resetting ∙ ap is_resetting waits

    abbrev file : DeviceState
    file = with_file (control_of old).view.state (field D2h Status frame) (field D2h Error frame)

    asks : IsIn Asks old.driver.plan.order old.driver.plan.asked (control_of old)
    asks = subst (λ (s : Stage31). IsIn s old.driver.plan.order old.driver.plan.asked (control_of old)) waits at.is

    -- the part after it is heard as this
    as_heard : (h : Heard) → heard_d2h (control_of old).view.slots (control_of old).view.state (field D2h Status frame) (field D2h Error frame) ≡ h
        → control_of new ≡ record (with_view (control_of old) (view_after_hearing (control_of old).view (signing frame h))) { row = row_with (control_of old).row (Some (view.RegD2H frame)) }
    unfolding heard_fis
    as_heard h same =
        register_heard (ap has_failed waits) false off refl is.viewed least
        ∙ ap (λ (b : Bool). record (with_view (control_of old) (view_after_hearing (control_of old).view (signing frame
        (if b then quietly (after_reset (control_of old).view.state (field D2h Status frame) (field D2h Error frame)) happening.Nothing
        else heard_d2h (control_of old).view.slots (control_of old).view.state (field D2h Status frame) (field D2h Error frame))))) { row = row_with (control_of old).row (Some (view.RegD2H frame)) }) off
        ∙ ap (λ (x : Heard). record (with_view (control_of old) (view_after_hearing (control_of old).view (signing frame x))) { row = row_with (control_of old).row (Some (view.RegD2H frame)) }) same

    all_plain : IsSent (control_of old) → (s : ℕ) (i : Issue) → own_issue (control_of old).view.slots s ≡ Some i → (needs_all i.work.kind || is_queued i.work.kind) ≡ false
    all_plain s k i there =
        let at31 = issued31 old g k i there in
        let same : s.issue ≡ i = some_inj s.issue i (sym s.issued ∙ subst (λ (m : ℕ). own_issue (control_of old).view.slots m ≡ Some i) at31.0 there) in
        ap (λ (y : Issue). needs_all y.work.kind || is_queued y.work.kind) (sym same) ∙ s.plain

    free_or_sent : (w : DeviceView) → IsSent (control_of old) → ((own_issue w.slots 31 ≡ None) ⊎ (own_issue w.slots 31 ≡ own_issue (control_of old).view.slots 31))
        → IsFree31 (record (with_view (control_of old) w) { row = row_with (control_of old).row (Some (view.RegD2H frame)) }) ⊎ IsSent (record (with_view (control_of old) w) { row = row_with (control_of old).row (Some (view.RegD2H frame)) })
    free_or_sent w s (inl free) = inl free
    free_or_sent w s (inr same) = inr (record { issue = s.issue; issued = same ∙ s.issued; sent = s.sent; plain = s.plain })

    told : is_error (field D2h Status frame) ≡ false → Took31 stage frame new
    told right =
        let a : Answered = answer_of (control_of old).view.slots in
        let w : DeviceView = view_after_hearing (control_of old).view (signing frame (answered a file)) in
        let plain : IsPlainAnswer a = plain_answer (control_of old).view.slots (all_plain asks.2) in
        record {
          next = Told;
          follows = inr (refl, inl (waits, is));
          at = made31 Told w (view.RegD2H frame)
              (as_heard (answered a file) (heard_right (control_of old).view.slots (control_of old).view.state (field D2h Status frame) (field D2h Error frame) right is.done))
              (ap is_some (plain_fault a plain)) (plain_context a (control_of old).view.slots plain at.context) off
              (asks.0, asks.1, free_or_sent w asks.2 (plain_issue a (control_of old).view.slots plain)) (shut least Told);
          waits = λ w. cc;
        }

    failed : is_error (field D2h Status frame) ≡ true → Took31 stage frame new
    failed wrong = record {
      next = Fails;
      follows = inr (refl, inl (waits, is));
      at = made31 Fails (view_after_hearing (control_of old).view (signing frame (faulty file cause.TaskFile))) (view.RegD2H frame)
          (as_heard (faulty file cause.TaskFile)
          (ap (λ (b : Bool). if b then faulty file cause.TaskFile else if is_busy (field D2h Status frame) then quietly file happening.Nothing else answered (answer_of (control_of old).view.slots) file) wrong))
          refl at.context off tt (shut least Fails);
      waits = λ w. cc;
    }

    answered_by : Took31 stage frame new
    answered_by = elim (cases_Bool (is_error (field D2h Status frame))) [ inl wrong ↦ failed wrong | inr right ↦ told right ]

  -- whatever may come at this stage
  pub took31 : MayCome31 stage frame → Took31 stage frame new
  took31 may = by_stage stage refl may
    where
      note : IsNotice31 frame → Took31 stage frame new
      note is = record { next = stage; follows = inl (refl, is); at = took_notice is; waits = λ w. w }

      opens : stage ≢ Rests → 7 ≤ old.driver.plan.opened
      opens busy = elim (cases_lt old.driver.plan.opened 7) [ inl less ↦ absurd (busy (at.closed less)) | inr least ↦ least ]

      by_stage : (s : Stage31) → stage ≡ s → MayCome31 s frame → Took31 stage frame new
      by_stage Signs same (inl is) = note is
      by_stage Signs same (inr is) = signed same (opens (λ rests. let bad : Signs ≡ Rests = sym same ∙ rests in cc)) is
      by_stage Asks same (inl is) = note is
      by_stage Asks same (inr is) = answered_by same (opens (λ rests. let bad : Asks ≡ Rests = sym same ∙ rests in cc)) is
      by_stage other same is = note is

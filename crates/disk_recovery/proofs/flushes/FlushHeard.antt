-- For `flushes_are_taken`. What completes a command that is neither queued nor a PIO data-in is a Register FIS of the
-- device, and the command waits for it.
use Rattle.std.proofs.Common.{◌≡◌, ◌==◌, ℕ, ◌-◌, ◌<◌, Bool, true, false, List, [], drop, length, refl, sym, ap, subst, ◌∙◌, Option, Some, None, Ok}
use Rattle.std.proofs.{Common.{Err, Result, arith}, lemmas.Bool.{true≢false}}
use Rattle.std.specs.Prelude.{◌&&◌, is_some, not, nat_lt, if◌then◌else◌}
use Rattle.fis_view.specs.{Frames.{IsFrame, marked}, Marks.IsMarked, Table.{Bits, D2h, Kind, Pio, SActive, Setup, Status, field}, Seen.kind_of}
use Rattle.fis_view.specs.{Seen.{may_have, seen, view_as}, declared.view.{Fis.Fis, FisFault.{FisFault, TheVariants.WrongLength}}}
use Rattle.fis_view.specs.Table as table
use Rattle.fis_view.specs.declared.view.Fis.TheVariants as view
use Rattle.fis_view.proofs.Door.{is_marked}
use Rattle.port_errors.specs.declared.cause.DeviceCause.TheVariants as cause
use Rattle.slots.specs.{Commands.completed, Data.{after_arrive, may_activate}, Setup.{dma_context, out_setup, pio_fault, pio_issue, setup_fault}}
use Rattle.slots.specs.{Slots.{DeviceSlots, has_bit, is_pio, match_some, own_issue, sent_pio}, Work.is_queued, declared.answer.SetupError.SetupError}
use Rattle.slots.specs.declared.table.Context.{Context}
use Rattle.hba_fbs.specs.declared.hearing.Happening.TheVariants as happening
use Rattle.hba_fbs.specs.declared.{hearing.Heard.Heard, report.{TakeReport.TakeReport, Wrote.Wrote}, state.DeviceState.DeviceState}
use Rattle.hba_fbs.specs.{declared.status.Block.Block, Hearing.{block_of, bus_failed, faulty, heard_bytes, heard_data_of, heard_fis, heard_out}}
use Rattle.hba_fbs.specs.{Hearing.{is_admitted, named, overflowed, quietly, set_up, tag_of}, Status.{is_error, with_bits, with_file}, Taking.admitted}
use Rattle.hba_fbs.specs.{Taking.{heard, heard_now, ignores, port_of}, Tables.is_sound, Views.{DeviceView, view_of}}
use Rattle.hba_laws.specs.{Agreement.IsHistoryOf, Delivering.{completes_now, event_heard, event_taken}, History.{Answered, Event, History, Transfer}}
use Rattle.hba_laws.specs.{History.{completes, is_all_filled, filled, is_at, issued, waiting_in}, Hosts.{Host, TakesFrame}, Sound.IsHost}
use Rattle.hba_laws.specs.History as event
use Rattle.hba_laws.proofs.Door.{done_is_completed}
use Rattle.disk_simulation.proofs.Door.{no_end}

-- ---- which FISes answer

-- it is heard as no answer
abbrev AnswersNone : Heard → List ℕ → Type 0
AnswersNone h payload = event_heard h payload ≡ Some Answered → ⊥

none_setup : (state : DeviceState) (c : Context) (payload : List ℕ) (o : Option SetupError)
    → AnswersNone (set_up o state None (happening.SetUp c)) payload
none_setup state c payload None is = cc is
none_setup state c payload (Some e) is = cc is

none_out : (state : DeviceState) (block : Block) (payload : List ℕ) (r : Result Context SetupError) → AnswersNone (heard_out state block r) payload
none_out state block payload (Ok c) is = cc is
none_out state block payload (Err e) is = cc is

none_pio : (state : DeviceState) (status error count : ℕ) (to_host : Bool) (block : Block) (payload : List ℕ) (e sent : Bool) (o : Option SetupError)
    (r : Result Context SetupError)
    → AnswersNone (if e then faulty (with_file state status error) cause.TaskFile else (if sent then set_up o (with_file state status error) (Some block)
    (happening.PioSetUp count to_host) else heard_out (with_file state status error) block r)) payload
none_pio state status error count to_host block payload true sent o r is = cc is
none_pio state status error count to_host block payload false true None r is = cc is
none_pio state status error count to_host block payload false true (Some e) r is = cc is
none_pio state status error count to_host block payload false false o r is = none_out (with_file state status error) block payload r is

none_activate : (state : DeviceState) (payload : List ℕ) (b : Bool)
    → AnswersNone (if b then quietly state happening.Activated else faulty state cause.Stray) payload
none_activate state payload true is = cc is
none_activate state payload false is = cc is

none_bytes : (own : DeviceSlots) (state : DeviceState) (wrote : Wrote) (payload : List ℕ) (block : Option Block) (last : Bool)
    → AnswersNone (heard_bytes own state wrote block last) payload
none_bytes own state wrote payload None last is = cc is
none_bytes own state wrote payload (Some block) true is = cc is
none_bytes own state wrote payload (Some block) false is = cc is

none_data_of : (after : DeviceSlots) (state : DeviceState) (wrote : Wrote) (payload : List ℕ) (to_host sound over last : Bool)
    → AnswersNone (if not to_host then faulty state cause.Stray else
    (if not sound then bus_failed state else (if over then overflowed state else heard_bytes after state wrote state.block last))) payload
none_data_of after state wrote payload false sound over last is = cc is
none_data_of after state wrote payload true false over last is = cc is
none_data_of after state wrote payload true true true last is = cc is
none_data_of after state wrote payload true true false last is = none_bytes after state wrote payload state.block last is

none_data : (own : DeviceSlots) (state : DeviceState) (sound : Bool) (count : ℕ) (payload : List ℕ) (o : Option Context)
    → AnswersNone (match_some o (faulty state cause.Stray) (heard_data_of own state sound count)) payload
none_data own state sound count payload None is = cc is
none_data own state sound count payload (Some c) is =
    none_data_of (after_arrive own count) state (record { slot = c.slot; offset = c.next; len = count }) payload c.to_host sound
    (nat_lt c.left count) (c.left == count) is

none_bits : (own : DeviceSlots) (state : DeviceState) (f payload : List ℕ) (e : Bool)
    → AnswersNone (if e then faulty (with_bits state (field Bits Status f) (field Bits table.Error f)) cause.TaskFile
    else named (completed (field Bits SActive f) own) (with_bits state (field Bits Status f) (field Bits table.Error f)) (field Bits SActive f)) payload
none_bits own state f payload true is = cc is
none_bits own state f payload false is = cc is

record IsRegister (r : Result Fis FisFault) : Type 0 where
  frame : List ℕ
  is : r ≡ Ok (view.RegD2H frame)

by_fis : (v : DeviceView) (sound : Bool) (payload : List ℕ) (fis : Fis)
    → event_heard (heard_fis v.slots v.state sound fis) payload ≡ Some Answered → IsRegister (Ok fis)
unfolding heard_fis
by_fis v sound payload (view.RegD2H f) is = record { frame = f; is = refl }
by_fis v sound payload (view.SetBits f) is = absurd (none_bits v.slots v.state f payload (is_error (field Bits Status f)) is)
by_fis v sound payload (view.DmaActivate f) is = absurd (none_activate v.state payload (may_activate v.slots.context) is)
by_fis v sound payload (view.DmaSetup f) is =
    absurd (none_setup v.state (dma_context (tag_of f) (field Setup table.Offset f) (field Setup table.Count f) (field Setup table.D f == 1) (field Setup table.A f == 1)) payload
    (setup_fault (own_issue v.slots (tag_of f)) (field Setup table.Offset f) (field Setup table.Count f) (field Setup table.D f == 1)) is)
by_fis v sound payload (view.PioSetup f) is =
    absurd (none_pio v.state (field Pio Status f) (field Pio table.Error f) (field Pio table.Transfer f) (field Pio table.D f == 1) (block_of f) payload
    (is_error (field Pio Status f)) (is_some (sent_pio v.slots)) (pio_fault (pio_issue v.slots) (field Pio table.Transfer f) (field Pio table.D f == 1))
    (out_setup v.slots (field Pio table.Transfer f) (field Pio table.D f == 1)) is)
by_fis v sound payload (view.Payload f) is = absurd (none_data v.slots v.state sound (length f - 4) payload v.slots.context is)
by_fis v sound payload other is = cc is

by_test : (dev : ℕ) (v : DeviceView) (sound : Bool) (payload : List ℕ) (fis : Fis) (b : Bool)
    → event_heard (heard dev v sound (if b then Some fis else None)) payload ≡ Some Answered → IsRegister (Ok fis)
by_test dev v sound payload fis true is = by_fis v sound payload fis is
by_test dev v sound payload fis false is = cc is

by_heard : (dev : ℕ) (v : DeviceView) (sound : Bool) (payload : List ℕ) (r : Result Fis FisFault)
    → event_heard (heard dev v sound (admitted dev r)) payload ≡ Some Answered → IsRegister r
by_heard dev v sound payload (Err e) is = cc is
by_heard dev v sound payload (Ok fis) is = by_test dev v sound payload fis (is_admitted dev fis) is

by_taken : (host : Host) (frame : List ℕ) (b : Bool) → ignores (port_of frame) host.port frame ≡ b
    → event_taken host frame ≡ Some Answered → IsRegister (seen frame)
by_taken host frame true ignored is =
    let h : Heard = heard_now host.port host.memory (port_of frame) (admitted (port_of frame) (seen frame)) in
    let none : None ≡ Some Answered = sym (ap (λ (b : Bool). if b then None else event_heard h (drop 4 frame)) ignored) ∙ is in
    cc none
by_taken host frame false ignored is =
    let v : DeviceView = view_of (port_of frame) host.port in
    let h : Heard = heard_now host.port host.memory (port_of frame) (admitted (port_of frame) (seen frame)) in
    by_heard (port_of frame) v (is_sound host.memory host.port.commands v.slots) (drop 4 frame) (seen frame)
    (sym (ap (λ (b : Bool). if b then None else event_heard h (drop 4 frame)) ignored) ∙ is)

-- ---- the frame, as the disk sent it

register_by : (kind : Kind) (b : Bool) (old new g : List ℕ) → (if b then Ok (view_as kind new) else Err WrongLength) ≡ Ok (view.RegD2H g)
    → (if b then Ok (view_as kind old) else Err WrongLength) ≡ Ok (view.RegD2H old)
register_by kind false old new g e = absurd (cc e)
register_by D2h true old new g e = refl
register_by other true old new g e = absurd (cc e)

register_marked : (port : ℕ) (old g : List ℕ) → IsFrame old → port < 16 → seen (marked old port) ≡ Ok (view.RegD2H g) → seen old ≡ Ok (view.RegD2H old)
unfolding seen
register_marked port old g frame below is =
    let m : IsMarked port old (marked old port) = is_marked old port frame below in
    register_by (kind_of old) (may_have (kind_of old) (length old)) old (marked old port) g (sym m.view ∙ is)

-- ---- what completes such a command

none_named : (a q c : Bool) → q ≡ false → (a && (q && c)) ≡ true → ⊥
none_named a true c calm e = true≢false calm
none_named true false c calm e = true≢false (sym e)
none_named false false c calm e = true≢false (sym e)

three_hold : (a q c : Bool) → (a && not q && c) ≡ true → a ≡ true
three_hold true q c e = refl
three_hold false q c e = e

record AnswersIt (o : Option Event) (s : ℕ) (past : History) : Type 0 where
  is : o ≡ Some Answered
  waits : is_at s (waiting_in past) ≡ true

by_event : (o : Option Event) (s : ℕ) (past : History) (t : Transfer) → is_queued t.work.kind ≡ false → is_pio t.work.kind ≡ false
    → match_some o false (λ e. completes s e past t.work) ≡ true → AnswersIt o s past
by_event None s past t calm pio done = cc done
by_event (Some (event.Named mask)) s past t calm pio done =
    absurd (none_named (has_bit mask s) (is_queued t.work.kind) (is_all_filled (filled s past) t.work.len) calm done)
by_event (Some Answered) s past t calm pio done = record { is = refl; waits = three_hold (is_at s (waiting_in past)) (is_queued t.work.kind) _ done }
by_event (Some (event.Carried bytes)) s past t calm pio done = absurd (no_end _ (is_pio t.work.kind) _ _ pio done)
by_event other s past t calm pio done = absurd (true≢false (sym done))

-- the FIS that a report of it is of, as the disk sent it
pub record IsItsAnswer (bytes : List ℕ) (s : ℕ) (past : History) : Type 0 where
  pub is : seen bytes ≡ Ok (view.RegD2H bytes)
  pub waits : is_at s (waiting_in past) ≡ true

pub its_answer : (n : ℕ) (host new : Host) (bytes : List ℕ) (report : TakeReport) (past : History) → IsHost host → n < 15
    → IsFrame bytes → IsFrame (marked bytes n) → port_of (marked bytes n) ≡ n → TakesFrame host (marked bytes n) report new
    → IsHistoryOf n host past → (s : ℕ) (t : Transfer) → s < 32 → issued s past ≡ Some t → is_queued t.work.kind ≡ false
    → is_pio t.work.kind ≡ false → has_bit report.done s ≡ true → IsItsAnswer bytes s past
its_answer n host new bytes report past sound below plain framed from_n takes history s t lt here calm pio set =
    let frame : List ℕ = marked bytes n in
    let small : n < 16 = omega (arith, below) in
    let reported =
    done_is_completed host host new [] refl (record { hosts = sound; frames = tt }) (marked bytes n) report past framed
    (subst (λ (m : ℕ). IsHistoryOf m host past) (sym from_n) history) takes in
    let now : completes_now s host (marked bytes n) past ≡ true = sym (reported.done s lt) ∙ set in
    let at : match_some (event_taken host (marked bytes n)) false (λ e. completes s e past t.work) ≡ true =
    sym (ap (λ (o : Option Transfer). match_some o false
    (λ u. match_some (event_taken host (marked bytes n)) false (λ e. completes s e past u.work))) here) ∙ now in
    let one : AnswersIt (event_taken host (marked bytes n)) s past = by_event (event_taken host (marked bytes n)) s past t calm pio at in
    let r : IsRegister (seen (marked bytes n)) =
    by_taken host (marked bytes n) (ignores (port_of (marked bytes n)) host.port (marked bytes n)) refl one.is in
    record { is = register_marked n bytes r.frame plain small r.is; waits = one.waits }

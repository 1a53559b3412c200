-- For `rested_disks_are_left`. While a command that is not queued waits at the port, the ledger owes its answer or its page: what
-- a FIS of the disk leaves of that.
use Rattle.std.proofs.Common.{◌≡◌, ◌==◌, ◌&&◌, ◌+◌, ◌-◌, ◌<◌, ◌≤◌, ◌⊎◌, ℕ, Bool, true, false, List, [], ◌∷◌, ◌++◌, drop, length, refl, sym, ap, subst}
use Rattle.std.proofs.{Common.{◌∙◌, inl, inr, Option, Some, None, Ok, Err, Result, arith}, lemmas.Bool.{and_from, eq-eqb, eqb-true, false≢true}}
use Rattle.std.proofs.lemmas.{Bool.{le-leb, lt-ltb, ltb-false, true≢false}, List.{length-drop, FromFn.{get_or-range_with_len, length-range_with_len}}}
use Rattle.std.proofs.lemmas.{List.Sums.{list_all-from_AllPass}, Option.{slice_get-get_or}}
use Rattle.std.specs.{Prelude.{if◌then◌else◌, is_some, nat_le, nat_lt, not, slice_get, find, MatchOption}, List.range_with_len, Option.option_map}
use Rattle.fis_view.specs.{Table.{Bits, BufferId, EStatus, Offset, Pio, SActive, field}, declared.view.{Fis.Fis, FisFault.FisFault}}
use Rattle.fis_view.specs.Table as table
use Rattle.fis_view.specs.declared.view.Fis.TheVariants as view
use Rattle.port_errors.specs.declared.cause.DeviceCause.TheVariants as cause
use Rattle.slots.specs.{Data.after_arrive, Setup.{out_setup, pio_fault, pio_issue}, Slots.{DeviceSlots, Issue, has_bit, is_pio, is_queued_issue}}
use Rattle.slots.specs.{Slots.{is_waiting, match_some, own_issue, sent_pio}, Table.IsIssue, Work.{is_queued, is_read}}
use Rattle.slots.specs.declared.{answer.SetupError.SetupError, table.Context.Context, work.{Kind.TheVariants.{NoData, PioIn}, Work.Work}}
use Rattle.slots.specs.Slots as slots
use Rattle.hba_fbs.specs.declared.hearing.Happening.TheVariants as happening
use Rattle.hba_fbs.specs.{declared.{hearing.Heard.Heard, report.Wrote.Wrote, state.DeviceState.DeviceState, status.Block.Block}, Hearing.block_of}
use Rattle.hba_fbs.specs.Hearing.{bus_failed, faulty, heard_bytes, heard_data, heard_data_of, heard_fis, heard_out, is_admitted, overflowed, set_up}
use Rattle.hba_fbs.specs.{Status.{is_error, is_quiet, with_file}, Taking.{admitted, heard}, Views.DeviceView}
use Rattle.disk_model.specs.{declared.request.Command.Command, Ends.IsRight, Laws.{ActivatesRight, ShowsFirst, SetsUpRight, StartsOne}}
use Rattle.disk_model.specs.Ledger.{Finishes, Ledger, Moving, Names, Refuses, Reply, ShowsPage, answered, listens_up, sends_data}
use Rattle.hba_laws.specs.Agreement.{ContextAgrees, IsTold, IssueAgrees, SetupAgrees, end_of, is_for, is_pio_issue, work_of_issue}
use Rattle.hba_laws.specs.{Between.{HasContext, IsOwn, NotIssue}, History.{Event, History, Transfer, carried, completes, ends_well, filled}}
use Rattle.hba_laws.specs.History.{filled_from, is_all_filled, is_at, is_set_up, issued, last_setup, next_number, unless, waiting_in}
use Rattle.hba_laws.specs.History as event
use Rattle.hba_laws.proofs.Door.{issued_before}
use Rattle.disk_simulation.specs.{Answers.IsIdle, Joined.SentAgrees, Same.{InLife, Moves, Open, ReadEnded, SlotCommand, StandsOnce, Unsent}}
use Rattle.disk_simulation.specs.{Same.WriteEnded, Together.{AtMostAccepts, InTalk, IsWaitedUnset, Same, is_sent, told}}
use Rattle.disk_simulation.specs.Together as talk
use Rattle.world_rests.proofs.{Frames.IsFull, Open.{WasIssued, was_issued}}

-- a command without data, or one that reads a page
abbrev pub IsPlain : Work → Type 0
IsPlain w = (w.kind ≡ NoData) ⊎ ((w.kind ≡ PioIn) × (w.len ≡ 512))

-- the answer ends a command that is not queued
abbrev pub IsEnd : Reply → Type 0
IsEnd Finishes = Unit {0}
IsEnd Refuses = Unit {0}
IsEnd other = ⊥

-- Its answer is to come, or the PIO Setup and then a page. What the block of the port has for the end of the page lets it complete.
pub data OwesIt (block : Option Block) (k : Ledger) : Type 0 where
  OwesReply : (reply : Reply) → k.awaited ≡ reply ∷ [] → IsEnd reply → OwesIt block k
  OwesShow : k.awaited ≡ ShowsPage ∷ [] → (k.pages ≡ [] → ⊥) → OwesIt block k
  OwesPage : k.awaited ≡ [] → (k.pages ≡ [] → ⊥) → ((b : Block) → block ≡ Some b → is_quiet b.ends ≡ true) → OwesIt block k

-- such a command waits in the slot
pub record WaitsIn (s : ℕ) (t : Transfer) (past : History) : Type 0 where
  pub here : issued s past ≡ Some t
  pub plain : IsPlain t.work
  pub waits : is_at s (waiting_in past) ≡ true

abbrev pub AreOwed : Option Block → History → Ledger → Type 0
AreOwed block past k = (s : ℕ) (t : Transfer) → WaitsIn s t past → OwesIt block k

pub plain_unqueued : (w : Work) → IsPlain w → is_queued w.kind ≡ false
plain_unqueued w plain = elim plain [ inl none ↦ ap is_queued none | inr page ↦ ap is_queued page.0 ]

-- a ledger that owes no answer and no page owes none of it
pub owes_none : {X : Type 0} (block : Option Block) (k : Ledger) → OwesIt block k → k.awaited ≡ [] → k.pages ≡ [] → X
owes_none block k (OwesReply reply is end) none empty = let bad : [] ≡ reply ∷ [] = sym none ∙ is in cc bad
owes_none block k (OwesShow is some) none empty = absurd (some empty)
owes_none block k (OwesPage is some quiet) none empty = absurd (some empty)

-- ---- meanwhile no queued command is there

end_unqueued : (reply : Reply) → IsEnd reply → AtMostAccepts (reply ∷ []) → ⊥
end_unqueued Finishes end most = most
end_unqueued Refuses end most = most
end_unqueued other end most = end

pub idle_by : (block : Option Block) (past : History) (k : Ledger) → OwesIt block k → InTalk past k → IsIdle k
idle_by block past k owes (talk.Replies reply idle one mine pages) = idle
idle_by block past k owes (talk.Shows idle one most unset) = idle
idle_by block past k owes (talk.Pages page idle none one waits) = idle
idle_by block past k (OwesReply reply is end) (talk.Queues most waits pages) = absurd (end_unqueued reply end (subst AtMostAccepts is most))
idle_by block past k (OwesShow is some) (talk.Queues most waits pages) = absurd (subst AtMostAccepts is most)
idle_by block past k (OwesPage is some quiet) (talk.Queues most waits pages) = absurd (some pages)

-- ---- a slot of two

same_at : (o : Option ℕ) (s r : ℕ) → is_at s o ≡ true → is_at r o ≡ true → s ≡ r
same_at None s r first second = absurd (false≢true first)
same_at (Some m) s r first second = sym (eqb-true m s first) ∙ eqb-true m r second

-- before its PIO Setup the command that waits has none
unset_by : (past : History) (k : Ledger) (s : ℕ) → k.awaited ≡ ShowsPage ∷ [] → is_at s (waiting_in past) ≡ true → InTalk past k → is_set_up s past ≡ false
unset_by past k s shows waits (talk.Queues most other pages) = absurd (subst AtMostAccepts shows most)
unset_by past k s shows waits (talk.Replies reply idle one mine pages) =
    let e : reply ∷ [] ≡ ShowsPage ∷ [] = sym one ∙ shows in
    let is : reply ≡ ShowsPage = cc e in
    absurd (subst (λ (r : Reply). talk.IsOwnReply r past) is mine)
unset_by past k s shows waits (talk.Shows idle one most unset) =
    let at : is_at unset.waited.slot (waiting_in past) ≡ true = ap (is_at unset.waited.slot) unset.waited.waits ∙ eq-eqb unset.waited.slot unset.waited.slot refl in
    let same : unset.waited.slot ≡ s = same_at (waiting_in past) unset.waited.slot s at waits in
    subst (λ (r : ℕ). is_set_up r past ≡ false) same unset.unset
unset_by past k s shows waits (talk.Pages page idle none one other) = let bad : [] ≡ ShowsPage ∷ [] = sym none ∙ shows in cc bad

-- ---- filled

within : (bytes : List ℕ) (F : ℕ → Option ℕ) (k : ℕ) → k < length bytes → is_some (filled_from 0 bytes F k) ≡ true
within bytes F k lt =
    let low : nat_le 0 k ≡ true = le-leb 0 k (omega arith) in
    let high : nat_lt k (0 + length bytes) ≡ true = lt-ltb k (0 + length bytes) (omega (arith, lt)) in
    let same : k - 0 ≡ k = omega arith in
    let there = slice_get-get_or bytes k 0 lt in
    ap is_some (ap (λ (b : Bool). if b then slice_get bytes (k - 0) else F k) (and_from (nat_le 0 k) (nat_lt k (0 + length bytes)) low high)
    ∙ ap (slice_get bytes) same ∙ there)

fills : (bytes : List ℕ) (F : ℕ → Option ℕ) (len : ℕ) → len ≤ length bytes → is_all_filled (filled_from 0 bytes F) len ≡ true
fills bytes F len most =
    list_all-from_AllPass (λ k. is_some (filled_from 0 bytes F k)) (range_with_len 0 len) (λ k d lt.
    let long : length (range_with_len 0 len) ≡ len = length-range_with_len 0 len in
    let small : k < len = omega (arith, long, lt) in
    let first : 0 + k ≡ k = omega arith in
    ap (λ (i : ℕ). is_some (filled_from 0 bytes F i)) (get_or-range_with_len 0 len k d small ∙ first) ∙ within bytes F k (omega (arith, small, most)))

-- ---- Data that the port takes

pub record IsHeardData (context : Option Context) (count : ℕ) : Type 0 where
  pub c : Context
  pub now : context ≡ Some c
  pub up : c.to_host ≡ true
  pub room : count ≤ c.left

data_fits : (own after : DeviceSlots) (state : DeviceState) (wrote : Wrote) (c : Context) (count : ℕ) (to_host sound over last : Bool) → c.to_host ≡ to_host → nat_lt c.left count ≡ over
    → (if not to_host then faulty state cause.Stray else
    (if not sound then bus_failed state else (if over then overflowed state else heard_bytes after state wrote state.block last))).fault ≡ None
    → (c.to_host ≡ true) × (count ≤ c.left)
data_fits own after state wrote c count false sound over last up is fine = cc fine
data_fits own after state wrote c count true false over last up is fine = cc fine
data_fits own after state wrote c count true true true last up is fine = cc fine
data_fits own after state wrote c count true true false last up is fine = (up, ltb-false c.left count is)

data_heard : (own : DeviceSlots) (state : DeviceState) (sound : Bool) (count : ℕ) (o : Option Context)
    → (match_some o (faulty state cause.Stray) (heard_data_of own state sound count)).fault ≡ None → IsHeardData o count
data_heard own state sound count None fine = cc fine
data_heard own state sound count (Some c) fine =
    let both = data_fits own (after_arrive own count) state (record { slot = c.slot; offset = c.next; len = count }) c count c.to_host sound
    (nat_lt c.left count) (c.left == count) refl refl fine in
    record { c = c; now = refl; up = both.0; room = both.1 }

-- ---- a PIO Setup that the port accepts

pio_block : (state : DeviceState) (status error count : ℕ) (to_host : Bool) (block : Block) (e sent : Bool) (o : Option SetupError) (r : Result Context SetupError)
    → (if e then faulty (with_file state status error) cause.TaskFile else (if sent then set_up o (with_file state status error) (Some block)
    (happening.PioSetUp count to_host) else heard_out (with_file state status error) block r)).fault ≡ None
    → (b : Block) → (if e then faulty (with_file state status error) cause.TaskFile else (if sent then set_up o (with_file state status error) (Some block)
    (happening.PioSetUp count to_host) else heard_out (with_file state status error) block r)).state.block ≡ Some b → b ≡ block
pio_block state status error count to_host block true sent o r fine b is = cc fine
pio_block state status error count to_host block false true None r fine b is = cc is
pio_block state status error count to_host block false true (Some e) r fine b is = cc fine
pio_block state status error count to_host block false false o (Ok c) fine b is = cc is
pio_block state status error count to_host block false false o (Err e) fine b is = cc fine

-- ---- at a device whose port and ledger are joined

no_tag : {X : Type 0} (s : ℕ) (tags : List ℕ) → tags ≡ [] → StandsOnce s tags → X
no_tag {X} s tags none once = by_front once.ahead (sym none ∙ once.is)
  where
    by_front : (ahead : List ℕ) → [] ≡ ahead ++ s ∷ once.behind → X
    by_front [] is = cc is
    by_front (x ∷ ahead) is = cc is

set_idle : {X : Type 0} (s : ℕ) (c : SlotCommand) (past : History) (k : Ledger) → IsIdle k → is_set_up s past ≡ true → InLife s c past k → X
set_idle s c past k idle set (Unsent free quiet unset none since) = absurd (true≢false (sym set ∙ unset))
set_idle s c past k idle set (Open found unanswered other unset none since) = absurd (true≢false (sym set ∙ unset))
set_idle s c past k idle set (Moves v now own unanswered at since) = let bad : None ≡ Some v = sym idle.moving ∙ now in cc bad
set_idle s c past k idle set (ReadEnded at r ended quiet is reads stands since) = no_tag s k.unanswered idle.unanswered ended.unanswered
set_idle s c past k idle set (WriteEnded at w ended quiet is writes stands since) = no_tag s k.unanswered idle.unanswered ended.unanswered

unanswered_if : (i : Issue) (b : Bool) → IsIssue i → is_queued i.work.kind ≡ false → i.answered ≡ b → b ≡ false
unanswered_if i true is plain answered = absurd (true≢false (sym (is.answers answered).0 ∙ plain))
unanswered_if i false is plain answered = refl

-- what is not queued and was sent waits
pub waits_if : (i : Issue) → IsIssue i → is_queued i.work.kind ≡ false → i.sent ≡ true → is_waiting i ≡ true
waits_if i is plain sent = and_from i.sent (not i.answered) sent (ap not (unanswered_if i i.answered is plain refl))

module _ (dev : ℕ) (w : DeviceView) (sound : Bool) (commands : ℕ → SlotCommand) (past : History) (k : Ledger) (owns : IsOwn dev w.slots) (history : IsTold w past)
    (same : Same commands past k) (sent : SentAgrees w.slots past) (owed : AreOwed w.state.block past k) where
  idle : (s : ℕ) (t : Transfer) → WaitsIn s t past → IsIdle k
  idle s t waits = idle_by w.state.block past k (owed s t waits) same.talk

  -- Data is for the command that waits
  module _ (s : ℕ) (t : Transfer) (waits : WaitsIn s t past) (c : Context) (now : w.slots.context ≡ Some c) where
    has : HasContext dev w.slots c
    has = owns.contexts c now

    agrees : IssueAgrees c.slot has.issue w.slots.context past
    agrees = history.agrees.issues_agree c.slot has.issue has.at

    set : is_set_up c.slot past ≡ true
    set = agrees.set_up_is ∙ ap (is_for c.slot) now ∙ eq-eqb c.slot c.slot refl

    its : WasIssued c.slot has.issue past
    its = was_issued c.slot has.issue past (issued c.slot past) refl (history.issued c.slot ∙ ap (option_map work_of_issue) has.at)

    not_other : c.slot ≡ s
    not_other = by_kind (is_queued has.issue.work.kind) has.issue.sent refl refl
      where
        by_kind : (queued went : Bool) → is_queued has.issue.work.kind ≡ queued → has.issue.sent ≡ went → c.slot ≡ s
        by_kind true went queued is =
            set_idle c.slot (commands c.slot) past k (idle s t waits) set
            (same.live c.slot its.transfer its.there (ap (λ (x : Work). is_queued x.kind) its.work ∙ queued))
        by_kind false true plain is =
            same_at (waiting_in past) c.slot s (agrees.waits_is ∙ waits_if has.issue (owns.issues c.slot has.issue has.at) plain is) waits.waits
        by_kind false false plain is =
            absurd (true≢false (sym set ∙ (same.untouched c.slot its.transfer its.there (sent c.slot has.issue has.at ∙ is)).unset))

    its_work : has.issue.work ≡ t.work
    its_work =
        let both : Some its.transfer ≡ Some t = sym its.there ∙ ap (λ (r : ℕ). issued r past) not_other ∙ waits.here in
        let one : its.transfer ≡ t = cc both in
        sym its.work ∙ ap (λ (u : Transfer). u.work) one

    -- all of a page comes, and its command completes
    module _ (bytes : List ℕ) (long : 512 ≤ length bytes) (up : c.to_host ≡ true) (room : length bytes ≤ c.left)
        (quiet : (b : Block) → w.state.block ≡ Some b → is_quiet b.ends ≡ true) where
      reads : is_read t.work.kind ≡ true
      reads = ap (λ (x : Work). is_read x.kind) (sym its_work) ∙ has.is.way ∙ up

      page : (t.work.kind ≡ PioIn) × (t.work.len ≡ 512)
      page = elim waits.plain [ inl none ↦ absurd (false≢true (sym (ap is_read none) ∙ reads)) | inr both ↦ both ]

      sizes : (c.next ≡ 0) × ((c.left ≡ 512) × (length bytes ≡ 512))
      sizes =
          let inside : c.next + c.left ≤ has.issue.work.len = has.is.fits in
          let len : has.issue.work.len ≡ 512 = ap (λ (x : Work). x.len) its_work ∙ page.1 in
          (omega (arith, inside, len, long, room), (omega (arith, inside, len, long, room), omega (arith, inside, len, long, room)))

      ctx : ContextAgrees (own_issue w.slots) c (option_map end_of w.state.block) past
      ctx = history.agrees.context_agrees c now

      of_pio : is_some (option_map end_of w.state.block) ≡ true
      of_pio = sym ctx.of_kind ∙ ap (slots.holds is_pio_issue) has.at ∙ ap (λ (x : Work). is_pio x.kind) its_work ∙ ap is_pio page.0

      set_it : is_set_up s past ≡ true
      set_it = subst (λ (r : ℕ). is_set_up r past ≡ true) not_other set

      module _ (g : event.Setup) (last : last_setup past ≡ Some g) (agree : SetupAgrees c (option_map end_of w.state.block) past g) where
        offset : (g.offset ≡ 0) × ((carried past ≡ 0) × (g.count ≡ 512))
        offset =
            let next : g.offset + carried past ≡ c.next = agree.next_is in
            let left : carried past + c.left ≡ g.count = agree.left_is in
            let none : c.next ≡ 0 = sizes.0 in
            let all : c.left ≡ 512 = sizes.1.0 in
            (omega (arith, next, left, none, all), (omega (arith, next, left, none, all), omega (arith, next, left, none, all)))

        number : next_number past ≡ 0
        number =
            let none : g.offset + carried past ≡ 0 = agree.next_is ∙ sizes.0 in
            ap (λ (o : Option event.Setup). match_some o 0 (λ x. x.offset + carried past)) last ∙ none

        whole : is_all_filled (filled s (event.Carried bytes ∷ past)) t.work.len ≡ true
        whole =
            let filled_is : filled s (event.Carried bytes ∷ past) ≡ filled_from 0 bytes (filled s past) =
            ap (λ (b : Bool). if b then filled_from (next_number past) bytes (filled s past) else filled s past) set_it
            ∙ ap (λ (m : ℕ). filled_from m bytes (filled s past)) number in
            let len : t.work.len ≡ 512 = page.1 in
            let enough : t.work.len ≤ length bytes = omega (arith, len, long) in
            ap (λ (F : ℕ → Option ℕ). is_all_filled F t.work.len) filled_is ∙ fills bytes (filled s past) t.work.len enough

        all_gone : carried past + length bytes ≡ g.count
        all_gone =
            let none : carried past ≡ 0 = offset.1.0 in
            let count : g.count ≡ 512 = offset.1.1 in
            let size : length bytes ≡ 512 = sizes.1.1 in
            omega (arith, none, count, size)

        by_block : (o : Option Block) → w.state.block ≡ o → completes s (event.Carried bytes) past t.work ≡ true
        by_block None block = absurd (false≢true (sym (ap (λ (o : Option Block). is_some (option_map end_of o)) block) ∙ of_pio))
        by_block (Some b) block =
            let ends : g.ends ≡ Some b.ends = agree.ends_is ∙ ap (option_map end_of) block in
            let well : ends_well g (carried past + length bytes) ≡ true =
            ap (λ (x : Bool). match_some (if x then g.ends else None) false is_quiet) (eq-eqb (carried past + length bytes) g.count all_gone)
            ∙ ap (λ (o : Option ℕ). match_some o false is_quiet) ends ∙ quiet b block in
            let last_well : match_some (last_setup past) false (λ x. ends_well x (carried past + length bytes)) ≡ true =
            ap (λ (o : Option event.Setup). match_some o false (λ x. ends_well x (carried past + length bytes))) last ∙ well in
            let first : (is_set_up s past && is_pio t.work.kind) ≡ true = and_from (is_set_up s past) (is_pio t.work.kind) set_it (ap is_pio page.0) in
            let both : (is_set_up s past && is_pio t.work.kind && match_some (last_setup past) false (λ x. ends_well x (carried past + length bytes))) ≡ true =
            and_from (is_set_up s past && is_pio t.work.kind) (match_some (last_setup past) false (λ x. ends_well x (carried past + length bytes))) first last_well in
            and_from (is_set_up s past && is_pio t.work.kind && match_some (last_setup past) false (λ x. ends_well x (carried past + length bytes)))
            (is_all_filled (filled s (event.Carried bytes ∷ past)) t.work.len) both whole

      completes_it : completes s (event.Carried bytes) past t.work ≡ true
      completes_it = by_setup (last_setup past) refl ctx.of_setup
        where
          by_setup : (o : Option event.Setup) → last_setup past ≡ o → MatchOption o ⊥ (SetupAgrees c (option_map end_of w.state.block) past) → completes s (event.Carried bytes) past t.work ≡ true
          by_setup None last agree = absurd agree
          by_setup (Some g) last agree = by_block g last agree w.state.block refl

      gone : {X : Type 0} → issued s (event.Carried bytes ∷ past) ≡ Some t → X
      gone still =
          let none : issued s (event.Carried bytes ∷ past) ≡ None =
          ap (λ (o : Option Transfer). match_some o None (λ u. unless (completes s (event.Carried bytes) past u.work) (Some u))) waits.here
          ∙ ap (λ (b : Bool). unless b (Some t)) completes_it in
          cc (sym none ∙ still)

  -- ---- each FIS in which the port finds no fault

  abbrev Leaves : Result Fis FisFault → Heard → Type 0
  Leaves r h = h.fault ≡ None → AreOwed h.state.block (told r ++ past) (listens_up k r)

  before : (e : Event) (s : ℕ) (t : Transfer) → NotIssue e → waiting_in (e ∷ past) ≡ waiting_in past → WaitsIn s t (e ∷ past) → WaitsIn s t past
  before e s t not stays waits = record {
    here = issued_before s e past t not waits.here;
    plain = waits.plain;
    waits = ap (is_at s) (sym stays) ∙ waits.waits;
  }

  none_found : (o : List Command) (f : List ℕ) (tag : ℕ) → o ≡ [] → StartsOne (find (λ c. c.tag == tag) o) f → ⊥
  none_found o f tag none starts = subst (λ (cs : List Command). StartsOne (find (λ c. c.tag == tag) cs) f) none starts

  at_setup : (f : List ℕ) → IsRight k (Ok (view.DmaSetup f)) → IsIdle k → ⊥
  at_setup f right quiet =
      none_found k.outstanding f (field table.Setup BufferId f) quiet.outstanding (subst (λ (m : Option Moving). SetsUpRight k m f) quiet.moving right.moves)

  shown_next : (f : List ℕ) (block : Option Block) → ((b : Block) → block ≡ Some b → is_quiet b.ends ≡ true) → ShowsFirst k.awaited f → OwesIt w.state.block k → OwesIt block (answered k)
  shown_next f block quiet shows (OwesReply reply is end) = absurd (by_reply reply end (subst (λ (xs : List Reply). ShowsFirst xs f) is shows))
    where
      by_reply : (reply : Reply) → IsEnd reply → ShowsFirst (reply ∷ []) f → ⊥
      by_reply Finishes end shows = shows
      by_reply Refuses end shows = shows
      by_reply other end shows = end
  shown_next f block quiet shows (OwesShow is some) = OwesPage (ap (drop 1) is) some quiet
  shown_next f block quiet shows (OwesPage is some before) = absurd (subst (λ (xs : List Reply). ShowsFirst xs f) is shows)

  by_pio : (f : List ℕ) → IsRight k (Ok (view.PioSetup f)) → IsFull (Ok (view.PioSetup f)) → Leaves (Ok (view.PioSetup f)) (heard_fis w.slots w.state sound (view.PioSetup f))
  unfolding heard_fis NotIssue
  by_pio f right full fine s t waits =
      let its : WaitsIn s t past = before (event.PioSetUp (field Pio table.Transfer f) (field Pio table.D f == 1) (field Pio EStatus f)) s t tt refl waits in
      shown_next f _ (λ b is.
      let one : b ≡ block_of f =
      pio_block w.state (field Pio table.Status f) (field Pio table.Error f) (field Pio table.Transfer f) (field Pio table.D f == 1) (block_of f) (is_error (field Pio table.Status f)) (is_some (sent_pio w.slots))
      (pio_fault (pio_issue w.slots) (field Pio table.Transfer f) (field Pio table.D f == 1)) (out_setup w.slots (field Pio table.Transfer f) (field Pio table.D f == 1)) fine b is in
      ap (λ (x : Block). is_quiet x.ends) one ∙ full) right.replies (owed s t its)

  module _ (f : List ℕ) (full : 512 ≤ length (drop 4 f)) (fine : (heard_data w.slots w.state sound (length f - 4)).fault ≡ None) (block : Option Block) (s : ℕ) (t : Transfer) (its : WaitsIn s t past) where
    takes : IsHeardData w.slots.context (length f - 4)
    takes = data_heard w.slots w.state sound (length f - 4) w.slots.context fine

    taken_room : length (drop 4 f) ≤ takes.c.left
    taken_room = let long : length (drop 4 f) ≡ length f - 4 = length-drop 4 f in let fits : length f - 4 ≤ takes.c.left = takes.room in omega (arith, long, fits)

    data_due : OwesIt w.state.block k → issued s (event.Carried (drop 4 f) ∷ past) ≡ Some t → OwesIt block (sends_data k k.moving (drop 4 f))
    data_due (OwesReply reply is end) here = subst (λ (m : Option Moving). OwesIt block (sends_data k m (drop 4 f))) (sym (idle s t its).moving) (OwesReply reply is end)
    data_due (OwesShow is some) here =
        let at : takes.c.slot ≡ s = not_other s t its takes.c takes.now in
        let up : is_set_up s past ≡ true = subst (λ (r : ℕ). is_set_up r past ≡ true) at (set s t its takes.c takes.now) in
        absurd (true≢false (sym up ∙ unset_by past k s is its.waits same.talk))
    data_due (OwesPage is some quiet) here = gone s t its takes.c takes.now (drop 4 f) full takes.up taken_room quiet here

  by_data : (f : List ℕ) → IsFull (Ok (view.Payload f)) → Leaves (Ok (view.Payload f)) (heard_fis w.slots w.state sound (view.Payload f))
  unfolding heard_fis NotIssue
  by_data f full fine s t waits =
      let its : WaitsIn s t past = before (event.Carried (drop 4 f)) s t tt refl waits in
      data_due f full fine _ s t its (owed s t its) waits.here

  leaves_fis : (fis : Fis) → IsRight k (Ok fis) → IsFull (Ok fis) → Leaves (Ok fis) (heard_fis w.slots w.state sound fis)
  unfolding heard_fis NotIssue
  leaves_fis (view.RegD2H f) right full = λ fine s t waits. absurd (false≢true waits.waits)
  leaves_fis (view.SetBits f) right full = λ fine s t waits.
      let quiet : IsIdle k = idle s t (before (event.Named (field Bits SActive f)) s t tt refl waits) in
      absurd (subst (λ (tags : List ℕ). Names tags (field Bits SActive f)) quiet.unanswered (right.answers right.fine))
  leaves_fis (view.DmaActivate f) right full = λ fine s t waits. absurd (subst ActivatesRight (idle s t waits).moving right.moves)
  leaves_fis (view.DmaSetup f) right full = λ fine s t waits.
      absurd (at_setup f right (idle s t (before
      (event.SetUp (field table.Setup BufferId f) (field table.Setup Offset f) (field table.Setup table.Count f) (field table.Setup table.D f == 1)) s t tt refl waits)))
  leaves_fis (view.PioSetup f) right full = by_pio f right full
  leaves_fis (view.Payload f) right full = by_data f full
  leaves_fis other right full = λ fine. owed

  by_admitted : (fis : Fis) (b : Bool) → IsRight k (Ok fis) → IsFull (Ok fis) → Leaves (Ok fis) (heard dev w sound (if b then Some fis else None))
  by_admitted fis true right full = leaves_fis fis right full
  by_admitted fis false right full = λ fine. cc fine

  pub owed_up : (r : Result Fis FisFault) → IsRight k r → IsFull r → (heard dev w sound (admitted dev r)).fault ≡ None
      → AreOwed (heard dev w sound (admitted dev r)).state.block (told r ++ past) (listens_up k r)
  owed_up (Err e) right full = λ fine. cc fine
  owed_up (Ok fis) right full = by_admitted fis (is_admitted dev fis) right full

-- For `rested_disks_have_done`. Of a disk, the port shows BSY only while an answer of the disk is to come, and DRQ only while a page is.
use Rattle.std.proofs.Common.{◌≡◌, ◌≢◌, ◌⊎◌, ◌==◌, ◌+◌, ◌-◌, ◌*◌, ◌/◌, ◌%◌, eqb, max, min, bit_or, bit_and, nat_lt, ℕ, ◌<◌, ◌≤◌, Bool, true, false}
use Rattle.std.proofs.Common.{List, [], ◌∷◌, ◌++◌, drop, length, length-drop, refl, sym, ap, subst, ◌∙◌, inl, inr, Option, Some, None, Ok, Err}
use Rattle.std.proofs.{Common.{Result, arith}, lemmas.{Bool.{eq-eqb, eqb-true, false≢true, ltb-false, true≢false}, Nat.Bits.{bit_at-lt, bit_at_and}}}
use Rattle.std.proofs.lemmas.Nat.Bits.{bit_at_or}
use Rattle.std.specs.{Prelude.{MatchOption, if◌then◌else◌, find, is_some, not}, Int.bit_at, Option.option_map}
use Rattle.fis_view.specs.{Bits.bits, Table.{Bits, BufferId, D2h, EStatus, Offset, Pio, SActive, Setup, Status, field, places, spelled}}
use Rattle.fis_view.specs.declared.view.{Fis.Fis, FisFault.FisFault}
use Rattle.fis_view.specs.Table as table
use Rattle.fis_view.specs.declared.view.Fis.TheVariants as view
use Rattle.fis_view.proofs.Door.{bits-lt}
use Rattle.port_errors.specs.declared.cause.DeviceCause.TheVariants as cause
use Rattle.slots.specs.{Commands.{answer_of, completed}, Data.{after_arrive, may_activate}, Setup.{dma_context, out_setup, pio_fault, pio_issue}}
use Rattle.slots.specs.{Setup.setup_fault, Slots.{DeviceSlots, Issue, holds, is_pio, match_some, own_issue, sent_pio}, Work.is_queued}
use Rattle.slots.specs.declared.{answer.SetupError.SetupError, table.Context.Context, work.Work.Work}
use Rattle.hba_fbs.specs.declared.{hearing.{Happening.Happening, Heard.Heard}, report.Wrote.Wrote, state.DeviceState.DeviceState, status.Block.Block}
use Rattle.hba_fbs.specs.{Hearing.{faulty, heard_fis, is_admitted, named, quietly, set_up, tag_of}, Status.{after_reset, is_busy, is_error}}
use Rattle.hba_fbs.specs.{Status.{wants_data, with_bits, with_file}, Taking.{admitted, heard}, Views.DeviceView}
use Rattle.hba_fbs.specs.declared.hearing.Happening.TheVariants as happening
use Rattle.hba_fbs.specs.Hearing as hear
use Rattle.disk_model.specs.{declared.request.Command.Command, Anew.IsClear, Ends.{IsRight, MovesOther, PageAsked}, Laws.ActivatesRight}
use Rattle.disk_model.specs.{Laws.{AnswersFirst, SetsUpRight, ShowsFirst, StartsOne}, Ledger.{Ledger, Moving, Names, Reply, ShowsPage, answered}}
use Rattle.disk_model.specs.Ledger.{listens_up, sends_data}
use Rattle.hba_laws.specs.Agreement.{ContextAgrees, IssueAgrees, IsTold, SetupAgrees, end_of, is_for, is_pio_issue, work_of_issue, work_of_transfer}
use Rattle.hba_laws.specs.History.{History, Setup as LastSetup, Transfer, carried, is_set_up, issued, last_setup}
use Rattle.hba_laws.specs.History as event
use Rattle.disk_simulation.specs.{Answers.IsIdle, Between.IsThere, Files.IsOfDisk, Same.{InLife, Moves, Open, ReadEnded, SlotCommand, Unsent}}
use Rattle.disk_simulation.specs.{Same.WriteEnded, Together.{InTalk, NoneQueued, Same, told}}
use Rattle.disk_simulation.proofs.Door.{not_pio, there_by}
use Rattle.world_rests.proofs.{Long.IsLong, Open.{WasIssued, was_issued}, Paged.{IsPageDue, IsPaged, asked_activate_fis, asked_bits, asked_moves}}
use Rattle.world_rests.proofs.Paged.{asked_setup_fis, page_due, paged_idle}

-- with this Status of the disk, by what happened and what FISes tell
pub record IsCalm (status : ℕ) (past : History) (k : Ledger) : Type 0 where
  pub busy : is_busy status ≡ true → k.awaited ≢ []
  pub wants : wants_data status ≡ true → IsPageDue past k

pub neither : (status : ℕ) (past : History) (k : Ledger) → is_busy status ≡ false → wants_data status ≡ false → IsCalm status past k
neither status past k idle full = record { busy = λ on. absurd (true≢false (sym on ∙ idle)); wants = λ on. absurd (true≢false (sym on ∙ full)) }

pub no_idle : {X : Type 0} (k : Ledger) (v : Moving) → IsIdle k → k.moving ≡ Some v → X
no_idle k v idle now = let bad : None ≡ Some v = sym idle.moving ∙ now in cc bad

-- ---- bits

few_bits : (a b s : ℕ) → a < 8 → b < 8 → s ≡ a + 8 * (2 * (b + 8 * 0)) → (s / 128 % 2 ≡ 0) × (s / 8 % 2 ≡ 0)
few_bits a b s la lb is = (omega (arith, la, lb, is), omega (arith, la, lb, is))

status_bits : (f : List ℕ) → (bit_at (field Bits Status f) 7 ≡ 0) × (bit_at (field Bits Status f) 3 ≡ 0)
unfolding field spelled places
status_bits f = few_bits (bits f 16 3) (bits f 20 3) (field Bits Status f) (bits-lt f 16 3) (bits-lt f 20 3) refl

one_of : (m n x y s : ℕ) → x ≡ max m s → m ≡ min n y → y ≡ 1 → s ≡ 0 → x ≡ 1 → n < 2 → n ≡ 1
one_of m n x y s both kept set none on low = omega (arith, both, kept, set, none, on, low)

kept_busy : (old s : ℕ) → bit_at s 7 ≡ 0 → is_busy (bit_or (bit_and old 0x88) s) ≡ true → is_busy old ≡ true
kept_busy old s none on =
    eq-eqb (bit_at old 7) 1 (one_of (bit_at (bit_and old 0x88) 7) (bit_at old 7) (bit_at (bit_or (bit_and old 0x88) s) 7) (bit_at 0x88 7) (bit_at s 7)
    (bit_at_or (bit_and old 0x88) s 7) (bit_at_and old 0x88 7) refl none (eqb-true (bit_at (bit_or (bit_and old 0x88) s) 7) 1 on) (bit_at-lt old 7))

kept_wants : (old s : ℕ) → bit_at s 3 ≡ 0 → wants_data (bit_or (bit_and old 0x88) s) ≡ true → wants_data old ≡ true
kept_wants old s none on =
    eq-eqb (bit_at old 3) 1 (one_of (bit_at (bit_and old 0x88) 3) (bit_at old 3) (bit_at (bit_or (bit_and old 0x88) s) 3) (bit_at 0x88 3) (bit_at s 3)
    (bit_at_or (bit_and old 0x88) s 3) (bit_at_and old 0x88 3) refl none (eqb-true (bit_at (bit_or (bit_and old 0x88) s) 3) 1 on) (bit_at-lt old 3))

or_one : (x n y : ℕ) → x ≡ max n y → y ≡ 0 → x ≡ 1 → n ≡ 1
or_one x n y both none on = omega (arith, both, none, on)

pub busied_wants : (old : ℕ) → wants_data (bit_or old 0x80) ≡ true → wants_data old ≡ true
busied_wants old on =
    eq-eqb (bit_at old 3) 1 (or_one (bit_at (bit_or old 0x80) 3) (bit_at old 3) (bit_at 0x80 3) (bit_at_or old 0x80 3) refl
    (eqb-true (bit_at (bit_or old 0x80) 3) 1 on))

-- ---- an answer

d2h_status : (own : DeviceSlots) (state : DeviceState) (f : List ℕ) (status error : ℕ) (resetting e busy : Bool)
    → (hear.signing f (if resetting then quietly (after_reset state status error) happening.Nothing
    else (if e then faulty (with_file state status error) cause.TaskFile
    else (if busy then quietly (with_file state status error) happening.Nothing else hear.answered (answer_of own)
    (with_file state status error))))).state.status ≡ status
d2h_status own state f status error true e busy = refl
d2h_status own state f status error false true busy = refl
d2h_status own state f status error false false true = refl
d2h_status own state f status error false false false = refl

pub answer_calm : (xs : List Reply) (f : List ℕ) → AnswersFirst xs f → (is_busy (field D2h Status f) ≡ false) × (wants_data (field D2h Status f) ≡ false)
answer_calm [] f answers = absurd answers
answer_calm (ShowsPage ∷ xs) f answers = absurd answers
answer_calm other f answers = (ap is_busy answers.status_is, ap wants_data answers.status_is)

page_status : (xs : List Reply) (f : List ℕ) → ShowsFirst xs f → field Pio Status f ≡ 0x58
page_status [] f shows = absurd shows
page_status (ShowsPage ∷ xs) f shows = shows.0.status_is
page_status other f shows = absurd shows

-- ---- other FISes without data

bits_status : (own : DeviceSlots) (state : DeviceState) (status error mask : ℕ) (e : Bool)
    → (if e then faulty (with_bits state status error) cause.TaskFile else named (completed mask own) (with_bits state status error) mask).state.status
    ≡ bit_or (bit_and state.status 0x88) status
bits_status own state status error mask true = refl
bits_status own state status error mask false = refl

activate_status : (state : DeviceState) (b : Bool) → (if b then quietly state happening.Activated else faulty state cause.Stray).state.status ≡ state.status
activate_status state true = refl
activate_status state false = refl

setup_status : (state : DeviceState) (h : Happening) (o : Option SetupError) → (set_up o state None h).state.status ≡ state.status
setup_status state h None = refl
setup_status state h (Some e) = refl

pio_busy : (state : DeviceState) (status error count : ℕ) (to_host : Bool) (block : Block) (e sent : Bool) (o : Option SetupError) (r : Result Context SetupError)
    → status ≡ 0x58 → block.ends ≡ 0x50
    → is_busy (if e then faulty (with_file state status error) cause.TaskFile
    else (if sent then set_up o (with_file state status error) (Some block) (happening.PioSetUp count to_host)
    else hear.heard_out (with_file state status error) block r)).state.status ≡ false
pio_busy state status error count to_host block true sent o r is ends = ap is_busy is
pio_busy state status error count to_host block false true None r is ends = ap is_busy is
pio_busy state status error count to_host block false true (Some e) r is ends = ap is_busy is
pio_busy state status error count to_host block false false o (Ok c) is ends = ap is_busy ends
pio_busy state status error count to_host block false false o (Err e) is ends = ap is_busy is

no_setup : {X : Type 0} (k : Ledger) (f : List ℕ) → k.moving ≡ None → k.outstanding ≡ [] → SetsUpRight k k.moving f → X
no_setup k f none empty right =
    let first : SetsUpRight k None f = subst (λ (v : Option Moving). SetsUpRight k v f) none right in
    absurd (subst (λ (cs : List Command). StartsOne (find (λ c. c.tag == field Setup BufferId f) cs) f) empty first)

-- ---- the setup that a context is of

record IsOfSetup (c : Context) (ends : Option ℕ) (past : History) : Type 0 where
  setup : LastSetup
  last : last_setup past ≡ Some setup
  agrees : SetupAgrees c ends past setup

of_setup : (c : Context) (ends : Option ℕ) (past : History) (o : Option LastSetup) → last_setup past ≡ o → MatchOption o ⊥ (SetupAgrees c ends past) → IsOfSetup c ends past
of_setup c ends past None is agrees = absurd agrees
of_setup c ends past (Some g) is agrees = record { setup = g; last = is; agrees = agrees }

block_by : (o : Option Block) (e : ℕ) → option_map end_of o ≡ Some e → (b : Block) × (o ≡ Some b) × (b.ends ≡ e)
block_by None e is = cc is
block_by (Some b) e is = (b, refl, cc is)

no_block : (o : Option Block) → is_some (option_map end_of o) ≡ false → o ≡ None
no_block None none = refl
no_block (Some b) none = absurd (true≢false none)

some_issue : (o : Option Issue) → is_some o ≡ true → (i : Issue) × (o ≡ Some i)
some_issue None some = absurd (false≢true some)
some_issue (Some i) some = (i, refl)

no_tags : {X : Type 0} (ahead : List ℕ) (s : ℕ) (behind : List ℕ) → [] ≡ ahead ++ s ∷ behind → X
no_tags [] s behind is = cc is
no_tags (x ∷ ahead) s behind is = cc is

-- a queued command that was set up is not idle
not_idle : {X : Type 0} (s : ℕ) (c : SlotCommand) (past : History) (k : Ledger) → InLife s c past k → IsIdle k → is_set_up s past ≡ true → X
not_idle s c past k (Unsent free quiet unset none since) idle on = absurd (true≢false (sym on ∙ unset))
not_idle s c past k (Open found unanswered other unset none since) idle on = absurd (true≢false (sym on ∙ unset))
not_idle s c past k (Moves v now is unanswered at since) idle on = no_idle k v idle now
not_idle s c past k (ReadEnded at r ended quiet is reads stands since) idle on =
    no_tags ended.unanswered.ahead s ended.unanswered.behind (sym idle.unanswered ∙ ended.unanswered.is)
not_idle s c past k (WriteEnded at w ended quiet is writes stands since) idle on =
    no_tags ended.unanswered.ahead s ended.unanswered.behind (sym idle.unanswered ∙ ended.unanswered.is)

-- the command whose data moves was set up last
other_moves : {X : Type 0} (k : Ledger) (v : Moving) → k.moving ≡ Some v → MovesOther v.command.tag k.moving → X
other_moves k v now other =
    let apart : eqb v.command.tag v.command.tag ≡ false = subst (MovesOther v.command.tag) now other in
    absurd (true≢false (sym (eq-eqb v.command.tag v.command.tag refl) ∙ apart))

set_up_last : (k : Ledger) (v : Moving) (c : SlotCommand) (past : History) → k.moving ≡ Some v → InLife v.command.tag c past k → is_set_up v.command.tag past ≡ true
set_up_last k v c past now (Unsent free quiet unset none since) = other_moves k v now free.moving
set_up_last k v c past now (Open found unanswered other unset none since) = other_moves k v now other
set_up_last k v c past now (Moves w is own unanswered at since) = at.set_up
set_up_last k v c past now (ReadEnded at r ended quiet is reads stands since) = other_moves k v now ended.moving
set_up_last k v c past now (WriteEnded at w ended quiet is writes stands since) = other_moves k v now ended.moving

module _ (v : DeviceView) (commands : ℕ → SlotCommand) (past : History) (k : Ledger) (history : IsTold v past) (same : Same commands past k) (p : IsPaged past k) where
  context_agrees : (c : Context) → v.slots.context ≡ Some c → ContextAgrees (own_issue v.slots) c (option_map end_of v.state.block) past
  context_agrees c there = history.agrees.context_agrees c there

  setup_of : (c : Context) → v.slots.context ≡ Some c → IsOfSetup c (option_map end_of v.state.block) past
  setup_of c there = of_setup c (option_map end_of v.state.block) past (last_setup past) refl (context_agrees c there).of_setup

  -- Data of a page comes only after its PIO Setup
  due_here : (c : Context) (count : ℕ) → v.slots.context ≡ Some c → 512 ≤ count → count ≤ c.left → k.pages ≢ [] → IsPageDue past k
  due_here c count there long enough some =
      let talk : InTalk past k = same.talk in
      let i = some_issue (own_issue v.slots c.slot) (context_agrees c there).of_issue in
      let w : WasIssued c.slot i.0 past = was_issued c.slot i.0 past (issued c.slot past) refl (history.issued c.slot ∙ ap (option_map work_of_issue) i.1) in
      let agrees : IssueAgrees c.slot i.0 v.slots.context past = history.agrees.issues_agree c.slot i.0 i.1 in
      let on : is_set_up c.slot past ≡ true = agrees.set_up_is ∙ ap (is_for c.slot) there ∙ eq-eqb c.slot c.slot refl in
      let g : IsOfSetup c (option_map end_of v.state.block) past = setup_of c there in
      by_kind w.transfer (is_queued w.transfer.work.kind) w.there refl on talk g
    where
      by_kind : (t : Transfer) (b : Bool) → issued c.slot past ≡ Some t → is_queued t.work.kind ≡ b → is_set_up c.slot past ≡ true → InTalk past k
          → IsOfSetup c (option_map end_of v.state.block) past → IsPageDue past k
      by_kind t true here queued on talk g = not_idle c.slot (commands c.slot) past k (same.live c.slot t here queued) (paged_idle past k talk some) on
      by_kind t false here plain on talk g = elim (p.due c.slot t here plain on) [
        | inl d ↦ d
        | inr all ↦
            let came : g.setup.count ≤ carried past = all g.setup g.last in
            let left : carried past + c.left ≡ g.setup.count = g.agrees.left_is in
            absurd (omega (arith, came, left, long, enough))
      ]

  -- there is no block while a queued command's data moves
  unblocked : (m : Moving) (c : Context) → k.moving ≡ Some m → v.slots.context ≡ Some c → v.state.block ≡ None
  unblocked m c now there = by_issue (issued m.command.tag past) refl
    where
      by_kind : (t : Transfer) (b : Bool) → issued m.command.tag past ≡ Some t → is_queued t.work.kind ≡ b → v.state.block ≡ None
      by_kind t false here plain = other_moves k m now (same.free m.command.tag (subst (λ (o : Option Transfer). NoneQueued o) (sym here) plain)).moving
      by_kind t true here queued =
          let at : IsThere v.slots m.command.tag t =
          there_by v.slots m.command.tag t (own_issue v.slots m.command.tag) refl (sym (ap (option_map work_of_transfer) here) ∙ history.issued m.command.tag) in
          let agrees : IssueAgrees m.command.tag at.issue v.slots.context past = history.agrees.issues_agree m.command.tag at.issue at.there in
          let on : is_set_up m.command.tag past ≡ true = set_up_last k m (commands m.command.tag) past now (same.live m.command.tag t here queued) in
          let slot : c.slot ≡ m.command.tag = eqb-true c.slot m.command.tag (sym (ap (is_for m.command.tag) there) ∙ sym agrees.set_up_is ∙ on) in
          let kind : is_pio at.issue.work.kind ≡ false = ap (λ (w : Work). is_pio w.kind) (sym at.work) ∙ not_pio t.work.kind queued in
          let here_is : holds is_pio_issue (own_issue v.slots c.slot) ≡ false =
          ap (λ (s : ℕ). holds is_pio_issue (own_issue v.slots s)) slot ∙ ap (holds is_pio_issue) at.there ∙ kind in
          no_block v.state.block (sym (context_agrees c there).of_kind ∙ here_is)

      by_issue : (o : Option Transfer) → issued m.command.tag past ≡ o → v.state.block ≡ None
      by_issue None here = other_moves k m now (same.free m.command.tag (subst (λ (o : Option Transfer). NoneQueued o) (sym here) tt)).moving
      by_issue (Some t) here = by_kind t (is_queued t.work.kind) here refl

  -- ---- Data

  abbrev Calms : History → Ledger → Heard → Type 0
  Calms later x h = h.fault ≡ None → IsCalm h.state.status later x

  data_if : (later : History) (x : Ledger) (a b over : Bool) (h : Heard) → (over ≡ false → Calms later x h)
      → Calms later x (if not a then faulty v.state cause.Stray else (if not b then hear.bus_failed v.state else (if over then hear.overflowed v.state else h)))
  data_if later x false b over h on = λ fine. cc fine
  data_if later x true false over h on = λ fine. cc fine
  data_if later x true true true h on = λ fine. cc fine
  data_if later x true true false h on = on refl

  abbrev wrote_at : Context → ℕ → Wrote
  wrote_at c count = record { slot = c.slot; offset = c.next; len = count }

  moves_calm : (m : Moving) (bytes : List ℕ) (c : Context) (count : ℕ) (block : Option Block) (last : Bool) → k.moving ≡ Some m → block ≡ None
      → IsCalm v.state.status past k → Calms (event.Carried bytes ∷ past) (sends_data k (Some m) bytes) (hear.heard_bytes (after_arrive v.slots count) v.state (wrote_at c count) block last)
  moves_calm m bytes c count (Some b) last now none calm = cc none
  moves_calm m bytes c count None last now none calm = λ fine. record {
    busy = λ on empty. calm.busy on (sym (asked_moves k m bytes).awaited ∙ empty);
    wants = λ on. let d : IsPageDue past k = calm.wants on in no_idle k m (paged_idle past k same.talk d.pages) now;
  }

  page_calm : (bytes : List ℕ) (x : Ledger) (c : Context) (count : ℕ) (block : Option Block) (last : Bool) (b : Block) → block ≡ Some b → b.ends ≡ 0x50 → last ≡ true
      → Calms (event.Carried bytes ∷ past) x (hear.heard_bytes (after_arrive v.slots count) v.state (wrote_at c count) block last)
  page_calm bytes x c count None last b is ends all = cc is
  page_calm bytes x c count (Some a) false b is ends all = absurd (false≢true all)
  page_calm bytes x c count (Some a) true b is ends all =
      let same_block : a ≡ b = cc is in
      let ends_is : a.ends ≡ 0x50 = ap (λ (y : Block). y.ends) same_block ∙ ends in
      λ fine. neither a.ends (event.Carried bytes ∷ past) x (ap is_busy ends_is) (ap wants_data ends_is)

  bytes_calm : (bytes : List ℕ) (c : Context) (count : ℕ) (m : Option Moving) → k.moving ≡ m → v.slots.context ≡ Some c → count ≡ length bytes → 512 ≤ length bytes → PageAsked k m
      → IsCalm v.state.status past k → nat_lt c.left count ≡ false
      → Calms (event.Carried bytes ∷ past) (sends_data k m bytes) (hear.heard_bytes (after_arrive v.slots count) v.state (wrote_at c count) v.state.block (c.left == count))
  bytes_calm bytes c count (Some m) is there size long asked calm inside =
      moves_calm m bytes c count v.state.block (c.left == count) is (unblocked m c is there) calm
  bytes_calm bytes c count None is there size long asked calm inside =
      let enough : count ≤ c.left = ltb-false c.left count inside in
      let d : IsPageDue past k = due_here c count there (omega (arith, size, long)) enough asked in
      let g : IsOfSetup c (option_map end_of v.state.block) past = setup_of c there in
      let most = d.last g.setup g.last in
      let few : g.setup.count ≤ 512 = most.0 in
      let left : carried past + c.left ≡ g.setup.count = g.agrees.left_is in
      let all : c.left ≡ count = omega (arith, few, left, enough, size, long) in
      let b = block_by v.state.block 0x50 (sym g.agrees.ends_is ∙ most.1) in
      page_calm bytes (sends_data k None bytes) c count v.state.block (c.left == count) b.0 b.1 b.2 (eq-eqb c.left count all)

  -- the page that comes is the one that is due
  page_is_due : (f : List ℕ) (sound : Bool) → 512 ≤ length (drop 4 f) → k.pages ≢ [] → (hear.heard_data v.slots v.state sound (length f - 4)).fault ≡ None → IsPageDue past k
  page_is_due f sound long some = by_context v.slots.context refl
    where
      by_tests : (c : Context) → v.slots.context ≡ Some c → (a b over : Bool) (h : Heard) → nat_lt c.left (length f - 4) ≡ over
          → (if not a then faulty v.state cause.Stray else (if not b then hear.bus_failed v.state else (if over then hear.overflowed v.state else h))).fault ≡ None → IsPageDue past k
      by_tests c there false b over h is fine = cc fine
      by_tests c there true false over h is fine = cc fine
      by_tests c there true true true h is fine = cc fine
      by_tests c there true true false h is fine =
          let size = length-drop 4 f in
          due_here c (length f - 4) there (omega (arith, size, long)) (ltb-false c.left (length f - 4) is) some

      by_context : (o : Option Context) → v.slots.context ≡ o
          → (match_some o (faulty v.state cause.Stray) (hear.heard_data_of v.slots v.state sound (length f - 4))).fault ≡ None → IsPageDue past k
      by_context None there fine = cc fine
      by_context (Some c) there fine =
          by_tests c there c.to_host sound (nat_lt c.left (length f - 4))
          (hear.heard_bytes (after_arrive v.slots (length f - 4)) v.state (wrote_at c (length f - 4)) v.state.block (c.left == (length f - 4))) refl fine

  data_calm : (f : List ℕ) (sound : Bool) (o : Option Context) → v.slots.context ≡ o → IsRight k (Ok (view.Payload f)) → 512 ≤ length (drop 4 f) → IsCalm v.state.status past k
      → Calms (event.Carried (drop 4 f) ∷ past) (listens_up k (Ok (view.Payload f))) (match_some o (faulty v.state cause.Stray) (hear.heard_data_of v.slots v.state sound (length f - 4)))
  data_calm f sound None there right long calm = λ fine. cc fine
  data_calm f sound (Some c) there right long calm =
      let size : length f - 4 ≡ length (drop 4 f) = sym (length-drop 4 f) in
      data_if (event.Carried (drop 4 f) ∷ past) (listens_up k (Ok (view.Payload f))) c.to_host sound (nat_lt c.left (length f - 4))
      (hear.heard_bytes (after_arrive v.slots (length f - 4)) v.state (wrote_at c (length f - 4)) v.state.block (c.left == (length f - 4)))
      (λ inside. bytes_calm (drop 4 f) c (length f - 4) k.moving refl there size long right.asked calm inside)

  -- ---- each FIS in which the port finds no fault

  -- before the first FIS since both began anew nothing is set up, and BSY and DRQ may be as they were
  abbrev pub WasCalm : Type 0
  WasCalm = (IsClear k × (v.slots.context ≡ None)) ⊎ IsCalm v.state.status past k

  calm_d2h : (f : List ℕ) (sound : Bool) (later : History) (x : Ledger) → IsRight k (Ok (view.RegD2H f)) → IsCalm (heard_fis v.slots v.state sound (view.RegD2H f)).state.status later x
  unfolding heard_fis
  calm_d2h f sound later x right =
      let is = d2h_status v.slots v.state f (field D2h Status f) (field D2h table.Error f) v.state.resetting (is_error (field D2h Status f)) (is_busy (field D2h Status f)) in
      let calm = answer_calm k.awaited f right.replies in
      neither _ later x (ap is_busy is ∙ calm.0) (ap wants_data is ∙ calm.1)

  calm_bits : (f : List ℕ) (sound : Bool) → IsRight k (Ok (view.SetBits f)) → WasCalm
      → IsCalm (heard_fis v.slots v.state sound (view.SetBits f)).state.status (event.Named (field Bits SActive f) ∷ past) (listens_up k (Ok (view.SetBits f)))
  unfolding heard_fis
  calm_bits f sound right (inl clear) = absurd (subst (λ (tags : List ℕ). Names tags (field Bits SActive f)) clear.0.unanswered (right.answers right.fine))
  calm_bits f sound right (inr calm) =
      let is = bits_status v.slots v.state (field Bits Status f) (field Bits table.Error f) (field Bits SActive f) (is_error (field Bits Status f)) in
      let none = status_bits f in
      record {
        busy = λ on empty. calm.busy (kept_busy v.state.status (field Bits Status f) none.0 (sym (ap is_busy is) ∙ on)) (sym (asked_bits k f right).awaited ∙ empty);
        wants = λ on.
            let d : IsPageDue past k = calm.wants (kept_wants v.state.status (field Bits Status f) none.1 (sym (ap wants_data is) ∙ on)) in
            let idle : IsIdle k = paged_idle past k same.talk d.pages in
            absurd (subst (λ (tags : List ℕ). Names tags (field Bits SActive f)) idle.unanswered (right.answers right.fine));
      }

  calm_activate : (f : List ℕ) (sound : Bool) → IsRight k (Ok (view.DmaActivate f)) → WasCalm
      → IsCalm (heard_fis v.slots v.state sound (view.DmaActivate f)).state.status past (listens_up k (Ok (view.DmaActivate f)))
  unfolding heard_fis
  calm_activate f sound right (inl clear) = absurd (subst ActivatesRight clear.0.moving right.moves)
  calm_activate f sound right (inr calm) =
      let is = activate_status v.state (may_activate v.slots.context) in
      record {
        busy = λ on empty. calm.busy (sym (ap is_busy is) ∙ on) (sym (asked_activate_fis k f).awaited ∙ empty);
        wants = λ on.
            let d : IsPageDue past k = calm.wants (sym (ap wants_data is) ∙ on) in
            absurd (subst ActivatesRight (paged_idle past k same.talk d.pages).moving right.moves);
      }

  calm_setup : (f : List ℕ) (sound : Bool) → IsRight k (Ok (view.DmaSetup f)) → WasCalm → (later : History)
      → IsCalm (heard_fis v.slots v.state sound (view.DmaSetup f)).state.status later (listens_up k (Ok (view.DmaSetup f)))
  unfolding heard_fis
  calm_setup f sound right (inl clear) later = no_setup k f clear.0.moving clear.0.outstanding right.moves
  calm_setup f sound right (inr calm) later =
      let is =
      setup_status v.state (happening.SetUp (dma_context (tag_of f) (field Setup Offset f) (field Setup table.Count f) (field Setup table.D f == 1) (field Setup table.A f == 1)))
      (setup_fault (own_issue v.slots (tag_of f)) (field Setup Offset f) (field Setup table.Count f) (field Setup table.D f == 1)) in
      record {
        busy = λ on empty. calm.busy (sym (ap is_busy is) ∙ on) (sym (asked_setup_fis k f).awaited ∙ empty);
        wants = λ on.
            let d : IsPageDue past k = calm.wants (sym (ap wants_data is) ∙ on) in
            let idle : IsIdle k = paged_idle past k same.talk d.pages in
            no_setup k f idle.moving idle.outstanding right.moves;
      }

  calm_pio : (f : List ℕ) (sound : Bool) → IsRight k (Ok (view.PioSetup f)) → field Pio EStatus f ≡ 0x50
      → IsCalm (heard_fis v.slots v.state sound (view.PioSetup f)).state.status
      (event.PioSetUp (field Pio table.Transfer f) (field Pio table.D f == 1) (field Pio EStatus f) ∷ past) (answered k)
  unfolding heard_fis
  calm_pio f sound right ends =
      let none =
      pio_busy v.state (field Pio Status f) (field Pio table.Error f) (field Pio table.Transfer f) (field Pio table.D f == 1) (hear.block_of f)
      (is_error (field Pio Status f)) (is_some (sent_pio v.slots)) (pio_fault (pio_issue v.slots) (field Pio table.Transfer f) (field Pio table.D f == 1))
      (out_setup v.slots (field Pio table.Transfer f) (field Pio table.D f == 1)) (page_status k.awaited f right.replies) ends in
      record { busy = λ on. absurd (true≢false (sym on ∙ none)); wants = λ on. page_due past k same.talk p f right.replies ends }

  calm_payload : (f : List ℕ) (sound : Bool) → IsRight k (Ok (view.Payload f)) → 512 ≤ length (drop 4 f) → WasCalm
      → Calms (event.Carried (drop 4 f) ∷ past) (listens_up k (Ok (view.Payload f))) (heard_fis v.slots v.state sound (view.Payload f))
  unfolding heard_fis
  calm_payload f sound right long (inl clear) =
      subst (λ (o : Option Context). Calms (event.Carried (drop 4 f) ∷ past) (listens_up k (Ok (view.Payload f)))
      (match_some o (faulty v.state cause.Stray) (hear.heard_data_of v.slots v.state sound (length f - 4)))) (sym clear.1) (λ fine. cc fine)
  calm_payload f sound right long (inr calm) = data_calm f sound v.slots.context refl right long calm

  calm_fis : (fis : Fis) (sound : Bool) → IsRight k (Ok fis) → IsOfDisk (Ok fis) → IsLong (Ok fis) → WasCalm → Calms (told (Ok fis) ++ past) (listens_up k (Ok fis)) (heard_fis v.slots v.state sound fis)
  calm_fis (view.RegD2H f) sound right mine long was = λ fine. calm_d2h f sound (event.Answered ∷ past) (answered k) right
  calm_fis (view.SetBits f) sound right mine long was = λ fine. calm_bits f sound right was
  calm_fis (view.DmaActivate f) sound right mine long was = λ fine. calm_activate f sound right was
  calm_fis (view.DmaSetup f) sound right mine long was = λ fine. calm_setup f sound right was _
  calm_fis (view.PioSetup f) sound right mine long was = λ fine. calm_pio f sound right mine
  calm_fis (view.Payload f) sound right mine long was = calm_payload f sound right long was
  calm_fis other sound right mine long was = absurd mine

  by_admitted : (dev : ℕ) (fis : Fis) (sound b : Bool) → IsRight k (Ok fis) → IsOfDisk (Ok fis) → IsLong (Ok fis) → WasCalm
      → Calms (told (Ok fis) ++ past) (listens_up k (Ok fis)) (heard dev v sound (if b then Some fis else None))
  by_admitted dev fis sound true right mine long was = calm_fis fis sound right mine long was
  by_admitted dev fis sound false right mine long was = λ fine. cc fine

  pub calm_up : (dev : ℕ) (sound : Bool) (r : Result Fis FisFault) → IsRight k r → IsOfDisk r → IsLong r → WasCalm → (heard dev v sound (admitted dev r)).fault ≡ None
      → IsCalm (heard dev v sound (admitted dev r)).state.status (told r ++ past) (listens_up k r)
  calm_up dev sound (Ok fis) right mine long was = by_admitted dev fis sound (is_admitted dev fis) right mine long was
  calm_up dev sound (Err e) right mine long was = absurd mine

  due_admitted : (dev : ℕ) (f : List ℕ) (sound b : Bool) → 512 ≤ length (drop 4 f) → k.pages ≢ [] → (heard dev v sound (if b then Some (view.Payload f) else None)).fault ≡ None → IsPageDue past k
  unfolding heard_fis
  due_admitted dev f sound true long some fine = page_is_due f sound long some fine
  due_admitted dev f sound false long some fine = cc fine

  -- a page that comes is the one that is due
  pub due_up : (dev : ℕ) (sound : Bool) (r : Result Fis FisFault) → IsRight k r → IsLong r → (heard dev v sound (admitted dev r)).fault ≡ None
      → (f : List ℕ) → r ≡ Ok (view.Payload f) → k.moving ≡ None → IsPageDue past k
  due_up dev sound r right long fine f is none =
      let its : IsRight k (Ok (view.Payload f)) = subst (IsRight k) is right in
      let some : k.pages ≢ [] = subst (PageAsked k) none its.asked in
      due_admitted dev f sound (is_admitted dev (view.Payload f)) (subst IsLong is long) some (subst (λ (x : Result Fis FisFault). (heard dev v sound (admitted dev x)).fault ≡ None) is fine)

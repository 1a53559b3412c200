-- For `port_and_ledger_stay_joined`. The host port, a device's history and the ledger go on to agree at each FIS that
-- the port hears or gives.
use Rattle.std.proofs.Common.{◌≡◌, ◌==◌, eqb, ℕ, ◌+◌, ◌-◌, ◌<◌, Bool, true, false, List, ◌++◌, drop, get_or, length, set, refl, sym, ap, subst, ◌∙◌, inl, inr, Option, Some, None, Ok, Err, Result, arith, get_or-set_same, get_or-set_other}
use Rattle.std.specs.{Prelude.{MatchOption, is_ok, is_some, not, nat_lt, if◌then◌else◌}, Option.option_map}
use Rattle.std.proofs.lemmas.{Bool.{cases_eq, cases_lt, eq-eqb, eqb-true, true≢false}, List.{get_or_past, length-set}}
use Rattle.fis_view.specs.{Table.{Setup, field}, Seen.seen, declared.{view.Fis.Fis, view.FisFault.FisFault}}
use Rattle.fis_view.specs.Table as table
use Rattle.fis_view.specs.declared.view.Fis.TheVariants as view
use Rattle.port_errors.specs.declared.cause.DeviceCause.TheVariants as cause
use Rattle.slots.specs.Commands.{answer_of, answered_as, answered_issue, completed, is_done, is_slot, whole_pio, with_answered}
use Rattle.slots.specs.Data.{activated, after_activate, after_arrive, arrive_answer, gone_over, may_activate, moved_on, moved_over}
use Rattle.slots.specs.Setup.{after_setup_pio, came, dma_context, new_context, out_setup, pio_fault, pio_issue, setup_fault, with_own_context}
use Rattle.slots.specs.{Slots.{DeviceSlots, Issue, context_unless, freed, match_some, own_issue, sent_pio}, Work.is_queued}
use Rattle.slots.specs.declared.{answer.Answered.Answered, answer.SetupError.SetupError, table.Context.Context}
use Rattle.slots.specs.declared.answer.Answered.TheVariants as answer
use Rattle.hba_fbs.specs.declared.{hearing.Happening.Happening, hearing.Heard.Heard, report.Wrote.Wrote, state.DeviceState.DeviceState}
use Rattle.hba_fbs.specs.declared.status.Block.{Block}
use Rattle.hba_fbs.specs.Hearing.{block_ended, bus_failed, faulty, heard_bad, heard_bytes, heard_data, heard_data_of, heard_fis, is_admitted, moved}
use Rattle.hba_fbs.specs.{Hearing.{named, overflowed, quietly, set_up, tag_of}, Status.{after_reset, is_busy, is_error, with_bits, with_file}}
use Rattle.hba_fbs.specs.{Tables.is_sound, Taking.{admitted, heard, heard_now, ignores, port_of}, Views.{DeviceView, view_of}}
use Rattle.hba_fbs.specs.declared.hearing.Happening.TheVariants as happening
use Rattle.hba_fbs.specs.Hearing as hear
use Rattle.disk_model.specs.{Ends.{IsFree, IsRight, MovesOther}, Laws.{ActivatesRight, AsksOnce, CarriesNext, CarriesRight, SetsUpRight, bytes_named}}
use Rattle.disk_model.specs.Ledger.{Ledger, Moving, activates, answered, is_auto, listens_up, sets_up, with_auto}
use Rattle.disk_model.proofs.Door.{bits_up, write_of_auto}
use Rattle.hba_laws.specs.{Agreement.{ContextAgrees, IsHistoryOf, IsTold, end_of, IssueAgrees, SetupAgrees, is_for, work_of_transfer}, Client.own}
use Rattle.hba_laws.specs.{History.{History, Transfer, carried, issued, last_setup, unless}, Hosts.{TakesFrame, Took}, Between.IsOwn}
use Rattle.hba_laws.specs.History as event
use Rattle.hba_laws.proofs.Door.{is_own, own_freed, step, unless_some}
use Rattle.disk_simulation.specs.{Same.{InLife, IsMovingAt, SlotCommand}, Together.{NoneQueued, Same, is_sent, told}, Heard.IsToldSo}
use Rattle.disk_simulation.specs.{Joined.{IsAskedBy, JoinsFrames}, Between.IsThere}
use Rattle.disk_simulation.proofs.{joined.HeardLemmas.{heard_as_told, heard_if, setup_tag, there_by}, events.MoveLemmas.own_life}
use Rattle.disk_simulation.proofs.{joined.ShortLemmas.short_up, together.TogetherLemmas.{same_goes_on, set_up_now}}
use Rattle.disk_simulation.proofs.joined.OutLemmas.{IsRefused, pio_up, refuses_up}

-- ## What was sent stays so

-- what is issued was issued before, and was sent where it is
pub record WasSent (old : DeviceSlots) (s : ℕ) (i : Issue) : Type 0 where
  pub before : Issue
  pub there : own_issue old s ≡ Some before
  pub sent : before.sent ≡ i.sent

abbrev pub KeepsSent : DeviceSlots → DeviceSlots → Type 0
KeepsSent old new = (s : ℕ) (i : Issue) → own_issue new s ≡ Some i → WasSent old s i

stays_sent : (own : DeviceSlots) → KeepsSent own own
stays_sent own s i there = record { before = i; there = there; sent = refl }

still_sent : (old mid new : DeviceSlots) → KeepsSent old mid → KeepsSent mid new → KeepsSent old new
still_sent old mid new first second s i there =
    let later : WasSent mid s i = second s i there in
    let before : WasSent old s later.before = first s later.before later.there in
    record { before = before.before; there = before.there; sent = before.sent ∙ later.sent }

freed_sent : (F : ℕ → Bool) (own : DeviceSlots) → KeepsSent own (freed F own)
freed_sent F own s i there =
    let free : unless (F s) (own_issue own s) ≡ Some i = sym (ap (λ (f : ℕ → Option Issue). f s) (own_freed F own)) ∙ there in
    record { before = i; there = (unless_some (F s) (own_issue own s) i free).1; sent = refl }

changed_by : (own : DeviceSlots) (s : ℕ) (i : Issue) (f : Issue → Issue) → ((j : Issue) → (f j).sent ≡ j.sent) → (o : Option Issue)
    → own_issue own s ≡ o → option_map f o ≡ Some i → WasSent own s i
changed_by own s i f keeps None is there = cc there
changed_by own s i f keeps (Some j) is there = let same : f j ≡ i = cc there in record {
  before = j;
  there = is;
  sent = sym (keeps j)
      ∙ ap (λ (x : Issue). x.sent) same;
}

-- a change of one slot's issue that leaves whether it was sent
pub set_sent : (own new : DeviceSlots) (slot : ℕ) (f : Issue → Issue) → ((j : Issue) → (f j).sent ≡ j.sent)
    → new.issues ≡ set own.issues slot (option_map f (own_issue own slot)) → KeepsSent own new
set_sent own new slot f keeps is s i there = elim (cases_eq s slot) [
  | inl same ↦ elim (cases_lt slot (length own.issues)) [
    | inl lt ↦
        let at : own_issue new s ≡ option_map f (own_issue own slot) =
        ap (λ (n : ℕ). own_issue new n) same ∙ ap (λ (xs : List (Option Issue)). get_or xs slot None) is
        ∙ get_or-set_same own.issues slot (option_map f (own_issue own slot)) None lt in
        changed_by own s i f keeps (own_issue own slot) (ap (own_issue own) same) (sym at ∙ there)
    | inr past ↦
        let long = length-set own.issues slot (option_map f (own_issue own slot)) in
        let at : own_issue new s ≡ None =
        ap (λ (n : ℕ). own_issue new n) same ∙ ap (λ (xs : List (Option Issue)). get_or xs slot None) is
        ∙ get_or_past (set own.issues slot (option_map f (own_issue own slot))) slot None (omega (arith, long, past)) in
        cc (sym at ∙ there)
  ]
  | inr other ↦
      let at : own_issue new s ≡ own_issue own s =
      ap (λ (xs : List (Option Issue)). get_or xs s None) is ∙ get_or-set_other own.issues slot s (option_map f (own_issue own slot)) None other in
      record { before = i; there = sym at ∙ there; sent = refl }
]

same_issues : (own new : DeviceSlots) → new.issues ≡ own.issues → KeepsSent own new
same_issues own new is s i there = record { before = i; there = sym (ap (λ (xs : List (Option Issue)). get_or xs s None) is) ∙ there; sent = refl }

arrives_sent : (own : DeviceSlots) (n : ℕ) (o : Option Context) (c : Context) (b : Bool) → KeepsSent own (if b then gone_over n c own else own)
arrives_sent own n o c true = set_sent own (gone_over n c own) c.slot (moved_over c.next n) (λ j. refl) refl
arrives_sent own n o c false = stays_sent own

arrived_sent : (own : DeviceSlots) (n : ℕ) (o answered_o : Option Context)
    → KeepsSent own (match_some o own (λ c. if is_ok (arrive_answer answered_o n) then gone_over n c own else own))
arrived_sent own n None answered_o = stays_sent own
arrived_sent own n (Some c) answered_o = arrives_sent own n answered_o c (is_ok (arrive_answer answered_o n))

pio_done_sent : (own : DeviceSlots) (o : Option ℕ) → KeepsSent own (match_some o own (λ slot. freed (is_slot slot) own))
pio_done_sent own None = stays_sent own
pio_done_sent own (Some slot) = freed_sent (is_slot slot) own

block_sent : (own : DeviceSlots) (finishes : Bool) → KeepsSent own (block_ended finishes own)
block_sent own true = pio_done_sent own (whole_pio own)
block_sent own false = stays_sent own

pio_issues : (own : DeviceSlots) (count : ℕ) (to_host b : Bool) (slot : Option ℕ)
    → (if b then own else match_some slot own
    (λ s. match_some (own_issue own s) own (λ issue. with_own_context own (new_context s (came issue) count to_host)))).issues ≡ own.issues
pio_issues own count to_host true slot = refl
pio_issues own count to_host false None = refl
pio_issues own count to_host false (Some s) = by_issue (own_issue own s)
  where
    by_issue : (o : Option Issue) → (match_some o own (λ issue. with_own_context own (new_context s (came issue) count to_host))).issues ≡ own.issues
    by_issue None = refl
    by_issue (Some issue) = refl

activated_issues : (own : DeviceSlots) (b : Bool) → (if b then record own { context = option_map activated own.context } else own).issues ≡ own.issues
activated_issues own true = refl
activated_issues own false = refl

answer_sent : (own : DeviceSlots) (a : Answered) → KeepsSent own (answered_as a own)
answer_sent own (answer.Queued slot) = set_sent own (with_answered own slot) slot answered_issue (λ j. refl) refl
answer_sent own (answer.Done slot) = freed_sent (is_slot slot) own
answer_sent own other = stays_sent own

moved_sent : (own : DeviceSlots) (h : Happening) → KeepsSent own (moved h own)
moved_sent own happening.Nothing = stays_sent own
moved_sent own (happening.Answered a) = answer_sent own a
moved_sent own (happening.Named mask) = freed_sent (is_done mask own) own
moved_sent own (happening.SetUp c) = same_issues own (with_own_context own c) refl
moved_sent own (happening.PioSetUp count to_host) =
    same_issues own (after_setup_pio own count to_host)
    (pio_issues own count to_host (is_some (pio_fault (pio_issue own) count to_host)) (sent_pio own))
moved_sent own happening.Activated = same_issues own (after_activate own) (activated_issues own (may_activate own.context))
moved_sent own (happening.Carried wrote finishes) =
    still_sent own (after_arrive own wrote.len) (block_ended finishes (after_arrive own wrote.len))
    (arrived_sent own wrote.len own.context own.context) (block_sent (after_arrive own wrote.len) finishes)

told_sent : (s : ℕ) (r : Result Fis FisFault) (past : History) → is_sent s (told r ++ past) ≡ is_sent s past
told_sent s (Ok (view.RegH2D f)) past = refl
told_sent s other past = refl

-- ## What was asked for

-- the happening asks for no data
abbrev NotActivated : Happening → Type 0
NotActivated (happening.SetUp c) = c.activated ≡ false
NotActivated happening.Activated = ⊥
NotActivated other = Unit {0}

-- an activated context is the one from before
abbrev Before : DeviceSlots → DeviceSlots → Type 0
Before old new = (c : Context) → new.context ≡ Some c → c.activated ≡ true → old.context ≡ Some c

pub inactive : {X : Type 0} (a c : Context) → Some a ≡ Some c → a.activated ≡ false → c.activated ≡ true → X
inactive a c same unset set =
    let is : a ≡ c = cc same in
    absurd (true≢false (sym set ∙ subst (λ (x : Context). x.activated ≡ false) is unset))

unless_before : (F : ℕ → Bool) (o : Option Context) (c : Context) → context_unless F o ≡ Some c → o ≡ Some c
unless_before F None c e = e
unless_before F (Some a) c e = by_test (F a.slot) e
  where
    by_test : (b : Bool) → (if b then None else Some a) ≡ Some c → Some a ≡ Some c
    by_test true e = cc e
    by_test false e = e

freed_before : (F : ℕ → Bool) (own : DeviceSlots) → Before own (freed F own)
freed_before F own c now set = unless_before F own.context c now

answer_before : (own : DeviceSlots) (a : Answered) → Before own (answered_as a own)
answer_before own (answer.Done slot) c now set = freed_before (is_slot slot) own c now set
answer_before own other c now set = now

pio_before : (own : DeviceSlots) (count : ℕ) (to_host b : Bool) (slot : Option ℕ)
    → Before own (if b then own else match_some slot own
    (λ s. match_some (own_issue own s) own (λ issue. with_own_context own (new_context s (came issue) count to_host))))
pio_before own count to_host true slot c now set = now
pio_before own count to_host false None c now set = now
pio_before own count to_host false (Some s) c now set = by_issue (own_issue own s) now
  where
    by_issue : (o : Option Issue) → (match_some o own (λ issue. with_own_context own (new_context s (came issue) count to_host))).context ≡ Some c
        → own.context ≡ Some c
    by_issue None e = e
    by_issue (Some issue) e = inactive (new_context s (came issue) count to_host) c e refl set

gone_before : (own : DeviceSlots) (n : ℕ) (a : Context) (b : Bool) → Before own (if b then gone_over n a own else own)
gone_before own n a true c now set = inactive (moved_on n a) c now refl set
gone_before own n a false c now set = now

arrived_before : (own : DeviceSlots) (n : ℕ) (o answered_o : Option Context)
    → Before own (match_some o own (λ c. if is_ok (arrive_answer answered_o n) then gone_over n c own else own))
arrived_before own n None answered_o c now set = now
arrived_before own n (Some a) answered_o c now set = gone_before own n a (is_ok (arrive_answer answered_o n)) c now set

pio_done_before : (own : DeviceSlots) (o : Option ℕ) → Before own (match_some o own (λ slot. freed (is_slot slot) own))
pio_done_before own None c now set = now
pio_done_before own (Some slot) c now set = freed_before (is_slot slot) own c now set

block_before : (own : DeviceSlots) (finishes : Bool) → Before own (block_ended finishes own)
block_before own true c now set = pio_done_before own (whole_pio own) c now set
block_before own false c now set = now

moved_before : (own : DeviceSlots) (h : Happening) → NotActivated h → Before own (moved h own)
moved_before own happening.Nothing quiet c now set = now
moved_before own (happening.Answered a) quiet c now set = answer_before own a c now set
moved_before own (happening.Named mask) quiet c now set = freed_before (is_done mask own) own c now set
moved_before own (happening.SetUp a) quiet c now set = inactive a c now quiet set
moved_before own (happening.PioSetUp count to_host) quiet c now set =
    pio_before own count to_host (is_some (pio_fault (pio_issue own) count to_host)) (sent_pio own) c now set
moved_before own happening.Activated quiet c now set = absurd quiet
moved_before own (happening.Carried wrote finishes) quiet c now set =
    arrived_before own wrote.len own.context own.context c (block_before (after_arrive own wrote.len) finishes c now set) set

-- ---- a FIS that is no DMA Activate, nor a DMA Setup with auto-activate, asks for none

-- the happening sets up, names and asks for no tag
abbrev pub NamesNoTag : Happening → Type 0
NamesNoTag (happening.SetUp c) = ⊥
NamesNoTag happening.Activated = ⊥
NamesNoTag (happening.Named mask) = ⊥
NamesNoTag other = Unit {0}

asks_none : (h : Happening) → NamesNoTag h → NotActivated h
asks_none (happening.SetUp c) plain = absurd plain
asks_none happening.Activated plain = absurd plain
asks_none other plain = tt

pub quiet_register : (own : DeviceSlots) (state : DeviceState) (status error : ℕ) (resetting e busy : Bool)
    → NamesNoTag (if resetting then quietly (after_reset state status error) happening.Nothing
    else (if e then faulty (with_file state status error) cause.TaskFile
    else (if busy then quietly (with_file state status error) happening.Nothing else hear.answered (answer_of own)
    (with_file state status error)))).happening
quiet_register own state status error true e busy = tt
quiet_register own state status error false true busy = tt
quiet_register own state status error false false true = tt
quiet_register own state status error false false false = tt

quiet_bits : (own : DeviceSlots) (state : DeviceState) (status error mask : ℕ) (e : Bool)
    → NotActivated (if e then faulty (with_bits state status error) cause.TaskFile else named (completed mask own)
    (with_bits state status error) mask).happening
quiet_bits own state status error mask true = tt
quiet_bits own state status error mask false = tt

quiet_pio : (state : DeviceState) (status error count : ℕ) (to_host : Bool) (block : Block) (e sent : Bool) (o : Option SetupError)
    (r : Result Context SetupError) → IsRefused r
    → NamesNoTag (if e then faulty (with_file state status error) cause.TaskFile else (if sent then set_up o (with_file state status error) (Some block)
    (happening.PioSetUp count to_host) else hear.heard_out (with_file state status error) block r)).happening
quiet_pio state status error count to_host block true sent o r refuses = tt
quiet_pio state status error count to_host block false true None r refuses = tt
quiet_pio state status error count to_host block false true (Some e) r refuses = tt
quiet_pio state status error count to_host block false false o r refuses =
    subst (λ (x : Result Context SetupError). NamesNoTag (hear.heard_out (with_file state status error) block x).happening) (sym refuses.is) tt

quiet_bytes : (own : DeviceSlots) (state : DeviceState) (wrote : Wrote) (block : Option Block) (last : Bool)
    → NamesNoTag (heard_bytes own state wrote block last).happening
quiet_bytes own state wrote None last = tt
quiet_bytes own state wrote (Some block) true = tt
quiet_bytes own state wrote (Some block) false = tt

quiet_data_of : (after : DeviceSlots) (state : DeviceState) (wrote : Wrote) (to_host sound over last : Bool)
    → NamesNoTag (if not to_host then faulty state cause.Stray else
    (if not sound then bus_failed state else (if over then overflowed state else heard_bytes after state wrote state.block last))).happening
quiet_data_of after state wrote false sound over last = tt
quiet_data_of after state wrote true false over last = tt
quiet_data_of after state wrote true true true last = tt
quiet_data_of after state wrote true true false last = quiet_bytes after state wrote state.block last

pub quiet_data : (own : DeviceSlots) (state : DeviceState) (sound : Bool) (count : ℕ) (o : Option Context)
    → NamesNoTag (match_some o (faulty state cause.Stray) (heard_data_of own state sound count)).happening
quiet_data own state sound count None = tt
quiet_data own state sound count (Some c) =
    quiet_data_of (after_arrive own count) state (record { slot = c.slot; offset = c.next; len = count }) c.to_host sound (nat_lt c.left count)
    (c.left == count)

-- ---- and leaves what the ledger has of it

pub asked_same : (c : Context) (k x : Ledger) → x.moving ≡ k.moving → IsAskedBy c k → IsAskedBy c x
asked_same c k x same a = record { current = a.current; moving = same ∙ a.moving; tag = a.tag; writes = a.writes; asked = a.asked; left = a.left }

-- a disk sends neither DMA Setup nor DMA Activate nor Data while a write waits for Data
module _ (c : Context) (k : Ledger) (a : IsAskedBy c k) where
  no_setup : (f : List ℕ) → IsRight k (Ok (view.DmaSetup f)) → ⊥
  no_setup f right =
      let current : Moving = a.current in
      let next : SetsUpRight k (Some current) f = subst (λ (m : Option Moving). SetsUpRight k m f) a.moving right.moves in
      true≢false (sym a.asked ∙ next.0)

  no_activate : (f : List ℕ) → IsRight k (Ok (view.DmaActivate f)) → ⊥
  no_activate f right =
      let current : Moving = a.current in
      let once : AsksOnce current = subst ActivatesRight a.moving right.moves in
      true≢false (sym a.asked ∙ once.once)

  no_data : (f : List ℕ) → IsRight k (Ok (view.Payload f)) → ⊥
  no_data f right =
      let current : Moving = a.current in
      let carries : CarriesNext current (drop 4 f) = subst (λ (m : Option Moving). CarriesRight m (drop 4 f)) a.moving right.moves in
      true≢false (sym a.writes ∙ carries.reads)

  asked_up : (r : Result Fis FisFault) → IsRight k r → IsAskedBy c (listens_up k r)
  asked_up (Ok (view.RegD2H f)) right = asked_same c k (answered k) refl a
  asked_up (Ok (view.SetBits f)) right =
      asked_same c k (listens_up k (Ok (view.SetBits f))) (ap (λ (x : Ledger). x.moving) (bits_up k f right.fine)) a
  asked_up (Ok (view.DmaActivate f)) right = absurd (no_activate f right)
  asked_up (Ok (view.DmaSetup f)) right = absurd (no_setup f right)
  asked_up (Ok (view.PioSetup f)) right = asked_same c k (answered k) refl a
  asked_up (Ok (view.Payload f)) right = absurd (no_data f right)
  asked_up other right = a

-- ---- a DMA Activate

-- the data of a slot moves: its command is issued and queued
record IsLiving (s : ℕ) (v : Moving) (past : History) (k : Ledger) : Type 0 where
  transfer : Transfer
  there : issued s past ≡ Some transfer
  at : IsMovingAt s v past

queued_or : (t : Transfer) (b : Bool) → is_queued t.work.kind ≡ b → (NoneQueued (Some t) → ⊥) → is_queued t.work.kind ≡ true
queued_or t true is some = is
queued_or t false is some = absurd (some is)

living_by : (commands : ℕ → SlotCommand) (past : History) (k : Ledger) (v : Moving) → Same commands past k → k.moving ≡ Some v → (o : Option Transfer)
    → issued v.command.tag past ≡ o → (NoneQueued o → ⊥) → IsLiving v.command.tag v past k
living_by commands past k v same moving None here some = absurd (some tt)
living_by commands past k v same moving (Some t) here some =
    let s = v.command.tag in
    let queued : is_queued t.work.kind ≡ true = queued_or t (is_queued t.work.kind) refl some in
    let life : InLife v.command.tag (commands v.command.tag) past k = same.live v.command.tag t here queued in
    let own = own_life v.command.tag (commands v.command.tag) v past k moving refl life in
    record { transfer = t; there = here; at = own.at }

living : (commands : ℕ → SlotCommand) (past : History) (k : Ledger) (v : Moving) → Same commands past k → k.moving ≡ Some v
    → IsLiving v.command.tag v past k
living commands past k v same moving =
    living_by commands past k v same moving (issued v.command.tag past) refl (λ none.
    let free : IsFree k v.command.tag = same.free v.command.tag none in
    let other : eqb v.command.tag v.command.tag ≡ false = subst (MovesOther v.command.tag) moving free.moving in
    true≢false (sym (eq-eqb v.command.tag v.command.tag refl) ∙ other))

setup_of : (c : Context) (ends : Option ℕ) (past : History) (o : Option event.Setup) (g : event.Setup) → o ≡ Some g
    → MatchOption o ⊥ (SetupAgrees c ends past) → SetupAgrees c ends past g
setup_of c ends past None g is agrees = absurd agrees
setup_of c ends past (Some h) g is agrees = let same : h ≡ g = cc is in subst (SetupAgrees c ends past) same agrees

zero_left : (carried_count left count moved all : ℕ) → carried_count + left ≡ count → moved + count ≡ all → moved ≡ all → left ≡ count
zero_left carried_count left count moved all gone in_turn done = omega arith

asks_now : (commands : ℕ → SlotCommand) (v : DeviceView) (past : History) (k : Ledger) (current : Moving) (c : Context) → IsTold v past
    → Same commands past k → k.moving ≡ Some current → AsksOnce current → v.slots.context ≡ Some c
    → IsAskedBy (activated c) (activates k k.moving)
asks_now commands v past k current c history same moving once now =
    let l : IsLiving current.command.tag current past k = living commands past k current same moving in
    let at : IsMovingAt current.command.tag current past = l.at in
    let there : IsThere v.slots current.command.tag l.transfer =
    there_by v.slots current.command.tag l.transfer (own_issue v.slots current.command.tag) refl (sym (ap (option_map work_of_transfer) l.there)
    ∙ history.issued current.command.tag) in
    let agrees : IssueAgrees current.command.tag there.issue v.slots.context past =
    history.agrees.issues_agree current.command.tag there.issue there.there in
    let for_it : eqb c.slot current.command.tag ≡ true = sym (ap (is_for current.command.tag) now) ∙ sym agrees.set_up_is ∙ at.set_up in
    let context : ContextAgrees (own_issue v.slots) c (option_map end_of v.state.block) past = history.agrees.context_agrees c now in
    let g = at.names in
    let setup = setup_of c (option_map end_of v.state.block) past (last_setup past) g.setup g.last context.of_setup in
    let gone : carried past + c.left ≡ current.count = setup.left_is ∙ g.count in
    let in_turn = once.in_turn in
    record {
      current = record current { active = true };
      moving = ap (λ (m : Option Moving). (activates k m).moving) moving;
      tag = sym (eqb-true c.slot current.command.tag for_it);
      writes = once.writes;
      asked = refl;
      left = elim at.fresh [
        | inl none ↦ omega (arith, gone, none)
        | inr done ↦ zero_left (carried past) c.left current.count current.moved (bytes_named current.setups) gone in_turn done
      ];
    }

-- ## A FIS comes

-- the data of a write, for which its DMA Setup asks by auto-activate
auto_asks : (c : Context) (x : Ledger) (w : Moving) → x.moving ≡ Some w → w.command.tag ≡ c.slot → w.command.write ≡ true
    → c.left ≡ w.count → IsAskedBy c (with_auto true x)
auto_asks c x w moving tag writes left = record {
  current = record w { active = true };
  moving = ap (λ (m : Option Moving). (activates x m).moving) moving;
  tag = tag;
  writes = writes;
  asked = refl;
  left = left;
}

module _ (dev : ℕ) (v : DeviceView) (sound : Bool) (frame : List ℕ) (commands : ℕ
    → SlotCommand) (past : History) (k : Ledger) (is : IsOwn dev v.slots) (history : IsTold v past) (same : Same commands past k) (active : (c : Context)
    → v.slots.context ≡ Some c → c.activated ≡ true → IsAskedBy c k) where
  abbrev Asks : Result Fis FisFault → Heard → Type 0
  Asks r h = (c : Context) → (moved h.happening v.slots).context ≡ Some c → c.activated ≡ true → IsAskedBy c (listens_up k r)

  asks_quietly : (r : Result Fis FisFault) (h : Heard) → IsRight k r → NotActivated h.happening → Asks r h
  asks_quietly r h right quiet c now set = asked_up c k (active c (moved_before v.slots h.happening quiet c now set) set) r right

  asks_plainly : (r : Result Fis FisFault) (h : Heard) → IsRight k r → NamesNoTag h.happening → Asks r h
  asks_plainly r h right plain = asks_quietly r h right (asks_none h.happening plain)

  asks_activate : (f : List ℕ) (b : Bool) → may_activate v.slots.context ≡ b → IsRight k (Ok (view.DmaActivate f))
      → Asks (Ok (view.DmaActivate f)) (if b then quietly v.state happening.Activated else faulty v.state cause.Stray)
  asks_activate f false may right c now set = asks_quietly (Ok (view.DmaActivate f)) (faulty v.state cause.Stray) right tt c now set
  asks_activate f true may right c now set = by_moving k.moving refl (v.slots.context) refl
    where
      by_moving : (m : Option Moving) → k.moving ≡ m → (o : Option Context) → v.slots.context ≡ o → IsAskedBy c (activates k k.moving)
      by_moving None is o is_o = absurd (subst ActivatesRight is right.moves)
      by_moving (Some current) is None is_o = cc (sym may ∙ ap may_activate is_o)
      by_moving (Some current) is (Some a) is_o =
          let once : AsksOnce current = subst ActivatesRight is right.moves in
          let after : (after_activate v.slots).context ≡ Some (activated a) =
          ap (λ (b : Bool). (if b then record v.slots { context = option_map activated v.slots.context } else v.slots).context) may
          ∙ ap (option_map activated) is_o in
          let it : activated a ≡ c = let e : Some (activated a) ≡ Some c = sym after ∙ now in cc e in
          subst (λ (x : Context). IsAskedBy x (activates k k.moving)) it (asks_now commands v past k current a history same is once is_o)

  -- the context of a DMA Setup
  abbrev context_of : List ℕ → Context
  context_of f = dma_context (tag_of f) (field Setup table.Offset f) (field Setup table.Count f) (field Setup table.D f == 1) (field Setup table.A f == 1)

  auto_asked : (f : List ℕ) → IsRight k (Ok (view.DmaSetup f)) → is_auto f ≡ true → IsAskedBy (context_of f) (listens_up k (Ok (view.DmaSetup f)))
  auto_asked f right auto =
      let x : Ledger = sets_up k k.moving (field Setup table.BufferId f) (field Setup table.Offset f) (field Setup table.Count f) in
      let u = set_up_now k f right in
      subst (λ (b : Bool). IsAskedBy (context_of f) (with_auto b x)) (sym auto)
      (auto_asks (context_of f) x u.current u.moving (sym (setup_tag dev v commands past k is history same f right ∙ u.tag))
      (write_of_auto (field Setup table.A f) (field Setup table.D f) u.current.command.write u.direction auto) u.count)

  asks_setup : (f : List ℕ) (o : Option SetupError) (auto : Bool) → is_auto f ≡ auto → IsRight k (Ok (view.DmaSetup f))
      → Asks (Ok (view.DmaSetup f)) (set_up o v.state None (happening.SetUp (context_of f)))
  asks_setup f (Some e) auto is_auto_so right c now set =
      asks_quietly (Ok (view.DmaSetup f)) (faulty v.state (hear.cause_of_setup e)) right tt c now set
  asks_setup f None false is_auto_so right c now set =
      asks_quietly (Ok (view.DmaSetup f)) (set_up None v.state None (happening.SetUp (context_of f))) right is_auto_so c now set
  asks_setup f None true is_auto_so right c now set =
      let it : context_of f ≡ c = let e : Some (context_of f) ≡ Some c = now in cc e in
      subst (λ (x : Context). IsAskedBy x (listens_up k (Ok (view.DmaSetup f)))) it
      (auto_asked f right is_auto_so)

  asks_fis : (fis : Fis) → IsRight k (Ok fis) → Asks (Ok fis) (heard_fis v.slots v.state sound fis)
  unfolding heard_fis
  asks_fis (view.RegD2H f) right =
      asks_plainly (Ok (view.RegD2H f))
      (hear.signing f (hear.heard_register v.slots v.state (field table.D2h table.Status f) (field table.D2h table.Error f))) right
      (quiet_register v.slots v.state (field table.D2h table.Status f) (field table.D2h table.Error f) v.state.resetting
      (is_error (field table.D2h table.Status f)) (is_busy (field table.D2h table.Status f)))
  asks_fis (view.SetBits f) right =
      asks_quietly (Ok (view.SetBits f))
      (hear.heard_bits v.slots v.state (field table.Bits table.Status f) (field table.Bits table.Error f)
      (field table.Bits table.SActive f)) right
      (quiet_bits v.slots v.state (field table.Bits table.Status f) (field table.Bits table.Error f) (field table.Bits table.SActive f)
      (is_error (field table.Bits table.Status f)))
  asks_fis (view.DmaActivate f) right = asks_activate f (may_activate v.slots.context) refl right
  asks_fis (view.DmaSetup f) right =
      asks_setup f (setup_fault (own_issue v.slots (tag_of f)) (field Setup table.Offset f) (field Setup table.Count f) (field Setup table.D f == 1))
      (is_auto f) refl right
  asks_fis (view.PioSetup f) right =
      asks_plainly (Ok (view.PioSetup f))
      (hear.heard_pio v.slots v.state (field table.Pio table.Status f) (field table.Pio table.Error f) (field table.Pio table.Transfer f)
      (field table.Pio table.D f == 1) (hear.block_of f)) right
      (quiet_pio v.state (field table.Pio table.Status f) (field table.Pio table.Error f) (field table.Pio table.Transfer f)
      (field table.Pio table.D f == 1) (hear.block_of f)
      (is_error (field table.Pio table.Status f)) (is_some (sent_pio v.slots))
      (pio_fault (pio_issue v.slots) (field table.Pio table.Transfer f) (field table.Pio table.D f == 1))
      (out_setup v.slots (field table.Pio table.Transfer f) (field table.Pio table.D f == 1))
      (refuses_up v.slots (field table.Pio table.Transfer f) (field table.Pio table.D f == 1) (pio_up k.awaited f right.replies)))
  asks_fis (view.Payload f) right =
      asks_plainly (Ok (view.Payload f)) (heard_data v.slots v.state sound (length f - 4)) right
      (quiet_data v.slots v.state sound (length f - 4) v.slots.context)
  asks_fis other right = asks_quietly (Ok other) (quietly v.state happening.Nothing) right tt

  asks_test : (fis : Fis) (b : Bool) → IsRight k (Ok fis) → Asks (Ok fis) (heard dev v sound (if b then Some fis else None))
  asks_test fis true right = asks_fis fis right
  asks_test fis false right = asks_quietly (Ok fis) (heard_bad dev v.state) right tt

  asks_heard : (r : Result Fis FisFault) → IsRight k r → Asks r (heard dev v sound (admitted dev r))
  asks_heard (Err e) right = asks_quietly (Err e) (heard_bad dev v.state) right tt
  asks_heard (Ok fis) right = asks_test fis (is_admitted dev fis) right

pub joins_frames : JoinsFrames
joins_frames host new frame report commands past k sound framed below well right short joined =
    let n = port_of frame in
    let v : DeviceView = view_of (port_of frame) host.port in
    let told_so : IsToldSo host frame report past =
    heard_as_told host new frame report commands past k sound below well joined.history joined.same right in
    let takes : TakesFrame host frame report new = well.takes in
    let heard_it : ignores (port_of frame) host.port frame ≡ false =
    heard_if host new frame report (ignores (port_of frame) host.port frame) refl well.takes well.heard in
    let h : Heard = heard_now host.port host.memory (port_of frame) (admitted (port_of frame) (seen frame)) in
    let slots_is : (view_of (port_of frame) new.port).slots ≡ moved
    (heard_now host.port host.memory (port_of frame) (admitted (port_of frame) (seen frame))).happening (view_of (port_of frame) host.port).slots =
    ap (λ (x : DeviceView). x.slots) (takes.heard heard_it).own in
    let told_next = step (port_of frame) host sound past joined.history (Took frame report) new (below_16 (port_of frame) below) framed takes in
    record {
      history = subst (λ (es : History). IsHistoryOf (port_of frame) new (es ++ past)) told_so.events told_next;
      same = same_goes_on.takes commands (seen frame) past k right told_so.heard joined.same;
      sent = λ s i there.
          let before : WasSent (view_of (port_of frame) host.port).slots s i =
          moved_sent (view_of (port_of frame) host.port).slots
          (heard_now host.port host.memory (port_of frame) (admitted (port_of frame) (seen frame))).happening s i
          (sym (ap (λ (o : DeviceSlots). own_issue o s) slots_is) ∙ there) in
          told_sent s (seen frame) past ∙ joined.sent s before.before before.there ∙ before.sent;
      short = short_up k (seen frame) right short joined.short;
      active = λ c now set.
          asks_heard (port_of frame) v
          (is_sound host.memory host.port.commands v.slots) frame commands past k (is_own (port_of frame) host.port.slots sound.slots)
          joined.history joined.same joined.active (seen frame) right c
          (sym (ap (λ (o : DeviceSlots). o.context) slots_is) ∙ now) set;
    }
  where
    below_16 : (n : ℕ) → n < 15 → n < 16
    below_16 n lt = omega arith

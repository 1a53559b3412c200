-- For `rested_disks_have_done`. While the ledger says that a disk asked for Data of a write, a context of the port is activated.
use Rattle.std.proofs.Common.{◌≡◌, ◌==◌, ◌&&◌, ◌+◌, ◌*◌, ℕ, Bool, true, false, List, [], ◌∷◌, drop, length, refl, sym, ap, subst, ◌∙◌, Option, Some}
use Rattle.std.proofs.{Common.{None, Ok, Err, Result}, lemmas.Bool.{false≢true, true≢false}}
use Rattle.std.specs.{Prelude.{if◌then◌else◌, find}, Option.option_map}
use Rattle.fis_view.specs.{Table.{Bits, BufferId, D2h, Offset, Pio, SActive, Setup, Status, field}, declared.view.{Fis.Fis, FisFault.FisFault}}
use Rattle.fis_view.specs.Table as table
use Rattle.fis_view.specs.declared.view.Fis.TheVariants as view
use Rattle.port_errors.specs.declared.cause.DeviceCause.TheVariants as cause
use Rattle.slots.specs.{Commands.{answer_of, answered_as, completed, is_done, is_slot}, Data.{activated, after_activate, may_activate}}
use Rattle.slots.specs.{Setup.{dma_context, setup_fault}, Slots.{DeviceSlots, context_unless, own_issue}, declared.answer.Answered.Answered}
use Rattle.slots.specs.declared.{answer.SetupError.SetupError, table.Context.Context}
use Rattle.slots.specs.declared.answer.Answered.TheVariants as answer
use Rattle.hba_fbs.specs.{declared.{hearing.{Happening.Happening, Heard.Heard}, state.DeviceState.DeviceState}, Hearing.{faulty, heard_fis}}
use Rattle.hba_fbs.specs.{Hearing.{is_admitted, moved, named, quietly, set_up, tag_of}, Status.{after_reset, is_busy, is_error, with_bits, with_file}}
use Rattle.hba_fbs.specs.{Taking.{admitted, heard}, Views.DeviceView}
use Rattle.hba_fbs.specs.declared.hearing.Happening.TheVariants as happening
use Rattle.hba_fbs.specs.Hearing as hear
use Rattle.disk_model.specs.{declared.request.Command.Command, Ends.IsRight, Laws.ShowsFirst, Ledger.{Ledger, Moving, Reply, ShowsPage, answered}}
use Rattle.disk_model.specs.Ledger.{ends, is_auto, listens_up, moves, sends_data, sets_up, starts_moving, takes_data, with_auto}
use Rattle.disk_model.proofs.Door.{bits_up}
use Rattle.hba_laws.specs.History.{History}
use Rattle.disk_simulation.specs.Together.{AtMostAccepts, InTalk, Pages, Queues, Replies, Shows}

abbrev pub IsAsked : Option Context → Ledger → Type 0
IsAsked o k = (v : Moving) (c : Context) → k.moving ≡ Some v → v.active ≡ true → o ≡ Some c → c.activated ≡ true

no_moving : {X : Type 0} (m : Option Moving) (v : Moving) → m ≡ None → m ≡ Some v → X
no_moving m v none some = let bad : None ≡ Some v = sym none ∙ some in cc bad

pub inactive : {X : Type 0} (w v : Moving) → Some w ≡ Some v → w.active ≡ false → v.active ≡ true → X
inactive w v same unset set = let is : w ≡ v = cc same in absurd (true≢false (sym set ∙ subst (λ (x : Moving). x.active ≡ false) is unset))

-- ---- the ledger after Data

goes_quiet : {X : Type 0} (k : Ledger) (w v : Moving) (b write : Bool) → w.active ≡ false → (if b then ends k w write else record k { moving = Some w }).moving ≡ Some v → v.active ≡ true → X
goes_quiet k w v true true unset now set = cc now
goes_quiet k w v true false unset now set = cc now
goes_quiet k w v false write unset now set = inactive w v now unset set

moves_quiet : {X : Type 0} (k : Ledger) (w v : Moving) (bytes : List ℕ) → (moves k w bytes).moving ≡ Some v → v.active ≡ true → X
moves_quiet k w v bytes now set = goes_quiet k _ v (w.moved + length bytes == 512 * w.command.count) w.command.write refl now set

sends_quiet : {X : Type 0} (k : Ledger) (m : Option Moving) (v : Moving) (bytes : List ℕ) → k.moving ≡ m → (sends_data k m bytes).moving ≡ Some v → v.active ≡ true → X
sends_quiet k None v bytes is now set = no_moving k.moving v is now
sends_quiet k (Some w) v bytes is now set = moves_quiet k w v bytes now set

-- Data that was asked for
pub takes_quiet : {X : Type 0} (k : Ledger) (w v : Moving) (bytes : List ℕ) → w.active ≡ true → (length bytes == w.count) ≡ true → (takes_data k (Some w) bytes).moving ≡ Some v → v.active ≡ true → X
takes_quiet {X} k w v bytes on all now set = by_test (w.active && (length bytes == w.count)) (ap (λ (b : Bool). b && (length bytes == w.count)) on ∙ all) now
  where
    by_test : (b : Bool) → b ≡ true → (if b then moves k w bytes else k).moving ≡ Some v → X
    by_test true is now = moves_quiet k w v bytes now set
    by_test false is now = absurd (false≢true is)

-- ---- and after a DMA Setup: Data may come at once only by auto-activate

starts_quiet : {X : Type 0} (k : Ledger) (offset count : ℕ) (o : Option Command) (v : Moving) → k.moving ≡ None → (starts_moving k offset count o).moving ≡ Some v → v.active ≡ true → X
starts_quiet k offset count None v none now set = no_moving k.moving v none now
starts_quiet k offset count (Some c) v none now set = inactive _ v now refl set

sets_quiet : {X : Type 0} (k : Ledger) (m : Option Moving) (tag offset count : ℕ) (v : Moving) → k.moving ≡ m → (sets_up k m tag offset count).moving ≡ Some v → v.active ≡ true → X
sets_quiet k None tag offset count v is now set = starts_quiet k offset count (find (λ c. c.tag == tag) k.outstanding) v is now set
sets_quiet k (Some w) tag offset count v is now set = inactive _ v now refl set

is_automatic : (k : Ledger) (tag offset count : ℕ) (v : Moving) (b : Bool) → (with_auto b (sets_up k k.moving tag offset count)).moving ≡ Some v → v.active ≡ true → b ≡ true
is_automatic k tag offset count v true now set = refl
is_automatic k tag offset count v false now set = sets_quiet k k.moving tag offset count v refl now set

-- ---- a page is shown while no data moves

not_accepts : (xs : List Reply) (f : List ℕ) → ShowsFirst xs f → AtMostAccepts xs → ⊥
not_accepts [] f shows most = shows
not_accepts (ShowsPage ∷ xs) f shows most = most
not_accepts other f shows most = shows

shows_idle : (past : History) (k : Ledger) (f : List ℕ) → ShowsFirst k.awaited f → InTalk past k → k.moving ≡ None
shows_idle past k f shows (Queues most waits pages) = absurd (not_accepts k.awaited f shows most)
shows_idle past k f shows (Replies reply idle one mine pages) = idle.moving
shows_idle past k f shows (Shows idle one most unset) = idle.moving
shows_idle past k f shows (Pages page idle none one waits) = idle.moving

-- ---- a context that stays

abbrev LeavesContext : Happening → Type 0
LeavesContext happening.Nothing = Unit {0}
LeavesContext (happening.Answered a) = Unit {0}
LeavesContext (happening.Named mask) = Unit {0}
LeavesContext other = ⊥

unless_before : (F : ℕ → Bool) (o : Option Context) (c : Context) → context_unless F o ≡ Some c → o ≡ Some c
unless_before F None c e = e
unless_before F (Some a) c e = by_test (F a.slot) e
  where
    by_test : (b : Bool) → (if b then None else Some a) ≡ Some c → Some a ≡ Some c
    by_test true e = cc e
    by_test false e = e

answer_before : (own : DeviceSlots) (a : Answered) (c : Context) → (answered_as a own).context ≡ Some c → own.context ≡ Some c
answer_before own (answer.Done slot) c now = unless_before (is_slot slot) own.context c now
answer_before own other c now = now

context_before : (own : DeviceSlots) (h : Happening) (c : Context) → LeavesContext h → (moved h own).context ≡ Some c → own.context ≡ Some c
context_before own happening.Nothing c leaves now = now
context_before own (happening.Answered a) c leaves now = answer_before own a c now
context_before own (happening.Named mask) c leaves now = unless_before (is_done mask own) own.context c now
context_before own other c leaves now = absurd leaves

leaves_register : (own : DeviceSlots) (state : DeviceState) (status error : ℕ) (resetting e busy : Bool)
    → LeavesContext (if resetting then quietly (after_reset state status error) happening.Nothing
    else (if e then faulty (with_file state status error) cause.TaskFile
    else (if busy then quietly (with_file state status error) happening.Nothing else hear.answered (answer_of own)
    (with_file state status error)))).happening
leaves_register own state status error true e busy = tt
leaves_register own state status error false true busy = tt
leaves_register own state status error false false true = tt
leaves_register own state status error false false false = tt

leaves_bits : (own : DeviceSlots) (state : DeviceState) (status error mask : ℕ) (e : Bool)
    → LeavesContext (if e then faulty (with_bits state status error) cause.TaskFile else named (completed mask own) (with_bits state status error) mask).happening
leaves_bits own state status error mask true = tt
leaves_bits own state status error mask false = tt

-- ---- each FIS in which the port finds no fault

made_active : (o : Option Context) (c : Context) → option_map activated o ≡ Some c → c.activated ≡ true
made_active None c e = cc e
made_active (Some a) c e = let is : activated a ≡ c = cc e in ap (λ (x : Context). x.activated) (sym is)

module _ (own : DeviceSlots) (state : DeviceState) (sound : Bool) (past : History) (k : Ledger) (talk : InTalk past k) (asked : IsAsked own.context k) where
  abbrev Asks : Result Fis FisFault → Heard → Type 0
  Asks r h = h.fault ≡ None → IsAsked (moved h.happening own).context (listens_up k r)

  quiet : (x : Ledger) (h : Heard) → x.moving ≡ k.moving → LeavesContext h.happening → IsAsked (moved h.happening own).context x
  quiet x h same leaves v c now set there = asked v c (sym same ∙ now) set (context_before own h.happening c leaves there)

  by_activate : (f : List ℕ) (b : Bool) → may_activate own.context ≡ b → Asks (Ok (view.DmaActivate f)) (if b then quietly state happening.Activated else faulty state cause.Stray)
  by_activate f false may = λ fine. cc fine
  by_activate f true may = λ fine v c now set there.
      let after : (after_activate own).context ≡ option_map activated own.context =
      ap (λ (b : Bool). (if b then record own { context = option_map activated own.context } else own).context) may in
      made_active own.context c (sym after ∙ there)

  by_setup : (f : List ℕ) (o : Option SetupError) → Asks (Ok (view.DmaSetup f)) (set_up o state None
      (happening.SetUp (dma_context (tag_of f) (field Setup Offset f) (field Setup table.Count f) (field Setup table.D f == 1) (field Setup table.A f == 1))))
  by_setup f (Some e) = λ fine. cc fine
  by_setup f None = λ fine v c now set there.
      let is : dma_context (tag_of f) (field Setup Offset f) (field Setup table.Count f) (field Setup table.D f == 1) (field Setup table.A f == 1) ≡ c = cc there in
      ap (λ (x : Context). x.activated) (sym is)
      ∙ is_automatic k (field Setup BufferId f) (field Setup Offset f) (field Setup table.Count f) v (is_auto f) now set

  asks_fis : (fis : Fis) → IsRight k (Ok fis) → Asks (Ok fis) (heard_fis own state sound fis)
  unfolding heard_fis
  asks_fis (view.RegD2H f) right = λ fine. quiet (answered k) (heard_fis own state sound (view.RegD2H f)) refl
      (leaves_register own state (field D2h Status f) (field D2h table.Error f) state.resetting (is_error (field D2h Status f)) (is_busy (field D2h Status f)))
  asks_fis (view.SetBits f) right = λ fine. quiet (listens_up k (Ok (view.SetBits f))) (heard_fis own state sound (view.SetBits f)) (ap (λ (x : Ledger). x.moving) (bits_up k f right.fine))
      (leaves_bits own state (field Bits Status f) (field Bits table.Error f) (field Bits SActive f) (is_error (field Bits Status f)))
  asks_fis (view.DmaActivate f) right = by_activate f (may_activate own.context) refl
  asks_fis (view.DmaSetup f) right = by_setup f (setup_fault (own_issue own (tag_of f)) (field Setup Offset f) (field Setup table.Count f) (field Setup table.D f == 1))
  asks_fis (view.PioSetup f) right = λ fine v c now set there. no_moving k.moving v (shows_idle past k f right.replies talk) now
  asks_fis (view.Payload f) right = λ fine v c now set there. sends_quiet k k.moving v (drop 4 f) refl now set
  asks_fis other right = λ fine. quiet k (quietly state happening.Nothing) refl tt

module _ (dev : ℕ) (w : DeviceView) (sound : Bool) (past : History) (k : Ledger) (talk : InTalk past k) (asked : IsAsked w.slots.context k) where
  by_admitted : (fis : Fis) (b : Bool) → IsRight k (Ok fis) → Asks w.slots w.state sound past k talk asked (Ok fis) (heard dev w sound (if b then Some fis else None))
  by_admitted fis true right = asks_fis w.slots w.state sound past k talk asked fis right
  by_admitted fis false right = λ fine. cc fine

  pub asked_up : (r : Result Fis FisFault) → IsRight k r → (heard dev w sound (admitted dev r)).fault ≡ None
      → IsAsked (moved (heard dev w sound (admitted dev r)).happening w.slots).context (listens_up k r)
  asked_up (Err e) right fine = cc fine
  asked_up (Ok fis) right fine = by_admitted fis (is_admitted dev fis) right fine

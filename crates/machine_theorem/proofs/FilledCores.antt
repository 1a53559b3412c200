-- Each byte of a read that came, over the events of a controller's core.
use Rattle.std.proofs.Common.{◌≡◌, ◌⊎◌, ℕ, ◌+◌, ◌<◌, ◌≤◌, Bool, true, false, List, [], ◌∷◌, ◌++◌, drop, length, inl, inr, refl, sym, ap, subst, ◌∙◌}
use Rattle.std.proofs.{Common.{arith, Option, Some, None}, lemmas.Bool.{and_parts, eqb-true, leb-true, ltb-true}}
use Rattle.std.specs.Prelude.{◌==◌, if◌then◌else◌, is_some, nat_le, nat_lt}
use Rattle.slots.specs.{Slots.{Issue, holds, issue_at, match_some}, Table.IsTable, Work.{is_dma, is_read}, declared.work.Kind.Kind}
use Rattle.slots.specs.declared.work.Kind.TheVariants.{QueuedRead}
use Rattle.hba_fbs.specs.{Choosing.MayChoose, Offering.asked_by, Registers.falls, Taking.port_of, Views.{Port, view_of}, Writing.cleared_by}
use Rattle.hba_fbs.specs.{Writing.is_device, declared.{report.{TakeReport.TakeReport, Wrote.Wrote}, room.Room.Room, turn.Turn.Turn}}
use Rattle.hba_fbs.specs.declared.turn.Turn.TheVariants.{Feeds, Orders, Rests}
use Rattle.hba_fbs.specs.declared.register.Register.TheVariants as on_port
use Rattle.hba_laws.specs.{Agreement.IsTold, Alike.told_issued, CoreHistories.{AreFramedBy, CoreReportsFilled, CoreViewsAreTold, FillsAs, IsNoData}}
use Rattle.hba_laws.specs.{CoreHistories.{ReportsFilled, event_by, happened, turned_for}, Cores.{AreCores, CoreEvent, DoesBy, IsCore, RunsBy}}
use Rattle.hba_laws.specs.{Delivering.{begun_by, event_sent, is_control_issue}, History.{Event, History, Transfer, filled, issued, next_number}}
use Rattle.hba_laws.specs.Cores as core
use Rattle.hba_laws.specs.History as history
use Rattle.machine_theorem.proofs.{SetupHistory.{IsUp, was_issued}, SetupCores.{AreNoFises, IsNoFis, fed_none, first_core, told_next}}
use Rattle.machine_theorem.proofs.FilledHistory.{HasCame, HasNoData, HaveNoData, IsIn, both_none, carried_back, filled_back, if_none, issued_none}
use Rattle.machine_theorem.proofs.FilledHistory.{list_back, none_back, up_one}

-- ---- one event that is no FIS

begun_none : (slot : ℕ) (o : Option Issue) → HaveNoData (begun_by slot o)
begun_none slot None = tt
begun_none slot (Some i) = if_none (is_dma i.work.kind) (history.SetUp slot 0 i.work.len (is_read i.work.kind) ∷ []) (tt, tt)

sent_none : (b : Bool) (slot : ℕ) → HasNoData (if b then history.SentControl slot else history.Sent slot)
sent_none true slot = tt
sent_none false slot = tt

module _ (r : Kind) (reads : is_read r ≡ true) (s k n : ℕ) (old : Port) (past : History) (ok : IsTable old.slots) (told : IsTold (view_of n old) past) where
  if_back : (b : Bool) (h : History) → HaveNoData h → HasCame r s k ((if b then h else []) ++ past) → HasCame r s k past
  if_back b h none c = list_back r s k (if b then h else []) past (if_none b h none) c

  turn_back : (turn : Turn) (bytes : List ℕ) → MayChoose old turn → HasCame r s k (turned_for n old turn bytes ++ past) → HasCame r s k past
  turn_back Rests bytes may c = c
  turn_back (Feeds dev slot offset len) bytes may c = by (dev == n) refl c
    where
      by : (b : Bool) → (dev == n) ≡ b → HasCame r s k ((if b then history.Carried (drop 4 bytes) ∷ [] else []) ++ past) → HasCame r s k past
      by false e c = c
      by true e c = elim (carried_back r s k (drop 4 bytes) past c) [
        | inl up ↦ absurd (fed_none r reads n old past ok told dev slot offset len (eqb-true dev n e) may.1.due s up.0)
        | inr was ↦ was
      ]
  turn_back (Orders dev slot command) bytes may c =
      if_back (dev == n) (begun_by slot (issue_at old.slots slot) ++ event_sent old.slots slot ∷ [])
      (both_none (begun_by slot (issue_at old.slots slot)) (event_sent old.slots slot ∷ []) (begun_none slot (issue_at old.slots slot))
      (sent_none (holds is_control_issue (issue_at old.slots slot)) slot, tt)) c

  pub core_back : (e : CoreEvent) (new : Port) → IsNoFis QueuedRead n e → DoesBy old e new → HasCame r s k (happened n old e ++ past) → HasCame r s k past
  core_back (core.Took frame room report) new plain does c = absurd plain
  core_back (core.Wrote on_port.Fbs value offer tables) new plain does c = if_back (is_device n (cleared_by old.errors value)) (history.Emptied ∷ []) (tt, tt) c
  core_back (core.Wrote on_port.Is value offer tables) new plain does c = c
  core_back (core.Wrote on_port.Serr value offer tables) new plain does c = c
  core_back (core.Wrote on_port.Sact value offer tables) new plain does c = c
  core_back (core.Wrote on_port.Sntf value offer tables) new plain does c = c
  core_back (core.Wrote register value offer tables) new plain does c = absurd plain
  core_back (core.Flushed dev) new plain does c = absurd plain
  core_back (core.Gave bytes) new plain does c = absurd plain
  core_back core.Failed new plain does c = absurd plain
  core_back (core.Placed dev slots offer tables) new plain does c =
      if_back (dev == n) (told_issued (asked_by offer slots) tables 32) (issued_none (asked_by offer slots) tables 32) c
  core_back (core.Chose turn bytes) new plain does c = turn_back turn bytes does.0 c
  core_back (core.Greeted frame report) new plain does c = c
  core_back (core.Commanded value) new plain does c = if_back (falls old.registers value) (history.Emptied ∷ []) (tt, tt) c
  core_back (core.Overrode dev) new plain does c = c
  core_back (core.Hung dev line) new plain does c = if_back (dev == n) (history.Emptied ∷ []) (tt, tt) c
  core_back core.Relinked new plain does c = none_back r s k history.Emptied past tt c
  core_back core.Restarted new plain does c = none_back r s k history.Emptied past tt c

-- ---- a list of them

-- a device's history, and what holds if byte k of the read in slot s came
pub record Behind (r : Kind) (n s k : ℕ) (port : Port) (A : Type 0) : Type 0 where
  pub past : History
  pub told : IsTold (view_of n port) past
  pub back : HasCame r s k past → A

module _ (r : Kind) (reads : is_read r ≡ true) (law : CoreViewsAreTold) (n : ℕ) (low : n < 16) (s k : ℕ) (A : Type 0) where
  pub cores_behind : (events : List CoreEvent) (old new : Port) (run : RunsBy old events new) → AreCores old new events run → AreFramedBy events
      → AreNoFises QueuedRead n events → Behind r n s k old A → Behind r n s k new A
  cores_behind [] old new run cores frames none was = subst (λ (p : Port). Behind r n s k p A) (sym run) was
  cores_behind (e ∷ later) old new run cores frames none was =
      let next : IsCore run.0 = first_core later run.0 new run.2 cores.1 in
      cores_behind later run.0 new run.2 cores.1 frames.1 none.1 (record {
        past = happened n old e ++ was.past;
        told = told_next QueuedRead refl law n low e old run.0 run.1 cores.0 next frames.0 was.past was.told;
        back = λ c. was.back (core_back r reads s k n old was.past cores.0.slots was.told e run.0 none.0 run.1 c);
      })

-- ---- a FIS

-- it brings byte k for the slot, which is set up
pub record FillsNow (r : Kind) (s k : ℕ) (past : History) (frame : List ℕ) (report : TakeReport) : Type 0 where
  pub wrote : Wrote
  pub is : report.wrote ≡ Some wrote
  pub slot_is : wrote.slot ≡ s
  pub whole : wrote.len ≡ length (drop 4 frame)
  pub up : IsUp r s past
  pub from : wrote.offset ≤ k
  pub to : k < wrote.offset + wrote.len

carried_is : (xs ys : List ℕ) → Some (history.Carried xs) ≡ Some (history.Carried ys) → xs ≡ ys
carried_is xs ys e = ap (λ (o : Option Event). match_some o ys bytes_of) e
  where
    bytes_of : Event → List ℕ
    bytes_of (history.Carried bytes) = bytes
    bytes_of other = ys

fills_now : (r : Kind) (s k : ℕ) (past : History) (frame bytes : List ℕ) (report : TakeReport) (wrote : Wrote) (o : Option Event) → report.wrote ≡ Some wrote
    → FillsAs wrote (drop 4 frame) o past → o ≡ Some (history.Carried bytes) → IsUp r s past → IsIn (next_number past) (length bytes) k
    → FillsNow r s k past frame report
fills_now r s k past frame bytes report wrote o is fills event up inside =
    let same : bytes ≡ drop 4 frame = carried_is bytes (drop 4 frame) (sym event ∙ fills.is) in
    let both = and_parts (nat_le (next_number past) k) (nat_lt k (next_number past + length bytes)) inside in
    let low : next_number past ≤ k = leb-true (next_number past) k both.0 in
    let high : k < next_number past + length bytes = ltb-true k (next_number past + length bytes) both.1 in
    let number = fills.fills.from in
    let long = ap (λ (l : List ℕ). length l) same in
    let len = fills.len in
    record {
      wrote = wrote;
      is = is;
      slot_is = up_one wrote.slot s past fills.fills.is_up up.up;
      whole = len;
      up = up;
      from = omega (arith, low, number);
      to = omega (arith, high, number, long, len);
    }

module _ (r : Kind) (law : CoreReportsFilled) (s k n : ℕ) (old new : Port) (frame : List ℕ) (room : Room) (report : TakeReport) (own : port_of frame ≡ n)
    (kept : IsCore old) (does : core.Hearkens old frame room report new) (past : History) (told : IsTold (view_of n old) past) where
  all : ReportsFilled report.wrote (drop 4 frame) (event_by old room frame) past
  all =
      law old old new [] refl (record { cores = kept; frames = tt }) frame room report past (subst (λ (j : ℕ). IsTold (view_of j old) past) (sym own) told) does

  -- what is filled behind Data was filled by them, or before
  pub data_back : (bytes : List ℕ) (t : Transfer) → event_by old room frame ≡ Some (history.Carried bytes) → issued s past ≡ Some t → t.work.kind ≡ r
      → is_some (filled s (history.Carried bytes ∷ past) k) ≡ true → FillsNow r s k past frame report ⊎ HasCame r s k past
  data_back bytes t event was kind f = by report.wrote refl all
    where
      by : (o : Option Wrote) → report.wrote ≡ o → ReportsFilled o (drop 4 frame) (event_by old room frame) past
          → FillsNow r s k past frame report ⊎ HasCame r s k past
      by None is none = absurd (subst IsNoData event none)
      by (Some wrote) is fills = elim (filled_back r s k bytes past t was kind f) [
        | inl up ↦ inl (fills_now r s k past frame bytes report wrote (event_by old room frame) is fills event up.0 up.1)
        | inr was ↦ inr was
      ]

  -- what came by a FIS of the device was brought by it, or came before
  pub fis_back : HasCame r s k (match_some (event_by old room frame) [] (λ e. e ∷ []) ++ past) → FillsNow r s k past frame report ⊎ HasCame r s k past
  fis_back c = by (event_by old room frame) refl c
    where
      by : (o : Option Event) → event_by old room frame ≡ o → HasCame r s k (match_some o [] (λ e. e ∷ []) ++ past)
          → FillsNow r s k past frame report ⊎ HasCame r s k past
      by None event c = inr c
      by (Some (history.Carried bytes)) event c =
          data_back bytes c.transfer event (was_issued s (history.Carried bytes) past c.transfer tt c.is) c.kind c.filled
      by (Some (history.Issued slot t)) event c = inr (none_back r s k (history.Issued slot t) past tt c)
      by (Some (history.Sent slot)) event c = inr (none_back r s k (history.Sent slot) past tt c)
      by (Some (history.SentControl slot)) event c = inr (none_back r s k (history.SentControl slot) past tt c)
      by (Some (history.SetUp tag offset count to_host)) event c = inr (none_back r s k (history.SetUp tag offset count to_host) past tt c)
      by (Some (history.PioSetUp count to_host ends)) event c = inr (none_back r s k (history.PioSetUp count to_host ends) past tt c)
      by (Some history.Answered) event c = inr (none_back r s k history.Answered past tt c)
      by (Some (history.Named mask)) event c = inr (none_back r s k (history.Named mask) past tt c)
      by (Some history.Emptied) event c = inr (none_back r s k history.Emptied past tt c)

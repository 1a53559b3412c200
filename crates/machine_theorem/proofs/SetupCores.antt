-- The history of a device beside what its FISes say, over the events of a controller's core.
use Rattle.std.proofs.Common.{◌≡◌, ℕ, ◌<◌, ◌-◌, length, Bool, true, false, List, [], ◌∷◌, ◌++◌, append_assoc, drop, refl, sym, ap, subst, ◌∙◌, Option}
use Rattle.std.proofs.{Common.{Some, None}, lemmas.{Bool.{eqb-true, eq-eqb, false≢true, true≢false}, List.{length-drop}}}
use Rattle.std.specs.Prelude.{◌==◌, MatchOption, is_some, if◌then◌else◌}
use Rattle.fis_view.specs.Seen.{seen}
use Rattle.slots.specs.{Data.payload, Slots.{Issue, context_of, holds, issue_at, match_some, own_issue}, Table.{IsContext, IsContextOf, IsTable}}
use Rattle.slots.specs.{Work.{is_dma, is_read}, declared.{work.{Kind.Kind, Work.Work}, table.Context.Context}}
use Rattle.hba_fbs.specs.{Deciding.{Decides, decided}, Offering.asked_by, Registers.falls, Taking.{admitted, device_cause, heard_report, ignores}}
use Rattle.hba_fbs.specs.{Taking.{port_cause, port_of, view_after_hearing}, Views.{DeviceView, Port, view_of}, Writing.{cleared_by, is_device}}
use Rattle.hba_fbs.specs.declared.{hearing.{Fault.Fault, Heard.Heard}, report.TakeReport.TakeReport, room.Room.Room, turn.Turn.Turn}
use Rattle.hba_fbs.specs.{declared.turn.Turn.TheVariants.{Feeds, Orders, Rests}, Choosing.MayChoose, Turning.feeds}
use Rattle.hba_fbs.specs.declared.hearing.Fault.TheVariants as fault
use Rattle.hba_fbs.specs.declared.register.Register as port_register
use Rattle.hba_fbs.specs.declared.register.Register.TheVariants as on_port
use Rattle.hba_laws.proofs.Door.{own_in}
use Rattle.hba_laws.specs.{Agreement.IsTold, CoreHistories.{AreFramedBy, CoreViewsAreTold, IsFramedBy, event_by, happened, turned_for}}
use Rattle.hba_laws.specs.{Cores.{AreCores, CoreEvent, DoesBy, IsCore, RunsBy}, Delivering.{begun_by, event_heard, event_sent, is_control_issue}}
use Rattle.hba_laws.specs.History.{Event, History, issued}
use Rattle.hba_laws.specs.Cores as core
use Rattle.hba_laws.specs.History as history
use Rattle.sata_disk_books.specs.Counted.{Counted, more_by}
use Rattle.machine_theorem.proofs.SetupHistory.{Follows, IsMild, IssuesNone, NoneUp, carried_follows, fed_follows, issued_follow, mild_follows}
use Rattle.machine_theorem.proofs.{SetupHistory.{nothing_up, was_issued}, SetupFrames.{WayIs, frame_follows, is_blocks, none_way, the_issue}}
use Rattle.machine_theorem.proofs.SetupFrames.{told_with}

-- ---- contexts

pub match_is : {A : Type 0} (P : A → Type 0) (o : Option A) → MatchOption o ⊥ P → (x : A) × ((o ≡ Some x) × P x)
match_is P None h = absurd h
match_is P (Some x) h = (x, (refl, h))

pub context_is : (n : ℕ) (port : Port) (c : Context) → IsTable port.slots → context_of port.slots n ≡ Some c → IsContext n port.slots c
context_is n port c ok e = subst (λ (o : Option Context). MatchOption o (Unit {0}) (IsContext n port.slots)) e (ok.contexts n)

pub way_of : (n : ℕ) (port : Port) → IsTable port.slots → WayIs (view_of n port)
way_of n port ok c e i at =
    let is : IsContext n port.slots c = context_is n port c ok e in
    let there : issue_at port.slots c.slot ≡ Some i = (own_in n c.slot port.slots i at).1 in
    (subst (λ (o : Option Issue). MatchOption o ⊥ (IsContextOf n c)) there is.1).way

due_case : (c : Context) (b : Bool) (x y : ℕ × ℕ × ℕ) → (if b then Some x else None) ≡ Some y → b ≡ true
due_case c true x y e = refl
due_case c false x y e = absurd (cc)

due_context : (o : Option Context) (y : ℕ × ℕ × ℕ) → payload o ≡ Some y → (c : Context) × ((o ≡ Some c) × (c.activated ≡ true))
due_context None y e = absurd (cc)
due_context (Some c) y e = (c, (refl, due_case c c.activated _ y e))

-- no read of this kind is set up while Data for the device go
pub fed_none : (k : Kind) → is_read k ≡ true → (n : ℕ) (old : Port) (past : History) → IsTable old.slots → IsTold (view_of n old) past → (dev slot offset len : ℕ) → dev ≡ n
    → payload (context_of old.slots dev) ≡ Some (slot, offset, len) → NoneUp k past
fed_none k reads n old past ok told dev slot offset len same due =
    let d = due_context (context_of old.slots n) (slot, offset, len) (ap (λ j. payload (context_of old.slots j)) (sym same) ∙ due) in
    let is : IsContext n old.slots d.0 = context_is n old d.0 ok d.1.0 in
    let of = match_is (IsContextOf n d.0) (issue_at old.slots d.0.slot) is.1 in
    none_way k (view_of n old) past d.0 told (way_of n old ok) d.1.0 (λ e. false≢true (sym (of.1.1.activates d.1.1).0 ∙ sym e ∙ reads))

-- ---- one event that is no FIS

abbrev pub IsWritten : port_register.Register → Type 0
IsWritten on_port.Is = Unit {0}
IsWritten on_port.Serr = Unit {0}
IsWritten on_port.Sact = Unit {0}
IsWritten on_port.Sntf = Unit {0}
IsWritten on_port.Fbs = Unit {0}
IsWritten other = ⊥

-- An event of a controller's core that is no FIS. Of a command that is no read it is no Data for the device either; of one that is its own setup no command goes.
abbrev pub IsNoFis : Kind → (n : ℕ) → CoreEvent → Type 0
IsNoFis k n (core.Took frame room report) = ⊥
IsNoFis k n (core.Wrote register value offer tables) = IsWritten register
IsNoFis k n (core.Flushed dev) = ⊥
IsNoFis k n (core.Gave bytes) = ⊥
IsNoFis k n core.Failed = ⊥
IsNoFis k n (core.Placed dev slots offer tables) = Unit {0}
IsNoFis k n (core.Chose (Feeds dev slot offset len) bytes) = is_read k ≡ false → (dev == n) ≡ false
IsNoFis k n (core.Chose (Orders dev slot command) bytes) = is_dma k ≡ false
IsNoFis k n (core.Chose turn bytes) = Unit {0}
IsNoFis k n (core.Greeted frame report) = Unit {0}
IsNoFis k n (core.Commanded value) = Unit {0}
IsNoFis k n (core.Overrode dev) = Unit {0}
IsNoFis k n (core.Hung dev line) = Unit {0}
IsNoFis k n core.Relinked = Unit {0}
IsNoFis k n core.Restarted = Unit {0}

empty_if : (k : Kind) (b : Bool) (past : History) (t : Option Counted) → Follows k past t → Follows k ((if b then history.Emptied ∷ [] else []) ++ past) t
empty_if k true past t was = mild_follows k history.Emptied past t tt was
empty_if k false past t was = was

one_if : (k : Kind) (b : Bool) (h past : History) (t : Option Counted) → (b ≡ true → Follows k (h ++ past) t) → Follows k past t → Follows k ((if b then h else []) ++ past) t
one_if k true h past t now was = now refl
one_if k false h past t now was = was

sent_mild : (b : Bool) (slot : ℕ) → IsMild (if b then history.SentControl slot else history.Sent slot)
sent_mild true slot = tt
sent_mild false slot = tt

sent_none : (b : Bool) (slot : ℕ) → IssuesNone (if b then history.SentControl slot else history.Sent slot)
sent_none true slot = tt
sent_none false slot = tt

module _ (k : Kind) (n : ℕ) (old : Port) (past : History) (t : Option Counted) (ok : IsTable old.slots) (told : IsTold (view_of n old) past)
    (was : Follows k past t) where
  -- a command that is its own setup is not of this kind
  begun_none : (slot : ℕ) (i : Issue) (e : Event) → is_dma k ≡ false → issue_at old.slots slot ≡ Some i → is_dma i.work.kind ≡ true → IssuesNone e
      → NoneUp k (history.SetUp slot 0 i.work.len (is_read i.work.kind) ∷ e ∷ past)
  begun_none slot i e other at dma none s up =
      let same : slot ≡ s = eqb-true slot s up.up in
      let first : issued s (e ∷ past) ≡ Some up.transfer = was_issued s (history.SetUp slot 0 i.work.len (is_read i.work.kind)) (e ∷ past) up.transfer tt up.is in
      let before : issued s past ≡ Some up.transfer = was_issued s e past up.transfer none first in
      let j = the_issue (issued s past) (own_issue (view_of n old).slots s) up.transfer (told.issued s) before in
      let there : issue_at old.slots s ≡ Some j.0 = (own_in n s old.slots j.0 j.1.0).1 in
      let one : i ≡ j.0 = ap (λ (o : Option Issue). match_some o i (λ x. x)) (sym at ∙ ap (issue_at old.slots) same ∙ there) in
      let kind = ap (λ (x : Issue). x.work.kind) one ∙ ap (λ (w : Work). w.kind) j.1.1 ∙ up.kind in
      false≢true (sym (ap is_dma kind ∙ other) ∙ dma)

  begun_case : (slot : ℕ) (i : Issue) (e : Event) (b : Bool) → is_dma k ≡ false → issue_at old.slots slot ≡ Some i → is_dma i.work.kind ≡ b → IsMild e → IssuesNone e
      → Follows k ((if b then history.SetUp slot 0 i.work.len (is_read i.work.kind) ∷ [] else []) ++ e ∷ past) t
  begun_case slot i e true other at dma mild none = nothing_up k _ t (begun_none slot i e other at dma none)
  begun_case slot i e false other at dma mild none = mild_follows k e past t mild was

  begun_follows : (slot : ℕ) (o : Option Issue) (e : Event) → is_dma k ≡ false → issue_at old.slots slot ≡ o → IsMild e → IssuesNone e → Follows k (begun_by slot o ++ e ∷ past) t
  begun_follows slot None e other at mild none = mild_follows k e past t mild was
  begun_follows slot (Some i) e other at mild none = begun_case slot i e (is_dma i.work.kind) other at refl mild none

  order_follows : (slot : ℕ) → is_dma k ≡ false → Follows k ((begun_by slot (issue_at old.slots slot) ++ event_sent old.slots slot ∷ []) ++ past) t
  order_follows slot other =
      let b : Bool = holds is_control_issue (issue_at old.slots slot) in
      subst (λ (h : History). Follows k h t) (sym (append_assoc (begun_by slot (issue_at old.slots slot)) (event_sent old.slots slot ∷ []) past))
      (begun_follows slot (issue_at old.slots slot) (event_sent old.slots slot) other refl (sent_mild b slot) (sent_none b slot))

  fed_case : (dev slot offset len : ℕ) (bytes : List ℕ) (r : Bool) → is_read k ≡ r → (r ≡ false → (dev == n) ≡ false) → MayChoose old (Feeds dev slot offset len) → (dev == n) ≡ true
      → Follows k (history.Carried (drop 4 bytes) ∷ past) t
  fed_case dev slot offset len bytes true reads plain may own = fed_follows k (drop 4 bytes) past t (fed_none k reads n old past ok told dev slot offset len (eqb-true dev n own) may.1.due)
  fed_case dev slot offset len bytes false reads plain may own = absurd (false≢true (sym (plain refl) ∙ own))

  turn_follows : (turn : Turn) (bytes : List ℕ) → IsNoFis k n (core.Chose turn bytes) → MayChoose old turn → Follows k (turned_for n old turn bytes ++ past) t
  turn_follows Rests bytes plain may = was
  turn_follows (Feeds dev slot offset len) bytes plain may =
      one_if k (dev == n) (history.Carried (drop 4 bytes) ∷ []) past t (fed_case dev slot offset len bytes (is_read k) refl plain may) was
  turn_follows (Orders dev slot command) bytes plain may =
      one_if k (dev == n) (begun_by slot (issue_at old.slots slot) ++ event_sent old.slots slot ∷ []) past t (λ e. order_follows slot plain) was

  pub core_follows : (e : CoreEvent) (new : Port) → IsNoFis k n e → DoesBy old e new → Follows k (happened n old e ++ past) t
  core_follows (core.Took frame room report) new plain does = absurd plain
  core_follows (core.Wrote on_port.Fbs value offer tables) new plain does = empty_if k (is_device n (cleared_by old.errors value)) past t was
  core_follows (core.Wrote on_port.Is value offer tables) new plain does = was
  core_follows (core.Wrote on_port.Serr value offer tables) new plain does = was
  core_follows (core.Wrote on_port.Sact value offer tables) new plain does = was
  core_follows (core.Wrote on_port.Sntf value offer tables) new plain does = was
  core_follows (core.Wrote register value offer tables) new plain does = absurd plain
  core_follows (core.Flushed dev) new plain does = absurd plain
  core_follows (core.Gave bytes) new plain does = absurd plain
  core_follows core.Failed new plain does = absurd plain
  core_follows (core.Placed dev slots offer tables) new plain does =
      one_if k (dev == n) _ past t (λ e. issued_follow k (asked_by offer slots) tables 32 past t was) was
  core_follows (core.Chose turn bytes) new plain does = turn_follows turn bytes plain does.0
  core_follows (core.Greeted frame report) new plain does = was
  core_follows (core.Commanded value) new plain does = empty_if k (falls old.registers value) past t was
  core_follows (core.Overrode dev) new plain does = was
  core_follows (core.Hung dev line) new plain does = empty_if k (dev == n) past t was
  core_follows core.Relinked new plain does = mild_follows k history.Emptied past t tt was
  core_follows core.Restarted new plain does = mild_follows k history.Emptied past t tt was

-- ---- a list of them

abbrev pub AreNoFises : Kind → (n : ℕ) → List CoreEvent → Type 0
AreNoFises k n [] = Unit {0}
AreNoFises k n (e ∷ later) = IsNoFis k n e × AreNoFises k n later

-- a device's history, beside what its FISes say
pub record Beside (k : Kind) (n : ℕ) (port : Port) (t : Option Counted) : Type 0 where
  pub past : History
  pub told : IsTold (view_of n port) past
  pub follows : Follows k past t

pub no_fault : (o : Option Fault) → device_cause o ≡ None → port_cause o ≡ None → o ≡ None
no_fault None e f = refl
no_fault (Some (fault.Device c)) e f = absurd (cc)
no_fault (Some (fault.Port c)) e f = absurd (cc)

-- where Data of the device come, this follows
abbrev pub Carries : Kind → (data' : ℕ → Option Counted → Option Counted) → (old : Port) → (frame : List ℕ) → (past : History) → (t : Option Counted) → Type 0
Carries k data' old frame past t = (c : Context) → context_of old.slots (port_of frame) ≡ Some c → c.to_host ≡ true
    → Follows k (history.Carried (drop 4 frame) ∷ past) (data' (length frame - 4) t)

pub first_core : (events : List CoreEvent) (old new : Port) (run : RunsBy old events new) → AreCores old new events run → IsCore old
first_core [] old new run are = are
first_core (e ∷ later) old new run are = are.0

module _ (k : Kind) (stream : is_blocks k ≡ false) (law : CoreViewsAreTold) (n : ℕ) (low : n < 16) where
  pub told_next : (e : CoreEvent) (old new : Port) (does : DoesBy old e new) → IsCore old → IsCore new → IsFramedBy e → (past : History) → IsTold (view_of n old) past
      → IsTold (view_of n new) (happened n old e ++ past)
  told_next e old new does one two framed past told = law n low old new (e ∷ []) (new, does, refl) (record { cores = (one, two); frames = (framed, tt) }) past told

  pub fises_none : (events : List CoreEvent) (old new : Port) (run : RunsBy old events new) → AreCores old new events run → AreFramedBy events → AreNoFises k n events → (t : Option Counted)
      → Beside k n old t → Beside k n new t
  fises_none [] old new run cores frames none t was = subst (λ (p : Port). Beside k n p t) (sym run) was
  fises_none (e ∷ later) old new run cores frames none t was =
      let next : IsCore run.0 = first_core later run.0 new run.2 cores.1 in
      fises_none later run.0 new run.2 cores.1 frames.1 none.1 t (record {
        past = happened n old e ++ was.past;
        told = told_next e old run.0 run.1 cores.0 next frames.0 was.past was.told;
        follows = core_follows k n old was.past t cores.0.slots was.told was.follows e run.0 none.0 run.1;
      })

  -- ---- a FIS

  heard_event : (old : Port) (room : Room) (frame : List ℕ) (b : Bool) → b ≡ false
      → (if b then None else event_heard (decided (port_of frame) (view_of (port_of frame) old) room (admitted (port_of frame) (seen frame))) (drop 4 frame))
      ≡ event_heard (decided (port_of frame) (view_of (port_of frame) old) room (admitted (port_of frame) (seen frame))) (drop 4 frame)
  heard_event old room frame true e = absurd (true≢false e)
  heard_event old room frame false e = refl

  fis_own : (data' : ℕ → Option Counted → Option Counted) (old new : Port) (frame : List ℕ) (room : Room) (report : TakeReport)
      → ignores (port_of frame) old frame ≡ false → Decides old (port_of frame) room (admitted (port_of frame) (seen frame)) report new → report.fault ≡ None → report.stopped ≡ None
      → (past : History) (t : Option Counted) → Follows k past t → IsTold (view_of (port_of frame) old) past → Carries k data' old frame past t
      → IsTold (view_of (port_of frame) new) (match_some (event_by old room frame) [] (λ e. e ∷ []) ++ past)
      → Follows k (match_some (event_by old room frame) [] (λ e. e ∷ []) ++ past) (told_with data' (seen frame) t)
  unfolding heard_report
  fis_own data' old new frame room report hears is well runs past t was before carries told =
      let dev : ℕ = port_of frame in
      let v : DeviceView = view_of dev old in
      let h : Heard = decided dev v room (admitted dev (seen frame)) in
      let same : event_by old room frame ≡ event_heard h (drop 4 frame) = heard_event old room frame (ignores dev old frame) hears in
      let fine : h.fault ≡ None = no_fault h.fault (ap (λ (r : TakeReport). r.fault) (sym is.reports) ∙ well) (ap (λ (r : TakeReport). r.stopped) (sym is.reports) ∙ runs) in
      let told_now : IsTold (view_after_hearing v h) (match_some (event_heard h (drop 4 frame)) [] (λ e. e ∷ []) ++ past) =
      subst (λ (o : Option Event). IsTold (view_after_hearing v h) (match_some o [] (λ e. e ∷ []) ++ past)) same
      (subst (λ (x : DeviceView). IsTold x (match_some (event_by old room frame) [] (λ e. e ∷ []) ++ past)) is.own told) in
      subst (λ (o : Option Event). Follows k (match_some o [] (λ e. e ∷ []) ++ past) (told_with data' (seen frame) t)) (sym same)
      (frame_follows k stream data' v frame past t was before carries dev room fine told_now)

  if_own : (b : Bool) (h past : History) (v : DeviceView) → b ≡ true → IsTold v ((if b then h else []) ++ past) → IsTold v (h ++ past)
  if_own true h past v e told = told
  if_own false h past v e told = absurd (false≢true e)

  own_view : (m : ℕ) (new : Port) (h : History) → m ≡ n → IsTold (view_of n new) h → IsTold (view_of m new) h
  own_view m new h same told = subst (λ (j : ℕ). IsTold (view_of j new) h) (sym same) told

  pub fis_beside : (data' : ℕ → Option Counted → Option Counted) (old new : Port) (frame : List ℕ) (room : Room) (report : TakeReport) → port_of frame ≡ n → IsCore old → IsCore new
      → IsFramedBy (core.Took frame room report) → (does : core.Hearkens old frame room report new) → report.ignored ≡ false → report.fault ≡ None → report.stopped ≡ None
      → (t : Option Counted) → (was : Beside k n old t) → Carries k data' old frame was.past t → Beside k n new (told_with data' (seen frame) t)
  fis_beside data' old new frame room report own one two framed does heard well runs t was carries =
      let h : History = match_some (event_by old room frame) [] (λ e. e ∷ []) in
      let told : IsTold (view_of n new) (h ++ was.past) =
      if_own (port_of frame == n) h was.past (view_of n new) (eq-eqb (port_of frame) n own) (told_next (core.Took frame room report) old new does one two framed was.past was.told) in
      record {
        past = h ++ was.past;
        told = told;
        follows = by (ignores (port_of frame) old frame) refl told;
      }
    where
      by : (b : Bool) → ignores (port_of frame) old frame ≡ b → IsTold (view_of n new) (match_some (event_by old room frame) [] (λ e. e ∷ []) ++ was.past)
          → Follows k (match_some (event_by old room frame) [] (λ e. e ∷ []) ++ was.past) (told_with data' (seen frame) t)
      by true e told = absurd (true≢false (ap (λ (r : TakeReport). r.ignored) (sym (does.ignored e).reports) ∙ heard))
      by false e told = fis_own data' old new frame room report e (does.heard e) well runs was.past t was.follows (own_view (port_of frame) old _ own was.told) carries
          (own_view (port_of frame) new _ own told)

  -- a FIS of another device
  other_if : (b : Bool) (h past : History) (v : DeviceView) → b ≡ false → IsTold v ((if b then h else []) ++ past) → IsTold v past
  other_if true h past v e told = absurd (true≢false e)
  other_if false h past v e told = told

  pub other_beside : (old new : Port) (frame : List ℕ) (room : Room) (report : TakeReport) → (port_of frame == n) ≡ false → IsCore old → IsCore new
      → IsFramedBy (core.Took frame room report) → core.Hearkens old frame room report new → (t : Option Counted) → Beside k n old t → Beside k n new t
  other_beside old new frame room report apart one two framed does t was = record {
    past = was.past;
    told = other_if (port_of frame == n) _ was.past (view_of n new) apart (told_next (core.Took frame room report) old new does one two framed was.past was.told);
    follows = was.follows;
  }

  -- ---- Data for the device

  pub fed_beside : (old new : Port) (dev : ℕ) (frame : List ℕ) (o : Option (ℕ × ℕ × ℕ)) → dev ≡ n → is_some o ≡ true → IsCore old → IsCore new
      → DoesBy old (core.Chose (match_some o Rests (feeds dev)) frame) new → (t : Option Counted) → Beside k n old t → Beside k n new (more_by (length frame - 4) t)
  fed_beside old new dev frame None same some one two does t was = absurd (false≢true some)
  fed_beside old new dev frame (Some x) same some one two does t was = record {
    past = history.Carried (drop 4 frame) ∷ was.past;
    told = if_own (dev == n) (history.Carried (drop 4 frame) ∷ []) was.past (view_of n new) (eq-eqb dev n same)
        (told_next (core.Chose (Feeds dev x.0 x.1 x.2) frame) old new does one two tt was.past was.told);
    follows = subst (λ (j : ℕ). Follows k (history.Carried (drop 4 frame) ∷ was.past) (more_by j t)) (length-drop 4 frame) (carried_follows k (drop 4 frame) was.past t was.follows);
  }

-- The history of a device beside what its FISes say and the Data that went to it, over the calls of a controller.
use Rattle.std.proofs.Common.{◌≡◌, ℕ, ◌-◌, length, ◌<◌, Bool, true, false, List, [], ◌∷◌, refl, sym, ap, subst, ◌∙◌, Option, Some, None}
use Rattle.std.proofs.lemmas.Bool.{eqb-true, false≢true}
use Rattle.std.specs.Prelude.{◌==◌, MatchOption, is_some, if◌then◌else◌, Result, Ok, Err}
use Rattle.fis_view.specs.{Seen.seen, declared.view.{Fis.Fis, FisFault.FisFault}}
use Rattle.fis_view.specs.declared.view.Fis.TheVariants as view
use Rattle.slots.specs.{Data.{payload, payload_len}, Slots.{Issue, Slots, context_of, issue_at, match_some}, Table.{IsContext, IsContextOf}}
use Rattle.slots.specs.{Work.is_read, declared.{table.Context.Context, work.Kind.TheVariants.QueuedWrite}}
use Rattle.hba_fbs.specs.{Choosing.{MayChoose, may_feed}, Taking.port_of, Turning.feeds, Views.view_of, declared.turn.Turn.TheVariants.Rests}
use Rattle.hba_laws.specs.{CoreHistories.FillsFrom, Cores.HasBytes}
use Rattle.ahci_controller.specs.{Feeding.{GathersIf, SendsData, SendsIf, without_feeding}, Next.is_fed, States.ControllerState}
use Rattle.ahci_controller.specs.declared.latch.Edge.{Edge}
use Rattle.ahci_controller.specs.declared.feeding.Fed.TheVariants as fed_answer
use Rattle.controller_laws.specs.Events as call
use Rattle.controller_laws.specs.Events.{Does, Event, IsController, Runs}
use Rattle.sata_disk_books.specs.Counted.{Counted, more_by}
use Rattle.machine_theorem.specs.{Feeding.{FedDataFollowSetups, IsNextOf, fed_call, fed_calls, set_by}, Following.{AllHeardWell, HearsWell}}
use Rattle.machine_theorem.proofs.{Ordered.{fed_some, last_kept}, SetupHistory.fed_follows, SetupFrames.{none_way, told_with}, SetupCores.Beside}
use Rattle.machine_theorem.proofs.{SetupCores.{match_is, way_of}, SetupCalls.{CarriesAt, Laws, first_kept, gone_beside, none_taken, starts_beside}}
use Rattle.machine_theorem.proofs.SetupCalls.{taken_beside, up_now}

-- Data of the device count for nothing
abbrev pub none_more : ℕ → Option Counted → Option Counted
none_more n t = t

set_same : (r : Result Fis FisFault) (t : Option Counted) → told_with none_more r t ≡ set_by r t
set_same (Ok (view.DmaSetup f)) t = refl
set_same (Ok (view.Payload f)) t = refl
set_same (Ok other) t = refl
set_same (Err e) t = refl

-- ---- what goes

-- what is due goes
pub record Sends (c d : ControllerState) (dev : ℕ) (message : Bool) (line : Edge) : Type 0 where
  pub sends : SendsData (without_feeding c dev) dev (fed_answer.Goes message line) d

sends_by : (due : Bool) (c d : ControllerState) (dev : ℕ) (message : Bool) (line : Edge) → SendsIf due (without_feeding c dev) dev (fed_answer.Goes message line) d
    → Sends c d dev message line
sends_by true c d dev message line h = record { sends = h }
sends_by false c d dev message line h = absurd (let no = h.1 in cc)

pub sends : (out : Bool) (c d : ControllerState) (dev : ℕ) (message : Bool) (line : Edge) → GathersIf out c dev (fed_answer.Goes message line) d → Sends c d dev message line
sends true c d dev message line h = sends_by (may_feed c.core dev) c d dev message line h
sends false c d dev message line h = absurd (let no = h.1 in cc)

-- a command of the device is issued in a slot, and no read
record IsIssued (t : Slots) (n slot : ℕ) : Type 0 where
  issue : Issue
  there : issue_at t slot ≡ Some issue
  of_dev : issue.dev ≡ n
  way : is_read issue.work.kind ≡ false

module _ (laws : Laws) (n : ℕ) (low : n < 16) where
  -- while a queued write is set up no Data come
  pub comes_none : (c : ControllerState) → IsController c → (t : Option Counted) → CarriesAt QueuedWrite refl laws n low none_more c t
  comes_none c is t frame own was context set way =
      fed_follows QueuedWrite _ was.past t
      (none_way QueuedWrite (view_of n c.core) was.past context was.told (way_of n c.core is.slots) (ap (context_of c.core.slots) (sym own) ∙ set) (λ e. false≢true (e ∙ way)))

  gone_case : (old new : ControllerState) (dev number : ℕ) (frame : List ℕ) (message : Bool) (line : Edge) (own : Bool) → (dev == n) ≡ own
      → Does old (call.Gathered dev number frame (fed_answer.Goes message line)) new → IsController old → IsController new → (t : Option Counted)
      → Beside QueuedWrite n old.core t → Beside QueuedWrite n new.core (if own then more_by (length frame - 4) t else t)
  gone_case old new dev number frame message line true own does k l t was =
      gone_beside QueuedWrite refl laws n low old new dev number frame message line does k l (eqb-true dev n own) t was
  gone_case old new dev number frame message line false own does k l t was =
      none_taken QueuedWrite refl laws n low (call.Gathered dev number frame (fed_answer.Goes message line)) old new does k l (λ e. own) t was

  pub call_fed : (e : Event) (old new : ControllerState) (does : Does old e new) → IsController old → IsController new → HearsWell n old e → (t : Option Counted)
      → Beside QueuedWrite n old.core t → Beside QueuedWrite n new.core (fed_call n e t)
  call_fed (call.Took frame took) old new does k l well t was =
      subst (λ (x : Option Counted). Beside QueuedWrite n new.core (if port_of frame == n then x else t)) (set_same (seen frame) t)
      (taken_beside QueuedWrite refl laws n low none_more old new frame took does k l well t (comes_none old k t) was)
  call_fed (call.Wrote offset value written) old new does k l well t was = none_taken QueuedWrite refl laws n low (call.Wrote offset value written) old new does k l tt t was
  call_fed (call.WroteWide offset width value written) old new does k l well t was =
      none_taken QueuedWrite refl laws n low (call.WroteWide offset width value written) old new does k l tt t was
  call_fed (call.Supplied slot number bytes supply) old new does k l well t was =
      none_taken QueuedWrite refl laws n low (call.Supplied slot number bytes supply) old new does k l tt t was
  call_fed (call.Missed slot number supply) old new does k l well t was = none_taken QueuedWrite refl laws n low (call.Missed slot number supply) old new does k l tt t was
  call_fed (call.Left frame why) old new does k l well t was = none_taken QueuedWrite refl laws n low (call.Left frame why) old new does k l tt t was
  call_fed (call.Turned next) old new does k l well t was = none_taken QueuedWrite refl laws n low (call.Turned next) old new does k l refl t was
  call_fed (call.Said write) old new does k l well t was = none_taken QueuedWrite refl laws n low (call.Said write) old new does k l tt t was
  call_fed (call.Gathered dev number frame (fed_answer.Goes message line)) old new does k l well t was =
      gone_case old new dev number frame message line (dev == n) refl does k l t was
  call_fed (call.Gathered dev number frame other) old new does k l well t was = none_taken QueuedWrite refl laws n low (call.Gathered dev number frame other) old new does k l tt t was
  call_fed (call.NotThere dev number fed) old new does k l well t was = none_taken QueuedWrite refl laws n low (call.NotThere dev number fed) old new does k l tt t was

  pub calls_fed : (events : List Event) (old new : ControllerState) (run : Runs old events new) → AllHeardWell n old events new run → (t : Option Counted)
      → Beside QueuedWrite n old.core t → Beside QueuedWrite n new.core (fed_calls n t events)
  unfolding fed_calls
  calls_fed [] old new run well t was = subst (λ (c : ControllerState). Beside QueuedWrite n c.core t) (sym run.1) was
  calls_fed (e ∷ later) old new run well t was =
      calls_fed later run.1.0 new run.1.2 well.1 (fed_call n e t)
      (call_fed e old run.1.0 run.1.1 run.0 (first_kept later run.1.0 new run.1.2) well.0 t was)

  -- ---- the slot

  -- a command of the device is issued in the slot, and no read
  issue_by : (t : Slots) (c : Context) → IsContext n t c → (b : Bool) → c.activated ≡ b → (x : ℕ × ℕ × ℕ) → (if b then Some (c.slot, c.next, payload_len c) else None) ≡ Some x → IsIssued t n x.0
  issue_by t c is true e x here =
      let i = match_is (IsContextOf n c) (issue_at t c.slot) is.1 in
      let same : c.slot ≡ x.0 = ap (λ (o : Option (ℕ × ℕ × ℕ)). match_some o c.slot (λ y. y.0)) here in
      subst (λ (k : ℕ). IsIssued t n k) same (record { issue = i.0; there = i.1.0; of_dev = i.1.1.of_dev; way = i.1.1.way ∙ (i.1.1.activates e).0 })
  issue_by t c is false e x here = absurd (cc)

  issue_of : (t : Slots) (o : Option Context) → MatchOption o (Unit {0}) (IsContext n t) → (x : ℕ × ℕ × ℕ) → payload o ≡ Some x → IsIssued t n x.0
  issue_of t None is x here = absurd (cc)
  issue_of t (Some c) is x here = issue_by t c is c.activated refl x here

  next_of : (at : ControllerState) (frame : List ℕ) (o : Option (ℕ × ℕ × ℕ)) → payload (context_of at.core.slots n) ≡ o → is_some o ≡ true → IsController at
      → MayChoose at.core (match_some o Rests (feeds n)) → HasBytes (match_some o Rests (feeds n)) frame → (t : Option Counted) → Beside QueuedWrite n at.core t
      → IsNextOf at n frame t
  next_of at frame None e some k may long t now = absurd (false≢true some)
  next_of at frame (Some x) e some k may long t now =
      let fills : FillsFrom x.0 x.1 x.2 now.past =
      laws.chosen at.core at.core [] refl (record { cores = record { port = k.port; slots = k.slots }; frames = tt }) n x.0 x.1 x.2 now.past may now.told in
      let issued : IsIssued at.core.slots n x.0 = issue_of at.core.slots (context_of at.core.slots n) (k.slots.contexts n) x e in
      record {
        slot = x.0;
        offset = x.1;
        len = x.2;
        is = ap (λ (o : Option (ℕ × ℕ × ℕ)). match_some o Rests (feeds n)) e;
        long = long;
        issue = issued.issue;
        there = issued.there;
        of_dev = issued.of_dev;
        way = issued.way;
        says = λ kind.
            now.follows x.0 (up_now QueuedWrite refl laws n low at now.past x.0 x.1 x.2 issued.issue now.told fills issued.there kind)
            ∙ ap (λ k. Some (record { tag = x.0; count = k })) fills.from;
      }

pub fed_follow : Laws → FedDataFollowSetups
fed_follow laws n low old at new events run past told none well number frame message line does =
    let now : Beside QueuedWrite n at.core (fed_calls n None events) =
    calls_fed laws n low events old at run well None (starts_beside QueuedWrite refl laws n low old.core past told none) in
    let s : Sends at new n message line = sends (is_fed at.wants n number) at new n message line does.1 in
    next_of laws n low at frame (payload (context_of at.core.slots n)) refl (fed_some at new n number (fed_answer.Goes message line) tt does.1) (last_kept events old at run)
    s.sends.may does.0 (fed_calls n None events) now

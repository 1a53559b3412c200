-- A command that is not queued and waits in its slot: the Data that go to its device are of this slot, from the byte behind those that went since it was
-- sent.
use Rattle.std.proofs.Common.{◌≡◌, ◌⊎◌, ℕ, ◌+◌, ◌<◌, ◌≤◌, ◌&&◌, Bool, true, false, not, List, [], ◌∷◌, ◌++◌, drop, length, refl, sym, ap, subst, ◌∙◌}
use Rattle.std.proofs.{Common.{inl, inr, arith, Option, Some, None}, lemmas.{Bool.{and_parts, eq-eqb, eqb-true, false≢true}, List.{length-drop}}}
use Rattle.std.specs.{Prelude.{◌==◌, ◌||◌, IfSome, MatchOption, is_some, if◌then◌else◌}, Option.option_map}
use Rattle.fis_view.specs.Seen.{seen}
use Rattle.slots.specs.{Commands.sent_issue, Data.{IsWriteOf, payload, payload_len}, Slots.{Issue, Slots, context_of, holds, is_control}}
use Rattle.slots.specs.Slots.{is_queued_issue, is_under_way, is_waiting, issue_at, match_some, own_issue, owned_by, slots_of, waiting}
use Rattle.slots.specs.{Table.{IsContext, IsContextOf, IsIssue, waits_for}, Work.{is_dma, is_queued, is_read, needs_all}}
use Rattle.slots.specs.declared.{table.Context.Context, work.{Kind.{Kind, TheVariants.Control}, Work.Work}}
use Rattle.hba_fbs.specs.{Choosing.MayChoose, Deciding.decided, Taking.{admitted, ignores, port_of}, Turning.{IsFed, feeds}, Views.DeviceView}
use Rattle.hba_fbs.specs.{Views.view_of, declared.turn.Turn.TheVariants.{Feeds, Rests}}
use Rattle.hba_laws.specs.{Agreement.{IsTold, SetupAgrees, is_for, work_of_issue, work_of_transfer}, Cores.HasBytes, Delivering.begun_by}
use Rattle.hba_laws.specs.{Delivering.{event_heard, is_control_issue}, History.{History, Setup, Transfer, bytes_of, carried, is_at, is_set_up}}
use Rattle.hba_laws.specs.History.{issued, last_setup, next_number, waiting_in}
use Rattle.hba_laws.specs.History as history
use Rattle.hba_laws.proofs.Door.{is_own, none_waits, own_here}
use Rattle.ahci_controller.specs.{Next.{is_fed, turn_to}, States.ControllerState, Taking.room_for, declared.latch.Edge.Edge}
use Rattle.ahci_controller.specs.declared.feeding.Fed.TheVariants as fed_answer
use Rattle.ahci_controller.specs.declared.next.Next.TheVariants as next
use Rattle.controller_laws.specs.{CoreEvents.{AreCoreEvents, of_event}, Events.{Does, Event, IsController}}
use Rattle.controller_laws.specs.Events as call
use Rattle.machine_theorem.specs.{Commands.issues_in, SingleData.{GoesNext, HasNoQueued, went_by}, Waits.{is_command_issue, is_commanded}}
use Rattle.machine_theorem.proofs.{CallSteps.{Heard, Idly, IsStep, Ordered, Stepped, stepped}, CoreStems.call_stems, FedCalls.{Sends, sends}}
use Rattle.machine_theorem.proofs.{FisAllowed.{IsAllowed, frame_allowed}, Ordered.fed_some, OrderedOnce.{IsOrderedOnce, ordered_once}}
use Rattle.machine_theorem.proofs.{SetupCores.{context_is, match_is, way_of}, SetupFrames.the_issue, SingleHistory.{IsEven, IsSum, even_carried}}
use Rattle.machine_theorem.proofs.SingleHistory.{even_fis, even_idle, even_order, none_carried, sum_control, sum_fis, sum_goes, sum_idle, sum_sent}
use Rattle.machine_theorem.proofs.{Stems.Stem, Waiting.{Laws, core_events}}

-- ---- a slot whose command was sent

pub issue_is : (c : ControllerState) → IsController c → (s : ℕ) (i : Issue) → issue_at c.core.slots s ≡ Some i → IsIssue i
issue_is c k s i is = subst (λ (o : Option Issue). MatchOption o (Unit {0}) IsIssue) is (k.slots.issues s)

-- a command that is not queued waits once it was sent
pub sent_waits : (i : Issue) → IsIssue i → is_queued_issue i ≡ false → i.sent ≡ true → is_waiting i ≡ true
sent_waits i is plain sent = by i.sent i.answered sent refl
  where
    by : (a b : Bool) → a ≡ true → i.answered ≡ b → (a && not b) ≡ true
    by true true e f = absurd (false≢true (sym plain ∙ (is.answers f).0))
    by true false e f = refl
    by false b e f = absurd (cc)

waits_here : (n r : ℕ) (t : Slots) (j : Issue) → issue_at t r ≡ Some j → j.dev ≡ n → is_waiting j ≡ true → waits_for n t r ≡ true
waits_here n r t j is own waits = ap (λ (o : Option Issue). holds is_waiting (owned_by n o)) is ∙ by (j.dev == n) (eq-eqb j.dev n own)
  where
    by : (b : Bool) → b ≡ true → holds is_waiting (if b then Some j else None) ≡ true
    by true e = waits
    by false e = absurd (cc)

under_way : (q a b : Bool) → q ≡ false → ((q && a) || b) ≡ true → b ≡ true
under_way true a b e f = absurd (cc)
under_way false a b e f = f

-- what is set up for the device is for the slot that waits
pub set_slot : (n s : ℕ) (c : ControllerState) → IsController c → HasNoQueued n c → (i : Issue) → issue_at c.core.slots s ≡ Some i → i.dev ≡ n → is_waiting i ≡ true
    → (x : Context) → context_of c.core.slots n ≡ Some x → x.slot ≡ s
set_slot n s c k none i is own waits x set =
    let of : IsContext n c.core.slots x = context_is n c.core x k.slots set in
    let j = match_is (IsContextOf n x) (issue_at c.core.slots x.slot) of.1 in
    let plain : is_queued_issue j.0 ≡ false = none x.slot j.0 j.1.0 j.1.1.of_dev in
    let goes : is_under_way j.0 ≡ true = under_way (is_queued_issue j.0) j.0.answered (is_under_way j.0) plain j.1.1.goes in
    let sent : j.0.sent ≡ true = (and_parts j.0.sent (needs_all j.0.work.kind) goes).0 in
    k.slots.one_waits n x.slot s (waits_here n x.slot c.core.slots j.0 j.1.0 j.1.1.of_dev (sent_waits j.0 (issue_is c k x.slot j.0 j.1.0) plain sent)) (waits_here n s c.core.slots i is own waits)

-- ---- the command of a slot goes on

-- a command of the device that is not queued waits in the slot, and so many bytes went for it
pub record Going (n s t : ℕ) (c : ControllerState) : Type 0 where
  pub past : History
  pub told : IsTold (view_of n c.core) past
  pub even : IsEven past
  pub sum : IsSum s t past
  pub issue : Issue
  pub is : issue_at c.core.slots s ≡ Some issue
  pub own : issue.dev ≡ n
  pub waits : is_waiting issue ≡ true
  pub inside : t ≤ issue.work.len

record Grown (s t : ℕ) (past : History) : Type 0 where
  even : IsEven past
  sum : IsSum s t past

none_more : (s t : ℕ) (past now : History) → now ≡ past → Grown s t past → Grown s (t + 0) now
none_more s t past now is g =
    subst (λ (h : History). Grown s (t + 0) h) (sym is) (subst (λ (k : ℕ). Grown s k past) (let none : t ≡ t + 0 = omega arith in none) g)

idle_more : (s t : ℕ) (past now : History) → Idly past now → Grown s t past → Grown s (t + 0) now
idle_more s t past now idle g =
    none_more s t (idle.events ++ past) now idle.is (record { even = even_idle idle.events past idle.idle g.even; sum = sum_idle s t idle.events past idle.idle g.sum })

some_same : (o : Option Issue) (i j : Issue) → o ≡ Some i → o ≡ Some j → i ≡ j
some_same o i j a b = ap (λ (p : Option Issue). match_some p i (λ x. x)) (sym a ∙ b)

control_dma : (k : Kind) → is_control k ≡ true → is_dma k ≡ false
control_dma Control e = refl
control_dma other e = absurd (cc)

if_heard : (b : Bool) (o : Option history.Event) (e : history.Event) → (if b then None else o) ≡ Some e → o ≡ Some e
if_heard true o e is = absurd (cc)
if_heard false o e is = is

some_allowed : (v : DeviceView) (o : Option history.Event) (e : history.Event) → o ≡ Some e → IfSome o (IsAllowed v) → IsAllowed v e
some_allowed v o e is all = subst (λ (p : Option history.Event). IfSome p (IsAllowed v)) is all

of_issue : (o : Option Transfer) (w : Work) → option_map work_of_transfer o ≡ Some w → (t : Transfer) × ((o ≡ Some t) × (t.work ≡ w))
of_issue None w e = absurd (cc)
of_issue (Some t) w e = (t, (refl, cc))

-- the context that is due
record Due (c : ControllerState) (n : ℕ) (x : ℕ × ℕ × ℕ) : Type 0 where
  context : Context
  set : context_of c.core.slots n ≡ Some context
  slot : context.slot ≡ x.0
  next : context.next ≡ x.1

due_by : (c : ControllerState) (n : ℕ) (d : Context) → context_of c.core.slots n ≡ Some d → (b : Bool) → d.activated ≡ b → (x : ℕ × ℕ × ℕ)
    → (if b then Some (d.slot, d.next, payload_len d) else None) ≡ Some x → Due c n x
due_by c n d set true on x is = record {
  context = d;
  set = set;
  slot = ap (λ (o : Option (ℕ × ℕ × ℕ)). match_some o d.slot (λ y. y.0)) is;
  next = ap (λ (o : Option (ℕ × ℕ × ℕ)). match_some o d.next (λ y. y.1)) is;
}
due_by c n d set false on x is = absurd (cc)

due_of : (c : ControllerState) (n : ℕ) (o : Option Context) → context_of c.core.slots n ≡ o → (x : ℕ × ℕ × ℕ) → payload o ≡ Some x → Due c n x
due_of c n None set x is = absurd (cc)
due_of c n (Some d) set x is = due_by c n d set d.activated refl x is

setup_next : (o : Option Setup) (past : History) (d : Context) (ends : Option ℕ) → o ≡ last_setup past → MatchOption o ⊥ (SetupAgrees d ends past) → match_some o 0 (λ g. g.offset + carried past) ≡ d.next
setup_next None past d ends is agrees = absurd agrees
setup_next (Some g) past d ends is agrees = agrees.next_is

module _ (laws : Laws) (n : ℕ) (low : n < 16) (s : ℕ) (slot_low : s < 32) where
  mine : (c : ControllerState) → IsController c → (i : Issue) → issue_at c.core.slots s ≡ Some i → i.dev ≡ n → own_issue (slots_of n c.core.slots) s ≡ Some i
  mine c k i is own =
      subst (λ (m : ℕ). own_issue (slots_of m c.core.slots) s ≡ Some i) own (own_here s c.core.slots i (let long = k.slots.slots in omega (arith, long, slot_low)) is)

  -- ---- a FIS

  heard_more : (t : ℕ) (old : ControllerState) (frame : List ℕ) (now : History) → IsController old → (g : Going n s t old) → Heard n old frame g.past now → Grown s (t + 0) now
  heard_more t old frame now k g h =
      let dev : ℕ = port_of frame in
      let own : dev ≡ n = eqb-true dev n h.own in
      let v : DeviceView = view_of dev old.core in
      let by : event_heard (decided dev v (room_for old dev) (admitted dev (seen frame))) (drop 4 frame) ≡ Some h.event =
      if_heard (ignores dev old.core frame) (event_heard (decided dev v (room_for old dev) (admitted dev (seen frame))) (drop 4 frame)) h.event h.by in
      let there : IsAllowed v h.event =
      some_allowed v (event_heard (decided dev v (room_for old dev) (admitted dev (seen frame))) (drop 4 frame)) h.event by (frame_allowed v (drop 4 frame) dev (room_for old dev) (seen frame)) in
      let allowed : IsAllowed (view_of n old.core) h.event = subst (λ (m : ℕ). IsAllowed (view_of m old.core) h.event) own there in
      none_more s t (h.event ∷ g.past) now h.is (record {
        even = even_fis (view_of n old.core) g.past g.told h.event allowed g.even;
        sum = sum_fis (view_of n old.core) g.past g.told (way_of n old.core k.slots) s t h.event allowed g.sum;
      })

  -- ---- a command

  order_is : (old : ControllerState) (new : _) (slot : ℕ) (past now : History) (o : Ordered n old new slot past now) → IsController old → IsTold (view_of n old.core) past → bytes_of slot past ≡ 0
  order_is old new slot past now o k told =
      let i : Issue = o.issue in
      let mine_is : own_issue (slots_of n old.core.slots) slot ≡ Some i =
      subst (λ (m : ℕ). own_issue (slots_of m old.core.slots) slot ≡ Some i) o.own (own_here slot old.core.slots i (let long = k.slots.slots in let below = o.low in omega (arith, long, below)) o.there) in
      let may = subst (λ (x : Option Issue). MatchOption x ⊥ (λ issue. (issue.sent ≡ false) × (is_control issue.work.kind ≡ false → waiting (slots_of issue.dev old.core.slots) ≡ None))) o.there o.may in
      none_carried (view_of n old.core) past told slot i mine_is ((issue_is old k slot i o.there).unsent may.0)

  order_more : (t : ℕ) (old new : ControllerState) (slot : ℕ) (now : History) → IsController old → (g : Going n s t old) → Ordered n old new.core slot g.past now → Grown s (t + 0) now
  order_more t old new slot now k g o = by (is_control o.issue.work.kind) refl
    where
      by : (b : Bool) → is_control o.issue.work.kind ≡ b → Grown s (t + 0) now
      by true control =
          let i : Issue = o.issue in
          let is_one : holds is_control_issue (issue_at old.core.slots slot) ≡ true = ap (holds is_control_issue) o.there ∙ control in
          let dma : is_dma i.work.kind ≡ false = control_dma i.work.kind control in
          let same : now ≡ (begun_by slot (Some i) ++ history.SentControl slot ∷ []) ++ g.past =
          o.is ∙ ap (λ (c : Bool). (begun_by slot (Some i) ++ (if c then history.SentControl slot else history.Sent slot) ∷ []) ++ g.past) is_one in
          none_more s t ((begun_by slot (Some i) ++ history.SentControl slot ∷ []) ++ g.past) now same (record {
            even = even_order slot i.work.len (is_read i.work.kind) (is_dma i.work.kind) true g.past (order_is old new.core slot g.past now o k g.told) g.even;
            sum = sum_control s t slot i.work.len (is_read i.work.kind) (is_dma i.work.kind) g.past dma g.sum;
          })
      by false plain =
          let may = subst (λ (x : Option Issue). MatchOption x ⊥ (λ issue. (issue.sent ≡ false) × (is_control issue.work.kind ≡ false → waiting (slots_of issue.dev old.core.slots) ≡ None)))
          o.there o.may in
          let none : waiting (slots_of n old.core.slots) ≡ None = ap (λ (m : ℕ). waiting (slots_of m old.core.slots)) (sym o.own) ∙ may.1 plain in
          absurd (false≢true (sym (none_waits n (slots_of n old.core.slots) (is_own n old.core.slots k.slots) none s g.issue (mine old k g.issue g.is g.own)) ∙ g.waits))

  -- ---- Data

  set_up : (t : ℕ) (old : ControllerState) → IsController old → HasNoQueued n old → (g : Going n s t old) → (x : Context) → context_of old.core.slots n ≡ Some x → is_set_up s g.past ≡ true
  set_up t old k none g x set =
      (g.told.agrees.issues_agree s g.issue (mine old k g.issue g.is g.own)).set_up_is ∙ ap (is_for s) set
      ∙ eq-eqb x.slot s (set_slot n s old k none g.issue g.is g.own g.waits x set)

  due_is : (old : ControllerState) (o : Option (ℕ × ℕ × ℕ)) → is_some o ≡ true → payload (context_of old.core.slots n) ≡ o → (x : ℕ × ℕ × ℕ) × (o ≡ Some x)
  due_is old None some is = absurd (false≢true some)
  due_is old (Some x) some is = (x, refl)

  goes_if : (dev t : ℕ) (old new : ControllerState) (number : ℕ) (frame : List ℕ) (message : Bool) (line : Edge) → Does old (call.Gathered dev number frame (fed_answer.Goes message line)) new
      → IsController old → HasNoQueued n old → (g : Going n s t old) → (now : History) → (b : Bool) → (dev == n) ≡ b
      → now ≡ (if b then history.Carried (drop 4 frame) ∷ [] else []) ++ g.past → Grown s (t + (if b then length (drop 4 frame) else 0)) now
  goes_if dev t old new number frame message line does k none g now true own is =
      let some : is_some (payload (context_of old.core.slots n)) ≡ true =
      ap (λ (m : ℕ). is_some (payload (context_of old.core.slots m))) (sym (eqb-true dev n own)) ∙ fed_some old new dev number (fed_answer.Goes message line) tt does.1 in
      let x = due_is old (payload (context_of old.core.slots n)) some refl in
      let d : Due old n x.0 = due_of old n (context_of old.core.slots n) refl x.0 x.1 in
      let up : is_set_up s g.past ≡ true = set_up t old k none g d.context d.set in
      subst (λ (h : History). Grown s (t + length (drop 4 frame)) h) (sym is)
      (record { even = even_carried (drop 4 frame) g.past g.even; sum = sum_goes s t (drop 4 frame) g.past up g.sum })
  goes_if dev t old new number frame message line does k none g now false own is = none_more s t g.past now is (record { even = g.even; sum = g.sum })

  grown : (t : ℕ) (e : Event) (old new : ControllerState) → Does old e new → IsController old → HasNoQueued n old → (g : Going n s t old) → (now : History) → IsStep n e old new.core g.past now
      → Grown s (t + went_by n e) now
  grown t (call.Took frame took) old new does k none g now (inl same) = none_more s t g.past now same (record { even = g.even; sum = g.sum })
  grown t (call.Took frame took) old new does k none g now (inr heard) = heard_more t old frame now k g heard
  grown t (call.Turned (next.Order to slot fis)) old new does k none g now (inl idle) = idle_more s t g.past now idle (record { even = g.even; sum = g.sum })
  grown t (call.Turned (next.Order to slot fis)) old new does k none g now (inr o) = order_more t old new slot now k g o
  grown t (call.Turned other) old new does k none g now step = idle_more s t g.past now step (record { even = g.even; sum = g.sum })
  grown t (call.Gathered dev number frame (fed_answer.Goes message line)) old new does k none g now step =
      goes_if dev t old new number frame message line does k none g now (dev == n) refl step
  grown t (call.Gathered dev number frame other) old new does k none g now step = idle_more s t g.past now step (record { even = g.even; sum = g.sum })
  grown t (call.Wrote offset value told) old new does k none g now step = idle_more s t g.past now step (record { even = g.even; sum = g.sum })
  grown t (call.WroteWide offset width value told) old new does k none g now step = idle_more s t g.past now step (record { even = g.even; sum = g.sum })
  grown t (call.Supplied slot number bytes told) old new does k none g now step = idle_more s t g.past now step (record { even = g.even; sum = g.sum })
  grown t (call.Missed slot number told) old new does k none g now step = idle_more s t g.past now step (record { even = g.even; sum = g.sum })
  grown t (call.Left frame why) old new does k none g now step = idle_more s t g.past now step (record { even = g.even; sum = g.sum })
  grown t (call.Said write) old new does k none g now step = idle_more s t g.past now step (record { even = g.even; sum = g.sum })
  grown t (call.NotThere dev number fed) old new does k none g now step = idle_more s t g.past now step (record { even = g.even; sum = g.sum })

  -- ---- the Data that go next

  pub goes_next : (t : ℕ) (old new : ControllerState) (number : ℕ) (frame : List ℕ) (message : Bool) (line : Edge) → Does old (call.Gathered n number frame (fed_answer.Goes message line)) new
      → IsController old → HasNoQueued n old → Going n s t old → GoesNext old n s t frame
  goes_next t old new number frame message line does k none g =
      let some : is_some (payload (context_of old.core.slots n)) ≡ true = fed_some old new n number (fed_answer.Goes message line) tt does.1 in
      let x = due_is old (payload (context_of old.core.slots n)) some refl in
      let d : Due old n x.0 = due_of old n (context_of old.core.slots n) refl x.0 x.1 in
      let h : Sends old new n message line = sends (is_fed old.wants n number) old new n message line does.1 in
      let turn : turn_to old n ≡ Feeds n x.0.0 x.0.1 x.0.2 = ap (λ (o : Option (ℕ × ℕ × ℕ)). match_some o Rests (feeds n)) x.1 in
      let may : MayChoose old.core (Feeds n x.0.0 x.0.1 x.0.2) = subst (λ (o : Option (ℕ × ℕ × ℕ)). MayChoose old.core (match_some o Rests (feeds n))) x.1 h.sends.may in
      let long : length frame ≡ 4 + x.0.2 = subst (λ (o : Option (ℕ × ℕ × ℕ)). HasBytes (match_some o Rests (feeds n)) frame) x.1 does.0 in
      let slot : x.0.0 ≡ s = sym d.slot ∙ set_slot n s old k none g.issue g.is g.own g.waits d.context d.set in
      let own : own_issue (slots_of n old.core.slots) s ≡ Some g.issue = mine old k g.issue g.is g.own in
      let fed : IsFed old.core n x.0.0 x.0.1 x.0.2 = may.1 in
      let write : IsWriteOf n x.0.1 x.0.2 g.issue =
      subst (λ (o : Option Issue). MatchOption o ⊥ (IsWriteOf n x.0.1 x.0.2)) (ap (issue_at old.core.slots) slot ∙ g.is) fed.inside in
      let up : is_set_up s g.past ≡ true = set_up t old k none g d.context d.set in
      let transfer = of_issue (issued s g.past) g.issue.work (g.told.issued s ∙ ap (λ (o : Option Issue). option_map work_of_issue o) own) in
      let kind = ap (λ (w : Work). w.kind) transfer.1.1 in
      let plain : is_queued transfer.0.work.kind ≡ false = ap is_queued kind ∙ none s g.issue g.is g.own in
      let way : is_read transfer.0.work.kind ≡ false = ap is_read kind ∙ write.write in
      let waits : is_at s (waiting_in g.past) ≡ true = (g.told.agrees.issues_agree s g.issue own).waits_is ∙ g.waits in
      let agrees = g.told.agrees.context_agrees d.context d.set in
      let next : next_number g.past ≡ d.context.next = setup_next (last_setup g.past) g.past d.context _ refl agrees.of_setup in
      let number_is : x.0.1 ≡ t = sym d.next ∙ sym next ∙ g.even s transfer.0 transfer.1.0 plain up ∙ g.sum waits transfer.0 transfer.1.0 way in
      let inside = write.inside in
      record {
        len = x.0.2;
        is = turn ∙ ap (λ (k : ℕ). Feeds n k x.0.1 x.0.2) slot ∙ ap (λ (k : ℕ). Feeds n s k x.0.2) number_is;
        long = long;
        issue = g.issue;
        there = g.is;
        of_dev = g.own;
        way = write.write;
        inside = omega (arith, inside, number_is);
      }

  -- no more go than its command moves
  most_if : (dev t : ℕ) (old new : ControllerState) (number : ℕ) (frame : List ℕ) (message : Bool) (line : Edge) → Does old (call.Gathered dev number frame (fed_answer.Goes message line)) new
      → IsController old → HasNoQueued n old → (g : Going n s t old) → (b : Bool) → (dev == n) ≡ b → t + (if b then length (drop 4 frame) else 0) ≤ g.issue.work.len
  most_if dev t old new number frame message line does k none g true own =
      let here : Does old (call.Gathered n number frame (fed_answer.Goes message line)) new =
      subst (λ (m : ℕ). Does old (call.Gathered m number frame (fed_answer.Goes message line)) new) (eqb-true dev n own) does in
      let next : GoesNext old n s t frame = goes_next t old new number frame message line here k none g in
      let inside = next.inside in
      let long = next.long in
      let short = length-drop 4 frame in
      let same = ap (λ (i : Issue). i.work.len) (some_same (issue_at old.core.slots s) next.issue g.issue next.there g.is) in
      omega (arith, inside, long, short, same)
  most_if dev t old new number frame message line does k none g false own = let inside = g.inside in omega (arith, inside)

  most : (t : ℕ) (e : Event) (old new : ControllerState) → Does old e new → IsController old → HasNoQueued n old → (g : Going n s t old) → t + went_by n e ≤ g.issue.work.len
  most t (call.Gathered dev number frame (fed_answer.Goes message line)) old new does k none g = most_if dev t old new number frame message line does k none g (dev == n) refl
  most t e old new does k none g = let inside = g.inside in omega (arith, inside)

  -- ---- it goes on

  -- it goes on as long as something is issued in the slot
  pub goes_on : (t : ℕ) (e : Event) (old new : ControllerState) → IsController old → IsController new → Does old e new → issues_in s e ≡ false → HasNoQueued n old → HasNoQueued n new
      → (j : Issue) → issue_at new.core.slots s ≡ Some j → Going n s t old → Going n s (t + went_by n e) new
  goes_on t e old new k l does clear none none_new j there g =
      let st : Stepped n e old new g.past = stepped laws n low e old new k l does g.past g.told in
      let more : Grown s (t + went_by n e) st.now = grown t e old new does k none g st.now st.step in
      let are : AreCoreEvents old.core (of_event old e new does) new.core = core_events laws n low old new e k l does in
      let stem : Stem (issue_at old.core.slots s) j = call_stems e s old new does slot_low are clear j there in
      let same : stem.issue ≡ g.issue = some_same (issue_at old.core.slots s) stem.issue g.issue stem.was g.is in
      let own : j.dev ≡ n = stem.dev ∙ ap (λ (i : Issue). i.dev) same ∙ g.own in
      let sent : j.sent ≡ true = stem.sent (ap (λ (i : Issue). i.sent) same ∙ (and_parts g.issue.sent (not g.issue.answered) g.waits).0) in
      record {
        past = st.now;
        told = st.told;
        even = more.even;
        sum = more.sum;
        issue = j;
        is = there;
        own = own;
        waits = sent_waits j (issue_is new l s j there) (none_new s j there own) sent;
        inside = (let few = most t e old new does k none g in let len = ap (λ (w : Work). w.len) (stem.work ∙ ap (λ (i : Issue). i.work) same) in omega (arith, few, len));
      }

  -- ---- its command goes

  -- nothing is set up while none waits
  none_set : (c : ControllerState) → IsController c → HasNoQueued n c → waiting (slots_of n c.core.slots) ≡ None → (o : Option Context) → context_of c.core.slots n ≡ o → o ≡ None
  none_set c k none free None set = refl
  none_set c k none free (Some x) set =
      let of : IsContext n c.core.slots x = context_is n c.core x k.slots set in
      let j = match_is (IsContextOf n x) (issue_at c.core.slots x.slot) of.1 in
      let plain : is_queued_issue j.0 ≡ false = none x.slot j.0 j.1.0 j.1.1.of_dev in
      let goes : is_under_way j.0 ≡ true = under_way (is_queued_issue j.0) j.0.answered (is_under_way j.0) plain j.1.1.goes in
      let sent : j.0.sent ≡ true = (and_parts j.0.sent (needs_all j.0.work.kind) goes).0 in
      let here : own_issue (slots_of n c.core.slots) x.slot ≡ Some j.0 =
      subst (λ (m : ℕ). own_issue (slots_of m c.core.slots) x.slot ≡ Some j.0) j.1.1.of_dev
      (own_here x.slot c.core.slots j.0 (let long = k.slots.slots in let below = of.0 in omega (arith, long, below)) j.1.0) in
      absurd (false≢true (sym (none_waits n (slots_of n c.core.slots) (is_own n c.core.slots k.slots) free x.slot j.0 here) ∙ sent_waits j.0 (issue_is c k x.slot j.0 j.1.0) plain sent))

  none_even : (c : ControllerState) (past : History) → IsTold (view_of n c.core) past → context_of c.core.slots n ≡ None → IsEven past
  none_even c past told free r t is plain up =
      let j = the_issue (issued r past) (own_issue (slots_of n c.core.slots) r) t (told.issued r) is in
      absurd (false≢true (sym (ap (is_for r) free) ∙ sym (told.agrees.issues_agree r j.0 j.1.0).set_up_is ∙ up))

  unsent_waits : (a b : Bool) → a ≡ false → (a && not b) ≡ false
  unsent_waits true b e = absurd (cc)
  unsent_waits false b e = refl

  not_true : (b : Bool) → not b ≡ true → b ≡ false
  not_true true e = absurd (cc)
  not_true false e = refl

  began : (old new : ControllerState) → IsController old → (i : Issue) → issue_at old.core.slots s ≡ Some i → i.dev ≡ n → i.sent ≡ false → is_control i.work.kind ≡ false
      → (past : History) → IsTold (view_of n old.core) past → (now : History) → Idly past now ⊎ Ordered n old new.core s past now → is_at s (waiting_in now) ≡ true → IsEven past → Grown s 0 now
  began old new k i was own unsent plain past told now (inl idle) here even =
      let not_yet : is_at s (waiting_in past) ≡ false = (told.agrees.issues_agree s i (mine old k i was own)).waits_is ∙ unsent_waits i.sent i.answered unsent in
      record {
        even = subst IsEven (sym idle.is) (even_idle idle.events past idle.idle even);
        sum = subst (IsSum s 0) (sym idle.is) (sum_idle s 0 idle.events past idle.idle (λ waits t is way. absurd (false≢true (sym not_yet ∙ waits))));
      }
  began old new k i was own unsent plain past told now (inr o) here even =
      let one : o.issue ≡ i = some_same (issue_at old.core.slots s) o.issue i o.there was in
      let is_one : holds is_control_issue (issue_at old.core.slots s) ≡ false = ap (holds is_control_issue) o.there ∙ ap (λ (x : Issue). is_control x.work.kind) one ∙ plain in
      let same : now ≡ (begun_by s (Some o.issue) ++ history.Sent s ∷ []) ++ past =
      o.is ∙ ap (λ (c : Bool). (begun_by s (Some o.issue) ++ (if c then history.SentControl s else history.Sent s) ∷ []) ++ past) is_one in
      let none : bytes_of s past ≡ 0 = order_is old new.core s past now o k told in
      record {
        even = subst IsEven (sym same) (even_order s o.issue.work.len (is_read o.issue.work.kind) (is_dma o.issue.work.kind) false past none even);
        sum = subst (IsSum s 0) (sym same) (sum_sent s o.issue.work.len (is_read o.issue.work.kind) (is_dma o.issue.work.kind) past none);
      }

  -- so it begins
  pub begins : (fis : List ℕ) (old new : ControllerState) → IsController old → IsController new → Does old (call.Turned (next.Order n s fis)) new
      → is_commanded n old (call.Turned (next.Order n s fis)) ≡ true → HasNoQueued n old → HasNoQueued n new → (past : History) → IsTold (view_of n old.core) past → Going n s 0 new
  begins fis old new k l does commanded none none_new past told =
      let e : Event = call.Turned (next.Order n s fis) in
      let long = k.slots.slots in
      let h : IsOrderedOnce s old.core new.core = ordered_once old new n s fis (omega (arith, long, slot_low)) does in
      let both = and_parts (h.issue.dev == n) (not (is_control h.issue.work.kind)) (ap (holds (is_command_issue n)) (sym h.was) ∙ commanded) in
      let own : h.issue.dev ≡ n = eqb-true h.issue.dev n both.0 in
      let plain : is_control h.issue.work.kind ≡ false = not_true (is_control h.issue.work.kind) both.1 in
      let j : Issue = sent_issue h.issue in
      let there : issue_at new.core.slots s ≡ Some j = h.sent plain in
      let free : waiting (slots_of n old.core.slots) ≡ None = ap (λ (m : ℕ). waiting (slots_of m old.core.slots)) (sym own) ∙ h.free plain in
      let st : Stepped n e old new past = stepped laws n low e old new k l does past told in
      let even : IsEven past = none_even old past told (none_set old k none free (context_of old.core.slots n) refl) in
      let waits : is_waiting j ≡ true = sent_waits j (issue_is new l s j there) (none_new s j there own) refl in
      let here : is_at s (waiting_in st.now) ≡ true = (st.told.agrees.issues_agree s j (mine new l j there own)).waits_is ∙ waits in
      let g : Grown s 0 st.now = began old new k h.issue h.was own h.unsent plain past told st.now st.step here even in
      record { past = st.now; told = st.told; even = g.even; sum = g.sum; issue = j; is = there; own = own; waits = waits; inside = omega arith }

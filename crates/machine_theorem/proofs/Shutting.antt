-- A PIO data-in that waits, and whose last block is set up, is shut: the Data of this block end it. Only the PIO Setup FIS of a last block shuts the slot of a
-- device that waits, and only a command that goes begins to wait.
use Rattle.std.proofs.Common.{◌≡◌, ℕ, ◌<◌, ◌&&◌, Bool, true, false, not, [], ◌∷◌, ◌++◌, refl, sym, ap, subst, ◌∙◌, Option, Some, None}
use Rattle.std.proofs.lemmas.Bool.{and_parts, eq-eqb, eqb-true, false≢true}
use Rattle.std.specs.{Prelude.{◌==◌, ◌||◌, IfSome, MatchOption, is_some, if◌then◌else◌}, Option.option_map}
use Rattle.fis_view.specs.Seen.{seen}
use Rattle.slots.specs.Slots.{Issue, context_of, holds, is_pio, is_queued_issue, is_waiting, issue_at, match_some, own_issue, slots_of, waiting}
use Rattle.slots.specs.{Table.{IsContext, IsContextOf, IsIssue}, Work.{is_queued, needs_all}, declared.{table.Context.Context, work.Kind.Kind}}
use Rattle.slots.specs.declared.work.Kind.TheVariants.{PioIn}
use Rattle.slots.proofs.Door.{lowest_is}
use Rattle.hba_fbs.specs.{Status.is_quiet, Taking.port_of, Views.{DeviceView, view_of}, declared.status.Block.Block}
use Rattle.hba_laws.specs.Agreement.{ContextAgrees, IsTold, SetupAgrees, end_of, is_for, is_pio_issue, work_of_issue, work_of_transfer}
use Rattle.hba_laws.specs.{CoreHistories.{event_by, history_through}, History.{Event, History, Setup, Transfer, is_at, is_set_up, issued, last_setup}}
use Rattle.hba_laws.specs.History.{unless, waiting_in}
use Rattle.hba_laws.specs.History as history
use Rattle.hba_laws.proofs.Door.{held, own_in}
use Rattle.ahci_controller.specs.States.{ControllerState}
use Rattle.controller_laws.specs.{CoreEvents.of_event, Events.{Does, Event as Call, IsController}}
use Rattle.controller_laws.specs.Events as call
use Rattle.machine_theorem.specs.Waits.{is_commanded, waits_in}
use Rattle.machine_theorem.proofs.{Calm.{IsUnsentTurn, NotSent, call_back, fis_not, one_back}, CallEvents.{AllOf, FrameIs, IsPlain, grown, turn_of}}
use Rattle.machine_theorem.proofs.{CallEvents.unsent_goes, FisEvents.{IsOpenEvent, closes, fis_open}, QuietCalls.at_some, Waiting.{Laws, core_events}}
use Rattle.machine_theorem.proofs.Waiting.{some_waits}

-- ---- histories

abbrev quiet_end : Option Setup → Bool
quiet_end g = match_some g false (λ x. match_some x.ends false is_quiet)

-- the slot that waits is set up, with a Status that ends its command
abbrev pub shut : History → Bool
shut past = match_some (waiting_in past) false (λ s. is_set_up s past && quiet_end (last_setup past))

-- no command goes, and no last block begins
abbrev IsStill : Event → Type 0
IsStill (history.Sent slot) = ⊥
IsStill (history.PioSetUp count to_host ends) = is_quiet ends ≡ false
IsStill other = Unit {0}

plain_sent : (e : Event) → IsPlain e → NotSent e
plain_sent (history.Sent slot) is = absurd is
plain_sent (history.PioSetUp count to_host ends) is = tt
plain_sent (history.Issued slot t) is = tt
plain_sent (history.SentControl slot) is = tt
plain_sent (history.SetUp tag offset count to_host) is = tt
plain_sent (history.Carried bytes) is = absurd is
plain_sent history.Answered is = tt
plain_sent (history.Named mask) is = tt
plain_sent history.Emptied is = tt

plain_still : (e : Event) → IsPlain e → IsStill e
plain_still (history.Sent slot) is = absurd is
plain_still (history.PioSetUp count to_host ends) is = absurd is
plain_still (history.Issued slot t) is = tt
plain_still (history.SentControl slot) is = tt
plain_still (history.SetUp tag offset count to_host) is = tt
plain_still (history.Carried bytes) is = absurd is
plain_still history.Answered is = tt
plain_still (history.Named mask) is = tt
plain_still history.Emptied is = tt

still_of : (e : Event) → NotSent e → IsOpenEvent e → IsStill e
still_of (history.Sent slot) sent stands = absurd sent
still_of (history.PioSetUp count to_host ends) sent stands = stands
still_of (history.Issued slot t) sent stands = tt
still_of (history.SentControl slot) sent stands = tt
still_of (history.SetUp tag offset count to_host) sent stands = tt
still_of (history.Carried bytes) sent stands = tt
still_of history.Answered sent stands = tt
still_of (history.Named mask) sent stands = tt
still_of history.Emptied sent stands = tt

some_still : (o : Option Event) → IfSome o NotSent → IfSome o IsOpenEvent → IfSome o IsStill
some_still None sent stands = tt
some_still (Some e) sent stands = still_of e sent stands

and_off : (b : Bool) → (b && false) ≡ true → ⊥
and_off true e = cc
and_off false e = cc

issued_open : (w : Option ℕ) (slot : ℕ) (up : ℕ → Bool) (q : Bool)
    → match_some (unless (is_at slot w) w) false (λ s. (if slot == s then false else up s) && q) ≡ true → match_some w false (λ s. up s && q) ≡ true
issued_open None slot up q e = absurd (cc)
issued_open (Some k) slot up q e = first (k == slot) e
  where
    second : (b : Bool) → ((if b then false else up k) && q) ≡ true → (up k && q) ≡ true
    second true e = absurd (cc)
    second false e = e

    first : (a : Bool) → match_some (unless a (Some k)) false (λ s. (if slot == s then false else up s) && q) ≡ true → (up k && q) ≡ true
    first true e = absurd (cc)
    first false e = second (slot == k) e

set_up_open : (w : Option ℕ) (up : ℕ → Bool) → match_some w false (λ s. up s && false) ≡ true → ⊥
set_up_open None up e = cc
set_up_open (Some k) up e = and_off (up k) e

pio_open : (w : Option ℕ) (ends : ℕ) (at : ℕ → Bool) (g : ℕ → Setup) → ((s : ℕ) → (g s).ends ≡ Some ends) → is_quiet ends ≡ false
    → match_some w false (λ s. at s && quiet_end (match_some w None (λ s. Some (g s)))) ≡ true → ⊥
pio_open None ends at g is quiet e = cc
pio_open (Some k) ends at g is quiet e =
    and_off (at k) (ap (λ (b : Bool). at k && b) (sym (ap (λ (o : Option ℕ). match_some o false is_quiet) (is k) ∙ quiet)) ∙ e)

one_open : (e : Event) (past : History) → IsStill e → shut (e ∷ past) ≡ true → shut past ≡ true
one_open (history.Issued slot t) past still is = issued_open (waiting_in past) slot (λ s. is_set_up s past) (quiet_end (last_setup past)) is
one_open (history.Sent slot) past still is = absurd still
one_open (history.SentControl slot) past still is = is
one_open (history.SetUp tag offset count to_host) past still is = absurd (set_up_open (waiting_in past) (λ s. tag == s) is)
one_open (history.PioSetUp count to_host ends) past still is =
    absurd (pio_open (waiting_in past) ends (λ s. is_at s (waiting_in past)) (λ s. history.pio_setup s (history.bytes_of s past) count to_host ends) (λ s. refl) still is)
one_open (history.Carried bytes) past still is = is
one_open history.Answered past still is = absurd (cc)
one_open (history.Named mask) past still is = is
one_open history.Emptied past still is = is

all_open : (h past : History) → AllOf IsStill h → shut (h ++ past) ≡ true → shut past ≡ true
all_open [] past all is = is
all_open (e ∷ h) past all is = all_open h past all.1 (one_open e (h ++ past) all.0 is)

-- a slot in which nothing is issued, and which waits behind these events: nothing is issued there
unless_none : (b : Bool) (o : Option Transfer) → o ≡ None → unless b o ≡ None
unless_none true o e = refl
unless_none false o e = e

match_none : (o : Option Transfer) (f : Transfer → Option Transfer) → o ≡ None → match_some o None f ≡ None
match_none o f e = ap (λ (p : Option Transfer). match_some p None f) e

not_at : (s : ℕ) (w : Option ℕ) → is_at s (unless (is_at s w) w) ≡ true → ⊥
not_at s w e = by (is_at s w) refl e
  where
    by : (b : Bool) → is_at s w ≡ b → is_at s (unless b w) ≡ true → ⊥
    by true is e = cc
    by false is e = false≢true (sym is ∙ e)

one_none : (s : ℕ) (e : Event) (past : History) → NotSent e → is_at s (waiting_in (e ∷ past)) ≡ true → issued s past ≡ None → issued s (e ∷ past) ≡ None
one_none s (history.Issued slot t) past sent at none = by (slot == s) refl
  where
    by : (b : Bool) → (slot == s) ≡ b → (if b then Some t else issued s past) ≡ None
    by true same = absurd (not_at s (waiting_in past) (subst (λ (k : ℕ). is_at s (unless (is_at k (waiting_in past)) (waiting_in past)) ≡ true) (eqb-true slot s same) at))
    by false apart = none
one_none s (history.Sent slot) past sent at none = absurd sent
one_none s (history.SentControl slot) past sent at none = unless_none (slot == s) (issued s past) none
one_none s history.Emptied past sent at none = refl
one_none s (history.SetUp tag offset count to_host) past sent at none = match_none (issued s past) _ none
one_none s (history.PioSetUp count to_host ends) past sent at none = match_none (issued s past) _ none
one_none s (history.Carried bytes) past sent at none = match_none (issued s past) _ none
one_none s history.Answered past sent at none = match_none (issued s past) _ none
one_none s (history.Named mask) past sent at none = match_none (issued s past) _ none

all_back : (s : ℕ) (h past : History) → AllOf NotSent h → is_at s (waiting_in (h ++ past)) ≡ true → is_at s (waiting_in past) ≡ true
all_back s [] past all at = at
all_back s (e ∷ h) past all at = all_back s h past all.1 (one_back s e all.0 (h ++ past) at)

all_none : (s : ℕ) (h past : History) → AllOf NotSent h → is_at s (waiting_in (h ++ past)) ≡ true → issued s past ≡ None → issued s (h ++ past) ≡ None
all_none s [] past all at none = none
all_none s (e ∷ h) past all at none = one_none s e (h ++ past) all.0 at (all_none s h past all.1 (one_back s e all.0 (h ++ past) at) none)

-- ---- calls

-- a PIO Setup FIS of the device that begins a last block is taken
abbrev pub is_closing : (dev : ℕ) → Call → Bool
is_closing dev (call.Took frame took) = (port_of frame == dev) && closes (seen frame)
is_closing dev e = false

second_off : (a b : Bool) → (a && b) ≡ false → a ≡ true → b ≡ false
second_off true b e f = e
second_off false b e f = absurd (cc)

frame_sent : (n : ℕ) (e : Call) → FrameIs NotSent plain_sent IsUnsentTurn (turn_of NotSent plain_sent (λ b. tt)) n e
frame_sent n (call.Took frame took) = λ same port room. fis_not port room frame
frame_sent n other = tt

frame_still : (n : ℕ) (e : Call) → is_closing n e ≡ false → FrameIs IsStill plain_still IsUnsentTurn (turn_of IsStill plain_still (λ b. tt)) n e
frame_still n (call.Took frame took) stands =
    λ same port room. some_still (event_by port room frame) (fis_not port room frame) (fis_open port room frame (second_off (port_of frame == n) (closes (seen frame)) stands same))
frame_still n other stands = tt

-- ---- the slot of a device that is shut

abbrev pub is_shut_view : DeviceView → Bool
is_shut_view v = match_some v.slots.context false (λ c. match_some v.state.block false (λ b. is_quiet b.ends))

abbrev pub is_shut : (dev : ℕ) → ControllerState → Bool
is_shut dev c = is_shut_view (view_of dev c.core)

record IsShut (v : DeviceView) : Type 0 where
  context : Context
  set : v.slots.context ≡ Some context
  block : Block
  begun : v.state.block ≡ Some block
  quiet : is_quiet block.ends ≡ true

shut_parts : (v : DeviceView) (o : Option Context) (b : Option Block) → v.slots.context ≡ o → v.state.block ≡ b
    → match_some o false (λ c. match_some b false (λ x. is_quiet x.ends)) ≡ true → IsShut v
shut_parts v None b set begun is = absurd (cc)
shut_parts v (Some c) None set begun is = absurd (cc)
shut_parts v (Some c) (Some x) set begun is = record { context = c; set = set; block = x; begun = begun; quiet = is }

match_at : {A : Type 0} (P : A → Type 0) (o : Option A) → MatchOption o ⊥ P → (x : A) × (o ≡ Some x) × P x
match_at P None h = absurd h
match_at P (Some x) h = (x, refl, h)

match_in : {A : Type 0} (P : A → Type 0) (o : Option A) (x : A) → o ≡ Some x → MatchOption o (Unit {0}) P → P x
match_in P o x is h = subst (λ (y : Option _). MatchOption y (Unit {0}) P) is h

match_is : {A : Type 0} (P : A → Type 0) (o : Option A) (x : A) → o ≡ Some x → MatchOption o ⊥ P → P x
match_is P o x is h = subst (λ (y : Option _). MatchOption y ⊥ P) is h

pio_plain : (k : Kind) → is_pio k ≡ true → is_queued k ≡ false
pio_plain PioIn e = refl
pio_plain other e = absurd (cc)

goes_sent : (q a s n : Bool) → q ≡ false → ((q && a) || (s && n)) ≡ true → s ≡ true
goes_sent true a s n e f = absurd (cc)
goes_sent false a true n e f = refl
goes_sent false a false n e f = absurd (cc)

pub sent_waits : (i : Issue) → IsIssue i → is_queued_issue i ≡ false → i.sent ≡ true → is_waiting i ≡ true
sent_waits i is plain sent = by i.sent i.answered sent refl
  where
    by : (a b : Bool) → a ≡ true → i.answered ≡ b → (a && not b) ≡ true
    by true true e f = absurd (false≢true (sym plain ∙ (is.answers f).0))
    by true false e f = refl
    by false b e f = absurd (cc)

shut_is : (past : History) (s : ℕ) (g : Setup) (ends : ℕ) → waiting_in past ≡ Some s → is_set_up s past ≡ true → last_setup past ≡ Some g
    → g.ends ≡ Some ends → is_quiet ends ≡ true
    → shut past ≡ true
shut_is past s g ends waits up last is quiet =
    ap (λ (w : Option ℕ). match_some w false (λ t. is_set_up t past && quiet_end (last_setup past))) waits ∙ ap (λ (b : Bool). b && quiet_end (last_setup past)) up
    ∙ ap quiet_end last ∙ ap (λ (o : Option ℕ). match_some o false is_quiet) is ∙ quiet

module _ (n : ℕ) (c : ControllerState) (k : IsController c) (past : History) (told : IsTold (view_of n c.core) past) where
  abbrev own : ℕ → Option Issue
  own s = own_issue (slots_of n c.core.slots) s

  -- as the view has it, so has the history
  pub shut_told : is_shut n c ≡ true → shut past ≡ true
  shut_told is =
      let v : DeviceView = view_of n c.core in
      let p : IsShut v = shut_parts v v.slots.context v.state.block refl refl is in
      let agrees : ContextAgrees own p.context (option_map end_of v.state.block) past = told.agrees.context_agrees p.context p.set in
      let kind : holds is_pio_issue (own p.context.slot) ≡ true = agrees.of_kind ∙ ap (λ (b : Option Block). is_some (option_map end_of b)) p.begun in
      let it = held is_pio_issue (own p.context.slot) kind in
      let here = own_in n p.context.slot c.core.slots it.0 it.1 in
      let of : IsContext n c.core.slots p.context = match_in (IsContext n c.core.slots) (context_of c.core.slots n) p.context p.set (k.slots.contexts n) in
      let at : IsContextOf n p.context it.0 = match_is (IsContextOf n p.context) (issue_at c.core.slots p.context.slot) it.0 here.1 of.1 in
      let plain : is_queued_issue it.0 ≡ false = pio_plain it.0.work.kind it.2 in
      let issue : IsIssue it.0 = match_in IsIssue (issue_at c.core.slots p.context.slot) it.0 here.1 (k.slots.issues p.context.slot) in
      let waits : is_waiting it.0 ≡ true = sent_waits it.0 issue plain (goes_sent (is_queued_issue it.0) it.0.answered it.0.sent (needs_all it.0.work.kind) plain at.goes) in
      let said = told.agrees.issues_agree p.context.slot it.0 it.1 in
      let g = match_at (SetupAgrees p.context (option_map end_of v.state.block) past) (last_setup past) agrees.of_setup in
      shut_is past p.context.slot g.0 p.block.ends (at_some p.context.slot (waiting_in past) (said.waits_is ∙ waits))
      (said.set_up_is ∙ ap (λ (o : Option Context). is_for p.context.slot o) p.set ∙ eq-eqb p.context.slot p.context.slot refl) g.1
      (g.2.ends_is ∙ ap (λ (b : Option Block). option_map end_of b) p.begun) p.quiet

  for_some : (s : ℕ) (o : Option Context) → is_for s o ≡ true → (x : Context) × (o ≡ Some x)
  for_some s None e = absurd (cc)
  for_some s (Some x) e = (x, refl)

  ends_some : (o : Option Block) → match_some (option_map end_of o) false is_quiet ≡ true → match_some o false (λ b. is_quiet b.ends) ≡ true
  ends_some None e = absurd (cc)
  ends_some (Some b) e = e

  -- and as the history has it, so has the view, where a slot waits
  pub shut_view : (s : ℕ) (i : Issue) → own s ≡ Some i → is_waiting i ≡ true → shut past ≡ true → is_shut n c ≡ true
  shut_view s i mine waits is =
      let v : DeviceView = view_of n c.core in
      let said = told.agrees.issues_agree s i mine in
      let at : waiting_in past ≡ Some s = at_some s (waiting_in past) (said.waits_is ∙ waits) in
      let both = and_parts (is_set_up s past) (quiet_end (last_setup past)) (ap (λ (w : Option ℕ). match_some w false (λ t. is_set_up t past && quiet_end (last_setup past))) (sym at) ∙ is) in
      let x = for_some s v.slots.context (sym said.set_up_is ∙ both.0) in
      let g = match_at (SetupAgrees x.0 (option_map end_of v.state.block) past) (last_setup past) (told.agrees.context_agrees x.0 x.1).of_setup in
      let quiet : match_some (option_map end_of v.state.block) false is_quiet ≡ true =
      ap (λ (o : Option ℕ). match_some o false is_quiet) (sym g.2.ends_is) ∙ ap quiet_end (sym g.1) ∙ both.1 in
      ap (λ (o : Option Context). match_some o false (λ y. match_some v.state.block false (λ b. is_quiet b.ends))) x.1 ∙ ends_some v.state.block quiet

  -- where nothing is set up, nothing is shut
  pub unset : (s : ℕ) (i : Issue) → own s ≡ Some i → is_waiting i ≡ true → context_of c.core.slots n ≡ None → is_set_up s past ≡ false
  unset s i mine waits none = (told.agrees.issues_agree s i mine).set_up_is ∙ ap (λ (o : Option Context). is_for s o) none

-- ---- the slot that waits

pub record OneWaits (n : ℕ) (c : ControllerState) : Type 0 where
  pub slot : ℕ
  pub issue : Issue
  pub mine : own_issue (slots_of n c.core.slots) slot ≡ Some issue
  pub waits : is_waiting issue ≡ true

pub one_waits : (n : ℕ) (c : ControllerState) → waits_in n c ≡ true → OneWaits n c
one_waits n c is = by (waiting (slots_of n c.core.slots)) refl is
  where
    by : (o : Option ℕ) → waiting (slots_of n c.core.slots) ≡ o → is_some o ≡ true → OneWaits n c
    by None at some = absurd (false≢true some)
    by (Some s) at some =
        let first = lowest_is (λ (t : ℕ). holds is_waiting (own_issue (slots_of n c.core.slots) t)) 32 s at in
        let it = held is_waiting (own_issue (slots_of n c.core.slots) s) first.passes in
        record { slot = s; issue = it.0; mine = it.1; waits = it.2 }

none_of : (o : Option Transfer) (p : Option Issue) → option_map work_of_transfer o ≡ option_map work_of_issue p → p ≡ None → o ≡ None
none_of None p e none = refl
none_of (Some t) None e none = absurd (cc)
none_of (Some t) (Some i) e none = absurd (cc)

no_issue : (o : Option Transfer) (p : Option Issue) (i : Issue) → option_map work_of_transfer o ≡ option_map work_of_issue p → o ≡ None → p ≡ Some i → ⊥
no_issue o p i e none some = by (sym (ap (λ (x : Option Transfer). option_map work_of_transfer x) none) ∙ e ∙ ap (λ (x : Option Issue). option_map work_of_issue x) some)
  where
    by : None ≡ Some i.work → ⊥
    by e = cc

module _ (laws : Laws) (n : ℕ) (below : n < 16) (e : Call) (old new : ControllerState) (k : IsController old) (l : IsController new) (does : Does old e new)
    (past : History) (told : IsTold (view_of n old.core) past) where
  abbrev pub then' : History
  then' = history_through n past old.core new.core (of_event old e new does) (core_events laws n below old new e k l does).run

  pub told_then : IsTold (view_of n new.core) then'
  told_then =
      let are = core_events laws n below old new e k l does in
      laws.views n below old.core new.core (of_event old e new does) are.run are.sound past told

  -- what waits behind a call that sends no command to the device waited before it, in the same slot
  pub waited : is_commanded n old e ≡ false → (w : OneWaits n new)
      → (i : Issue) × (own_issue (slots_of n old.core.slots) w.slot ≡ Some i) × (is_waiting i ≡ true)
  waited none w = by (own_issue (slots_of n old.core.slots) w.slot) refl
    where
      at : is_at w.slot (waiting_in then') ≡ true
      at = (told_then.agrees.issues_agree w.slot w.issue w.mine).waits_is ∙ w.waits

      by : (o : Option Issue) → own_issue (slots_of n old.core.slots) w.slot ≡ o
          → (i : Issue) × (own_issue (slots_of n old.core.slots) w.slot ≡ Some i) × (is_waiting i ≡ true)
      by None is =
          let g = grown NotSent plain_sent IsUnsentTurn (turn_of NotSent plain_sent (λ b. tt)) n e old new does (core_events laws n below old new e k
          l does).run (unsent_goes NotSent plain_sent (λ b. tt) n e old none)
          (frame_sent n e) past in
          let first : issued w.slot past ≡ None = none_of (issued w.slot past) (own_issue (slots_of n old.core.slots) w.slot) (told.issued w.slot) is in
          let now : issued w.slot then' ≡ None =
          ap (issued w.slot) g.is ∙ all_none w.slot g.more past g.all (ap (λ (h : History). is_at w.slot (waiting_in h)) (sym g.is) ∙ at) first in
          absurd (no_issue (issued w.slot then') (own_issue (slots_of n new.core.slots) w.slot) w.issue (told_then.issued w.slot) now w.mine)
      by (Some i) is =
          let back = call_back w.slot n e old new does (core_events laws n below old new e k l does).run none past at in
          (i, is, sym (told.agrees.issues_agree w.slot i is).waits_is ∙ back)

  pub waits_back : is_commanded n old e ≡ false → waits_in n new ≡ true → waits_in n old ≡ true
  waits_back none is = let w = one_waits n new is in let it = waited none w in some_waits n w.slot old k it.0 it.1 it.2

  -- what is shut behind a call that begins no last block was shut before it
  pub shut_back : is_commanded n old e ≡ false → is_closing n e ≡ false → waits_in n new ≡ true → is_shut n new ≡ true → is_shut n old ≡ true
  shut_back none stands is shuts =
      let w = one_waits n new is in
      let it = waited none w in
      let g = grown IsStill plain_still IsUnsentTurn (turn_of IsStill plain_still (λ b. tt)) n e old new does (core_events laws n below old new e k l
      does).run (unsent_goes IsStill plain_still (λ b. tt) n e old none)
      (frame_still n e stands) past in
      shut_view n old k past told w.slot it.0 it.1 it.2 (all_open g.more past g.all (ap shut (sym g.is) ∙ shut_told n new l then' told_then shuts))

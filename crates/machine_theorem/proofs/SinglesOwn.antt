-- The command that is not queued, and whose bit of PxCI falls, waited in its slot; and the last command that a disk heard.
use Rattle.std.proofs.Common.{◌≡◌, ◌⊎◌, ℕ, ◌+◌, ◌<◌, ◌&&◌, Bool, true, false, not, List, [], ◌∷◌, ◌++◌, Option, Some}
use Rattle.std.proofs.{Common.{None, refl, sym, ap, subst, ◌∙◌, inl, inr, arith}, lemmas.Bool.{and_parts, eqb-true, false≢true}}
use Rattle.std.proofs.lemmas.{Grind.{flat_map-append}}
use Rattle.std.specs.{Prelude.{◌==◌, ◌||◌, if◌then◌else◌, IfSome, MatchOption}, List.flat_map}
use Rattle.slots.specs.Slots.{Issue, context_of, holds, is_control, is_pio, is_queued_issue, is_waiting, issue_at, own_issue, slots_of}
use Rattle.slots.specs.{Table.{IsContext, IsContextOf, IsIssue}, Work.needs_all, declared.{table.Context.Context, work.Work.Work}}
use Rattle.hba_fbs.specs.{Views.view_of, Taking.port_of}
use Rattle.hba_laws.specs.{Agreement.{IsTold, is_for as is_for_slot}, History.{Answered, Carried, Event as HistoryEvent, History, completes, is_at}}
use Rattle.hba_laws.specs.History.{is_set_up, waiting_in}
use Rattle.hba_laws.proofs.Door.{own_here}
use Rattle.ahci_controller.specs.{States.ControllerState, Taking.room_for}
use Rattle.controller_laws.specs.{Events.{IsController}}
use Rattle.block_command.specs.Laws.{IsEarned}
use Rattle.block_disk.specs.Laws.{Page}
use Rattle.sata_disk_books.specs.{Ended.{HasEarned}}
use Rattle.sata_disk_laws.specs.{Calls.{Call, Hears}}
use Rattle.machine_laws.specs.{Falling.{heard_by}}
use Rattle.machine_theorem.specs.{Completed.{IsCompleted, IsEndedInHistory}}
use Rattle.machine_theorem.specs.{Identity.{picks}, InTurn.{AreKeptOn}}
use Rattle.machine_theorem.specs.{InTurn.{heard_in, is_answering, is_asking}}
use Rattle.machine_theorem.specs.{Waits.{is_command_issue}}
use Rattle.machine_theorem.proofs.{AnswersHeard.{IsMild, fis_mild}}
use Rattle.machine_theorem.proofs.{Commanded.{heard_long}, ErrorNone.{IsErrorFis, error_none}}
use Rattle.machine_theorem.proofs.{OneConn.{no_length}}
use Rattle.machine_theorem.proofs.{Within.{picks_both}}

-- ---- the slot whose bit falls waits

-- a command that is not queued waits once it was sent
pub sent_waits : (i : Issue) → IsIssue i → is_queued_issue i ≡ false → i.sent ≡ true → is_waiting i ≡ true
sent_waits i is plain sent = by i.sent i.answered sent refl
  where
    by : (a b : Bool) → a ≡ true → i.answered ≡ b → (a && not b) ≡ true
    by true true e f = absurd (false≢true (sym plain ∙ (is.answers f).0))
    by true false e f = refl
    by false b e f = absurd (cc)

the_context : (s : ℕ) (o : Option Context) → is_for_slot s o ≡ true → (c : Context) × ((o ≡ Some c) × (c.slot ≡ s))
the_context s None e = absurd (cc)
the_context s (Some c) e = (c, (refl, eqb-true c.slot s e))

goes_sent : (q a s n : Bool) → q ≡ false → ((q && a) || (s && n)) ≡ true → s ≡ true
goes_sent true a s n e f = absurd (cc)
goes_sent false a true n e f = refl
goes_sent false a false n e f = absurd (cc)

pub same_issue : (o : Option Issue) (i j : Issue) → o ≡ Some i → o ≡ Some j → i ≡ j
same_issue o i j a b = by (sym a ∙ b)
  where
    by : Some i ≡ Some j → i ≡ j
    by e = cc

match_at : {A : Type 0} (P : A → Type 0) (o : Option A) (x : A) → o ≡ Some x → MatchOption o ⊥ P → P x
match_at P o x is h = subst (λ (y : Option _). MatchOption y ⊥ P) is h

match_in : {A : Type 0} (P : A → Type 0) (o : Option A) (x : A) → o ≡ Some x → MatchOption o (Unit {0}) P → P x
match_in P o x is h = subst (λ (y : Option _). MatchOption y (Unit {0}) P) is h

module _ (slot : ℕ) (low : slot < 32) (c : ControllerState) (k : IsController c) (i : Issue) (there : issue_at c.core.slots slot ≡ Some i) (plain : is_queued_issue i ≡ false) where
  pub issue_is : IsIssue i
  issue_is = match_in IsIssue (issue_at c.core.slots slot) i there (k.slots.issues slot)

  pub mine : own_issue (slots_of i.dev c.core.slots) slot ≡ Some i
  mine = own_here slot c.core.slots i (let long = k.slots.slots in omega (arith, long, low)) there

  -- the one that is set up was sent
  pub set_up_sent : (cx : Context) → context_of c.core.slots i.dev ≡ Some cx → cx.slot ≡ slot → i.sent ≡ true
  set_up_sent cx is same =
      let of : IsContext i.dev c.core.slots cx = match_in (IsContext i.dev c.core.slots) (context_of c.core.slots i.dev) cx is (k.slots.contexts i.dev) in
      let at : IsContextOf i.dev cx i = match_at (IsContextOf i.dev cx) (issue_at c.core.slots cx.slot) i (ap (issue_at c.core.slots) same ∙ there) of.1 in
      goes_sent (is_queued_issue i) i.answered i.sent (needs_all i.work.kind) plain at.goes

  waits_told : (past : History) → IsTold (view_of i.dev c.core) past → (is_at slot (waiting_in past) ≡ true) ⊎ (is_set_up slot past ≡ true) → is_waiting i ≡ true
  waits_told past told (inl waits) = sym (told.agrees.issues_agree slot i mine).waits_is ∙ waits
  waits_told past told (inr up) =
      let cx = the_context slot (context_of c.core.slots i.dev) (sym (told.agrees.issues_agree slot i mine).set_up_is ∙ up) in
      sent_waits i issue_is plain (set_up_sent cx.0 cx.1.0 cx.1.1)

first_of_three : (a b c : Bool) → (a && b && c) ≡ true → a ≡ true
first_of_three true b c e = refl
first_of_three false b c e = absurd (cc)

first_of_four : (a b c d : Bool) → (a && b && c && d) ≡ true → a ≡ true
first_of_four true b c d e = refl
first_of_four false b c d e = absurd (cc)

pub second_of_four : (a b c d : Bool) → (a && b && c && d) ≡ true → b ≡ true
second_of_four true true c d e = refl
second_of_four true false c d e = absurd (cc)
second_of_four false b c d e = absurd (cc)

pub ended_as : (slot : ℕ) (e : HistoryEvent) (past : History) (w : Work) → (e ≡ Answered) ⊎ ((bytes : List ℕ) × (e ≡ Carried bytes)) → completes slot e past w ≡ true
    → (is_at slot (waiting_in past) ≡ true) ⊎ (is_set_up slot past ≡ true)
ended_as slot e past w (inl answered) done = inl (first_of_three (is_at slot (waiting_in past)) _ _ (ap (λ (x : HistoryEvent). completes slot x past w) (sym answered) ∙ done))
ended_as slot e past w (inr carried) done = inr (first_of_four (is_set_up slot past) _ _ _ (ap (λ (x : HistoryEvent). completes slot x past w) (sym carried.1) ∙ done))

pub completed_waits : (slot : ℕ) → slot < 32 → (c : ControllerState) → IsController c → (frame : List ℕ) → IsEndedInHistory c frame slot → (i : Issue) → issue_at c.core.slots slot ≡ Some i
    → is_queued_issue i ≡ false → is_waiting i ≡ true
completed_waits slot low c k frame ended i there plain =
    let done : IsCompleted slot ended.past c frame = ended.completed in
    let same : done.issue ≡ i = same_issue (issue_at c.core.slots slot) done.issue i done.is there in
    let plain_done : is_queued_issue done.issue ≡ false = ap is_queued_issue same ∙ plain in
    let is : IsIssue done.issue = issue_is slot low c k done.issue done.is plain_done in
    ap is_waiting (sym same) ∙ waits_told slot low c k done.issue done.is plain_done (ended.past done.issue.dev) (ended.told done.issue.dev is.dev_below)
    (ended_as slot done.event (ended.past done.issue.dev) done.issue.work (done.kind plain_done) done.completes)

-- a FIS that completes a command is no error
pub no_error : (slot : ℕ) (c : ControllerState) (frame : List ℕ) → IsEndedInHistory c frame slot → IsErrorFis frame → ⊥
no_error slot c frame ended error =
    by (sym (error_none c.core (room_for c (port_of frame)) frame error.kind error.error) ∙ ended.completed.heard)
  where
    by : None ≡ Some ended.completed.event → ⊥
    by e = cc

-- it is a Register FIS, unless the command is a PIO data-in
register_ends : (slot : ℕ) (e : HistoryEvent) (past : History) (w : Work) (b : Bool) → (b ≡ false → IfSome (Some e) IsMild) → (e ≡ Answered) ⊎ ((bytes : List ℕ) × (e ≡ Carried bytes))
    → completes slot e past w ≡ true → is_pio w.kind ≡ false → b ≡ true
register_ends slot e past w true mild kind done other = refl
register_ends slot e past w false mild (inl answered) done other = absurd (subst IsMild answered (mild refl))
register_ends slot e past w false mild (inr carried) done other =
    absurd (false≢true (sym other ∙ second_of_four (is_set_up slot past) (is_pio w.kind) _ _ (ap (λ (x : HistoryEvent). completes slot x past w) (sym carried.1) ∙ done)))

pub completed_by : (slot : ℕ) (c : ControllerState) (frame : List ℕ) → IsEndedInHistory c frame slot → (i : Issue) → issue_at c.core.slots slot ≡ Some i → is_queued_issue i ≡ false
    → is_pio i.work.kind ≡ false → is_answering frame ≡ true
completed_by slot c frame ended i there plain other =
    let done : IsCompleted slot ended.past c frame = ended.completed in
    let same : done.issue ≡ i = same_issue (issue_at c.core.slots slot) done.issue i done.is there in
    register_ends slot done.event (ended.past done.issue.dev) done.issue.work (is_answering frame)
    (λ none. subst (λ (o : Option HistoryEvent). IfSome o IsMild) done.heard (fis_mild c.core (room_for c (port_of frame)) frame none))
    (done.kind (ap is_queued_issue same ∙ plain)) done.completes (ap (λ (x : Issue). is_pio x.work.kind) same ∙ other)

-- ---- the last command that the disk heard

pub last_heard : (calls front later : List Call) (bytes : List ℕ) → calls ≡ front ++ Hears bytes ∷ later → is_asking bytes ≡ true → heard_in later ≡ 0
    → picks is_asking (flat_map heard_by calls) ≡ picks is_asking (flat_map heard_by front) ++ bytes ∷ []
last_heard calls front later bytes split asks none =
    ap (λ (l : List Call). picks is_asking (flat_map heard_by l)) split
    ∙ ap (picks is_asking) (flat_map-append heard_by front (Hears bytes ∷ later))
    ∙ picks_both is_asking (flat_map heard_by front) (bytes ∷ flat_map heard_by later)
    ∙ ap (λ (l : List (List ℕ)). picks is_asking (flat_map heard_by front) ++ l)
    (ap (λ (b : Bool). if b then bytes ∷ picks is_asking (flat_map heard_by later) else picks is_asking (flat_map heard_by later)) asks
    ∙ ap (λ (l : List (List ℕ)). bytes ∷ l) (no_length (picks is_asking (flat_map heard_by later)) (heard_long later ∙ none)))

pub kept_behind : (xs : List Call) (y : Call) (ys : List Call) → AreKeptOn (xs ++ y ∷ ys) → AreKeptOn ys
kept_behind [] y ys on = on.1
kept_behind (x ∷ xs) y ys on = kept_behind xs y ys on.1

pub kept_first : (xs ys : List Call) → AreKeptOn (xs ++ ys) → AreKeptOn xs
kept_first [] ys on = tt
kept_first (x ∷ xs) ys on = (on.0, kept_first xs ys on.1)

pub record Earns (x : Option Page) : Type 0 where
  pub page : Page
  pub is : x ≡ Some page
  pub earned : IsEarned page.command page.ledger page.command.write

pub earns : (x : Option Page) → HasEarned x → Earns x
earns None earned = absurd earned
earns (Some page) earned = record { page = page; is = refl; earned = earned }

-- ---- the owner of a slot

pub owner_is : (to dev : ℕ) (o : Option Issue) → MatchOption o ⊥ (λ i. i.dev ≡ to) → holds (is_command_issue dev) o ≡ true → to ≡ dev
owner_is to dev None owner is = absurd owner
owner_is to dev (Some i) owner is = sym owner ∙ eqb-true i.dev dev (and_parts (i.dev == dev) (not (is_control i.work.kind)) is).0

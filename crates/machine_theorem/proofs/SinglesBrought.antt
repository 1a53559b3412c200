-- Each byte of a read that is not queued, and that the guest sees completed, was brought at a moment of the machine's run, and written.
use Rattle.std.proofs.Common.{◌≡◌, ◌⊎◌, ℕ, ◌<◌, ◌||◌, Bool, true, false, not, List, [], ◌∷◌, ◌++◌, inl, inr, refl, sym, ap, subst, ◌∙◌, arith, Option}
use Rattle.std.proofs.{Common.{Some, None}, lemmas.Bool.{and_parts, false≢true}}
use Rattle.std.specs.{Prelude.{MatchOption, is_some}, Option.option_map}
use Rattle.slots.specs.{Bytes.is_over, Slots.{Issue, holds, is_pio, is_queued_issue, issue_at, match_some, own_issue}, Table.IsIssue, Work.is_queued}
use Rattle.slots.specs.{Work.needs_all, declared.work.Kind.{Kind, TheVariants.{DmaIn, PioIn}}}
use Rattle.hba_fbs.specs.Views.{view_of}
use Rattle.hba_laws.proofs.Door.{own_here}
use Rattle.hba_laws.specs.{Agreement.{IssueAgrees, IsTold, work_of_issue}, History.{Event, History, completes, filled, is_all_filled, issued}}
use Rattle.hba_laws.specs.History as history
use Rattle.ahci_controller.specs.States.{ControllerState}
use Rattle.controller_laws.specs.{Ends.IssuesFall, Events.IsController}
use Rattle.controller_laws.specs.Events as call
use Rattle.ahci_machine.specs.States.{HasRules, IsOpeningMachine, MachineState}
use Rattle.machine_laws.specs.{ControllerLaws.{ControllerRuns, RunsRuled, calls_in}, Deeds.Deed}
use Rattle.machine_theorem.specs.{Completed.IsEndedInHistory, SingleReads.{CameBefore, ComesLast, IsSingleDone, IsWrittenBefore, SingleIsBrought}}
use Rattle.machine_theorem.specs.SingleReads.{SinglesAreBrought, SinglesAreBroughtSince, SinglesAreWritten, is_sent_read, is_single_read}
use Rattle.machine_theorem.proofs.BroughtAt as moments
use Rattle.machine_theorem.proofs.{BroughtAt.{Brought, all_at, came_since}, Completed.{ended_now, transfer_of}, Falls.kept_of, FilledCalls.last_back}
use Rattle.machine_theorem.proofs.{FilledCalls.{no_single_read, single_reads}, FilledFrames.brings_not, Ordered.first_ruled, Own.last_ruled}
use Rattle.machine_theorem.proofs.{SentOnce.none_told, Stretch.whole_run, WrittenBytes.{idle_opens, idle_run, started_of, table_is, written_then}}
use Rattle.machine_theorem.proofs.WrittenBytes as written

pub record Laws : Type 0 where
  pub written : written.Laws
  pub fall : IssuesFall

-- ---- the kinds

pub not_queued : (r : Kind) → is_single_read r ≡ true → is_queued r ≡ false
not_queued DmaIn single = refl
not_queued PioIn single = refl
not_queued other single = absurd (cc)

moves_data : (r : Kind) → is_single_read r ≡ true → needs_all r ≡ true
moves_data DmaIn single = refl
moves_data PioIn single = refl
moves_data other single = absurd (cc)

or_second : (a b : Bool) → a ≡ true → (not a || b) ≡ true → b ≡ true
or_second true b e f = f
or_second false b e f = absurd (false≢true e)

-- ---- a byte that was brought in the run

abbrev pub single_is : (r : Kind) (n s k : ℕ) (at : MachineState) (deeds : List Deed) (now : MachineState) (run : RunsRuled at deeds now)
    → Brought r n s k at deeds now run → SingleIsBrought r n s k at deeds now run
single_is r n s k at deeds now run b = record {
  sooner = b.cut.sooner;
  mid = b.cut.mid;
  led = b.cut.led;
  took = b.took;
  after = b.cut.next;
  does = b.cut.does;
  later = b.cut.later;
  rest = b.cut.rest;
  is = b.cut.is;
  calls = b.cut.events;
  brings = b.brings;
  alone = b.alone;
  once = b.once;
}

-- what came before does not come again
abbrev before_is : (slot k : ℕ) (at : MachineState) (deeds : List Deed) (now : MachineState) (run : RunsRuled at deeds now) (issue : Issue)
    (done : IsSingleDone now slot issue) → IsController now.controller → is_over issue.over k ≡ true
    → Brought issue.work.kind issue.dev slot k at deeds now run → CameBefore slot k at deeds now run issue done
before_is slot k at deeds now run issue done kept over b = record {
  brought = single_is issue.work.kind issue.dev slot k at deeds now run b;
  once =
      let h = done.does.does in
      brings_not now.controller done.does.middle.controller kept.slots slot k h.frame.bytes done.took
      (record { framed = h.framed; free = h.free; hears = h.hears }) issue done.is over;
}

-- ---- the bit falls

module _ (laws : Laws) (ports : ℕ) (legacy : Bool) (old : MachineState) (opening : IsOpeningMachine ports legacy old) (before : List Deed) (at : MachineState)
    (first : RunsRuled old before at) (deeds : List Deed) (now : MachineState) (run : RunsRuled at deeds now) (slot : ℕ) (low : slot < 32) (issue : Issue)
    (done : IsSingleDone now slot issue) (none : holds (is_sent_read issue.dev) (issue_at at.controller.core.slots slot) ≡ false) (k : ℕ)
    (small : k < issue.work.len) where
  abbrev facts : moments.Laws
  facts = laws.written.moments

  abbrev kind : Kind
  kind = issue.work.kind

  abbrev frame : List ℕ
  frame = done.does.does.frame.bytes

  abbrev c : ControllerState
  c = done.does.middle.controller

  rules : HasRules now
  rules = last_ruled deeds at now run

  kept : IsController now.controller
  kept = kept_of facts.falls now rules

  kept_then : IsController c
  kept_then = subst IsController (ap (λ (m : MachineState). m.controller) done.does.turns) (kept_of facts.falls done.new done.rules)

  takes : call.Takes now.controller frame done.took c
  takes = let h = done.does.does in record { framed = h.framed; free = h.free; hears = h.hears }

  whole : (all : RunsRuled old (before ++ deeds) now) × (calls_in old (before ++ deeds) now all ≡ calls_in old before at first ++ calls_in at deeds now run)
  whole = let w = whole_run before old at first deeds now run in (w.all, w.calls)

  ended : IsEndedInHistory now.controller frame slot
  ended =
      ended_now facts.falls laws.fall ports legacy old opening (before ++ deeds) now whole.0 done.took done.new done.does done.rules slot low
      done.shows done.hides done.free

  -- the command that ends stands in the slot
  same : ended.completed.issue ≡ issue
  same = ap (λ (o : Option Issue). match_some o issue (λ i. i)) (sym ended.completed.is ∙ done.is)

  dev_low : issue.dev < 16
  dev_low = (subst (λ (o : Option Issue). MatchOption o (Unit {0}) IsIssue) done.is (rules.slots.issues slot)).dev_below

  abbrev past : History
  past = ended.past issue.dev

  told : IsTold (view_of issue.dev now.controller.core) past
  told = ended.told issue.dev dev_low

  mine : own_issue (view_of issue.dev now.controller.core).slots slot ≡ Some issue
  mine = own_here slot now.controller.core.slots issue (let long = rules.slots.slots in omega (arith, long, low)) done.is

  agrees : IssueAgrees slot issue (view_of issue.dev now.controller.core).slots.context past
  agrees = told.agrees.issues_agree slot issue mine

  completes_it : completes slot ended.completed.event past issue.work ≡ true
  completes_it = subst (λ (i : Issue). completes slot ended.completed.event (ended.past i.dev) i.work ≡ true) same ended.completed.completes

  started : now.controller.core.registers.started ≡ true
  started =
      let opens = first_ruled (before ++ deeds) old now whole.0 in
      let runs : ControllerRuns old (before ++ deeds) now whole.0 =
      facts.falls.runs old (before ++ deeds) now whole.0 (facts.falls.opens ports legacy old opening opens).due in
      started_of slot now.controller (idle_run facts.falls slot low (calls_in old (before ++ deeds) now whole.0) old.controller now.controller runs.calls
      (idle_opens facts.falls ports legacy old opening opens slot low)) issue done.is

  -- it came before
  abbrev Came : Type 0
  Came = Brought kind issue.dev slot k at deeds now run

  pub came : is_over issue.over k ≡ true → Came
  came over =
      came_since facts ports legacy old opening before at first deeds now run kind (single_reads kind done.kind) issue.dev dev_low slot low
      (no_single_read kind issue.dev (issue_at at.controller.core.slots slot) done.kind none) issue done.is refl refl k over

  was_filled : is_some (filled slot past k) ≡ true → is_over issue.over k ≡ true
  was_filled f = agrees.over_is k ∙ f

  -- or it comes by the last Data of a PIO data-in
  answered : completes slot history.Answered past issue.work ≡ true → is_over issue.over k ≡ true
  answered e =
      let all = (and_parts _ (not (needs_all kind) || is_all_filled (filled slot past) issue.work.len) e).1 in
      was_filled (all_at (filled slot past) issue.work.len k
      (or_second (needs_all kind) (is_all_filled (filled slot past) issue.work.len) (moves_data kind done.kind) all) small)

  last : (bytes : List ℕ) → ended.completed.event ≡ history.Carried bytes → completes slot (history.Carried bytes) past issue.work ≡ true
      → ComesLast slot k now issue done ⊎ (is_over issue.over k ≡ true)
  last bytes is e =
      let parts = and_parts _ (is_all_filled (filled slot (history.Carried bytes ∷ past)) issue.work.len) e in
      let block = and_parts _ _ parts.0 in
      let pio = (and_parts _ (is_pio kind) block.0).1 in
      let t = transfer_of (issued slot past) issue.work (told.issued slot ∙ ap (option_map work_of_issue) mine) in
      let own = sym (ap (λ (i : Issue). i.dev) same) ∙ ended.completed.own in
      elim (last_back kind (single_reads kind done.kind) facts.setup issue.dev dev_low slot k now.controller c frame done.took takes kept kept_then started
      (sym own) past told bytes t.0 (ended.completed.heard ∙ ap (λ (x : Event). Some x) is) t.1.0 (ap (λ w. w.kind) t.1.1)
      (all_at (filled slot (history.Carried bytes ∷ past)) issue.work.len k parts.1 small)) [
        | inl brings ↦ inl (record { pio = pio; brings = brings })
        | inr has ↦ inr (was_filled has.filled)
      ]

  pub by_event : ComesLast slot k now issue done ⊎ (is_over issue.over k ≡ true)
  by_event = elim (ended.completed.kind (ap is_queued_issue same ∙ not_queued kind done.kind)) [
    | inl is ↦ inr (answered (subst (λ (x : Event). completes slot x past issue.work ≡ true) is completes_it))
    | inr data' ↦ last data'.0 data'.1 (subst (λ (x : Event). completes slot x past issue.work ≡ true) data'.1 completes_it)
  ]

  pub brought_or_last : CameBefore slot k at deeds now run issue done ⊎ ComesLast slot k now issue done
  brought_or_last = elim by_event [
    | inl comes ↦ inr comes
    | inr over ↦ inl (before_is slot k at deeds now run issue done kept over (came over))
  ]

-- ---- the laws

pub singles_are_since : Laws → SinglesAreBroughtSince
singles_are_since laws ports legacy old opening before at first deeds now run slot low issue done none k small =
    brought_or_last laws ports legacy old opening before at first deeds now run slot low issue done none k small

-- as a machine opens none stands there
none_opens : (laws : Laws) (ports : ℕ) (legacy : Bool) (old : MachineState) → IsOpeningMachine ports legacy old → HasRules old → (slot : ℕ) → slot < 32 → (dev : ℕ)
    → holds (is_sent_read dev) (issue_at old.controller.core.slots slot) ≡ false
none_opens laws ports legacy old opening rules slot low dev = by (issue_at old.controller.core.slots slot) refl
  where
    by : (o : Option Issue) → issue_at old.controller.core.slots slot ≡ o → holds (is_sent_read dev) o ≡ false
    by None e = refl
    by (Some i) e =
        let falls = laws.written.moments.falls in
        absurd (none_told old.controller slot (kept_of falls old rules) low (falls.opens ports legacy old opening rules).told i e)

pub singles_are_brought : Laws → SinglesAreBrought
singles_are_brought laws ports legacy old opening deeds now run slot low issue done k small =
    let rules = first_ruled deeds old now run in
    brought_or_last laws ports legacy old opening [] old (rules, refl) deeds now run slot low issue done
    (none_opens laws ports legacy old opening rules slot low issue.dev) k small

-- what came before is written
written_now : (laws : Laws) (ports : ℕ) (legacy : Bool) (old : MachineState) (opening : IsOpeningMachine ports legacy old) (deeds : List Deed) (now : MachineState)
    (run : RunsRuled old deeds now) (slot : ℕ) → slot < 32 → (issue : Issue) (done : IsSingleDone now slot issue) (k : ℕ) → k < issue.work.len → HasRules old
    → is_over issue.over k ≡ true → Brought issue.work.kind issue.dev slot k old deeds now run → IsWrittenBefore slot k old deeds now run issue done
written_now laws ports legacy old opening deeds now run slot low issue done k small rules over b =
    let kind = issue.work.kind in
    record {
      came = before_is slot k old deeds now run issue done (kept_of laws.written.moments.falls now (last_ruled deeds old now run)) over b;
      written = record {
        written =
            written_then laws.written ports legacy old opening [] old (rules, refl) deeds now run kind issue.dev slot k low issue done.is
            done.does.does.free b;
        supplied =
            table_is laws.written ports legacy old opening [] old (rules, refl) deeds now run kind issue.dev slot k low issue done.is
            done.does.does.free b run;
      };
    }

pub singles_are_written : Laws → SinglesAreWritten
singles_are_written laws ports legacy old opening deeds now run slot low issue done k small =
    let rules = first_ruled deeds old now run in
    let none = none_opens laws ports legacy old opening rules slot low issue.dev in
    elim (by_event laws ports legacy old opening [] old (rules, refl) deeds now run slot low issue done none k small) [
      | inl comes ↦ inr comes
      | inr over ↦ inl (written_now laws ports legacy old opening deeds now run slot low issue done k small rules over
          (came laws ports legacy old opening [] old (rules, refl) deeds now run slot low issue done none k small over))
    ]

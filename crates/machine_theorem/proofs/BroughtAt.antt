-- Each byte of a read that came was brought at a moment of the machine's run. So it is of a queued read that the guest sees completed.
use Rattle.std.proofs.Common.{◌≡◌, ◌⊎◌, ℕ, ◌+◌, ◌<◌, Bool, true, false, List, [], ◌∷◌, ◌++◌, inl, inr, refl, sym, ap, subst, ◌∙◌, arith, get_or}
use Rattle.std.proofs.{Common.{Option, Some, None}, lemmas.{Bool.{cases_Bool, false≢true}, List.{Folds.list_all_at, FromFn.{get_or-range_with_len}}}}
use Rattle.std.proofs.lemmas.List.FromFn.{length-range_with_len}
use Rattle.std.specs.{Prelude.{◌==◌, MatchOption, is_some}, List.range_with_len}
use Rattle.slots.specs.{Bytes.is_over, Slots.{Issue, holds, issue_at, match_some, own_issue}, Table.IsIssue, Work.is_read, declared.work.Kind.Kind}
use Rattle.slots.specs.declared.work.Kind.TheVariants.{QueuedRead}
use Rattle.hba_fbs.specs.Views.{view_of}
use Rattle.hba_laws.proofs.Door.{own_here}
use Rattle.hba_laws.specs.History.{filled, is_all_filled}
use Rattle.ahci_controller.specs.{States.ControllerState, declared.taking.Took.Took}
use Rattle.controller_laws.specs.Events as call
use Rattle.controller_laws.specs.Events.{Event, IsController, Runs}
use Rattle.ahci_machine.specs.States.{HasRules, IsOpeningMachine, MachineState}
use Rattle.ahci_machine.specs.declared.act.Act.TheVariants as act
use Rattle.machine_laws.specs.{ControllerLaws.{RunsRuled, calls_in}, Controllers.{ControllerGoesOn, GathersDue, StaysDue, deed_calls}, Deeds.Deed}
use Rattle.machine_laws.specs.Deeds.{Moved}
use Rattle.machine_theorem.specs.{Brought.{ByteIsBrought, IsReadDone, ReadsAreBrought, ReadsAreBroughtSince}, Commands.AreNotIssued}
use Rattle.machine_theorem.specs.{Filled.AreNotBrought, Orders.is_sent_of, ReadsWritten.NoneTaken, SingleReads.{BringsFor, WasBroughtFor}}
use Rattle.machine_theorem.proofs.{Cut.{Cut, cut_here, cut_more}, Falls.{Told, kept_of, named_by, told_now}, FilledCalls.{Then, calls_behind}}
use Rattle.machine_theorem.proofs.{FilledCalls.{came_at_last, no_queued_read, none_at_first, queued_brings}, FilledCores.Behind, Ordered.first_ruled}
use Rattle.machine_theorem.proofs.{Own.last_ruled, SentOnce.none_told, StillStands.none_both, Stretch.whole_run, WasTaken.deed_none}
use Rattle.machine_theorem.proofs.Falls as falls
use Rattle.machine_theorem.proofs.SetupCalls as setup

pub record Laws : Type 0 where
  pub falls : falls.Laws
  pub setup : setup.Laws
  pub goes : ControllerGoesOn
  pub due : StaysDue

-- ---- the call that brings it

no_split : {A : Type 0} (before later : List Event) (e : Event) → [] ≡ before ++ e ∷ later → A
no_split [] later e is = absurd (cc)
no_split (x ∷ before) later e is = absurd (cc)

none_here : {A : Type 0} (before : List Event) (frame : List ℕ) (took : Took) (later : List Event) → NoneTaken (before ++ call.Took frame took ∷ later) → A
none_here [] frame took later none = absurd none
none_here (call.Took f t ∷ before) frame took later none = absurd none
none_here (call.Wrote offset value written ∷ before) frame took later none = none_here before frame took later none
none_here (call.WroteWide offset width value written ∷ before) frame took later none = none_here before frame took later none
none_here (call.Supplied slot number bytes supply ∷ before) frame took later none = none_here before frame took later none
none_here (call.Missed slot number supply ∷ before) frame took later none = none_here before frame took later none
none_here (call.Left f why ∷ before) frame took later none = none_here before frame took later none
none_here (call.Turned next ∷ before) frame took later none = none_here before frame took later none
none_here (call.Said write ∷ before) frame took later none = none_here before frame took later none
none_here (call.Gathered d number f fed ∷ before) frame took later none = none_here before frame took later none
none_here (call.NotThere d number fed ∷ before) frame took later none = none_here before frame took later none

none_brings : {A : Type 0} (r : Kind) (n s k : ℕ) (old : ControllerState) (events : List Event) (new : ControllerState) → NoneTaken events
    → WasBroughtFor r n s k old events new → A
none_brings r n s k old events new none b = none_here b.sooner b.frame b.took b.later (subst NoneTaken b.is none)

abbrev head_frame : List ℕ → List Event → List ℕ
head_frame f (call.Took g t ∷ later) = g
head_frame f other = f

abbrev head_took : Took → List Event → Took
head_took t (call.Took g u ∷ later) = u
head_took t other = t

abbrev tail_of : List Event → List Event
tail_of [] = []
tail_of (e ∷ later) = later

-- a list of one call that brings it is this call
one_brings : (r : Kind) (n s k : ℕ) (c : ControllerState) (f : List ℕ) (t : Took) (before : List Event) (mid : ControllerState) → Runs c before mid
    → (frame : List ℕ) (took : Took) (later : List Event)
    → call.Took f t ∷ [] ≡ before ++ call.Took frame took ∷ later → BringsFor r n s k mid frame took → BringsFor r n s k c f t
one_brings r n s k c f t [] mid led frame took later is brings =
    subst (λ (x : ControllerState). BringsFor r n s k x f t) led.1
    (subst (λ (x : List ℕ). BringsFor r n s k mid x t) (sym (ap (head_frame f) is))
    (subst (λ (x : Took). BringsFor r n s k mid frame x) (sym (ap (head_took t) is)) brings))
one_brings r n s k c f t (x ∷ before) mid led frame took later is brings = no_split before later (call.Took frame took) (ap tail_of is)

once_both : (s k : ℕ) (xs ys : List Event) → AreNotBrought s k xs → AreNotBrought s k ys → AreNotBrought s k (xs ++ ys)
once_both s k [] ys a b = b
once_both s k (x ∷ xs) ys a b = (a.0, once_both s k xs ys a.1 b)

-- ---- the deed

-- a deed of the run takes a FIS that brings it; since then nothing is issued in the slot, and it is not brought again
pub record Brought (r : Kind) (n s k : ℕ) (at : MachineState) (deeds : List Deed) (now : MachineState) (run : RunsRuled at deeds now) : Type 0 where
  pub took : Took
  pub cut : Cut (Moved (act.Takes took)) at deeds now run
  pub brings : BringsFor r n s k cut.mid.controller cut.does.does.frame.bytes took
  pub alone : AreNotIssued s (calls_in cut.next cut.later now cut.rest)
  pub once : AreNotBrought s k (calls_in cut.next cut.later now cut.rest)

-- it came before, and by none of these deeds a command is issued in the slot, or the byte brought again; or one of them brings it
abbrev pub Since : Kind → (n s k : ℕ) → (at : MachineState) → (deeds : List Deed) → (now : MachineState) → RunsRuled at deeds now → Type 0 → Type 0
Since r n s k at deeds now run A =
    (A × AreNotIssued s (calls_in at deeds now run) × AreNotBrought s k (calls_in at deeds now run)) ⊎ Brought r n s k at deeds now run

brought_by : (r : Kind) (n s k : ℕ) (deed : Deed) (at : MachineState) (later : List Deed) (now : MachineState) (run : RunsRuled at (deed ∷ later) now)
    → WasBroughtFor r n s k at.controller (deed_calls at deed run.1.0 run.1.1) run.1.0.controller → AreNotIssued s (calls_in run.1.0 later now run.1.2)
    → AreNotBrought s k (calls_in run.1.0 later now run.1.2) → Brought r n s k at (deed ∷ later) now run
unfolding cut_here
brought_by r n s k (Moved (act.Takes took)) at later now run b alone once = record {
  took = took;
  cut = cut_here (Moved (act.Takes took)) later at now run;
  brings = one_brings r n s k at.controller run.1.1.does.frame.bytes took b.sooner b.mid b.led b.frame b.took b.later b.is b.brings;
  alone = alone;
  once = once;
}
brought_by r n s k deed at later now run b alone once =
    none_brings r n s k at.controller (deed_calls at deed run.1.0 run.1.1) run.1.0.controller (deed_none at deed run.1.0 run.1.1 tt) b

pub brought_behind : (r : Kind) (n s k : ℕ) (deed : Deed) (at : MachineState) (later : List Deed) (now : MachineState) (run : RunsRuled at (deed ∷ later) now)
    → Brought r n s k run.1.0 later now run.1.2
    → Brought r n s k at (deed ∷ later) now run
unfolding cut_more
brought_behind r n s k deed at later now run b = record {
  took = b.took;
  cut = cut_more (Moved (act.Takes b.took)) deed later at now run b.cut;
  brings = b.brings;
  alone = b.alone;
  once = b.once;
}

-- ---- the run

module _ (laws : Laws) (r : Kind) (reads : is_read r ≡ true) (n : ℕ) (low : n < 16) (s k : ℕ) where
  pub run_behind : (deeds : List Deed) (at now : MachineState) (run : RunsRuled at deeds now) (A : Type 0) → GathersDue at → Behind r n s k at.controller.core A
      → Behind r n s k now.controller.core (Since r n s k at deeds now run A)
  run_behind [] at now run A due was =
      subst (λ (m : MachineState). Behind r n s k m.controller.core ((A × Unit {0} × Unit {0}) ⊎ Brought r n s k at [] now run)) (sym run.1) (record {
        past = was.past;
        told = was.told;
        back = λ c. inl (was.back c, tt, tt);
      })
  run_behind (deed ∷ later) at now run A due was =
      let mid : MachineState = run.1.0 in
      let events : List Event = deed_calls at deed mid run.1.1 in
      let calls : Runs at.controller events mid.controller = laws.goes at deed mid run.1.1 run.0 (first_ruled later mid now run.1.2) due in
      let one : Behind r n s k mid.controller.core (Then r n s k at.controller events mid.controller A) =
      calls_behind r reads laws.setup n low s k events at.controller mid.controller calls A was in
      let rest = run_behind later mid now run.1.2 (Then r n s k at.controller events mid.controller A) (laws.due at deed mid run.1.1 due) one in
      record { past = rest.past; told = rest.told; back = λ c. by (rest.back c) }
    where
      by : Since r n s k run.1.0 later now run.1.2 (Then r n s k at.controller (deed_calls at deed run.1.0 run.1.1) run.1.0.controller A)
          → Since r n s k at (deed ∷ later) now run A
      by (inr b) = inr (brought_behind r n s k deed at later now run b)
      by (inl (inl before, none, once)) =
          let events : List Event = deed_calls at deed run.1.0 run.1.1 in
          let rest : List Event = calls_in run.1.0 later now run.1.2 in
          inl (before.0, none_both s events rest before.1 none, once_both s k events rest before.2 once)
      by (inl (inr b, none, once)) = inr (brought_by r n s k deed at later now run b none once)

-- ---- the bit falls

pub all_at : (g : ℕ → Option ℕ) (len k : ℕ) → is_all_filled g len ≡ true → k < len → is_some (g k) ≡ true
all_at g len k all lt = elim (cases_Bool (is_some (g k))) [
  | inl here ↦ here
  | inr missing ↦
      let long = length-range_with_len 0 len in
      let first : 0 + k ≡ k = omega arith in
      let at : is_some (g (get_or (range_with_len 0 len) k 0)) ≡ false = ap (λ (i : ℕ). is_some (g i)) (get_or-range_with_len 0 len k 0 lt ∙ first) ∙ missing in
      absurd (false≢true (sym (list_all_at (λ (i : ℕ). is_some (g i)) (range_with_len 0 len) k 0 (omega (arith, long, lt)) at) ∙ all))
]

module _ (laws : Laws) (now : MachineState) (rules : HasRules now) (t : Told now.controller) (slot : ℕ) (low : slot < 32) (issue : Issue)
    (done : IsReadDone now slot issue) where
  dev_low : issue.dev < 16
  dev_low = (subst (λ (o : Option Issue). MatchOption o (Unit {0}) IsIssue) done.is (rules.slots.issues slot)).dev_below

  -- each byte of the read came
  over_now : (k : ℕ) → k < issue.work.len → is_over issue.over k ≡ true
  over_now k below =
      let named = named_by laws.falls now done.took done.new done.does rules done.rules t slot low done.shows done.hides in
      let same : named.issue ≡ issue = ap (λ (o : Option Issue). match_some o issue (λ i. i)) (sym named.is ∙ done.is) in
      let moved : is_all_filled (filled slot (t.past issue.dev)) issue.work.len ≡ true =
      subst (λ (i : Issue). is_all_filled (filled slot (t.past i.dev)) i.work.len ≡ true) same named.moved in
      let mine : own_issue (view_of issue.dev now.controller.core).slots slot ≡ Some issue =
      own_here slot now.controller.core.slots issue (let long = rules.slots.slots in omega (arith, long, low)) done.is in
      ((t.told issue.dev dev_low).agrees.issues_agree slot issue mine).over_is k ∙ all_at (filled slot (t.past issue.dev)) issue.work.len k moved below

-- a byte that was brought in the run
abbrev pub byte_is : (n s k : ℕ) (at : MachineState) (deeds : List Deed) (now : MachineState) (run : RunsRuled at deeds now)
    → Brought QueuedRead n s k at deeds now run → ByteIsBrought n s k at deeds now run
byte_is n s k at deeds now run b = record {
  sooner = b.cut.sooner;
  mid = b.cut.mid;
  led = b.cut.led;
  took = b.took;
  after = b.cut.next;
  does = b.cut.does;
  later = b.cut.later;
  rest = b.cut.rest;
  is = b.cut.is;
  calls = b.cut.events;
  brings = queued_brings n s k b.cut.mid.controller b.cut.does.does.frame.bytes b.took b.brings;
  alone = b.alone;
  once = b.once;
}

-- ---- the laws

module _ (laws : Laws) (ports : ℕ) (legacy : Bool) (old : MachineState) (opening : IsOpeningMachine ports legacy old) (before : List Deed) (at : MachineState)
    (first : RunsRuled old before at) (deeds : List Deed) (now : MachineState) (run : RunsRuled at deeds now) where
  due_first : GathersDue at
  due_first = (laws.falls.runs old before at first (laws.falls.opens ports legacy old opening (first_ruled before old at first)).due).due

  -- a byte that came of what is issued in a slot, where no such command that was sent stood there as the stretch began
  pub came_since : (r : Kind) → is_read r ≡ true → (n : ℕ) → n < 16 → (slot : ℕ) → slot < 32
      → ((i : Issue) → issue_at at.controller.core.slots slot ≡ Some i → i.dev ≡ n → i.work.kind ≡ r → i.sent ≡ false)
      → (issue : Issue) → issue_at now.controller.core.slots slot ≡ Some issue → issue.dev ≡ n → issue.work.kind ≡ r
      → (k : ℕ) → is_over issue.over k ≡ true → Brought r n slot k at deeds now run
  came_since r reads n n_low slot low none issue is own kind k over =
      let rules : HasRules now = last_ruled deeds at now run in
      let then' : Told at.controller = told_now laws.falls ports legacy old opening before at first in
      let past = then'.past n in
      let start : Behind r n slot k at.controller.core ⊥ = record {
        past = past;
        told = then'.told n n_low;
        back = λ c. none_at_first r n n_low slot k at.controller (kept_of laws.falls at (first_ruled deeds at now run)) past (then'.told n n_low) none c;
      } in
      let last = run_behind laws r reads n n_low slot k deeds at now run ⊥ due_first start in
      by (last.back (came_at_last r n n_low slot k now.controller (kept_of laws.falls now rules) last.past last.told low issue is own kind over))
    where
      by : Since r n slot k at deeds now run ⊥ → Brought r n slot k at deeds now run
      by (inl none) = absurd none.0
      by (inr b) = b

  pub brought_since : (slot : ℕ) → slot < 32 → (issue : Issue) → IsReadDone now slot issue
      → holds (is_sent_of (λ dev. dev == issue.dev)) (issue_at at.controller.core.slots slot) ≡ false
      → (k : ℕ) → k < issue.work.len → Brought QueuedRead issue.dev slot k at deeds now run
  brought_since slot low issue done none k below =
      let rules : HasRules now = last_ruled deeds at now run in
      let whole = whole_run before old at first deeds now run in
      let t : Told now.controller = told_now laws.falls ports legacy old opening (before ++ deeds) now whole.all in
      came_since QueuedRead refl issue.dev (dev_low laws now rules t slot low issue done) slot low
      (no_queued_read issue.dev (issue_at at.controller.core.slots slot) none) issue done.is refl done.kind k
      (over_now laws now rules t slot low issue done k below)

pub reads_are_since : Laws → ReadsAreBroughtSince
reads_are_since laws ports legacy old opening before at first deeds now run slot low issue done none k below =
    byte_is issue.dev slot k at deeds now run (brought_since laws ports legacy old opening before at first deeds now run slot low issue done none k below)

-- from the opening
pub brought_ever : (laws : Laws) (ports : ℕ) (legacy : Bool) (old : MachineState) → IsOpeningMachine ports legacy old → (deeds : List Deed) (now : MachineState)
    (run : RunsRuled old deeds now) (slot : ℕ) → slot < 32 → (issue : Issue) → IsReadDone now slot issue → (k : ℕ) → k < issue.work.len
    → Brought QueuedRead issue.dev slot k old deeds now run
brought_ever laws ports legacy old opening deeds now run slot low issue done k below =
    let rules : HasRules old = first_ruled deeds old now run in
    let opens = laws.falls.opens ports legacy old opening rules in
    brought_since laws ports legacy old opening [] old (rules, refl) deeds now run slot low issue done
    (by (issue_at old.controller.core.slots slot) (λ i is. none_told old.controller slot (kept_of laws.falls old rules) low opens.told i is)) k below
  where
    by : (o : Option Issue) → ((i : Issue) → o ≡ Some i → ⊥) → holds (is_sent_of (λ dev. dev == issue.dev)) o ≡ false
    by None none = refl
    by (Some i) none = absurd (none i refl)

pub reads_are_brought : Laws → ReadsAreBrought
reads_are_brought laws ports legacy old opening deeds now run slot low issue done k below =
    byte_is issue.dev slot k old deeds now run (brought_ever laws ports legacy old opening deeds now run slot low issue done k below)

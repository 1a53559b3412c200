-- A write that is not queued, and that a FIS completes: all its bytes went.
use Rattle.std.proofs.Common.{◌≡◌, ◌⊎◌, ℕ, ◌<◌, Bool, true, false, cond, not, List, [], ◌∷◌, length, Option, Some, None, refl, sym, ap, subst, ◌∙◌}
use Rattle.std.proofs.{Common.{inl, inr, arith, count_by}, lemmas.{Bool.{and_parts, false≢true}, List.FromFn.{length-range_with_len}}}
use Rattle.std.proofs.lemmas.List.Sums.{sum_by-cons}
use Rattle.std.specs.{Prelude.{◌&&◌, ◌||◌}, List.list_all, Option.option_map}
use Rattle.slots.specs.{Bytes.{bytes as all_bytes, came_of, is_over, is_whole}, Setup.came, Slots.{Issue, is_pio, is_queued_issue, is_waiting}}
use Rattle.slots.specs.{Slots.{is_whole_issue, issue_at, own_issue, slots_of}, Table.IsIssue, Work.{HasDataExactly, is_queued, is_read, needs_all}}
use Rattle.slots.specs.declared.work.{Kind.{Kind, TheVariants.{Control, DmaOut, NoData, PioOut}}, Work.Work}
use Rattle.hba_fbs.specs.Views.{view_of}
use Rattle.hba_laws.specs.{Agreement.{IsTold, work_of_issue, work_of_transfer}, History.{Answered, Carried, Event as HistoryEvent, History, Transfer}}
use Rattle.hba_laws.specs.History.{completes, filled, is_all_filled, is_at, is_set_up, issued, waiting_in}
use Rattle.hba_laws.proofs.Door.{own_here, whole_is}
use Rattle.ahci_controller.specs.States.{ControllerState}
use Rattle.controller_laws.specs.Events.{IsController}
use Rattle.machine_theorem.specs.Completed.{IsCompleted, IsEndedInHistory}
use Rattle.machine_theorem.proofs.{SingleCalls.{Going, issue_is}, SinglesOwn.{same_issue, second_of_four}}

-- ---- bytes

abbrev cond_of : Bool → ℕ
cond_of b = cond b 1 0

all_counted : (p : ℕ → Bool) (xs : List ℕ) → list_all p xs ≡ true → count_by p xs ≡ length xs
all_counted p [] all = refl
all_counted p (x ∷ xs) all =
    let both = and_parts (p x) (list_all p xs) all in
    let one = sum_by-cons (λ (k : ℕ). cond_of (p k)) x xs in
    let rest = all_counted p xs both.1 in
    let here : cond_of (p x) ≡ 1 = ap cond_of both.0 in
    omega (arith, one, rest, here)

came_all : (i : Issue) → is_whole_issue i ≡ true → came i ≡ i.work.len
unfolding is_whole came_of
came_all i whole = all_counted (is_over i.over) (all_bytes i.work.len) whole ∙ length-range_with_len 0 i.work.len

-- ---- what completes

-- of a command that goes to the device, and is not queued, all bytes must move, or it has none
needs_or : (k : Kind) (len : ℕ) → is_read k ≡ false → is_queued k ≡ false → HasDataExactly k len → (needs_all k ≡ true) ⊎ (len ≡ 0)
needs_or DmaOut len way plain h = inl refl
needs_or PioOut len way plain h = inl refl
needs_or NoData len way plain h = inr h
needs_or Control len way plain h = inr h
needs_or other len way plain h = absurd (cc)

or_of : (n f : Bool) → (not n || f) ≡ true → n ≡ true → f ≡ true
or_of true f e is = e
or_of false f e is = absurd (cc)

third_of_three : (a b c : Bool) → (a && b && c) ≡ true → c ≡ true
third_of_three true true c e = e
third_of_three true false c e = absurd (cc)
third_of_three false b c e = absurd (cc)

filled_by : (s : ℕ) (e : HistoryEvent) (past : History) (w : Work) → (e ≡ Answered) ⊎ ((bytes : List ℕ) × (e ≡ Carried bytes)) → completes s e past w ≡ true → is_pio w.kind ≡ false → needs_all w.kind ≡ true
    → is_all_filled (filled s past) w.len ≡ true
filled_by s e past w (inl answered) done other needs =
    let all : completes s Answered past w ≡ true = ap (λ (x : HistoryEvent). completes s x past w) (sym answered) ∙ done in
    or_of (needs_all w.kind) (is_all_filled (filled s past) w.len)
    (third_of_three (is_at s (waiting_in past)) (not (is_queued w.kind)) (not (needs_all w.kind) || is_all_filled (filled s past) w.len) all) needs
filled_by s e past w (inr carried) done other needs =
    absurd (false≢true (sym other ∙ second_of_four (is_set_up s past) (is_pio w.kind) _ _ (ap (λ (x : HistoryEvent). completes s x past w) (sym carried.1) ∙ done)))

of_issue : (o : Option Transfer) (w : Work) → option_map work_of_transfer o ≡ Some w → (t : Transfer) × ((o ≡ Some t) × (t.work ≡ w))
of_issue None w e = absurd (cc)
of_issue (Some t) w e = (t, (refl, cc))

-- ---- the command of a slot

module _ (n s : ℕ) (low : s < 32) (c : ControllerState) (k : IsController c) (i : Issue) (there : issue_at c.core.slots s ≡ Some i) (own : i.dev ≡ n) where
  mine : own_issue (slots_of n c.core.slots) s ≡ Some i
  mine = subst (λ (m : ℕ). own_issue (slots_of m c.core.slots) s ≡ Some i) own (own_here s c.core.slots i (let long = k.slots.slots in omega (arith, long, low)) there)

  -- so many of its bytes moved
  moved : (t : ℕ) → Going n s t c → is_read i.work.kind ≡ false → came i ≡ t
  moved t g way =
      let same : g.issue ≡ i = same_issue (issue_at c.core.slots s) g.issue i g.is there in
      let transfer = of_issue (issued s g.past) i.work (g.told.issued s ∙ ap (λ (o : Option Issue). option_map work_of_issue o) mine) in
      let waits : is_at s (waiting_in g.past) ≡ true = (g.told.agrees.issues_agree s i mine).waits_is ∙ ap is_waiting (sym same) ∙ g.waits in
      (g.told.agrees.issues_agree s i mine).came_is ∙ g.sum waits transfer.0 transfer.1.0 (ap (λ (w : Work). is_read w.kind) transfer.1.1 ∙ way)

  -- a FIS completes it, and it needs all of them
  whole : (frame : List ℕ) → IsEndedInHistory c frame s → is_queued_issue i ≡ false → is_pio i.work.kind ≡ false → needs_all i.work.kind ≡ true → came i ≡ i.work.len
  whole frame ended plain other needs =
      let done : IsCompleted s ended.past c frame = ended.completed in
      let same : done.issue ≡ i = same_issue (issue_at c.core.slots s) done.issue i done.is there in
      let is : IsIssue i = issue_is c k s i there in
      let past : History = ended.past i.dev in
      let filled_all : is_all_filled (filled s past) i.work.len ≡ true =
      subst (λ (j : Issue). is_all_filled (filled s (ended.past j.dev)) j.work.len ≡ true) same
      (filled_by s done.event (ended.past done.issue.dev) done.issue.work (done.kind (ap is_queued_issue same ∙ plain)) done.completes (ap (λ (j : Issue). is_pio j.work.kind) same ∙ other)
      (ap (λ (j : Issue). needs_all j.work.kind) same ∙ needs)) in
      let told : IsTold (view_of i.dev c.core) past = ended.told i.dev is.dev_below in
      let here : own_issue (slots_of i.dev c.core.slots) s ≡ Some i = own_here s c.core.slots i (let long = k.slots.slots in omega (arith, long, low)) there in
      came_all i (whole_is s i (view_of i.dev c.core).slots.context past (told.agrees.issues_agree s i here) ∙ filled_all)

  pub all_went : (t : ℕ) → Going n s t c → (frame : List ℕ) → IsEndedInHistory c frame s → is_queued_issue i ≡ false → is_pio i.work.kind ≡ false → is_read i.work.kind ≡ false → t ≡ i.work.len
  all_went t g frame ended plain other way =
      let is : IsIssue i = issue_is c k s i there in
      let same : g.issue ≡ i = same_issue (issue_at c.core.slots s) g.issue i g.is there in
      let inside = g.inside in
      let len = ap (λ (j : Issue). j.work.len) same in
      elim (needs_or i.work.kind i.work.len way plain is.work.2) [
        | inl needs ↦ sym (moved t g way) ∙ whole frame ended plain other needs
        | inr none ↦ (omega (arith, inside, len, none))
      ]

-- For `done_is_free`. A request ends as Done only if the port has nothing in its slot.
use Rattle.std.proofs.Common.{◌≡◌, ◌≢◌, ℕ, ◌<◌, ◌≤◌, ◌⊎◌, Bool, true, false, ◌&&◌, max, List, bit_or, refl, sym, ◌∙◌, ap, subst, inl, inr, arith, Option, Some, None}
use Rattle.std.specs.{Prelude.{if◌then◌else◌, ◌==◌, not, MatchOption}, Int.bit_at, Option.option_map}
use Rattle.std.proofs.lemmas.{Bool.{cases_Bool, false≢true, true≢false}, Bool.Decides.nat_tests, Nat.Bits.{bit_at-lt, bit_at_or}}
use Rattle.slots.specs.{Commands.{is_unanswered, slots_where}, Slots.{Issue, has_bit, holds as issue_holds, is_queued_issue, issue_at}}
use Rattle.slots.specs.Table.{IsIssue, IsTable}
use Rattle.slots.proofs.Door.{has_bit_mask}
use Rattle.host_memory.specs.Memory.{Memory}
use Rattle.hba_fbs.specs.{Offsets.register_at, Reading.value_of, Views.Port}
use Rattle.hba_driver.specs.declared.{mode.Mode.Mode, order.Order.{Order, TheVariants.Clear}, path.Stage.{Stage, TheVariants.AssertReset}}
use Rattle.hba_driver.specs.declared.{path.TaskFile.TaskFile, request.Outcome.TheVariants.{Aborted, DeviceError, Done, PortError, Removed}}
use Rattle.hba_driver.specs.{declared.sight.ErrorLog.ErrorLog, Seeing.Sight, declared.slot.Head.Head}
use Rattle.hba_driver.specs.declared.{slot.Phase.{Phase, TheVariants.{Issued, Aside, Ended}}, turn.Act.Act, turn.Logged.Logged}
use Rattle.hba_driver.specs.{Drivers.{Driver, Entry, entry_at, has_ended, has_ended_in, is_issued, rephase, rephase_all, rephased}, Laws.DoneIsFree}
use Rattle.hba_driver.specs.Sights.{px_ci, px_sact, shown, sight_of}
use Rattle.hba_driver.specs.Ticks.{acted, after_tick, done_ended, entries_after, is_aside_of, is_done, is_named_of, is_open, is_open_of, log_outcome}
use Rattle.hba_driver.specs.Ticks.{logged_ended, removed, seen, stage_ended, turn}
use Rattle.hba_driver.specs.declared.turn.Act.TheVariants as act
use Rattle.hba_driver.proofs.{ticks.LifeLemmas.entry_of_rephased, calls.RequestLemmas.set_cases, requests.StandLemmas.in_slots}

-- ---- the bits of PxCI and PxSACT

ci_is : (port : Port) → shown port px_ci ≡ slots_where is_unanswered port.slots
unfolding shown register_at value_of
ci_is port = refl

sact_is : (port : Port) → shown port px_sact ≡ bit_or port.registers.armed (slots_where is_queued_issue port.slots)
unfolding shown register_at value_of
sact_is port = refl

-- a bit of a mask or of two
one_or : (x y m : ℕ) → m ≡ max x y → x ≤ 1 → y ≤ 1 → (m == 1) ≡ false → ((x == 1) ≡ false) × ((y == 1) ≡ false)
one_or x y m is xs ys h = (grind (arith, nat_tests), grind (arith, nat_tests))

bit_small : (a k : ℕ) → bit_at a k ≤ 1
bit_small a k = omega (arith, bit_at-lt a k)

or_false : (a b k : ℕ) → has_bit (bit_or a b) k ≡ false → (has_bit a k ≡ false) × (has_bit b k ≡ false)
or_false a b k h = one_or (bit_at a k) (bit_at b k) (bit_at (bit_or a b) k) (bit_at_or a b k) (bit_small a k) (bit_small b k) h

not_false : (b : Bool) → not b ≡ false → b ≡ true
not_false true h = refl
not_false false h = absurd (true≢false h)

none_issued : (o : Option Issue) → MatchOption o (Unit {0}) IsIssue → issue_holds is_unanswered o ≡ false → issue_holds is_queued_issue o ≡ false → o ≡ None
none_issued None h a q = refl
none_issued (Some i) h a q = absurd (true≢false (sym (h.answers (not_false i.answered a)).0 ∙ q))

pub free_slot : (mode : Mode) (port : Port) (memory : Memory) (s : ℕ) → IsTable port.slots → s < 32 → has_bit (sight_of mode port memory).issued s ≡ false → issue_at port.slots s ≡ None
unfolding sight_of
free_slot mode port memory s table below h =
    let bits = or_false (shown port px_ci) (shown port px_sact) s h in
    let unanswered : has_bit (slots_where is_unanswered port.slots) s ≡ false = ap (λ (n : ℕ). has_bit n s) (sym (ci_is port)) ∙ bits.0 in
    let armed = or_false port.registers.armed (slots_where is_queued_issue port.slots) s (ap (λ (n : ℕ). has_bit n s) (sym (sact_is port)) ∙ bits.1) in
    none_issued (issue_at port.slots s) (table.issues s)
    (sym (has_bit_mask (λ slot. issue_holds is_unanswered (issue_at port.slots slot)) s below) ∙ unanswered)
    (sym (has_bit_mask (λ slot. issue_holds is_queued_issue (issue_at port.slots slot)) s below) ∙ armed.1)

-- ---- the phases of a tick

some_same : (e f : Entry) → Some e ≡ Some f → e ≡ f
some_same e f h = cc

-- a phase that a request reaches only by an act or a log of its own
pub record IsOwnEnd (P : Phase → Bool) : Type 0 where
  pub issued : P Issued ≡ false
  pub aside : P Aside ≡ false
  pub aborted : P (Ended Aborted) ≡ false
  pub removed : P (Ended Removed) ≡ false
  pub stopped : P (Ended PortError) ≡ false

-- a slot that had a request has one
pub some_at : (test : ℕ → Head → Bool) (phase : Phase) (entries : List (Option Entry)) (s : ℕ) (g : Entry) → entry_at entries s ≡ Some g → (x : Entry) × (entry_at (rephase_all test phase entries) s ≡ Some x)
some_at test phase entries s g here = by_test (test s g.head) (entry_of_rephased test phase entries s ∙ ap (rephase (test s) phase) here)
  where
    by_test : (b : Bool) → entry_at (rephase_all test phase entries) s ≡ (if b then Some (rephased phase g) else Some g) → (x : Entry) × (entry_at (rephase_all test phase entries) s ≡ Some x)
    by_test true h = (rephased phase g, h)
    by_test false h = (g, h)

module _ (P : Phase → Bool) (own : IsOwnEnd P) where
  pub end_same : (g f : Entry) → Some g ≡ Some f → P f.head.phase ≡ true → P g.head.phase ≡ true
  end_same g f is h = subst (λ (x : Entry). P x.head.phase ≡ true) (sym (some_same g f is)) h

  -- a request that comes to another phase was there before
  pub end_turned : (b : Bool) (phase : Phase) (g f : Entry) → P phase ≡ false → (if b then Some (rephased phase g) else Some g) ≡ Some f → P f.head.phase ≡ true → P g.head.phase ≡ true
  end_turned true phase g f other is h = absurd (true≢false (sym (end_same (rephased phase g) f is h) ∙ other))
  end_turned false phase g f other is h = end_same g f is h

  end_before : (test : ℕ → Head → Bool) (phase : Phase) → P phase ≡ false → (entries : List (Option Entry)) (s : ℕ) (g f : Entry) → entry_at entries s ≡ Some g → entry_at (rephase_all test phase entries) s ≡ Some f
      → P f.head.phase ≡ true → P g.head.phase ≡ true
  end_before test phase other entries s g f here there h =
      let is : rephase (test s) phase (Some g) ≡ Some f = ap (rephase (test s) phase) (sym here) ∙ sym (entry_of_rephased test phase entries s) ∙ there in
      end_turned (test s g.head) phase g f other is h

  end_order : (order : Order) (entries : List (Option Entry)) (s : ℕ) (g f : Entry) → entry_at entries s ≡ Some g → entry_at (removed order entries) s ≡ Some f → P f.head.phase ≡ true → P g.head.phase ≡ true
  end_order (Clear port) entries s g f here there h = end_before (is_open_of port) (Ended Removed) own.removed entries s g f here there h
  end_order order entries s g f here there h = end_same g f (sym here ∙ there) h

  end_stage : (dev : ℕ) (stage : Stage) (entries : List (Option Entry)) (s : ℕ) (g f : Entry) → entry_at entries s ≡ Some g → entry_at (stage_ended dev stage entries) s ≡ Some f → P f.head.phase ≡ true → P g.head.phase ≡ true
  end_stage dev AssertReset entries s g f here there h = end_before (is_aside_of dev) (Ended Aborted) own.aborted entries s g f here there h
  end_stage dev stage entries s g f here there h = end_same g f (sym here ∙ there) h

  end_issue : (entries : List (Option Entry)) (slot s : ℕ) (g f : Entry) → entry_at entries s ≡ Some g
      → ((s ≡ slot) × (option_map (rephased Issued) (entry_at entries slot) ≡ Some f)) ⊎ ((s ≢ slot) × (entry_at entries s ≡ Some f)) → P f.head.phase ≡ true → P g.head.phase ≡ true
  end_issue entries slot s g f here (inl at) h =
      let there : entry_at entries slot ≡ Some g = subst (λ (k : ℕ). entry_at entries k ≡ Some g) at.0 here in
      let is : Some (rephased Issued g) ≡ Some f = ap (option_map (rephased Issued)) (sym there) ∙ at.1 in
      absurd (true≢false (sym (end_same (rephased Issued g) f is h) ∙ own.issued))
  end_issue entries slot s g f here (inr beside) h = end_same g f (sym here ∙ beside.1) h

  pub acted_end : (a : Option Act) (file : TaskFile) (d : Driver) (s : ℕ) (g f : Entry) → entry_at d.entries s ≡ Some g → entry_at (acted a file d).entries s ≡ Some f → P f.head.phase ≡ true → P g.head.phase ≡ true
  unfolding entries_after
  acted_end (Some act.Stops) file d s g f here there h = end_before is_open (Ended PortError) own.stopped d.entries s g f here there h
  acted_end (Some (act.Clears dev)) file d s g f here there h = end_before (is_open_of dev) Aside own.aside d.entries s g f here there h
  acted_end (Some (act.Orders order)) file d s g f here there h = end_order order d.entries s g f here there h
  acted_end (Some (act.Steps dev stage)) file d s g f here there h = end_stage dev stage d.entries s g f here there h
  acted_end (Some (act.Issues slot dev queued)) file d s g f here there h =
      end_issue d.entries slot s g f here (set_cases d.entries slot (option_map (rephased Issued) (entry_at d.entries slot)) s f there) h
  acted_end other file d s g f here there h = end_same g f (sym here ∙ there) h

-- ---- Done

abbrev isd : Phase → Bool
isd (Ended Done) = true
isd other = false

isd_ended : (p : Phase) → isd p ≡ true → has_ended_in p ≡ true
isd_ended (Ended o) h = refl
isd_ended other h = h

isd_own : IsOwnEnd isd
isd_own = record { issued = refl; aside = refl; aborted = refl; removed = refl; stopped = refl }

log_error : (log : ErrorLog) (file : TaskFile) → isd (Ended (log_outcome log file)) ≡ false
log_error log file = by_kind log.unqueued
  where
    by_kind : (b : Bool) → isd (Ended (if b then DeviceError file.status file.error else DeviceError log.status log.error)) ≡ false
    by_kind true = refl
    by_kind false = refl

done_logged : (log : ErrorLog) (l : Option Logged) (entries : List (Option Entry)) (s : ℕ) (g f : Entry) → entry_at entries s ≡ Some g → entry_at (logged_ended log l entries) s ≡ Some f → isd f.head.phase ≡ true → isd g.head.phase ≡ true
done_logged log None entries s g f here there h = end_same isd isd_own g f (sym here ∙ there) h
done_logged log (Some l) entries s g f here there h =
    let named : List (Option Entry) = rephase_all (is_named_of log l.dev) (Ended (log_outcome log l.file)) entries in
    let mid = some_at (is_named_of log l.dev) (Ended (log_outcome log l.file)) entries s g here in
    end_before isd isd_own (is_named_of log l.dev) (Ended (log_outcome log l.file)) (log_error log l.file) entries s g mid.0 here mid.1
    (end_before isd isd_own (is_aside_of l.dev) (Ended Aborted) refl named s mid.0 f mid.1 there h)

open_not : (e : Entry) → has_ended e.head ≡ false → isd e.head.phase ≡ true → ⊥
open_not e open' h = true≢false (sym (isd_ended e.head.phase h) ∙ open')

else_entry : (b : Bool) (x y : Option Entry) → b ≡ false → (if b then x else y) ≡ y
else_entry true x y h = absurd (true≢false h)
else_entry false x y h = refl

and_both : (a b : Bool) → (a && not b) ≡ true → (a ≡ true) × (b ≡ false)
and_both true true h = absurd (false≢true h)
and_both true false h = (refl, refl)
and_both false b h = absurd (false≢true h)

-- a tick ends as Done only what was issued and has its bit in neither register
pub seen_some : (v : Sight) (d : Driver) (s : ℕ) (g : Entry) → entry_at (done_ended v.issued d.entries) s ≡ Some g → (x : Entry) × (entry_at (seen v d).entries s ≡ Some x)
seen_some v d s g here = by_log (turn v d).logged
  where
    by_log : (l : Option Logged) → (x : Entry) × (entry_at (logged_ended v.log l (done_ended v.issued d.entries)) s ≡ Some x)
    by_log None = (g, here)
    by_log (Some l) =
        let named : List (Option Entry) = rephase_all (is_named_of v.log l.dev) (Ended (log_outcome v.log l.file)) (done_ended v.issued d.entries) in
        let mid = some_at (is_named_of v.log l.dev) (Ended (log_outcome v.log l.file)) (done_ended v.issued d.entries) s g here in
        some_at (is_aside_of l.dev) (Ended Aborted) named s mid.0 mid.1

done_of : (v : Sight) (file : TaskFile) (d : Driver) (s : ℕ) (e f : Entry) → entry_at d.entries s ≡ Some e → has_ended e.head ≡ false → entry_at (after_tick v file d).entries s ≡ Some f → isd f.head.phase ≡ true
    → is_done v.issued s e.head ≡ true
unfolding after_tick
done_of v file d s e f here open' there h = elim (cases_Bool (is_done v.issued s e.head)) [
  | inl done ↦ done
  | inr other ↦
      let still : entry_at (done_ended v.issued d.entries) s ≡ Some e =
      entry_of_rephased (is_done v.issued) (Ended Done) d.entries s ∙ ap (rephase (is_done v.issued s) (Ended Done)) here ∙ else_entry (is_done v.issued s e.head) (Some (rephased (Ended Done) e)) (Some e) other in
      let mid = seen_some v d s e still in
      absurd (open_not e open' (done_logged v.log (turn v d).logged (done_ended v.issued d.entries) s e mid.0 still mid.1 (acted_end isd isd_own (turn v d).act file (seen v d) s mid.0 f mid.1 there h)))
]

pub done_is_free : DoneIsFree
done_is_free mode port memory file d s e f table r here open' there phase =
    let done : is_done (sight_of mode port memory).issued s e.head ≡ true = done_of (sight_of mode port memory) file d s e f here open' there (ap isd phase) in
    let parts = and_both (is_issued e.head) (has_bit (sight_of mode port memory).issued s) done in
    let below : s < 30 = in_slots d.entries s e r.slots here in
    (parts.0, free_slot mode port memory s table (omega (arith, below)) parts.1)

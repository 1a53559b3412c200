-- For `delivers`. A device's part of the slots, read slot by slot, and what a table of slots says of it.
use Rattle.std.proofs.Common.{◌≡◌, ◌≢◌, ℕ, ◌<◌, Bool, true, false, cond, eqb, get_or, set, length, map, refl, sym, ap, subst, ◌∙◌, inl, inr, Option}
use Rattle.std.proofs.{Common.{Some, None, arith, get_or-set_same, get_or-set_other}, lemmas.Bool.{cases_eq, cases_lt, eq-eqb, ne_eqb, false≢true}}
use Rattle.std.proofs.lemmas.{Bool.{lt-ltb, le-ltb}, List.{get_or_past, length-map, FromFn.{get_or-map-range_with_len, length-map-range_with_len}}}
use Rattle.std.specs.Prelude.{MatchOption}
use Rattle.hba_commands.specs.declared.command.Command.{Command}
use Rattle.slots.specs.Slots.{DeviceSlots, Issue, Slots, freed, holds, is_waiting, issue_at, issues_unless, own_issue, owned_by, slots_of, waiting}
use Rattle.slots.specs.{Slots.with_own_issue, Table.{IsContext, IsContextOf, IsIssue, IsTable}, declared.table.Context.Context}
use Rattle.slots.proofs.Door.{get-unless, length-unless, none_below, own_at, owned_own}
use Rattle.hba_fbs.specs.Issuing.{issue_with, issued_slots, issues_with}
use Rattle.hba_laws.specs.{History.unless, Between.{HasContext, IsOwn, at_slot, frees, issue_below}}

pub ext : {A B : Type 0} (f g : A → B) → ((x : A) → f x ≡ g x) → f ≡ g
ext f g h = λ i x. h x i

-- ---- changes of one slot and of some

pub at_same : {A : Type 0} (f : ℕ → A) (s k : ℕ) (x : A) → k ≡ s → at_slot f s x k ≡ x
at_same f s k x e = rw (eq-eqb k s e) refl

pub at_other : {A : Type 0} (f : ℕ → A) (s k : ℕ) (x : A) → k ≢ s → at_slot f s x k ≡ f k
at_other f s k x ne = rw (ne_eqb k s ne) refl

pub own_set : (own : DeviceSlots) (slot : ℕ) (x : Option Issue) → slot < length own.issues → own_issue (with_own_issue own slot x) ≡ at_slot (own_issue own) slot x
own_set own slot x lt = ext (own_issue (with_own_issue own slot x)) (at_slot (own_issue own) slot x) (λ k. elim (cases_eq k slot) [
  | inl e ↦ ap (λ j. get_or (set own.issues slot x) j None) e ∙ get_or-set_same own.issues slot x None lt ∙ sym (at_same (own_issue own) slot k x e)
  | inr ne ↦ get_or-set_other own.issues slot k x None ne ∙ sym (at_other (own_issue own) slot k x ne)
])

none_either : (b : Bool) (o : Option Issue) → o ≡ None → unless b o ≡ None
none_either true o e = refl
none_either false o e = e

pub own_freed : (F : ℕ → Bool) (own : DeviceSlots) → own_issue (freed F own) ≡ frees F (own_issue own)
own_freed F own = ext (own_issue (freed F own)) (frees F (own_issue own)) (λ k. elim (cases_lt k (length own.issues)) [
  | inl lt ↦ get-unless F own.issues k None lt
  | inr ge ↦
      get_or_past (issues_unless F own.issues) k None (rw (length-unless F own.issues) ge)
      ∙ sym (none_either (F k) (own_issue own k) (get_or_past own.issues k None ge))
])

pub own_issued : (dev : ℕ) (commands : ℕ → Option Command) (own : DeviceSlots) (m : ℕ) → length own.issues ≡ m
    → own_issue (issued_slots dev commands own) ≡ issue_below dev commands (own_issue own) m
unfolding issues_with
own_issued dev commands own m long = ext (own_issue (issued_slots dev commands own)) (issue_below dev commands (own_issue own) m) (λ k. elim (cases_lt k m) [
  | inl lt ↦
      get_or-map-range_with_len (λ slot. issue_with dev (commands slot) (get_or own.issues slot None)) 0 (length own.issues) k k None (omega arith) (omega arith)
      ∙ sym (ap (λ b. cond b (issue_with dev (commands k) (own_issue own k)) (own_issue own k)) (lt-ltb k m lt))
  | inr ge ↦
      let long_too = length-map-range_with_len (λ slot. issue_with dev (commands slot) (get_or own.issues slot None)) 0 (length own.issues) in
      get_or_past (issues_with dev commands own.issues) k None (omega (arith, long_too))
      ∙ sym (ap (λ b. cond b (issue_with dev (commands k) (own_issue own k)) (own_issue own k)) (le-ltb k m ge) ∙ get_or_past own.issues k None (omega arith))
])

-- ---- a device's part of a table

owned_some : (dev : ℕ) (o : Option Issue) (i : Issue) → owned_by dev o ≡ Some i → o ≡ Some i
owned_some dev None i e = cc
owned_some dev (Some x) i e = by_test (eqb x.dev dev) e
  where
    by_test : (b : Bool) → cond b (Some x) None ≡ Some i → Some x ≡ Some i
    by_test true e = e
    by_test false e = cc

-- what is issued for the device stands in the slot
pub own_in : (n s : ℕ) (t : Slots) (i : Issue) → own_issue (slots_of n t) s ≡ Some i → (s < length t.issues) × (issue_at t s ≡ Some i)
own_in n s t i e = elim (cases_lt s (length t.issues)) [
  | inl lt ↦ (lt, owned_some n (issue_at t s) i (sym (own_at n t s lt) ∙ e))
  | inr ge ↦
      let long = length-map t.issues (owned_by n) in
      let none : None ≡ Some i = sym (get_or_past (map (owned_by n) t.issues) s None (omega (arith, long))) ∙ e in
      cc
]

-- and what stands there is the device's, where it was issued for it
pub own_here : (s : ℕ) (t : Slots) (i : Issue) → s < length t.issues → issue_at t s ≡ Some i → own_issue (slots_of i.dev t) s ≡ Some i
own_here s t i lt e = own_at i.dev t s lt ∙ ap (owned_by i.dev) e ∙ owned_own i.dev i refl

has_context : (n : ℕ) (t : Slots) (c : Context) (o : Option Issue) → length t.issues ≡ 32 → c.slot < 32 → issue_at t c.slot ≡ o → MatchOption o ⊥ (IsContextOf n c) → HasContext n (slots_of n t) c
has_context n t c None long below e h = absurd h
has_context n t c (Some i) long below e h =
    record { issue = i; at = subst (λ d. own_issue (slots_of d t) c.slot ≡ Some i) h.of_dev (own_here c.slot t i (omega (arith, long, below)) e); is = h }

pub is_own : (n : ℕ) (t : Slots) → IsTable t → IsOwn n (slots_of n t)
is_own n t is = record {
  long = length-map t.issues (owned_by n) ∙ is.slots;
  issues = λ s i e. subst (λ o. MatchOption o (Unit {0}) IsIssue) ((own_in n s t i e).1) (is.issues s);
  contexts = λ c e.
      let in_table : IsContext n t c = subst (λ o. MatchOption o (Unit {0}) (IsContext n t)) e (is.contexts n) in
      has_context n t c (issue_at t c.slot) is.slots in_table.0 refl in_table.1;
}

-- ---- the slot that waits

pub holds_at : (test : Issue → Bool) (o : Option Issue) (i : Issue) → o ≡ Some i → holds test o ≡ test i
holds_at test o i e = ap (holds test) e

pub held : (test : Issue → Bool) (o : Option Issue) → holds test o ≡ true → (i : Issue) × (o ≡ Some i) × (test i ≡ true)
held test None e = absurd (false≢true e)
held test (Some i) e = (i, refl, e)

pub own_below : (n s : ℕ) (own : DeviceSlots) (i : Issue) → IsOwn n own → own_issue own s ≡ Some i → s < 32
own_below n s own i is e = elim (cases_lt s 32) [
  | inl lt ↦ lt
  | inr ge ↦ let none : None ≡ Some i = sym (get_or_past own.issues s None (omega (arith, ge, is.long))) ∙ e in cc
]

pub none_waits : (n : ℕ) (own : DeviceSlots) → IsOwn n own → waiting own ≡ None → (s : ℕ) (i : Issue) → own_issue own s ≡ Some i → is_waiting i ≡ false
none_waits n own is none s i e =
    sym (holds_at is_waiting (own_issue own s) i e) ∙ none_below (λ slot. holds is_waiting (own_issue own slot)) 32 none s (own_below n s own i is e)

-- Slots that are freed.
use Rattle.std.proofs.Common.{◌≡◌, ◌≢◌, ℕ, ◌<◌, Bool, true, false, nat_eq, cond, List, get_or, set, length, map, refl, sym, ◌∙◌, ap, subst, arith}
use Rattle.std.proofs.{Common.{inl, inr, Option, Some, None, get_or-set_same, get_or-set_other, length-set}, lemmas.Bool.{cases_eq, cases_lt}}
use Rattle.std.proofs.lemmas.{Bool.{cases_Bool, ne_eqb, eq-eqb, eqb-true, cond-true, cond-false, false≢true}, List.{get_or_past, get_or_default}}
use Rattle.std.proofs.lemmas.List.{get_or-map, length-map, same_lists}
use Rattle.std.specs.Prelude.{MatchOption}
use Rattle.slots.specs.{declared.table.Context.Context, Commands.is_slot, Slots.{Issue, Slots, issue_at, context_of, owned_by, slots_of, KeepsFree}}
use Rattle.slots.specs.{Slots.{LeavesOthers, holds, is_waiting, issues_unless, context_unless, freed}, Table.{IsIssue, IsContextOf, IsContext}}
use Rattle.slots.specs.{Table.{IsTable, waits_for}, Between.Owns}
use Rattle.slots.proofs.{MaskLemmas.{length-unless, get-unless}, TableLemmas.owned_none}

-- the table with these slots free; the device's context ends if its slot is one of them
abbrev pub freed_table : ℕ → (ℕ → Bool) → Slots → Slots
freed_table dev f t = record { issues = issues_unless f t.issues; contexts = set t.contexts dev (context_unless f (context_of t dev)) }

-- these slots are the device's
abbrev pub AreOwn : ℕ → (ℕ → Bool) → Slots → Type 0
AreOwn dev f t = (s : ℕ) → s < length t.issues → f s ≡ true → Owns dev (issue_at t s)

abbrev pub no_issue : Option Issue
no_issue = None

abbrev pub no_context : Option Context
no_context = None

-- ---- the device's part

owned_unless : (dev : ℕ) (b : Bool) (o : Option Issue) → owned_by dev (cond b None o) ≡ cond b None (owned_by dev o)
owned_unless dev true o = refl
owned_unless dev false o = refl

own_unless : (dev : ℕ) (f g : ℕ → Bool) (issues : List (Option Issue)) → ((s : ℕ) → s < length issues → f s ≡ g s) → map (owned_by dev) (issues_unless f issues) ≡ issues_unless g (map (owned_by dev) issues)
own_unless dev f g issues same =
    let o : Option Issue → Option Issue = owned_by dev in
    let n = length issues in
    let lf = length-unless f issues in
    let l1 = length-map (issues_unless f issues) o in
    let l2 = length-map issues o in
    let l3 = length-unless g (map o issues) in
    same_lists (map o (issues_unless f issues)) (issues_unless g (map o issues)) (omega (arith, lf, l1, l2, l3)) (λ k d lt.
    let below : k < length issues = omega (arith, lf, l1) in
    get_or-map o (issues_unless f issues) k None d (omega (arith, lf)) ∙ ap o (get-unless f issues k None below) ∙ owned_unless dev (f k) (get_or issues k None)
    ∙ ap (λ (b : Bool). cond b None (o (get_or issues k None))) (same k below) ∙ ap (λ (x : Option Issue). cond (g k) None x) (sym (get_or-map o issues k None None below))
    ∙ sym (get-unless g (map o issues) k d (omega (arith, l2))))

context_same : (f g : ℕ → Bool) (n : ℕ) (m : Option Context) → ((s : ℕ) → s < n → f s ≡ g s) → MatchOption m (Unit {0}) (λ c. c.slot < n) → context_unless f m ≡ context_unless g m
context_same f g n None same h = refl
context_same f g n (Some c) same h = ap (λ (b : Bool). cond b None (Some c)) (same c.slot h)

slot_below : (t : Slots) (dev n : ℕ) (m : Option Context) → n ≡ 32 → MatchOption m (Unit {0}) (IsContext dev t) → MatchOption m (Unit {0}) (λ c. c.slot < n)
slot_below t dev n None e h = tt
slot_below t dev n (Some c) e h = omega (arith, h.0)

pub context_below : (t : Slots) (dev : ℕ) → IsTable t → MatchOption (context_of t dev) (Unit {0}) (λ c. c.slot < 32)
context_below t dev is = slot_below t dev 32 (context_of t dev) refl (is.contexts dev)

pub own_freed : (dev : ℕ) (f g : ℕ → Bool) (t : Slots) → IsTable t → dev < 16 → ((s : ℕ) → s < 32 → f s ≡ g s) → slots_of dev (freed_table dev f t) ≡ freed g (slots_of dev t)
own_freed dev f g t is below same =
    let e1 = own_unless dev f g t.issues (λ s lt. same s (omega (arith, is.slots))) in
    let e2 : get_or (set t.contexts dev (context_unless f (context_of t dev))) dev None ≡ context_unless g (context_of t dev) =
    get_or-set_same t.contexts dev (context_unless f (context_of t dev)) None (omega (arith, is.devices)) ∙ context_same f g 32 (context_of t dev) same (context_below t dev is) in
    ap (λ (x : List (Option Issue)). record { issues = x; context = get_or (set t.contexts dev (context_unless f (context_of t dev))) dev None }) e1
    ∙ ap (λ (x : Option Context). record { issues = issues_unless g (map (owned_by dev) t.issues); context = x }) e2

-- ---- the parts of the others

unless_other : (dev other : ℕ) (b : Bool) (o : Option Issue) → (b ≡ true → Owns dev o) → other ≢ dev → owned_by other (cond b None o) ≡ owned_by other o
unless_other dev other true o own ne = sym (owned_none dev other o (own refl) ne)
unless_other dev other false o own ne = refl

pub others_freed : (dev : ℕ) (f : ℕ → Bool) (t : Slots) → AreOwn dev f t → LeavesOthers dev t (freed_table dev f t)
others_freed dev f t own other ne =
    let o : Option Issue → Option Issue = owned_by other in
    let after : List (Option Issue) = issues_unless f t.issues in
    let lf = length-unless f t.issues in
    let l1 = length-map after o in
    let l2 = length-map t.issues o in
    let e : map o after ≡ map o t.issues =
    same_lists (map o after) (map o t.issues) (omega (arith, lf, l1, l2)) (λ k d lt.
    let below : k < length t.issues = omega (arith, lf, l1) in
    let now : get_or (map o after) k d ≡ o (get_or after k None) = get_or-map o after k None d (omega (arith, lf)) in
    let same : o (get_or after k None) ≡ o (get_or t.issues k None) = ap o (get-unless f t.issues k None below) ∙ unless_other dev other (f k) (issue_at t k) (own k below) ne in
    now ∙ same ∙ sym (get_or-map o t.issues k None d below)) in
    let e2 : context_of (freed_table dev f t) other ≡ context_of t other = get_or-set_other t.contexts dev other (context_unless f (context_of t dev)) None ne in
    ap (λ (x : List (Option Issue)). record { issues = x; context = context_of (freed_table dev f t) other }) e ∙ ap (λ (x : Option Context). record { issues = map o t.issues; context = x }) e2

-- ---- what holds for every table still holds

issue_unless_kept : (b : Bool) (o : Option Issue) → MatchOption o (Unit {0}) IsIssue → MatchOption (cond b None o) (Unit {0}) IsIssue
issue_unless_kept true o h = tt
issue_unless_kept false o h = h

context_kept : (t : Slots) (f : ℕ → Bool) (dev n : ℕ) (c : Context) → length t.issues ≡ 32 → IsContext dev t c → f c.slot ≡ false → IsContext dev (freed_table n f t) c
context_kept t f dev n c long is stays =
    (is.0, subst (λ (x : Option Issue). MatchOption x ⊥ (IsContextOf dev c)) (sym (get-unless f t.issues c.slot None (omega (arith, long, is.0)) ∙ cond-false (f c.slot) None (issue_at t c.slot) stays)) is.1)

own_kept : (t : Slots) (f : ℕ → Bool) (dev : ℕ) (m : Option Context) → length t.issues ≡ 32 → MatchOption m (Unit {0}) (IsContext dev t) → MatchOption (context_unless f m) (Unit {0}) (IsContext dev (freed_table dev f t))
own_kept t f dev None long h = tt
own_kept t f dev (Some c) long h =
    elim (cases_Bool (f c.slot)) [
      | inl passes ↦ subst (λ (m : Option Context). MatchOption m (Unit {0}) (IsContext dev (freed_table dev f t))) (sym (cond-true (f c.slot) None (Some c) passes)) tt
      | inr fails ↦ subst (λ (m : Option Context). MatchOption m (Unit {0}) (IsContext dev (freed_table dev f t))) (sym (cond-false (f c.slot) None (Some c) fails)) (context_kept t f dev dev c long h fails)
    ]

not_both : (dev other : ℕ) (c : Context) (o : Option Issue) → MatchOption o ⊥ (IsContextOf other c) → Owns dev o → other ≢ dev → ⊥
not_both dev other c None h owns ne = h
not_both dev other c (Some issue) h owns ne = ne (sym h.of_dev ∙ owns)

others_kept : (t : Slots) (f : ℕ → Bool) (dev other : ℕ) (m : Option Context) → length t.issues ≡ 32 → AreOwn dev f t → other ≢ dev → MatchOption m (Unit {0}) (IsContext other t) → MatchOption m (Unit {0}) (IsContext other (freed_table dev f t))
others_kept t f dev other None long own ne h = tt
others_kept t f dev other (Some c) long own ne h =
    elim (cases_Bool (f c.slot)) [
      | inl passes ↦ absurd (not_both dev other c (issue_at t c.slot) h.1 (own c.slot (omega (arith, long, h.0)) passes) ne)
      | inr fails ↦ context_kept t f other dev c long h fails
    ]

waits_unless : (dev : ℕ) (b : Bool) (o : Option Issue) → holds is_waiting (owned_by dev (cond b None o)) ≡ true → holds is_waiting (owned_by dev o) ≡ true
waits_unless dev true o h = absurd (false≢true h)
waits_unless dev false o h = h

waits_past : (dev : ℕ) (o : Option Issue) → o ≡ None → holds is_waiting (owned_by dev o) ≡ true → ⊥
waits_past dev None e h = false≢true h
waits_past dev (Some issue) e h = cc

waits_kept : (t : Slots) (f : ℕ → Bool) (n dev r : ℕ) → waits_for dev (freed_table n f t) r ≡ true → waits_for dev t r ≡ true
waits_kept t f n dev r h = elim (cases_lt r (length t.issues)) [
  | inl lt ↦ waits_unless dev (f r) (issue_at t r) (ap (λ (x : Option Issue). holds is_waiting (owned_by dev x)) (sym (get-unless f t.issues r None lt)) ∙ h)
  | inr ge ↦ absurd (waits_past dev (get_or (issues_unless f t.issues) r None) (get_or_past (issues_unless f t.issues) r None (rw (length-unless f t.issues) ge)) h)
]

pub table_freed : (dev : ℕ) (f : ℕ → Bool) (t : Slots) → IsTable t → dev < 16 → AreOwn dev f t → IsTable (freed_table dev f t)
table_freed dev f t is below own = record {
  slots = length-unless f t.issues ∙ is.slots;
  devices = length-set t.contexts dev (context_unless f (context_of t dev)) ∙ is.devices;
  issues = λ s. elim (cases_lt s (length t.issues)) [
    | inl lt ↦ rw (get-unless f t.issues s None lt) (issue_unless_kept (f s) (issue_at t s) (is.issues s))
    | inr ge ↦ rw (get_or_past (issues_unless f t.issues) s None (rw (length-unless f t.issues) ge)) tt
  ];
  contexts = λ other. elim (cases_eq other dev) [
    | inl e ↦ rw e (rw (get_or-set_same t.contexts dev (context_unless f (context_of t dev)) None (omega (arith, is.devices))) (own_kept t f dev (context_of t dev) is.slots (is.contexts dev)))
    | inr ne ↦ rw (get_or-set_other t.contexts dev other (context_unless f (context_of t dev)) None ne) (others_kept t f dev other (context_of t other) is.slots own ne (is.contexts other))
  ];
  one_waits = λ n r s hr hs. is.one_waits n r s (waits_kept t f dev n r hr) (waits_kept t f dev n s hs);
}

-- ---- one slot

pub unless_one : (issues : List (Option Issue)) (s : ℕ) → s < length issues → issues_unless (is_slot s) issues ≡ set issues s None
unless_one issues s below =
    let lu = length-unless (is_slot s) issues in
    let ls = length-set issues s no_issue in
    same_lists (issues_unless (is_slot s) issues) (set issues s None) (lu ∙ sym ls) (λ k d lt.
    let kt : k < length issues = omega (arith, lu) in
    get-unless (is_slot s) issues k d kt ∙ elim (cases_eq k s) [
      | inl e ↦ cond-true (nat_eq k s) None (get_or issues k None) (eq-eqb k s e) ∙ sym (ap (λ (i : ℕ). get_or (set issues s None) i d) e ∙ get_or-set_same issues s None d below)
      | inr ne ↦ cond-false (nat_eq k s) None (get_or issues k None) (ne_eqb k s ne) ∙ get_or_default issues k None d kt ∙ sym (get_or-set_other issues s k None d ne)
    ])

pub one_own : (dev s : ℕ) (t : Slots) → Owns dev (issue_at t s) → AreOwn dev (is_slot s) t
one_own dev s t owns k lt passes = subst (λ (i : ℕ). Owns dev (issue_at t i)) (sym (eqb-true k s passes)) owns

-- the table after many slots and the device's context were written
pub freed_many : (dev : ℕ) (f : ℕ → Bool) (t : Slots) (issues : List (Option Issue)) (m : Option Context) → issues ≡ issues_unless f t.issues → m ≡ context_unless f (context_of t dev)
    → record { issues = issues; contexts = set t.contexts dev m } ≡ freed_table dev f t
freed_many dev f t issues m a b =
    ap (λ (x : List (Option Issue)). record { issues = x; contexts = set t.contexts dev m }) a ∙ ap (λ (x : Option Context). record { issues = issues_unless f t.issues; contexts = set t.contexts dev x }) b

-- ---- no free slot is filled

none_unless : (b : Bool) → cond b no_issue None ≡ None
none_unless true = refl
none_unless false = refl

pub frees_freed : (dev : ℕ) (f : ℕ → Bool) (t : Slots) → KeepsFree t (freed_table dev f t)
frees_freed dev f t k free = elim (cases_lt k (length t.issues)) [
  | inl lt ↦ get-unless f t.issues k None lt ∙ ap (λ (o : Option Issue). cond (f k) None o) free ∙ none_unless (f k)
  | inr ge ↦ get_or_past (issues_unless f t.issues) k None (rw (length-unless f t.issues) ge)
]

-- Changes of a table: a device's part, the parts of the others, and what stays true.
use Rattle.std.proofs.Common.{◌≡◌, ◌≢◌, ℕ, ◌<◌, Bool, true, false, nat_eq, cond, List, get_or, set, length, map, refl, sym, ◌∙◌, ap, subst, arith}
use Rattle.std.proofs.{Common.{inl, inr, Option, Some, None, get_or-set_same, get_or-set_other, length-set}, lemmas.Bool.{cases_eq, cases_lt, ne_eqb}}
use Rattle.std.proofs.lemmas.{Bool.{eq-eqb, eqb-true, cond-true, cond-false, false≢true}, List.{map-set, set-get_or, get_or_past, get_or_default}}
use Rattle.std.proofs.lemmas.List.{get_or-map}
use Rattle.std.specs.{Prelude.MatchOption, Option.{is_some, option_map}}
use Rattle.slots.specs.{declared.table.Context.Context, Slots.{Issue, Slots, issue_at, context_of, owned_by, own_issue, slots_of, LeavesOthers}}
use Rattle.slots.specs.{Slots.{holds, is_waiting, with_own_issue}, Table.{IsIssue, IsContextOf, IsContext, IsTable, waits_for}, Between.Owns}

abbrev pub with_issue : Slots → ℕ → Option Issue → Slots
with_issue t s o = record t { issues = set t.issues s o }

abbrev pub with_context : Slots → ℕ → Option Context → Slots
with_context t dev c = record t { contexts = set t.contexts dev c }

-- ---- owners

pub owned_other : (dev other : ℕ) (issue : Issue) → issue.dev ≡ dev → other ≢ dev → owned_by other (Some issue) ≡ None
owned_other dev other issue is ne = cond-false (nat_eq issue.dev other) (Some issue) None (ne_eqb issue.dev other (λ e. ne (sym e ∙ is)))

pub owned_own : (dev : ℕ) (issue : Issue) → issue.dev ≡ dev → owned_by dev (Some issue) ≡ Some issue
owned_own dev issue is = cond-true (nat_eq issue.dev dev) (Some issue) None (eq-eqb issue.dev dev is)

owns_by : (dev : ℕ) (issue : Issue) (b : Bool) → nat_eq issue.dev dev ≡ b → is_some (cond b (Some issue) None) ≡ true → issue.dev ≡ dev
owns_by dev issue true e h = eqb-true issue.dev dev e
owns_by dev issue false e h = absurd (false≢true h)

pub owns_from : (dev : ℕ) (o : Option Issue) → is_some (owned_by dev o) ≡ true → Owns dev o
owns_from dev None h = absurd (false≢true h)
owns_from dev (Some issue) h = owns_by dev issue (nat_eq issue.dev dev) refl h

some_by : (test : Issue → Bool) (o : Option Issue) → holds test o ≡ true → is_some o ≡ true
some_by test None h = absurd (false≢true h)
some_by test (Some issue) h = refl

-- a test holds for it as the device's
pub owns_where : (test : Issue → Bool) (dev : ℕ) (o : Option Issue) → holds test (owned_by dev o) ≡ true → Owns dev o
owns_where test dev o h = owns_from dev o (some_by test (owned_by dev o) h)

pub owned_none : (dev other : ℕ) (o : Option Issue) → Owns dev o → other ≢ dev → owned_by other o ≡ None
owned_none dev other None h ne = refl
owned_none dev other (Some issue) h ne = owned_other dev other issue h ne

pub owned_same : (dev : ℕ) (o : Option Issue) → Owns dev o → owned_by dev o ≡ o
owned_same dev None h = refl
owned_same dev (Some issue) h = owned_own dev issue h

-- the device's issue is the one in the slot
pub own_at : (dev : ℕ) (t : Slots) (s : ℕ) → s < length t.issues → own_issue (slots_of dev t) s ≡ owned_by dev (issue_at t s)
own_at dev t s lt = get_or-map (owned_by dev) t.issues s None None lt

-- ---- one slot changes

pub own_with_issue : (dev s : ℕ) (t : Slots) (o p : Option Issue) → owned_by dev o ≡ p → slots_of dev (with_issue t s o) ≡ with_own_issue (slots_of dev t) s p
own_with_issue dev s t o p is =
    let e : map (owned_by dev) (set t.issues s o) ≡ set (map (owned_by dev) t.issues) s p = map-set (owned_by dev) t.issues s o ∙ ap (λ (x : Option Issue). set (map (owned_by dev) t.issues) s x) is in
    ap (λ (x : List (Option Issue)). record { issues = x; context = context_of t dev }) e

pub others_with_issue : (dev s : ℕ) (t : Slots) (o : Option Issue) → ((other : ℕ) → other ≢ dev → owned_by other o ≡ owned_by other (issue_at t s)) → LeavesOthers dev t (with_issue t s o)
others_with_issue dev s t o h other ne =
    let f : Option Issue → Option Issue = owned_by other in
    let e : map f (set t.issues s o) ≡ map f t.issues =
    map-set f t.issues s o ∙ ap (λ x. set (map f t.issues) s x) (h other ne) ∙ sym (map-set f t.issues s (get_or t.issues s None)) ∙ ap (map f) (set-get_or t.issues s None) in
    ap (λ (x : List (Option Issue)). record { issues = x; context = context_of t other }) e

-- ---- one context changes

pub own_with_context : (dev : ℕ) (t : Slots) (c : Option Context) → dev < length t.contexts → slots_of dev (with_context t dev c) ≡ record { issues = map (owned_by dev) t.issues; context = c }
own_with_context dev t c lt = ap (λ (x : Option Context). record { issues = map (owned_by dev) t.issues; context = x }) (get_or-set_same t.contexts dev c None lt)

pub others_with_context : (dev : ℕ) (t : Slots) (c : Option Context) → LeavesOthers dev t (with_context t dev c)
others_with_context dev t c other ne = ap (λ (x : Option Context). record { issues = map (owned_by other) t.issues; context = x }) (get_or-set_other t.contexts dev other c None ne)

pub others_both : (dev : ℕ) (t u v : Slots) → LeavesOthers dev t u → LeavesOthers dev u v → LeavesOthers dev t v
others_both dev t u v a b other ne = b other ne ∙ a other ne

-- ---- an issue is changed by a function that keeps its device

owned_change_by : (dev : ℕ) (f : Issue → Issue) (issue : Issue) → (f issue).dev ≡ issue.dev → (b : Bool) → nat_eq issue.dev dev ≡ b → owned_by dev (Some (f issue)) ≡ option_map f (cond b (Some issue) None)
owned_change_by dev f issue keeps true e = owned_own dev (f issue) (keeps ∙ eqb-true issue.dev dev e)
owned_change_by dev f issue keeps false e = cond-false (nat_eq (f issue).dev dev) (Some (f issue)) None (ap (λ (d : ℕ). nat_eq d dev) keeps ∙ e)

owned_change : (dev : ℕ) (f : Issue → Issue) → ((i : Issue) → (f i).dev ≡ i.dev) → (o : Option Issue) → owned_by dev (option_map f o) ≡ option_map f (owned_by dev o)
owned_change dev f keeps None = refl
owned_change dev f keeps (Some issue) = owned_change_by dev f issue (keeps issue) (nat_eq issue.dev dev) refl

pub own_changed : (dev s : ℕ) (t : Slots) (f : Issue → Issue) → ((i : Issue) → (f i).dev ≡ i.dev) → (o d : Option Issue) → s < length t.issues → o ≡ option_map f (get_or t.issues s d)
    → slots_of dev (with_issue t s o) ≡ with_own_issue (slots_of dev t) s (option_map f (own_issue (slots_of dev t) s))
own_changed dev s t f keeps o d lt is =
    let now : o ≡ option_map f (issue_at t s) = is ∙ ap (option_map f) (get_or_default t.issues s d None lt) in
    own_with_issue dev s t o (option_map f (own_issue (slots_of dev t) s)) (ap (owned_by dev) now ∙ owned_change dev f keeps (issue_at t s) ∙ ap (option_map f) (sym (own_at dev t s lt)))

owns_change : (dev : ℕ) (f : Issue → Issue) → ((i : Issue) → (f i).dev ≡ i.dev) → (o : Option Issue) → Owns dev o → Owns dev (option_map f o)
owns_change dev f keeps None h = h
owns_change dev f keeps (Some issue) h = keeps issue ∙ h

pub others_changed : (dev s : ℕ) (t : Slots) (f : Issue → Issue) → ((i : Issue) → (f i).dev ≡ i.dev) → (o d : Option Issue) → s < length t.issues → o ≡ option_map f (get_or t.issues s d) → Owns dev (issue_at t s)
    → LeavesOthers dev t (with_issue t s o)
others_changed dev s t f keeps o d lt is owns =
    let now : o ≡ option_map f (issue_at t s) = is ∙ ap (option_map f) (get_or_default t.issues s d None lt) in
    others_with_issue dev s t o (λ other ne. ap (owned_by other) now ∙ owned_none dev other (option_map f (issue_at t s)) (owns_change dev f keeps (issue_at t s) owns) ne ∙ sym (owned_none dev other (issue_at t s) owns ne))

-- ---- what holds for every table still holds

issue_kept : (t : Slots) (s r : ℕ) (o : Option Issue) → IsTable t → MatchOption o (Unit {0}) IsIssue → MatchOption (issue_at (with_issue t s o) r) (Unit {0}) IsIssue
issue_kept t s r o is h = elim (cases_eq r s) [
  | inr ne ↦ rw (get_or-set_other t.issues s r o None ne) (is.issues r)
  | inl e ↦ elim (cases_lt s (length t.issues)) [
    | inl lt ↦ rw e (rw (get_or-set_same t.issues s o None lt) h)
    | inr ge ↦ rw e (rw (get_or_past (set t.issues s o) s None (rw (length-set t.issues s o) ge)) tt)
  ]
]

context_at : (t : Slots) (dev s : ℕ) (o : Option Issue) (c : Context) → s < length t.issues → IsContext dev t c → (c.slot ≡ s → MatchOption o ⊥ (IsContextOf dev c)) → IsContext dev (with_issue t s o) c
context_at t dev s o c lt is h = (
  is.0,
  elim (cases_eq c.slot s) [
    | inr ne ↦ rw (get_or-set_other t.issues s c.slot o None ne) is.1
    | inl e ↦ subst (λ (x : Option Issue). MatchOption x ⊥ (IsContextOf dev c)) (sym (ap (λ (k : ℕ). get_or (set t.issues s o) k None) e ∙ get_or-set_same t.issues s o None lt)) (h e)
  ],
)

contexts_at : (t : Slots) (dev s : ℕ) (o : Option Issue) (m : Option Context) → s < length t.issues → MatchOption m (Unit {0}) (IsContext dev t) → ((c : Context) → m ≡ Some c → c.slot ≡ s → MatchOption o ⊥ (IsContextOf dev c)) → MatchOption m (Unit {0}) (IsContext dev (with_issue t s o))
contexts_at t dev s o None lt is h = tt
contexts_at t dev s o (Some c) lt is h = context_at t dev s o c lt is (h c refl)

waits_at : (t : Slots) (dev r s : ℕ) (o : Option Issue) → s < length t.issues → r ≢ s → waits_for dev (with_issue t s o) r ≡ true → waits_for dev t r ≡ true
waits_at t dev r s o lt ne h = ap (λ (x : Option Issue). holds is_waiting (owned_by dev x)) (sym (get_or-set_other t.issues s r o None ne)) ∙ h

waits_here : (t : Slots) (dev s : ℕ) (o : Option Issue) → s < length t.issues → waits_for dev (with_issue t s o) s ≡ true → holds is_waiting (owned_by dev o) ≡ true
waits_here t dev s o lt h = ap (λ (x : Option Issue). holds is_waiting (owned_by dev x)) (sym (get_or-set_same t.issues s o None lt)) ∙ h

pub table_with_issue : (t : Slots) (s : ℕ) (o : Option Issue) → IsTable t → s < 32 → MatchOption o (Unit {0}) IsIssue
    → ((dev : ℕ) (c : Context) → context_of t dev ≡ Some c → c.slot ≡ s → MatchOption o ⊥ (IsContextOf dev c))
    → ((dev r : ℕ) → holds is_waiting (owned_by dev o) ≡ true → waits_for dev t r ≡ true → r ≡ s)
    → IsTable (with_issue t s o)
table_with_issue t s o is below issue contexts waits =
    let lt : s < length t.issues = omega (arith, is.slots) in
    record {
      slots = length-set t.issues s o ∙ is.slots;
      devices = is.devices;
      issues = λ r. issue_kept t s r o is issue;
      contexts = λ dev. contexts_at t dev s o (context_of t dev) lt (is.contexts dev) (λ c e f. contexts dev c e f);
      one_waits = λ dev p r hp hr. elim (cases_eq p s) [
        | inl ep ↦ elim (cases_eq r s) [
          | inl er ↦ ep ∙ sym er
          | inr nr ↦ ep ∙ sym (waits dev r (waits_here t dev s o lt (ap (waits_for dev (with_issue t s o)) (sym ep) ∙ hp)) (waits_at t dev r s o lt nr hr))
        ]
        | inr np ↦ elim (cases_eq r s) [
          | inl er ↦ waits dev p (waits_here t dev s o lt (ap (waits_for dev (with_issue t s o)) (sym er) ∙ hr)) (waits_at t dev p s o lt np hp) ∙ sym er
          | inr nr ↦ is.one_waits dev p r (waits_at t dev p s o lt np hp) (waits_at t dev r s o lt nr hr)
        ]
      ];
    }

pub table_with_context : (t : Slots) (dev : ℕ) (m : Option Context) → IsTable t → dev < 16 → MatchOption m (Unit {0}) (IsContext dev t) → IsTable (with_context t dev m)
table_with_context t dev m is below h =
    let lt : dev < length t.contexts = omega (arith, is.devices) in
    record {
      slots = is.slots;
      devices = length-set t.contexts dev m ∙ is.devices;
      issues = is.issues;
      contexts = λ other. elim (cases_eq other dev) [
        | inl e ↦ rw e (rw (get_or-set_same t.contexts dev m None lt) h)
        | inr ne ↦ rw (get_or-set_other t.contexts dev other m None ne) (is.contexts other)
      ];
      one_waits = is.one_waits;
    }

-- what the table needs of a changed issue
pub record Keeps (f : Issue → Issue) (issue : Issue) : Type 0 where
  pub owner : (f issue).dev ≡ issue.dev
  pub rules : IsIssue issue → IsIssue (f issue)
  pub context : (dev : ℕ) (c : Context) → IsContextOf dev c issue → IsContextOf dev c (f issue)

at_some : (t : Slots) (s : ℕ) (issue : Issue) → IsTable t → issue_at t s ≡ Some issue → IsIssue issue
at_some t s issue is e = subst (λ (o : Option Issue). MatchOption o (Unit {0}) IsIssue) e (is.issues s)

pub context_some : (t : Slots) (dev : ℕ) (c : Context) → IsTable t → context_of t dev ≡ Some c → IsContext dev t c
context_some t dev c is e = subst (λ (m : Option Context). MatchOption m (Unit {0}) (IsContext dev t)) e (is.contexts dev)

pub context_in : (t : Slots) (dev s : ℕ) (c : Context) (issue : Issue) → IsContext dev t c → c.slot ≡ s → issue_at t s ≡ Some issue → IsContextOf dev c issue
context_in t dev s c issue is e f = subst (λ (o : Option Issue). MatchOption o ⊥ (IsContextOf dev c)) (ap (issue_at t) e ∙ f) is.1

pub table_changed : (t : Slots) (s : ℕ) (f : Issue → Issue) (issue : Issue) → IsTable t → s < 32 → issue_at t s ≡ Some issue → Keeps f issue
    → ((r : ℕ) → is_waiting (f issue) ≡ true → waits_for issue.dev t r ≡ true → r ≡ s)
    → IsTable (with_issue t s (Some (f issue)))
table_changed t s f issue is below at keeps waits =
    table_with_issue t s (Some (f issue)) is below (keeps.rules (at_some t s issue is at))
    (λ dev c e same. keeps.context dev c (context_in t dev s c issue (context_some t dev c is e) same at))
    (λ dev r here there.
    let own : (f issue).dev ≡ dev = owns_where is_waiting dev (Some (f issue)) here in
    let of : issue.dev ≡ dev = sym keeps.owner ∙ own in
    waits r (ap (holds is_waiting) (sym (owned_own dev (f issue) own)) ∙ here) (ap (λ (d : ℕ). waits_for d t r) of ∙ there))

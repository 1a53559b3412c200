-- For `core_delivers`. What frees a slot is an event of its own device.
use Rattle.std.proofs.Common.{◌≡◌, ℕ, Bool, true, false, List, [], ◌∷◌, ◌++◌, append_assoc, refl, sym, ap, subst, ◌∙◌, inl, inr, Option, Some, None}
use Rattle.std.proofs.lemmas.Bool.{cases_Bool, false≢true, true≢false}
use Rattle.std.specs.{Prelude.{◌==◌, ◌||◌, if◌then◌else◌, is_some}, Option.option_map}
use Rattle.slots.specs.Slots.{match_some, own_issue}
use Rattle.hba_fbs.specs.Views.{Port, view_of}
use Rattle.hba_laws.specs.{Agreement.{IsTold, work_of_issue, work_of_transfer}, CoreHistories.{AreSoundBy, CoreFreedByOwn, frees, happened}}
use Rattle.hba_laws.specs.{CoreHistories.{history_through, is_freed_in}, Cores.{CoreEvent, RunsBy}, History.{Answered, Carried, Emptied, Event}}
use Rattle.hba_laws.specs.History.{History, Issued, Named, PioSetUp, Sent, SentControl, SetUp, Transfer, completes, issued, unless}
use Rattle.hba_laws.proofs.histories.CoreEventLemmas.{core_views_are_told}

-- ---- one event

no_more : (b : Bool) (o : Option Transfer) → is_some o ≡ true → is_some (if b then None else o) ≡ false → b ≡ true
no_more true o some gone = refl
no_more false o some gone = absurd (true≢false (sym some ∙ gone))

freed_by : (f : Transfer → Bool) (o : Option Transfer) → is_some o ≡ true → is_some (match_some o None (λ t. unless (f t) (Some t))) ≡ false → match_some o false f ≡ true
freed_by f None some gone = absurd (false≢true some)
freed_by f (Some t) some gone = no_more (f t) (Some t) refl gone

issued_then : (b : Bool) (t : Transfer) (o : Option Transfer) → is_some o ≡ true → is_some (if b then Some t else o) ≡ false → false ≡ true
issued_then true t o some gone = absurd (true≢false gone)
issued_then false t o some gone = absurd (true≢false (sym some ∙ gone))

freed_step : (s : ℕ) (e : Event) (past : History) → is_some (issued s past) ≡ true → is_some (issued s (e ∷ past)) ≡ false → frees s e past ≡ true
freed_step s (Issued slot t) past some gone = issued_then (slot == s) t (issued s past) some gone
freed_step s (SentControl slot) past some gone = no_more (slot == s) (issued s past) some gone
freed_step s Emptied past some gone = refl
freed_step s (Sent slot) past some gone = freed_by (λ t. completes s (Sent slot) past t.work) (issued s past) some gone
freed_step s (SetUp tag offset count to_host) past some gone = freed_by (λ t. completes s (SetUp tag offset count to_host) past t.work) (issued s past) some gone
freed_step s (PioSetUp count to_host ends) past some gone = freed_by (λ t. completes s (PioSetUp count to_host ends) past t.work) (issued s past) some gone
freed_step s (Carried bytes) past some gone = freed_by (λ t. completes s (Carried bytes) past t.work) (issued s past) some gone
freed_step s Answered past some gone = freed_by (λ t. completes s Answered past t.work) (issued s past) some gone
freed_step s (Named mask) past some gone = freed_by (λ t. completes s (Named mask) past t.work) (issued s past) some gone

either_true : (a b : Bool) → b ≡ true → (a || b) ≡ true
either_true true b h = refl
either_true false b h = h

first_true : (a b : Bool) → a ≡ true → (a || b) ≡ true
first_true true b h = refl
first_true false b h = absurd (false≢true h)

freed_in : (s : ℕ) (h past : History) → is_some (issued s past) ≡ true → is_some (issued s (h ++ past)) ≡ false → is_freed_in s h past ≡ true
freed_in s [] past some gone = absurd (true≢false (sym some ∙ gone))
freed_in s (e ∷ h) past some gone = elim (cases_Bool (is_some (issued s (h ++ past)))) [
  | inl still ↦ first_true (frees s e (h ++ past)) (is_freed_in s h past) (freed_step s e (h ++ past) still gone)
  | inr not_still ↦ either_true (frees s e (h ++ past)) (is_freed_in s h past) (freed_in s h past some not_still)
]

-- ---- a list of them

through_after : (n : ℕ) (h past : History) (old new : Port) (events : List CoreEvent) (run : RunsBy old events new) → history_through n (h ++ past) old new events run ≡ history_through n h old new events run ++ past
through_after n h past old new [] run = refl
through_after n h past old new (event ∷ events) run =
    ap (λ (q : History). history_through n q run.0 new events run.2) (sym (append_assoc (happened n old event) h past))
    ∙ through_after n (happened n old event ++ h) past run.0 new events run.2

mapped_some : {A B : Type 0} (f : A → B) (o : Option A) → is_some (option_map f o) ≡ is_some o
mapped_some f None = refl
mapped_some f (Some a) = refl

-- what is issued for the device is what its history says
told_some : (n : ℕ) (port : Port) (past : History) (s : ℕ) → IsTold (view_of n port) past → is_some (issued s past) ≡ is_some (own_issue (view_of n port).slots s)
told_some n port past s told =
    sym (mapped_some work_of_transfer (issued s past)) ∙ ap is_some (told.issued s) ∙ mapped_some work_of_issue (own_issue (view_of n port).slots s)

pub core_freed_by_own : CoreFreedByOwn
core_freed_by_own n lt old new events run sound past told s some gone =
    freed_in s (history_through n [] old new events run) past (told_some n old past s told ∙ some)
    (ap (λ (q : History). is_some (issued s q)) (sym (through_after n [] past old new events run))
    ∙ told_some n new (history_through n past old new events run) s (core_views_are_told n lt old new events run sound past told) ∙ gone)

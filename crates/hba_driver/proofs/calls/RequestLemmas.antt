-- For `Driver::submit` and `Driver::with_mode`. The requests of a driver stay sound.
use Rattle.std.proofs.Common.{◌≡◌, ◌≢◌, ℕ, ◌+◌, ◌≤◌, ◌⊎◌, Bool, true, false, max, min, List, [], ◌∷◌, length, get_or, set, replicate, refl, sym, ◌∙◌, ap, subst, inl, inr, arith, Option, Some, None}
use Rattle.std.specs.{Prelude.{if◌then◌else◌, ◌||◌}, List.list_any, Option.option_map}
use Rattle.std.proofs.lemmas.Bool.{cases_lt, cases_eq}
use Rattle.std.proofs.lemmas.List.{get_or_past, get_or-set_same, get_or-set_other, get_or-replicate, length-replicate, length-set}
use Rattle.host_memory.specs.{Reading.{share_byte, share_with}, declared.table.Prd.Prd}
use Rattle.hba_driver.specs.declared.{order.Order.{Order, TheVariants.Clear}, path.Stage.{Stage, TheVariants.AssertReset}}
use Rattle.hba_driver.specs.declared.{request.Outcome.TheVariants.{Aborted, PortError, Removed}, sight.ErrorLog.ErrorLog, slot.Head.Head}
use Rattle.hba_driver.specs.declared.{slot.Phase.{Phase, TheVariants.{Aside, Issued, Ended}}, turn.Act.Act, turn.Logged.Logged}
use Rattle.hba_driver.specs.Ticks.{entries_after, is_aside_of, is_named_of, is_open, is_open_of, log_outcome, logged_ended, removed, stage_ended}
use Rattle.hba_driver.specs.Drivers.{AreRequests, Entry, entry_at, holds, is_read, rephase_all, rephased}
use Rattle.hba_driver.specs.declared.turn.Act.TheVariants as act
use Rattle.hba_driver.proofs.ticks.LifeLemmas.{entry_of_rephased, length_of_rephased}

-- ---- no request, and no new one

abbrev no_entry : Option Entry
no_entry = None

none_at : (n s : ℕ) → get_or (replicate n no_entry) s None ≡ None
none_at n s = elim (cases_lt s n) [
  | inl below ↦ get_or-replicate n s None None below
  | inr past ↦ get_or_past (replicate n None) s None (rw (length-replicate n no_entry) past)
]

is_none_at : (n s : ℕ) (e : Entry) → entry_at (replicate n no_entry) s ≡ Some e → ⊥
is_none_at n s e h = none_some (sym (none_at n s) ∙ h)
  where
    none_some : no_entry ≡ Some e → ⊥
    none_some h = cc

pub no_requests : (last n : ℕ) → n ≡ 30 → AreRequests last (replicate n no_entry)
no_requests last n is = record {
  slots = length-replicate n no_entry ∙ is;
  given = λ s e h. absurd (is_none_at n s e h);
  own = λ s t e f h k same. absurd (is_none_at n s e h);
  apart = λ s t e f h k ne reads. absurd (is_none_at n s e h);
}

-- the request was there before, except for its phase
pub record Back (before : Option Entry) (e : Entry) : Type 0 where
  pub entry : Entry
  pub was : before ≡ Some entry
  pub ticket : e.head.ticket ≡ entry.head.ticket
  pub work : e.head.work ≡ entry.head.work
  pub prds : e.prds ≡ entry.prds

abbrev pub ComeFrom : List (Option Entry) → List (Option Entry) → Type 0
ComeFrom old new = (s : ℕ) (e : Entry) → entry_at new s ≡ Some e → Back (entry_at old s) e

pub requests_from : (last : ℕ) (old new : List (Option Entry)) → AreRequests last old → length new ≡ length old → ComeFrom old new → AreRequests last new
requests_from last old new h long from = record {
  slots = long ∙ h.slots;
  given = λ s e here. let b = from s e here in subst (λ (t : ℕ). t ≤ last) (sym b.ticket) (h.given s b.entry b.was);
  own = λ s t e f here there same.
      let b = from s e here in
      let c = from t f there in
      h.own s t b.entry c.entry b.was c.was (sym b.ticket ∙ same ∙ c.ticket);
  apart = λ s t e f here there ne reads.
      let b = from s e here in
      let c = from t f there in
      let read : (is_read b.entry.head.work || is_read c.entry.head.work) ≡ true = rw (← b.work, ← c.work) reads in
      let free : share_with b.entry.prds c.entry.prds ≡ false = h.apart s t b.entry c.entry b.was c.was ne read in
      ap (λ (x : List Prd). share_with x f.prds) b.prds ∙ ap (λ (y : List Prd). share_with b.entry.prds y) c.prds ∙ free;
}

back_rephase : (b : Bool) (phase : Phase) (o : Option Entry) (e : Entry) → (if b then option_map (rephased phase) o else o) ≡ Some e → Back o e
back_rephase true phase None e h = absurd (none_some h)
  where
    none_some : no_entry ≡ Some e → ⊥
    none_some h = cc
back_rephase true phase (Some f) e h =
    let is : rephased phase f ≡ e = cc in
    record {
      entry = f;
      was = refl;
      ticket = ap (λ (x : Entry). x.head.ticket) (sym is);
      work = ap (λ (x : Entry). x.head.work) (sym is);
      prds = ap (λ (x : Entry). x.prds) (sym is);
    }
back_rephase false phase o e h = record { entry = e; was = h; ticket = refl; work = refl; prds = refl }

pub requests_rephased : (last : ℕ) (test : ℕ → Head → Bool) (phase : Phase) (old new : List (Option Entry)) → AreRequests last old → new ≡ rephase_all test phase old → AreRequests last new
requests_rephased last test phase old new h is =
    requests_from last old new h (ap (λ (l : List (Option Entry)). length l) is ∙ length_of_rephased test phase old)
    (λ s e here. back_rephase (holds (test s) (entry_at old s)) phase (entry_at old s) e
    (sym (entry_of_rephased test phase old s) ∙ sym (ap (λ (l : List (Option Entry)). entry_at l s) is) ∙ here))

requests_in : (last : ℕ) (test : ℕ → Head → Bool) (phase : Phase) (old : List (Option Entry)) → AreRequests last old → AreRequests last (rephase_all test phase old)
requests_in last test phase old h = requests_rephased last test phase old (rephase_all test phase old) h refl

requests_staged : (last dev : ℕ) (stage : Stage) (old : List (Option Entry)) → AreRequests last old → AreRequests last (stage_ended dev stage old)
requests_staged last dev AssertReset old h = requests_in last (is_aside_of dev) (Ended Aborted) old h
requests_staged last dev stage old h = h

pub requests_logged : (last : ℕ) (log : ErrorLog) (l : Option Logged) (old : List (Option Entry)) → AreRequests last old → AreRequests last (logged_ended log l old)
requests_logged last log None old h = h
requests_logged last log (Some l) old h =
    requests_in last (is_aside_of l.dev) (Ended Aborted) _ (requests_in last (is_named_of log l.dev) (Ended (log_outcome log l.file)) old h)

requests_removed : (last : ℕ) (order : Order) (old : List (Option Entry)) → AreRequests last old → AreRequests last (removed order old)
requests_removed last (Clear port) old h = requests_rephased last (is_open_of port) (Ended Removed) old (rephase_all (is_open_of port) (Ended Removed) old) h refl
requests_removed last order old h = h

-- ---- one slot

-- what is there after a slot is set
pub set_cases : (old : List (Option Entry)) (slot : ℕ) (x : Option Entry) (s : ℕ) (e : Entry) → entry_at (set old slot x) s ≡ Some e
    → ((s ≡ slot) × (x ≡ Some e)) ⊎ ((s ≢ slot) × (entry_at old s ≡ Some e))
set_cases old slot x s e h = elim (cases_eq s slot) [
  | inr other ↦ inr (other, sym (get_or-set_other old slot s x None other) ∙ h)
  | inl same ↦ elim (cases_lt slot (length old)) [
    | inl below ↦
        let here : entry_at (set old slot x) slot ≡ Some e = subst (λ (k : ℕ). entry_at (set old slot x) k ≡ Some e) same h in
        inl (same, sym (get_or-set_same old slot x None below) ∙ here)
    | inr past ↦
        let gone : entry_at (set old slot x) s ≡ None = get_or_past (set old slot x) s None (omega (arith, length-set old slot x, past, same)) in
        absurd (none_some (sym gone ∙ h))
  ]
]
  where
    none_some : no_entry ≡ Some e → ⊥
    none_some h = cc

pub requests_put : (last : ℕ) (old : List (Option Entry)) (slot : ℕ) (x : Option Entry) → AreRequests last old → ((e : Entry) → x ≡ Some e → Back (entry_at old slot) e) → AreRequests last (set old slot x)
requests_put last old slot x h back = requests_from last old (set old slot x) h (length-set old slot x) (λ s e here. elim (set_cases old slot x s e here) [
  | inl at ↦ subst (λ (k : ℕ). Back (entry_at old k) e) (sym at.0) (back e at.1)
  | inr beside ↦ record { entry = e; was = beside.1; ticket = refl; work = refl; prds = refl }
])

-- an act changes only phases
pub requests_after : (last : ℕ) (act : Act) (old : List (Option Entry)) → AreRequests last old → AreRequests last (entries_after act old)
unfolding entries_after
requests_after last act.Stops old h = requests_in last is_open (Ended PortError) old h
requests_after last (act.Clears dev) old h = requests_in last (is_open_of dev) Aside old h
requests_after last (act.Orders order) old h = requests_removed last order old h
requests_after last (act.Steps dev stage) old h = requests_staged last dev stage old h
requests_after last (act.Issues slot dev queued) old h =
    requests_put last old slot (option_map (rephased Issued) (entry_at old slot)) h (λ e some. back_rephase true Issued (entry_at old slot) e some)
requests_after last other old h = h

-- it is freed
pub requests_freed : (last : ℕ) (old : List (Option Entry)) (slot : ℕ) (x : Option Entry) → AreRequests last old → x ≡ None → AreRequests last (set old slot x)
requests_freed last old slot x h is = requests_put last old slot x h (λ e some. absurd (none_some e (sym is ∙ some)))
  where
    none_some : (e : Entry) → no_entry ≡ Some e → ⊥
    none_some e h = cc

-- ---- a new request

-- sharing a byte goes both ways
or_swap : (a b c d : Bool) → ((a || b) || (c || d)) ≡ ((a || c) || (b || d))
or_swap true b c d = refl
or_swap false true true d = refl
or_swap false true false d = refl
or_swap false false true d = refl
or_swap false false false d = refl

any_none : {A : Type 0} (xs : List A) → list_any (λ x. false) xs ≡ false
any_none [] = refl
any_none (x ∷ xs) = any_none xs

any_or : {A : Type 0} (p q : A → Bool) (xs : List A) → list_any (λ x. p x || q x) xs ≡ (list_any p xs || list_any q xs)
any_or p q [] = refl
any_or p q (x ∷ xs) = ap (λ (b : Bool). (p x || q x) || b) (any_or p q xs) ∙ or_swap (p x) (q x) (list_any p xs) (list_any q xs)

any_both : {A B : Type 0} (r : A → B → Bool) (xs : List A) (ys : List B) → list_any (λ x. list_any (r x) ys) xs ≡ list_any (λ y. list_any (λ x. r x y) xs) ys
any_both r [] ys = sym (any_none ys)
any_both r (x ∷ xs) ys = ap (λ (b : Bool). list_any (r x) ys || b) (any_both r xs ys) ∙ sym (any_or (r x) (λ y. list_any (λ z. r z y) xs) ys)

any_same : {A : Type 0} (p q : A → Bool) (xs : List A) → ((x : A) → p x ≡ q x) → list_any p xs ≡ list_any q xs
any_same p q [] h = refl
any_same p q (x ∷ xs) h = ap (λ (b : Bool). b || list_any p xs) (h x) ∙ ap (λ (b : Bool). q x || b) (any_same p q xs h)

max_swap : (a b : ℕ) → max a b ≡ max b a
max_swap a b = omega arith

min_swap : (a b : ℕ) → min a b ≡ min b a
min_swap a b = omega arith

share_swap : (p q : Prd) → share_byte p q ≡ share_byte q p
share_swap p q = rw (max_swap p.address q.address, min_swap (p.address + p.bytes) (q.address + q.bytes)) refl

pub share_both : (ps qs : List Prd) → share_with ps qs ≡ share_with qs ps
share_both ps qs =
    any_both share_byte ps qs
    ∙ any_same (λ q. list_any (λ p. share_byte p q) ps) (λ q. list_any (share_byte q) ps) qs (λ q. any_same (λ p. share_byte p q) (share_byte q) ps (λ p. share_swap p q))

-- the new request shares no byte with those that are there, if one of the two reads
pub requests_taken : (last : ℕ) (old : List (Option Entry)) (slot : ℕ) (x : Option Entry) (new : Entry) → AreRequests last old → x ≡ Some new → new.head.ticket ≡ last + 1
    → ((s : ℕ) (e : Entry) → entry_at old s ≡ Some e → (is_read new.head.work || is_read e.head.work) ≡ true → share_with new.prds e.prds ≡ false) → AreRequests (last + 1) (set old slot x)
requests_taken last old slot x new h is ticket free =
    let same : (e : Entry) → x ≡ Some e → new ≡ e = λ e some. let both : Some new ≡ Some e = sym is ∙ some in cc in
    record {
      slots = length-set old slot x ∙ h.slots;
      given = λ s e here. elim (set_cases old slot x s e here) [
        | inl at ↦ let t : e.head.ticket ≡ last + 1 = ap (λ (y : Entry). y.head.ticket) (sym (same e at.1)) ∙ ticket in omega (arith, t)
        | inr beside ↦ let t : e.head.ticket ≤ last = h.given s e beside.1 in omega (arith, t)
      ];
      own = λ s t e f here there alike. elim (set_cases old slot x s e here) [
        | inl at ↦ elim (set_cases old slot x t f there) [
          | inl also ↦ at.0 ∙ sym also.0
          | inr beside ↦
              let one : e.head.ticket ≡ last + 1 = ap (λ (y : Entry). y.head.ticket) (sym (same e at.1)) ∙ ticket in
              let two : f.head.ticket ≤ last = h.given t f beside.1 in
              absurd (omega (arith, one, two, alike))
        ]
        | inr beside ↦ elim (set_cases old slot x t f there) [
          | inl at ↦
              let one : f.head.ticket ≡ last + 1 = ap (λ (y : Entry). y.head.ticket) (sym (same f at.1)) ∙ ticket in
              let two : e.head.ticket ≤ last = h.given s e beside.1 in
              absurd (omega (arith, one, two, alike))
          | inr also ↦ h.own s t e f beside.1 also.1 alike
        ]
      ];
      apart = λ s t e f here there ne reads. elim (set_cases old slot x s e here) [
        | inl at ↦ elim (set_cases old slot x t f there) [
          | inl also ↦ absurd (ne (at.0 ∙ sym also.0))
          | inr beside ↦
              let is_new : new ≡ e = same e at.1 in
              subst (λ (y : Entry). share_with y.prds f.prds ≡ false) is_new (free t f beside.1 (subst (λ (y : Entry). (is_read y.head.work || is_read f.head.work) ≡ true) (sym is_new) reads))
        ]
        | inr beside ↦ elim (set_cases old slot x t f there) [
          | inl at ↦
              let is_new : new ≡ f = same f at.1 in
              let read : (is_read new.head.work || is_read e.head.work) ≡ true = or_comm (is_read e.head.work) (is_read new.head.work) (subst (λ (y : Entry). (is_read e.head.work || is_read y.head.work) ≡ true) (sym is_new) reads) in
              subst (λ (y : Entry). share_with e.prds y.prds ≡ false) is_new (share_both e.prds new.prds ∙ free s e beside.1 read)
          | inr also ↦ h.apart s t e f beside.1 also.1 ne reads
        ]
      ];
    }
  where
    or_comm : (a b : Bool) → (a || b) ≡ true → (b || a) ≡ true
    or_comm true false h = refl
    or_comm false false h = h
    or_comm other true h = refl

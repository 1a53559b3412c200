-- For `delivers`. Each filled byte of an issued read stands at its place.
use Rattle.std.proofs.Common.{◌≡◌, ◌≢◌, ℕ, ◌+◌, ◌-◌, ◌<◌, ◌≤◌, Bool, true, false, cond, eqb, List, [], ◌∷◌, length, get_or, refl, sym, ap, subst, ◌∙◌}
use Rattle.std.proofs.{Common.{inl, inr, Option, Some, None, ◌⊎◌, arith}, lemmas.Bool.{cases_Bool, eq-eqb, eqb-true, false≢true, and_parts, ltb-true}}
use Rattle.std.proofs.lemmas.{Bool.{leb-true, lt-ltb, le-leb, and_from}, List.{Folds.list_all_at, FromFn.{get_or-range_with_len}}}
use Rattle.std.proofs.lemmas.List.FromFn.{length-range_with_len}
use Rattle.std.specs.{Prelude.{MatchOption, is_some, ◌&&◌, ◌||◌, not, nat_le, nat_lt, slice_get}, List.range_with_len}
use Rattle.host_memory.specs.Place.{place, written}
use Rattle.host_memory.proofs.Door.{written_at, written_elsewhere}
use Rattle.slots.specs.{Slots.{has_bit, match_some}, Work.{is_queued, is_read, needs_all}, declared.work.Kind.{Kind, TheVariants.{QueuedRead, DmaIn}}}
use Rattle.slots.specs.declared.work.Kind.TheVariants.{PioIn}
use Rattle.hba_laws.specs.Client.{AreApart, AreWithin, By, CompletesInPlace, Filling, FillsWithin, IsKept, IsReading, IsWithin, Puts, StandsInPlace}
use Rattle.hba_laws.specs.{Client.{Stops, Touches, client, filling, filling_by, own}, History.{Answered, Carried, Emptied, Event, History, Issued}}
use Rattle.hba_laws.specs.History.{Named, PioSetUp, SentControl, SetUp, Setup, Transfer, bytes_of, completes, filled, filled_from, is_all_filled}
use Rattle.hba_laws.specs.{History.{is_at, is_set_up, issued, last_setup, next_number, none_filled, pio_setup, unless, waiting_in}, Between.IsFilling}

pub some_inj : {A : Type 0} (a b : A) → Some a ≡ Some b → a ≡ b
some_inj a b e = cc

-- an Option that is Some has a value
pub the : {A : Type 0} (o : Option A) → is_some o ≡ true → (a : A) × (o ≡ Some a)
the None e = absurd (false≢true e)
the (Some a) e = (a, refl)

-- a byte filled by this, or before
pub filled_cases : (from : ℕ) (bytes : List ℕ) (old : ℕ → Option ℕ) (i b : ℕ) → filled_from from bytes old i ≡ Some b
    → ((from ≤ i) × (i < from + length bytes) × (slice_get bytes (i - from) ≡ Some b)) ⊎ (((j : ℕ) → j < length bytes → i ≢ from + j) × (old i ≡ Some b))
filled_cases from bytes old i b e = by_test (nat_le from i && nat_lt i (from + length bytes)) refl e
  where
    by_test : (t : Bool) → (nat_le from i && nat_lt i (from + length bytes)) ≡ t → cond t (slice_get bytes (i - from)) (old i) ≡ Some b
        → ((from ≤ i) × (i < from + length bytes) × (slice_get bytes (i - from) ≡ Some b)) ⊎ (((j : ℕ) → j < length bytes → i ≢ from + j) × (old i ≡ Some b))
    by_test true is e =
        let p = and_parts (nat_le from i) (nat_lt i (from + length bytes)) is in
        inl (leb-true from i p.0, ltb-true i (from + length bytes) p.1, e)
    by_test false is e = inr ((λ j lt at. false≢true (sym is ∙ inside j lt at)), e)
      where
        inside : (j : ℕ) → j < length bytes → i ≡ from + j → (nat_le from i && nat_lt i (from + length bytes)) ≡ true
        inside j lt at = and_from (nat_le from i) (nat_lt i (from + length bytes)) (le-leb from i (omega arith)) (lt-ltb i (from + length bytes) (omega arith))

-- ---- what is set up

pub set_up_setup : (s : ℕ) (past : History) → is_set_up s past ≡ true → (g : Setup) × (last_setup past ≡ Some g) × (g.slot ≡ s)
set_up_setup s [] e = absurd (false≢true e)
set_up_setup s (Issued slot t ∷ past) e = by_test (eqb slot s) e (set_up_setup s past)
  where
    by_test : (b : Bool) → cond b false (is_set_up s past) ≡ true → (is_set_up s past ≡ true → (g : Setup) × (last_setup past ≡ Some g) × (g.slot ≡ s))
        → (g : Setup) × (last_setup past ≡ Some g) × (g.slot ≡ s)
    by_test true e f = absurd (false≢true e)
    by_test false e f = f e
set_up_setup s (SetUp tag offset count to_host ∷ past) e =
    (record { slot = tag; offset = offset; count = count; to_host = to_host; ends = None }, refl, eqb-true tag s e)
set_up_setup s (PioSetUp count to_host ends ∷ past) e = by_waiting (waiting_in past) e
  where
    by_waiting : (o : Option ℕ) → is_at s o ≡ true
        → (g : Setup) × (match_some o None (λ k. Some (pio_setup k (bytes_of k past) count to_host ends)) ≡ Some g) × (g.slot ≡ s)
    by_waiting None e = absurd (false≢true e)
    by_waiting (Some k) e = (pio_setup k (bytes_of k past) count to_host ends, refl, eqb-true k s e)
set_up_setup s (_ ∷ past) e = set_up_setup s past e

-- ---- what Data fills

pub if_there : {A : Type 0} (o : Option A) (Q : A → Type 0) (a : A) → o ≡ Some a → MatchOption o (Unit {0}) Q → Q a
if_there o Q a e h = rw e at h

abbrev pub filling_of : ℕ → History → Transfer → Filling
filling_of s past t = record { slot = s; transfer = t; from = next_number past }

pub filling_is : (past : History) (f : Filling) → filling past ≡ Some f → IsFilling past f
filling_is past f e = by_setup (last_setup past) refl e
  where
    with_transfer : (g : Setup) → last_setup past ≡ Some g → g.to_host ≡ true → is_set_up g.slot past ≡ true → (o : Option Transfer) → issued g.slot past ≡ o
        → match_some o None (λ t. Some (filling_of g.slot past t)) ≡ Some f → IsFilling past f
    with_transfer g last host up None is e = cc
    with_transfer g last host up (Some t) is e =
        let same : filling_of g.slot past t ≡ f = some_inj (filling_of g.slot past t) f e in
        subst (IsFilling past) same (record { setup = g; last = last; host = host; slot_is = refl; is_issued = is; is_up = up; from_is = refl })

    by_test : (g : Setup) → last_setup past ≡ Some g → (b : Bool) → (g.to_host && is_set_up g.slot past) ≡ b
        → cond b (match_some (issued g.slot past) None (λ t. Some (filling_of g.slot past t))) None ≡ Some f → IsFilling past f
    by_test g last false test e = cc
    by_test g last true test e =
        let p = and_parts g.to_host (is_set_up g.slot past) test in
        with_transfer g last p.0 p.1 (issued g.slot past) refl e

    by_setup : (o : Option Setup) → last_setup past ≡ o
        → match_some o None (λ g. cond (g.to_host && is_set_up g.slot past) (match_some (issued g.slot past) None (λ t. Some (filling_of g.slot past t))) None) ≡ Some f → IsFilling past f
    by_setup None last e = cc
    by_setup (Some g) last e = by_test g last (g.to_host && is_set_up g.slot past) refl e

pub fills_as : (past : History) (g : Setup) (t : Transfer) → last_setup past ≡ Some g → g.to_host ≡ true → is_set_up g.slot past ≡ true → issued g.slot past ≡ Some t
    → filling past ≡ Some (filling_of g.slot past t)
fills_as past g t last host up is =
    ap (λ o. match_some o None (filling_by past)) last ∙ rw (host, up, is) refl

-- ---- Data of a device

abbrev client_by : (ℕ → ℕ) → Touches → List ℕ → ℕ → Option Filling → ℕ
client_by opening past bytes k o = match_some o (client opening past k) (λ f. written f.transfer.table f.from bytes (client opening past) k)

-- Data that fills no byte of the slot leaves its places
spared : (opening : ℕ → ℕ) (past : Touches) (dev : ℕ) (bytes : List ℕ) (n s i : ℕ) (t : Transfer) → AreApart past → IsWithin (own dev past) (length bytes)
    → IsReading n s t past → i < t.work.len → ((f : Filling) → filling (own dev past) ≡ Some f → n ≡ dev → s ≡ f.slot → ⊥)
    → client_by opening past bytes (place t.table i) (filling (own dev past)) ≡ client opening past (place t.table i)
spared opening past dev bytes n s i t apart within reading lt others = by_filling (filling (own dev past)) refl
  where
    by_filling : (o : Option Filling) → filling (own dev past) ≡ o → client_by opening past bytes (place t.table i) o ≡ client opening past (place t.table i)
    by_filling None e = refl
    by_filling (Some f) e =
        let p = filling_is (own dev past) f e in
        let q = if_there (filling (own dev past)) (FillsWithin (length bytes)) f e within.fills in
        let fills : IsReading dev f.slot f.transfer past = record { is = p.is_issued; reads = q.reads } in
        written_elsewhere f.transfer.table f.from bytes (client opening past) (place t.table i) (λ j below at.
        let same = apart n s dev f.slot i (f.from + j) t f.transfer reading fills lt (omega (arith, q.fits)) at in
        others f e same.devices same.slots)

-- Data of the device itself
carried_here : (opening : ℕ → ℕ) (past : Touches) (n : ℕ) (bytes : List ℕ) (s i b : ℕ) (t : Transfer) → AreApart past → IsWithin (own n past) (length bytes)
    → IsReading n s t past → i < t.work.len → ((x : ℕ) → filled s (own n past) i ≡ Some x → client opening past (place t.table i) ≡ x)
    → (up : Bool) → is_set_up s (own n past) ≡ up → cond up (filled_from (next_number (own n past)) bytes (filled s (own n past))) (filled s (own n past)) i ≡ Some b
    → client_by opening past bytes (place t.table i) (filling (own n past)) ≡ b
carried_here opening past n bytes s i b t apart within reading lt before false up e =
    spared opening past n bytes n s i t apart within reading lt
    (λ f at same slot. false≢true (sym up ∙ ap (λ k. is_set_up k (own n past)) slot ∙ (filling_is (own n past) f at).is_up)) ∙ before b e
carried_here opening past n bytes s i b t apart within reading lt before true up e =
    let P : History = own n past in
    let from : ℕ = next_number P in
    let g = set_up_setup s P up in
    let f : Filling = record { slot = g.0.slot; transfer = t; from = from } in
    let is_g : issued g.0.slot P ≡ Some t = ap (λ k. issued k P) g.2 ∙ reading.is in
    let up_g : is_set_up g.0.slot P ≡ true = ap (λ k. is_set_up k P) g.2 ∙ up in
    let host : g.0.to_host ≡ true = within.way g.0 t g.1 is_g reading.reads up_g in
    let fills : filling P ≡ Some f = fills_as P g.0 t g.1 host up_g is_g in
    let room = if_there (filling P) (FillsWithin (length bytes)) f fills within.fills in
    ap (client_by opening past bytes (place t.table i)) fills ∙ elim (filled_cases from bytes (filled s P) i b e) [
      | inl p ↦
          let at : from + (i - from) ≡ i = omega (arith, p.0) in
          ap (λ k. written t.table from bytes (client opening past) (place t.table k)) (sym at)
          ∙ written_at t.table from bytes (client opening past) (i - from) b (λ j below same.
          let e = apart n s n s (from + (i - from)) (from + j) t t reading reading (omega arith) (omega arith) same in absurd (omega (arith, e.numbers))) p.2
      | inr q ↦
          written_elsewhere t.table from bytes (client opening past) (place t.table i) (λ j below same.
          q.0 j below ((apart n s n s i (from + j) t t reading reading lt (omega (arith, room.fits)) same).numbers))
          ∙ before b q.1
    ]

module _ (opening : ℕ → ℕ) (past : Touches) (n s i b : ℕ) (t : Transfer) (reading : IsReading n s t past) (lt : i < t.work.len)
    (before : (x : ℕ) → filled s (own n past) i ≡ Some x → client opening past (place t.table i) ≡ x) where
  -- after Data of any device
  carried_any : (dev : ℕ) (bytes : List ℕ) → AreApart past → IsWithin (own dev past) (length bytes) → (same : Bool) → eqb dev n ≡ same
      → filled s (cond same (Carried bytes ∷ own n past) (own n past)) i ≡ Some b → client opening (By dev (Carried bytes) ∷ past) (place t.table i) ≡ b
  carried_any dev bytes apart within true e f =
      let same : dev ≡ n = eqb-true dev n e in
      ap (λ d. client_by opening past bytes (place t.table i) (filling (own d past))) same
      ∙ carried_here opening past n bytes s i b t apart (subst (λ d. IsWithin (own d past) (length bytes)) same within) reading lt before (is_set_up s (own n past)) refl f
  carried_any dev bytes apart within false e f =
      spared opening past dev bytes n s i t apart within reading lt (λ v at same slot. false≢true (sym e ∙ eq-eqb dev n (sym same))) ∙ before b f

  -- after what fills nothing
  other_any : (e : Event) → (filled s (e ∷ own n past) i ≡ Some b → filled s (own n past) i ≡ Some b) → (same : Bool)
      → filled s (cond same (e ∷ own n past) (own n past)) i ≡ Some b → client opening past (place t.table i) ≡ b
  other_any e keeps true f = before b (keeps f)
  other_any e keeps false f = before b f

  anew : (slot : ℕ) (u : Transfer) → filled s (Issued slot u ∷ own n past) i ≡ Some b → filled s (own n past) i ≡ Some b
  anew slot u f = by_test (eqb slot s) f
    where
      by_test : (same : Bool) → cond same none_filled (filled s (own n past)) i ≡ Some b → filled s (own n past) i ≡ Some b
      by_test true f = cc
      by_test false f = f

  by_device : (dev : ℕ) (e : Event) → IsKept (By dev e ∷ past) → AreWithin (By dev e ∷ past) → filled s (own n (By dev e ∷ past)) i ≡ Some b
      → client opening (By dev e ∷ past) (place t.table i) ≡ b
  by_device dev (Carried bytes) kept within f = carried_any dev bytes kept.0 within.0 (eqb dev n) refl f
  by_device dev (Issued slot u) kept within f = other_any (Issued slot u) (anew slot u) (eqb dev n) f
  by_device dev other kept within f = other_any other (λ x. x) (eqb dev n) f

pub kept_before : (past : Touches) (dev : ℕ) (e : Event) → IsKept (By dev e ∷ past) → IsKept past
kept_before past dev (Carried bytes) kept = kept.1
kept_before past dev _ kept = kept

pub within_before : (past : Touches) (dev : ℕ) (e : Event) → AreWithin (By dev e ∷ past) → AreWithin past
within_before past dev (Carried bytes) within = within.1
within_before past dev _ within = within

-- what is issued after something was issued before it, or by it
unless_was : (b : Bool) (d t : Transfer) → unless b (Some d) ≡ Some t → Some d ≡ Some t
unless_was true d t e = cc
unless_was false d t e = e

pub was_issued : (s : ℕ) (e : Event) (P : History) (t : Transfer) → issued s (e ∷ P) ≡ Some t → (issued s P ≡ Some t) ⊎ (filled s (e ∷ P) ≡ none_filled)
was_issued s (Issued slot u) P t e = by_test (eqb slot s) e
  where
    by_test : (b : Bool) → cond b (Some u) (issued s P) ≡ Some t → (issued s P ≡ Some t) ⊎ (cond b none_filled (filled s P) ≡ none_filled)
    by_test true e = inr refl
    by_test false e = inl e
was_issued s (SentControl slot) P t e = by_test (eqb slot s) e
  where
    by_test : (b : Bool) → unless b (issued s P) ≡ Some t → (issued s P ≡ Some t) ⊎ (filled s P ≡ none_filled)
    by_test true e = cc
    by_test false e = inl e
was_issued s Emptied P t e = cc
was_issued s h P t e = by_issue (issued s P) e
  where
    by_issue : (o : Option Transfer) → match_some o None (λ d. unless (completes s h P d.work) (Some d)) ≡ Some t → (o ≡ Some t) ⊎ (filled s (h ∷ P) ≡ none_filled)
    by_issue None e = cc
    by_issue (Some d) e = inl (unless_was (completes s h P d.work) d t e)

pub stands_in_place : StandsInPlace
stands_in_place opening [] kept within n s i b t reading lt f = cc
stands_in_place opening (Puts at bytes ∷ past) kept within n s i b t reading lt f =
    let reads : IsReading n s t past = record { is = reading.is; reads = reading.reads } in
    let out = kept.0 n s i t reads lt in
    rw out (stands_in_place opening past kept.1 within n s i b t reads lt f)
stands_in_place opening (Stops ∷ past) kept within n s i b t reading lt f = let none : None ≡ Some t = reading.is in cc
stands_in_place opening (By dev e ∷ past) kept within n s i b t reading lt f =
    go (eqb dev n) refl reading.is f
    (λ was x g. stands_in_place opening past (kept_before past dev e kept) (within_before past dev e within) n s i x t (record { is = was; reads = reading.reads }) lt g)
  where
    go : (same : Bool) → eqb dev n ≡ same → issued s (cond same (e ∷ own n past) (own n past)) ≡ Some t → filled s (own n (By dev e ∷ past)) i ≡ Some b
        → (issued s (own n past) ≡ Some t → (x : ℕ) → filled s (own n past) i ≡ Some x → client opening past (place t.table i) ≡ x)
        → client opening (By dev e ∷ past) (place t.table i) ≡ b
    go false same is f ih = by_device opening past n s i b t (record { is = is; reads = reading.reads }) lt (ih is) dev e kept within f
    go true same is f ih = elim (was_issued s e (own n past) t is) [
      | inl was ↦ by_device opening past n s i b t (record { is = was; reads = reading.reads }) lt (ih was) dev e kept within f
      | inr empty ↦ let none : filled s (own n (By dev e ∷ past)) i ≡ None = rw same (ap (λ (g : ℕ → Option ℕ). g i) empty) in cc
    ]

-- ---- at completion

all_at : (g : ℕ → Option ℕ) (len i : ℕ) → is_all_filled g len ≡ true → i < len → (b : ℕ) × (g i ≡ Some b)
all_at g len i all lt =
    let long = length-range_with_len 0 len in
    elim (cases_Bool (is_some (g i))) [
      | inl here ↦ the (g i) here
      | inr missing ↦
          let zero_first : 0 + i ≡ i = omega arith in
          let at : is_some (g (get_or (range_with_len 0 len) i 0)) ≡ false = ap (λ k. is_some (g k)) (get_or-range_with_len 0 len i 0 lt ∙ zero_first) ∙ missing in
          absurd (false≢true (sym (list_all_at (λ k. is_some (g k)) (range_with_len 0 len) i 0 (omega (arith, long)) at) ∙ all))
    ]

read_whole : (kind : Kind) (w : Bool) → is_read kind ≡ true → not (is_queued kind) ≡ true → (not (needs_all kind) || w) ≡ true → w ≡ true
read_whole QueuedRead w read q e = absurd (false≢true q)
read_whole DmaIn w read q e = e
read_whole PioIn w read q e = e
read_whole _ w read q e = absurd (false≢true read)

whole_at : (s : ℕ) (e : Event) (P : History) (t : Transfer) → is_read t.work.kind ≡ true → completes s e P t.work ≡ true → is_all_filled (filled s (e ∷ P)) t.work.len ≡ true
whole_at s (Named mask) P t read e =
    (and_parts (is_queued t.work.kind) (is_all_filled (filled s P) t.work.len) ((and_parts (has_bit mask s) (is_queued t.work.kind && is_all_filled (filled s P) t.work.len) e).1)).1
whole_at s Answered P t read e =
    let a : Bool = is_at s (waiting_in P) in
    let p = and_parts (a && not (is_queued t.work.kind)) (not (needs_all t.work.kind) || is_all_filled (filled s P) t.work.len) e in
    read_whole t.work.kind (is_all_filled (filled s P) t.work.len) read ((and_parts a (not (is_queued t.work.kind)) p.0).1) p.1
whole_at s (Carried bytes) P t read e = (and_parts _ (is_all_filled (filled s (Carried bytes ∷ P)) t.work.len) e).1
whole_at s _ P t read e = absurd (false≢true e)

pub completes_in_place : CompletesInPlace
completes_in_place opening past n e kept within s i t reading done lt =
    let here : eqb n n ≡ true = eq-eqb n n refl in
    let at = all_at (filled s (e ∷ own n past)) t.work.len i (whole_at s e (own n past) t reading.reads done) lt in
    let f : filled s (own n (By n e ∷ past)) i ≡ Some at.0 = rw here at.1 in
    record {
      byte = at.0;
      is_filled = f;
      stands = by_device opening past n s i at.0 t reading lt (λ x g.
          stands_in_place opening past (kept_before past n e kept) (within_before past n e within) n s i x t reading lt g) n e kept within f;
    }

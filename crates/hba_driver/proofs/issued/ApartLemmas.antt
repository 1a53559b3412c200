-- For `turns_serve`. What is issued is apart, and what is put leaves it alone.
use Rattle.std.proofs.Common.{◌≡◌, ℕ, ◌+◌, ◌<◌, ◌≤◌, Bool, true, false, List, [], ◌∷◌, ◌++◌, refl, sym, ◌∙◌, ap, inl, inr, arith, Option, Some, None}
use Rattle.std.specs.{Prelude.{◌&&◌, ◌||◌, nat_lt}, List.list_any}
use Rattle.std.proofs.lemmas.{Bool.{cases_Bool, cases_eq, false≢true, or_parts, true≢false}, Bool.Decides.nat_tests}
use Rattle.host_memory.specs.{Memory.client_start, Place.{place, total_of}, Reading.{have_overlap, share_with}, declared.table.Prd.Prd}
use Rattle.host_memory.proofs.Door.{apart_from_overlap, list_any-true, place_has, place_injective, share_with-true}
use Rattle.hba_laws.specs.{Client.{AreApart, AreOne, By, IsKept, IsSpared, Touches, is_in}, Delivering.by_device, History.{Event, Transfer, issued}}
use Rattle.hba_laws.specs.History as h
use Rattle.hba_driver.specs.{Drivers.{AreRequests, Driver, Entry, entry_at, is_read}, declared.path.Path.Path, Effects.{prds_with, buffer_prd}}
use Rattle.hba_driver.specs.{Requests.{in_use, is_among, is_used_by, share_bytes}, Paths.reads_page}
use Rattle.hba_driver.specs.{Served.{AreBounded, IsIssueOf, IsRequest, IsStep, IssuesAreRequests}, Between.From}
use Rattle.hba_driver.proofs.{requests.StandLemmas.in_slots, calls.SubmitLemmas.none_conflict}

-- ---- places

-- for two tables that share no byte
pub other_places : (ps qs : List Prd) (i j : ℕ) → share_with ps qs ≡ false → i < total_of ps → j < total_of qs → place ps i ≡ place qs j → ⊥
other_places ps qs i j none below below_other same =
    true≢false (sym (share_with-true ps qs (record { i = i; j = j; below = below; below_other = below_other; one_place = same })) ∙ none)

-- for one table
one_place : (ps qs : List Prd) (i j : ℕ) → ps ≡ qs → have_overlap ps ≡ false → i < total_of ps → j < total_of qs → place ps i ≡ place qs j → i ≡ j
one_place ps qs i j is apart below below_other same =
    let other : total_of qs ≡ total_of ps = sym (ap total_of is) in
    place_injective ps i j (apart_from_overlap ps apart) below (omega (arith, other, below_other)) (same ∙ sym (ap (λ (l : List Prd). place l j) is))

pub some_same : {A : Type 0} (a b : A) → Some a ≡ Some b → a ≡ b
some_same a b h = cc

read_or : (a b : Bool) → a ≡ true → (a || b) ≡ true
read_or true b h = refl
read_or false b h = absurd (false≢true h)

-- ---- issued reads are apart

pub none_in : (t : Transfer) (i : ℕ) → t.table ≡ [] → i < total_of t.table → ⊥
none_in t i is below =
    let none : total_of t.table ≡ 0 = ap total_of is in
    omega (arith, none, below)

-- no entry shares a byte with others
beside_by : (b : Bool) (prds : List Prd) → share_with (buffer_prd ∷ []) prds ≡ false → share_with (prds_with b) prds ≡ false
beside_by true prds h = h
beside_by false prds h = refl

module _ (d : Driver) (past : Touches) (issues : IssuesAreRequests d past) (bounded : AreBounded d) (requests : AreRequests d.given d.entries) where
  both_requests : (n s m r i j : ℕ) (t u : Transfer) → IsRequest d n s t → IsRequest d m r u → Rattle.slots.specs.Work.is_read t.work.kind ≡ true → have_overlap t.table ≡ false → i < total_of t.table → j < total_of u.table
      → place t.table i ≡ place u.table j → AreOne n s i m r j
  both_requests n s m r i j t u a b reads apart below below_other same = elim (cases_eq s r) [
    | inl one ↦
        let entry : a.entry ≡ b.entry = some_same a.entry b.entry (sym a.stands ∙ ap (entry_at d.entries) one ∙ b.stands) in
        record {
          devices = sym a.of_dev ∙ ap (λ (e : Entry). e.head.dev) entry ∙ b.of_dev;
          slots = one;
          numbers = one_place t.table u.table i j (a.table ∙ ap (λ (e : Entry). e.prds) entry ∙ sym b.table) apart below below_other same;
        }
    | inr other ↦
        let none : share_with a.entry.prds b.entry.prds ≡ false = requests.apart s r a.entry b.entry a.stands b.stands other (read_or (is_read a.entry.head.work) (is_read b.entry.head.work) (a.reads reads)) in
        let here : share_with t.table u.table ≡ false = ap (λ (l : List Prd). share_with l u.table) a.table ∙ ap (λ (l : List Prd). share_with a.entry.prds l) b.table ∙ none in
        absurd (other_places t.table u.table i j here below below_other same)
  ]

  -- the driver's buffer is apart from requests
  pub request_beside : (n s m r i j : ℕ) (t u : Transfer) → IsStep d n s t → IsRequest d m r u → i < total_of t.table → j < total_of u.table → place t.table i ≡ place u.table j → ⊥
  request_beside n s m r i j t u a b below below_other same =
      let none : share_with t.table u.table ≡ false =
      ap (λ (l : List Prd). share_with l u.table) a.table ∙ ap (λ (l : List Prd). share_with (prds_with (reads_page a.path.stage)) l) b.table
      ∙ beside_by (reads_page a.path.stage) b.entry.prds (bounded.entries r b.entry b.stands).beyond in
      other_places t.table u.table i j none below below_other same

  apart_by : (n s m r i j : ℕ) (t u : Transfer) → From d n s t → From d m r u → Rattle.slots.specs.Work.is_read t.work.kind ≡ true → have_overlap t.table ≡ false → i < total_of t.table → j < total_of u.table
      → place t.table i ≡ place u.table j → AreOne n s i m r j
  apart_by n s m r i j t u (inr (inr a)) b reads apart below below_other same = absurd (none_in t i a.table below)
  apart_by n s m r i j t u (inl a) (inl b) reads apart below below_other same = both_requests n s m r i j t u a b reads apart below below_other same
  apart_by n s m r i j t u (inl a) (inr (inl b)) reads apart below below_other same = absurd (request_beside m r n s j i u t b a below_other below (sym same))
  apart_by n s m r i j t u (inr (inl a)) (inl b) reads apart below below_other same = absurd (request_beside n s m r i j t u a b below below_other same)
  apart_by n s m r i j t u (inr (inl a)) (inr (inl b)) reads apart below below_other same =
      let one : a.path ≡ b.path = some_same a.path b.path (sym a.goes ∙ b.goes) in
      record {
        devices = sym a.of_dev ∙ ap (λ (p : Path). p.dev) one ∙ b.of_dev;
        slots = a.slot ∙ sym b.slot;
        numbers = one_place t.table u.table i j (a.table ∙ ap (λ (p : Path). prds_with (reads_page p.stage)) one ∙ sym b.table) apart below below_other same;
      }
  apart_by n s m r i j t u other (inr (inr b)) reads apart below below_other same = absurd (none_in u j b.table below_other)

  pub issues_apart : AreApart past
  issues_apart n s m r i j t u a b below below_other same =
      let x : IsIssueOf d n s t = issues n s t a.is in
      let y : IsIssueOf d m r u = issues m r u b.is in
      apart_by n s m r i j t u x.from y.from a.reads x.apart (omega (arith, x.total, below)) (omega (arith, y.total, below_other)) same

  -- ---- what is put leaves them alone

  module _ (at len : ℕ) (unused : in_use d at len ≡ false) where
    in_parts : (k : ℕ) → is_in at len k ≡ true → (at ≤ k) × (k < at + len)
    in_parts k h = (grind (arith, nat_tests), grind (arith, nat_tests))

    some_bytes : (k : ℕ) → is_in at len k ≡ true → nat_lt 0 len ≡ true
    some_bytes k h =
        let p = in_parts k h in
        let more : 0 < len = omega (arith, p.0, p.1) in
        grind (arith, nat_tests, more)

    among : (ps : List Prd) (i : ℕ) → i < total_of ps → is_in at len (place ps i) ≡ true → is_among at len ps ≡ true
    among ps i below h =
        let p = in_parts (place ps i) h in
        let a = place_has ps i below in
        let low : at < a.prd.address + a.prd.bytes = omega (arith, p.0, a.has.1) in
        let high : a.prd.address < at + len = omega (arith, p.1, a.has.0) in
        list_any-true (λ (x : Prd). share_bytes at len x.address x.bytes) ps a.k a.prd a.entry (shared low high)
      where
        shared : {x y z w : ℕ} → x < y → z < w → (nat_lt x y && nat_lt z w) ≡ true
        shared {x} {y} {z} {w} h k = grind (arith, nat_tests)

    and_false : (a b : Bool) → a ≡ true → (a && b) ≡ false → b ≡ false
    and_false true b h k = k
    and_false false b h k = absurd (false≢true h)

    spared_parts : (k : ℕ) → is_in at len k ≡ true → (share_bytes at len client_start 512 ≡ false) × (list_any (is_used_by at len) d.entries ≡ false)
    spared_parts k h =
        or_parts (share_bytes at len client_start 512) (list_any (is_used_by at len) d.entries)
        (and_false (nat_lt 0 len) (share_bytes at len client_start 512 || list_any (is_used_by at len) d.entries) (some_bytes k h) unused)

    pub in_none : (n s i : ℕ) (t : Transfer) → From d n s t → i < total_of t.table → is_in at len (place t.table i) ≡ true → ⊥
    in_none n s i t (inr (inr a)) below h = none_in t i a.table below
    in_none n s i t (inr (inl a)) below h = by_stage (reads_page a.path.stage) a.table
      where
        by_stage : (b : Bool) → t.table ≡ prds_with b → ⊥
        by_stage true is =
            let hit : is_among at len (buffer_prd ∷ []) ≡ true = ap (is_among at len) (sym is) ∙ among t.table i below h in
            let free : is_among at len (buffer_prd ∷ []) ≡ false = ap (λ (b : Bool). b || false) (spared_parts (place t.table i) h).0 in
            true≢false (sym hit ∙ free)
        by_stage false is = none_in t i is below
    in_none n s i t (inl a) below h =
        let hit : is_used_by at len (Some a.entry) ≡ true = ap (is_among at len) (sym a.table) ∙ among t.table i below h in
        let lies : s < 30 = in_slots d.entries s a.entry bounded.slots a.stands in
        let free : is_used_by at len (entry_at d.entries s) ≡ false = none_conflict (is_used_by at len) d.entries s (spared_parts (place t.table i) h).1 (omega (arith, lies, bounded.slots)) in
        true≢false (sym hit ∙ sym (ap (is_used_by at len) a.stands) ∙ free)

    pub puts_spare : IsSpared at len past
    puts_spare n s i t reading below =
        let x : IsIssueOf d n s t = issues n s t reading.is in
        elim (cases_Bool (is_in at len (place t.table i))) [
          | inl in_it ↦ absurd (in_none n s i t x.from (omega (arith, x.total, below)) in_it)
          | inr out ↦ out
        ]

-- ---- what a device's event leaves kept

pub kept_one : (past : Touches) → AreApart past → IsKept past → (dev : ℕ) (e : Event) → IsKept (By dev e ∷ past)
kept_one past apart k dev (h.Carried bytes) = (apart, k)
kept_one past apart k dev e = k

pub kept_device : (past : Touches) → AreApart past → IsKept past → (dev : ℕ) (o : Option Event) → IsKept (by_device dev o ++ past)
kept_device past apart k dev None = k
kept_device past apart k dev (Some e) = kept_one past apart k dev e

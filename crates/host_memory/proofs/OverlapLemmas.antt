-- What the tests for shared bytes tell.
use Rattle.std.proofs.Common.{◌≡◌, ℕ, zero, suc, ◌+◌, ◌<◌, min, max, Bool, true, false, nat_lt, ◌≤◌, List, [], ◌∷◌, Some, slice_get, refl, sym, ap}
use Rattle.std.proofs.{Common.{◌∙◌, arith, inl, inr}, lemmas.Bool.{cases_lt, or_cases, or_left, or_right, ltb-true, lt-ltb, le-ltb, both_ways}}
use Rattle.std.specs.List.{list_any}
use Rattle.host_memory.specs.{declared.table.Prd.Prd, Place.{place, ShareByte, HaveOverlap, AreApart, ShareAPlace}, Reading.{share_byte, shares_with}}
use Rattle.host_memory.specs.Reading.{share_with, have_overlap, lie_in_order}
use Rattle.host_memory.proofs.PlaceLemmas.{place_has, place_from}

-- two entries share a byte exactly where the later begin lies before the earlier end
pub ShareByte-from : (p q : Prd) → share_byte p q ≡ true → ShareByte p q
ShareByte-from p q h =
    let lt = ltb-true (max p.address q.address) (min (p.address + p.bytes) (q.address + q.bytes)) h in
    record { at = max p.address q.address; of_first = (omega arith, omega arith); of_second = (omega arith, omega arith) }

pub share_byte-true : (p q : Prd) → ShareByte p q → share_byte p q ≡ true
share_byte-true p q h =
    let a = h.of_first.0 in let b = h.of_first.1 in let c = h.of_second.0 in let d = h.of_second.1 in
    lt-ltb (max p.address q.address) (min (p.address + p.bytes) (q.address + q.bytes)) (omega (arith, a, b, c, d))

-- an element that passes the test
pub record Passes {X : Type 0} (test : X → Bool) (xs : List X) : Type 0 where
  pub k : ℕ
  pub x : X
  pub there : slice_get xs k ≡ Some x
  pub passes : test x ≡ true

pub Passes-from : {X : Type 0} (test : X → Bool) (xs : List X) → list_any test xs ≡ true → Passes test xs
Passes-from test [] h = cc
Passes-from test (x ∷ xs) h =
    elim (or_cases (test x) (list_any test xs) h) [
      | inl here ↦ record { k = 0; x = x; there = refl; passes = here }
      | inr later ↦ let r = Passes-from test xs later in record { k = suc r.k; x = r.x; there = r.there; passes = r.passes }
    ]

pub list_any-true : {X : Type 0} (test : X → Bool) (xs : List X) (k : ℕ) (x : X) → slice_get xs k ≡ Some x → test x ≡ true → list_any test xs ≡ true
list_any-true test [] k x e h = cc
list_any-true test (y ∷ xs) zero x e h = let same : y ≡ x = cc in or_left (test y) (list_any test xs) (ap test same ∙ h)
list_any-true test (y ∷ xs) (suc k) x e h = or_right (test y) (list_any test xs) (list_any-true test xs k x e h)

-- the test on a table tells whether two of its entries share a byte
pub HaveOverlap-from : (ps : List Prd) → have_overlap ps ≡ true → HaveOverlap ps
HaveOverlap-from [] h = cc
HaveOverlap-from (p ∷ ps) h =
    elim (or_cases (shares_with p ps) (have_overlap ps) h) [
      | inl here ↦ let r = Passes-from (λ (q : Prd). share_byte p q) ps here in
          record { i = 0; j = suc r.k; p = p; q = r.x; in_order = omega arith; first = refl; second = r.there; shared = ShareByte-from p r.x r.passes }
      | inr later ↦ let r = HaveOverlap-from ps later in
          record { i = suc r.i; j = suc r.j; p = r.p; q = r.q; in_order = omega (arith, r.in_order); first = r.first; second = r.second; shared = r.shared }
    ]

have_overlap_at : (ps : List Prd) (i j : ℕ) (p q : Prd) → i < j → slice_get ps i ≡ Some p → slice_get ps j ≡ Some q → ShareByte p q → have_overlap ps ≡ true
have_overlap_at [] i j p q lt first second shared = cc
have_overlap_at (x ∷ ps) i zero p q lt first second shared = absurd (omega arith)
have_overlap_at (x ∷ ps) zero (suc j) p q lt first second shared =
    let same : x ≡ p = cc in
    or_left (shares_with x ps) (have_overlap ps) (list_any-true (λ (y : Prd). share_byte x y) ps j q second (ap (λ (y : Prd). share_byte y q) same ∙ share_byte-true p q shared))
have_overlap_at (x ∷ ps) (suc i) (suc j) p q lt first second shared =
    or_right (shares_with x ps) (have_overlap ps) (have_overlap_at ps i j p q (omega arith) first second shared)

pub have_overlap-true : (ps : List Prd) → HaveOverlap ps → have_overlap ps ≡ true
have_overlap-true ps h = have_overlap_at ps h.i h.j h.p h.q h.in_order h.first h.second h.shared

pub apart_from_overlap : (ps : List Prd) → have_overlap ps ≡ false → AreApart ps
apart_from_overlap ps apart h = both_ways (have_overlap ps) apart (have_overlap-true ps h)

-- the test on two tables tells whether a place is one of both
pub ShareAPlace-from : (ps qs : List Prd) → share_with ps qs ≡ true → ShareAPlace ps qs
ShareAPlace-from ps qs h =
    let a = Passes-from (λ (p : Prd). shares_with p qs) ps h in
    let b = Passes-from (λ (q : Prd). share_byte a.x q) qs a.passes in
    let s = ShareByte-from a.x b.x b.passes in
    let i = place_from ps a.k a.x s.at a.there s.of_first in
    let j = place_from qs b.k b.x s.at b.there s.of_second in
    record { i = i.i; j = j.i; below = i.below; below_other = j.below; one_place = i.there ∙ sym j.there }

pub share_with-true : (ps qs : List Prd) → ShareAPlace ps qs → share_with ps qs ≡ true
share_with-true ps qs h =
    let a = place_has ps h.i h.below in
    let b = place_has qs h.j h.below_other in
    let s : ShareByte a.prd b.prd = record { at = place ps h.i; of_first = a.has; of_second = (omega (arith, h.one_place, b.has.0), omega (arith, h.one_place, b.has.1)) } in
    list_any-true (λ (p : Prd). shares_with p qs) ps a.k a.prd a.entry (list_any-true (λ (q : Prd). share_byte a.prd q) qs b.k b.prd b.entry (share_byte-true a.prd b.prd s))

pub share_with_tells : (b : Bool) (ps qs : List Prd) → b ≡ share_with ps qs → (b ≡ true → ShareAPlace ps qs) × (ShareAPlace ps qs → b ≡ true)
share_with_tells b ps qs is = (λ h. ShareAPlace-from ps qs (sym is ∙ h), λ h. is ∙ share_with-true ps qs h)

-- ---- entries in the order of their addresses

-- the first begins at or after the end, and those after it lie so from its own end on
record InOrder (end : ℕ) (p : Prd) (ps : List Prd) : Type 0 where
  begins : end ≤ p.address
  rest : lie_in_order (p.address + p.bytes) ps ≡ true

in_order : (end : ℕ) (p : Prd) (ps : List Prd) → lie_in_order end (p ∷ ps) ≡ true → InOrder end p ps
in_order end p ps h =
    elim (cases_lt p.address end) [
      | inl lt ↦ let is : nat_lt p.address end ≡ true = lt-ltb p.address end lt in absurd (let no = rw is at h in cc)
      | inr ge ↦ let is : nat_lt p.address end ≡ false = le-ltb p.address end ge in record { begins = ge; rest = rw is at h }
    ]

-- an entry that ends before them shares no byte with them
before_all : (q : Prd) (end : ℕ) (ps : List Prd) → q.address + q.bytes ≤ end → lie_in_order end ps ≡ true → shares_with q ps ≡ false
before_all q end [] low h = refl
before_all q end (p ∷ ps) low h =
    let o = in_order end p ps h in
    let begins = o.begins in
    let here : share_byte q p ≡ false = le-ltb (max q.address p.address) (min (q.address + q.bytes) (p.address + p.bytes)) (omega arith) in
    let later = before_all q (p.address + p.bytes) ps (omega arith) o.rest in
    rw (here, later) refl

-- so entries in order share none
pub in_order_apart : (end : ℕ) (ps : List Prd) → lie_in_order end ps ≡ true → have_overlap ps ≡ false
in_order_apart end [] h = refl
in_order_apart end (p ∷ ps) h =
    let o = in_order end p ps h in
    let here = before_all p (p.address + p.bytes) ps (omega arith) o.rest in
    let later = in_order_apart (p.address + p.bytes) ps o.rest in
    rw (here, later) refl

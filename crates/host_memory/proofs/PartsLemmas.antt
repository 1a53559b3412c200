-- Facts on the parts of a run of a transfer's bytes.
use Rattle.std.proofs.Common.{◌≡◌, ℕ, zero, suc, ◌+◌, ◌-◌, ◌<◌, ◌≤◌, min, max, Bool, true, false, nat_lt, List, [], ◌∷◌, length, drop, map, get_or}
use Rattle.std.proofs.{Common.{refl, sym, ap, ◌∙◌, arith, inl, inr, length-append, length-drop}, lemmas.List.{length-take-le, get_or-take}}
use Rattle.std.proofs.lemmas.{List.{get_or-drop, get_or_append_left, get_or-append_right}, Bool.{cond-true, cond-false, lt-ltb, le-ltb, ltb-true}}
use Rattle.std.proofs.lemmas.Bool.{cases_lt, cases_Bool}
use Rattle.std.specs.List.{concat, filter, range_with_len}
use Rattle.host_memory.specs.{declared.table.Prd.Prd, Memory.client_start, Place.{total_of, place, AreInside, LiesInClient}, Reading.prd_at}
use Rattle.host_memory.specs.{Reading.prds_at, Parts.{AreParts, HoldParts, begin_of, touches, part_in, one_for_each, parts_of, stretch_of}}
use Rattle.host_memory.proofs.PlaceLemmas.{place_here, place_later}

-- ---- the parts, entry by entry

-- a run of no bytes has no part
pub parts_none : (client : List ℕ) (ps : List Prd) (offset : ℕ) → parts_of client ps offset 0 ≡ []
unfolding parts_of
parts_none client [] offset = refl
parts_none client (p ∷ ps) offset = refl

-- a run that begins in the first entry
pub parts_here : (client : List ℕ) (p : Prd) (ps : List Prd) (offset len : ℕ) → 0 < len → offset < p.bytes
    → parts_of client (p ∷ ps) offset len ≡ stretch_of client p offset (min len (p.bytes - offset)) ∷ parts_of client ps 0 (len - (p.bytes - offset))
unfolding parts_of
parts_here client p ps offset zero some here = absurd (omega arith)
parts_here client p ps offset (suc n) some here = cond-true (nat_lt offset p.bytes) _ _ (lt-ltb offset p.bytes here)

-- and one that begins after it
pub parts_later : (client : List ℕ) (p : Prd) (ps : List Prd) (offset len : ℕ) → p.bytes ≤ offset → parts_of client (p ∷ ps) offset len ≡ parts_of client ps (offset - p.bytes) len
unfolding parts_of
parts_later client p ps offset zero later = sym (parts_none client ps (offset - p.bytes))
parts_later client p ps offset (suc n) later = cond-false (nat_lt offset p.bytes) _ _ (le-ltb offset p.bytes later)

-- ---- what they are

-- joined they are the run's bytes
record AreIn (prds : List Prd) (offset len : ℕ) (client : List ℕ) (parts : List (List ℕ)) : Type 0 where
  as_long : length (concat parts) ≡ len
  at_places : (k : ℕ) → k < len → get_or (concat parts) k 0 ≡ get_or client (place prds (offset + k) - client_start) 0

none_in : (ps : List Prd) (offset : ℕ) (client : List ℕ) → AreIn ps offset 0 client []
none_in ps offset client = record { as_long = refl; at_places = λ k h. absurd (omega arith) }

-- a run that begins after the first entry
are_later : (client : List ℕ) (p : Prd) (ps : List Prd) (offset len : ℕ) (parts : List (List ℕ)) → p.bytes ≤ offset → AreIn ps (offset - p.bytes) len client parts → AreIn (p ∷ ps) offset len client parts
are_later client p ps offset len parts later are = record {
  as_long = are.as_long;
  at_places = λ k h.
      let is : place (p ∷ ps) (offset + k) ≡ place ps (offset - p.bytes + k) =
      (let same : offset + k - p.bytes ≡ offset - p.bytes + k = omega arith in place_later p ps (offset + k) (omega arith) ∙ ap (place ps) same) in
      are.at_places k h ∙ ap (λ n. get_or client (n - client_start) 0) (sym is);
}

-- how long a stretch is
length-stretch_of : (client : List ℕ) (p : Prd) (from count : ℕ) → LiesInClient (length client) p.address p.bytes → from + count ≤ p.bytes → length (stretch_of client p from count) ≡ count
length-stretch_of client p from count lies inside =
    length-take-le count (drop (p.address - client_start + from) client) (omega (arith, lies.0, lies.1, length-drop (p.address - client_start + from) client))

-- one of its bytes
get_or-stretch_of : (client : List ℕ) (p : Prd) (from count k : ℕ) → k < count → get_or (stretch_of client p from count) k 0 ≡ get_or client (p.address - client_start + from + k) 0
get_or-stretch_of client p from count k below =
    get_or-take count (drop (p.address - client_start + from) client) k 0 below ∙ get_or-drop (p.address - client_start + from) client k 0

-- the first part, and those of the entries after the first
are_here : (client : List ℕ) (p : Prd) (ps : List Prd) (offset len count : ℕ) (parts : List (List ℕ)) → LiesInClient (length client) p.address p.bytes → offset < p.bytes → 0 < len
    → count ≡ min len (p.bytes - offset) → AreIn ps 0 (len - (p.bytes - offset)) client parts → AreIn (p ∷ ps) offset len client (stretch_of client p offset count ∷ parts)
are_here client p ps offset len count parts lies here some is are =
    let part = stretch_of client p offset count in
    let long : length part ≡ count = length-stretch_of client p offset count lies (omega arith) in
    let joined = length-append part (concat parts) in
    record {
      as_long = omega (arith, joined, long, are.as_long);
      at_places = λ k h.
          elim (cases_lt k count) [
            | inl low ↦
                let below : k < length part = omega (arith, long) in
                let there : p.address - client_start + offset + k ≡ place (p ∷ ps) (offset + k) - client_start = omega (arith, place_here p ps (offset + k) (omega arith), lies.0) in
                get_or_append_left part (concat parts) 0 k below ∙ get_or-stretch_of client p offset count k low ∙ ap (λ n. get_or client n 0) there
            | inr high ↦
                let there : place ps (0 + (k - count)) ≡ place (p ∷ ps) (offset + k) =
                (let same : offset + k - p.bytes ≡ 0 + (k - count) = omega arith in sym (place_later p ps (offset + k) (omega arith) ∙ ap (place ps) same)) in
                get_or-append_right part (concat parts) count k 0 long high ∙ are.at_places (k - count) (omega arith) ∙ ap (λ n. get_or client (n - client_start) 0) there
          ];
    }

parts_in : (client : List ℕ) (ps : List Prd) (offset len : ℕ) → AreInside (length client) ps → offset + len ≤ total_of ps → AreIn ps offset len client (parts_of client ps offset len)
parts_in client [] offset len inside fits =
    let none : len ≡ 0 = omega arith in
    rw (none, parts_none client [] offset) (none_in [] offset client)
parts_in client (p ∷ ps) offset zero inside fits = rw (parts_none client (p ∷ ps) offset) (none_in (p ∷ ps) offset client)
parts_in client (p ∷ ps) offset (suc n) inside fits =
    elim (cases_lt offset p.bytes) [
      | inl here ↦ rw (parts_here client p ps offset (suc n) (omega arith) here)
          (are_here client p ps offset (suc n) (min (suc n) (p.bytes - offset)) (parts_of client ps 0 (suc n - (p.bytes - offset))) inside.0 here (omega arith) refl
          (parts_in client ps 0 (suc n - (p.bytes - offset)) inside.1 (omega arith)))
      | inr later ↦ rw (parts_later client p ps offset (suc n) later)
          (are_later client p ps offset (suc n) (parts_of client ps (offset - p.bytes) (suc n)) later (parts_in client ps (offset - p.bytes) (suc n) inside.1 (omega arith)))
    ]

-- ---- one for each entry

-- what the tests and the values give at two runs of numbers
shifted : (test other : ℕ → Bool) (value at : ℕ → List ℕ) (a b n : ℕ) → ((k : ℕ) → test (a + k) ≡ other (b + k)) → ((k : ℕ) → other (b + k) ≡ true → value (a + k) ≡ at (b + k))
    → map value (filter test (range_with_len a n)) ≡ map at (filter other (range_with_len b n))
shifted test other value at a b zero tests values = refl
shifted test other value at a b (suc n) tests values =
    let za : a + 0 ≡ a = omega arith in
    let zb : b + 0 ≡ b = omega arith in
    let here : test a ≡ other b = ap test (sym za) ∙ tests 0 ∙ ap other zb in
    let later = shifted test other value at (a + 1) (b + 1) n
    (λ k. let ea : a + 1 + k ≡ a + (k + 1) = omega arith in let eb : b + 1 + k ≡ b + (k + 1) = omega arith in ap test ea ∙ tests (k + 1) ∙ sym (ap other eb))
    (λ k h. let ea : a + 1 + k ≡ a + (k + 1) = omega arith in let eb : b + 1 + k ≡ b + (k + 1) = omega arith in ap value ea ∙ values (k + 1) (sym (ap other eb) ∙ h) ∙ sym (ap at eb)) in
    elim (cases_Bool (other b)) [
      | inl on ↦
          let same : value a ≡ at b = ap value (sym za) ∙ values 0 (ap other zb ∙ on) ∙ ap at zb in
          rw (here, on, same, later) refl
      | inr off ↦ rw (here, off) later
    ]

-- the bytes of an entry in a run, seen from the end of the first entry on
module _ (b offset len : ℕ) where
  same_test : (from to : ℕ) → nat_lt (max offset (b + from)) (min (offset + len) (b + to)) ≡ nat_lt (max (offset - b) from) (min (offset - b + (len - (b - offset))) to)
  same_test from to =
      elim (cases_lt (max (offset - b) from) (min (offset - b + (len - (b - offset))) to)) [
        | inl lt ↦ lt-ltb (max offset (b + from)) (min (offset + len) (b + to)) (omega arith) ∙ sym (lt-ltb (max (offset - b) from) (min (offset - b + (len - (b - offset))) to) lt)
        | inr ge ↦ le-ltb (max offset (b + from)) (min (offset + len) (b + to)) (omega arith) ∙ sym (le-ltb (max (offset - b) from) (min (offset - b + (len - (b - offset))) to) ge)
      ]

-- the parts in the entries after the first
parts_after : (client : List ℕ) (p : Prd) (ps : List Prd) (offset len : ℕ)
    → map (part_in client (p ∷ ps) offset len) (filter (touches (p ∷ ps) offset len) (range_with_len 1 (length ps))) ≡ one_for_each client ps (offset - p.bytes) (len - (p.bytes - offset))
parts_after client p ps offset len =
    let o = offset - p.bytes in
    let l = len - (p.bytes - offset) in
    shifted (touches (p ∷ ps) offset len) (touches ps o l) (part_in client (p ∷ ps) offset len) (part_in client ps o l) 1 0 (length ps)
    (λ k. let s : 1 + k ≡ suc k = omega arith in let z : 0 + k ≡ k = omega arith in rw (s, z) (same_test p.bytes offset len (begin_of ps k) (begin_of ps (suc k))))
    (λ k on. let s : 1 + k ≡ suc k = omega arith in let z : 0 + k ≡ k = omega arith in rw (s, z) (same_part k (rw z at on)))
  where
    same_part : (k : ℕ) → touches ps (offset - p.bytes) (len - (p.bytes - offset)) k ≡ true → part_in client (p ∷ ps) offset len (suc k) ≡ part_in client ps (offset - p.bytes) (len - (p.bytes - offset)) k
    same_part k on =
        let o = offset - p.bytes in
        let l = len - (p.bytes - offset) in
        let from = begin_of ps k in
        let to = begin_of ps (suc k) in
        let some : max o from < min (o + l) to = ltb-true (max o from) (min (o + l) to) on in
        let many : min (offset + len) (p.bytes + to) - max offset (p.bytes + from) ≡ min (o + l) to - max o from = omega arith in
        let back : max offset (p.bytes + from) - p.bytes ≡ max o from = omega arith in
        let there : place (p ∷ ps) (max offset (p.bytes + from)) ≡ place ps (max o from) = place_later p ps (max offset (p.bytes + from)) (omega arith) ∙ ap (place ps) back in
        rw (many, there) refl

-- the part in the first entry
first_part : (client : List ℕ) (p : Prd) (ps : List Prd) (offset len : ℕ) → client_start ≤ p.address → offset < p.bytes
    → part_in client (p ∷ ps) offset len 0 ≡ stretch_of client p offset (min len (p.bytes - offset))
first_part client p ps offset len inside here =
    let from : max offset 0 ≡ offset = omega arith in
    let many : min (offset + len) (p.bytes + 0) - offset ≡ min len (p.bytes - offset) = omega arith in
    let there : place (p ∷ ps) offset - client_start ≡ p.address - client_start + offset = omega (arith, place_here p ps offset here) in
    rw (from, many, there) refl

only : (client : List ℕ) (ps : List Prd) (offset len : ℕ) → AreInside (length client) ps → parts_of client ps offset len ≡ one_for_each client ps offset len
unfolding parts_of
only client [] offset len inside = refl
only client (p ∷ ps) offset len inside =
    let later = only client ps (offset - p.bytes) (len - (p.bytes - offset)) inside.1 ∙ sym (parts_after client p ps offset len) in
    elim (cases_lt (max offset 0) (min (offset + len) (p.bytes + 0))) [
      | inl some ↦
          let on : nat_lt (max offset 0) (min (offset + len) (p.bytes + 0)) ≡ true = lt-ltb (max offset 0) (min (offset + len) (p.bytes + 0)) some in
          let first = first_part client p ps offset len inside.0.0 (omega arith) in
          let none : offset - p.bytes ≡ 0 = omega arith in
          parts_here client p ps offset len (omega arith) (omega arith) ∙ rw (on, first) (ap (λ (xs : List (List ℕ)). stretch_of client p offset (min len (p.bytes - offset)) ∷ xs) (rw none at later))
      | inr none ↦
          let off : nat_lt (max offset 0) (min (offset + len) (p.bytes + 0)) ≡ false = le-ltb (max offset 0) (min (offset + len) (p.bytes + 0)) none in
          skipped none ∙ rw off later
    ]
  where
    skipped : min (offset + len) (p.bytes + 0) ≤ max offset 0 → parts_of client (p ∷ ps) offset len ≡ parts_of client ps (offset - p.bytes) (len - (p.bytes - offset))
    skipped none =
        elim (cases_lt offset p.bytes) [
          | inl here ↦
              let zero_len : len ≡ 0 = omega arith in
              let zero_rest : len - (p.bytes - offset) ≡ 0 = omega arith in
              rw (zero_rest, zero_len) (parts_none client (p ∷ ps) offset ∙ sym (parts_none client ps (offset - p.bytes)))
          | inr later ↦
              let all : len - (p.bytes - offset) ≡ len = omega arith in
              rw all (parts_later client p ps offset len later)
        ]

pub parts_are : (client : List ℕ) (ps : List Prd) (offset len : ℕ) → AreInside (length client) ps → offset + len ≤ total_of ps → AreParts ps offset len client (parts_of client ps offset len)
parts_are client ps offset len inside fits =
    let are = parts_in client ps offset len inside fits in
    record { as_long = are.as_long; at_places = are.at_places; one_each = only client ps offset len inside }

-- ---- the state of the iterator

-- the entry in which the run begins
pub record Begins (s client : List ℕ) (at count offset : ℕ) : Type 0 where
  pub some : 0 < count
  pub first : prds_at s at count ≡ prd_at s at ∷ prds_at s (at + 16) (count - 1)
  pub lies : LiesInClient (length client) (prd_at s at).address (prd_at s at).bytes
  pub here : offset < (prd_at s at).bytes

pub begins_in : (s client : List ℕ) (at count offset len : ℕ) → HoldParts s client at count offset len → 0 < len → Begins s client at count offset
begins_in s client at zero offset len hold some = absurd (omega (arith, hold.holds))
begins_in s client at (suc n) offset len hold some =
    let one : suc n - 1 ≡ n = omega arith in
    record { some = omega arith; first = rw one refl; lies = hold.inside.0; here = hold.begins some }

-- what is left after the first part
pub hold_next : (s client : List ℕ) (at count offset len part : ℕ) → HoldParts s client at count offset len → 0 < len → part ≡ min len ((prd_at s at).bytes - offset)
    → HoldParts s client (at + 16) (count - 1) 0 (len - part)
hold_next s client at count offset len part hold some is =
    let begins = begins_in s client at count offset len hold some in
    record {
      lies = omega (arith, hold.lies, begins.some);
      inside = (rw begins.first at hold.inside).1;
      holds = omega (arith, hold.holds, begins.here, ap total_of begins.first);
      begins = λ h. omega arith;
    }

pub parts_first : (s client : List ℕ) (at count offset len part : ℕ) → HoldParts s client at count offset len → 0 < len → part ≡ min len ((prd_at s at).bytes - offset)
    → parts_of client (prds_at s at count) offset len ≡ stretch_of client (prd_at s at) offset part ∷ parts_of client (prds_at s (at + 16) (count - 1)) 0 (len - part)
parts_first s client at count offset len part hold some is =
    let begins = begins_in s client at count offset len hold some in
    let left : len - ((prd_at s at).bytes - offset) ≡ len - part = omega arith in
    ap (λ (ps : List Prd). parts_of client ps offset len) begins.first ∙ parts_here client (prd_at s at) (prds_at s (at + 16) (count - 1)) offset len some begins.here ∙ rw (left, is) refl

-- the first of the parts that are left is given, and the others are left
pub parts_step : (s client : List ℕ) (at count offset len part : ℕ) (prd : Prd) (got : List ℕ) (parts : List (List ℕ)) → HoldParts s client at count offset len → 0 < len
    → part ≡ min len (prd.bytes - offset) → prd ≡ prd_at s at → got ≡ stretch_of client prd offset part → parts_of client (prds_at s at count) offset len ≡ parts
    → parts ≡ got ∷ parts_of client (prds_at s (at + 16) (count - 1)) 0 (len - part)
parts_step s client at count offset len part prd got parts hold some is entry given all =
    let same : part ≡ min len ((prd_at s at).bytes - offset) = is ∙ ap (λ (p : Prd). min len (p.bytes - offset)) entry in
    let first : got ≡ stretch_of client (prd_at s at) offset part = given ∙ ap (λ (p : Prd). stretch_of client p offset part) entry in
    sym all ∙ parts_first s client at count offset len part hold some same ∙ ap (λ (x : List ℕ). x ∷ parts_of client (prds_at s (at + 16) (count - 1)) 0 (len - part)) (sym first)

-- so fewer are left
pub parts_fewer : (got : List ℕ) (rest parts : List (List ℕ)) → parts ≡ got ∷ rest → length rest < length parts
parts_fewer got rest parts e = omega (arith, ap length e)

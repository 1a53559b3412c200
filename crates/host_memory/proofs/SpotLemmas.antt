-- Where a byte of a transfer lies, by the ends of the entries.
use Rattle.std.proofs.Common.{◌≡◌, ℕ, zero, suc, ◌+◌, ◌-◌, ◌*◌, ◌<◌, ◌≤◌, nat_lt, List, [], ◌∷◌, ◌++◌, append_assoc, length, take, drop, get_or, refl}
use Rattle.std.proofs.{Common.{sym, ap, ◌∙◌, arith, inl, inr}, lemmas.Bool.{cases_lt, cond-true, cond-false, lt-ltb, le-ltb}}
use Rattle.host_memory.specs.{declared.table.{Prd.Prd, Run.Run, Spot.Spot}, Ends.{ends_from, begin_in, IsSpot}, Memory.client_start, Parts.parts_of}
use Rattle.host_memory.specs.{Parts.{left_at, IsRun, HoldParts}, Place.{total_of, place, LiesInClient, AreInside}, Reading.{prd_at, prds_at}}
use Rattle.host_memory.proofs.{PlaceLemmas.{place_here, place_later}, PrdLemmas.prds_next, PartsLemmas.parts_later}

-- ---- entries from one on

length-prds_at : (s : List ℕ) (at n : ℕ) → length (prds_at s at n) ≡ n
length-prds_at s at zero = refl
length-prds_at s at (suc n) = ap (λ k. suc k) (length-prds_at s (at + 16) n)

-- the entries from the k-th on lie 16 bytes further each
drop_prds_at : (s : List ℕ) (at n k : ℕ) → k ≤ n → drop k (prds_at s at n) ≡ prds_at s (at + 16 * k) (n - k)
drop_prds_at s at n zero h = let a : at + 16 * 0 ≡ at = omega arith in let b : n - 0 ≡ n = omega arith in rw (a, b) refl
drop_prds_at s at zero (suc k) h = absurd (omega arith)
drop_prds_at s at (suc n) (suc k) h =
    let a : at + 16 * suc k ≡ at + 16 + 16 * k = omega arith in
    let b : suc n - suc k ≡ n - k = omega arith in
    rw (a, b) (drop_prds_at s (at + 16) n k (omega arith))

total_split : (ps : List Prd) (k : ℕ) → total_of ps ≡ total_of (take k ps) + total_of (drop k ps)
total_split ps zero = omega arith
total_split [] (suc k) = omega arith
total_split (p ∷ ps) (suc k) = let rest = total_split ps k in omega arith

inside_drop : (len : ℕ) (ps : List Prd) (k : ℕ) → AreInside len ps → AreInside len (drop k ps)
inside_drop len ps zero h = h
inside_drop len [] (suc k) h = h
inside_drop len (p ∷ ps) (suc k) h = inside_drop len ps k h.1

-- what is said of a byte is said of it in the entries from the k-th on
place_from_drop : (ps : List Prd) (k i : ℕ) → total_of (take k ps) ≤ i → place ps i ≡ place (drop k ps) (i - total_of (take k ps))
place_from_drop ps zero i h = let z : i ≡ i - 0 = omega arith in ap (place ps) z
place_from_drop [] (suc k) i h = refl
place_from_drop (p ∷ ps) (suc k) i h =
    let less : i - p.bytes - total_of (take k ps) ≡ i - (p.bytes + total_of (take k ps)) = omega arith in
    place_later p ps i (omega arith) ∙ place_from_drop ps k (i - p.bytes) (omega arith) ∙ ap (place (drop k ps)) less

pub left_here : (p : Prd) (ps : List Prd) (i : ℕ) → i < p.bytes → left_at (p ∷ ps) i ≡ p.bytes - i
left_here p ps i h = cond-true (nat_lt i p.bytes) (p.bytes - i) (left_at ps (i - p.bytes)) (lt-ltb i p.bytes h)

pub left_later : (p : Prd) (ps : List Prd) (i : ℕ) → p.bytes ≤ i → left_at (p ∷ ps) i ≡ left_at ps (i - p.bytes)
left_later p ps i h = cond-false (nat_lt i p.bytes) (p.bytes - i) (left_at ps (i - p.bytes)) (le-ltb i p.bytes h)

left_from_drop : (ps : List Prd) (k i : ℕ) → total_of (take k ps) ≤ i → left_at ps i ≡ left_at (drop k ps) (i - total_of (take k ps))
left_from_drop ps zero i h = let z : i ≡ i - 0 = omega arith in ap (left_at ps) z
left_from_drop [] (suc k) i h = refl
left_from_drop (p ∷ ps) (suc k) i h =
    let less : i - p.bytes - total_of (take k ps) ≡ i - (p.bytes + total_of (take k ps)) = omega arith in
    left_later p ps i (omega arith) ∙ left_from_drop ps k (i - p.bytes) (omega arith) ∙ ap (left_at (drop k ps)) less

parts_from_drop : (client : List ℕ) (ps : List Prd) (k offset len : ℕ) → total_of (take k ps) ≤ offset → parts_of client ps offset len ≡ parts_of client (drop k ps) (offset - total_of (take k ps)) len
unfolding parts_of
parts_from_drop client ps zero offset len h = let z : offset ≡ offset - 0 = omega arith in ap (λ (n : ℕ). parts_of client ps n len) z
parts_from_drop client [] (suc k) offset len h = refl
parts_from_drop client (p ∷ ps) (suc k) offset len h =
    let less : offset - p.bytes - total_of (take k ps) ≡ offset - (p.bytes + total_of (take k ps)) = omega arith in
    parts_later client p ps offset len (omega arith) ∙ parts_from_drop client ps k (offset - p.bytes) len (omega arith) ∙ ap (λ (n : ℕ). parts_of client (drop k ps) n len) less

-- ---- the ends of entries

length-ends_from : (b : ℕ) (ps : List Prd) → length (ends_from b ps) ≡ length ps
length-ends_from b [] = refl
length-ends_from b (p ∷ ps) = ap (λ k. suc k) (length-ends_from (b + p.bytes) ps)

ends_at : (b : ℕ) (ps : List Prd) (k : ℕ) → k < length ps → get_or (ends_from b ps) k 0 ≡ b + total_of (take (suc k) ps)
ends_at b [] k h = absurd (omega arith)
ends_at b (p ∷ ps) zero h = omega arith
ends_at b (p ∷ ps) (suc k) h = let rest = ends_at (b + p.bytes) ps k (omega arith) in omega arith

begin_in-ends : (ps : List Prd) (k : ℕ) → k ≤ length ps → begin_in (ends_from 0 ps) k ≡ total_of (take k ps)
begin_in-ends ps zero h = refl
begin_in-ends ps (suc k) h = let is = ends_at 0 ps k (omega arith) in omega arith

-- the end of the last is the total
pub begin_in-total : (s : List ℕ) (at n : ℕ) → begin_in (ends_from 0 (prds_at s at n)) n ≡ total_of (prds_at s at n)
begin_in-total s at n =
    let long = length-prds_at s at n in
    let split = total_split (prds_at s at n) n in
    let none : drop n (prds_at s at n) ≡ prds_at s (at + 16 * n) (n - n) = drop_prds_at s at n n (omega arith) in
    let z : n - n ≡ 0 = omega arith in
    let last : total_of (drop n (prds_at s at n)) ≡ 0 = ap total_of none ∙ ap (λ k. total_of (prds_at s (at + 16 * n) k)) z in
    begin_in-ends (prds_at s at n) n (omega arith) ∙ omega arith

pub length-ends : (s : List ℕ) (at n : ℕ) (ends : List ℕ) → ends ≡ ends_from 0 (prds_at s at n) → length ends ≡ n
length-ends s at n ends are = ap length are ∙ length-ends_from 0 (prds_at s at n) ∙ length-prds_at s at n

pub total_is : (s : List ℕ) (at n : ℕ) (ends : List ℕ) → ends ≡ ends_from 0 (prds_at s at n) → begin_in ends n ≡ total_of (prds_at s at n)
total_is s at n ends are = ap (λ (xs : List ℕ). begin_in xs n) are ∙ begin_in-total s at n

-- the end of one more entry
pub ends_step : (s : List ℕ) (at n i begin end : ℕ) (xs ys all : List ℕ) → i < n → end ≡ begin + (prd_at s (at + 16 * i)).bytes → ys ≡ xs ++ end ∷ []
    → xs ++ ends_from begin (prds_at s (at + 16 * i) (n - i)) ≡ all → ys ++ ends_from end (prds_at s (at + 16 * (i + 1)) (n - (i + 1))) ≡ all
ends_step s at n i begin end xs ys all below is pushed was =
    let left = prds_at s (at + 16 * (i + 1)) (n - (i + 1)) in
    ap (λ (zs : List ℕ). zs ++ ends_from end left) pushed
    ∙ append_assoc xs (end ∷ []) (ends_from end left)
    ∙ ap (λ (e : ℕ). xs ++ (e ∷ ends_from e left)) is
    ∙ sym (ap (λ (ps : List Prd). xs ++ ends_from begin ps) (prds_next s at n i below))
    ∙ was

-- an entry's end is its begin and its count
ends_more : (s : List ℕ) (at n k : ℕ) → k < n → get_or (ends_from 0 (prds_at s at n)) k 0 ≡ total_of (take k (prds_at s at n)) + (prd_at s (at + 16 * k)).bytes
ends_more s at n k h =
    let long = length-prds_at s at n in
    let is = ends_at 0 (prds_at s at n) k (omega arith) in
    let more = total_take s at n k h in
    omega arith
  where
    total_take : (s : List ℕ) (at n k : ℕ) → k < n → total_of (take (suc k) (prds_at s at n)) ≡ total_of (take k (prds_at s at n)) + (prd_at s (at + 16 * k)).bytes
    total_take s at zero k h = absurd (omega arith)
    total_take s at (suc n) zero h = let a : at + 16 * 0 ≡ at = omega arith in rw a (omega arith)
    total_take s at (suc n) (suc k) h =
        let rest = total_take s (at + 16) n k (omega arith) in
        let a : at + 16 * suc k ≡ at + 16 + 16 * k = omega arith in
        rw a (omega arith)

-- where byte i of a table's transfer lies: so many bytes after the begin of this entry, and in it, if it is an entry
pub record LiesAt (s : List ℕ) (at n i entry byte : ℕ) : Type 0 where
  pub there : entry ≤ n
  pub begins : total_of (take entry (prds_at s at n)) + byte ≡ i
  pub within : entry < n → byte < (prd_at s (at + 16 * entry)).bytes

pub lies_at : (s : List ℕ) (at n : ℕ) (ends : List ℕ) (i : ℕ) (spot : Spot) → ends ≡ ends_from 0 (prds_at s at n) → IsSpot ends i spot → LiesAt s at n i spot.entry spot.byte
lies_at s at n ends i spot are is =
    let long : length ends ≡ n = ap length are ∙ length-ends_from 0 (prds_at s at n) ∙ length-prds_at s at n in
    let there : spot.entry ≤ n = omega (arith, is.there) in
    let few = length-prds_at s at n in
    let begin : begin_in ends spot.entry ≡ total_of (take spot.entry (prds_at s at n)) = ap (λ (xs : List ℕ). begin_in xs spot.entry) are ∙ begin_in-ends (prds_at s at n) spot.entry (omega arith) in
    record {
      there = there;
      begins = omega (arith, begin, is.begins);
      within = λ h. let end : get_or ends spot.entry 0 ≡ total_of (take spot.entry (prds_at s at n)) + (prd_at s (at + 16 * spot.entry)).bytes = ap (λ (xs : List ℕ). get_or xs spot.entry 0) are ∙ ends_more s at n spot.entry h in
          omega (arith, end, begin, is.begins, is.ends_after (omega arith));
    }

-- so it is an entry, if the transfer has the byte
pub is_entry : (s : List ℕ) (at n i entry byte : ℕ) → LiesAt s at n i entry byte → i < total_of (prds_at s at n) → entry < n
is_entry s at n i entry byte lies below =
    elim (cases_lt entry n) [
      | inl lt ↦ lt
      | inr ge ↦
          let same : entry ≡ n = omega (arith, lies.there) in
          let whole : begin_in (ends_from 0 (prds_at s at n)) n ≡ total_of (take n (prds_at s at n)) = begin_in-ends (prds_at s at n) n (let long = length-prds_at s at n in omega arith) in
          absurd (omega (arith, begin_in-total s at n, whole, lies.begins, ap (λ (k : ℕ). total_of (take k (prds_at s at n))) same))
    ]

-- the parts of a run are those from its entry on
pub parts_lie : (client s : List ℕ) (at n offset len entry byte : ℕ) → LiesAt s at n offset entry byte → parts_of client (prds_at s (at + 16 * entry) (n - entry)) byte len ≡ parts_of client (prds_at s at n) offset len
parts_lie client s at n offset len entry byte lies =
    let ps = prds_at s at n in
    let less : offset - total_of (take entry ps) ≡ byte = omega (arith, lies.begins) in
    sym (parts_from_drop client ps entry offset len (omega (arith, lies.begins))
    ∙ ap (λ (k : ℕ). parts_of client (drop entry ps) k len) less
    ∙ ap (λ (qs : List Prd). parts_of client qs byte len) (drop_prds_at s at n entry lies.there))

pub hold_from : (s client : List ℕ) (at n offset len entry byte : ℕ) → at + 16 * n ≤ length s → AreInside (length client) (prds_at s at n) → offset + len ≤ total_of (prds_at s at n)
    → LiesAt s at n offset entry byte → HoldParts s client (at + 16 * entry) (n - entry) byte len
hold_from s client at n offset len entry byte room inside fits lies =
    let ps = prds_at s at n in
    let rest : drop entry ps ≡ prds_at s (at + 16 * entry) (n - entry) = drop_prds_at s at n entry lies.there in
    let split = total_split ps entry in
    record {
      lies = omega (arith, lies.there);
      inside = rw rest at (inside_drop (length client) ps entry inside);
      holds = omega (arith, lies.begins, ap total_of rest);
      begins = λ some. lies.within (is_entry s at n offset entry byte lies (omega arith));
    }

-- ---- where the byte lies in memory

-- what is known of the entry of a byte
pub record InEntry (len byte : ℕ) (prd : Prd) : Type 0 where
  pub inside : LiesInClient len prd.address prd.bytes
  pub within : byte < prd.bytes

pub in_entry : (s : List ℕ) (len at n i entry byte : ℕ) (prd : Prd) → AreInside len (prds_at s at n) → entry < n → LiesAt s at n i entry byte → prd ≡ prd_at s (at + 16 * entry) → InEntry len byte prd
in_entry s len at n i entry byte prd inside is lies read =
    let ps = prds_at s at n in
    let p = prd_at s (at + 16 * entry) in
    let address : prd.address ≡ p.address = ap (λ (x : Prd). x.address) read in
    let bytes : prd.bytes ≡ p.bytes = ap (λ (x : Prd). x.bytes) read in
    let rest = prds_at s (at + 16 * (entry + 1)) (n - (entry + 1)) in
    let from : drop entry ps ≡ p ∷ rest = drop_prds_at s at n entry lies.there ∙ prds_next s at n entry is in
    let in_client : LiesInClient len p.address p.bytes = (rw from at (inside_drop len ps entry inside)).0 in
    let within = lies.within is in
    record { inside = (omega (arith, in_client.0), omega (arith, in_client.1)); within = omega arith }

-- the bytes of its entry from a byte of the transfer on, as they lie in the client area
pub is_run : (s : List ℕ) (len at n i entry byte : ℕ) (prd : Prd) (run : Run) → AreInside len (prds_at s at n) → entry < n → LiesAt s at n i entry byte → prd ≡ prd_at s (at + 16 * entry)
    → run.start ≡ prd.address - client_start + byte → run.len ≡ prd.bytes - byte → IsRun (prds_at s at n) len i run
is_run s len at n i entry byte prd run inside is lies read start long =
    let ps = prds_at s at n in
    let p = prd_at s (at + 16 * entry) in
    let address : prd.address ≡ p.address = ap (λ (x : Prd). x.address) read in
    let bytes : prd.bytes ≡ p.bytes = ap (λ (x : Prd). x.bytes) read in
    let within : byte < p.bytes = lies.within is in
    let rest = prds_at s (at + 16 * (entry + 1)) (n - (entry + 1)) in
    let from : drop entry ps ≡ p ∷ rest = drop_prds_at s at n entry lies.there ∙ prds_next s at n entry is in
    let less : i - total_of (take entry ps) ≡ byte = omega (arith, lies.begins) in
    let in_client : LiesInClient len p.address p.bytes = (rw from at (inside_drop len ps entry inside)).0 in
    let there : place ps i ≡ p.address + byte =
    place_from_drop ps entry i (omega (arith, lies.begins)) ∙ ap (place (drop entry ps)) less ∙ ap (λ (qs : List Prd). place qs byte) from ∙ place_here p rest byte within in
    let left : left_at ps i ≡ p.bytes - byte =
    left_from_drop ps entry i (omega (arith, lies.begins)) ∙ ap (left_at (drop entry ps)) less ∙ ap (λ (qs : List Prd). left_at qs byte) from ∙ left_here p rest byte within in
    let split = total_split ps entry in
    record {
      below = omega (arith, lies.begins, ap total_of from);
      there = omega (arith, in_client.0);
      left = omega arith;
      inside = omega (arith, in_client.0, in_client.1);
    }

-- past the last entry the transfer ends
pub past_all : (s : List ℕ) (at n i entry byte : ℕ) → LiesAt s at n i entry byte → entry ≡ n → total_of (prds_at s at n) ≤ i
past_all s at n i entry byte lies same =
    elim (cases_lt i (total_of (prds_at s at n))) [
      | inl lt ↦ let is = is_entry s at n i entry byte lies lt in absurd (omega arith)
      | inr ge ↦ ge
    ]

-- Tables that a memory keeps, as it reads more of them and as bytes are written.
use Rattle.std.proofs.Common.{◌≡◌, ℕ, ◌+◌, ◌*◌, ◌≤◌, Bool, true, false, ◌⊎◌, List, [], ◌++◌, ◌∷◌, length, Some, None, refl, sym, ap, ◌∙◌, arith, inl}
use Rattle.std.proofs.{Common.inr, lemmas.List.Elements.{All-push, All-weaker}}
use Rattle.std.specs.{Prelude.{is_none, if◌then◌else◌}, List.All}
use Rattle.host_memory.specs.{declared.{table.PrdError.PrdError, kept.Kept.Kept}, Kept.{IsKept, readable_total}, Ends.{begin_in, ends_from}}
use Rattle.host_memory.specs.{Memory.overwritten, Reading.{IsPrdTable, LieApart, prds_at, read_fault}}
use Rattle.host_memory.proofs.{AgreeLemmas.stays_the_same, SoundLemmas.sound_table, SpotLemmas.total_is}

-- a kept table is a table, as long as it is
pub kept_table : (s : List ℕ) (len from to : ℕ) (kept : Kept) → IsKept s len from to kept → IsPrdTable s len kept.at kept.count kept.ends.items
kept_table s len from to kept is = sound_table s len kept.at kept.count kept.ends.items is.sound is.sums

-- where the bounds widen, what is kept stays
pub kept_wider : (s : List ℕ) (len from to from' to' : ℕ) (kept : List Kept) → from' ≤ from → to ≤ to' → All (IsKept s len from to) kept → All (IsKept s len from' to') kept
kept_wider s len from to from' to' kept low high all =
    All-weaker (IsKept s len from to) (IsKept s len from' to') (λ k is. record { sound = is.sound; sums = is.sums; low = omega (arith, is.low, low); high = omega (arith, is.high, high) }) kept all

-- what a table's length is, by where its entries end
pub total_read : (s : List ℕ) (len at count : ℕ) (ends : List ℕ) → read_fault s len at count ≡ None → ends ≡ ends_from 0 (prds_at s at count) → Some (begin_in ends count) ≡ readable_total s len at count
total_read s len at count ends sound sums =
    let readable : is_none (read_fault s len at count) ≡ true = ap is_none sound in
    rw readable (ap Some (total_is s at count ends sums))

pub none_read : (s : List ℕ) (len at count : ℕ) (fault : PrdError) → read_fault s len at count ≡ Some fault → readable_total s len at count ≡ None
none_read s len at count fault is = rw is refl

-- bytes that are written before all that is kept, or behind it, leave it
kept_stays : (s : List ℕ) (len from to start : ℕ) (bytes : List ℕ) (kept : Kept) → start + length bytes ≤ length s → (start + length bytes ≤ from) ⊎ (to ≤ start)
    → IsKept s len from to kept → IsKept (overwritten s start bytes) len from to kept
kept_stays s len from to start bytes kept fits apart is =
    let lies : LieApart kept.at (16 * kept.count) start (length bytes) =
    (elim apart [ inl below ↦ inr (omega (arith, below, is.low)) | inr behind ↦ inl (omega (arith, behind, is.high)) ]) in
    let same = stays_the_same len kept.at kept.count start bytes s fits lies in
    record { sound = sym same.refusal ∙ is.sound; sums = is.sums ∙ ap (ends_from 0) same.entries; low = is.low; high = is.high }

pub kept_stay : (s : List ℕ) (len from to start : ℕ) (bytes : List ℕ) (kept : List Kept) → start + length bytes ≤ length s → (start + length bytes ≤ from) ⊎ (to ≤ start)
    → All (IsKept s len from to) kept → All (IsKept (overwritten s start bytes) len from to) kept
kept_stay s len from to start bytes kept fits apart all =
    All-weaker (IsKept s len from to) (IsKept (overwritten s start bytes) len from to) (λ k is. kept_stays s len from to start bytes k fits apart is) kept all

-- one more is kept, or it is not
pub kept_more : (s : List ℕ) (len from to : ℕ) (done : Bool) (old new : List Kept) (one : Kept) → new ≡ (if done then old ++ one ∷ [] else old)
    → All (IsKept s len from to) old → IsKept s len from to one → All (IsKept s len from to) new
kept_more s len from to true old new one is all more = rw is (All-push (IsKept s len from to) old one all more)
kept_more s len from to false old new one is all more = rw is all

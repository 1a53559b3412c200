-- The bytes of a memory, and the entries that they spell.
use Rattle.std.proofs.Common.{◌≡◌, ℕ, zero, suc, ◌+◌, ◌-◌, ◌*◌, ◌≤◌, ◌∷◌, ◌++◌, length, drop, refl, sym, ap, ◌∙◌, arith}
use Rattle.byteorder.specs.Endian.{little_number}
use Rattle.guest_fetch.specs.{Entries.{dword_at, entry_at, entry_of_dwords, entries_at}, Reading.{bytes_in, entries_in}}

drop_bytes : (memory : ℕ → ℕ) (at n k : ℕ) → k ≤ n → drop k (bytes_in memory at n) ≡ bytes_in memory (at + k) (n - k)
drop_bytes memory at n zero h =
    let here : at ≡ at + 0 = omega arith in
    let all : n ≡ n - 0 = omega arith in
    ap (λ a. bytes_in memory a n) here ∙ ap (bytes_in memory (at + 0)) all
drop_bytes memory at zero (suc k) h = absurd (omega arith)
drop_bytes memory at (suc n) (suc k) h =
    let on : at + 1 + k ≡ at + suc k = omega arith in
    let less : n - k ≡ suc n - suc k = omega arith in
    drop_bytes memory (at + 1) n k (omega arith) ∙ ap (λ a. bytes_in memory a (n - k)) on ∙ ap (bytes_in memory (at + suc k)) less

abbrev dword_in : (ℕ → ℕ) → ℕ → ℕ
dword_in memory at = little_number 4 (bytes_in memory at 4)

first_four : (memory : ℕ → ℕ) (at n : ℕ) → 4 ≤ n → little_number 4 (bytes_in memory at n) ≡ dword_in memory at
first_four memory at zero h = absurd (omega arith)
first_four memory at (suc zero) h = absurd (omega arith)
first_four memory at (suc (suc zero)) h = absurd (omega arith)
first_four memory at (suc (suc (suc zero))) h = absurd (omega arith)
first_four memory at (suc (suc (suc (suc n)))) h = refl

dword_is : (memory : ℕ → ℕ) (at n k to : ℕ) → k + 4 ≤ n → at + k ≡ to → dword_at (bytes_in memory at n) k ≡ dword_in memory to
dword_is memory at n k to h there = ap (little_number 4) (drop_bytes memory at n k (omega arith)) ∙ first_four memory (at + k) (n - k) (omega arith) ∙ ap (dword_in memory) there

entry_is : (memory : ℕ → ℕ) (at n k to : ℕ) → k + 16 ≤ n → at + k ≡ to → entry_at (bytes_in memory at n) k ≡ entry_of_dwords (dword_in memory to) (dword_in memory (to + 4)) (dword_in memory (to + 12))
entry_is memory at n k to h there =
    ap (λ d. entry_of_dwords d (dword_at (bytes_in memory at n) (k + 4)) (dword_at (bytes_in memory at n) (k + 12))) (dword_is memory at n k to (omega arith) there)
    ∙ ap (λ d. entry_of_dwords (dword_in memory to) d (dword_at (bytes_in memory at n) (k + 12))) (dword_is memory at n (k + 4) (to + 4) (omega arith) (omega arith))
    ∙ ap (λ d. entry_of_dwords (dword_in memory to) (dword_in memory (to + 4)) d) (dword_is memory at n (k + 12) (to + 12) (omega arith) (omega arith))

-- an entry among many is the one that lies there
entry_alone : (memory : ℕ → ℕ) (at n k to : ℕ) → k + 16 ≤ n → at + k ≡ to → entry_at (bytes_in memory at n) k ≡ entry_at (bytes_in memory to 16) 0
entry_alone memory at n k to h there = entry_is memory at n k to h there ∙ sym (entry_is memory to 16 0 to (omega arith) (omega arith))

pub entries_are : (memory : ℕ → ℕ) (at n k to count : ℕ) → k + 16 * count ≤ n → at + k ≡ to → entries_at (bytes_in memory at n) k count ≡ entries_in memory to count
entries_are memory at n k to zero h there = refl
entries_are memory at n k to (suc count) h there =
    ap (λ e. e ∷ entries_at (bytes_in memory at n) (k + 16) count) (entry_alone memory at n k to (omega arith) there)
    ∙ ap (λ es. entry_at (bytes_in memory to 16) 0 ∷ es) (entries_are memory at n (k + 16) (to + 16) count (omega arith) (omega arith))

pub entries_split : (memory : ℕ → ℕ) (at count n to left : ℕ) → count ≤ n → at + 16 * count ≡ to → n - count ≡ left → entries_in memory at n ≡ entries_in memory at count ++ entries_in memory to left
entries_split memory at zero n to left h there less =
    let here : at ≡ to = omega arith in
    let all : n ≡ left = omega arith in
    ap (λ a. entries_in memory a n) here ∙ ap (entries_in memory to) all
entries_split memory at (suc count) zero to left h there less = absurd (omega arith)
entries_split memory at (suc count) (suc n) to left h there less = ap (λ es. entry_at (bytes_in memory at 16) 0 ∷ es) (entries_split memory (at + 16) count n to left (omega arith) (omega arith) (omega arith))

pub length-entries_in : (memory : ℕ → ℕ) (at n : ℕ) → length (entries_in memory at n) ≡ n
length-entries_in memory at zero = refl
length-entries_in memory at (suc n) = ap (λ k. suc k) (length-entries_in memory (at + 16) n)

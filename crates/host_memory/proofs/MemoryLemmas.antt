-- Facts on new memory, for the crates above too.
use Rattle.std.proofs.{Common.{◌≡◌, ℕ, ◌-◌, ◌%◌, ◌<◌, ◌≤◌, List, length, get_or, ap, ◌∙◌, arith}, lemmas.List.{length-replicate, get_or-replicate}}
use Rattle.host_memory.specs.Memory.{IsHostMemory, client_start, zeros}

-- how many zeros there are
pub length-zeros : (count : ℕ) → length (zeros count) ≡ count
unfolding zeros
length-zeros count = length-replicate count 0

-- each byte of zeros is 0
pub get_or-zeros : (count i : ℕ) → i < count → get_or (zeros count) i 0 ≡ 0
unfolding zeros
get_or-zeros count i h = get_or-replicate count i 0 0 h

-- areas of so many zeros have the sizes of a memory's
pub zeros_sized : (structure client : List ℕ) (len : ℕ) → structure ≡ zeros client_start → client ≡ zeros (len - client_start)
    → 2097152 ≤ len → len ≤ 16777216 → len % 2 ≡ 0 → IsHostMemory (record { structure = structure; client = client })
zeros_sized structure client len s c least most even =
    let here = ap length s ∙ length-zeros client_start in
    let there = ap length c ∙ length-zeros (len - client_start) in
    record { structure_len = here; client_least = omega (arith, there); client_most = omega (arith, there); client_even = omega (arith, there) }

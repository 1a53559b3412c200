-- One more put into a memory.
use Rattle.std.proofs.Common.{◌≡◌, ℕ, suc, ◌+◌, ◌<◌, ◌≤◌, ◌-◌, List, [], ◌∷◌, ◌++◌, length, get_or, take, Bool, true, length-append, length-drop}
use Rattle.std.proofs.{Common.{refl, sym, ap, ◌∙◌, arith}, lemmas.{Bool.Decides.nat_tests, List.{Sums.{AllPass-from_list_all}, length-replicate}}}
use Rattle.std.proofs.{lemmas.List.{length-take-le, map-append}, Math.Seq.{take-suc}}
use Rattle.std.specs.{Prelude.map, List.list_all}
use Rattle.host_memory.specs.{Memory.{Memory, client_start, overwritten, zeroed, zeros}, Place.LiesInClient}
use Rattle.pm_threads.specs.Setups.{lies_in, put_all, memory_of}

put_all_more : (m : Memory) (ps : List (ℕ × List ℕ)) (p : ℕ × List ℕ)
    → put_all m (ps ++ p ∷ []) ≡ record { structure = (put_all m ps).structure; client = overwritten (put_all m ps).client (p.0 - client_start) p.1 }
put_all_more m [] p = refl
put_all_more m (x ∷ ps) p = put_all_more (record { structure = m.structure; client = overwritten m.client (x.0 - client_start) x.1 }) ps p

pub filled_more : {P : Type 0} (put_of : P → ℕ × List ℕ) (len : ℕ) (puts : List P) (i : ℕ) (other : P) (m : Memory) → i < length puts
    → m ≡ memory_of len (map put_of (take i puts))
    → record { structure = m.structure; client = overwritten m.client ((put_of (get_or puts i other)).0 - client_start) (put_of (get_or puts i other)).1 }
    ≡ memory_of len (map put_of (take (i + 1) puts))
filled_more put_of len puts i other m lt is =
    let x = get_or puts i other in
    let ps : List (ℕ × List ℕ) = map put_of (take i puts) in
    let next : i + 1 ≡ suc i = omega arith in
    let step : take (i + 1) puts ≡ take i puts ++ x ∷ [] = ap (λ (k : ℕ). take k puts) next ∙ take-suc puts i other lt in
    let list : map put_of (take (i + 1) puts) ≡ ps ++ put_of x ∷ [] = ap (map put_of) step ∙ map-append put_of (take i puts) (x ∷ []) in
    let all : memory_of len (map put_of (take (i + 1) puts))
    ≡ record { structure = (memory_of len ps).structure; client = overwritten (memory_of len ps).client ((put_of x).0 - client_start) (put_of x).1 } =
    ap (memory_of len) list ∙ put_all_more (zeroed len) ps (put_of x) in
    ap (λ (y : Memory). record { structure = y.structure; client = overwritten y.client ((put_of x).0 - client_start) (put_of x).1 }) is
    ∙ sym all

-- ---- where puts lie

pub zeros_long : (count : ℕ) → length (zeros count) ≡ count
unfolding zeros
zeros_long count = length-replicate count 0

put_long : (old : List ℕ) (at : ℕ) (bytes : List ℕ) → at + length bytes ≤ length old → length (overwritten old at bytes) ≡ length old
put_long old at bytes room = simp (length-append, length-take-le at old (omega arith), length-drop) (omega arith)

pub lies_inside : (len at count client : ℕ) → client ≡ len - client_start → lies_in len at count ≡ true → LiesInClient client at count
lies_inside len at count client long h =
    (grind (arith, nat_tests, h, long), grind (arith, nat_tests, h, long))

pub still_long : (len at : ℕ) (bytes old : List ℕ) → length old ≡ len - client_start → lies_in len at (length bytes) ≡ true
    → length (overwritten old (at - client_start) bytes) ≡ len - client_start
still_long len at bytes old long h =
    let inside = lies_inside len at (length bytes) (length old) long h in
    let low = inside.0 in
    let high = inside.1 in
    put_long old (at - client_start) bytes (omega (arith, low, high)) ∙ long

-- one of the puts
pub put_lies : {P : Type 0} (test : P → Bool) (puts : List P) (i : ℕ) (other put : P) → i < length puts → get_or puts i other ≡ put → list_all test puts ≡ true
    → test put ≡ true
put_lies test puts i other put lt is all = ap test (sym is) ∙ AllPass-from_list_all test puts all i other lt

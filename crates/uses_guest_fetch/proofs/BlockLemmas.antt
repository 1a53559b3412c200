-- A command that is fetched out of one block.
use Rattle.std.proofs.Common.{◌≡◌, ℕ, zero, suc, ◌+◌, ◌-◌, ◌*◌, ◌/◌, ◌%◌, ◌^◌, ◌<◌, ◌≤◌, List, [], ◌∷◌, length, take, drop, get_or, slice_index, refl}
use Rattle.std.proofs.{Common.{sym, ap, ◌∙◌, arith}, lemmas.List.drop_more}
use Rattle.guest_fetch.specs.declared.fetch.{Step.{Step, TheVariants.{AtHeader, AtFis, AtEntries}}, Supplied.{Supplied, TheVariants.{More, Whole}}}
use Rattle.guest_fetch.specs.{declared.fetch.Supplied.TheVariants.{Refused, OutOfMemory}, Fetch.Fetching, Fetching.{Supplies, supplied, want_of}}
use Rattle.guest_fetch.specs.{Headers.{header_in, header_of_dwords, header_place}, Reading.{CommandIsOfItsParts, Guest, after_parts, bytes_in}}
use Rattle.guest_fetch.specs.{Reading.{command_at, go_on, header_at, memory_for, part_for}, declared.want.Want.Want}
use Rattle.uses_guest_fetch.specs.Block.{IsFetched, IsPart, guest_of}

bytes_of : (memory : List ℕ) (at n : ℕ) → at + n ≤ length memory → bytes_in (slice_index memory) at n ≡ take n (drop at memory)
bytes_of memory at zero h = refl
bytes_of memory at (suc n) h =
    ap (λ xs. slice_index memory at ∷ xs) (bytes_of memory (at + 1) n (omega arith)) ∙ sym (ap (take (suc n)) (drop_more memory at 0 (omega arith)))

memory_is : (memory : List ℕ) (step : Step) → memory_for (guest_of memory) step ≡ slice_index memory
memory_is memory AtHeader = refl
memory_is memory (AtFis header) = refl
memory_is memory (AtEntries head table) = refl

part_is : (memory : List ℕ) (f : Fetching) (raw : List ℕ) → IsPart memory (want_of f) raw → raw ≡ part_for (guest_of memory) f
part_is memory f raw part = part.is ∙ sym (bytes_of memory (want_of f).at (want_of f).len part.lies) ∙ sym (ap (λ m. bytes_in m (want_of f).at (want_of f).len) (memory_is memory f.step))

-- what stands before a part comes, and which part it is
pub record Stands (memory : List ℕ) (at n : ℕ) (f : Fetching) (raw : List ℕ) : Type 0 where
  pub part : IsPart memory (want_of f) raw
  pub all : after_parts (guest_of memory) (suc n) f ≡ command_at (guest_of memory) at

went : (memory : List ℕ) (at n : ℕ) (f : Fetching) (raw : List ℕ) → Stands memory at n f raw → go_on (supplied f raw) (λ g. after_parts (guest_of memory) n g) ≡ command_at (guest_of memory) at
went memory at n f raw stands = ap (λ r. go_on (supplied f r) (λ g. after_parts (guest_of memory) n g)) (part_is memory f raw stands.part) ∙ stands.all

pub more_is : (memory : List ℕ) (at n : ℕ) (f g : Fetching) (raw : List ℕ) → Stands memory at n f raw → supplied f raw ≡ More g → after_parts (guest_of memory) n g ≡ command_at (guest_of memory) at
more_is memory at n f g raw stands more = sym (ap (λ s. go_on s (λ g. after_parts (guest_of memory) n g)) more) ∙ went memory at n f raw stands

pub answer_is : (memory : List ℕ) (at n : ℕ) (f : Fetching) (raw : List ℕ) (answer : Supplied) → Stands memory at n f raw → Supplies f raw answer → ((g : Fetching) → answer ≡ More g → ⊥) → IsFetched memory at answer
answer_is memory at n f raw (More g) stands is none = absurd (none g refl)
answer_is memory at n f raw (Whole command) stands is none = sym (ap (λ s. go_on s (λ g. after_parts (guest_of memory) n g)) is) ∙ went memory at n f raw stands
answer_is memory at n f raw (Refused r) stands is none = sym (ap (λ s. go_on s (λ g. after_parts (guest_of memory) n g)) is) ∙ went memory at n f raw stands
answer_is memory at n f raw (OutOfMemory g) stands is none = tt

few : (raw : List ℕ) → (header_in raw).entries < 65536
unfolding header_of_dwords
few raw = omega arith

pub begins : CommandIsOfItsParts → (memory : List ℕ) (list slot n : ℕ) → n ≡ 65537 → after_parts (guest_of memory) n (record { at = header_place list slot; step = AtHeader }) ≡ command_at (guest_of memory) (header_place list slot)
begins law memory list slot n is =
    let most = few (bytes_in (slice_index memory) (header_place list slot) 32) in
    law (guest_of memory) list slot n (omega (arith, most, is))

pub ends : (memory : List ℕ) (at n : ℕ) (f : Fetching) → n ≡ 0 → after_parts (guest_of memory) n f ≡ command_at (guest_of memory) at → More f ≡ command_at (guest_of memory) at
ends memory at n f none all = sym (ap (λ k. after_parts (guest_of memory) k f) none) ∙ all

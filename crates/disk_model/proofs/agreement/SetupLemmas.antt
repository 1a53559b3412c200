-- For `answers_each_command_once`. What the DMA Setups of a command have named.
use Rattle.std.proofs.Common.{◌≡◌, ℕ, ◌+◌, ◌-◌, ◌*◌, ◌<◌, ◌≤◌, Bool, true, false, List, [], ◌∷◌, ◌++◌, refl, ◌∙◌, arith, inl, inr}
use Rattle.std.proofs.lemmas.List.{Elements.{All-push, All-weaker, All-nil}, Sums.{sum_by-append}}
use Rattle.std.specs.Prelude.{All}
use Rattle.disk_model.specs.{declared.{plan.DiskPlan.DiskPlan, request.Command.Command}, Chunks.{chunks, chunk_from, chunk_count}, Ledger.Stretch}
use Rattle.disk_model.specs.{Laws.{IsApart, bytes_named}, Between.{AreSetUp, ChunkPart, IsDone, moved_sectors}}
use Rattle.disk_model.proofs.agreement.GeometryLemmas.{moved_none}

-- what the DMA Setup of the next chunk names
abbrev pub chunk_stretch : DiskPlan → Command → ℕ → Stretch
chunk_stretch plan c left = record { at = 512 * chunk_from plan c left; count = 512 * chunk_count plan c left }

done_more : (downwards : Bool) (n done more : ℕ) → done ≤ more → (s : Stretch) → IsDone downwards n done s
    → IsDone downwards n more s
done_more true n done more le s is = omega (arith, is)
done_more false n done more le s is = omega (arith, is)

done_here : (downwards : Bool) (count from part moved next : ℕ) → (downwards ≡ false → from ≡ moved)
    → (downwards ≡ true → from ≡ count - (moved + part)) → next ≡ moved + part → IsDone downwards (512 * count) (512 * next)
    (record { at = 512 * from; count = 512 * part })
done_here true count from part moved next up down is = let d : from ≡ count - (moved + part) = down refl in omega (arith, d)
done_here false count from part moved next up down is = let d : from ≡ moved = up refl in omega (arith, d)

pub set_up_none : (plan : DiskPlan) (c : Command) → 512 ≤ plan.chunk → 0 < c.count → AreSetUp plan c (chunks plan c) []
set_up_none plan c low some = record { among = All-nil _; named = let e = moved_none plan c low some in rw e refl }

pub set_up_next : (plan : DiskPlan) (c : Command) (left : ℕ) (setups : List Stretch) → ChunkPart plan c left
    → AreSetUp plan c left setups → AreSetUp plan c (left - 1) (setups ++ chunk_stretch plan c left ∷ [])
set_up_next plan c left setups part was =
    let d = plan.last_first in
    let n = 512 * c.count in
    let now = 512 * moved_sectors plan c left in
    let then = 512 * moved_sectors plan c (left - 1) in
    let le : 512 * moved_sectors plan c left ≤ 512 * moved_sectors plan c (left - 1) = omega (arith, part.next) in
    let total : bytes_named (setups ++ chunk_stretch plan c left ∷ []) ≡ bytes_named setups + 512 * chunk_count plan c left = sum_by-append (λ (s : Stretch). s.count) setups _ ∙ (omega arith) in
    record {
      among = All-push (IsDone d n then) setups (chunk_stretch plan c left) (All-weaker (IsDone d n now) (IsDone d n then) (done_more d n now then le) setups was.among) (done_here d c.count (chunk_from plan c left) (chunk_count plan c left) (moved_sectors plan c left) (moved_sectors plan c (left - 1)) part.upwards part.downwards_is part.next);
      named = omega (arith, total, was.named, part.next);
    }

apart_of : (downwards : Bool) (count from part moved : ℕ) → (downwards ≡ false → from ≡ moved)
    → (downwards ≡ true → from ≡ count - (moved + part)) → moved + part ≤ count → (s : Stretch) → IsDone downwards (512 * count)
    (512 * moved) s → IsApart (512 * from) (512 * part) s
apart_of true count from part moved up down fits s is = let d : from ≡ count - (moved + part) = down refl in inr (omega (arith, d, is))
apart_of false count from part moved up down fits s is = let d : from ≡ moved = up refl in inl (omega (arith, d, is))

-- the next chunk was not named before
pub set_up_apart : (plan : DiskPlan) (c : Command) (left : ℕ) (setups : List Stretch) → ChunkPart plan c left
    → AreSetUp plan c left setups → All (IsApart (512 * chunk_from plan c left) (512 * chunk_count plan c left)) setups
set_up_apart plan c left setups part was =
    All-weaker _ _ (apart_of plan.last_first c.count (chunk_from plan c left) (chunk_count plan c left) (moved_sectors plan c left) part.upwards part.downwards_is part.within) setups was.among

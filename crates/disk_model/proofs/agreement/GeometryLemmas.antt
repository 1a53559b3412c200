-- For `answers_each_command_once`. Where chunks lie.
use Rattle.std.proofs.{Common.{◌≡◌, ℕ, zero, suc, ◌+◌, ◌-◌, ◌*◌, ◌/◌, ◌%◌, ◌<◌, ◌≤◌, Bool, true, false, refl, arith}, Math.Nat.{div-add-mod}}
use Rattle.std.proofs.Math.Nat.{mul_comm, mul-le-mul_right}
use Rattle.std.specs.Prelude.{min, if◌then◌else◌}
use Rattle.disk_model.specs.{declared.{request.Command.Command, plan.DiskPlan.DiskPlan}, Chunks.chunks, Between.{ChunkPart, Part, done_by}}
use Rattle.disk_model.specs.Between.{moved_sectors}

pred_mul : (q s : ℕ) → (q - 1) * s ≡ q * s - s
pred_mul zero s = omega arith
pred_mul (suc k) s = let e : suc k - 1 ≡ k = omega arith in rw e (omega arith)

more_mul : (q s : ℕ) → 0 < q → q * s ≡ (q - 1) * s + s
more_mul zero s some = absurd (omega arith)
more_mul (suc k) s some = let e : suc k - 1 ≡ k = omega arith in rw e (omega arith)

-- this many chunks cover the command, and one fewer do not
covers : (size count : ℕ) → 0 < size → 0 < count
    → (count ≤ (count + (size - 1)) / size * size) × (((count + (size - 1)) / size - 1) * size < count)
covers size count s c =
    let x = count + (size - 1) in
    let q = (count + (size - 1)) / size in
    let whole : size * q + (count + (size - 1)) % size ≡ count + (size - 1) = div-add-mod (count + (size - 1)) size in
    let rest : (count + (size - 1)) % size < size = omega arith in
    let turned : q * size ≡ size * q = mul_comm q size in
    let less : (q - 1) * size ≡ q * size - size = pred_mul q size in
    (omega (arith, whole, rest, turned), omega (arith, whole, rest, turned, less))

none : (downwards : Bool) (all size count : ℕ) → count ≤ all * size → done_by downwards all size count all ≡ 0
none true all size count covered = omega arith
none false all size count covered = let e : all - all ≡ 0 = omega arith in rw e (omega arith)

pub moved_none : (plan : DiskPlan) (c : Command) → 512 ≤ plan.chunk → 0 < c.count → moved_sectors plan c (chunks plan c) ≡ 0
moved_none plan c low some = none plan.last_first (chunks plan c) (plan.chunk / 512) c.count (covers (plan.chunk / 512) c.count (omega arith) some).0

abbrev pub from_of : Bool → (all size left : ℕ) → ℕ
from_of downwards all size left = (if downwards then left - 1 else all - left) * size

pub part_of : (downwards : Bool) (all size count left : ℕ) → 0 < size → 0 < left → left ≤ all → count ≤ all * size
    → (all - 1) * size < count → Part downwards all size count left (from_of downwards all size left)
    (min size (count - from_of downwards all size left))
part_of true all size count left s l among covered short =
    let step : left * size ≡ (left - 1) * size + size = more_mul left size l in
    let low : (left - 1) * size ≤ (all - 1) * size = mul-le-mul_right size (let h : left - 1 ≤ all - 1 = omega arith in h) in
    record {
      upwards = λ e. cc e;
      downwards_is = λ e. omega (arith, step, low);
      next = omega (arith, step, low);
      within = omega (arith, step, low);
      inside = omega (arith, step, low);
      last = λ e. let none : (left - 1) * size ≡ 0 = rw e (omega arith) in omega (arith, step, low, none);
      more = λ e.
          let one : 1 * size ≤ (left - 1) * size = mul-le-mul_right size (let h : 1 ≤ left - 1 = omega (arith, e) in h) in
          omega (arith, step, low, one);
    }
part_of false all size count left s l among covered short =
    let again : all - (left - 1) ≡ all - left + 1 = omega arith in
    let step : (all - (left - 1)) * size ≡ (all - left) * size + size = rw again (omega arith) in
    let low : (all - left) * size ≤ (all - 1) * size = mul-le-mul_right size (let h : all - left ≤ all - 1 = omega arith in h) in
    let whole : all * size ≡ (all - 1) * size + size = more_mul all size (omega arith) in
    record {
      upwards = λ e. omega (arith, step, low);
      downwards_is = λ e. cc e;
      next = omega (arith, step, low);
      within = omega (arith, step, low);
      inside = omega (arith, step, low);
      last = λ e. let first : (all - left) * size ≡ (all - 1) * size = rw e refl in omega (arith, step, low, whole, first);
      more = λ e.
          let less : (all - (left - 1)) * size ≤ (all - 1) * size = mul-le-mul_right size (let h : all - (left - 1) ≤ all - 1 = omega (arith, e) in h) in
          omega (arith, step, low, less);
    }

pub chunk_part : (plan : DiskPlan) (c : Command) (left : ℕ) → 512 ≤ plan.chunk → 0 < c.count → 0 < left → left ≤ chunks plan c
    → ChunkPart plan c left
chunk_part plan c left low some more among =
    let s : 0 < plan.chunk / 512 = omega arith in
    let all = covers (plan.chunk / 512) c.count s some in
    part_of plan.last_first (chunks plan c) (plan.chunk / 512) c.count left s more among all.0 all.1

positive : (all size count : ℕ) → 0 < count → count ≤ all * size → 0 < all
positive zero size count some covered = absurd (omega arith)
positive (suc k) size count some covered = omega arith

-- a command has a chunk
pub some_chunks : (plan : DiskPlan) (c : Command) → 512 ≤ plan.chunk → 0 < c.count → 0 < chunks plan c
some_chunks plan c low some = positive (chunks plan c) (plan.chunk / 512) c.count some (covers (plan.chunk / 512) c.count (omega arith) some).0

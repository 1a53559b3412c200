-- For the calls of a disk. The next FIS of a transfer.
use Rattle.std.proofs.Common.{◌≡◌, ℕ, zero, suc, ◌+◌, ◌-◌, ◌*◌, ◌<◌, Bool, true, false, List, ◌∷◌, length, take, drop, refl, ap, sym, arith}
use Rattle.std.specs.Prelude.{not}
use Rattle.disk_model.specs.{declared.{request.Command.Command, plan.DiskPlan.DiskPlan, disk.Reading.Reading}, Sendings.{Sending, Activates, Shows}}
use Rattle.disk_model.specs.{Sendings.{Carries, setup}, Chunks.{activations, sends_left, asks_for, chunk_setup, chunk_from, chunk_count, sectors_at}}
use Rattle.disk_model.specs.Insides.{sends_of, sends_after, Leads}

pub sends_left_next : (plan : DiskPlan) (medium : List ℕ) (c : Command) (left : ℕ) → 0 < left
    → sends_left plan medium c left ≡ chunk_setup plan c left ∷ Carries (sectors_at medium (c.lba + chunk_from plan c left) (chunk_count plan c left)) ∷ sends_left plan medium c (left - 1)
unfolding sends_left
sends_left_next plan medium c zero some = absurd (omega arith)
sends_left_next plan medium c (suc k) some =
    let e : suc k - 1 ≡ k = omega arith in
    ap (λ n. chunk_setup plan c (suc k) ∷ Carries (sectors_at medium (c.lba + chunk_from plan c (suc k)) (chunk_count plan c (suc k))) ∷ sends_left plan medium c n) (sym e)

pub leads_setup : (plan : DiskPlan) (medium : List ℕ) (r : Reading) (up : Bool) (bytes : List ℕ) (from count : ℕ) → 0 < r.left
    → up ≡ false → from ≡ chunk_from plan r.command r.left → count ≡ chunk_count plan r.command r.left
    → Shows (setup r.command.tag (512 * from) (512 * count) (not r.command.write) plan.auto) bytes
    → Leads (sends_of plan medium r up) bytes (sends_after plan medium r up)
leads_setup plan medium r up bytes from count some is f n shows =
    let next = sends_left_next plan medium r.command r.left some in
    let here = rw (f, n) at shows in
    rw (is, next) (here, refl)

pub leads_data : (plan : DiskPlan) (medium : List ℕ) (r : Reading) (up : Bool) (bytes data_bytes : List ℕ) (from count : ℕ)
    → 0 < r.left → up ≡ true → from ≡ chunk_from plan r.command r.left → count ≡ chunk_count plan r.command r.left
    → data_bytes ≡ sectors_at medium (r.command.lba + from) count → Shows (Carries data_bytes) bytes
    → Leads (sends_of plan medium r up) bytes (sends_after plan medium r up)
leads_data plan medium r up bytes data_bytes from count some is f n same shows =
    let next = sends_left_next plan medium r.command r.left some in
    let here = rw (same, f, n) at shows in
    rw (is, next) (here, refl)

-- the DMA Setup of a write's chunk
pub leads_ask : (plan : DiskPlan) (c : Command) (left gone : ℕ) (bytes : List ℕ) (from count : ℕ) → gone ≡ 0
    → from ≡ chunk_from plan c left → count ≡ chunk_count plan c left
    → Shows (setup c.tag (512 * from) (512 * count) (not c.write) plan.auto) bytes
    → Leads (drop gone (asks_for plan c left)) bytes (drop (gone + 1) (asks_for plan c left))
leads_ask plan c left gone bytes from count is f n shows =
    let here = rw (f, n) at shows in
    rw is (here, refl)

-- the DMA Activate of a write's chunk, if its DMA Setup has no auto-activate
activates_after : (x : Sending) (auto : Bool) (gone : ℕ) (bytes : List ℕ) → (gone ≡ 0 → ⊥)
    → gone < 1 + length (activations auto) → Shows Activates bytes
    → Leads (drop gone (x ∷ activations auto)) bytes (drop (gone + 1) (x ∷ activations auto))
activates_after x true gone bytes other more shows = absurd (other (omega arith))
activates_after x false gone bytes other more shows = let is : gone ≡ 1 = omega (arith, other) in rw is (shows, refl)

pub leads_activate : (plan : DiskPlan) (c : Command) (left gone : ℕ) (bytes : List ℕ) → (gone ≡ 0 → ⊥)
    → gone < 1 + length (activations plan.auto) → Shows Activates bytes
    → Leads (drop gone (asks_for plan c left)) bytes (drop (gone + 1) (asks_for plan c left))
leads_activate plan c left gone bytes other more shows =
    activates_after (chunk_setup plan c left) plan.auto gone bytes other more shows

-- a slice of the medium, by its sectors
pub slice_of_sectors : (medium : List ℕ) (start end lba count : ℕ) → start ≡ lba * 512 → end ≡ start + count * 512
    → take (end - start) (drop start medium) ≡ sectors_at medium lba count
slice_of_sectors medium start end lba count e f =
    let a : start ≡ 512 * lba = omega arith in
    let b : end - start ≡ 512 * count = omega arith in
    rw (b, a) refl

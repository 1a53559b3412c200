-- For `reads_bring_writes`. A read that was submitted once a write had ended brings its bytes, and they stay on the
-- medium.
use Rattle.std.proofs.Common.{◌≡◌, ◌*◌, ℕ, zero, suc, ◌+◌, ◌<◌, List, [], ◌∷◌, ◌++◌, All, append_assoc, drop, length, take, refl, ap, subst, sym, ◌∙◌}
use Rattle.std.proofs.Common.{arith, Option, Some, None}
use Rattle.std.specs.Prelude.{IsSomeAnd, MatchOption, slice_get}
use Rattle.disk_model.specs.{declared.{plan.DiskPlan.DiskPlan, unit.Unit.TheVariants.{Disk, Scripted}}, Disks.{DiskValue, Moment}, Chunks.sectors_at}
use Rattle.disk_model.specs.{Fronts.IsFront, Histories.{DiskOf, Happening}, Last.{LieOn, Lies, NoneCovers}}
use Rattle.disk_model.specs.{Ledger.{IsSize, Written, ledger, medium_with}, Runs.{DiskStandsFor, IsDiskRun, moment}}
use Rattle.disk_model.proofs.Door.{agrees, lie_on, shows_the_last}
use Rattle.pm_world.specs.{Attached.{Attached, Modelled, Own, StandsFor, plan_of}, Disks.disk_history}
use Rattle.pm_world.specs.{HonestEnds.{ReadsSectors, StandsAt, WritesSectors}, Places.{Place, new_world}, Runs.over, Units.{LivesOn, happens}}
use Rattle.pm_world.specs.ReadBack.{DisksHaveWrites, ReadsBringWrites, Shows, WritesStayThere}
use Rattle.pm_world.proofs.{honest.DisksLemmas.{part_front, same_plan}, units.Units.{units_live_on, units_lived_on}, honest.HonestRuns.disk_runs}
use Rattle.hba_laws.specs.{Client.own, History.filled}
use Rattle.hba_driver.specs.declared.mode.Mode.TheVariants.{Switching}
use Rattle.pm_world.specs.declared.step.Answer.TheVariants as answer
use Rattle.pm_world.specs.declared.step.Step.TheVariants as step

-- ## Lists

get_drop : {A : Type 0} (n : ℕ) (xs : List A) (i : ℕ) → slice_get (drop n xs) i ≡ slice_get xs (n + i)
get_drop zero xs i = let same : 0 + i ≡ i = omega arith in sym (ap (slice_get xs) same)
get_drop (suc n) [] i = refl
get_drop (suc n) (x ∷ xs) i = let more : suc n + i ≡ suc (n + i) = omega arith in get_drop n xs i ∙ sym (ap (slice_get (x ∷ xs)) more)

get_take : {A : Type 0} (n : ℕ) (xs : List A) (i : ℕ) → i < n → slice_get (take n xs) i ≡ slice_get xs i
get_take zero xs i below = absurd (omega (arith, below))
get_take (suc n) [] i below = refl
get_take (suc n) (x ∷ xs) zero below = refl
get_take (suc n) (x ∷ xs) (suc i) below = get_take n xs i (omega (arith, below))

get_front : {A : Type 0} (xs ys : List A) (k : ℕ) (x : A) → slice_get xs k ≡ Some x → slice_get (xs ++ ys) k ≡ Some x
get_front [] ys k x is = cc is
get_front (z ∷ xs) ys zero x is = is
get_front (z ∷ xs) ys (suc k) x is = get_front xs ys k x is

-- around an entry of a list
split : {A : Type 0} (xs : List A) (k : ℕ) (x : A) → slice_get xs k ≡ Some x → xs ≡ take k xs ++ x ∷ drop (suc k) xs
split [] k x is = cc is
split (z ∷ xs) zero x is = let same : z ≡ x = cc is in ap (λ (y : _). y ∷ xs) same
split (z ∷ xs) (suc k) x is = ap (λ (ys : List _). z ∷ ys) (split xs k x is)

first_part : {A : Type 0} (P : A → Type 0) (xs ys : List A) → All P (xs ++ ys) → All P xs
first_part P [] ys all k d below = absurd (omega (arith, below))
first_part P (x ∷ xs) ys all zero d below = all 0 d (omega arith)
first_part P (x ∷ xs) ys all (suc k) d below = first_part P xs ys (λ i e less. all (suc i) e (omega (arith, less))) k d (omega (arith, below))

-- ## On the medium

-- a byte of a list of sectors is that of the medium
in_sectors : (medium : List ℕ) (lba count i : ℕ) → i < 512 * count → slice_get (sectors_at medium lba count) i ≡ slice_get medium (512 * lba + i)
in_sectors medium lba count i below = get_take (512 * count) (drop (512 * lba) medium) i below ∙ get_drop (512 * lba) medium i

-- a write among others that lie on the medium, if no later write has the byte
shown : (sectors at j k : ℕ) (writes : List Written) (w : Written) → slice_get writes at ≡ Some w → LieOn sectors writes → j < length w.bytes
    → k ≡ w.at + j → NoneCovers k (drop (suc at) writes) → slice_get (medium_with sectors writes) k ≡ slice_get w.bytes j
shown sectors at j k writes w there lie below is none =
    let parts : writes ≡ take at writes ++ w ∷ drop (suc at) writes = split writes at w there in
    ap (λ (ws : List Written). slice_get (medium_with sectors ws) k) parts ∙ ap (slice_get (medium_with sectors (take at writes ++ w ∷ drop (suc at) writes))) is
    ∙ shows_the_last sectors j (take at writes) (drop (suc at) writes) w (subst (LieOn sectors) parts lie) below
    (subst (λ (n : ℕ). NoneCovers n (drop (suc at) writes)) is none)

lie_in_run : (plan : DiskPlan) (sectors : ℕ) (history : List Happening) → IsSize plan sectors → IsDiskRun plan sectors history
    → LieOn sectors (ledger history).writes
lie_in_run plan sectors history size run =
    lie_on sectors (moment plan sectors history).medium (ledger history).writes (agrees plan sectors history size run).medium
    (agrees plan sectors history size run).length_is

in_front : (front whole : List Written) (k : ℕ) (w : Written) → IsFront front whole → slice_get front k ≡ Some w → slice_get whole k ≡ Some w
in_front front whole k w f is = ap (λ (ws : List Written). slice_get ws k) f.same ∙ get_front front f.later k w is

-- ## The laws

pub reads_bring_writes : ReadsBringWrites
reads_bring_writes config units n sectors plan past fits below disk was now d f s t write read m l writes reads w r part i j one none =
    x.bytes j one.of_write ∙ sym of_medium ∙ stands.is
  where
    x : WritesSectors s write w.before (disk_history config units n was d past) (filled s (own n w.touches))
    x = w.ends.writes writes

    y : ReadsSectors sectors t read r.before (disk_history config units n now f past) l
    y = r.ends.reads reads

    before : IsFront (ledger (disk_history config units n was d past)).writes y.read.before
    before =
        let first : IsFront (ledger (disk_history config units n was d past)).writes (ledger r.before).writes =
        part_front (disk_history config units n was d past) r.before part in
        record {
          later = first.later ++ y.since.later;
          same = y.since.same ∙ ap (λ (ws : List Written). ws ++ y.since.later) first.same
              ∙ append_assoc (ledger (disk_history config units n was d past)).writes first.later y.since.later;
        }

    there : slice_get y.read.before x.at ≡ Some x.written
    there = in_front (ledger (disk_history config units n was d past)).writes y.read.before x.at x.written before x.entered

    whole : IsDiskRun plan sectors (disk_history config units n now f past)
    whole = disk_runs config units n sectors plan past fits below disk now f

    lie : LieOn sectors y.read.before
    lie = first_part (Lies (512 * sectors)) y.read.before y.until.later
        (subst (LieOn sectors) y.until.same (lie_in_run plan sectors (disk_history config units n now f past) disk.size whole))

    stands : StandsAt (sectors_at (medium_with sectors y.read.before) read.head.lba read.head.sectors) read.prds l i
    stands = y.brought i one.of_read

    of_medium : slice_get (sectors_at (medium_with sectors y.read.before) read.head.lba read.head.sectors) i ≡ slice_get x.written.bytes j
    of_medium =
        in_sectors (medium_with sectors y.read.before) read.head.lba read.head.sectors i one.of_read
        ∙ shown sectors x.at j (512 * read.head.lba + i) y.read.before x.written there lie
        (subst (λ (k : ℕ). j < k) (sym x.long) one.of_write) (one.same ∙ ap (λ (k : ℕ). k + j) (sym x.place)) none

pub writes_stay_there : WritesStayThere
writes_stay_there config units n sectors plan past disk was d s write m writes w history run part j below none =
    ap (λ (bytes : List ℕ). slice_get bytes (512 * write.head.lba + j)) (agrees plan sectors history disk.size run).medium
    ∙ shown sectors x.at j (512 * write.head.lba + j) (ledger history).writes x.written there (lie_in_run plan sectors history disk.size run)
    (subst (λ (k : ℕ). j < k) (sym x.long) below) (ap (λ (k : ℕ). k + j) (sym x.place)) none
    ∙ sym (x.bytes j below)
  where
    x : WritesSectors s write w.before (disk_history config units n was d past) (filled s (own n w.touches))
    x = w.ends.writes writes

    there : slice_get (ledger history).writes x.at ≡ Some x.written
    there = in_front (ledger (disk_history config units n was d past)).writes (ledger history).writes x.at x.written
        (part_front (disk_history config units n was d past) history part) x.entered

-- ## In a later world

pub disks_have_writes : DisksHaveWrites
disks_have_writes config units n sectors plan past fits disk was d s write m writes w steps answers now run j below none =
    by_places (slice_get was.devices n) (slice_get now.devices n) lived (units_live_on was steps answers now run n)
  where
    since : List Happening
    since = over (happens n) (new_world config units) d.first d.told d.out d.made
        ++ over (happens n) d.out (step.Came n ∷ d.steps) (answer.Came n d.conn ∷ d.answers) was d.run

    before : List Happening
    before = disk_history config units n was d past

    before_is : past ++ since ≡ before
    before_is = sym (append_assoc past (over (happens n) (new_world config units) d.first d.told d.out d.made)
        (over (happens n) d.out (step.Came n ∷ d.steps) (answer.Came n d.conn ∷ d.answers) was d.run))

    later : List Happening
    later = over (happens n) was steps answers now run

    lived : IsSomeAnd (slice_get was.devices n) (λ place. LivesOn (Modelled (Disk disk.disk)) since place.unit)
    lived =
        units_lived_on d.out (step.Came n ∷ d.steps) (answer.Came n d.conn ∷ d.answers) was d.run Switching config units fits d.first d.told d.made n (Modelled (Disk disk.disk))
        disk.there

    on_disk : (x : DiskValue) → DiskStandsFor x (disk_history config units n was d past ++ over (happens n) was steps answers now run) → x.plan ≡ plan
        → x.sectors ≡ sectors → slice_get x.now.medium (512 * write.head.lba + j) ≡ filled s (own n w.touches) j
    on_disk x stands plan_is sectors_are =
        let first : IsDiskRun plan x.sectors (before ++ later) = subst (λ (p : DiskPlan). IsDiskRun p x.sectors (before ++ later)) plan_is stands.run in
        let whole : IsDiskRun plan sectors (before ++ later) = subst (λ (k : ℕ). IsDiskRun plan k (before ++ later)) sectors_are first in
        let is : x.now ≡ moment plan sectors (before ++ later) =
        stands.now ∙ ap (λ (p : DiskPlan). moment p x.sectors (before ++ later)) plan_is ∙ ap (λ (k : ℕ). moment plan k (before ++ later)) sectors_are in
        ap (λ (t : Moment). slice_get t.medium (512 * write.head.lba + j)) is
        ∙ writes_stay_there config units n sectors plan past disk was d s write m writes w (before ++ later) whole (record { later = later; is = refl }) j below none

    by_unit : (u : Attached) → StandsFor u (disk_history config units n was d past ++ over (happens n) was steps answers now run)
        → plan_of u ≡ DiskOf disk.disk.plan disk.disk.sectors
        → Shows (512 * write.head.lba + j) (filled s (own n w.touches) j) u
    by_unit (Modelled (Disk x)) stands is =
        let same = same_plan x.plan disk.disk.plan x.sectors disk.disk.sectors is in
        on_disk x stands (same.0 ∙ disk.plan_is) (same.1 ∙ disk.sectors_are)
    by_unit (Modelled (Scripted reading)) stands is = absurd (cc is)
    by_unit Own stands is = absurd stands

    by_places : (o p : Option Place) → IsSomeAnd o (λ place. LivesOn (Modelled (Disk disk.disk)) since place.unit)
        → MatchOption o (p ≡ None) (λ a. IsSomeAnd p (λ b. LivesOn a.unit (over (happens n) was steps answers now run) b.unit))
        → IsSomeAnd p (λ place. Shows (512 * write.head.lba + j) (filled s (own n w.touches) j) place.unit)
    by_places None p lived lives = absurd lived
    by_places (Some a) None lived lives = absurd lives
    by_places (Some a) (Some b) lived lives =
        by_unit b.unit (lives.stands_for before (subst (StandsFor a.unit) before_is (lived.stands_for past disk.stands))) (lives.plan ∙ lived.plan)

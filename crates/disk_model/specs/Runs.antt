-- The runs of a disk: what its plan and a history allow it to send (Serial ATA 3.x, 13.6, native command
-- queuing).
use Rattle.std.specs.Prelude.{ℕ, ◌≡◌, ◌*◌, ◌/◌, ◌%◌, ◌==◌, ◌&&◌, Bool, nat_le, length, List, [], ◌∷◌, Some, None}
use Rattle.disk_model.specs.{declared.plan.{DiskPlan.DiskPlan, Profile.{Profile, TheVariants.{Bare, Stock}}}, Histories.{Happening, Received, Sent}}
use Rattle.disk_model.specs.{Histories.{Plugged, Loaded, Plan, Script, DiskOf}, Sendings.Shows, Disks.{Moment, DiskValue, Turn, turn, after}}
use Rattle.disk_model.specs.Disks.{new_with, opening, moment_after}

-- the most sectors that a disk can have: the number of those of a stock disk fits into 28 bits, as words 60 and 61
-- of IDENTIFY DEVICE and the LBA of READ DMA say it (ACS-3)
abbrev pub most_sectors : Profile → ℕ
most_sectors Bare = 65536
most_sectors (Stock serial) = 268435455

-- a disk of this profile can have this many sectors, and chunks of this size
abbrev pub is_size : Profile → (sectors chunk : ℕ) → Bool
is_size profile sectors chunk = nat_le 1 sectors && nat_le sectors (most_sectors profile) && nat_le 512 chunk
    && nat_le chunk 8192 && chunk % 512 == 0

-- so many bytes are sectors that a disk of this plan can have
abbrev pub are_sectors : DiskPlan → ℕ → Bool
are_sectors plan len = (len % 512 == 0) && is_size plan.profile (len / 512) plan.chunk

-- a new disk with these sectors
pub record IsLoaded (plan : DiskPlan) (medium : List ℕ) (d : DiskValue) : Type 0 where
  pub plan_is : d.plan ≡ plan
  pub sectors : length medium ≡ 512 * d.sectors
  pub now : d.now ≡ new_with medium

abbrev pub disk_plan : DiskValue → Plan
disk_plan d = DiskOf d.plan d.sectors

-- there is a turn, and the bytes show its FIS
abbrev pub IsTurn : Turn → List ℕ → Type 0
IsTurn None bytes = ⊥
IsTurn (Some t) bytes = Shows t.0 bytes

-- the event may happen to a disk in this state; what it sends is its turn, and only a new disk is loaded
abbrev pub MayHappen : DiskPlan → ℕ → Moment → Happening → Type 0
MayHappen plan sectors m (Sent bytes) = IsTurn (turn plan sectors m) bytes
MayHappen plan sectors m (Received bytes) = Unit {0}
MayHappen plan sectors m Plugged = Unit {0}
MayHappen plan sectors m (Loaded bytes) = (m ≡ opening sectors) × (length bytes ≡ 512 * sectors)

-- the events of the list may happen, one after another, to a disk in this state
unfoldable pub Runs : DiskPlan → ℕ → Moment → List Happening → Type 0
Runs plan sectors m [] = Unit {0}
Runs plan sectors m (e ∷ later) =
    MayHappen plan sectors m e × Runs plan sectors (after plan sectors m e) later

-- a run of a new disk
abbrev pub IsDiskRun : DiskPlan → ℕ → List Happening → Type 0
IsDiskRun plan sectors history = Runs plan sectors (opening sectors) history

-- what a history makes of a new disk
abbrev pub moment : DiskPlan → ℕ → List Happening → Moment
moment plan sectors history = moment_after plan sectors (opening sectors) history

-- the history is a run of the disk's plan, and leads to what the disk is now
pub record DiskStandsFor (d : DiskValue) (history : List Happening) : Type 0 where
  pub run : IsDiskRun d.plan d.sectors history
  pub now : d.now ≡ moment d.plan d.sectors history

-- the FIS of the disk's turn after the history
abbrev pub DiskMaySend : Plan → List Happening → List ℕ → Type 0
DiskMaySend (DiskOf plan sectors) history bytes =
    IsTurn (turn plan sectors (moment plan sectors history)) bytes
DiskMaySend (Script frames) history bytes = ⊥

-- these bytes show the turn, and the disk is this after it
abbrev pub Takes : Turn → List ℕ → Moment → Type 0
Takes None bytes m = ⊥
Takes (Some t) bytes m = Shows t.0 bytes × (m ≡ t.1)

-- the disk sent these bytes as its turn
abbrev pub Gave : DiskValue → List ℕ → DiskValue → Type 0
Gave old bytes new = Takes (turn old.plan old.sectors old.now) bytes new.now × (new.plan ≡ old.plan)
    × (new.sectors ≡ old.sectors)

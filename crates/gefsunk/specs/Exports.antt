-- What an export leaves behind a handle. Where the handle is closed, or has something of another kind, nothing is
-- done. A handle stays open or closed, except where something is made or freed.
use Rattle.std.specs.Prelude.{◌≡◌, ℕ, ◌≤◌, ◌==◌, not, List, Option, Some, None}
use Rattle.sata_disk.specs.State.{DiskState}
use Rattle.gefsunk.specs.{Pms.{opening, opening_with_port_0}, Profiles.{MakesDisk, ProfileRefused}, declared.{kept.Kept.Kept, pm.Pm.Pm}}
use Rattle.gefsunk.specs.declared.{profile.DiskNumbers.DiskNumbers, status.Status.Status}
use Rattle.gefsunk.specs.declared.kept.Kept.TheVariants as kept
use Rattle.gefsunk.specs.declared.status.Status.TheVariants as status

-- a call on the multiplier behind the handle, by its rule
abbrev pub AtPm : Option Kept → Status → Option Kept → (Pm → Pm → Type 0) → Type 0
AtPm (Some (kept.Pm old)) answer (Some (kept.Pm new)) rule = rule old new
AtPm (Some (kept.Pm old)) answer (Some (kept.Disk new)) rule = ⊥
AtPm (Some (kept.Pm old)) answer (Some (kept.Machine new)) rule = ⊥
AtPm (Some (kept.Pm old)) answer None rule = ⊥
AtPm (Some (kept.Disk old)) answer new rule = (answer ≡ status.Closed) × (new ≡ Some (kept.Disk old))
AtPm (Some (kept.Machine old)) answer new rule = (answer ≡ status.Closed) × (new ≡ Some (kept.Machine old))
AtPm None answer new rule = (answer ≡ status.Closed) × (new ≡ None)

-- a call on the disk behind the handle, by its rule
abbrev pub AtDisk : Option Kept → Status → Option Kept → (DiskState → DiskState → Type 0) → Type 0
AtDisk (Some (kept.Disk old)) answer (Some (kept.Disk new)) rule = rule old new
AtDisk (Some (kept.Disk old)) answer (Some (kept.Pm new)) rule = ⊥
AtDisk (Some (kept.Disk old)) answer (Some (kept.Machine new)) rule = ⊥
AtDisk (Some (kept.Disk old)) answer None rule = ⊥
AtDisk (Some (kept.Pm old)) answer new rule = (answer ≡ status.Closed) × (new ≡ Some (kept.Pm old))
AtDisk (Some (kept.Machine old)) answer new rule = (answer ≡ status.Closed) × (new ≡ Some (kept.Machine old))
AtDisk None answer new rule = (answer ≡ status.Closed) × (new ≡ None)

-- a multiplier is made behind a closed handle
abbrev pub MadePm : Option Kept → ℕ → Status → Option Kept → Type 0
MadePm (Some old) ports answer new = (answer ≡ status.Open) × (new ≡ Some old)
MadePm None ports status.Done new = (1 ≤ ports) × (ports ≤ 15) × (new ≡ Some (kept.Pm (opening ports)))
MadePm None ports status.BadPorts new = ((1 ≤ ports) × (ports ≤ 15) → ⊥) × (new ≡ None)
MadePm None ports status.NoMemory new = (1 ≤ ports) × (ports ≤ 15) × (new ≡ None)
MadePm None ports _ new = ⊥

-- one with port 0 open from the start, with a device at it where the number is not 0
abbrev pub MadeOpenPm : Option Kept → (ports is_there : ℕ) → Status → Option Kept → Type 0
MadeOpenPm (Some old) ports is_there answer new = (answer ≡ status.Open) × (new ≡ Some old)
MadeOpenPm None ports is_there status.Done new =
    (1 ≤ ports) × (ports ≤ 15) × (new ≡ Some (kept.Pm (opening_with_port_0 ports (not (is_there == 0)))))
MadeOpenPm None ports is_there status.BadPorts new = ((1 ≤ ports) × (ports ≤ 15) → ⊥) × (new ≡ None)
MadeOpenPm None ports is_there status.NoMemory new = (1 ≤ ports) × (ports ≤ 15) × (new ≡ None)
MadeOpenPm None ports is_there _ new = ⊥

-- a new disk, as C describes it
abbrev pub IsDiskOf : DiskNumbers → (model serial firmware : List ℕ) → Kept → Type 0
IsDiskOf n model serial firmware (kept.Disk disk) = MakesDisk n model serial firmware disk
IsDiskOf n model serial firmware (kept.Pm pm) = ⊥
IsDiskOf n model serial firmware (kept.Machine machine) = ⊥

-- a disk is made behind a closed handle
abbrev pub MadeDisk : Option Kept → DiskNumbers → (model serial firmware : List ℕ) → Status → Option Kept → Type 0
MadeDisk (Some old) n model serial firmware answer new = (answer ≡ status.Open) × (new ≡ Some old)
MadeDisk None n model serial firmware answer (Some new) = (answer ≡ status.Done) × IsDiskOf n model serial firmware new
MadeDisk None n model serial firmware answer None = ProfileRefused n model serial firmware answer

-- the multiplier is freed
abbrev pub FreedPm : Option Kept → Status → Option Kept → Type 0
FreedPm (Some (kept.Pm old)) answer new = (answer ≡ status.Done) × (new ≡ None)
FreedPm (Some (kept.Disk old)) answer new = (answer ≡ status.Closed) × (new ≡ Some (kept.Disk old))
FreedPm (Some (kept.Machine old)) answer new = (answer ≡ status.Closed) × (new ≡ Some (kept.Machine old))
FreedPm None answer new = (answer ≡ status.Closed) × (new ≡ None)

-- the disk is freed
abbrev pub FreedDisk : Option Kept → Status → Option Kept → Type 0
FreedDisk (Some (kept.Disk old)) answer new = (answer ≡ status.Done) × (new ≡ None)
FreedDisk (Some (kept.Pm old)) answer new = (answer ≡ status.Closed) × (new ≡ Some (kept.Pm old))
FreedDisk (Some (kept.Machine old)) answer new = (answer ≡ status.Closed) × (new ≡ Some (kept.Machine old))
FreedDisk None answer new = (answer ≡ status.Closed) × (new ≡ None)

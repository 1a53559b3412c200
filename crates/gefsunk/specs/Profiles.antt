-- What a disk is (ACS-3, IDENTIFY DEVICE data), as C says it.
use Rattle.std.specs.{Prelude.{◌≡◌, ℕ, ◌≤◌, ◌<◌, ◌==◌, ◌⊎◌, not, if◌then◌else◌, List, IsUtf8, Option, Some, None, Result, Ok, Err}, Result.IsErr}
use Rattle.std.specs.Prelude.{IsOk}
use Rattle.disk_pages.specs.{Profiles.{capacity_of, depth_of, rpm_of}, Texts.text_of, declared.profile.NumberFault.NumberFault}
use Rattle.disk_pages.specs.declared.profile.{PhysicalSector.{PhysicalSector, TheVariants.{Bytes512, Bytes4096}}, Profile.Profile, Rotation.Rotation}
use Rattle.disk_pages.specs.declared.profile.Rotation.TheVariants.{Unknown, Solid, Rotates}
use Rattle.sata_disk.specs.State.{DiskState, new_disk}
use Rattle.gefsunk.specs.declared.{profile.DiskNumbers.DiskNumbers, status.Status.Status}
use Rattle.gefsunk.specs.declared.status.Status.TheVariants as status

abbrev pub physical_of : (bytes : ℕ) → Option PhysicalSector
physical_of n = if n == 512 then Some Bytes512 else if n == 4096 then Some Bytes4096 else None

abbrev pub turning : Result ℕ NumberFault → Result Rotation Status
turning (Ok rpm) = Ok (Rotates rpm)
turning (Err e) = Err status.BadRotation

abbrev pub rotation_of : (number : ℕ) → Result Rotation Status
rotation_of n = if n == 0 then Ok Unknown else if n == 1 then Ok Solid else turning (rpm_of n)

pub record IsProfile (n : DiskNumbers) (a b c : List ℕ) (p : Profile) : Type 0 where
  pub capacity : capacity_of n.sectors ≡ Ok p.capacity
  pub model : text_of 40 a ≡ Ok p.model
  pub serial : text_of 20 b ≡ Ok p.serial
  pub firmware : text_of 8 c ≡ Ok p.firmware
  pub wwn : p.wwn ≡ (if n.wwn == 0 then None else Some n.wwn)
  pub depth : depth_of n.depth ≡ Ok p.depth
  pub rotation : rotation_of n.rotation ≡ Ok p.rotation
  pub physical : physical_of n.physical ≡ Some p.physical
  pub trim : p.trim ≡ not (n.trim == 0)

-- a text that does not fit its field, or is no text
abbrev pub IsBadText : (room : ℕ) → List ℕ → Type 0
IsBadText room bytes = IsErr (text_of room bytes) ⊎ (IsUtf8 bytes → ⊥)

-- each text fits its field
abbrev pub AreTexts : (model serial firmware : List ℕ) → Type 0
AreTexts model serial firmware = IsOk (text_of 40 model) × IsOk (text_of 20 serial) × IsOk (text_of 8 firmware)

-- there is a profile of what C says
pub record IsDescribed (n : DiskNumbers) (model serial firmware : List ℕ) : Type 0 where
  pub profile : Profile
  pub is : IsProfile n model serial firmware profile

-- each refusal has its cause, and none of those before it; memory is refused only to a disk that there can be
abbrev pub ProfileRefused : DiskNumbers → (model serial firmware : List ℕ) → Status → Type 0
ProfileRefused n model serial firmware status.BadSectors = IsErr (capacity_of n.sectors)
ProfileRefused n model serial firmware status.BadText =
    IsOk (capacity_of n.sectors) × (IsBadText 40 model ⊎ (IsBadText 20 serial ⊎ IsBadText 8 firmware))
ProfileRefused n model serial firmware status.BadDepth =
    IsOk (capacity_of n.sectors) × AreTexts model serial firmware × IsErr (depth_of n.depth)
ProfileRefused n model serial firmware status.BadRotation =
    IsOk (capacity_of n.sectors) × AreTexts model serial firmware × IsOk (depth_of n.depth) × IsErr (rotation_of n.rotation)
ProfileRefused n model serial firmware status.BadPhysical =
    IsOk (capacity_of n.sectors) × AreTexts model serial firmware × IsOk (depth_of n.depth) × IsOk (rotation_of n.rotation)
    × (physical_of n.physical ≡ None)
ProfileRefused n model serial firmware status.BadLimit = IsDescribed n model serial firmware × (n.limit < 1048576)
ProfileRefused n model serial firmware status.NoMemory = IsDescribed n model serial firmware × (1048576 ≤ n.limit)
ProfileRefused n model serial firmware _ = ⊥

pub record MakesDisk (n : DiskNumbers) (model serial firmware : List ℕ) (d : DiskState) : Type 0 where
  pub profile : IsProfile n model serial firmware d.profile
  pub limit : 1048576 ≤ n.limit
  pub is : d ≡ new_disk d.profile n.limit

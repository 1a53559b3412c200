-- The numbers that a disk's profile may have (ACS-3, IDENTIFY DEVICE data, words 75, 100 to 103 and 217).
use Rattle.std.specs.Prelude.{ℕ, nat_le, nat_lt, ◌&&◌, Bool, if◌then◌else◌, Result, Ok, Err}
use Rattle.ata_command.specs.Asks.{DiskFacts}
use Rattle.disk_pages.specs.declared.profile.{Profile.Profile, NumberFault.{NumberFault, TheVariants.{Sectors, Depth, Speed}}}

abbrev pub capacity_of : ℕ → Result ℕ NumberFault
capacity_of n = if nat_le 1 n && nat_lt n 0x1000000000000 then Ok n else Err Sectors

abbrev pub depth_of : ℕ → Result ℕ NumberFault
depth_of n = if nat_le 1 n && nat_le n 32 then Ok n else Err Depth

abbrev pub rpm_of : ℕ → Result ℕ NumberFault
rpm_of n = if nat_le 0x401 n && nat_le n 0xFFFE then Ok n else Err Speed

-- word 105: the blocks of ranges that DATA SET MANAGEMENT takes at most
abbrev pub trim_blocks : (trim : Bool) → ℕ
trim_blocks trim = if trim then 8 else 0

-- what the decoder of its commands has to know
abbrev pub facts_of : Profile → DiskFacts
facts_of p = record { sectors = p.capacity; depth = p.depth; trim_blocks = trim_blocks p.trim }

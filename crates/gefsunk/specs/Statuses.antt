-- The number of each answer in C.
use Rattle.std.specs.Prelude.{ℕ, ◌==◌, ◌&&◌, ◌||◌, nat_lt, Bool, not, if◌then◌else◌}
use Rattle.gefsunk.specs.declared.status.Status.{Status}
use Rattle.gefsunk.specs.declared.status.Status.TheVariants as status

abbrev pub status_of : ℕ → Status
status_of n =
    if n == 0 then status.Done
    else if n == 2 then status.Closed
    else if n == 3 then status.Open
    else if n == 4 then status.NoMemory
    else if n == 5 then status.BadPorts
    else if n == 6 then status.NoPort
    else if n == 7 then status.BadLength
    else if n == 8 then status.WrongLength
    else if n == 9 then status.TooShort
    else if n == 10 then status.Nothing
    else if n == 11 then status.Full
    else if n == 12 then status.Dropped
    else if n == 13 then status.AlreadyThere
    else if n == 14 then status.NotThere
    else if n == 15 then status.NoRegister
    else if n == 16 then status.Spent
    else if n == 20 then status.BadWidth
    else if n == 21 then status.BadSectors
    else if n == 22 then status.BadText
    else if n == 23 then status.BadDepth
    else if n == 24 then status.BadRotation
    else if n == 25 then status.BadPhysical
    else if n == 26 then status.BadLimit
    else if n == 27 then status.PluggedIn
    else if n == 28 then status.NotWanted
    else if n == 29 then status.OtherDisk
    else if n == 30 then status.NotOut
    else if n == 31 then status.OtherKind
    else if n == 32 then status.OtherLength
    else if n == 33 then status.OtherSector
    else if n == 34 then status.BadError
    else if n == 35 then status.NotAState
    else if n == 36 then status.OtherVersion
    else status.BadState

-- the numbers that an export answers; 1 is the C side's, and no answer has 17 to 19
abbrev pub is_code : ℕ → Bool
is_code n = nat_lt n 38 && not (n == 1) && (nat_lt n 17 || nat_lt 19 n)

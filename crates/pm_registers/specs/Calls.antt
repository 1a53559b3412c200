-- What holds after any list of calls, by the calls alone (Serial ATA 3.x, 16.4.1: GSCR[32] shows the ports
-- with an error that the mask GSCR[33] lets through; 16.3.4: asynchronous notification).
use Rattle.std.specs.{Prelude.{◌≡◌, ◌≢◌, ℕ, ◌<◌, ◌==◌, ◌↔◌, ◌⊎◌, Bool, true, false, if◌then◌else◌, List, [], ◌∷◌, ◌++◌, All, unwrap_or}, Int.bit_at}
use Rattle.pm_registers.specs.RegisterMap.{RegisterMap, IsSound, port_at, register_at, after_write, after_insert, after_remove, after_raise}
use Rattle.pm_registers.specs.RegisterMap.{after_notice, after_restore}

-- a call that changes the registers
pub data Call : Type 0 where
  -- a write of a value: port, register, value
  Writes : ℕ → ℕ → ℕ → Call
  -- a device comes to this port
  Inserts : ℕ → Call
  -- the device of this port goes
  Removes : ℕ → Call
  -- bits are set in the SError of this port
  Raises : ℕ → ℕ → Call
  -- the notification is made
  Notices : Call
  -- the notification that was made is taken back
  Restores : Call

abbrev pub called : RegisterMap → Call → RegisterMap
called m (Writes port register value) = after_write m port register value
called m (Inserts n) = after_insert m n
called m (Removes n) = after_remove m n
called m (Raises n bits) = after_raise m n bits
called m Notices = after_notice m
called m Restores = after_restore m

-- the registers after these calls, the first call first
unfoldable pub after : RegisterMap → List Call → RegisterMap
after m [] = m
after m (call ∷ calls) = after (called m call) calls

-- the value of a register, 0 where it does not exist
abbrev pub value_at : RegisterMap → ℕ → ℕ → ℕ
value_at m port register = unwrap_or (register_at m port register) 0

-- bit k of a register is set
abbrev pub HasBit : RegisterMap → ℕ → ℕ → ℕ → Type 0
HasBit m port register k = bit_at (value_at m port register) k ≡ 1

-- GSCR[32] has the bit of each device port whose PSCR[1] shares a set bit with GSCR[33], and no other
abbrev pub SummaryAgrees : RegisterMap → Type 0
SummaryAgrees m = (n : ℕ) → HasBit m 15 32 n ↔ ((n < m.ports) × (k : ℕ) × HasBit m n 1 k × HasBit m 15 33 k)

-- the call leaves notifications enabled (GSCR[96] bit 3), and takes a bit of GSCR[32] from 0 to 1
abbrev pub Notifies : RegisterMap → RegisterMap → Type 0
Notifies old new = HasBit new 15 96 3 × (n : ℕ) × (bit_at (value_at old 15 32) n ≡ 0) × HasBit new 15 32 n

-- the call notifies, or takes back a notification that was made
abbrev pub MakesDue : Call → RegisterMap → RegisterMap → Type 0
MakesDue call old new = Notifies old new ⊎ (call ≡ Restores)

-- since the last notification, or since the start, some call made one due
abbrev pub NotifiedSince : RegisterMap → List Call → Type 0
NotifiedSince m calls =
    (before : List Call) × (call : Call) × (since : List Call) × (calls ≡ before ++ call ∷ since)
    × All (λ c. c ≢ Notices) (call ∷ since)
    × MakesDue call (after m before) (after m (before ++ call ∷ []))

-- a bit of a device port's PSCR[1] is cleared only by writing a one to it
abbrev pub ClearedByOnes : RegisterMap → Type 0
ClearedByOnes m =
    (call : Call) (n k : ℕ) → n < m.ports → HasBit m n 1 k → bit_at (value_at (called m call) n 1) k ≡ 0
    → (value : ℕ) × (call ≡ Writes n 1 value) × (bit_at value k ≡ 1)

-- whether a device is present at port n after a call, given whether one was before: only its coming and going
-- change that
abbrev pub device_after : Call → ℕ → Bool → Bool
device_after (Inserts port) n was = if port == n then true else was
device_after (Removes port) n was = if port == n then false else was
device_after call n was = was

-- a call keeps what holds for every map, and has the right devices present
abbrev pub KeepsSound : RegisterMap → Call → Type 0
KeepsSound m call =
    IsSound m → IsSound (called m call)
    × ((n : ℕ) → n < 15 → (port_at (called m call) n).present ≡ device_after call n (port_at m n).present)

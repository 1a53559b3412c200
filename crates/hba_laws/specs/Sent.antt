-- The bytes of a write: Data to a device is what client memory has at the places of the write's PRDs (AHCI
-- 1.3.1, 4.2.3.3, Physical Region Descriptor Table, and 5.3, data transfer; Serial ATA 3.x, 10.5, Data FIS;
-- ACS-3, WRITE FPDMA QUEUED).
use Rattle.std.specs.Prelude.{ℕ, ◌≡◌, ◌≢◌, ◌+◌, ◌-◌, ◌<◌, ◌≤◌, true, false, List, [], ◌∷◌, ◌++◌, length, slice_get, Some}
use Rattle.host_memory.specs.{Place.place, declared.table.Prd.Prd}
use Rattle.slots.specs.Work.{is_read}
use Rattle.hba_laws.specs.{Agreement.AreHistoriesOf, Client.{AreWithin, By, IsReading, Puts, Touches, client, is_in, own}, Delivering.AreSpared}
use Rattle.hba_laws.specs.{Delivering.{HaveTables, IsClient, IsSound, touches_after}, History.{Carried, Transfer, filled, is_set_up, issued}}
use Rattle.hba_laws.specs.{History.next_number, Hosts.{Host, HostEvent, Runs}}

-- this is issued in slot s of device n, and is not a read
pub record IsWriting (n s : ℕ) (t : Transfer) (past : Touches) : Type 0 where
  pub is : issued s (own n past) ≡ Some t
  pub writes : is_read t.work.kind ≡ false

-- ---- Data that goes out

-- these bytes stand in memory at the places of a transfer's bytes, from this number on
abbrev pub StandFrom : (ℕ → ℕ) → List Prd → ℕ → List ℕ → Type 0
StandFrom memory table from bytes =
    (j : ℕ) → j < length bytes → slice_get bytes j ≡ Some (memory (place table (from + j)))

-- Data of a device, if the last setup since the issue of a write is for that write: the bytes stand at the
-- write's places as they go out.
abbrev pub IsGathered : (ℕ → ℕ) → Touches → ℕ → List ℕ → Type 0
IsGathered opening past dev bytes =
    (s : ℕ) (t : Transfer) → IsWriting dev s t past → is_set_up s (own dev past) ≡ true
    → StandFrom (client opening past) t.table (next_number (own dev past)) bytes

-- this held for all Data
abbrev pub AreGathered : (ℕ → ℕ) → Touches → Type 0
AreGathered opening [] = Unit {0}
AreGathered opening (By dev (Carried bytes) ∷ past) =
    IsGathered opening past dev bytes × AreGathered opening past
AreGathered opening (_ ∷ past) = AreGathered opening past

-- ---- what keeps a write's bytes

-- no byte of an issued write has the place of a byte of an issued read
abbrev pub AreBeside : Touches → Type 0
AreBeside past =
    (n s m r i j : ℕ) (t u : Transfer) → IsWriting n s t past → IsReading m r u past
    → i < t.work.len → j < u.work.len → place t.table i ≢ place u.table j

-- bytes that are written avoid the places of issued writes
abbrev pub SparesWrites : ℕ → ℕ → Touches → Type 0
SparesWrites at len past =
    (n s i : ℕ) (t : Transfer) → IsWriting n s t past → i < t.work.len
    → is_in at len (place t.table i) ≡ false

-- what the software keeps: issued writes do not overlap issued reads while Data is received, and its writes
-- avoid their places
abbrev pub HoldsWrites : Touches → Type 0
HoldsWrites [] = Unit {0}
HoldsWrites (Puts at bytes ∷ past) = SparesWrites at (length bytes) past × HoldsWrites past
HoldsWrites (By dev (Carried bytes) ∷ past) = AreBeside past × HoldsWrites past
HoldsWrites (_ ∷ past) = HoldsWrites past

-- ---- laws

-- All Data that fills a write is gathered, after every list of events over which tables stay, whatever
-- devices send.
abbrev pub DataIsGathered : Type 0
DataIsGathered =
    (old new : Host) (events : List HostEvent) (run : Runs old events new)
    → IsSound old new events run → (before : ℕ → ℕ) (past : Touches) → AreHistoriesOf old past
    → HaveTables old past → AreSpared old new events run
    → IsClient before past old → AreGathered before past
    → AreGathered before (touches_after past old new events run)

-- Data was transmitted that had byte i of a write; the byte was b, and stood at its place then.
pub record WasSent (opening : ℕ → ℕ) (past : Touches) (n s i b : ℕ) (t : Transfer) : Type 0 where
  pub later : Touches
  pub bytes : List ℕ
  pub earlier : Touches
  pub are : past ≡ later ++ By n (Carried bytes) ∷ earlier
  pub writing : IsWriting n s t earlier
  pub from : next_number (own n earlier) ≤ i
  pub carries : slice_get bytes (i - next_number (own n earlier)) ≡ Some b
  pub stood : client opening earlier (place t.table i) ≡ b

-- This held for each filled byte of an issued write, whatever the software writes.
abbrev pub SentFromPlace : Type 0
SentFromPlace =
    (opening : ℕ → ℕ) (past : Touches) → AreGathered opening past
    → (n s i b : ℕ) (t : Transfer) → IsWriting n s t past → filled s (own n past) i ≡ Some b
    → WasSent opening past n s i b t

-- While the write is issued and the software leaves its places unchanged, the byte still stands there.
abbrev pub SentStandsInPlace : Type 0
SentStandsInPlace =
    (opening : ℕ → ℕ) (past : Touches) → HoldsWrites past → AreWithin past
    → AreGathered opening past → (n s i b : ℕ) (t : Transfer) → IsWriting n s t past
    → i < t.work.len → filled s (own n past) i ≡ Some b
    → client opening past (place t.table i) ≡ b

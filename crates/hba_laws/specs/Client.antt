-- The client bytes of a host with many devices, and what a completed read finds there (AHCI 1.3.1, 4.2.3.3,
-- Physical Region Descriptor Table, and 5.3, data transfer; Serial ATA 3.x, 10.5, Data FIS).
use Rattle.std.specs.Prelude.{ℕ, ◌≡◌, ◌+◌, ◌-◌, ◌<◌, ◌≤◌, ◌==◌, ◌&&◌, nat_le, nat_lt, Bool, true, false, if◌then◌else◌, List, [], ◌∷◌, length}
use Rattle.std.specs.Prelude.{slice_index, Option, Some, None, MatchOption}
use Rattle.host_memory.specs.Place.{place, written}
use Rattle.slots.specs.{Slots.match_some, Work.is_read}
use Rattle.hba_laws.specs.History.{Event, Carried, Emptied, History, Setup, Transfer, completes, filled, is_set_up, issued, last_setup, next_number}

-- what touches the devices or the client bytes: an event of one device, an event of all devices as ST falls,
-- and bytes that software writes
pub data Touch : Type 0 where
  By : (dev : ℕ) → Event → Touch
  Stops : Touch
  Puts : (at : ℕ) → (bytes : List ℕ) → Touch

-- all of these, the latest first
abbrev pub Touches : Type 0
Touches = List Touch

-- the history of one device
abbrev pub own : ℕ → Touches → History
own n [] = []
own n (By dev e ∷ past) = if dev == n then e ∷ own n past else own n past
own n (Stops ∷ past) = Emptied ∷ own n past
own n (Puts at bytes ∷ past) = own n past

-- ---- client bytes

-- what Data to the host fills if it is received now: a slot, its transfer, and the number of the first byte
pub record Filling : Type 0 where
  pub slot : ℕ
  pub transfer : Transfer
  pub from : ℕ

abbrev pub filling_at : ℕ → Transfer → ℕ → Filling
filling_at slot transfer from = record { slot = slot; transfer = transfer; from = from }

-- the slot that was set up last, if something is issued there and the setup is to the host
abbrev pub filling_by : History → Setup → Option Filling
filling_by past g =
    if g.to_host && is_set_up g.slot past
    then match_some (issued g.slot past) None (λ t. Some (filling_at g.slot t (next_number past)))
    else None

abbrev pub filling : History → Option Filling
filling past = match_some (last_setup past) None (filling_by past)

-- the address is one of len addresses, from at on
abbrev pub is_in : ℕ → ℕ → ℕ → Bool
is_in at len k = nat_le at k && nat_lt k (at + len)

-- The byte of client memory at an address. Each Put and each byte that Data fills changes it, in order;
-- nothing else does.
abbrev pub client : (ℕ → ℕ) → Touches → ℕ → ℕ
client opening [] k = opening k
client opening (Puts at bytes ∷ past) k =
    if is_in at (length bytes) k then slice_index bytes (k - at) else client opening past k
client opening (By dev (Carried bytes) ∷ past) k =
    match_some (filling (own dev past)) (client opening past k)
    (λ f. written f.transfer.table f.from bytes (client opening past) k)
client opening (_ ∷ past) k = client opening past k

-- ---- what keeps a read's bytes

-- this read is issued in slot s of device n
pub record IsReading (n s : ℕ) (t : Transfer) (past : Touches) : Type 0 where
  pub is : issued s (own n past) ≡ Some t
  pub reads : is_read t.work.kind ≡ true

-- two bytes of these reads have the same place, and are not the same byte of the same read
pub record AreOne (n s i m r j : ℕ) : Type 0 where
  pub devices : n ≡ m
  pub slots : s ≡ r
  pub numbers : i ≡ j

-- no two bytes of issued reads have the same place
abbrev pub AreApart : Touches → Type 0
AreApart past =
    (n s m r i j : ℕ) (t u : Transfer) → IsReading n s t past → IsReading m r u past
    → i < t.work.len → j < u.work.len → place t.table i ≡ place u.table j → AreOne n s i m r j

-- bytes that are written avoid the places of issued reads
abbrev pub IsSpared : ℕ → ℕ → Touches → Type 0
IsSpared at len past =
    (n s i : ℕ) (t : Transfer) → IsReading n s t past → i < t.work.len
    → is_in at len (place t.table i) ≡ false

-- what the software keeps: issued reads do not overlap while Data is received, and its writes avoid their
-- places
abbrev pub IsKept : Touches → Type 0
IsKept [] = Unit {0}
IsKept (Puts at bytes ∷ past) = IsSpared at (length bytes) past × IsKept past
IsKept (By dev (Carried bytes) ∷ past) = AreApart past × IsKept past
IsKept (_ ∷ past) = IsKept past

-- what fills a read lies within it
pub record FillsWithin (len : ℕ) (f : Filling) : Type 0 where
  pub fits : f.from + len ≤ f.transfer.work.len
  pub reads : is_read f.transfer.work.kind ≡ true

-- Data of this length fills an issued read within its length, and a read is set up towards the host
pub record IsWithin (past : History) (len : ℕ) : Type 0 where
  pub fills : MatchOption (filling past) (Unit {0}) (FillsWithin len)
  pub way : (g : Setup) (t : Transfer) → last_setup past ≡ Some g → issued g.slot past ≡ Some t
      → is_read t.work.kind ≡ true → is_set_up g.slot past ≡ true → g.to_host ≡ true

-- this holds for all Data
abbrev pub AreWithin : Touches → Type 0
AreWithin [] = Unit {0}
AreWithin (By dev (Carried bytes) ∷ past) = IsWithin (own dev past) (length bytes) × AreWithin past
AreWithin (_ ∷ past) = AreWithin past

-- ---- laws

-- While a read is issued, each byte of it that is filled stands at its place.
abbrev pub StandsInPlace : Type 0
StandsInPlace =
    (opening : ℕ → ℕ) (past : Touches) → IsKept past → AreWithin past → (n s i b : ℕ) (t : Transfer)
    → IsReading n s t past → i < t.work.len → filled s (own n past) i ≡ Some b
    → client opening past (place t.table i) ≡ b

-- a byte of a read is filled with a value, which stands at its place
pub record IsInPlace (opening : ℕ → ℕ) (past : Touches) (n s i : ℕ) (t : Transfer) : Type 0 where
  pub byte : ℕ
  pub is_filled : filled s (own n past) i ≡ Some byte
  pub stands : client opening past (place t.table i) ≡ byte

-- At the event that completes a read, each byte of it is filled and stands at its place.
abbrev pub CompletesInPlace : Type 0
CompletesInPlace =
    (opening : ℕ → ℕ) (past : Touches) (n : ℕ) (e : Event) → IsKept (By n e ∷ past)
    → AreWithin (By n e ∷ past) → (s i : ℕ) (t : Transfer) → IsReading n s t past
    → completes s e (own n past) t.work ≡ true → i < t.work.len
    → IsInPlace opening (By n e ∷ past) n s i t

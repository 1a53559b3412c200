-- The bytes of a Data FIS to a device (Serial ATA 3.x, 46h) come from the guest's memory part by part, from the places of its
-- command's table (AHCI 1.3.1, 4.2.3.3 and 5.3).
use Rattle.std.specs.Prelude.{◌≡◌, ◌≢◌, ℕ, ◌+◌, ◌-◌, ◌<◌, ◌≤◌, ◌==◌, ◌&&◌, Bool, true, false, if◌then◌else◌, is_some, List, [], ◌∷◌, ◌++◌, Option, Some}
use Rattle.std.specs.Prelude.{None, MatchOption, length, replicate, take, drop, slice_get}
use Rattle.fis_view.specs.{Frames.{Stamped, is_frame}, declared.frame.Stamp.Stamp}
use Rattle.guest_fetch.specs.declared.moves.Move.{Move}
use Rattle.ahci_controller.specs.{Feeding.Places, States.ControllerState}
use Rattle.ahci_machine.specs.declared.{gathering.{Feed.Feed, Waits.{Waits, TheVariants.{Asked, Wants, Whole, Nowhere}}}, request.GuestRead.GuestRead}
use Rattle.ahci_machine.specs.declared.request.Wanted.TheVariants.{Data}

pub record GatheringState : Type 0 where
  pub feed : Feed
  -- the FIS, whose bytes after its head have come as far as `done`
  pub bytes : List ℕ
  pub done : ℕ
  -- how many were asked for, and have not come
  pub asked : Option ℕ

abbrev pub host_stamp : ℕ → Stamp
host_stamp dev = record { port = dev; conn = 0; number = 0; shown = replicate 15 0 }

-- none of the bytes has come
abbrev pub opening_gathering : Feed → GatheringState
opening_gathering f = record { feed = f; bytes = 0x46 ∷ f.dev ∷ 0 ∷ 0 ∷ replicate f.len 0; done = 0; asked = None }

-- ---- what it waits for

abbrev pub read_at : GatheringState → Move → GuestRead
read_at g m = record { wanted = Data g.feed.dev g.feed.number g.done; at = m.at; len = m.len }

-- its next bytes lie where the table of the command says, from the first that has not come
pub record Reads (g : GatheringState) (c : ControllerState) (read : GuestRead) : Type 0 where
  pub moves : List Move
  pub first : Move
  pub places : Places c g.feed.slot (g.feed.offset + g.done) (g.feed.len - g.done) (Some moves)
  pub head : slice_get moves 0 ≡ Some first
  pub is : read ≡ read_at g first

-- they have no place: none was supplied for the slot, or the table has none there
pub record IsNowhere (g : GatheringState) (c : ControllerState) : Type 0 where
  pub moves : Option (List Move)
  pub places : Places c g.feed.slot (g.feed.offset + g.done) (g.feed.len - g.done) moves
  pub none : MatchOption moves (Unit {0}) (λ m. m ≡ [])

-- so it is where the numbers are those of a command's bytes
abbrev pub HasNoRead : GatheringState → ControllerState → Type 0
HasNoRead g c = g.feed.slot < 32 → g.done ≤ g.feed.len → g.feed.offset + g.done < 4294967296 → IsNowhere g c

abbrev pub Awaits : GatheringState → ControllerState → Waits → Type 0
Awaits g c Asked = is_some g.asked ≡ true
Awaits g c Whole = (g.asked ≡ None) × (g.done ≡ g.feed.len)
Awaits g c (Wants read) = (g.asked ≡ None) × (g.done ≢ g.feed.len) × Reads g c read
Awaits g c Nowhere = (g.asked ≡ None) × (g.done ≢ g.feed.len) × HasNoRead g c

-- ---- what comes

abbrev pub asked_for : GatheringState → ℕ → GatheringState
asked_for g len = record { feed = g.feed; bytes = g.bytes; done = g.done; asked = Some len }

-- whether bytes were asked for under this number, behind so many
abbrev pub is_asked : GatheringState → (number done : ℕ) → Bool
is_asked g number done = is_some g.asked && (number == g.feed.number && done == g.done)

abbrev pub overwritten : List ℕ → ℕ → List ℕ → List ℕ
overwritten old at bytes = take at old ++ bytes ++ drop (at + length bytes) old

abbrev pub with_part : GatheringState → List ℕ → GatheringState
with_part g part = record {
  feed = g.feed;
  bytes = overwritten g.bytes (4 + g.done) part;
  done = g.done + length part;
  asked = None;
}

-- the bytes that were asked for come, if these are they and the FIS has room for them; else they are not kept
pub record Supplies (old : GatheringState) (number done : ℕ) (part : List ℕ) (kept : Bool) (new : GatheringState) : Type 0 where
  pub other : is_asked old number done ≡ false → kept ≡ false
  pub size : old.asked ≢ Some (length part) → kept ≡ false
  pub comes : is_asked old number done ≡ true → old.asked ≡ Some (length part)
      → 4 + old.done + length part ≤ length old.bytes → kept ≡ true
  pub fits : kept ≡ true → 4 + old.done + length part ≤ length old.bytes
  pub rest : new ≡ (if kept then with_part old part else old)

-- the FIS, if its length is one
abbrev pub frame_of : GatheringState → Option Stamped
frame_of g = if is_frame g.bytes then Some (record { bytes = g.bytes; stamp = host_stamp g.feed.dev }) else None

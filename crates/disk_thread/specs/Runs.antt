-- A device at its port, with the seats of its links, and what a run of it is.
use Rattle.std.specs.{Prelude.{ℕ, ◌≡◌, ◌<◌, ◌≤◌, ◌==◌, ◌&&◌, nat_le, Bool, false, All, IsPermutation, List, ◌++◌, length, Option}, List.flat_map}
use Rattle.std.specs.{List.list_any, Option.option_to_list}
use Rattle.std.proofs.Common.{get_or}
use Rattle.fis_view.specs.Frames.{Stamped}
use Rattle.disk_model.specs.Histories.{Happening, Plan}
use Rattle.ruled_links.specs.Links.{Seat}
use Rattle.multiplier.specs.Orders.{InDeviceOrder, of_connection}
use Rattle.link_items.specs.{OrderLaws.IsAt, declared.items.Presence.{Presence, TheVariants.{Came, Gone}}}
use Rattle.disk_thread.specs.Deeds.{Deed, Standing, never_plugged, after_deeds, history_of, MayAllBeDone, taken_by, given_by, told_by, pulls_in}

pub record StationState (D : Type 0) : Type 0 where
  pub unit : D
  pub port : ℕ
  -- the connection that it has or had last, and whether it is plugged in
  pub standing : Standing
  -- the number of its next FIS
  pub number : ℕ
  -- the link of FISes to it
  pub commands : Seat Stamped
  -- the link of its FISes
  pub frames : Seat Stamped
  -- the link on which its connections come and go
  pub presence : Seat Presence
  -- a FIS of the device that waits for room on its link; it counts as sent
  pub hand : Option Stamped
  -- a connection that came or went, and waits for room on its link
  pub note : Option Presence
  -- the pulls that were not made yet: after how many FISes of the device, on all its connections
  -- together, each is due
  pub left : List ℕ

-- what the device gave so far: all that was sent, and what is in the hand
abbrev pub all_given : {D : Type 0} → StationState D → List Stamped
all_given s = s.frames.sent ++ option_to_list s.hand

-- what was told of the device so far
abbrev pub all_told : {D : Type 0} → StationState D → List Presence
all_told s = s.presence.sent ++ option_to_list s.note

-- these FISes are in a device's order, and the next may have this connection and number
pub record IsCounted (fises : List Stamped) (conn number : ℕ) : Type 0 where
  pub order : InDeviceOrder fises
  pub at : IsAt fises conn number

-- how many of these FISes are of each connection before this one, from 0 on
pub record ArePast (past : List ℕ) (conn : ℕ) (fises : List Stamped) : Type 0 where
  pub long : length past ≡ conn
  pub each : (c other : ℕ) → c < conn → get_or past c other ≡ length (of_connection c fises)

-- whether it was told that connection c came
abbrev pub is_coming : ℕ → Presence → Bool
is_coming c (Came conn) = conn == c
is_coming c (Gone conn) = false

abbrev pub has_come : ℕ → List Presence → Bool
has_come c told = list_any (is_coming c) told

-- the connections that came are those from 1 to this one
pub record AreTold (told : List Presence) (conn : ℕ) : Type 0 where
  pub each : (c : ℕ) → has_come c told ≡ (nat_le 1 c && nat_le c conn)

-- Of the pulls that were due, each after a number of FISes of the device, these were made, each after
-- a number, and these are left once it gave this many. Each pull that was made was due just then, and
-- none that is left is overdue.
pub record KeepsPulls (due made left : List ℕ) (given : ℕ) : Type 0 where
  pub each : IsPermutation due (made ++ left)
  pub none_over : All (λ count. given ≤ count) left

-- A run of the device that was given in, with these pulls due. There is one order of deeds, each of
-- which might be done after those before it, that led to what the station is now. The device stands
-- for its history with these deeds added. The lists of the seats are what was taken, given and told
-- in that order. The device was pulled out exactly when that was due.
pub record IsRun {D : Type 0} (plan_of : D → Plan) (StandsFor : D → List Happening → Type 0)
    (MaySend : Plan → List Happening → List ℕ → Type 0) (due : List ℕ) (opening : D)
    (now : StationState D) : Type 0 where
  pub deeds : List Deed
  pub plan : plan_of now.unit ≡ plan_of opening
  pub stands_for : (history : List Happening) → StandsFor opening history
      → StandsFor now.unit (history ++ history_of never_plugged deeds)
  pub done : (history : List Happening) → StandsFor opening history
      → MayAllBeDone (MaySend (plan_of opening)) now.port never_plugged history deeds
  pub standing : now.standing ≡ after_deeds never_plugged deeds
  pub taken : now.commands.taken ≡ flat_map taken_by deeds
  pub given : all_given now ≡ flat_map given_by deeds
  pub told : all_told now ≡ flat_map told_by deeds
  pub pulls : KeepsPulls due (pulls_in deeds) now.left (length (all_given now))

-- whatever device and pulls the old one was a run of, the new one is a run of the same
abbrev pub GoesOnRunning : {D : Type 0} → (D → Plan) → (D → List Happening → Type 0)
    → (Plan → List Happening → List ℕ → Type 0) → StationState D → StationState D → Type 0
GoesOnRunning plan_of StandsFor MaySend old new =
    (due : List ℕ) (opening : _) → IsRun plan_of StandsFor MaySend due opening old
    → IsRun plan_of StandsFor MaySend due opening new

-- the port and the links are the same
pub record IsAtSamePort {D : Type 0} (old new : StationState D) : Type 0 where
  pub port : new.port ≡ old.port
  pub commands : (new.commands.link ≡ old.commands.link) × (new.commands.room ≡ old.commands.room)
  pub frames : (new.frames.link ≡ old.frames.link) × (new.frames.room ≡ old.frames.room)
  pub presence : (new.presence.link ≡ old.presence.link) × (new.presence.room ≡ old.presence.room)

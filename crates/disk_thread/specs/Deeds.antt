-- What the thread of a device does, deed by deed. The FISes and their stamps are those of the
-- device's links. What happens to the device itself is its history, in the words of that.
use Rattle.std.specs.Prelude.{ℕ, ◌≡◌, ◌+◌, ◌==◌, ◌&&◌, Bool, true, false, if◌then◌else◌, List, [], ◌∷◌, ◌++◌, length, ⊤}
use Rattle.fis_view.specs.Frames.{Stamped}
use Rattle.disk_model.specs.Histories.{Happening, Received, Sent, Plugged}
use Rattle.link_items.specs.declared.items.Presence.{Presence, TheVariants.{Came, Gone}}

pub data Deed : Type 0 where
  -- the device was plugged in, under this connection
  plugged_in : ℕ → Deed
  -- the device was pulled out, and this connection is over
  pulled_out : ℕ → Deed
  -- this FIS of the host was taken
  took : Stamped → Deed
  -- the device gave this FIS
  gave : Stamped → Deed

-- the connection that a device has, or had last (0 before the first), and whether it is plugged in
pub record Standing : Type 0 where
  pub conn : ℕ
  pub plugged : Bool

-- before the first deed
abbrev pub never_plugged : Standing
never_plugged = record { conn = 0; plugged = false }

abbrev pub after_deed : Standing → Deed → Standing
after_deed s (plugged_in c) = record { conn = c; plugged = true }
after_deed s (pulled_out c) = record { conn = s.conn; plugged = false }
after_deed s (took f) = s
after_deed s (gave f) = s

-- whether the device hears this FIS of the host: it is plugged in, under the connection of the FIS
abbrev pub hears : Standing → Stamped → Bool
hears s f = s.plugged && f.stamp.conn == s.conn

-- what the deed means to the device
abbrev pub happens : Standing → Deed → List Happening
happens s (plugged_in c) = Plugged ∷ []
happens s (pulled_out c) = []
happens s (took f) = if hears s f then Received f.bytes ∷ [] else []
happens s (gave f) = Sent f.bytes ∷ []

-- When the device at port n may do a deed. Each connection is one above the last. A device gives a
-- FIS under the connection that it has, and the FIS is one that the device may send.
abbrev pub MayBeDone : (List ℕ → Type 0) → ℕ → Standing → Deed → Type 0
MayBeDone MaySend n s (plugged_in c) = (s.plugged ≡ false) × (c ≡ s.conn + 1)
MayBeDone MaySend n s (pulled_out c) = (s.plugged ≡ true) × (c ≡ s.conn)
MayBeDone MaySend n s (took f) = ⊤
MayBeDone MaySend n s (gave f) =
    (s.plugged ≡ true) × (f.stamp.port ≡ n) × (f.stamp.conn ≡ s.conn) × MaySend f.bytes

-- ---- which links they went over

abbrev pub taken_by : Deed → List Stamped
taken_by (took f) = f ∷ []
taken_by _ = []

abbrev pub given_by : Deed → List Stamped
given_by (gave f) = f ∷ []
given_by _ = []

abbrev pub told_by : Deed → List Presence
told_by (plugged_in c) = Came c ∷ []
told_by (pulled_out c) = Gone c ∷ []
told_by _ = []

-- ---- after how many FISes of the device it was pulled out

-- the count of the deed, if it is a pull after this many FISes
abbrev pub pulled_by : ℕ → Deed → List ℕ
pulled_by given (pulled_out c) = given ∷ []
pulled_by given _ = []

-- ---- many deeds, in one order

unfoldable pub after_deeds : Standing → List Deed → Standing
after_deeds s [] = s
after_deeds s (d ∷ ds) = after_deeds (after_deed s d) ds

unfoldable pub history_of : Standing → List Deed → List Happening
history_of s [] = []
history_of s (d ∷ ds) = happens s d ++ history_of (after_deed s d) ds

-- each may be done after those before it
unfoldable pub MayAllBeDone : (List Happening → List ℕ → Type 0) → ℕ → Standing → List Happening → List Deed
    → Type 0
MayAllBeDone MaySend n s history [] = ⊤
MayAllBeDone MaySend n s history (d ∷ ds) =
    MayBeDone (MaySend history) n s d × MayAllBeDone MaySend n (after_deed s d) (history ++ happens s d) ds

-- each pull of these deeds, if this many FISes were given before them
unfoldable pub pulls_after : ℕ → List Deed → List ℕ
pulls_after given [] = []
pulls_after given (d ∷ ds) = pulled_by given d ++ pulls_after (given + length (given_by d)) ds

-- each pull of all deeds, in their order
abbrev pub pulls_in : List Deed → List ℕ
pulls_in ds = pulls_after 0 ds

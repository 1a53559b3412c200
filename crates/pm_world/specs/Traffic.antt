-- What was sent, what was taken, and what is in between (Serial ATA 3.x, 16.3, port multiplier: frame
-- transmission, PM Port).
use Rattle.std.specs.Prelude.{ℕ, ◌≡◌, ◌≢◌, ◌<◌, ◌≤◌, ◌==◌, ◌&&◌, if◌then◌else◌, Bool, false, true, List, [], ◌∷◌, ◌++◌, length, map, filter, Option}
use Rattle.std.specs.{Prelude.{Some, None, slice_get, option_to_list}, List.flat_map}
use Rattle.fis_view.specs.Frames.{Stamped, marked}
use Rattle.multiplier.specs.{Arbiter.control_port, State.{PmState, port_at}}
use Rattle.pm_ports.specs.Port.{is_gone}
use Rattle.pm_world.specs.{Places.{Places, Place}, declared.step.Answer.Answer}
use Rattle.pm_world.specs.declared.step.Answer.TheVariants as answer

-- the bytes that an answer says were sent on connection c of port n, none or one list
abbrev pub sent_by : ℕ → ℕ → Answer → List (List ℕ)
sent_by n c (answer.Sent port conn number bytes) = if port == n && conn == c then bytes ∷ [] else []
sent_by n c _ = []

-- the same for what was taken
abbrev pub taken_by : ℕ → ℕ → Answer → List (List ℕ)
taken_by n c (answer.Took port conn number bytes report) =
    if port == n && conn == c then bytes ∷ [] else []
taken_by n c _ = []

-- what was sent on connection c of port n, in order
abbrev pub sent : ℕ → ℕ → List Answer → List (List ℕ)
sent n c answers = flat_map (sent_by n c) answers

-- what the host took of it, in order
abbrev pub taken : ℕ → ℕ → List Answer → List (List ℕ)
taken n c answers = flat_map (taken_by n c) answers

-- each list with this PM Port
abbrev pub all_marked : ℕ → List (List ℕ) → List (List ℕ)
all_marked n lists = map (λ bytes. marked bytes n) lists

-- the bytes of the frames that are stamped with this port and connection
abbrev pub stamped : ℕ → ℕ → List Stamped → List (List ℕ)
stamped n c frames =
    map (λ f. f.bytes) (filter (λ f. f.stamp.port == n && f.stamp.conn == c) frames)

-- the bytes of the frames of this connection, if all frames are of one port
abbrev pub of_conn : ℕ → List Stamped → List (List ℕ)
of_conn c frames = map (λ f. f.bytes) (filter (λ f. f.stamp.conn == c) frames)

-- what port n of the multiplier holds on its way up
abbrev pub held : ℕ → PmState → List Stamped
held n pm = option_to_list (port_at pm n).up

-- what is on a device's link
abbrev pub on_link : Option Place → List Stamped
on_link None = []
on_link (Some place) = place.up.frames

-- what waits at port n, oldest first: what it holds, and then the device's link
abbrev pub waiting : ℕ → Places → List Stamped
waiting n places = held n places.multiplier ++ on_link (slice_get places.devices n)

-- what is on its way from connection c of port n to the host, oldest first: first on the host's link,
-- and then at the port, marked
abbrev pub transit : ℕ → ℕ → Places → List (List ℕ)
transit n c places = stamped n c places.upward.frames ++ all_marked n (of_conn c (waiting n places))

-- one list begins another
abbrev pub IsPrefixOf : List (List ℕ) → List (List ℕ) → Type 0
IsPrefixOf front whole = (rest : List (List ℕ)) × (front ++ rest ≡ whole)

-- whether the removal of connection c of port n, or of a later one, is recorded
abbrev pub is_removed : ℕ → ℕ → Places → Bool
is_removed n c places = is_gone (port_at places.multiplier n) c

-- what is on the host's link of connection c of port n
abbrev pub on_host_link : ℕ → ℕ → Places → List (List ℕ)
on_host_link n c places = stamped n c places.upward.frames

-- Nothing is made or put out of order on the way from old to new, and nothing is dropped except what
-- a recorded removal drops. What stood at the beginning counts as sent before it. What the control
-- port, Fh, says is sent by no device.
pub record NothingLost (old : Places) (answers : List Answer) (new : Places) : Type 0 where
  -- what the host took of a connection, and then what is on its way, is what was sent on it, as long
  -- as its removal is not recorded
  pub conserved : (n c : ℕ) → n ≢ control_port → is_removed n c new ≡ false
      → taken n c answers ++ transit n c new ≡ transit n c old ++ all_marked n (sent n c answers)
  -- from then on exactly what is on the host's link still comes
  pub over : (n c : ℕ) → n ≢ control_port → is_removed n c old ≡ true
      → taken n c answers ++ on_host_link n c new ≡ on_host_link n c old
  -- and a removal stays recorded
  pub stays : (n c : ℕ) → is_removed n c old ≡ true → is_removed n c new ≡ true
  -- what the host took, and then what is on its link, is always a prefix of what was sent
  pub arrives : (n c : ℕ) → n ≢ control_port
      → IsPrefixOf (taken n c answers ++ on_host_link n c new)
      (transit n c old ++ all_marked n (sent n c answers))
  -- so what the host took is a prefix, too
  pub prefix : (n c : ℕ) → n ≢ control_port
      → IsPrefixOf (taken n c answers) (transit n c old ++ all_marked n (sent n c answers))

-- whether the host took a frame
abbrev pub is_took : Answer → Bool
is_took (answer.Took port conn number bytes report) = true
is_took _ = false

-- In these answers the host took a frame that was put on its link since old: it took more frames than
-- stood there at old.
abbrev pub TookALater : Places → List Answer → Type 0
TookALater old answers = length old.upward.frames < length (filter is_took answers)

-- After the host saw the removal of a connection, it takes nothing of it, nor of an earlier
-- connection of that port. The host sees the removal by the first frame, of any port, that went up
-- after the removal was recorded.
pub record NothingAfterRemoval (old : Places) (answers : List Answer) : Type 0 where
  pub none : (n c : ℕ) → n ≢ control_port → is_removed n c old ≡ true
      → (first later : List Answer) → first ++ later ≡ answers → TookALater old first
      → (d : ℕ) → 0 < d → d ≤ c → taken n d later ≡ []

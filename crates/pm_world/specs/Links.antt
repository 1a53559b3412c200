-- What goes over the links of a world: from each device to its port, from each port on to the host's
-- link, and off that link; and the same way down (Serial ATA 3.x, 16.3, port multiplier: frame
-- transmission, presence of a device on a port). One definition serves for a link of a world and for
-- a link between two threads: IsLink of ruled_links.
use Rattle.std.specs.Prelude.{ℕ, ◌≡◌, ◌≢◌, ◌≤◌, option_to_list, ◌==◌, if◌then◌else◌, Bool, false, true, not, All, List, [], ◌∷◌, ◌++◌, length, map}
use Rattle.std.specs.{Prelude.{filter, Option, Some, None, slice_get, MatchOption}, List.{flat_map, zip}}
use Rattle.fis_view.specs.Frames.{Stamped}
use Rattle.ruled_links.specs.Links.{IsLink}
use Rattle.multiplier.specs.{Arbiter.control_port, State.{PmState, port_at, rising, stamped}}
use Rattle.pm_ports.specs.Port.{is_gone}
use Rattle.pm_world.specs.{Runs.AfterEveryRun, Downward.{is_down_to, is_passed, is_pushed, is_taken_at, on_down_link, times}}
use Rattle.pm_world.specs.{Places.{Places, Place, nothing_shown}, Traffic.{held, on_link}, declared.{link.Change.Change, step.Answer.Answer}}
use Rattle.pm_world.specs.declared.link.Change.TheVariants as change
use Rattle.pm_world.specs.declared.step.Answer.TheVariants as answer

-- ---- what an answer tells

-- the frame that an answer with these parts tells of
abbrev pub told_frame : (port conn number : ℕ) → List ℕ → Stamped
told_frame port conn number bytes = record {
  bytes = bytes;
  stamp = record { port = port; conn = conn; number = number; shown = nothing_shown };
}

-- all that answers tell of a frame
abbrev pub told_of : Stamped → Stamped
told_of f = told_frame f.stamp.port f.stamp.conn f.stamp.number f.bytes

-- the frame that entered the link of the device at port n, if one did
abbrev pub entered_by : ℕ → Answer → List Stamped
entered_by n (answer.Sent port conn number bytes) =
    if port == n then told_frame port conn number bytes ∷ [] else []
entered_by n _ = []

-- whether a frame left that link
abbrev pub is_offered : ℕ → Answer → Bool
is_offered n (answer.Offered port dropped) = port == n
is_offered n _ = false

-- the change that entered the presence link of that device, if one did
abbrev pub changed_by : ℕ → Answer → List Change
changed_by n (answer.Came port conn) = if port == n then change.Came conn ∷ [] else []
changed_by n (answer.Gone port conn) = if port == n then change.Gone conn ∷ [] else []
changed_by n _ = []

-- whether a change left that link
abbrev pub is_recorded : ℕ → Answer → Bool
is_recorded n (answer.Presence port) = port == n
is_recorded n _ = false

-- whether the frame that left the device's link was dropped
abbrev pub dropped_by : ℕ → Answer → List Bool
dropped_by n (answer.Offered port dropped) = if port == n then dropped ∷ [] else []
dropped_by n _ = []

-- the port from which a frame entered the link to the host, if one did
abbrev pub rose_by : Answer → List ℕ
rose_by (answer.Up port) = port ∷ []
rose_by _ = []

-- the frame that left that link, if one did
abbrev pub took_by : Answer → List Stamped
took_by (answer.Took port conn number bytes report) = told_frame port conn number bytes ∷ []
took_by _ = []

-- whether a frame left the place of port n for the link to its device
abbrev pub is_down : ℕ → Answer → Bool
is_down n (answer.Down port) = port == n
is_down n _ = false

-- ---- what went over the links

-- what is on a device's presence link
abbrev pub on_presence : Option Place → List Change
on_presence None = []
on_presence (Some place) = place.presence.changes

-- the frames of port n
abbrev pub from_port : ℕ → List Stamped → List Stamped
from_port n frames = filter (λ f. f.stamp.port == n) frames

-- The frames without those that were dropped. These answers say for each frame whether it was.
abbrev pub without : List Bool → List Stamped → List Stamped
without drops frames = map (λ p. p.0) (filter (λ p. not p.1) (zip frames drops))

-- What left a place went on, except what was lost there. Each part is in its order, and what was lost
-- is of connections that are removed.
pub record GoesOnBut (pm : PmState) (n : ℕ) (left on lost : List Stamped) : Type 0 where
  pub drops : List Bool
  pub each : length drops ≡ length left
  pub on_is : on ≡ without drops left
  pub lost_is : lost ≡ without (map not drops) left
  pub removed : All (λ f. is_gone (port_at pm n) f.stamp.conn ≡ true) lost

-- What went over the links at port n of a multiplier that is now as given, each with room for this
-- many items, while what its port held became what it holds. What a link held before, and then what
-- entered it, is what left it, and then what it holds.
pub record PortPasses (capacity n : ℕ) (was : Option Place) (held_was : List Stamped)
    (answers : List Answer) (now : Option Place) (pm : PmState) : Type 0 where
  -- what left the device's link, what left the place of the port on the way up, and which part of
  -- that went on and which a removal dropped
  pub passed : List Stamped
  pub left : List Stamped
  pub risen : List Stamped
  pub lost : List Stamped
  -- what left the presence link
  pub recorded : List Change
  pub link : IsLink capacity (on_link was ++ flat_map (entered_by n) answers) passed (on_link now)
  pub passed_is : length passed ≡ times (is_offered n) answers
  -- that place is a link with room for one frame, and what left the device's link entered it, with
  -- the port in its stamp, except what was dropped when it was offered
  pub hold : IsLink 1
      (held_was ++ map (stamped n) (without (flat_map (dropped_by n) answers) passed)) left (held n pm)
  pub goes_on : GoesOnBut pm n left risen lost
  pub presence :
      IsLink capacity (on_presence was ++ flat_map (changed_by n) answers) recorded (on_presence now)
  pub recorded_is : length recorded ≡ times (is_recorded n) answers

-- What went over the link to the host.
pub record HostPasses (capacity : ℕ) (was : List Stamped) (answers : List Answer)
    (now : List Stamped) : Type 0 where
  pub rose : List Stamped
  pub took : List Stamped
  pub link : IsLink capacity (was ++ rose) took now
  pub rose_is : map (λ f. f.stamp.port) rose ≡ flat_map rose_by answers
  pub took_is : map told_of took ≡ flat_map took_by answers

-- what waits in the place of port n on the way down
abbrev pub held_down : ℕ → PmState → List Stamped
held_down n pm = option_to_list (port_at pm n).down

-- What went through the downward place of port n, which is a link with room for one frame, and then
-- over the link to its device, except what a removal dropped in that place.
pub record PortPassesDown (capacity n : ℕ) (was : Option Place) (held_was : List Stamped)
    (answers : List Answer) (now : Option Place) (pm : PmState) : Type 0 where
  pub fell : List Stamped
  pub left : List Stamped
  pub sunk : List Stamped
  pub lost : List Stamped
  pub took : List Stamped
  pub hold : IsLink 1 (held_was ++ fell) left (held_down n pm)
  pub goes_on : GoesOnBut pm n left sunk lost
  pub link : IsLink capacity (on_down_link was ++ sunk) took (on_down_link now)
  pub fell_is : length fell ≡ times (is_down_to n) answers
  pub sunk_is : length sunk ≡ times (is_down n) answers
  pub took_is : length took ≡ times (is_taken_at n) answers

-- What went over the link from the host.
pub record HostPassesDown (capacity : ℕ) (was : List Stamped) (answers : List Answer)
    (now : List Stamped) : Type 0 where
  pub pushed : List Stamped
  pub passed : List Stamped
  pub link : IsLink capacity (was ++ pushed) passed now
  pub pushed_is : length pushed ≡ times is_pushed answers
  pub passed_is : length passed ≡ times is_passed answers

-- What went over all links of a world.
pub record LinksPass (capacity : ℕ) (old : Places) (answers : List Answer)
    (new : Places) : Type 0 where
  pub ports : (n : ℕ) → PortPasses capacity n
      (slice_get old.devices n) (held n old.multiplier) answers
      (slice_get new.devices n) new.multiplier
  pub host : HostPasses capacity old.upward.frames answers new.upward.frames
  -- what entered the link to the host from port n is what went on from the place of that port, marked
  -- with the port, in the same order
  pub rises : (n : ℕ) → n ≢ control_port
      → from_port n host.rose ≡ map (rising n) (ports n).risen
  pub ports_down : (n : ℕ) → PortPassesDown capacity n
      (slice_get old.devices n) (held_down n old.multiplier) answers
      (slice_get new.devices n) new.multiplier
  pub host_down : HostPassesDown capacity old.downward.frames answers new.downward.frames

-- ---- the law

-- the links of a device have room for this many items, and hold no more
pub record HasRoom (capacity : ℕ) (place : Place) : Type 0 where
  pub up : place.up.capacity ≡ capacity
  pub up_within : length place.up.frames ≤ capacity
  pub down : place.down.capacity ≡ capacity
  pub down_within : length place.down.frames ≤ capacity
  pub presence : place.presence.capacity ≡ capacity
  pub presence_within : length place.presence.changes ≤ capacity

-- all links of a world have, too
pub record HaveRoom (capacity : ℕ) (now : Places) : Type 0 where
  pub devices :
      (n : ℕ) → MatchOption (slice_get now.devices n) (Prim.Unit {0}) (HasRoom capacity)
  pub upward : now.upward.capacity ≡ capacity
  pub upward_within : length now.upward.frames ≤ capacity
  pub downward : now.downward.capacity ≡ capacity
  pub downward_within : length now.downward.frames ≤ capacity

-- The links of a world go on as links through steps with these answers.
pub record KeepsLinks (old : Places) (answers : List Answer) (new : Places) : Type 0 where
  -- from any world whose links have room for one number of items
  pub goes_on : (capacity : ℕ) → HaveRoom capacity old
      → LinksPass capacity old answers new × HaveRoom capacity new
  -- that holds from each world that a run from a new one leads to, with the capacity of its
  -- configuration
  pub reached : AfterEveryRun old (λ mode config units before told made.
      LinksPass config.capacity old answers new)

-- What goes down: from the host to the multiplier, and from each of its ports to the device (Serial
-- ATA 3.x, 16.3, port multiplier: frame transmission from a host to a device).
use Rattle.std.specs.Prelude.{ℕ, ◌≡◌, ◌==◌, if◌then◌else◌, Bool, false, true, List, [], ◌++◌, length, drop, take, filter, Option, Some, None}
use Rattle.std.specs.{Prelude.{slice_get, option_to_list}, List.flat_map}
use Rattle.fis_view.specs.Frames.{Stamped}
use Rattle.multiplier.specs.{Passing.{falls, lost_from}, State.{passes_to, port_at}}
use Rattle.pm_ports.specs.Port.{is_gone}
use Rattle.multiplier.specs.declared.multiplier.Passed.TheVariants as passed
use Rattle.pm_world.specs.{Places.{Places, Place}, Rules.Run, Runs.{Telling, over}, declared.{step.Step.Step, step.Answer.Answer}}
use Rattle.pm_world.specs.declared.step.Answer.TheVariants as answer

-- ---- what a step tells

-- the FIS that the host put on its link
abbrev pub pushed_by : Telling Stamped
pushed_by old s answer.Pushed new = drop (length old.downward.frames) new.downward.frames
pushed_by old s _ new = []

-- the FIS that the multiplier took off it
abbrev pub passed_by : Telling Stamped
passed_by old s (answer.Passed p) new = take 1 old.downward.frames
passed_by old s _ new = []

-- the same FIS, if it fell to the device at port n: with PM Port 0 and the port's connection
abbrev pub fell_to : ℕ → Telling Stamped
fell_to n old s (answer.Passed (passed.Down m)) new =
    if m == n then flat_map (falls (passes_to old.multiplier n)) (take 1 old.downward.frames) else []
fell_to n old s _ new = []

-- what is on the link to a device
abbrev pub on_down_link : Option Place → List Stamped
on_down_link None = []
on_down_link (Some place) = place.down.frames

-- the FIS that the device at port n took off its link
abbrev pub disk_took : ℕ → Telling Stamped
disk_took n old s (answer.DiskTook p dropped) new =
    if p == n then take 1 (on_down_link (slice_get old.devices n)) else []
disk_took n old s _ new = []

-- what waited at port n for its device and was dropped, because the removal of its connection was
-- recorded
abbrev pub lost_at : ℕ → Telling Stamped
lost_at n old s (answer.Presence p) new =
    if p == n then option_to_list
    (lost_from (port_at old.multiplier n).down (port_at new.multiplier n).down)
    else []
lost_at n old s _ new = []

abbrev pub is_pushed : Answer → Bool
is_pushed answer.Pushed = true
is_pushed _ = false

abbrev pub is_passed : Answer → Bool
is_passed (answer.Passed p) = true
is_passed _ = false

abbrev pub is_down_to : ℕ → Answer → Bool
is_down_to n (answer.Passed (passed.Down m)) = m == n
is_down_to n _ = false

abbrev pub is_taken_at : ℕ → Answer → Bool
is_taken_at n (answer.DiskTook p dropped) = p == n
is_taken_at n _ = false

-- how many of these answers say so
abbrev pub times : (Answer → Bool) → List Answer → ℕ
times says answers = length (filter says answers)

-- ---- over a run

-- what is on its way from port n to its device, oldest first: on the device's link, and then at the
-- port
abbrev pub falling_to : ℕ → Places → List Stamped
falling_to n places =
    on_down_link (slice_get places.devices n) ++ option_to_list (port_at places.multiplier n).down

-- the frames of connection c
abbrev pub of_connection : ℕ → List Stamped → List Stamped
of_connection c frames = filter (λ f. f.stamp.conn == c) frames

-- Nothing is made or put out of order on the way down, and nothing is dropped except by recorded
-- removals. What stood at the beginning counts as pushed and passed before it.
pub record NothingLostDown (old : Places) (steps : List Step) (answers : List Answer)
    (new : Places) (run : Run old steps answers new) : Type 0 where
  -- what the multiplier took off the host's link, and then what is on it, is what the host put on
  -- it: one FIS for each answer that says so
  pub host : over passed_by old steps answers new run ++ new.downward.frames
      ≡ old.downward.frames ++ over pushed_by old steps answers new run
  pub pushed : length (over pushed_by old steps answers new run) ≡ times is_pushed answers
  pub passed : length (over passed_by old steps answers new run) ≡ times is_passed answers
  -- what the device at port n took, and then what is on its way to it, is what was passed down to the
  -- port, if no removal dropped any of it: one FIS for each answer that says so
  pub ports : (n : ℕ) → over (lost_at n) old steps answers new run ≡ []
      → over (disk_took n) old steps answers new run ++ falling_to n new
      ≡ falling_to n old ++ over (fell_to n) old steps answers new run
  -- for each connection, what removals dropped is missing, and nothing else
  pub each : (n c : ℕ)
      → of_connection c (over (disk_took n) old steps answers new run ++ falling_to n new
      ++ over (lost_at n) old steps answers new run)
      ≡ of_connection c (falling_to n old ++ over (fell_to n) old steps answers new run)
  -- nothing is dropped of a connection that is not removed
  pub kept : (n c : ℕ) → is_gone (port_at new.multiplier n) c ≡ false
      → of_connection c (over (lost_at n) old steps answers new run) ≡ []
  pub fell : (n : ℕ) → length (over (fell_to n) old steps answers new run)
      ≡ times (is_down_to n) answers
  pub took : (n : ℕ) → length (over (disk_took n) old steps answers new run)
      ≡ times (is_taken_at n) answers

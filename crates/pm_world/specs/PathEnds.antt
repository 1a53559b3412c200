-- The two ends of a disk's link in a world: what a disk and the host did at their ends, and what is
-- on its way between them, over the multiplier and its links (Serial ATA 3.x, 16.3, port
-- multiplier: frame transmission, PM Port).
use Rattle.std.specs.Prelude.{ℕ, ◌≡◌, ◌<◌, ◌==◌, ◌⊎◌, if◌then◌else◌, Bool, true, false, List, [], ◌∷◌, ◌++◌, drop, length, map, take, MatchBool}
use Rattle.std.specs.{Prelude.{MatchOption, slice_get}, List.flat_map}
use Rattle.fis_view.specs.Frames.{Stamped, marked}
use Rattle.multiplier.specs.State.{pm_port, port_at}
use Rattle.disk_model.specs.Histories.{Happening, Plugged, Received, Sent}
use Rattle.pm_world.specs.{Downward.{falling_to, of_connection, on_down_link}, Places.Places, Links.on_presence}
use Rattle.pm_world.specs.{Traffic.{is_removed, on_host_link, transit}, declared.{link.Change.Change, step.Step.Step, step.Answer.Answer}}
use Rattle.pm_world.specs.declared.link.Change.TheVariants as change
use Rattle.pm_world.specs.declared.step.Step.TheVariants as step
use Rattle.pm_world.specs.declared.step.Answer.TheVariants as answer

-- ---- what is on its way

-- some of a list, in the same order
abbrev pub AreAmong : List (List ℕ) → List (List ℕ) → Type 0
AreAmong [] ys = Unit {0}
AreAmong (x ∷ xs) [] = ⊥
AreAmong (x ∷ xs) (y ∷ ys) = ((x ≡ y) × AreAmong xs ys) ⊎ AreAmong (x ∷ xs) ys

-- a frame of the host for port n, as the device gets it: with PM Port 0
abbrev pub for_port : ℕ → Stamped → List (List ℕ)
for_port n frame = if pm_port frame == n then marked frame.bytes 0 ∷ [] else []

-- what is on its way to the device at port n, oldest first: on its link, at the port, and on the
-- host's link
abbrev pub descending : ℕ → Places → List (List ℕ)
descending n now =
    map (λ f. f.bytes) (falling_to n now) ++ flat_map (for_port n) now.downward.frames

-- what the device may take of it on connection c: not what fell for another connection, which the
-- device drops
abbrev pub descending_on : (n c : ℕ) → Places → List (List ℕ)
descending_on n c now =
    map (λ f. f.bytes) (of_connection c (falling_to n now))
    ++ flat_map (for_port n) now.downward.frames

-- ---- what happens at the ends

-- what an answer tells of the unit at port n
abbrev pub befalls : ℕ → Places → Answer → List Happening
befalls n old (answer.Came port conn) = if port == n then Plugged ∷ [] else []
befalls n old (answer.DiskTook port false) =
    if port == n
    then map (λ frame. Received frame.bytes) (take 1 (on_down_link (slice_get old.devices n)))
    else []
befalls n old (answer.Sent port conn number bytes) = if port == n then Sent bytes ∷ [] else []
befalls n old a = []

-- what it tells of the host's end: a FIS that came has the port as its mark, and a FIS that was given
-- is as the device gets it
abbrev pub IsAtHost : ℕ → Places → Answer → Places → List Happening → Type 0
IsAtHost n old (answer.Took port conn number bytes report) new heard =
    MatchBool (port == n)
    ((plain : List ℕ) × (heard ≡ Sent plain ∷ []) × (bytes ≡ marked plain n)) (heard ≡ [])
IsAtHost n old answer.Pushed new heard =
    heard ≡ map (λ bytes. Received bytes)
    (flat_map (for_port n) (drop (length old.downward.frames) new.downward.frames))
IsAtHost n old a new heard = heard ≡ []

-- ---- removals

-- the change removes neither this connection nor a later one
abbrev pub IsBefore : ℕ → Change → Type 0
IsBefore c (change.Came conn) = Unit {0}
IsBefore c (change.Gone conn) = conn < c

abbrev pub AreBefore : ℕ → List Change → Type 0
AreBefore c [] = Unit {0}
AreBefore c (x ∷ xs) = IsBefore c x × AreBefore c xs

-- no removal of connection c of port n, or of a later one, is recorded or on its way to be
pub record IsUnremoved (n c : ℕ) (now : Places) : Type 0 where
  pub recorded : (port_at now.multiplier n).gone < c
  pub posted : AreBefore c (on_presence (slice_get now.devices n))

-- nothing of a connection is on its way to the host; what waits at the port may be what a recorded
-- removal will drop
abbrev pub IsAway : (n c : ℕ) → Places → Type 0
IsAway n c now =
    (on_host_link n c now ≡ []) × (is_removed n c now ≡ false → transit n c now ≡ [])

-- ---- the unit

-- if a unit is plugged in at port n, it is as connection c
abbrev pub IsOnly : (n c : ℕ) → Places → Type 0
IsOnly n c now = MatchOption (slice_get now.devices n) (Unit {0})
    (λ place. place.plugged ≡ true → place.conn ≡ c)

-- the step injects at port n
abbrev pub injects : ℕ → Step → Bool
injects n (step.Inject m bytes) = m == n
injects n s = false

-- the step unplugs the unit at port n
abbrev pub unplugs : ℕ → Step → Bool
unplugs n (step.Gone m) = m == n
unplugs n s = false

-- the unit at port n is plugged in, as connection c
abbrev pub IsThere : (n c : ℕ) → Places → Type 0
IsThere n c now = MatchOption (slice_get now.devices n) ⊥
    (λ place. (place.plugged ≡ true) × (place.conn ≡ c))

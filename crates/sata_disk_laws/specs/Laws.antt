-- The laws over every run of a new disk: whatever FISes come, whatever is answered, in whatever order.
use Rattle.std.specs.Prelude.{ℕ, ◌≡◌, ◌<◌, ◌≤◌, ◌^◌, ◌⊎◌, true, false, List, [], map, Some, None, is_none}
use Rattle.block_disk.specs.{Table.is_under_way, Requests.{AreSeenRightly, Rises, Seen, no_books, none_queued, numbers_given, seen_by}}
use Rattle.block_command.specs.Moments.{Moment}
use Rattle.block_queue.specs.{Line.{Line, command_at, orphan}, Deeds.{AllAreApart, AreNamed, Goes, act_of, waits_for_caller, waits_for_host}}
use Rattle.block_scheduler.specs.Laws.{deeds_in}
use Rattle.block_engine.specs.{Engine.{AsksNothing, IsEngineStart, discards}, Laws.{IsStill, Step, moves_in, shown_in}}
use Rattle.disk_pages.specs.declared.profile.Profile.{Profile}
use Rattle.sata_disk.specs.{State.{DiskState, commands, new_disk}, Sending.IsOut}
use Rattle.sata_disk_laws.specs.Calls.{AreCalls, Call, after_calls, all_steps}

-- what a run does to the engine
abbrev pub steps_in : Profile → (limit : ℕ) → List Call → List Step
steps_in p limit calls = all_steps (new_disk p limit) calls

-- what a run shows of the commands that move sectors
abbrev pub seen_in : Profile → (limit : ℕ) → List Call → List Seen
seen_in p limit calls = shown_in limit (steps_in p limit calls)

-- it holds of what each run shows
abbrev pub OfEachRun : (List Seen → Type 0) → Type 0
OfEachRun holds = (p : Profile) (limit : ℕ) (calls : List Call) → AreCalls (new_disk p limit) calls → holds (seen_in p limit calls)

abbrev pub EndsAreEarned : Type 0
EndsAreEarned = OfEachRun (AreSeenRightly no_books)

abbrev pub RequestsAreApart : Type 0
RequestsAreApart = OfEachRun (AllAreApart [])

abbrev pub NumbersAreFresh : Type 0
NumbersAreFresh = (p : Profile) (limit : ℕ) (calls : List Call)
    → (seen_in p limit calls ≡ seen_by none_queued (map act_of (deeds_in limit (moves_in limit (steps_in p limit calls)))))
    × Rises 0 (numbers_given none_queued (map act_of (deeds_in limit (moves_in limit (steps_in p limit calls)))))

-- the disk after a run
abbrev pub reached : Profile → (limit : ℕ) → List Call → DiskState
reached p limit calls = after_calls (new_disk p limit) calls

abbrev pub DiscardsAreAlone : Type 0
DiscardsAreAlone = (p : Profile) (limit : ℕ) (calls : List Call) → AreCalls (new_disk p limit) calls
    → discards (reached p limit calls).engine ≡ true → IsStill (commands (reached p limit calls))

-- While a command is under way and none starts next, the caller owes the answer of a discard, or a FIS may be sent, or a request is
-- to be asked, or the caller or the host owes something.
abbrev pub SomethingMoves : Type 0
SomethingMoves = (p : Profile) (limit : ℕ) (calls : List Call) (place : ℕ) → AreCalls (new_disk p limit) calls → 1048576 ≤ limit → place < 33
    → is_under_way (command_at (commands (reached p limit calls)) place) ≡ true
    → IsEngineStart (reached p limit calls).engine None
    → (discards (reached p limit calls).engine ≡ true) ⊎ Goes (commands (reached p limit calls))

-- each Data FIS of a queued command, both ways, and each of its DMA Activate FISes is of the command that the last DMA Setup FIS named
abbrev pub DataAreNamed : Type 0
DataAreNamed = OfEachRun (AreNamed None)

-- ## Silence

-- somebody else is to do something: the caller owes the answer to a request, or to a store that a reset dropped, or the host owes Data
pub data Owed (l : Line) : Type 0 where
  ByCaller : (p : ℕ) (m : Moment) → p < 33 → command_at l p ≡ Some m → waits_for_caller m.stage ≡ true → Owed l
  ByHost : (p : ℕ) (m : Moment) → p < 33 → command_at l p ≡ Some m → waits_for_host m.stage ≡ true → Owed l
  OfStore : (p : ℕ) → p < 33 → is_none (orphan l p) ≡ false → Owed l

-- none starts, no FIS goes and nothing is asked: what `start_next`, `next_out` and `next_request` answer
pub record IsSilent (d : DiskState) : Type 0 where
  pub start : IsEngineStart d.engine None
  pub out : IsOut d None
  pub request : AsksNothing d.engine
  -- fewer than 2^63 requests were asked
  pub fresh : (commands d).queue.next < 2 ^ 63

-- A disk is silent over a command only where the caller owes the answer of a discard, or somebody else owes something.
abbrev pub SilenceIsOwed : Type 0
SilenceIsOwed = (p : Profile) (limit : ℕ) (calls : List Call) (place : ℕ) → AreCalls (new_disk p limit) calls → 1048576 ≤ limit → place < 33
    → is_under_way (command_at (commands (reached p limit calls)) place) ≡ true → IsSilent (reached p limit calls)
    → (discards (reached p limit calls).engine ≡ true) ⊎ Owed (commands (reached p limit calls))

-- Isolation of the devices, on runs of the world. Over steps in which nothing happens to the host
-- port as a whole, what belongs to a device is the fold of its own events alone, whatever the others
-- send, fail or lose (AHCI 1.3.1, chapter 9, FIS-based Switching). The same holds for bytes: its history,
-- and so what each byte of its slots is filled with.
--
-- Cited: the turns of the host in a run (specs/Turns.antt) and the runs that lead to a world
-- (specs/Runs.antt); the events of turns, AreEvents and TurnsTell of `hba_driver`
-- (specs/Events.antt); and from `hba_laws` (specs/Parts.antt, Isolation.antt) what belongs to a
-- device, its own events, their fold and the events of the port as a whole, and (specs/Delivering.antt,
-- Alike.antt) its history and the history by its own events.
use Rattle.std.specs.Prelude.{ℕ, ◌≡◌, ◌<◌, List}
use Rattle.hba_driver.specs.{Events.{AreEvents, TurnsTell, events_over, shared_by}, HostTurns.{DoesAll, Host, HostTurn}}
use Rattle.hba_laws.specs.{Alike.{brought_over, history_by}, Delivering.history_after, History.History}
use Rattle.hba_laws.specs.{Isolation.{AreOfDevices, own_over, part_after_all}, Parts.part_of}
use Rattle.pm_world.specs.{Places.Places, Rules.Run, Runs.{AfterEveryRun, over}, Turns.turn_of, declared.{step.Step.Step, step.Answer.Answer}}

-- what belongs to each device is the fold of its own events among these turns
abbrev pub AreFoldsOfOwn : (old : Host) (turns : List HostTurn) (new : Host) (does : DoesAll old turns new)
    → AreEvents old new turns does → Type 0
AreFoldsOfOwn old turns new does e =
    (n : ℕ) → n < 16
    → part_of n (shared_by new) ≡ part_after_all n (part_of n (shared_by old))
    (own_over n (shared_by old) (shared_by new) (events_over old new turns does) e.runs)

-- the history of each device is that of its own events among these turns, the PRDs of the commands
-- issued for it and the bytes transmitted to it
abbrev pub AreHistoriesOfOwn : (old : Host) (turns : List HostTurn) (new : Host) (does : DoesAll old turns new)
    → AreEvents old new turns does → Type 0
AreHistoriesOfOwn old turns new does e =
    (n : ℕ) → n < 16 → (past : History)
    → history_after n past (shared_by old) (shared_by new) (events_over old new turns does) e.runs
    ≡ history_by n (part_of n (shared_by old)) past
    (brought_over n (shared_by old) (shared_by new) (events_over old new turns does) e.runs)

-- The turns are events of port and memory, in which the frames that are taken and given are those of
-- the turns. If each of these events is one of devices, what belongs to each device is the fold of
-- its own, and its history that of its own.
pub record AreIsolated (old : Host) (turns : List HostTurn) (new : Host) (does : DoesAll old turns new)
    : Type 0 where
  pub events : AreEvents old new turns does
  pub frames : TurnsTell old new turns does
  pub fold : (e : AreEvents old new turns does)
      → AreOfDevices (shared_by old) (shared_by new) (events_over old new turns does) e.runs
      → AreFoldsOfOwn old turns new does e
  pub bytes : (e : AreEvents old new turns does)
      → AreOfDevices (shared_by old) (shared_by new) (events_over old new turns does) e.runs
      → AreHistoriesOfOwn old turns new does e

-- That holds over these steps, from each world that a run from a new one leads to.
pub record Isolates (old : Places) (steps : List Step) (answers : List Answer) (new : Places)
    (run : Run old steps answers new) : Type 0 where
  pub isolated : AfterEveryRun old (λ mode config units before told made.
      (does : DoesAll old.host (over turn_of old steps answers new run) new.host)
      → AreIsolated old.host (over turn_of old steps answers new run) new.host does)

-- Done is true: a request that ends as Done, and so one that is polled as Done, was completed by its own
-- device, after the tick that issued it and before the tick that ended it (AHCI 1.3.1, 5.3 and 9.3; Serial
-- ATA 3.x, 10.5; native command queuing).
--
-- Cited: the turns of the host and their tickets (specs/HostTurns.antt). DoneIsCompleted of `hba_laws`
-- (specs/Delivering.antt) says that the device named exactly the slots that a report names as done.
use Rattle.std.specs.{Prelude.{ℕ, ◌≡◌, ◌==◌, ◌&&◌, ◌||◌, Bool, true, false, List, [], ◌∷◌, Some}, List.list_any}
use Rattle.host_memory.specs.Memory.{IsHostMemory, Memory}
use Rattle.slots.specs.Slots.{has_bit}
use Rattle.hba_fbs.specs.Taking.{port_of}
use Rattle.hba_driver.specs.declared.{mode.Mode.Mode, request.Completion.Completion, request.Outcome.TheVariants.Done, slot.Phase.TheVariants.Ended}
use Rattle.hba_driver.specs.{Drivers.{Entry, entry_at}, Events.opening_host_in}
use Rattle.hba_driver.specs.HostTurns.{Does, DoesAll, Host, HostTurn, Took, Ticked, Submitted, Polled, issued_by}

-- a request for this device is taken under this ticket
abbrev pub takes : (ticket dev : ℕ) → HostTurn → Bool
takes ticket dev (Submitted other request given) = (given == ticket) && (other == dev)
takes ticket dev turn = false

-- a tick issues this ticket
abbrev pub issues : (ticket : ℕ) → Host → HostTurn → Bool
issues ticket old turn = list_any (λ other. other == ticket) (issued_by old turn)

-- a frame of this device is taken, and its report says that the command of the slot is done
abbrev pub completes : (slot dev : ℕ) → HostTurn → Bool
completes slot dev (Took frame report) = has_bit report.done slot && (port_of frame == dev)
completes slot dev turn = false

-- in these turns a tick issues the ticket, and such a frame is taken after it
abbrev pub is_completed : (ticket slot dev : ℕ) (old new : Host) (turns : List HostTurn)
    → DoesAll old turns new → Bool
is_completed ticket slot dev old new [] run = false
is_completed ticket slot dev old new (turn ∷ turns) run =
    (issues ticket old turn && list_any (completes slot dev) turns)
    || is_completed ticket slot dev run.0 new turns run.2

-- the request of a ticket, in its slot, and the device for which it was taken and which completed it
pub record WasCompleted (ticket slot : ℕ) (old new : Host) (turns : List HostTurn)
    (run : DoesAll old turns new) : Type 0 where
  pub dev : ℕ
  pub taken : list_any (takes ticket dev) turns ≡ true
  pub completed : is_completed ticket slot dev old new turns run ≡ true

-- in each mode
pub record DoneIsTrue : Type 0 where
  -- after a tick: what is there as Done was completed in the turns before the tick
  pub ends : (mode : Mode) (given : ℕ) (start : Memory) → IsHostMemory start → (turns : List HostTurn) (h : Host)
      (run : DoesAll (opening_host_in mode given start) turns h) (acted : Bool) (after : Host)
      → Does h (Ticked acted) after
      → (s : ℕ) (e : Entry) → entry_at after.driver.entries s ≡ Some e → e.head.phase ≡ Ended Done
      → is_completed e.head.ticket s e.head.dev (opening_host_in mode given start) h turns run ≡ true
  -- at a poll: what is polled as Done was completed by the device for which it was taken
  pub polled : (mode : Mode) (given : ℕ) (start : Memory) → IsHostMemory start → (turns : List HostTurn) (h : Host)
      (run : DoesAll (opening_host_in mode given start) turns h) (completion : Completion) (after : Host)
      → Does h (Polled completion) after → completion.outcome ≡ Done
      → WasCompleted completion.ticket.0 completion.slot (opening_host_in mode given start) h turns run

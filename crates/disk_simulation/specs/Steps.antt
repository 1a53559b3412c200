-- What three further FISes of the command whose data moves leave of each queued command: a DMA Setup, a DMA
-- Activate and Data (Serial ATA 3.x, 10.5, FIS types, and 13.6, native command queuing).
use Rattle.std.specs.Prelude.{ℕ, ◌≡◌, ◌+◌, ◌*◌, ◌≤◌, Bool, List, ◌∷◌, Some}
use Rattle.disk_model.specs.{Ends.IsAskedFor, Laws.{CarriesNext, bytes_named}, Ledger.{Ledger, Moving, activates, sends_data, sets_up, takes_data}}
use Rattle.hba_laws.specs.History.{Carried, History, SetUp}
use Rattle.disk_simulation.specs.Same.{InLife, SlotCommand}

-- another DMA Setup of the command whose data moves, for more of its bytes
abbrev pub SetupsGoOn : Type 0
SetupsGoOn = (s offset count : ℕ) (to_host : Bool) (c : SlotCommand) (v : Moving) (past : History)
    (k : Ledger) → k.moving ≡ Some v
    → c.command.tag ≡ s → offset + count ≤ 512 * v.command.count → InLife s c past k
    → InLife s c (SetUp v.command.tag offset count to_host ∷ past)
    (sets_up k k.moving v.command.tag offset count)

-- a DMA Activate, while the bytes that the last DMA Setup names are still to come: it is no event of the
-- host's history
abbrev pub ActivatesKeep : Type 0
ActivatesKeep = (s : ℕ) (c : SlotCommand) (v : Moving) (past : History) (k : Ledger) → k.moving ≡ Some v
    → c.command.tag ≡ s
    → v.moved + v.count ≡ bytes_named v.setups → InLife s c past k
    → InLife s c past (activates k k.moving)

-- Data of a read, as long as its DMA Setup says: the command goes on, or ends with exactly the bytes that the
-- host has
abbrev pub DataUp : Type 0
DataUp = (s : ℕ) (c : SlotCommand) (v : Moving) (bytes : List ℕ) (past : History) (k : Ledger)
    → k.moving ≡ Some v → c.command.tag ≡ s
    → CarriesNext v bytes → InLife s c past k
    → InLife s c (Carried bytes ∷ past) (sends_data k k.moving bytes)

-- Data of a write, all that was asked for
abbrev pub DataDown : Type 0
DataDown = (s : ℕ) (c : SlotCommand) (v : Moving) (bytes : List ℕ) (past : History) (k : Ledger)
    → k.moving ≡ Some v → c.command.tag ≡ s
    → IsAskedFor v bytes → InLife s c past k
    → InLife s c (Carried bytes ∷ past) (takes_data k k.moving bytes)

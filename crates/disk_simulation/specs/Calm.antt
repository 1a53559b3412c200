-- Events at a host port between two FISes of a device: each belongs to another device or to none, or issues
-- commands for this one (AHCI 1.3.1, 3.3.14, PxCI, and chapter 9, FIS-based Switching).
use Rattle.std.specs.Prelude.{ℕ, ◌≡◌, ◌<◌, ◌⊎◌, List, [], ◌∷◌, None}
use Rattle.hba_fbs.specs.{declared.register.Register.{Register, TheVariants.Ci}, Issuing.{aimed, asked}}
use Rattle.disk_model.specs.{Histories.Happening, Ledger.{Ledger, ledger}}
use Rattle.hba_laws.specs.{Delivering.history_after, History.History, Hosts.{Host, HostEvent, Runs, Wrote}, Sound.AreHosts}
use Rattle.disk_simulation.specs.{Elsewhere.IsElsewhere, Hosted.IsHosted, Joined.AreCounted, Same.SlotCommand}

-- A write of PxCI issues commands for the device. The new map names them, by what the ledger tells at that
-- time.
abbrev pub WritesIssues : ℕ → Ledger → Host → (ℕ → SlotCommand) → Register → ℕ
    → (ℕ → SlotCommand) → Type 0
WritesIssues n k host commands Ci value next =
    (aimed host.port.registers host.memory.structure value ≡ n) × ((s : ℕ) → (next s).command.tag ≡ s)
    × ((s : ℕ) → asked host.port.registers host.memory value s ≡ None → next s ≡ commands s)
    × AreCounted (asked host.port.registers host.memory value) next k
WritesIssues n k host commands register value next = ⊥

abbrev pub IssuesFor : ℕ → Ledger → Host → (ℕ → SlotCommand) → HostEvent → (ℕ → SlotCommand)
    → Type 0
IssuesFor n k host commands (Wrote register value) next =
    WritesIssues n k host commands register value next
IssuesFor n k host commands event next = ⊥

-- the event does not concern the device, or issues commands for it
abbrev pub IsCalm : ℕ → Ledger → Host → (ℕ → SlotCommand) → HostEvent → (ℕ → SlotCommand) → Type 0
IsCalm n k host commands event next =
    (IsElsewhere n host event × (next ≡ commands)) ⊎ IssuesFor n k host commands event next

-- this holds for each event of a run
abbrev pub AreCalm : ℕ → Ledger → (ℕ → SlotCommand) → (old new : Host) → (events : List HostEvent)
    → Runs old events new → (ℕ → SlotCommand) → Type 0
AreCalm n k commands old new [] run next = next ≡ commands
AreCalm n k commands old new (event ∷ events) run next =
    (mid : ℕ → SlotCommand) × IsCalm n k old commands event mid
    × AreCalm n k mid run.0 new events run.2 next

-- what a host has of a device after such events, with the device's history over them
abbrev pub CalmRunsKeep : Type 0
CalmRunsKeep =
    (n : ℕ) (old new : Host) (events : List HostEvent) (run : Runs old events new)
    (given : List Happening) (commands next : ℕ → SlotCommand) (past : History)
    → n < 15 → AreHosts old new events run → AreCalm n (ledger given) commands old new events run next
    → IsHosted n old given commands past
    → IsHosted n new given next (history_after n past old new events run)

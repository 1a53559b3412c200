-- The command of each queued request of a disk, and when the driver asks the disk for anything (ACS-3, READ
-- and WRITE FPDMA QUEUED; Serial ATA 3.x, 10.5.6, signatures, and 13.6, native command queuing).
use Rattle.std.specs.Prelude.{ℕ, ◌≡◌, ◌≢◌, Bool, true, false, List, [], ◌∷◌, Some}
use Rattle.disk_model.specs.{declared.request.Command.Command, Histories.Happening, Ledger.{Signs, ledger}}
use Rattle.hba_laws.specs.{Client.{Touches, own}, History.{Transfer, issued}}
use Rattle.disk_simulation.specs.Same.{SlotCommand}
use Rattle.hba_driver.specs.{declared.request.Work.Work, Drivers.{Driver, Entry, entry_at}, HostTurns.Host, Orders.is_queued}
use Rattle.hba_driver.specs.Steady.{HasSignature, IsAskedOf}
use Rattle.hba_driver.specs.declared.request.Work.TheVariants as work

-- ---- requests

abbrev pub is_write : Work → Bool
is_write work.Read = false
is_write work.Write = true
is_write work.Flush = false

-- the queued command that a request asks for, in its slot
abbrev pub command_of : (slot : ℕ) → Entry → Command
command_of slot e = record {
  write = is_write e.head.work;
  tag = slot;
  lba = e.head.lba;
  count = e.head.sectors;
}

-- the command of a slot is that of the queued request issued there
abbrev pub AreNamed : ℕ → Driver → (ℕ → SlotCommand) → Touches → Type 0
AreNamed n d commands touches =
    (s : ℕ) (t : Transfer) (e : Entry) → issued s (own n touches) ≡ Some t
    → entry_at d.entries s ≡ Some e → is_queued e.head.work ≡ true
    → (commands s).command ≡ command_of s e

-- ---- signatures

-- the device has signed, by what it gave since it was plugged in
abbrev pub HasSigned : List Happening → Type 0
HasSigned given = (ledger given).awaited ≢ Signs ∷ []

-- the device is asked for something only after it has signed
abbrev pub IsAskedSigned : ℕ → Host → List Happening → Type 0
IsAskedSigned n h given = IsAskedOf n h.driver.plan → HasSigned given

-- its row of the received area shows a signature only after it has signed
abbrev pub IsRowSigned : ℕ → Host → List Happening → Type 0
IsRowSigned n h given = HasSignature n h → HasSigned given

-- The pages that a disk has of itself (IDENTIFY DEVICE, READ LOG EXT, SMART READ DATA) go for the command that was heard behind all that were
-- answered, and none goes for one that moves sectors (ACS-3, 4, PIO and DMA data-in protocols; Serial ATA 3.x, 10.5, Data).
use Rattle.std.specs.Prelude.{ℕ, ◌≡◌, true, List, ◌∷◌, ◌++◌, Some}
use Rattle.ata_front.specs.declared.task.Page.{Page}
use Rattle.disk_pages.specs.declared.profile.Profile.{Profile}
use Rattle.sata_disk.specs.{Sending.IsOut, State.new_disk}
use Rattle.sata_disk.specs.declared.out.Out.TheVariants as out
use Rattle.sata_disk_laws.specs.{Calls.{AreCalls, Call, Hears}, Laws.reached, Once.{host_of, new_host}}
use Rattle.machine_theorem.specs.{InTurn.{AreKeptOn, IsIdle, IsUnanswered, answered_in, heard_in}, Transfers.is_transferring}

-- So it is over each stretch of calls of a disk that begins while its host waits for nothing.
abbrev pub PagesGoInTurn : Type 0
PagesGoInTurn = (p : Profile) (limit : ℕ) (base calls : List Call) → AreCalls (new_disk p limit) (base ++ calls) → IsIdle (host_of new_host base)
    → AreKeptOn calls → (page : Page) → IsOut (reached p limit (base ++ calls)) (Some (out.Page page)) → IsUnanswered calls

-- The command is heard while the host waits for nothing, and no other is heard or answered since. So no page goes next.
abbrev pub TransfersSendNoPage : Type 0
TransfersSendNoPage = (p : Profile) (limit : ℕ) (before : List Call) (bytes : List ℕ) (later : List Call)
    → AreCalls (new_disk p limit) (before ++ Hears bytes ∷ later) → is_transferring bytes ≡ true → IsIdle (host_of new_host before)
    → AreKeptOn later → heard_in later ≡ 0 → answered_in later ≡ 0
    → (page : Page) → IsOut (reached p limit (before ++ Hears bytes ∷ later)) (Some (out.Page page)) → ⊥

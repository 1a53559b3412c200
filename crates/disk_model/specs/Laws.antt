-- What each FIS that a disk sends must be, by the ledger of the FISes before it (Serial ATA 3.x, 10.5, FIS
-- types, and 13.6, native command queuing; ACS-3, READ and WRITE FPDMA QUEUED, NCQ Command Error log). Of the
-- disk's plan, only what no FIS tells is named: which sectors are bad, how many sectors there are, and whose
-- turn it is.
use Rattle.std.specs.Prelude.{ℕ, ◌≡◌, ◌+◌, ◌*◌, ◌<◌, ◌≤◌, ◌==◌, ◌⊎◌, true, false, not, List, [], ◌∷◌, ◌++◌, drop, length, sum_by, find, All, Option}
use Rattle.std.specs.{Prelude.{Some, None, Result, Ok}, Int.from_bool}
use Rattle.fis_view.specs.{Table.{Kind, D2h, Bits, Setup, Pio, BufferId, Offset, D, I, Status, Lba, Transfer, field}, declared.view.Fis.Fis}
use Rattle.fis_view.specs.{declared.view.FisFault.FisFault, Seen.seen}
use Rattle.fis_view.specs.Table as table
use Rattle.fis_view.specs.declared.view.Fis.TheVariants as view
use Rattle.disk_model.specs.{declared.{request.Command.Command, plan.DiskPlan.DiskPlan}, Histories.{Happening, Sent}, Runs.{IsDiskRun, moment}}
use Rattle.disk_model.specs.{declared.answer.Fault.TheVariants.Failed, Pages.{error_log, identify_data}, Chunks.first_bad, Disks.{picked, turn}}
use Rattle.disk_model.specs.Ledger.{Ledger, Moving, Stretch, Reply, Signs, Accepts, Finishes, Refuses, ShowsPage, Wanted, LogOf, IdentifyData}
use Rattle.disk_model.specs.Ledger.{has_error, IsSize, ledger}

-- ## How data moves

-- how many bytes these DMA Setups name
abbrev pub bytes_named : List Stretch → ℕ
bytes_named setups = sum_by (λ s. s.count) setups

-- count bytes from at on share none with what a DMA Setup named
abbrev pub IsApart : (at count : ℕ) → Stretch → Type 0
IsApart at count s = (s.at + s.count ≤ at) ⊎ (at + count ≤ s.at)

-- A DMA Setup of a command of which this many bytes moved, after these DMA Setups of the same command.
pub record SetsUpNext (c : Command) (moved : ℕ) (setups : List Stretch) (f : List ℕ) : Type 0 where
  -- its buffer identifier is the command's tag
  pub tag : field Setup BufferId f ≡ c.tag
  -- D is set if the data goes to the host
  pub direction : field Setup D f ≡ from_bool (not c.write)
  -- all bytes that were named before have moved
  pub in_turn : moved ≡ bytes_named setups
  -- it names bytes of the command
  pub inside : field Setup Offset f + field Setup table.Count f ≤ 512 * c.count
  -- and none that was named before
  pub apart : All (IsApart (field Setup Offset f) (field Setup table.Count f)) setups

-- the first DMA Setup of a command belongs to an outstanding one
abbrev pub StartsOne : Option Command → List ℕ → Type 0
StartsOne None f = ⊥
StartsOne (Some c) f = SetsUpNext c 0 [] f

-- a DMA Setup does not come while a write waits for Data
abbrev pub SetsUpRight : Ledger → Option Moving → List ℕ → Type 0
SetsUpRight l None f = StartsOne (find (λ c. c.tag == field Setup BufferId f) l.outstanding) f
SetsUpRight l (Some v) f = (v.active ≡ false) × SetsUpNext v.command v.moved v.setups f

-- A DMA Activate asks once for the Data of a write whose bytes were named and have not moved.
pub record AsksOnce (v : Moving) : Type 0 where
  pub writes : v.command.write ≡ true
  pub once : v.active ≡ false
  pub in_turn : v.moved + v.count ≡ bytes_named v.setups

abbrev pub ActivatesRight : Option Moving → Type 0
ActivatesRight None = ⊥
ActivatesRight (Some v) = AsksOnce v

-- Data of a read has the length that the DMA Setup before it gives, and is the first Data after it.
pub record CarriesNext (v : Moving) (bytes : List ℕ) : Type 0 where
  pub reads : v.command.write ≡ false
  pub count : length bytes ≡ v.count
  pub in_turn : v.moved + length bytes ≡ bytes_named v.setups

-- if no command's data moves, it is a page
abbrev pub CarriesRight : Option Moving → List ℕ → Type 0
CarriesRight None bytes = Unit {0}
CarriesRight (Some v) bytes = CarriesNext v bytes

-- the FIS moves data as its command wants it
abbrev pub MovesRight : Ledger → Result Fis FisFault → Type 0
MovesRight l (Ok (view.DmaSetup f)) = SetsUpRight l l.moving f
MovesRight l (Ok (view.DmaActivate f)) = ActivatesRight l.moving
MovesRight l (Ok (view.Payload f)) = CarriesRight l.moving (drop 4 f)
MovesRight l _ = Unit {0}

-- ## Errors

-- The command passes the end of the disk: ID Not Found, at its own LBA.
pub record PassesEnd (sectors : ℕ) (c : Command) (error lba : ℕ) : Type 0 where
  pub past : sectors < c.lba + c.count
  pub error_is : error ≡ 0x10
  pub lba_is : lba ≡ c.lba

-- It is a read within the disk, and this is its first bad sector: Uncorrectable.
pub record ReadsBad (plan : DiskPlan) (sectors : ℕ) (c : Command) (error lba : ℕ) : Type 0 where
  pub inside : c.lba + c.count ≤ sectors
  pub reads : c.write ≡ false
  pub error_is : error ≡ 0x40
  pub first : first_bad c plan.bad.items ≡ Some lba

-- why a command fails, and where
abbrev pub Fails : DiskPlan → ℕ → Command → (error lba : ℕ) → Type 0
Fails plan sectors c error lba = PassesEnd sectors c error lba ⊎ ReadsBad plan sectors c error lba

-- the command can be done
pub record CanBeDone (plan : DiskPlan) (sectors : ℕ) (c : Command) : Type 0 where
  pub inside : c.lba + c.count ≤ sectors
  pub good : c.write ≡ false → first_bad c plan.bad.items ≡ None

-- the first DMA Setup of a command belongs to the command whose turn it is, and that command can be done
abbrev pub StartsNext : DiskPlan → ℕ → Option Command → (tag : ℕ) → Type 0
StartsNext plan sectors None tag = ⊥
StartsNext plan sectors (Some c) tag = (tag ≡ c.tag) × CanBeDone plan sectors c

-- the command whose turn it is fails with this error
abbrev pub FailsNext : DiskPlan → ℕ → Option Command → (error : ℕ) → Type 0
FailsNext plan sectors None error = ⊥
FailsNext plan sectors (Some c) error = (lba : ℕ) × Fails plan sectors c error lba

-- the log names the command that failed, its error and the LBA
abbrev pub LogsNext : DiskPlan → ℕ → Option Command → (error : ℕ) → List ℕ → Type 0
LogsNext plan sectors None error bytes = ⊥
LogsNext plan sectors (Some c) error bytes =
    (lba : ℕ) × Fails plan sectors c error lba × (bytes ≡ error_log (Some (Failed c.tag error lba)))

-- the page that was asked for first
abbrev pub IsPage : DiskPlan → ℕ → List Wanted → List ℕ → Type 0
IsPage plan sectors [] bytes = ⊥
IsPage plan sectors (IdentifyData ∷ later) bytes = bytes ≡ identify_data sectors plan
IsPage plan sectors (LogOf None ∷ later) bytes = bytes ≡ error_log None
IsPage plan sectors (LogOf (Some f) ∷ later) bytes =
    LogsNext plan sectors (picked plan.order f.among) f.error bytes

-- the first DMA Setup of a command
abbrev pub FirstRight : DiskPlan → ℕ → Ledger → Option Moving → (tag : ℕ) → Type 0
FirstRight plan sectors l None tag = StartsNext plan sectors (picked plan.order l.outstanding) tag
FirstRight plan sectors l (Some v) tag = Unit {0}

-- Data while no command's data moves
abbrev pub PageRight : DiskPlan → ℕ → Ledger → Option Moving → List ℕ → Type 0
PageRight plan sectors l None bytes = IsPage plan sectors l.pages bytes
PageRight plan sectors l (Some v) bytes = Unit {0}

-- A command starts only if it can be done. An error is that of the command whose turn it is, and the log
-- tells it.
abbrev pub ErrsRight : DiskPlan → ℕ → Ledger → Result Fis FisFault → Type 0
ErrsRight plan sectors l (Ok (view.SetBits f)) = has_error f ≡ true → (l.moving ≡ None)
    × FailsNext plan sectors (picked plan.order l.outstanding) (field Bits table.Error f)
ErrsRight plan sectors l (Ok (view.DmaSetup f)) = FirstRight plan sectors l l.moving (field Setup BufferId f)
ErrsRight plan sectors l (Ok (view.Payload f)) = PageRight plan sectors l l.moving (drop 4 f)
ErrsRight plan sectors l _ = Unit {0}

-- ## Answers to commands

-- a Register FIS or a PIO Setup FIS with these fields; first is in LBA and Count
pub record IsRegister (kind : Kind) (i status error first : ℕ) (f : List ℕ) : Type 0 where
  pub interrupt : field kind I f ≡ i
  pub status_is : field kind Status f ≡ status
  pub error_is : field kind table.Error f ≡ error
  pub lba : field kind Lba f ≡ first
  pub count : field kind table.Count f ≡ first

-- ERR, bit 0 of Status, is set exactly if the command is refused.
abbrev pub Answers : Reply → List ℕ → Type 0
Answers Signs f = IsRegister D2h 0 0x50 1 1 f
Answers Accepts f = IsRegister D2h 0 0x50 0 0 f
Answers Finishes f = IsRegister D2h 1 0x50 0 0 f
Answers Refuses f = IsRegister D2h 1 0x51 4 0 f
Answers ShowsPage f = ⊥

abbrev pub AnswersFirst : List Reply → List ℕ → Type 0
AnswersFirst [] f = ⊥
AnswersFirst (reply ∷ later) f = Answers reply f

-- a PIO Setup says that a page of 512 bytes follows
abbrev pub ShowsFirst : List Reply → List ℕ → Type 0
ShowsFirst (ShowsPage ∷ later) f =
    IsRegister Pio 1 0x58 0 0 f × (field Pio D f ≡ 1) × (field Pio Transfer f ≡ 512)
ShowsFirst _ f = ⊥

-- a Register FIS or a PIO Setup answers what came first among what was not answered
abbrev pub AnswersRight : Ledger → Result Fis FisFault → Type 0
AnswersRight l (Ok (view.RegD2H f)) = AnswersFirst l.awaited f
AnswersRight l (Ok (view.PioSetup f)) = ShowsFirst l.awaited f
AnswersRight l _ = Unit {0}

-- ## Silence

-- a write waits for the Data that was asked for, or no command is outstanding
abbrev pub WaitsWell : Ledger → Option Moving → Type 0
WaitsWell l None = l.outstanding ≡ []
WaitsWell l (Some v) = (v.command.write ≡ true) × (v.active ≡ true)

-- everything that is to be answered was answered
pub record OwesNothing (l : Ledger) : Type 0 where
  pub awaited : l.awaited ≡ []
  pub unanswered : l.unanswered ≡ []
  pub pages : l.pages ≡ []
  pub waits : WaitsWell l l.moving

-- a disk that has nothing to send after the history owes nothing
abbrev pub SilentRight : DiskPlan → ℕ → List Happening → Type 0
SilentRight plan sectors history =
    turn plan sectors (moment plan sectors history) ≡ None → OwesNothing (ledger history)

-- ## Every run

-- for each run of each disk: the ledger before a FIS that it sends, and that FIS
abbrev pub AtEachSending : (DiskPlan → ℕ → Ledger → Result Fis FisFault → Type 0) → Type 0
AtEachSending Law =
    (plan : DiskPlan) (sectors : ℕ) (history : List Happening) (bytes : List ℕ) → IsSize plan sectors →
    IsDiskRun plan sectors (history ++ Sent bytes ∷ []) → Law plan sectors (ledger history) (seen bytes)

-- for each run of each disk
abbrev pub AfterEachRun : (DiskPlan → ℕ → List Happening → Type 0) → Type 0
AfterEachRun Law =
    (plan : DiskPlan) (sectors : ℕ) (history : List Happening) → IsSize plan sectors →
    IsDiskRun plan sectors history → Law plan sectors history

-- A device and the controller by a link that keeps the order: the controller took a beginning of the FISes that the device sent, and the device heard some
-- of the Data that the controller sent, in order. Then Data of a queued write go to their own place: the slot that they are taken from is the tag of the
-- command for which the disk takes them, at the byte behind those that came for it (AHCI 1.3.1, 5.3 and 9.3; Serial ATA 3.x, 10.5 and 13.6).
use Rattle.std.specs.Prelude.{ℕ, ◌≡◌, false, ◌<◌, ◌⊎◌, Bool, true, List, [], ◌∷◌, ◌++◌, length, Some, None}
use Rattle.slots.specs.{Slots.{Issue, context_of, issue_at}, Work.is_read, declared.work.Kind.TheVariants.QueuedWrite}
use Rattle.hba_fbs.specs.{Views.view_of, declared.turn.Turn.TheVariants.Feeds}
use Rattle.hba_laws.specs.{Agreement.IsTold, History.History}
use Rattle.ahci_controller.specs.{Next.turn_to, States.ControllerState, declared.{feeding.Fed.TheVariants.Goes, latch.Edge.Edge}}
use Rattle.block_disk.specs.Laws.{Page}
use Rattle.block_queue.specs.Line.{command_at}
use Rattle.controller_laws.specs.Events.{Event, Gathered, Runs}
use Rattle.disk_pages.specs.declared.profile.Profile.{Profile}
use Rattle.sata_disk.specs.{Hearing.receives, State.{commands, new_disk}}
use Rattle.sata_disk_laws.specs.{Calls.{AreCalls, Call}, Laws.reached}
use Rattle.sata_disk_books.specs.{Books.page_in, InTurn.{AreOfQueue, AwaitsNone, calls_steps}, Talks.{Down, Sign, Step, Up}}
use Rattle.machine_theorem.specs.{Asking.events_steps, Following.AllHeardWell}

-- ---- what goes up, and down

abbrev pub ups : List Step → List Sign
ups [] = []
ups (Up s ∷ later) = s ∷ ups later
ups (Down n ∷ later) = ups later

abbrev pub downs : List Step → List ℕ
downs [] = []
downs (Up s ∷ later) = downs later
downs (Down n ∷ later) = n ∷ downs later

-- a list with some of another's elements, in order
abbrev pub Within : {A : Type 0} → List A → List A → Type 0
Within [] ys = Unit {0}
Within (x ∷ xs) [] = ⊥
Within (x ∷ xs) (y ∷ ys) = ((x ≡ y) × Within xs ys) ⊎ Within (x ∷ xs) ys

-- ---- where Data go

-- The slot is the place, and the books have the command there. As many bytes came for it before as the number of the first byte in the slot's command.
pub record IsForPlace (p : Profile) (limit : ℕ) (calls : List Call) (place slot offset : ℕ) : Type 0 where
  pub same : slot ≡ place
  pub page : Page
  pub is : page_in p limit calls place ≡ Some page
  pub number : offset ≡ length page.ledger.came

-- Data go of a slot, in which a command of the device is issued, and no read. If it is a queued write, the slot is the place for which the disk takes them.
pub record GoToPlace (c : ControllerState) (n : ℕ) (p : Profile) (limit : ℕ) (calls : List Call) (place : ℕ) : Type 0 where
  pub slot : ℕ
  pub offset : ℕ
  pub len : ℕ
  pub is : turn_to c n ≡ Feeds n slot offset len
  pub issue : Issue
  pub there : issue_at c.core.slots slot ≡ Some issue
  pub of_dev : issue.dev ≡ n
  pub way : is_read issue.work.kind ≡ false
  pub goes : issue.work.kind ≡ QueuedWrite → IsForPlace p limit calls place slot offset

-- ---- the law

-- A stretch of calls of the controller as in `FedDataFollowSetups`, at the end of which Data go to the device, and one of a new disk that begins where it
-- awaits no Data, in which it serves queued commands alone, and at the end of which the queued command of a place awaits Data. The controller took in
-- its stretch a beginning of what the disk sent in its own; and the Data that the disk heard there are some of those that went before, in order.
abbrev pub OrderedLinksKeepPlaces : Type 0
OrderedLinksKeepPlaces = (n : ℕ) → n < 16 → (old at new : ControllerState) (events : List Event) (run : Runs old events at)
    → (past : History) → IsTold (view_of n old.core) past → context_of old.core.slots n ≡ None → AllHeardWell n old events at run
    → (number : ℕ) (frame : List ℕ) (message : Bool) (line : Edge) → Runs at (Gathered n number frame (Goes message line) ∷ []) new
    → (p : Profile) (limit : ℕ) (base calls : List Call) → AreCalls (new_disk p limit) (base ++ calls) → AwaitsNone (reached p limit base)
    → AreOfQueue (reached p limit base) calls → (place : ℕ) → place < 32 → receives (command_at (commands (reached p limit (base ++ calls))) place) ≡ true
    → (extra : List Sign) → ups (calls_steps calls) ≡ ups (events_steps n events) ++ extra
    → Within (downs (calls_steps calls)) (downs (events_steps n events)) → GoToPlace at n p limit (base ++ calls) place

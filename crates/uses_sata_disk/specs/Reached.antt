-- Disks that a run led to.
use Rattle.std.specs.{Prelude.{ℕ, ◌≡◌, true, List, [], ◌∷◌, ◌++◌, drop, Option, Some, None}, Option.is_some}
use Rattle.block_disk.specs.Requests.{AreSeenRightly, no_books}
use Rattle.block_queue.specs.Deeds.{AllAreApart, AreNamed}
use Rattle.ata_front.specs.Fronts.{aborted}
use Rattle.disk_pages.specs.declared.profile.Profile.{Profile}
use Rattle.sata_disk.specs.{Pages.IsErrorLog, State.{DiskState, new_disk}, declared.out.Out.{Out, TheVariants.Own}}
use Rattle.sata_disk_laws.specs.{Calls.{AreCalls, Call, after_calls}, Errors.{IsOfError, IsWatched, Watch, watch_in}, Laws.seen_in, Once.AreDue}
use Rattle.sata_disk_laws.specs.{Once.{IsHostOf, IsOutDue, host_of, new_host}, Stores.AreStoresHeard}

abbrev pub IsReached : Profile → ℕ → List Call → DiskState → Type 0
IsReached p limit calls d = AreCalls (new_disk p limit) calls × (d ≡ after_calls (new_disk p limit) calls)

-- whatever run led to the old one, a longer one leads to the new one
abbrev pub Extends : DiskState → DiskState → Call → Type 0
Extends old new call = (p : Profile) (limit : ℕ) (calls : List Call) → IsReached p limit calls old → IsReached p limit (calls ++ call ∷ []) new

-- what a run showed that led here, and what goes on from here
pub record HasLaws (d : DiskState) : Type 0 where
  pub earned : (p : Profile) (limit : ℕ) (calls : List Call) → IsReached p limit calls d → AreSeenRightly no_books (seen_in p limit calls)
  pub apart : (p : Profile) (limit : ℕ) (calls : List Call) → IsReached p limit calls d → AllAreApart [] (seen_in p limit calls)
  pub named : (p : Profile) (limit : ℕ) (calls : List Call) → IsReached p limit calls d → AreNamed None (seen_in p limit calls)
  pub due : (p : Profile) (limit : ℕ) (calls : List Call) → IsReached p limit calls d → AreDue new_host calls
  pub stores : (p : Profile) (limit : ℕ) (calls : List Call) → IsReached p limit calls d → AreStoresHeard no_books (seen_in p limit calls)
  pub watched : (p : Profile) (limit : ℕ) (calls : List Call) → IsReached p limit calls d
      → IsWatched (host_of new_host calls) (watch_in p limit calls) d
  pub host : (p : Profile) (limit : ℕ) (calls : List Call) → IsReached p limit calls d → IsHostOf (host_of new_host calls) d

-- whatever run led to a disk, this FIS is of a command that its host has open then
abbrev pub IsOutOf : DiskState → Out → Type 0
IsOutOf d o = (p : Profile) (limit : ℕ) (calls : List Call) → IsReached p limit calls d → IsOutDue (host_of new_host calls) o

-- while an error stands: the abort of a command that came since, or the log
pub record IsNextAt (w : Watch) (o : Option Out) : Type 0 where
  pub aborted : w.aborts ≡ true → o ≡ Some (Own aborted)
  pub only : is_some w.fault ≡ true → IsOfError o

-- whatever run led to a disk, this goes next
abbrev pub IsNextOf : DiskState → Option Out → Type 0
IsNextOf d o = (p : Profile) (limit : ℕ) (calls : List Call) → IsReached p limit calls d → IsNextAt (watch_in p limit calls) o

-- whatever run led to a disk, these bytes are the log of the error that stands
abbrev pub TellsOfFailure : DiskState → List ℕ → Type 0
TellsOfFailure d b = (p : Profile) (limit : ℕ) (calls : List Call) → IsReached p limit calls d → IsErrorLog (watch_in p limit calls).fault (drop 4 b)

-- it holds of a disk that a run led to
abbrev pub IfReached : DiskState → Type 0 → Type 0
IfReached d holds = (p : Profile) (limit : ℕ) (calls : List Call) → IsReached p limit calls d → holds

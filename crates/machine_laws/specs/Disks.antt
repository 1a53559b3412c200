-- Each disk of a machine goes by its own calls alone: those that are of its port (ACS-3, and `sata_disk_laws` for what they are).
use Rattle.std.specs.Prelude.{◌≡◌, ◌==◌, ◌≤◌, ℕ, Bool, false, if◌then◌else◌, List, [], ◌∷◌, Option, Some, None, Result, Ok, Err}
use Rattle.fis_view.specs.Frames.{Stamped}
use Rattle.block_disk.specs.Requests.{AreSeenRightly, no_books}
use Rattle.block_queue.specs.Deeds.{AllAreApart, AreNamed}
use Rattle.disk_pages.specs.declared.profile.Profile.{Profile}
use Rattle.sata_disk.specs.State.{DiskState, new_disk}
use Rattle.sata_disk_laws.specs.{Calls.{AreCalls, Call, after_calls}, Laws.seen_in}
use Rattle.sata_disk_laws.specs.Calls as call
use Rattle.ahci_machine.specs.{States.{IsOpeningMachine, MachineState, bay_at}, declared.{act.Act.Act, bay.Unit.{Unit as Inside, TheVariants.Disk}}}
use Rattle.ahci_machine.specs.declared.act.Act.TheVariants as act
use Rattle.machine_laws.specs.Deeds.{Deed, Does, Runs, Moved, Answered, Put, Pulled, Removed}

-- the FIS that was given
abbrev pub heard : Option Stamped → List Call
heard None = []
heard (Some frame) = call.Hears frame.bytes ∷ []

abbrev pub at_port : (n port : ℕ) → List Call → List Call
at_port n port calls = if n == port then calls else []

abbrev pub unless_refused : {A B : Type 0} → Result A B → List Call → List Call
unless_refused (Ok a) calls = calls
unless_refused (Err e) calls = []

-- what a move does to the disk at a port, to which this FIS was given last
abbrev pub calls_by : Act → (port : ℕ) → Option Stamped → List Call
calls_by (act.Begins n) port down = at_port n port (call.Plugs ∷ [])
calls_by (act.Hears n unheard) port down = at_port n port (heard down)
calls_by (act.Speaks n out) port down = at_port n port (call.Sends out ∷ [])
calls_by (act.Starts n place) port down = at_port n port (call.Starts (Some place) ∷ [])
calls_by (act.Asks id request) port down = at_port id.port port (call.Asks request ∷ [])
calls_by other port down = []

-- what happens to it
abbrev pub calls_at : MachineState → Deed → (port : ℕ) → List Call
calls_at old (Moved act) port = calls_by act port (bay_at old port).down
calls_at old (Answered id answer told) port = at_port id.port port (unless_refused told (call.Answers id.number answer ∷ []))
calls_at old (Pulled n told) port = at_port n port (unless_refused told (call.Plugs ∷ []))
calls_at old deed port = []

-- the disk that is there now is the one that was, after its calls
pub record GoesOn (d : DiskState) (calls : List Call) (now : Inside) : Type 0 where
  pub are : AreCalls d calls
  pub is : now ≡ Disk (after_calls d calls)

abbrev pub is_removed : Deed → (port : ℕ) → Bool
is_removed (Removed n told) port = n == port
is_removed other port = false

-- Whatever happens to a machine, a disk that is not taken away goes on by its own calls alone.
abbrev pub DisksGoOn : Type 0
DisksGoOn = (old : MachineState) (deed : Deed) (new : MachineState) → Does old deed new
    → (port : ℕ) (d : DiskState) → (bay_at old port).unit ≡ Disk d → is_removed deed port ≡ false
    → GoesOn d (calls_at old deed port) (bay_at new port).unit

-- ## Runs of disks

-- some calls led to it from a new disk
pub record IsReached (d : DiskState) : Type 0 where
  pub profile : Profile
  pub limit : ℕ
  -- it holds a part of the largest size
  pub room : 1048576 ≤ limit
  pub calls : List Call
  pub are : AreCalls (new_disk profile limit) calls
  pub is : d ≡ after_calls (new_disk profile limit) calls

abbrev pub AreReached : MachineState → Type 0
AreReached m = (port : ℕ) (d : DiskState) → (bay_at m port).unit ≡ Disk d → IsReached d

-- a disk that is put at a port is new, or was reached
abbrev pub PutsReached : Deed → Type 0
PutsReached (Put port (Disk d) told) = IsReached d
PutsReached deed = Unit {0}

abbrev pub AllPutReached : List Deed → Type 0
AllPutReached [] = Unit {0}
AllPutReached (deed ∷ later) = PutsReached deed × AllPutReached later

-- Over every run of a machine, each disk in it is one that some calls of its own led to.
abbrev pub DisksAreReached : Type 0
DisksAreReached = (old : MachineState) (deeds : List Deed) (new : MachineState) → Runs old deeds new → AllPutReached deeds
    → AreReached old → AreReached new

abbrev pub OpensReached : Type 0
OpensReached = (ports : ℕ) (legacy : Bool) (m : MachineState) → IsOpeningMachine ports legacy m → AreReached m

-- What each disk of a machine showed its host and asked its caller. Each Data FIS of a read has the bytes that the caller gave for its
-- sectors; an end of a read goes after all of them, an end of a write after the caller stored exactly the bytes that came, and flushed
-- where they are to last; a load or a store shares no sector with one that is out, but two loads; Data are of the command that was named.
pub record HasLaws (d : DiskState) : Type 0 where
  pub reached : IsReached d
  pub earned : AreSeenRightly no_books (seen_in reached.profile reached.limit reached.calls)
  pub apart : AllAreApart [] (seen_in reached.profile reached.limit reached.calls)
  pub named : AreNamed None (seen_in reached.profile reached.limit reached.calls)

abbrev pub DisksHaveLaws : Type 0
DisksHaveLaws = (m : MachineState) → AreReached m → (port : ℕ) (d : DiskState) → (bay_at m port).unit ≡ Disk d → HasLaws d

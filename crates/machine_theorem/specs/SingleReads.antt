-- Each byte of a read that is not queued, and that the guest sees completed: a Data FIS of its device brought it for its slot since the command was issued,
-- and it was written at the place that the table of the slot's command names for it (AHCI 1.3.1, 3.3.14, PxCI, 4.2.3.3, physical region descriptors, and
-- 5.3.13, a port takes a FIS; Serial ATA 3.x, 10.5, Data, PIO Setup and Register Device to Host; ACS-3, 4, DMA and PIO data-in protocols).
use Rattle.std.specs.Prelude.{ℕ, ◌≡◌, ◌⊎◌, ◌<◌, ◌≤◌, ◌-◌, ◌+◌, ◌==◌, ◌&&◌, Bool, true, false, not, List, ◌∷◌, ◌++◌, drop, length, slice_get, Some}
use Rattle.guest_fetch.specs.{Commands.Fetched, Places.{named, place, single, singles}}
use Rattle.slots.specs.{Bytes.is_over, Slots.{Issue, has_bit, holds, is_pio, issue_at}, Work.{is_queued, is_read}, declared.work.Kind.Kind}
use Rattle.ahci_registers.specs.declared.register.Register.TheVariants.{PxCi, PxSact}
use Rattle.hba_fbs.specs.{Taking.port_of, Views.view_of, declared.report.Wrote.Wrote}
use Rattle.hba_laws.specs.{Agreement.IsTold, History.History}
use Rattle.ahci_controller.specs.{Reading.shown, States.{ControllerState, kept}, Taking.is_overflow, declared.taking.Took.Took}
use Rattle.controller_laws.specs.Events as call
use Rattle.controller_laws.specs.{Events.{Event, Runs, Takes}, Sources.{Source, command_of, no_sources, sources_after, unmoved}}
use Rattle.ahci_machine.specs.States.{HasRules, IsOpeningMachine, MachineState}
use Rattle.ahci_machine.specs.declared.act.Act.TheVariants as act
use Rattle.machine_laws.specs.{ControllerLaws.{ControllerRuns, RunsRuled, calls_in}, Deeds.{Deed, Does, Moved}}
use Rattle.machine_theorem.specs.{Commands.AreNotIssued, Filled.{AreNotBrought, BringsNot}, ReadsWritten.{NoneTaken, told_moves}}

-- READ DMA, READ DMA EXT, and PIO data-in
abbrev pub is_single_read : Kind → Bool
is_single_read kind = is_read kind && not (is_queued kind)

-- such a command of a device that was sent
abbrev pub is_sent_read : (dev : ℕ) → Issue → Bool
is_sent_read dev issue = is_single_read issue.work.kind && (issue.dev == dev) && issue.sent

-- ---- the calls of a controller

-- A FIS that is taken brings byte k of the command of this kind that is issued in a slot.
pub record BringsFor (kind : Kind) (n slot k : ℕ) (c : ControllerState) (frame : List ℕ) (took : Took) : Type 0 where
  -- The FIS is of the device that owns the command.
  pub own : port_of frame ≡ n
  pub issue : Issue
  pub is : issue_at c.core.slots slot ≡ Some issue
  pub dev : issue.dev ≡ n
  pub kind_is : issue.work.kind ≡ kind
  -- It brings bytes for this slot, which are all bytes behind its header, and do not go past the table; one of them has the number k in the command.
  pub calm : is_overflow took.report.fault ≡ false
  pub wrote : Wrote
  pub brought : took.brought ≡ Some wrote
  pub slot_is : wrote.slot ≡ slot
  pub whole : wrote.len ≡ length (drop 4 frame)
  pub from : wrote.offset ≤ k
  pub to : k < wrote.offset + wrote.len

-- One of these calls takes such a FIS. None behind it issues a command in the slot, or brings the byte again.
pub record WasBroughtFor (kind : Kind) (n slot k : ℕ) (old : ControllerState) (events : List Event) (new : ControllerState) : Type 0 where
  pub sooner : List Event
  pub mid : ControllerState
  pub led : Runs old sooner mid
  pub frame : List ℕ
  pub took : Took
  pub after : ControllerState
  pub takes : Takes mid frame took after
  pub later : List Event
  pub rest : Runs after later new
  pub is : events ≡ sooner ++ call.Took frame took ∷ later
  pub brings : BringsFor kind n slot k mid frame took
  pub alone : AreNotIssued slot later
  pub once : AreNotBrought slot k later

-- Over each stretch of calls that begins where no read of a device that is not queued and was sent stands in a slot: of such a read of this device that is
-- issued there behind it, each byte that came (`is_over`) was brought in the stretch; and since then nothing was issued in the slot, and it was not brought again.
abbrev pub FilledSinglesWereBrought : Type 0
FilledSinglesWereBrought = (n : ℕ) → n < 16 → (slot : ℕ) → slot < 32 → (old new : ControllerState) (events : List Event) → Runs old events new
    → (past : History) → IsTold (view_of n old.core) past → holds (is_sent_read n) (issue_at old.core.slots slot) ≡ false
    → (issue : Issue) → issue_at new.core.slots slot ≡ Some issue → issue.dev ≡ n → is_single_read issue.work.kind ≡ true
    → (k : ℕ) → is_over issue.over k ≡ true → WasBroughtFor issue.work.kind n slot k old events new

-- ---- the moment in a run

-- At a moment of a run a Data FIS is taken that brings byte k of the command of this kind in a slot. Since then nothing is issued in the slot, and the byte is
-- not brought again.
pub record SingleIsBrought (kind : Kind) (dev slot k : ℕ) (at : MachineState) (deeds : List Deed) (now : MachineState) (run : RunsRuled at deeds now)
    : Type 0 where
  pub sooner : List Deed
  pub mid : MachineState
  pub led : RunsRuled at sooner mid
  pub took : Took
  pub after : MachineState
  pub does : Does mid (Moved (act.Takes took)) after
  pub later : List Deed
  pub rest : RunsRuled after later now
  pub is : deeds ≡ sooner ++ Moved (act.Takes took) ∷ later
  pub calls : calls_in at deeds now run ≡ calls_in at sooner mid led ++ call.Took does.does.frame.bytes took ∷ calls_in after later now rest
  pub brings : BringsFor kind dev slot k mid.controller does.does.frame.bytes took
  pub alone : AreNotIssued slot (calls_in after later now rest)
  pub once : AreNotBrought slot k (calls_in after later now rest)

-- A read that is not queued is issued in a slot whose bit of PxCI falls as a FIS is taken. PxSACT does not show the slot.
pub record IsSingleDone (now : MachineState) (slot : ℕ) (issue : Issue) : Type 0 where
  pub took : Took
  pub new : MachineState
  pub does : Does now (Moved (act.Takes took)) new
  pub rules : HasRules new
  pub shows : has_bit (shown PxCi now.controller) slot ≡ true
  pub hides : has_bit (shown PxCi new.controller) slot ≡ false
  pub free : has_bit (shown PxSact new.controller) slot ≡ false
  pub is : issue_at now.controller.core.slots slot ≡ Some issue
  pub kind : is_single_read issue.work.kind ≡ true

-- Its byte k was brought before this FIS, which does not bring it again.
pub record CameBefore (slot k : ℕ) (at : MachineState) (deeds : List Deed) (now : MachineState) (run : RunsRuled at deeds now) (issue : Issue)
    (done : IsSingleDone now slot issue) : Type 0 where
  pub brought : SingleIsBrought issue.work.kind issue.dev slot k at deeds now run
  pub once : BringsNot slot k (call.Took done.does.does.frame.bytes done.took)

-- Or the command is a PIO data-in, and this FIS is the last of its Data, and brings it.
pub record ComesLast (slot k : ℕ) (now : MachineState) (issue : Issue) (done : IsSingleDone now slot issue) : Type 0 where
  pub pio : is_pio issue.work.kind ≡ true
  pub brings : BringsFor issue.work.kind issue.dev slot k now.controller done.does.does.frame.bytes done.took

-- So it is of each byte of each such read, over every run from a machine that opens, whatever its guest, its devices and its media do.
abbrev pub SinglesAreBrought : Type 0
SinglesAreBrought = (ports : ℕ) (legacy : Bool) (old : MachineState) → IsOpeningMachine ports legacy old
    → (deeds : List Deed) (now : MachineState) (run : RunsRuled old deeds now) (slot : ℕ) → slot < 32 → (issue : Issue) (done : IsSingleDone now slot issue)
    → (k : ℕ) → k < issue.work.len → CameBefore slot k old deeds now run issue done ⊎ ComesLast slot k now issue done

-- And it is so in each stretch of it that begins where no read of the device that is not queued and was sent stands in the slot.
abbrev pub SinglesAreBroughtSince : Type 0
SinglesAreBroughtSince = (ports : ℕ) (legacy : Bool) (old : MachineState) → IsOpeningMachine ports legacy old
    → (before : List Deed) (at : MachineState) → RunsRuled old before at → (deeds : List Deed) (now : MachineState) (run : RunsRuled at deeds now)
    → (slot : ℕ) → slot < 32 → (issue : Issue) (done : IsSingleDone now slot issue)
    → holds (is_sent_read issue.dev) (issue_at at.controller.core.slots slot) ≡ false
    → (k : ℕ) → k < issue.work.len → CameBefore slot k at deeds now run issue done ⊎ ComesLast slot k now issue done

-- ---- what is written

-- A FIS brought byte k of the slot's command, and then came these deeds. Before the next FIS is taken, which at the latest is the one by which the bit falls, the
-- caller was told to write all bytes behind its header, each once, in order, at the place that the table names for its number in the command.
pub record IsWrittenThen (slot k : ℕ) (mid : MachineState) (frame : List ℕ) (wrote : Wrote) (after : MachineState) (later : List Deed) : Type 0 where
  pub until : List Deed
  pub next : MachineState
  pub way : RunsRuled after until next
  pub more : List Deed
  pub is : later ≡ until ++ more
  pub none : NoneTaken (calls_in after until next way)
  -- the command of the slot
  pub command : Fetched
  pub has : kept mid.controller slot ≡ Some command
  pub written : singles frame (told_moves (calls_in after until next way)) ≡ named command.table.entries wrote.offset (drop 4 frame)
  -- so byte k goes to its place
  pub byte : ℕ
  pub byte_is : slice_get (drop 4 frame) (k - wrote.offset) ≡ Some byte
  pub placed : slice_get (singles frame (told_moves (calls_in after until next way))) (k - wrote.offset) ≡ Some (single (place command.table.entries k) byte)

pub record SingleIsWritten (kind : Kind) (dev slot k : ℕ) (at : MachineState) (deeds : List Deed) (now : MachineState) (run : RunsRuled at deeds now)
    (b : SingleIsBrought kind dev slot k at deeds now run) : Type 0 where
  pub written : IsWrittenThen slot k b.mid b.does.does.frame.bytes b.brings.wrote b.after b.later
  -- The table is that of the command which was supplied for the last issue in the slot before the bit falls.
  pub supplied : (runs : ControllerRuns at deeds now run) (source : Source)
      → (sources_after slot no_sources at.controller (calls_in at deeds now run) now.controller runs.calls).issued ≡ Some source
      → command_of source ≡ Some (unmoved written.command)

-- Each byte of such a read that was brought before the bit falls was written before it falls.
pub record IsWrittenBefore (slot k : ℕ) (at : MachineState) (deeds : List Deed) (now : MachineState) (run : RunsRuled at deeds now) (issue : Issue)
    (done : IsSingleDone now slot issue) : Type 0 where
  pub came : CameBefore slot k at deeds now run issue done
  pub written : SingleIsWritten issue.work.kind issue.dev slot k at deeds now run came.brought

abbrev pub SinglesAreWritten : Type 0
SinglesAreWritten = (ports : ℕ) (legacy : Bool) (old : MachineState) → IsOpeningMachine ports legacy old
    → (deeds : List Deed) (now : MachineState) (run : RunsRuled old deeds now) (slot : ℕ) → slot < 32 → (issue : Issue) (done : IsSingleDone now slot issue)
    → (k : ℕ) → k < issue.work.len → IsWrittenBefore slot k old deeds now run issue done ⊎ ComesLast slot k now issue done

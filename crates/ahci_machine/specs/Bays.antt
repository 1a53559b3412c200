-- What a port's device does with what it is given, and what it asks (Serial ATA 3.x, 10.5; ACS-3): a disk by its own rules, a device
-- of the caller's own by the caller's.
use Rattle.std.specs.Prelude.{◌≡◌, ℕ, true, false, Option, Some, None, Ok}
use Rattle.fis_view.specs.{Frames.Stamped, Seen.seen}
use Rattle.pm_ports.specs.declared.port.Offered.TheVariants.{Held}
use Rattle.block_engine.specs.{Engine.{IsEngineStart, IsRequested, started}, declared.request.Request.Request}
use Rattle.fan_out.specs.{FanOuts.{GivesDownThere, Offers, wants_at}, declared.fan_out.FanOut.FanOut}
use Rattle.sata_disk.specs.{Hearing.{MayHear, fis_heard, fis_unheard, plugged}, Sending.{IsFis, IsOut, after_sent}, State.DiskState}
use Rattle.sata_disk.specs.declared.{out.Out.Out, unheard.Unheard.Unheard}
use Rattle.ahci_machine.specs.declared.{act.Act.Act, bay.{Bay.Bay, Unit.{Unit as Inside, TheVariants.{Empty, Disk, Own}}}}
use Rattle.ahci_machine.specs.declared.act.Act.TheVariants as act

abbrev pub with_unit : Bay → Inside → Bay
with_unit b unit = record { unit = unit; disk = b.disk; down = b.down; told = b.told }

-- what it was given was heard
abbrev pub with_heard : Bay → Inside → Bay
with_heard b unit = record { unit = unit; disk = b.disk; down = None; told = b.told }

-- what it had to do is gone
abbrev pub without_work : Inside → Inside
without_work (Disk d) = Disk (plugged d)
without_work unit = unit

abbrev pub begun : Bay → Bay
begun b = record { unit = without_work b.unit; disk = b.disk; down = None; told = false }

-- ---- moves

-- the next FIS of the host is there
pub record Falls (port : ℕ) (fan : FanOut) (old : Bay) (after : FanOut) (new : Bay) : Type 0 where
  pub frame : Stamped
  pub none : old.down ≡ None
  pub gives : GivesDownThere fan port (Some frame) after
  pub rest : new ≡ record { unit = old.unit; disk = old.disk; down = Some frame; told = old.told }

-- a disk heard it, or did not
pub record Hears (unheard : Option Unheard) (old new : Bay) : Type 0 where
  pub disk : DiskState
  pub frame : Stamped
  pub there : old.unit ≡ Disk disk
  pub given : old.down ≡ Some frame
  pub may : MayHear disk (seen frame.bytes)
  pub why : unheard ≡ fis_unheard disk (seen frame.bytes)
  pub rest : new ≡ with_heard old (Disk (fis_heard disk (seen frame.bytes)))

-- nothing is there to hear it
pub record Drops (old new : Bay) : Type 0 where
  pub empty : old.unit ≡ Empty
  pub rest : new ≡ with_heard old old.unit

-- the caller is told of it
pub record Points (old new : Bay) : Type 0 where
  pub own : old.unit ≡ Own
  pub untold : old.told ≡ false
  pub rest : new ≡ record { unit = old.unit; disk = old.disk; down = old.down; told = true }

-- a disk sends the FIS that is next, where there is room for it
pub record Speaks (port : ℕ) (out : Out) (fan : FanOut) (old : Bay) (after : FanOut) (new : Bay) : Type 0 where
  pub disk : DiskState
  pub frame : Stamped
  pub there : old.unit ≡ Disk disk
  pub room : wants_at fan port ≡ true
  pub next : IsOut disk (Some out)
  pub bytes : IsFis disk out frame.bytes
  pub offers : Offers fan port frame (Ok Held) after
  pub rest : new ≡ with_unit old (Disk (after_sent disk out))

-- a command of a disk starts
pub record Starts (place : ℕ) (old new : Bay) : Type 0 where
  pub disk : DiskState
  pub there : old.unit ≡ Disk disk
  pub may : IsEngineStart disk.engine (Some place)
  pub rest : new ≡ with_unit old (Disk (record disk { engine = started disk.engine (Some place) }))

-- a disk asks its medium
pub record Asks (request : Request) (old new : Bay) : Type 0 where
  pub disk : DiskState
  pub after : DiskState
  pub there : old.unit ≡ Disk disk
  pub asks : IsRequested disk.engine after.engine (Some request)
  pub others : after ≡ record disk { engine = after.engine }
  pub rest : new ≡ with_unit old (Disk after)

-- what a move of a port is; other moves are none of its
abbrev pub BayDoes : (port : ℕ) → FanOut → Bay → Act → FanOut → Bay → Type 0
BayDoes port fan old (act.Falls n) after new = (n ≡ port) × Falls port fan old after new
BayDoes port fan old (act.Hears n unheard) after new = (n ≡ port) × (after ≡ fan) × Hears unheard old new
BayDoes port fan old (act.Points n) after new = (n ≡ port) × (after ≡ fan) × Points old new
BayDoes port fan old (act.Drops n) after new = (n ≡ port) × (after ≡ fan) × Drops old new
BayDoes port fan old (act.Speaks n out) after new = (n ≡ port) × Speaks port out fan old after new
BayDoes port fan old (act.Starts n place) after new = (n ≡ port) × (after ≡ fan) × Starts place old new
BayDoes port fan old (act.Asks id request) after new =
    (id ≡ record { port = port; disk = old.disk; number = request.number }) × (after ≡ fan) × Asks request old new
BayDoes port fan old other after new = ⊥

abbrev pub BayMayDo : (port : ℕ) → FanOut → Bay → Option Act → FanOut → Bay → Type 0
BayMayDo port fan old None after new = (after ≡ fan) × (new ≡ old)
BayMayDo port fan old (Some act) after new = BayDoes port fan old act after new

-- What a disk sends next, by its kind, and what it is once that was sent to nobody (Serial ATA 3.x, 10.5, FIS
-- types, and 13.6, native command queuing).
use Rattle.std.specs.Prelude.{◌%◌, ◌==◌, ◌&&◌, Bool, if◌then◌else◌, [], ◌∷◌, length, Option, not, Some, None, is_some, is_none}
use Rattle.disk_model.specs.{declared.{disk.quiet.Due.Due, request.Command.Command}, Disks.{DiskValue, Moment, Turn, after_turn, turn, with_now}}
use Rattle.disk_model.specs.Sendings.{Sending, Register, SetsBits, SetsUp, Activates, SetsUpPio, Carries}
use Rattle.disk_model.specs.declared.disk.quiet.Due.TheVariants as due

-- the disk was and is this, and a write starts in between
abbrev pub starts_write : (old new : Moment) → Bool
starts_write old new = is_none old.writing && is_some new.writing

-- The kind of a FIS that is sent. ERR is bit 0 of Status. A DMA Setup that starts a write is a kind of its own.
abbrev pub kind_of : (old new : Moment) → Sending → Due
kind_of old new (Register v) = due.Register
kind_of old new (SetsBits v) = if v.status % 2 == 1 then due.Failed else due.Ended
kind_of old new (SetsUp v) = if starts_write old new then due.Start else due.Setup
kind_of old new Activates = due.Activate
kind_of old new (SetsUpPio v) = due.Page
kind_of old new (Carries bytes) = due.Data

abbrev pub due_by : Moment → Turn → Option Due
due_by m None = None
due_by m (Some t) = Some (kind_of m t.1 t.0)

-- the kind of what the disk sends next
abbrev pub due_in : DiskValue → Option Due
due_in d = due_by d.now (turn d.plan d.sectors d.now)

-- the disk, once it has sent what it sends next
abbrev pub after_next : DiskValue → DiskValue
after_next d = with_now d (after_turn d.now (turn d.plan d.sectors d.now))

-- no command is queued, no answer is owed, no transfer runs, and the disk takes commands and is in no reset
abbrev pub is_at_rest : Moment → Bool
is_at_rest m =
    (length m.queued == 0) && (length m.owed == 0) && is_none m.fault && is_none m.started && is_none m.writing
    && not m.resetting

-- a disk at rest, once this command was queued and its Register FIS was sent
abbrev pub begun_with : DiskValue → Command → DiskValue
begun_with d c = with_now d (record d.now { queued = c ∷ [] })

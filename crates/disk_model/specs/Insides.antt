-- How the fields of a disk are seen.
use Rattle.std.specs.Prelude.{ℕ, ◌≡◌, ◌≢◌, ◌+◌, ◌-◌, ◌*◌, ◌<◌, ◌≤◌, ◌&&◌, min, nat_le, nat_lt, Bool, true, false, if◌then◌else◌, List, [], ◌∷◌}
use Rattle.std.specs.{Prelude.{length, drop, Option, Some, None, All, vec_capacity, ◌⊎◌}, Option.option_map_or}
use Rattle.disk_model.specs.declared.{request.Command.Command, disk.{Disk.TheInside.Inside, Transfer.{Transfer, TheVariants.{Idle, Read, Write}}}}
use Rattle.disk_model.specs.{declared.{disk.Reading.Reading, plan.DiskPlan.DiskPlan}, Sendings.{Sending, Shows}, Chunks.{sends_left, asks_for}}
use Rattle.disk_model.specs.{Chunks.chunks, Requests.IsCounted, Disks.{Moment, Started, Writing, DiskValue, turn}, Runs.Gave}
use Rattle.fis_view.specs.Frames.{Stamped}

-- what a read still sends, with its bytes read from the medium
abbrev pub sends_of : DiskPlan → List ℕ → Reading → Bool → List Sending
sends_of plan medium r false = sends_left plan medium r.command r.left
sends_of plan medium r true = drop 1 (sends_left plan medium r.command r.left)

abbrev pub started_by : DiskPlan → List ℕ → Transfer → Option Started
started_by plan medium Idle = None
started_by plan medium (Write w) = None
started_by plan medium (Read r) =
    Some (record { command = r.command; sends = sends_of plan medium r r.set_up })

-- the write, with its bytes in the buffer
abbrev pub writing_by : DiskPlan → List ℕ → Transfer → Option Writing
writing_by plan staged Idle = None
writing_by plan staged (Read r) = None
writing_by plan staged (Write w) =
    Some (record {
      command = w.command;
      sends = drop w.gone (asks_for plan w.command w.left);
      left = w.left;
      staged = staged;
    })

abbrev pub seen_as : Inside → DiskValue
seen_as d = record {
  plan = d.plan;
  sectors = d.sectors;
  now = record {
    medium = d.medium.items;
    queued = d.queue.items;
    fault = d.fault;
    resetting = d.resetting;
    owed = d.answers.items;
    started = started_by d.plan d.medium.items d.transfer;
    writing = writing_by d.plan d.staged.items d.transfer;
  };
}

-- a transfer lies within the disk, has a chunk to move, and is no longer than a command can say
abbrev pub IsTransfer : DiskPlan → ℕ → Transfer → Type 0
IsTransfer plan sectors Idle = Unit {0}
IsTransfer plan sectors (Write w) =
    (0 < w.left) × (w.left ≤ chunks plan w.command) × (w.command.lba + w.command.count ≤ sectors)
    × (w.command.count ≤ 65536)
IsTransfer plan sectors (Read r) =
    (0 < r.left) × (r.left ≤ chunks plan r.command) × (r.command.lba + r.command.count ≤ sectors)
    × (r.command.count ≤ 65536)

-- the buffer has the length of the write
abbrev pub IsStaged : List ℕ → Transfer → Type 0
IsStaged staged Idle = Unit {0}
IsStaged staged (Read r) = Unit {0}
IsStaged staged (Write w) = length staged ≡ 512 * w.command.count

pub record IsDisk (d : Inside) : Type 0 where
  pub medium : length d.medium.items ≡ 512 * d.sectors
  pub low : 512 ≤ d.plan.chunk
  pub high : d.plan.chunk ≤ 8192
  pub counts : All (λ c. IsCounted c) d.queue.items
  pub staged : IsStaged d.staged.items d.transfer
  pub transfer : IsTransfer d.plan d.sectors d.transfer
  -- there is room for 64 answers, and for 32 commands, one for each tag
  pub answers : 64 ≤ d.answers.cap
  pub queue : 32 ≤ vec_capacity d.queue

-- So many answers wait, or so many commands are queued, that more may need memory. A page takes two of the 64
-- places.
abbrev pub IsFull : Moment → Type 0
IsFull m = (63 ≤ length m.owed) ⊎ (32 ≤ length m.queued)

-- the disk is full, and is to owe more than before
pub record WantsRoom (old new : Moment) : Type 0 where
  pub full : IsFull old
  pub more : length old.owed < length new.owed

-- what a read sends after its next FIS
abbrev pub sends_after : DiskPlan → List ℕ → Reading → Bool → List Sending
sends_after plan medium r false = sends_of plan medium r true
sends_after plan medium r true = sends_left plan medium r.command (r.left - 1)

-- these bytes show the first FIS of the list, and these are the others
abbrev pub Leads : List Sending → List ℕ → List Sending → Type 0
Leads [] bytes later = ⊥
Leads (s ∷ rest) bytes later = Shows s bytes × (rest ≡ later)

-- a read after its next FIS
abbrev pub moved_to : Reading → Bool → Reading
moved_to r false = record { command = r.command; left = r.left; set_up = true }
moved_to r true = record { command = r.command; left = r.left - 1; set_up = false }

abbrev pub moved : Reading → Reading
moved r = moved_to r r.set_up

-- it is the disk's turn to send
abbrev pub HasTurn : DiskValue → Type 0
HasTurn d = turn d.plan d.sectors d.now ≢ None

-- what a call that sends gives, and what it leaves
abbrev pub Gives : DiskValue → Option Stamped → DiskValue → Type 0
Gives old None new = (turn old.plan old.sectors old.now ≡ None) × (new ≡ old)
Gives old (Some frame) new = Gave old frame.bytes new

-- ---- the search for a bad sector

-- the sector is a sector of the command
abbrev pub is_of : Command → ℕ → Bool
is_of c lba = nat_le c.lba lba && nat_lt (lba - c.lba) c.count

-- the lower of what was found and this one
abbrev pub lower_of : Option ℕ → ℕ → ℕ
lower_of found bad = option_map_or (λ lowest. min lowest bad) found bad

-- the lowest bad sector of the command found so far, with one more bad sector
abbrev pub lower_bad : Command → Option ℕ → ℕ → Option ℕ
lower_bad c found bad = if is_of c bad then Some (lower_of found bad) else found

-- The chunks in which a disk moves the data of a queued command (Serial ATA 3.x, 10.5.9, DMA Setup FIS, and
-- 13.6, native command queuing), and what keeps it from moving them (ACS-3, READ and WRITE FPDMA QUEUED,
-- errors).
use Rattle.std.specs.Prelude.{ℕ, zero, suc, ◌+◌, ◌-◌, ◌*◌, ◌/◌, ◌==◌, min, not, nat_lt, Bool, true, false, List, [], ◌∷◌, ◌++◌, drop, take, length}
use Rattle.std.specs.{Prelude.{if◌then◌else◌, Option, Some, None, option_map}, List.{find, list_any, range_with_len}}
use Rattle.disk_model.specs.{declared.{request.Command.Command, answer.Fault.{Fault, TheVariants.Failed}, plan.DiskPlan.DiskPlan}, Sendings.Sending}
use Rattle.disk_model.specs.Sendings.{Activates, Carries, setup, bits}

-- how many chunks a command has
abbrev pub chunks : DiskPlan → Command → ℕ
chunks plan c = (c.count + (plan.chunk / 512 - 1)) / (plan.chunk / 512)

-- the number of the chunk that comes when left chunks are left, counted upwards
abbrev pub chunk_at : DiskPlan → Command → (left : ℕ) → ℕ
chunk_at plan c left = (if plan.last_first then left - 1 else chunks plan c - left)

-- its first sector within the command, and its number of sectors
abbrev pub chunk_from : DiskPlan → Command → (left : ℕ) → ℕ
chunk_from plan c left = chunk_at plan c left * (plan.chunk / 512)

abbrev pub chunk_count : DiskPlan → Command → (left : ℕ) → ℕ
chunk_count plan c left = min (plan.chunk / 512) (c.count - chunk_from plan c left)

-- count sectors of the medium
abbrev pub sectors_at : List ℕ → (lba count : ℕ) → List ℕ
sectors_at medium lba count = take (512 * count) (drop (512 * lba) medium)

-- bytes with others put over them, from a place on
abbrev pub put : List ℕ → (at : ℕ) → List ℕ → List ℕ
put xs at ys = take at xs ++ ys ++ drop (at + length ys) xs

-- the DMA Setup of a chunk; that of a read goes to the host
abbrev pub chunk_setup : DiskPlan → Command → (left : ℕ) → Sending
chunk_setup plan c left =
    setup c.tag (512 * chunk_from plan c left) (512 * chunk_count plan c left) (not c.write) plan.auto

-- What a read sends when left chunks are left: the DMA Setup and the Data of each (Serial ATA 3.x, first
-- party DMA).
unfoldable pub sends_left : DiskPlan → List ℕ → Command → (left : ℕ) → List Sending
sends_left plan medium c zero = []
sends_left plan medium c (suc k) =
    chunk_setup plan c (suc k) ∷ Carries (sectors_at medium (c.lba + chunk_from plan c (suc k))
    (chunk_count plan c (suc k))) ∷ sends_left plan medium c k

-- what asks for the data of a write after its DMA Setup: nothing, if that has auto-activate
abbrev pub activations : (auto : Bool) → List Sending
activations true = []
activations false = Activates ∷ []

-- what a write sends before a chunk
abbrev pub asks_for : DiskPlan → Command → (left : ℕ) → List Sending
asks_for plan c left = chunk_setup plan c left ∷ activations plan.auto

-- the sector is one of the bad ones
abbrev pub is_bad : List ℕ → ℕ → Bool
is_bad bads lba = list_any (λ bad. bad == lba) bads

-- the first bad sector of the command
unfoldable pub first_bad : Command → List ℕ → Option ℕ
first_bad c bads = find (is_bad bads) (range_with_len c.lba c.count)

-- Why a command cannot be done: it passes the end (IDNF, at its own LBA), or it reads a bad sector (UNC, at
-- the first one).
abbrev pub fault_of : DiskPlan → ℕ → Command → Option Fault
fault_of plan sectors c =
    if nat_lt sectors (c.lba + c.count) then Some (Failed c.tag 0x10 c.lba)
    else if c.write then None
    else option_map (λ bad. Failed c.tag 0x40 bad) (first_bad c plan.bad.items)

-- the Error of a fault
abbrev pub error_of : Fault → ℕ
error_of (Failed tag error lba) = error
error_of _ = 0

-- the Set Device Bits FIS that reports a fault: no tag is answered
abbrev pub report : Fault → Sending
report fault = bits 0x41 (error_of fault) 0

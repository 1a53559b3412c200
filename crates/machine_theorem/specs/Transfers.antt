-- A command that moves sectors, and is not queued, is answered only by its end, or by an error (ACS-3, 4, protocols; Serial ATA 3.x, 10.5, Register Device to
-- Host).
use Rattle.std.specs.Prelude.{ℕ, ◌≡◌, ◌⊎◌, ◌&&◌, Bool, true, false, List, ◌∷◌, ◌++◌, Some, Result, Ok}
use Rattle.fis_view.specs.{Seen.seen, Table.{H2d, Command, field}, declared.view.{Fis.Fis, FisFault.FisFault}}
use Rattle.fis_view.specs.declared.view.Fis.TheVariants as view
use Rattle.ata_command.specs.{Opcodes.opcode_of, declared.opcode.Opcode.Opcode}
use Rattle.ata_command.specs.declared.opcode.Opcode.TheVariants as code
use Rattle.ata_reply.specs.declared.reply.Reply.{Reply}
use Rattle.ata_reply.specs.declared.reply.Reply.TheVariants as replies
use Rattle.disk_pages.specs.declared.profile.Profile.{Profile}
use Rattle.sata_disk.specs.{Hearing.is_command, Sending.IsOut, State.new_disk, declared.out.Out.Out}
use Rattle.sata_disk.specs.declared.out.Out.TheVariants as out
use Rattle.sata_disk_laws.specs.{Calls.{AreCalls, Call, Hears}, Laws.reached, Once.{host_of, new_host}}
use Rattle.machine_theorem.specs.InTurn.{AreKeptOn, IsIdle, answered_in, heard_in, is_answer}

-- READ DMA, WRITE DMA, READ SECTOR(S), WRITE SECTOR(S), READ MULTIPLE, WRITE MULTIPLE and READ VERIFY SECTOR(S), with their EXT and FUA forms
abbrev pub is_transfer : Opcode → Bool
is_transfer (code.Transfer t) = true
is_transfer other = false

abbrev pub transfers : Result Fis FisFault → Bool
transfers (Ok (view.RegH2D f)) = is_command f && is_transfer (opcode_of (field H2d Command f))
transfers other = false

-- a FIS is such a command
abbrev pub is_transferring : List ℕ → Bool
is_transferring bytes = transfers (seen bytes)

-- a disk says that a command failed
abbrev pub fails_by : Reply → Bool
fails_by (replies.Failed f) = true
fails_by other = false

abbrev pub fails : Out → Bool
fails (out.Own r) = fails_by r
fails (out.Of place r) = fails_by r
fails other = false

-- The command is heard while the host waits for nothing, and no other is heard or answered since. So an answer that goes next says that it ended well, or
-- that it failed.
abbrev pub TransfersEndSo : Type 0
TransfersEndSo = (p : Profile) (limit : ℕ) (before : List Call) (bytes : List ℕ) (later : List Call)
    → AreCalls (new_disk p limit) (before ++ Hears bytes ∷ later) → is_transferring bytes ≡ true → IsIdle (host_of new_host before)
    → AreKeptOn later → heard_in later ≡ 0 → answered_in later ≡ 0
    → (o : Out) → IsOut (reached p limit (before ++ Hears bytes ∷ later)) (Some o) → is_answer o ≡ true
    → (o ≡ out.Of 32 replies.Done) ⊎ (fails o ≡ true)

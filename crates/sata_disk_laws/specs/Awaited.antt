-- The command that is not queued, and moves sectors, is under way at a disk only while its host waits for its end; and a FIS of a command goes only while
-- this is under way (ACS-3, 4, protocols; Serial ATA 3.x, 11, device command layer).
use Rattle.std.specs.Prelude.{ℕ, ◌≡◌, true, List, Some}
use Rattle.ata_reply.specs.declared.reply.Reply.{Reply}
use Rattle.disk_pages.specs.declared.profile.Profile.{Profile}
use Rattle.sata_disk.specs.{Sending.IsOut, State.{IsBeside, commands, is_taken, new_disk}}
use Rattle.sata_disk.specs.declared.out.Out.TheVariants as out
use Rattle.sata_disk_laws.specs.{Calls.{AreCalls, Call}, Laws.reached, Once.{host_of, is_for_data, new_host}}

-- in every run: it waits for the end, or for the Data that end it
abbrev pub SinglesAreAwaited : Type 0
SinglesAreAwaited = (p : Profile) (limit : ℕ) (calls : List Call) → AreCalls (new_disk p limit) calls
    → is_taken (commands (reached p limit calls)) 32 ≡ true → is_for_data (host_of new_host calls).waits ≡ true

-- and a FIS that goes next, and is of the command of a place
abbrev pub OutsAreUnderWay : Type 0
OutsAreUnderWay = (p : Profile) (limit : ℕ) (calls : List Call) (place : ℕ) (r : Reply) → AreCalls (new_disk p limit) calls
    → IsOut (reached p limit calls) (Some (out.Of place r)) → is_taken (commands (reached p limit calls)) place ≡ true

-- a command beside the queue, FLUSH CACHE or DATA SET MANAGEMENT, is under way only while the disk waits for its end
abbrev pub AsidesAreAwaited : Type 0
AsidesAreAwaited = (p : Profile) (limit : ℕ) (calls : List Call) → AreCalls (new_disk p limit) calls
    → IsBeside (reached p limit calls).front.task (reached p limit calls).engine.stage

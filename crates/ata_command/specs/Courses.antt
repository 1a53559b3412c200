-- Which commands may stand beside which (Serial ATA 3.x, 13.6, native command queuing; ACS-3, 4.16), and the software reset
-- (Serial ATA 3.x, 11.4).
use Rattle.std.specs.{Prelude.{ℕ, ◌/◌, ◌%◌, ◌==◌, ◌&&◌, nat_lt, Bool, true, false, not, List, Option, Some, None, if◌then◌else◌}, Int.bit_at}
use Rattle.fis_view.specs.Table.{H2d, Control, field}
use Rattle.ata_command.specs.declared.{asked.Asked.{Asked, TheVariants.{Moves, ReadsLog, Refused}}, control.Course.{Course, TheVariants.Drop}}
use Rattle.ata_command.specs.declared.control.{Course.TheVariants.{Refuse, AbortAll, Take}, Standing.Standing}
use Rattle.ata_command.specs.declared.control.Standing.TheVariants as standing

-- it is a tag, and in none of these
abbrev pub is_tag_free : (tags place : ℕ) → Bool
is_tag_free tags place = nat_lt place 32 && (bit_at tags place == 0)

-- the NCQ Command Error log is page 0 of log 10h
abbrev pub is_error_log : Asked → Bool
is_error_log (ReadsLog p) = (p.log == 0x10) && (p.page == 0) && (p.count == 1)
is_error_log _ = false

-- it is a queued command, and its tag is free
abbrev pub is_queued_free : (tags : ℕ) → (tag : Option ℕ) → Bool
is_queued_free tags None = false
is_queued_free tags (Some tag) = is_tag_free tags tag

-- Beside queued commands only another may stand, with a tag that is free; so it may where it is refused for itself, and its error is then
-- that of a queued command. Any other command ends all of them, and its error is of none.
abbrev pub stands_beside : Asked → (tags : ℕ) → Bool
stands_beside (Moves m) tags = is_tag_free tags m.command.place
stands_beside (Refused r) tags = is_queued_free tags r.tag
stands_beside _ tags = false

abbrev pub tag_course : Asked → (tags : ℕ) → Course
tag_course a tags = if stands_beside a tags then Take else AbortAll

-- After an error only the NCQ Command Error log is read; all other commands are refused.
abbrev pub course : Asked → Standing → Course
course a standing.Reset = Drop
course a standing.Single = Drop
course a standing.Error = if is_error_log a then Take else Refuse
course a (standing.Queued tags) = if tags == 0 then Take else tag_course a tags

-- SRST is bit 2 of Control
abbrev pub resets : List ℕ → Bool
resets f = field H2d Control f / 4 % 2 == 1

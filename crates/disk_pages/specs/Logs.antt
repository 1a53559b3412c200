-- The logs that READ LOG EXT reads (ACS-3, 9), each page a list of 512 bytes.
use Rattle.std.specs.Prelude.{ℕ, ◌+◌, ◌/◌, ◌%◌, ◌==◌, ◌&&◌, nat_le, nat_lt, Bool, if◌then◌else◌, List, [], ◌∷◌, take, Option, Some, None}
use Rattle.disk_pages.specs.{Bytes.{at, closed, page_with}, Identity.identity, declared.{profile.Profile.Profile, ncq_error.NcqError.NcqError}}
use Rattle.disk_pages.specs.declared.log.LogPage.{LogPage}
use Rattle.ata_command.specs.declared.settings.Settings.{Settings}
use Rattle.disk_pages.specs.declared.log.LogPage.TheVariants as log

-- Log 00h, the General Purpose Log Directory (9.3): word 0 is its version, and word n the number of pages of log n.
unfoldable pub directory : List ℕ
directory = page_with (at 0 1 ∷ at 0x20 1 ∷ at 0x60 2 ∷ [])

-- Page 00h of log 30h (9.11.2): revision 1 and page 00h in the header of 8 bytes; how many pages the log has; their
-- numbers, 00h and 01h.
unfoldable pub page_list : List ℕ
page_list = page_with (at 0 1 ∷ at 8 2 ∷ at 10 1 ∷ [])

-- Log 10h, the NCQ Command Error log (9.13), but for its checksum. Byte 0 has the tag, byte 2 Status, byte 3 Error, bytes
-- 4 to 6 LBA 23:0, byte 7 Device, bytes 8 to 10 LBA 47:24, bytes 12 and 13 Count.
unfoldable pub failed_bytes : NcqError → List ℕ
failed_bytes e = page_with (
    at 0 e.tag ∷ at 2 0x41 ∷ at 3 e.error
    ∷ at 4 (e.lba % 0x100) ∷ at 5 (e.lba / 0x100 % 0x100) ∷ at 6 (e.lba / 0x10000 % 0x100) ∷ at 7 0x40
    ∷ at 8 (e.lba / 0x1000000 % 0x100) ∷ at 9 (e.lba / 0x100000000 % 0x100) ∷ at 10 (e.lba / 0x10000000000 % 0x100)
    ∷ at 12 (e.count % 0x100) ∷ at 13 (e.count / 0x100) ∷ [])

-- NQ, bit 7 of byte 0: no queued command failed
unfoldable pub unfailed_bytes : List ℕ
unfailed_bytes = page_with (at 0 0x80 ∷ [])

abbrev pub error_bytes : Option NcqError → List ℕ
error_bytes None = unfailed_bytes
error_bytes (Some e) = failed_bytes e

abbrev pub error_log : Option NcqError → List ℕ
error_log error = closed (take 511 (error_bytes error))

-- the bytes of a page; page 01h of log 30h is what IDENTIFY DEVICE gives
abbrev pub log_bytes : Profile → Settings → Option NcqError → LogPage → List ℕ
log_bytes p s error log.Directory = directory
log_bytes p s error log.NcqError = error_log error
log_bytes p s error log.PageList = page_list
log_bytes p s error log.Identity = identity p s

-- the page with this number of this log, if it is there
abbrev pub log_named : (log page : ℕ) → Option LogPage
log_named n page =
    (if n == 0x00 && page == 0 then Some log.Directory
    else (if n == 0x10 && page == 0 then Some log.NcqError
    else (if n == 0x30 && page == 0 then Some log.PageList
    else (if n == 0x30 && page == 1 then Some log.Identity else None))))

-- how many pages a log has
abbrev pub pages_of : (log : ℕ) → ℕ
pages_of n =
    (if n == 0x00 then 1
    else (if n == 0x10 then 1
    else (if n == 0x30 then 2 else 0)))

-- a command reads at least one page, and none that is not there
abbrev pub reads_log : (log first count : ℕ) → Bool
reads_log n first count = nat_lt 0 count && nat_le (first + count) (pages_of n)

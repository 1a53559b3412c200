-- The pages that a disk gives of itself: IDENTIFY DEVICE, READ LOG EXT, SMART READ DATA (ACS-3, 7.12, 7.24, 7.46 and 9).
use Rattle.std.specs.Prelude.{ℕ, ◌≡◌, ◌%◌, ◌^◌, List, replicate, Option, Some, None}
use Rattle.ata_reply.specs.Replies.{code_of}
use Rattle.ata_front.specs.declared.{front.Front.Front, task.{Fault.Fault, Page.Page, Trouble.Trouble}}
use Rattle.ata_front.specs.declared.task.Fault.TheVariants as faults
use Rattle.ata_front.specs.declared.task.Page.TheVariants as pages
use Rattle.disk_pages.specs.{Identity.identity, Logs.{error_log, log_bytes, log_named}, Smart.smart_data, declared.log.LogPage.LogPage}
use Rattle.disk_pages.specs.declared.profile.Profile.{Profile}
use Rattle.disk_pages.specs.declared.log.LogPage.TheVariants as logs
use Rattle.disk_pages.specs.declared.ncq_error.NcqError as ncq

-- what the NCQ Command Error log has of a queued command that failed (ACS-3, 9.13)
pub record IsErrorOf (e : ncq.NcqError) (tag : ℕ) (t : Trouble) : Type 0 where
  pub tagged : e.tag ≡ tag % 32
  pub error : e.error ≡ code_of t.error
  pub lba : e.lba ≡ t.lba % 2 ^ 48
  pub count : e.count ≡ 0

-- what the log is made of: no error where no queued command failed
abbrev pub IsTold : Option Fault → Option ncq.NcqError → Type 0
IsTold (Some (faults.Queued tag t)) (Some e) = IsErrorOf e tag t
IsTold (Some (faults.Queued tag t)) None = ⊥
IsTold fault e = e ≡ None

-- the log tells of no queued command where none failed: a command of another kind ended them all
abbrev pub IsErrorLog : Option Fault → List ℕ → Type 0
IsErrorLog None b = b ≡ error_log None
IsErrorLog (Some faults.Mixed) b = b ≡ error_log None
IsErrorLog (Some (faults.Queued tag t)) b = (e : ncq.NcqError) → IsErrorOf e tag t → b ≡ error_log (Some e)

abbrev pub IsLog : Profile → Front → Option LogPage → List ℕ → Type 0
IsLog p f None b = b ≡ replicate 512 0
IsLog p f (Some logs.NcqError) b = IsErrorLog f.fault b
IsLog p f (Some l) b = b ≡ log_bytes p f.settings None l

abbrev pub IsPage : Profile → Front → Page → List ℕ → Type 0
IsPage p f pages.Identity b = b ≡ identity p f.settings
IsPage p f (pages.Log l) b = IsLog p f (log_named l.log l.page) b
IsPage p f pages.SmartData b = b ≡ smart_data
IsPage p f pages.SmartThresholds b = b ≡ smart_data

-- The NCQ Command Error log says what is told of an error.
use Rattle.std.proofs.Common.{◌≡◌, ℕ, List, take, Some, None, refl, sym, ap, ◌∙◌, subst}
use Rattle.std.specs.Prelude.{Option}
use Rattle.ata_front.specs.declared.{task.Fault.{Fault, TheVariants.{Mixed, Queued}}, front.Front.Front}
use Rattle.disk_pages.specs.{Bytes.closed, Logs.{error_log, failed_bytes, log_bytes}, declared.{log.LogPage.LogPage, profile.Profile.Profile}}
use Rattle.disk_pages.specs.declared.log.LogPage.TheVariants as logs
use Rattle.disk_pages.specs.declared.ncq_error.NcqError as ncq
use Rattle.sata_disk.specs.Pages.{IsErrorLog, IsLog, IsTold}

same_error : (x y : ncq.NcqError) → x.tag ≡ y.tag → x.error ≡ y.error → x.lba ≡ y.lba → x.count ≡ y.count → failed_bytes x ≡ failed_bytes y
unfolding failed_bytes
same_error x y t e l c = rw (t, e, l, c) refl

error_written : (fault : Option Fault) (e : Option ncq.NcqError) (b : List ℕ) → IsTold fault e → b ≡ error_log e → IsErrorLog fault b
error_written None e b told is = is ∙ ap error_log told
error_written (Some Mixed) e b told is = is ∙ ap error_log told
error_written (Some (Queued tag t)) None b told is = absurd told
error_written (Some (Queued tag t)) (Some x) b told is = λ y of. is ∙ ap (λ bytes. closed (take 511 bytes)) (same_error x y
    (told.tagged ∙ sym of.tagged) (told.error ∙ sym of.error) (told.lba ∙ sym of.lba) (told.count ∙ sym of.count))

pub log_written : (p : Profile) (f : Front) (page : LogPage) (e : Option ncq.NcqError) (b : List ℕ) → page ≡ logs.NcqError → IsTold f.fault e
    → b ≡ log_bytes p f.settings e page → IsLog p f (Some page) b
log_written p f page e b same told is =
    let P : LogPage → Type 0 = λ x. b ≡ log_bytes p f.settings e x → IsLog p f (Some x) b in
    subst P (sym same) (λ is'. error_written f.fault e b told is') is

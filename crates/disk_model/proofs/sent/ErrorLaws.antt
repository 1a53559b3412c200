-- For `errors_are_of_their_command`. Each error is that of its command, and the log tells it.
use Rattle.std.proofs.Common.{◌≡◌, ℕ, ◌%◌, ◌^◌, true, List, [], ◌∷◌, ◌++◌, Option, Some, None, drop, refl, ap, sym, subst, ◌∙◌, arith}
use Rattle.fis_view.specs.{Table.{Bits, Error, field}, Seen.seen}
use Rattle.disk_model.specs.declared.{plan.DiskPlan.DiskPlan, request.Command.Command, answer.Answer.{Answer, TheVariants.{Ended, PageData}}}
use Rattle.disk_model.specs.declared.answer.{Fault.{Fault, TheVariants.{Held, Mixed, Failed}}, Page.{Page, TheVariants.{ErrorLog, Identity}}}
use Rattle.disk_model.specs.{Histories.{Happening, Sent}, Pages.{error_log, page_bytes}, Sendings.{Sending, SetsUp, Activates, Carries, Shows}}
use Rattle.disk_model.specs.{Sendings.answer_sent, Chunks.{chunks, chunk_setup, fault_of, report, error_of}, Disks.{Moment, picked}, Runs.IsDiskRun}
use Rattle.disk_model.specs.{Ledger.{Ledger, Moving, Failure, Wanted, LogOf, IdentifyData, IsSize, ledger}, Laws.{Fails, FailsNext, LogsNext, IsPage}}
use Rattle.disk_model.specs.{Laws.ErrsRight, Between.{Agrees, AreWanted, IsIn, IsNoted, IsSized, IsTransfer, IsWanted, Moves, is_page, pages_of}}
use Rattle.disk_model.proofs.agreement.{GeometryLemmas.{chunk_part, some_chunks}, ShowsLemmas.{error_field_tells, end_tells}, FaultLemmas.FaultIs}
use Rattle.disk_model.proofs.agreement.{FaultLemmas.{fault_is, fault_small, can_be_done}, ListenLemmas.page_goes, TransferLemmas.setup_of_chunk}
use Rattle.disk_model.proofs.{agreement.LawLemmas.sized_by, sent.TurnCases.sent_by}

-- ## Pages

mixed_log : error_log (Some Mixed) ≡ error_log None
unfolding error_log
mixed_log = refl

held_log : error_log (Some Held) ≡ error_log None
unfolding error_log
held_log = refl

log_by : (plan : DiskPlan) (sectors : ℕ) (fault : Option Fault) (failure : Option Failure) (later : List Wanted)
    (bytes : List ℕ) → IsNoted plan sectors fault failure → bytes ≡ error_log fault
    → IsPage plan sectors (LogOf failure ∷ later) bytes
log_by plan sectors None None later bytes noted is = is
log_by plan sectors (Some Mixed) None later bytes noted is = is ∙ mixed_log
log_by plan sectors (Some Held) None later bytes noted is = is ∙ held_log
log_by plan sectors (Some (Failed tag error lba)) None later bytes noted is = absurd noted
log_by plan sectors (Some (Failed tag error lba)) (Some f) later bytes (c, turn, tags, fails, same) is =
    let told : LogsNext plan sectors (Some c) error bytes = (lba, fails, is ∙ ap (λ t. error_log (Some (Failed t error lba))) tags) in
    rw (turn, same) told
log_by plan sectors other (Some f) later bytes noted is = absurd noted

page_by : (plan : DiskPlan) (sectors : ℕ) (page : Page) (w : Wanted) (later : List Wanted) (bytes : List ℕ)
    → IsWanted plan sectors page w → bytes ≡ page_bytes sectors plan page → IsPage plan sectors (w ∷ later) bytes
page_by plan sectors (ErrorLog fault) (LogOf failure) later bytes wanted is = log_by plan sectors fault failure later bytes wanted is
page_by plan sectors (ErrorLog fault) IdentifyData later bytes wanted is = absurd wanted
page_by plan sectors Identity (LogOf failure) later bytes wanted is = absurd wanted
page_by plan sectors Identity IdentifyData later bytes wanted is = is

pages_by : (plan : DiskPlan) (sectors : ℕ) (page : Page) (pages : List Page) (ws : List Wanted) (bytes : List ℕ)
    → AreWanted plan sectors (page ∷ pages) ws → bytes ≡ page_bytes sectors plan page → IsPage plan sectors ws bytes
pages_by plan sectors page pages [] bytes are is = absurd are
pages_by plan sectors page pages (w ∷ ws) bytes are is = page_by plan sectors page w ws bytes are.0 is

answers_by : (plan : DiskPlan) (sectors : ℕ) (l : Ledger) (a : Answer) (later : List Answer) (b : List ℕ)
    → (is_page a ≡ true → l.moving ≡ None) → AreWanted plan sectors (pages_of (a ∷ later)) l.pages
    → Shows (answer_sent sectors plan a) b → ErrsRight plan sectors l (seen b)
answers_by plan sectors l (Ended t) later b none are shows = let fine = end_tells (2 ^ (t % 32)) b shows in rw shows.viewed (λ bad. cc (fine, bad))
answers_by plan sectors l (PageData page) later b none are shows =
    let quiet : l.moving ≡ None = none refl in
    let bytes : drop 4 b ≡ page_bytes sectors plan page = ap (drop 4) shows.0 in
    rw (shows.1, quiet) (pages_by plan sectors page (pages_of later) l.pages (drop 4 b) are bytes)
answers_by plan sectors l other later b none are shows = rw shows.viewed tt

-- while a page is owed first, no command's data moves
page_waits : (plan : DiskPlan) (sectors : ℕ) (m : Moment) (l : Ledger) → Agrees plan sectors m l → (a : Answer)
    (later : List Answer) → m.owed ≡ a ∷ later → is_page a ≡ true → l.moving ≡ None
page_waits plan sectors m l agrees a later is page =
    let moves = subst (λ (xs : List Answer). Moves plan sectors m.medium m.queued xs m.started m.writing l.moving) is agrees.moving in
    page_goes plan sectors m.medium m.queued a later m.started m.writing l.moving page moves

-- ## Errors, and commands that start

fails_by : (plan : DiskPlan) (sectors : ℕ) (c : Command) (f : Fault) (error : ℕ) → FaultIs plan sectors c f → error ≡ error_of f
    → FailsNext plan sectors (Some c) error
fails_by plan sectors c (Failed tag e lba) error is same = (lba, subst (λ n. Fails plan sectors c n lba) (sym same) is.1)
fails_by plan sectors c other error is same = absurd is

error_by : (plan : DiskPlan) (sectors : ℕ) (l : Ledger) (queued : List Command) (c : Command) (f : Fault) (b : List ℕ)
    → l.outstanding ≡ queued → picked plan.order queued ≡ Some c → fault_of plan sectors c ≡ Some f → l.moving ≡ None
    → Shows (report f) b → ErrsRight plan sectors l (seen b)
error_by plan sectors l queued c f b out turn is none shows =
    let fault = fault_is plan sectors c f is in
    let told = error_field_tells (error_of f) b (fault_small plan sectors c f fault) shows in
    let next : FailsNext plan sectors (picked plan.order l.outstanding) (field Bits Error b) = rw (out, turn) (fails_by plan sectors c f (field Bits Error b) fault told) in
    rw shows.viewed (λ bad. (none, next))

start_by : (plan : DiskPlan) (sectors : ℕ) (l : Ledger) (queued : List Command) (c : Command) (b : List ℕ)
    → IsSized plan → l.outstanding ≡ queued → picked plan.order queued ≡ Some c → IsIn queued c
    → fault_of plan sectors c ≡ None → l.moving ≡ None → Shows (chunk_setup plan c (chunks plan c)) b
    → ErrsRight plan sectors l (seen b)
start_by plan sectors l queued c b sized out turn here is none shows =
    let can = can_be_done plan sectors c is in
    let more = some_chunks plan c sized.low here.some in
    let told = setup_of_chunk plan c (chunks plan c) b (chunk_part plan c (chunks plan c) sized.low here.some more (omega arith)) here.few here.tag shows in
    rw (shows.viewed, none, out, turn) (told.tag_is, can)

goes_by : (plan : DiskPlan) (sectors : ℕ) (l : Ledger) (now : Moving) (x : Sending) (b : List ℕ) → l.moving ≡ Some now
    → IsTransfer x → Shows x b → ErrsRight plan sectors l (seen b)
goes_by plan sectors l now (SetsUp f) b is moves shows = rw (shows.viewed, is) tt
goes_by plan sectors l now Activates b is moves shows = rw shows.viewed tt
goes_by plan sectors l now (Carries bytes) b is moves shows = rw (shows.1, is) tt
goes_by plan sectors l now other b is moves shows = absurd moves

pub errs_right : (plan : DiskPlan) (sectors : ℕ) (h : List Happening) (b : List ℕ) → IsSize plan sectors
    → IsDiskRun plan sectors (h ++ Sent b ∷ []) → ErrsRight plan sectors (ledger h) (seen b)
errs_right plan sectors h b size run = sent_by plan sectors h b _ size run (λ agrees. record {
  answers = λ a later is shows. answers_by plan sectors (ledger h) a later b (λ page. page_waits plan sectors _ _ agrees a later is page) (subst (λ (xs : List Answer). AreWanted plan sectors (pages_of xs) (ledger h).pages) is agrees.pages) shows;
  fails = λ c f turn is none shows. error_by plan sectors (ledger h) _ c f b agrees.outstanding turn is none shows;
  starts = λ c turn here is none shows. start_by plan sectors (ledger h) _ c b (sized_by plan sectors size) agrees.outstanding turn here is none shows;
  goes_on = λ now x is moves shows. goes_by plan sectors (ledger h) now x b is moves shows;
})

-- For `disks_are_watched_to_their_errors`. What a FIS that goes down, but for a reset, and any that goes up leave of
-- the ledger: SRST, and whether a signature is awaited.
use Rattle.std.proofs.Common.{◌≡◌, ◌==◌, ◌*◌, ◌+◌, ◌&&◌, ℕ, Bool, true, false, List, [], ◌∷◌, ◌++◌, drop, length, refl, sym, ap, subst, ◌∙◌, Option, Some, None, Ok, Result}
use Rattle.std.specs.{Prelude.{if◌then◌else◌, find}, List.list_any}
use Rattle.fis_view.specs.{Table.{Bits, BufferId, Error, Offset, Setup, field}, Seen.seen, declared.{view.Fis.Fis, view.FisFault.FisFault}}
use Rattle.fis_view.specs.Table as table
use Rattle.fis_view.specs.declared.view.Fis.TheVariants as view
use Rattle.disk_model.specs.declared.request.Command.{Command}
use Rattle.disk_model.specs.{declared.request.Request.{Request, TheVariants.{Reset, Queue, ReadErrorLog, Identify, Flush, Other}}, Chunks.put}
use Rattle.disk_model.specs.{Ends.{Fits, FitsRequest, reports}, Histories.{Happening, Received, Sent}}
use Rattle.disk_model.specs.Ledger.{Accepts, Finishes, IdentifyData, Ledger, LogOf, Moving, Refuses, Reply, ShowsPage, activates, answered, answers}
use Rattle.disk_model.specs.Ledger.{asks, awaits, awaits_page, ends, has_error, is_auto, ledger, listens_down, listens_up, mixes, moves, opens}
use Rattle.disk_model.specs.{Ledger.{reads_log, refuses, sends_data, sets_up, starts_moving, takes_data, with_auto}, Requests.request_of}
use Rattle.disk_model.proofs.Door.{ledger_push}
use Rattle.disk_simulation.specs.{Line.{EachReply, IsNoSignature, IsUnsigned}, Watched.{IsErred, IsPlain, IsPlainRequest}}

-- ## Answers

pub each_push : (P : Reply → Type 0) (xs : List Reply) (reply : Reply) → EachReply P xs → P reply → EachReply P (xs ++ reply ∷ [])
each_push P [] reply each one = (one, tt)
each_push P (x ∷ xs) reply each one = (each.0, each_push P xs reply each.1 one)

pub each_drop : (P : Reply → Type 0) (xs : List Reply) → EachReply P xs → EachReply P (drop 1 xs)
each_drop P [] each = tt
each_drop P (x ∷ xs) each = each.1

-- ## What stays

-- SRST is as it was, and a signature is awaited only where it was
pub record Stays (k new : Ledger) : Type 0 where
  pub resetting : new.resetting ≡ k.resetting
  pub unsigned : IsUnsigned k → IsUnsigned new

-- SRST is as it was, and nothing more is awaited
pub record LeavesReplies (k new : Ledger) : Type 1 where
  pub resetting : new.resetting ≡ k.resetting
  pub each : (P : Reply → Type 0) → EachReply P k.awaited → EachReply P new.awaited

leaves_same : (k : Ledger) → LeavesReplies k k
leaves_same k = record { resetting = refl; each = λ P all. all }

stays_same : (k : Ledger) → Stays k k
stays_same k = record { resetting = refl; unsigned = λ none. none }

stays_mixed : (k x : Ledger) (cs : List Command) → Stays k x → Stays k (mixes k x cs)
stays_mixed k x [] stays = stays
stays_mixed k x (c ∷ cs) stays = record { resetting = refl; unsigned = λ none. (tt, tt) }

stays_refused : (k : Ledger) → Stays k (refuses k)
stays_refused k =
    stays_mixed k (awaits k Refuses) k.outstanding (record { resetting = refl; unsigned = λ none. each_push IsNoSignature k.awaited Refuses none tt })

stays_opened : (k : Ledger) (c : Command) (b : Bool) → list_any (λ q. q.tag == c.tag) k.outstanding ≡ b → Stays k (opens k c)
stays_opened k c true is = subst (λ (x : Bool). Stays k (if x then refuses k else awaits (record k { outstanding = k.outstanding ++ c ∷ [] }) Accepts)) (sym is) (stays_refused k)
stays_opened k c false is =
    subst (λ (x : Bool). Stays k (if x then refuses k else awaits (record k { outstanding = k.outstanding ++ c ∷ [] }) Accepts)) (sym is)
    (record { resetting = refl; unsigned = λ none. each_push IsNoSignature k.awaited Accepts none tt })

-- ## What goes down

-- no reset
abbrev pub IsNoReset : Request → Type 0
IsNoReset (Reset on) = ⊥
IsNoReset other = Unit {0}

abbrev pub ResetsNot : Result Fis FisFault → Type 0
ResetsNot (Ok (view.RegH2D f)) = IsNoReset (request_of f)
ResetsNot _ = Unit {0}

stays_logged : (k : Ledger) → Stays k (reads_log k)
stays_logged k =
    stays_mixed k (record (awaits_page k (LogOf k.failure)) { failed = false; failure = None }) k.outstanding
    (record { resetting = refl; unsigned = λ none. each_push IsNoSignature k.awaited ShowsPage none tt })

stays_logged_or_not : (k : Ledger) (b : Bool) → Stays k (if b then k else reads_log k)
stays_logged_or_not k true = stays_same k
stays_logged_or_not k false = stays_logged k

stays_asked : (k : Ledger) (r : Request) (failed : Bool) → IsNoReset r → Stays k (asks k r failed)
stays_asked k (Reset on) failed still = absurd still
stays_asked k ReadErrorLog false still = stays_logged k
stays_asked k ReadErrorLog true still = stays_logged_or_not k k.in_reset
stays_asked k (Queue c) false still = stays_opened k c (list_any (λ q. q.tag == c.tag) k.outstanding) refl
stays_asked k Identify false still =
    stays_mixed k (awaits_page k IdentifyData) k.outstanding
    (record { resetting = refl; unsigned = λ none. each_push IsNoSignature k.awaited ShowsPage none tt })
stays_asked k Flush false still =
    stays_mixed k (awaits k Finishes) k.outstanding (record { resetting = refl; unsigned = λ none. each_push IsNoSignature k.awaited Finishes none tt })
stays_asked k Other false still = stays_refused k
stays_asked k other true still = stays_same k

leaves_ended : (k : Ledger) (v : Moving) (write : Bool) → LeavesReplies k (ends k v write)
leaves_ended k v true = record { resetting = refl; each = λ P all. all }
leaves_ended k v false = record { resetting = refl; each = λ P all. all }

leaves_moved_by : (k : Ledger) (v : Moving) (b : Bool) → LeavesReplies k (if b then ends k v v.command.write else record k { moving = Some v })
leaves_moved_by k v true = leaves_ended k v v.command.write
leaves_moved_by k v false = record { resetting = refl; each = λ P all. all }

leaves_moved : (k : Ledger) (v : Moving) (bytes : List ℕ) → LeavesReplies k (moves k v bytes)
leaves_moved k v bytes =
    let w : Moving = record v { bytes = put v.bytes v.offset bytes; moved = v.moved + length bytes; active = false } in
    leaves_moved_by k w (w.moved == 512 * w.command.count)

leaves_taken_by : (k : Ledger) (v : Moving) (bytes : List ℕ) (b : Bool) → LeavesReplies k (if b then moves k v bytes else k)
leaves_taken_by k v bytes true = leaves_moved k v bytes
leaves_taken_by k v bytes false = leaves_same k

pub leaves_taken : (k : Ledger) (v : Option Moving) (bytes : List ℕ) → LeavesReplies k (takes_data k v bytes)
leaves_taken k None bytes = leaves_same k
leaves_taken k (Some v) bytes = leaves_taken_by k v bytes (v.active && (length bytes == v.count))

stays_of : (k new : Ledger) → LeavesReplies k new → Stays k new
stays_of k new leaves = record { resetting = leaves.resetting; unsigned = λ none. leaves.each IsNoSignature none }

pub stays_down : (k : Ledger) (r : Result Fis FisFault) → ResetsNot r → Stays k (listens_down k r)
stays_down k (Ok (view.RegH2D f)) still = stays_asked k (request_of f) k.failed still
stays_down k (Ok (view.Payload f)) still = stays_of k (takes_data k k.moving (drop 4 f)) (leaves_taken k k.moving (drop 4 f))
stays_down k other still = stays_same k

request_no_reset : (r : Request) → IsPlainRequest r → IsNoReset r
request_no_reset (Queue c) plain = tt
request_no_reset Identify plain = tt
request_no_reset Flush plain = tt
request_no_reset other plain = absurd plain

pub plain_no_reset : (r : Result Fis FisFault) → IsPlain r → ResetsNot r
plain_no_reset (Ok (view.RegH2D f)) plain = request_no_reset (request_of f) plain
plain_no_reset (Ok (view.Payload f)) plain = tt
plain_no_reset other plain = absurd plain

fits_request : (k : Ledger) (r : Request) → FitsRequest k r → IsNoReset r
fits_request k (Reset on) fits = absurd fits
fits_request k other fits = tt

-- what fits is no reset
pub fits_no_reset : (k : Ledger) (r : Result Fis FisFault) → Fits k r → ResetsNot r
fits_no_reset k (Ok (view.RegH2D f)) fits = fits_request k (request_of f) fits.1
fits_no_reset k (Ok (view.Payload f)) fits = tt
fits_no_reset k other fits = absurd fits

-- ## What goes up

leaves_started : (k : Ledger) (at count : ℕ) (o : Option Command) → LeavesReplies k (starts_moving k at count o)
leaves_started k at count None = leaves_same k
leaves_started k at count (Some c) = record { resetting = refl; each = λ P all. all }

leaves_set_up : (k : Ledger) (v : Option Moving) (tag at count : ℕ) → LeavesReplies k (sets_up k v tag at count)
leaves_set_up k None tag at count = leaves_started k at count (find (λ c. c.tag == tag) k.outstanding)
leaves_set_up k (Some v) tag at count = record { resetting = refl; each = λ P all. all }

leaves_active : (k : Ledger) (v : Option Moving) → LeavesReplies k (activates k v)
leaves_active k None = leaves_same k
leaves_active k (Some v) = record { resetting = refl; each = λ P all. all }

-- one after the other
leaves_then : (k x y : Ledger) → LeavesReplies k x → LeavesReplies x y → LeavesReplies k y
leaves_then k x y first next = record { resetting = next.resetting ∙ first.resetting; each = λ P all. next.each P (first.each P all) }

leaves_auto : (b : Bool) (x : Ledger) → LeavesReplies x (with_auto b x)
leaves_auto true x = leaves_active x x.moving
leaves_auto false x = leaves_same x

leaves_sent : (k : Ledger) (v : Option Moving) (bytes : List ℕ) → LeavesReplies k (sends_data k v bytes)
leaves_sent k None bytes = record { resetting = refl; each = λ P all. all }
leaves_sent k (Some v) bytes = leaves_moved k v bytes

leaves_named : (k : Ledger) (e : ℕ) (b : Bool) → LeavesReplies k (answers k e b)
leaves_named k e true = record { resetting = refl; each = λ P all. tt }
leaves_named k e false = record { resetting = refl; each = λ P all. all }

leaves_answered : (k : Ledger) → LeavesReplies k (answered k)
leaves_answered k = record { resetting = refl; each = λ P all. each_drop P k.awaited all }

pub leaves_up : (k : Ledger) (r : Result Fis FisFault) → LeavesReplies k (listens_up k r)
leaves_up k (Ok (view.DmaSetup f)) =
    let x : Ledger = sets_up k k.moving (field Setup BufferId f) (field Setup Offset f) (field Setup table.Count f) in
    leaves_then k x (with_auto (is_auto f) x) (leaves_set_up k k.moving (field Setup BufferId f) (field Setup Offset f) (field Setup table.Count f))
    (leaves_auto (is_auto f) x)
leaves_up k (Ok (view.DmaActivate f)) = leaves_active k k.moving
leaves_up k (Ok (view.Payload f)) = leaves_sent k k.moving (drop 4 f)
leaves_up k (Ok (view.SetBits f)) = leaves_named k (field Bits Error f) (has_error f)
leaves_up k (Ok (view.RegD2H f)) = leaves_answered k
leaves_up k (Ok (view.PioSetup f)) = leaves_answered k
leaves_up k other = leaves_same k

pub stays_up : (k : Ledger) (r : Result Fis FisFault) → Stays k (listens_up k r)
stays_up k r = stays_of k (listens_up k r) (leaves_up k r)

-- ## One happening more

pub stays_received : (disk : List Happening) (bytes : List ℕ) → ResetsNot (seen bytes) → Stays (ledger disk) (ledger (disk ++ Received bytes ∷ []))
stays_received disk bytes still = subst (Stays (ledger disk)) (sym (ledger_push disk (Received bytes))) (stays_down (ledger disk) (seen bytes) still)

pub stays_gone : (disk : List Happening) (bytes : List ℕ) → Stays (ledger disk) (ledger (disk ++ Sent bytes ∷ []))
stays_gone disk bytes = subst (Stays (ledger disk)) (sym (ledger_push disk (Sent bytes))) (stays_up (ledger disk) (seen bytes))

-- ## The error mode

errs_by : (k : Ledger) (e : ℕ) (b : Bool) → b ≡ true → IsErred (answers k e b)
errs_by k e true is = record { rests = record { outstanding = refl; unanswered = refl; awaited = refl; pages = refl; moving = refl }; failed = refl; awake = refl }
errs_by k e false is = cc is

errs : (k : Ledger) (r : Result Fis FisFault) → reports r ≡ true → IsErred (listens_up k r)
errs k (Ok (view.SetBits f)) is = errs_by k (field Bits Error f) (has_error f) is
errs k other is = cc is

-- a disk that reports an error is in its error mode
pub erred_now : (disk : List Happening) (error : List ℕ) → reports (seen error) ≡ true → IsErred (ledger (disk ++ Sent error ∷ []))
erred_now disk error is = subst IsErred (sym (ledger_push disk (Sent error))) (errs (ledger disk) (seen error) is)

-- an error ends no write
writes_by : (k : Ledger) (e : ℕ) (b : Bool) → (answers k e b).writes ≡ k.writes
writes_by k e true = refl
writes_by k e false = refl

errs_writes : (k : Ledger) (fis : Result Fis FisFault) → reports fis ≡ true → (listens_up k fis).writes ≡ k.writes
errs_writes k (Ok (view.SetBits f)) is = writes_by k (field Bits Error f) (has_error f)
errs_writes k other is = cc is

pub erred_writes : (disk : List Happening) (error : List ℕ) → reports (seen error) ≡ true
    → (ledger (disk ++ Sent error ∷ [])).writes ≡ (ledger disk).writes
erred_writes disk error is = ap (λ (k : Ledger). k.writes) (ledger_push disk (Sent error)) ∙ errs_writes (ledger disk) (seen error) is

passes : (k : Ledger) (r : Request) (failed : Bool) → failed ≡ true → IsPlainRequest r → asks k r failed ≡ k
passes k (Queue c) true is plain = refl
passes k Identify true is plain = refl
passes k Flush true is plain = refl
passes k (Queue c) false is plain = cc is
passes k Identify false is plain = cc is
passes k Flush false is plain = cc is
passes k other failed is plain = absurd plain

unheard : (k : Ledger) (r : Result Fis FisFault) → IsErred k → IsPlain r → listens_down k r ≡ k
unheard k (Ok (view.RegH2D f)) erred plain = passes k (request_of f) k.failed erred.failed plain
unheard k (Ok (view.Payload f)) erred plain = ap (λ (v : Option Moving). takes_data k v (drop 4 f)) erred.rests.moving
unheard k other erred plain = absurd plain

-- and hears nothing plain then
pub unheard_now : (disk : List Happening) (bytes : List ℕ) → IsErred (ledger disk) → IsPlain (seen bytes) → ledger (disk ++ Received bytes ∷ []) ≡ ledger disk
unheard_now disk bytes erred plain = ledger_push disk (Received bytes) ∙ unheard (ledger disk) (seen bytes) erred plain

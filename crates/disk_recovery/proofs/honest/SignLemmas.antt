-- For `pushes_keep_honest`. A disk that signed has signed, whatever it and the host give afterwards.
use Rattle.std.proofs.Common.{◌≡◌, ◌≢◌, ℕ, ◌+◌, ◌*◌, Bool, true, false, List, [], ◌∷◌, ◌++◌, drop, length, refl, sym, ◌∙◌, ap, subst, Option, Some, None}
use Rattle.std.specs.{Prelude.{if◌then◌else◌, ◌==◌, ◌&&◌, find, Result, Ok}, List.list_any}
use Rattle.std.proofs.lemmas.Bool.{true≢false}
use Rattle.fis_view.specs.{Table.{Bits, BufferId, Offset, Setup, field}, Seen.seen, declared.{view.Fis.Fis, view.FisFault.FisFault}}
use Rattle.fis_view.specs.Table as table
use Rattle.fis_view.specs.declared.view.Fis.TheVariants as view
use Rattle.disk_model.specs.{declared.{request.Command.Command, request.Request.{Request, TheVariants.{Reset, Queue, Flush, Other}}}, Chunks.put}
use Rattle.disk_model.specs.{Ends.{Fits, FitsAll, FitsRequest, IsCareful, reports}, Histories.{Happening, Loaded, Received, Sent}}
use Rattle.disk_model.specs.Ledger.{Accepts, Finishes, Ledger, Moving, Refuses, Reply, ShowsPage, Signs, activates, answers, asks, empty, ends}
use Rattle.disk_model.specs.Ledger.{has_error, is_auto, ledger, ledger_after, listens, listens_down, listens_up, mixes, moves, sends_data, sets_up}
use Rattle.disk_model.specs.{Ledger.{starts_moving, takes_data, with_auto}, Requests.request_of}
use Rattle.hba_laws.specs.History.{History}
use Rattle.disk_simulation.specs.Together.{AtMostAccepts, InTalk, Pages, Queues, Replies, Shows}
use Rattle.disk_recovery.specs.Steady.{HasSigned}

-- ---- lists of happenings

pub ledger_more : (l : Ledger) (given : List Happening) (e : Happening) → ledger_after l (given ++ e ∷ []) ≡ listens (ledger_after l given) e
unfolding ledger_after
ledger_more l [] e = refl
ledger_more l (x ∷ given) e = ledger_more (listens l x) given e

pub fits_last : (l : Ledger) (given : List Happening) (bytes : List ℕ) → FitsAll l (given ++ Received bytes ∷ []) → Fits (ledger_after l given) (seen bytes)
unfolding FitsAll ledger_after
fits_last l [] bytes h = h.0
fits_last l (Received a ∷ given) bytes h = fits_last (listens l (Received a)) given bytes h.1
fits_last l (Loaded a ∷ given) bytes h = absurd h
fits_last l (other ∷ given) bytes h = fits_last (listens l other) given bytes h

-- ---- what goes down

-- another reply than the signature is to come
one_other : (xs : List Reply) (reply : Reply) → xs ≡ [] → reply ≢ Signs → xs ++ reply ∷ [] ≢ Signs ∷ []
one_other xs reply none other is =
    let one : reply ∷ [] ≡ Signs ∷ [] = sym (ap (λ (l : List Reply). l ++ reply ∷ []) none) ∙ is in
    other (first reply one)
  where
    first : (r : Reply) → r ∷ [] ≡ Signs ∷ [] → r ≡ Signs
    first r e = cc

accepts_not : Accepts ≢ Signs
accepts_not e = cc

finishes_not : Finishes ≢ Signs
finishes_not e = cc

refuses_not : Refuses ≢ Signs
refuses_not e = cc

shows_not : ShowsPage ≢ Signs
shows_not e = cc

-- nothing is outstanding, so the command is alone
alone_is : (l alone : Ledger) (cs : List Command) → cs ≡ [] → mixes l alone cs ≡ alone
alone_is l alone [] h = refl
alone_is l alone (c ∷ cs) h = cc

opens_then : (b : Bool) (x y : Ledger) → b ≡ false → (if b then x else y) ≡ y
opens_then true x y h = absurd (true≢false h)
opens_then false x y h = refl

asks_down : (l : Ledger) (request : Request) (failed : Bool) → failed ≡ false → FitsRequest l request → (asks l request failed).awaited ≢ Signs ∷ []
asks_down l request true calm fits = absurd (true≢false calm)
asks_down l (Reset on) false calm fits = absurd fits
asks_down l (Queue c) false calm fits =
    subst (λ (x : Ledger). x.awaited ≢ Signs ∷ []) (sym (opens_then (list_any (λ q. q.tag == c.tag) l.outstanding) _ _ fits.0.outstanding)) (one_other l.awaited Accepts fits.1 accepts_not)
asks_down l Flush false calm fits = subst (λ (x : Ledger). x.awaited ≢ Signs ∷ []) (sym (alone_is l _ l.outstanding fits.outstanding)) (one_other l.awaited Finishes fits.awaited finishes_not)
asks_down l Other false calm fits = subst (λ (x : Ledger). x.awaited ≢ Signs ∷ []) (sym (alone_is l _ l.outstanding fits.outstanding)) (one_other l.awaited Refuses fits.awaited refuses_not)
asks_down l other false calm fits = subst (λ (x : Ledger). x.awaited ≢ Signs ∷ []) (sym (alone_is l _ l.outstanding fits.outstanding)) (one_other l.awaited ShowsPage fits.awaited shows_not)

ends_same : (l : Ledger) (v : Moving) (write : Bool) → (ends l v write).awaited ≡ l.awaited
ends_same l v true = refl
ends_same l v false = refl

goes_same : (b : Bool) (l : Ledger) (v : Moving) → (if b then ends l v v.command.write else record l { moving = Some v }).awaited ≡ l.awaited
goes_same true l v = ends_same l v v.command.write
goes_same false l v = refl

moves_same : (l : Ledger) (v : Moving) (bytes : List ℕ) → (moves l v bytes).awaited ≡ l.awaited
moves_same l v bytes = goes_same (v.moved + length bytes == 512 * v.command.count) l (record v { bytes = put v.bytes v.offset bytes; moved = v.moved + length bytes; active = false })

takes_if : (b : Bool) (l : Ledger) (v : Moving) (bytes : List ℕ) → (if b then moves l v bytes else l).awaited ≡ l.awaited
takes_if true l v bytes = moves_same l v bytes
takes_if false l v bytes = refl

takes_same : (l : Ledger) (o : Option Moving) (bytes : List ℕ) → (takes_data l o bytes).awaited ≡ l.awaited
takes_same l None bytes = refl
takes_same l (Some v) bytes = takes_if (v.active && (length bytes == v.count)) l v bytes

pub signed_down : (l : Ledger) (fis : Result Fis FisFault) → Fits l fis → l.awaited ≢ Signs ∷ [] → (listens_down l fis).awaited ≢ Signs ∷ []
signed_down l (Ok (view.RegH2D f)) fits was = asks_down l (request_of f) l.failed fits.0 fits.1
signed_down l (Ok (view.Payload f)) fits was = λ is. was (sym (takes_same l l.moving (drop 4 f)) ∙ is)
signed_down l other fits was = absurd fits

-- the host gives a FIS that fits
pub signed_given : (given : List Happening) (bytes : List ℕ) → IsCareful (given ++ Received bytes ∷ []) → HasSigned given → HasSigned (given ++ Received bytes ∷ [])
signed_given given bytes careful was is =
    signed_down (ledger given) (seen bytes) (fits_last empty given bytes careful) was (sym (ap (λ (l : Ledger). l.awaited) (ledger_more empty given (Received bytes))) ∙ is)

-- ---- what comes up

starts_same : (l : Ledger) (offset count : ℕ) (o : Option Command) → (starts_moving l offset count o).awaited ≡ l.awaited
starts_same l offset count None = refl
starts_same l offset count (Some c) = refl

sets_same : (l : Ledger) (o : Option Moving) (tag offset count : ℕ) → (sets_up l o tag offset count).awaited ≡ l.awaited
sets_same l None tag offset count = starts_same l offset count (find (λ c. c.tag == tag) l.outstanding)
sets_same l (Some v) tag offset count = refl

activates_same : (l : Ledger) (o : Option Moving) → (activates l o).awaited ≡ l.awaited
activates_same l None = refl
activates_same l (Some v) = refl

auto_same : (b : Bool) (l : Ledger) → (with_auto b l).awaited ≡ l.awaited
auto_same true l = activates_same l l.moving
auto_same false l = refl

sends_same : (l : Ledger) (o : Option Moving) (bytes : List ℕ) → (sends_data l o bytes).awaited ≡ l.awaited
sends_same l None bytes = refl
sends_same l (Some v) bytes = moves_same l v bytes

answers_same : (l : Ledger) (error : ℕ) (b : Bool) → b ≡ false → (answers l error b).awaited ≡ l.awaited
answers_same l error true h = absurd (true≢false h)
answers_same l error false h = refl

none_not : (xs : List Reply) → xs ≡ [] → xs ≢ Signs ∷ []
none_not xs is h = let bad : [] ≡ Signs ∷ [] = sym is ∙ h in cc

accepted : (xs : List Reply) → AtMostAccepts xs → drop 1 xs ≡ []
accepted [] h = refl
accepted (Accepts ∷ []) h = refl
accepted other h = absurd h

none_after : (xs : List Reply) (r : Reply) → xs ≡ r ∷ [] → drop 1 xs ≡ []
none_after xs r is = ap (λ (l : List Reply). drop 1 l) is

-- at most one answer is to come
dropped : (past : History) (l : Ledger) → InTalk past l → drop 1 l.awaited ≡ []
dropped past l (Queues most waits pages) = accepted l.awaited most
dropped past l (Replies reply idle is own pages) = none_after l.awaited reply is
dropped past l (Shows idle is most waits) = none_after l.awaited ShowsPage is
dropped past l (Pages page idle is pages waits) = ap (λ (xs : List Reply). drop 1 xs) is

signed_up : (past : History) (l : Ledger) (fis : Result Fis FisFault) → InTalk past l → reports fis ≡ false → l.awaited ≢ Signs ∷ [] → (listens_up l fis).awaited ≢ Signs ∷ []
signed_up past l (Ok (view.RegD2H f)) talk fine was = none_not (drop 1 l.awaited) (dropped past l talk)
signed_up past l (Ok (view.PioSetup f)) talk fine was = none_not (drop 1 l.awaited) (dropped past l talk)
signed_up past l (Ok (view.DmaSetup f)) talk fine was =
    let x : Ledger = sets_up l l.moving (field Setup BufferId f) (field Setup Offset f) (field Setup table.Count f) in
    λ is. was (sym (auto_same (is_auto f) x ∙ sets_same l l.moving (field Setup BufferId f) (field Setup Offset f) (field Setup table.Count f)) ∙ is)
signed_up past l (Ok (view.DmaActivate f)) talk fine was = λ is. was (sym (activates_same l l.moving) ∙ is)
signed_up past l (Ok (view.Payload f)) talk fine was = λ is. was (sym (sends_same l l.moving (drop 4 f)) ∙ is)
signed_up past l (Ok (view.SetBits f)) talk fine was = λ is. was (sym (answers_same l (field Bits table.Error f) (has_error f) fine) ∙ is)
signed_up past l other talk fine was = was

-- the disk gives a FIS that reports no error
pub signed_sent : (given : List Happening) (past : History) (bytes : List ℕ) → InTalk past (ledger given) → reports (seen bytes) ≡ false → HasSigned given → HasSigned (given ++ Sent bytes ∷ [])
signed_sent given past bytes talk fine was is = signed_up past (ledger given) (seen bytes) talk fine was (sym (ap (λ (l : Ledger). l.awaited) (ledger_more empty given (Sent bytes))) ∙ is)

-- and a Register FIS of it is the signature, or comes after it
pub signed_register : (given : List Happening) (past : History) (bytes f : List ℕ) → InTalk past (ledger given) → seen bytes ≡ Ok (view.RegD2H f) → HasSigned (given ++ Sent bytes ∷ [])
signed_register given past bytes f talk is at =
    let after : (ledger (given ++ Sent bytes ∷ [])).awaited ≡ drop 1 (ledger given).awaited =
    ap (λ (l : Ledger). l.awaited) (ledger_more empty given (Sent bytes)) ∙ ap (λ (r : Result Fis FisFault). (listens_up (ledger given) r).awaited) is in
    none_not (drop 1 (ledger given).awaited) (dropped past (ledger given) talk) (sym after ∙ at)

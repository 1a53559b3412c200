-- For `flushes_go_down`. The FLUSHes of a history and of what goes down to a disk, and what a host that waits for the
-- answer of one tells.
use Rattle.std.proofs.Common.{◌≡◌, ◌≢◌, ◌==◌, ℕ, ◌+◌, ◌*◌, Bool, true, false, List, [], ◌∷◌, ◌++◌, drop, length, refl, sym, ap, subst, ◌∙◌, Option, Some, None, Ok, Result, arith}
use Rattle.std.specs.Prelude.{◌&&◌, find, if◌then◌else◌}
use Rattle.std.proofs.lemmas.Bool.{eqb-true, true≢false}
use Rattle.fis_view.specs.{Seen.seen, Table.{Bits, SActive, Setup, field}, declared.{view.Fis.Fis, view.FisFault.FisFault}}
use Rattle.fis_view.specs.Table as table
use Rattle.fis_view.specs.declared.view.Fis.TheVariants as view
use Rattle.slots.specs.Work.{is_queued}
use Rattle.disk_model.specs.{declared.{request.Command.Command, request.Request.Request}, Chunks.put}
use Rattle.disk_model.specs.{Ends.{AreRight, Fits, FitsRequest, IsRight, PageAsked, Rests, with_down, with_up}, Histories.{Happening, Received, Sent}}
use Rattle.disk_model.specs.Laws.{ActivatesRight, AnswersFirst, SetsUpRight, ShowsFirst, StartsOne}
use Rattle.disk_model.specs.Ledger.{Accepts, Finishes, Ledger, Moving, Names, Refuses, Reply, ShowsPage, answered, ends, goes_on, listens}
use Rattle.disk_model.specs.{Ledger.{listens_down, listens_up, moves, takes_data}, Requests.request_of, Between.{AreFit, alone}}
use Rattle.disk_model.specs.declared.request.Request.TheVariants as asked
use Rattle.disk_model.proofs.Door.{asks_fits, never_empty}
use Rattle.hba_laws.specs.History.{History, Transfer, is_at, issued, waiting_in}
use Rattle.hba_laws.proofs.Door.{some_inj}
use Rattle.disk_simulation.specs.Together.{InTalk, IsWaited, Pages, Queues, Replies, Shows}
use Rattle.disk_recovery.specs.Flushes.{flushes_among, flushes_taken, is_flush, one_if}

-- ---- how many there are

shift : (a b c : ℕ) → a + (b + c) ≡ a + b + c
shift a b c = omega arith

none_first : (m : ℕ) → m ≡ 0 + m
none_first m = omega arith

pub flushes_more : (xs ys : List Happening) → flushes_taken (xs ++ ys) ≡ flushes_taken xs + flushes_taken ys
unfolding flushes_taken
flushes_more [] ys = none_first (flushes_taken ys)
flushes_more (Received bytes ∷ xs) ys =
    ap (λ (m : ℕ). one_if (is_flush (seen bytes)) + m) (flushes_more xs ys)
    ∙ shift (one_if (is_flush (seen bytes))) (flushes_taken xs) (flushes_taken ys)
flushes_more (other ∷ xs) ys = flushes_more xs ys

pub among_more : (xs ys : List (List ℕ)) → flushes_among (xs ++ ys) ≡ flushes_among xs + flushes_among ys
unfolding flushes_among
among_more [] ys = none_first (flushes_among ys)
among_more (bytes ∷ xs) ys =
    ap (λ (m : ℕ). one_if (is_flush (seen bytes)) + m) (among_more xs ys)
    ∙ shift (one_if (is_flush (seen bytes))) (flushes_among xs) (flushes_among ys)

alone_one : (b : Bool) → one_if b + 0 ≡ one_if b
alone_one true = refl
alone_one false = refl

pub taken_one : (bytes : List ℕ) → flushes_taken (Received bytes ∷ []) ≡ one_if (is_flush (seen bytes))
unfolding flushes_taken
taken_one bytes = alone_one (is_flush (seen bytes))

pub taken_sent : (bytes : List ℕ) → flushes_taken (Sent bytes ∷ []) ≡ 0
unfolding flushes_taken
taken_sent bytes = refl

pub among_one : (bytes : List ℕ) → flushes_among (bytes ∷ []) ≡ one_if (is_flush (seen bytes))
unfolding flushes_among
among_one bytes = alone_one (is_flush (seen bytes))

pub among_first : (bytes : List ℕ) (later : List (List ℕ)) → flushes_among (bytes ∷ later) ≡ one_if (is_flush (seen bytes)) + flushes_among later
unfolding flushes_among
among_first bytes later = refl

-- ---- a command that goes down is to be answered

alone_awaits : (l : Ledger) (r : Request) → FitsRequest l r → (alone l r).awaited ≢ []
alone_awaits l (asked.Reset on) fits is = absurd fits
alone_awaits l (asked.Queue c) fits is = never_empty l.awaited Accepts is
alone_awaits l asked.Flush fits is = never_empty l.awaited Finishes is
alone_awaits l asked.Other fits is = never_empty l.awaited Refuses is
alone_awaits l other fits is = never_empty l.awaited ShowsPage is

-- Data leaves what is to be answered
ends_awaited : (l : Ledger) (v : Moving) (b : Bool) → (ends l v b).awaited ≡ l.awaited
ends_awaited l v true = refl
ends_awaited l v false = refl

goes_awaited : (l : Ledger) (v : Moving) → (goes_on l v).awaited ≡ l.awaited
goes_awaited l v = by_test (v.moved == 512 * v.command.count)
  where
    by_test : (b : Bool) → (if b then ends l v v.command.write else record l { moving = Some v }).awaited ≡ l.awaited
    by_test true = ends_awaited l v v.command.write
    by_test false = refl

data_awaited : (l : Ledger) (v : Option Moving) (bytes : List ℕ) → (takes_data l v bytes).awaited ≡ l.awaited
data_awaited l None bytes = refl
data_awaited l (Some v) bytes = by_test (v.active && (length bytes == v.count))
  where
    by_test : (b : Bool) → (if b then moves l v bytes else l).awaited ≡ l.awaited
    by_test true = goes_awaited l (record v { bytes = put v.bytes v.offset bytes; moved = v.moved + length bytes; active = false })
    by_test false = refl

-- what was to be answered still is
one_awaits : (l : Ledger) (fis : Result Fis FisFault) → Fits l fis → l.awaited ≢ [] → (listens_down l fis).awaited ≢ []
one_awaits l (Ok (view.RegH2D f)) fits some =
    subst (λ (x : Ledger). x.awaited ≢ []) (sym (asks_fits l (request_of f) fits.0 fits.1)) (alone_awaits l (request_of f) fits.1)
one_awaits l (Ok (view.Payload f)) fits some = λ none. some (sym (data_awaited l l.moving (drop 4 f)) ∙ none)
one_awaits l other fits some = absurd fits

still_awaits : (l : Ledger) (down : List (List ℕ)) → AreFit l down → l.awaited ≢ [] → (with_down l down).awaited ≢ []
unfolding with_down
still_awaits l [] fit some = some
still_awaits l (bytes ∷ down) fit some = still_awaits (listens l (Received bytes)) down fit.1 (one_awaits l (seen bytes) fit.0 some)

flush_awaits : (l : Ledger) (fis : Result Fis FisFault) → Fits l fis → is_flush fis ≡ true → (listens_down l fis).awaited ≢ []
flush_awaits l (Ok (view.RegH2D f)) fits is =
    subst (λ (x : Ledger). x.awaited ≢ []) (sym (asks_fits l (request_of f) fits.0 fits.1)) (alone_awaits l (request_of f) fits.1)
flush_awaits l (Ok (view.Payload f)) fits is = absurd (true≢false (sym is))
flush_awaits l other fits is = absurd fits

-- so no FLUSH is on its way where nothing is to be answered then
pub none_flushes : (l : Ledger) (down : List (List ℕ)) → AreFit l down → (with_down l down).awaited ≡ [] → flushes_among down ≡ 0
unfolding with_down flushes_among
none_flushes l [] fit none = refl
none_flushes l (bytes ∷ down) fit none =
    by_test (is_flush (seen bytes)) refl (none_flushes (listens l (Received bytes)) down fit.1 none)
  where
    by_test : (b : Bool) → is_flush (seen bytes) ≡ b → flushes_among down ≡ 0 → one_if b + flushes_among down ≡ 0
    by_test true is rest = absurd (still_awaits (listens l (Received bytes)) down fit.1 (flush_awaits l (seen bytes) fit.0 is) none)
    by_test false is rest = omega (arith, rest)

-- ---- a disk sends nothing that tells of anything where nothing is to come

no_setup : (l : Ledger) (f : List ℕ) → l.moving ≡ None → l.outstanding ≡ [] → SetsUpRight l l.moving f → ⊥
no_setup l f none empty right =
    let start : StartsOne (find (λ c. c.tag == field Setup table.BufferId f) l.outstanding) f = subst (λ (v : Option Moving). SetsUpRight l v f) none right in
    subst (λ (cs : List Command). StartsOne (find (λ c. c.tag == field Setup table.BufferId f) cs) f) empty start

quiet_one : (l : Ledger) (fis : Result Fis FisFault) → Rests l → IsRight l fis → listens_up l fis ≡ l
quiet_one l (Ok (view.RegD2H f)) rests right = absurd (subst (λ (xs : List Reply). AnswersFirst xs f) rests.awaited right.replies)
quiet_one l (Ok (view.SetBits f)) rests right =
    absurd (subst (λ (xs : List ℕ). Names xs (field Bits SActive f)) rests.unanswered (right.answers right.fine))
quiet_one l (Ok (view.DmaActivate f)) rests right = absurd (subst (λ (v : Option Moving). ActivatesRight v) rests.moving right.moves)
quiet_one l (Ok (view.DmaSetup f)) rests right = absurd (no_setup l f rests.moving rests.outstanding right.moves)
quiet_one l (Ok (view.PioSetup f)) rests right = absurd (subst (λ (xs : List Reply). ShowsFirst xs f) rests.awaited right.replies)
quiet_one l (Ok (view.Payload f)) rests right =
    absurd (subst (λ (v : Option Moving). PageAsked l v) rests.moving right.asked rests.pages)
quiet_one l other rests right = refl

pub quiet_up : (l : Ledger) (up : List (List ℕ)) → Rests l → AreRight l up → with_up l up ≡ l
unfolding with_up AreRight
quiet_up l [] rests right = refl
quiet_up l (bytes ∷ up) rests right =
    let same : listens l (Sent bytes) ≡ l = quiet_one l (seen bytes) rests right.0 in
    ap (λ (x : Ledger). with_up x up) same ∙ quiet_up l up rests (subst (λ (x : Ledger). AreRight x up) same right.1)

pub first_up : (l : Ledger) (bytes : List ℕ) (up : List (List ℕ)) → with_up l (bytes ∷ up) ≡ with_up (listens l (Sent bytes)) up
unfolding with_up
first_up l bytes up = refl

pub right_later : (l : Ledger) (bytes : List ℕ) (up : List (List ℕ)) → AreRight l (bytes ∷ up) → AreRight (listens l (Sent bytes)) up
unfolding AreRight
right_later l bytes up right = right.1

-- ---- the answer of a command that is not queued leaves nothing to come

module _ (past : History) (k : Ledger) (f : List ℕ) (s : ℕ) (t : Transfer) (replies : AnswersFirst k.awaited f)
    (waits : is_at s (waiting_in past) ≡ true) (here : issued s past ≡ Some t) (kind : is_queued t.work.kind ≡ false) where
  not_queued : IsWaited true past → ⊥
  not_queued w =
      let at : w.slot ≡ s = eqb-true w.slot s (sym (ap (is_at s) w.waits) ∙ waits) in
      let same : w.transfer ≡ t = some_inj w.transfer t (sym w.there ∙ ap (λ (m : ℕ). issued m past) at ∙ here) in
      true≢false (sym w.kind ∙ ap (λ (u : Transfer). is_queued u.work.kind) same ∙ kind)

  by_queue : (xs : List Reply) → k.awaited ≡ xs → (k.awaited ≢ [] → IsWaited true past) → Rests (answered k)
  by_queue [] is goes = absurd (subst (λ (ys : List Reply). AnswersFirst ys f) is replies)
  by_queue (x ∷ xs) is goes = absurd (not_queued (goes (λ none. cc (sym none ∙ is))))

  pub answer_rests : InTalk past k → Rests (answered k)
  answer_rests (Queues few goes none) = by_queue k.awaited refl goes
  answer_rests (Replies reply idle is own none) = record {
    outstanding = idle.outstanding;
    unanswered = idle.unanswered;
    awaited = ap (λ (xs : List Reply). drop 1 xs) is;
    pages = none;
    moving = idle.moving;
  }
  answer_rests (Shows idle is few unset) = absurd (subst (λ (ys : List Reply). AnswersFirst ys f) is replies)
  answer_rests (Pages page idle is one waited) = absurd (subst (λ (ys : List Reply). AnswersFirst ys f) is replies)

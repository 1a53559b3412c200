-- For `ends_tell_the_same`. Both ends of a disk's link tell the same.
use Rattle.std.proofs.Common.{◌≡◌, ◌==◌, eqb, ℕ, Bool, true, false, List, [], ◌∷◌, ◌++◌, Option, Some, None, Ok, Result, drop, refl, ap, sym, subst}
use Rattle.std.proofs.{Common.{◌∙◌}, lemmas.{Bool.{true≢false}, List.Elements.{All-pop}}}
use Rattle.std.specs.Prelude.{All, find}
use Rattle.fis_view.specs.{Table.{Bits, Setup, BufferId, Offset, Error, field}, Seen.seen, declared.view.{Fis.Fis, FisFault.FisFault}}
use Rattle.fis_view.specs.Table as table
use Rattle.fis_view.specs.declared.view.Fis.TheVariants as view
use Rattle.disk_model.specs.declared.{plan.DiskPlan.DiskPlan, request.{Command.Command, Request.{Request, TheVariants.{Reset, Queue}}}}
use Rattle.disk_model.specs.{Histories.{Happening, Received, Sent, Plugged, Loaded}, Requests.request_of, Disks.opening, Runs.IsDiskRun}
use Rattle.disk_model.specs.Ledger.{IsRead, IsSize, Ledger, Moving, ReadOut, activates, answers, asks, empty, ends, goes_on, has_error, is_auto}
use Rattle.disk_model.specs.Ledger.{ledger, ledger_after, listens, listens_down, listens_up, sends_data, sets_up, starts_moving, takes_data}
use Rattle.disk_model.specs.{Ledger.with_auto, Laws.{ErrsRight, IsPage, PageRight}, Ends.{AreRight, DataAsked, EndsAgree, EndsTellTheSame, Fits}}
use Rattle.disk_model.specs.Ends.{FitsAll, FitsData, FitsRequest, IsCareful, IsLinked, IsRight, MovesOther, PageAsked, Rests, begins, comes, gives}
use Rattle.disk_model.specs.{Ends.{reports, sends, takes, with_down, with_up}, Between.{AreApart, AreFit, FitsOne, Ties, after_bytes, alone, is_all}}
use Rattle.disk_model.specs.Between.{opened, with_bytes}
use Rattle.disk_model.proofs.{sent.AnswerLaws.answers_right, both_ends.CrossLemmas.{IsOpen, asks_fits, cross, data_down, free_before, goes_by}}
use Rattle.disk_model.proofs.both_ends.{CrossLemmas.{has_parts, never_empty, open_beside, opened_beside, opens_free}, EntersLemmas.apart_down}
use Rattle.disk_model.proofs.{both_ends.EntersLemmas.{apart_up, entered_by, free_after}, sent.ErrorLaws.errs_right, agreement.LawLemmas.agrees}
use Rattle.disk_model.proofs.{agreement.LawLemmas.{answers_once, last_may}, sent.MovesLemmas.moves_right}

-- ## What a command leaves, if it fits

-- the one before it was answered
waits : (l : Ledger) (r : Request) → FitsRequest l r → l.awaited ≡ []
waits l (Reset on) fits = absurd fits
waits l (Queue c) fits = fits.1
waits l request fits = fits.awaited

-- it is not answered yet
not_answered : (l : Ledger) (r : Request) → FitsRequest l r → (alone l r).awaited ≡ [] → ⊥
not_answered l (Reset on) fits e = fits
not_answered l request fits e = never_empty l.awaited _ e

alone_moving : (l : Ledger) (r : Request) → (alone l r).moving ≡ l.moving
alone_moving l (Reset on) = refl
alone_moving l request = refl

alone_reads : (l : Ledger) (r : Request) → (alone l r).reads ≡ l.reads
alone_reads l (Reset on) = refl
alone_reads l request = refl

-- ## Two that go down, in either order

record Swaps (l : Ledger) (t u : Result Fis FisFault) : Type 0 where
  first : Fits l u
  second : Fits (listens_down l u) t
  same : listens_down (listens_down l t) u ≡ listens_down (listens_down l u) t

-- no Data is asked for while a disk rests
no_data_beside : (l : Ledger) (bytes : List ℕ) → Rests l → FitsData l.moving bytes → ⊥
no_data_beside l bytes rests fits = subst (λ m. FitsData m bytes) rests.moving fits

-- a command, and then Data
record SwapsData (l : Ledger) (r : Request) (bytes : List ℕ) : Type 0 where
  failed : (takes_data l l.moving bytes).failed ≡ false
  fits : FitsRequest (takes_data l l.moving bytes) r
  same : takes_data (asks l r l.failed) (asks l r l.failed).moving bytes ≡ asks (takes_data l l.moving bytes) r (takes_data l l.moving bytes).failed

swap_queue : (l : Ledger) (c : Command) (bytes : List ℕ) (v : Option Moving) → l.moving ≡ v → FitsData v bytes → IsOpen l c → SwapsData l (Queue c) bytes
swap_queue l c bytes None moving asked can = absurd asked
swap_queue l c bytes (Some v) moving asked can =
    let w : Moving = with_bytes v bytes in
    let b : Bool = is_all (with_bytes v bytes) in
    let other : eqb v.command.tag c.tag ≡ false = subst (MovesOther c.tag) moving can.1.moving in
    let down : takes_data l l.moving bytes ≡ after_bytes l w b true = data_down l v bytes b moving asked refl in
    let beside : IsOpen (after_bytes l w b true) c = open_beside l c w b true can other in
    let yet : IsOpen (takes_data l l.moving bytes) c = subst (λ (x : Ledger). IsOpen x c) (sym down) beside in
    let opens : asks l (Queue c) l.failed ≡ opened l c = opens_free l c can.0 can.1.outstanding in
    record {
      failed = yet.0;
      fits = (yet.1, yet.2);
      same =
          ap (λ (x : Ledger). takes_data x x.moving bytes) opens
          ∙ data_down (opened l c) v bytes b moving asked refl
          ∙ opened_beside l c w b true other
          ∙ sym (opens_free (after_bytes l w b true) c beside.0 beside.1.outstanding)
          ∙ ap (λ (x : Ledger). asks x (Queue c) x.failed) (sym down);
    }

swap_data : (l : Ledger) (r : Request) (bytes : List ℕ) → l.failed ≡ false → FitsRequest l r → FitsData l.moving bytes → SwapsData l r bytes
swap_data l (Reset on) bytes failed fits asked = absurd fits
swap_data l (Queue c) bytes failed fits asked = swap_queue l c bytes l.moving refl asked (failed, fits.0, fits.1)
swap_data l request bytes failed fits asked = absurd (no_data_beside l bytes fits asked)

-- what may be given after Data could have been given before it
failed_before : (l : Ledger) (w : Moving) (b : Bool) → (after_bytes l w b true).failed ≡ false → l.failed ≡ false
failed_before l w true e = e
failed_before l w false e = e

open_before : (l : Ledger) (c : Command) (v w : Moving) (b : Bool) → l.moving ≡ Some v → w.command ≡ v.command → IsOpen (after_bytes l w b true) c → IsOpen l c
open_before l c v w true moving same can =
    let parts = has_parts c.tag w.command.tag l.unanswered can.1.unanswered in
    let other : eqb v.command.tag c.tag ≡ false = subst (λ (x : Command). eqb x.tag c.tag ≡ false) same parts.1 in
    (can.0, record { outstanding = free_before c.tag w.command.tag l.outstanding parts.1 can.1.outstanding; unanswered = parts.0; moving = subst (MovesOther c.tag) (sym moving) other }, can.2)
open_before l c v w false moving same can =
    let other : eqb v.command.tag c.tag ≡ false = subst (λ (x : Command). eqb x.tag c.tag ≡ false) same can.1.moving in
    (can.0, record { outstanding = can.1.outstanding; unanswered = can.1.unanswered; moving = subst (MovesOther c.tag) (sym moving) other }, can.2)

no_rest_after : (l : Ledger) (w : Moving) (b : Bool) → Rests (after_bytes l w b true) → ⊥
no_rest_after l w true rests = never_empty l.unanswered w.command.tag rests.unanswered
no_rest_after l w false rests = let e = rests.moving in cc e

request_before : (l : Ledger) (r : Request) (v w : Moving) (b : Bool) → l.moving ≡ Some v → w.command ≡ v.command → (after_bytes l w b true).failed ≡ false → FitsRequest (after_bytes l w b true) r → FitsRequest l r
request_before l (Reset on) v w b moving same failed fits = absurd fits
request_before l (Queue c) v w b moving same failed fits =
    let can : IsOpen l c = open_before l c v w b moving same (failed, fits.0, fits.1) in
    (can.1, can.2)
request_before l request v w b moving same failed fits = absurd (no_rest_after l w b fits)

-- Data, and then a command
record DataSwaps (l : Ledger) (r : Request) (bytes : List ℕ) : Type 0 where
  failed : l.failed ≡ false
  fits : FitsRequest l r
  asked : FitsData (asks l r l.failed).moving bytes
  same : asks (takes_data l l.moving bytes) r (takes_data l l.moving bytes).failed ≡ takes_data (asks l r l.failed) (asks l r l.failed).moving bytes

data_swaps : (l : Ledger) (r : Request) (bytes : List ℕ) (v : Option Moving) → l.moving ≡ v → FitsData v bytes → (takes_data l l.moving bytes).failed ≡ false → FitsRequest (takes_data l l.moving bytes) r → DataSwaps l r bytes
data_swaps l r bytes None moving asked failed fits = absurd asked
data_swaps l r bytes (Some v) moving asked failed fits =
    let w : Moving = with_bytes v bytes in
    let b : Bool = is_all (with_bytes v bytes) in
    let down : takes_data l l.moving bytes ≡ after_bytes l w b true = data_down l v bytes b moving asked refl in
    let was : (after_bytes l w b true).failed ≡ false = subst (λ (x : Ledger). x.failed ≡ false) down failed in
    let before : l.failed ≡ false = failed_before l w b was in
    let might : FitsRequest l r = request_before l r v w b moving refl was (subst (λ (x : Ledger). FitsRequest x r) down fits) in
    let wanted : FitsData l.moving bytes = subst (λ m. FitsData m bytes) (sym moving) asked in
    let moves : (asks l r l.failed).moving ≡ l.moving = ap (λ (x : Ledger). x.moving) (asks_fits l r before might) ∙ alone_moving l r in
    record {
      failed = before;
      fits = might;
      asked = subst (λ m. FitsData m bytes) (sym moves) wanted;
      same = sym (swap_data l r bytes before might wanted).same;
    }

no_two_requests : (l : Ledger) (r q : Request) → l.failed ≡ false → FitsRequest l r → FitsRequest (asks l r l.failed) q → ⊥
no_two_requests l r q failed fits next = not_answered l r fits (sym (ap (λ (x : Ledger). x.awaited) (asks_fits l r failed fits)) ∙ waits (asks l r l.failed) q next)

not_twice : (l : Ledger) (v : Moving) (b : Bool) (bytes more : List ℕ) → FitsData (after_bytes l (with_bytes v bytes) b true).moving more → ⊥
not_twice l v true bytes more asked = asked
not_twice l v false bytes more asked = true≢false (sym asked.asked)

no_two_data : (l : Ledger) (v : Option Moving) (bytes more : List ℕ) → l.moving ≡ v → FitsData v bytes → FitsData (takes_data l l.moving bytes).moving more → ⊥
no_two_data l None bytes more moving asked next = asked
no_two_data l (Some v) bytes more moving asked next =
    not_twice l v (is_all (with_bytes v bytes)) bytes more (subst (λ (x : Ledger). FitsData x.moving more) (data_down l v bytes (is_all (with_bytes v bytes)) moving asked refl) next)

swap_after_request : (l : Ledger) (f : List ℕ) (u : Result Fis FisFault) → Fits l (Ok (view.RegH2D f)) → Fits (listens_down l (Ok (view.RegH2D f))) u → Swaps l (Ok (view.RegH2D f)) u
swap_after_request l f (Ok (view.RegH2D g)) first next = absurd (no_two_requests l (request_of f) (request_of g) first.0 first.1 next.1)
swap_after_request l f (Ok (view.Payload g)) first next =
    let r : Request = request_of f in
    let moves : (asks l r l.failed).moving ≡ l.moving = ap (λ (x : Ledger). x.moving) (asks_fits l r first.0 first.1) ∙ alone_moving l r in
    let wanted : FitsData l.moving (drop 4 g) = subst (λ m. FitsData m (drop 4 g)) moves next in
    let s : SwapsData l r (drop 4 g) = swap_data l r (drop 4 g) first.0 first.1 wanted in
    record { first = wanted; second = (s.failed, s.fits); same = s.same }
swap_after_request l f other first next = absurd next

swap_after_data : (l : Ledger) (f : List ℕ) (u : Result Fis FisFault) → Fits l (Ok (view.Payload f)) → Fits (listens_down l (Ok (view.Payload f))) u → Swaps l (Ok (view.Payload f)) u
swap_after_data l f (Ok (view.RegH2D g)) first next =
    let s : DataSwaps l (request_of g) (drop 4 f) = data_swaps l (request_of g) (drop 4 f) l.moving refl first next.0 next.1 in
    record { first = (s.failed, s.fits); second = s.asked; same = s.same }
swap_after_data l f (Ok (view.Payload g)) first next = absurd (no_two_data l l.moving (drop 4 f) (drop 4 g) refl first next)
swap_after_data l f other first next = absurd next

swap : (l : Ledger) (t u : Result Fis FisFault) → Fits l t → Fits (listens_down l t) u → Swaps l t u
swap l (Ok (view.RegH2D f)) u first next = swap_after_request l f u first next
swap l (Ok (view.Payload f)) u first next = swap_after_data l f u first next
swap l other u first next = absurd first

-- ## Whole lists

-- one goes down past all that come up
record PastUp (l : Ledger) (up : List (List ℕ)) (bytes : List ℕ) : Type 0 where
  same : with_up (listens l (Received bytes)) up ≡ listens (with_up l up) (Received bytes)
  right : AreRight (listens l (Received bytes)) up
  fits : Fits (with_up l up) (seen bytes)

past_up : (l : Ledger) (up : List (List ℕ)) (bytes : List ℕ) → AreRight l up → Fits l (seen bytes) → PastUp l up bytes
unfolding with_up AreRight
past_up l [] bytes right fits = record { same = refl; right = tt; fits = fits }
past_up l (f ∷ up) bytes right fits =
    let c = cross l (seen f) (seen bytes) right.0 fits in
    let rest : PastUp (listens l (Sent f)) up bytes = past_up (listens l (Sent f)) up bytes right.1 c.fits in
    record {
      same = ap (λ (x : Ledger). with_up x up) (sym c.same) ∙ rest.same;
      right = (c.right, subst (λ (x : Ledger). AreRight x up) c.same rest.right);
      fits = rest.fits;
    }

-- one comes up past all that go down
record PastDown (l : Ledger) (down : List (List ℕ)) (bytes : List ℕ) : Type 0 where
  same : with_down (listens l (Sent bytes)) down ≡ listens (with_down l down) (Sent bytes)
  fit : AreFit (listens l (Sent bytes)) down
  right : IsRight (with_down l down) (seen bytes)

past_down : (l : Ledger) (down : List (List ℕ)) (bytes : List ℕ) → IsRight l (seen bytes) → AreFit l down → PastDown l down bytes
unfolding with_down
past_down l [] bytes right fit = record { same = refl; fit = tt; right = right }
past_down l (b ∷ down) bytes right fit =
    let c = cross l (seen bytes) (seen b) right fit.0 in
    let rest : PastDown (listens l (Received b)) down bytes = past_down (listens l (Received b)) down bytes c.right fit.1 in
    record {
      same = ap (λ (x : Ledger). with_down x down) c.same ∙ rest.same;
      fit = (c.fits, subst (λ (x : Ledger). AreFit x down) (sym c.same) rest.fit);
      right = rest.right;
    }

-- one of those that go down comes first
record Picked (l : Ledger) (front : List (List ℕ)) (bytes : List ℕ) (back : List (List ℕ)) : Type 0 where
  fits : Fits l (seen bytes)
  fit : AreFit (listens l (Received bytes)) (front ++ back)
  same : with_down l (front ++ bytes ∷ back) ≡ with_down (listens l (Received bytes)) (front ++ back)

pick : (l : Ledger) (front : List (List ℕ)) (bytes : List ℕ) (back : List (List ℕ)) → AreFit l (front ++ bytes ∷ back) → Picked l front bytes back
unfolding with_down
pick l [] bytes back fit = record { fits = fit.0; fit = fit.1; same = refl }
pick l (a ∷ front) bytes back fit =
    let p : Picked (listens l (Received a)) front bytes back = pick (listens l (Received a)) front bytes back fit.1 in
    let s : Swaps l (seen a) (seen bytes) = swap l (seen a) (seen bytes) fit.0 p.fits in
    record {
      fits = s.first;
      fit = (s.second, subst (λ (x : Ledger). AreFit x (front ++ back)) s.same p.fit);
      same = p.same ∙ ap (λ (x : Ledger). with_down x (front ++ back)) s.same;
    }

-- one more at the end
up_push : (l : Ledger) (up : List (List ℕ)) (bytes : List ℕ) → with_up l (up ++ bytes ∷ []) ≡ listens (with_up l up) (Sent bytes)
unfolding with_up
up_push l [] bytes = refl
up_push l (f ∷ up) bytes = up_push (listens l (Sent f)) up bytes

right_push : (l : Ledger) (up : List (List ℕ)) (bytes : List ℕ) → AreRight l up → IsRight (with_up l up) (seen bytes) → AreRight l (up ++ bytes ∷ [])
unfolding with_up AreRight
right_push l [] bytes all right = (right, tt)
right_push l (f ∷ up) bytes all right = (all.0, right_push (listens l (Sent f)) up bytes all.1 right)

down_push : (l : Ledger) (down : List (List ℕ)) (bytes : List ℕ) → with_down l (down ++ bytes ∷ []) ≡ listens (with_down l down) (Received bytes)
unfolding with_down
down_push l [] bytes = refl
down_push l (b ∷ down) bytes = down_push (listens l (Received b)) down bytes

fit_push : (l : Ledger) (down : List (List ℕ)) (bytes : List ℕ) → AreFit l down → Fits (with_down l down) (seen bytes) → AreFit l (down ++ bytes ∷ [])
unfolding with_down
fit_push l [] bytes all fits = (fits, tt)
fit_push l (b ∷ down) bytes all fits = (all.0, fit_push (listens l (Received b)) down bytes all.1 fits)

pub after_push : (l : Ledger) (history : List Happening) (e : Happening) → ledger_after l (history ++ e ∷ []) ≡ listens (ledger_after l history) e
unfolding ledger_after
after_push l [] e = refl
after_push l (x ∷ history) e = after_push (listens l x) history e

pub ledger_push : (history : List Happening) (e : Happening) → ledger (history ++ e ∷ []) ≡ listens (ledger history) e
ledger_push history e = after_push empty history e

-- ## Careful hosts

pub careful_last : (l : Ledger) (host : List Happening) (e : Happening) → FitsAll l (host ++ e ∷ []) → FitsAll l host × FitsOne (ledger_after l host) e
unfolding FitsAll ledger_after
careful_last l [] (Received bytes) careful = (tt, careful.0)
careful_last l [] (Sent bytes) careful = (tt, tt)
careful_last l [] Plugged careful = (tt, tt)
careful_last l [] (Loaded b) careful = absurd careful
careful_last l (Received b ∷ host) e careful =
    let rest = careful_last (listens l (Received b)) host e careful.1 in
    ((careful.0, rest.0), rest.1)
careful_last l (Sent b ∷ host) e careful = careful_last (listens l (Sent b)) host e careful
careful_last l (Plugged ∷ host) e careful = careful_last (listens l Plugged) host e careful
careful_last l (Loaded b ∷ host) e careful = absurd careful

-- ## Reads

reads_answered : (P : ReadOut → Type 0) (l : Ledger) (e : ℕ) (b : Bool) → All P (answers l e b).reads → All P l.reads
reads_answered P l e true all = all
reads_answered P l e false all = all

reads_activated : (P : ReadOut → Type 0) (l : Ledger) (v : Option Moving) → All P (activates l v).reads → All P l.reads
reads_activated P l None all = all
reads_activated P l (Some v) all = all

reads_started : (P : ReadOut → Type 0) (l : Ledger) (at count : ℕ) (o : Option Command) → All P (starts_moving l at count o).reads → All P l.reads
reads_started P l at count None all = all
reads_started P l at count (Some c) all = all

reads_set_up : (P : ReadOut → Type 0) (l : Ledger) (v : Option Moving) (tag at count : ℕ) → All P (sets_up l v tag at count).reads → All P l.reads
reads_set_up P l None tag at count all = reads_started P l at count (find (λ c. c.tag == tag) l.outstanding) all
reads_set_up P l (Some v) tag at count all = all

reads_auto : (P : ReadOut → Type 0) (l : Ledger) (b : Bool) → All P (with_auto b l).reads → All P l.reads
reads_auto P l true all = reads_activated P l l.moving all
reads_auto P l false all = all

reads_ended : (P : ReadOut → Type 0) (l : Ledger) (v : Moving) (b write : Bool) → All P (after_bytes l v b write).reads → All P l.reads
reads_ended P l v true true all = all
reads_ended P l v true false all = (All-pop P (ends l v false).reads l.reads (Some (record { command = v.command; before = v.before; bytes = v.bytes })) refl all).0
reads_ended P l v false write all = all

reads_sent : (P : ReadOut → Type 0) (l : Ledger) (v : Option Moving) (bytes : List ℕ) → All P (sends_data l v bytes).reads → All P l.reads
reads_sent P l None bytes all = all
reads_sent P l (Some v) bytes all =
    let w : Moving = with_bytes v bytes in
    let same : goes_on l (with_bytes v bytes) ≡ after_bytes l w (is_all w) w.command.write = goes_by l w (is_all w) w.command.write refl refl in
    reads_ended P l w (is_all w) w.command.write (subst (λ (x : Ledger). All P x.reads) same all)

reads_up : (P : ReadOut → Type 0) (l : Ledger) (s : Result Fis FisFault) → All P (listens_up l s).reads → All P l.reads
reads_up P l (Ok (view.SetBits f)) all = reads_answered P l (field Bits Error f) (has_error f) all
reads_up P l (Ok (view.DmaActivate f)) all = reads_activated P l l.moving all
reads_up P l (Ok (view.DmaSetup f)) all =
    reads_set_up P l l.moving (field Setup BufferId f) (field Setup Offset f) (field Setup table.Count f)
    (reads_auto P (sets_up l l.moving (field Setup BufferId f) (field Setup Offset f) (field Setup table.Count f)) (is_auto f) all)
reads_up P l (Ok (view.Payload f)) all = reads_sent P l l.moving (drop 4 f) all
reads_up P l other all = all

pub all_reads_up : (P : ReadOut → Type 0) (l : Ledger) (up : List (List ℕ)) → All P (with_up l up).reads → All P l.reads
unfolding with_up
all_reads_up P l [] all = all
all_reads_up P l (f ∷ up) all = reads_up P l (seen f) (all_reads_up P (listens l (Sent f)) up all)

reads_taken : (l : Ledger) (v : Option Moving) (bytes : List ℕ) → l.moving ≡ v → FitsData v bytes → (takes_data l l.moving bytes).reads ≡ l.reads
reads_taken l None bytes moving asked = absurd asked
reads_taken l (Some v) bytes moving asked = ap (λ (x : Ledger). x.reads) (data_down l v bytes (is_all (with_bytes v bytes)) moving asked refl) ∙ ended (is_all (with_bytes v bytes))
  where
    ended : (b : Bool) → (after_bytes l (with_bytes v bytes) b true).reads ≡ l.reads
    ended true = refl
    ended false = refl

reads_down : (l : Ledger) (t : Result Fis FisFault) → Fits l t → (listens_down l t).reads ≡ l.reads
reads_down l (Ok (view.RegH2D f)) fits = ap (λ (x : Ledger). x.reads) (asks_fits l (request_of f) fits.0 fits.1) ∙ alone_reads l (request_of f)
reads_down l (Ok (view.Payload f)) fits = reads_taken l l.moving (drop 4 f) refl fits
reads_down l other fits = refl

pub all_reads_down : (l : Ledger) (down : List (List ℕ)) → AreFit l down → (with_down l down).reads ≡ l.reads
unfolding with_down
all_reads_down l [] fit = refl
all_reads_down l (b ∷ down) fit = all_reads_down (listens l (Received b)) down fit.1 ∙ reads_down l (seen b) fit.0

-- ## The two ends

tie_begins : Ties (Plugged ∷ []) (Plugged ∷ []) [] []
unfolding with_up with_down AreRight ledger_after
tie_begins = record { same = refl; right = tt; fit = tt; apart = tt }

pub tie_gives : (disk host : List Happening) (down up : List (List ℕ)) (bytes : List ℕ) → Ties disk host down up → Fits (ledger host) (seen bytes) → Ties disk (host ++ Received bytes ∷ []) (down ++ bytes ∷ []) up
tie_gives disk host down up bytes t fits =
    let p : PastUp (ledger host) up bytes = past_up (ledger host) up bytes t.right fits in
    let told : ledger (host ++ Received bytes ∷ []) ≡ listens (ledger host) (Received bytes) = ledger_push host (Received bytes) in
    record {
      same =
          ap (λ (x : Ledger). with_up x up) told
          ∙ p.same
          ∙ ap (λ (x : Ledger). listens x (Received bytes)) t.same
          ∙ sym (down_push (ledger disk) down bytes);
      right = subst (λ (x : Ledger). AreRight x up) (sym told) p.right;
      fit = fit_push (ledger disk) down bytes t.fit (subst (λ (x : Ledger). Fits x (seen bytes)) t.same p.fits);
      apart = subst (λ (x : Ledger). AreApart x x.unanswered) (sym told) (apart_down (ledger host) bytes fits t.apart);
    }

pub tie_comes : (disk host : List Happening) (front back up : List (List ℕ)) (bytes : List ℕ) → Ties disk host (front ++ bytes ∷ back) up → Ties (disk ++ Received bytes ∷ []) host (front ++ back) up
tie_comes disk host front back up bytes t =
    let p : Picked (ledger disk) front bytes back = pick (ledger disk) front bytes back t.fit in
    let told : ledger (disk ++ Received bytes ∷ []) ≡ listens (ledger disk) (Received bytes) = ledger_push disk (Received bytes) in
    record {
      same = t.same ∙ p.same ∙ ap (λ (x : Ledger). with_down x (front ++ back)) (sym told);
      right = t.right;
      fit = subst (λ (x : Ledger). AreFit x (front ++ back)) (sym told) p.fit;
      apart = t.apart;
    }

pub tie_sends : (disk host : List Happening) (down up : List (List ℕ)) (bytes : List ℕ) → Ties disk host down up → IsRight (ledger disk) (seen bytes) → Ties (disk ++ Sent bytes ∷ []) host down (up ++ bytes ∷ [])
tie_sends disk host down up bytes t right =
    let p : PastDown (ledger disk) down bytes = past_down (ledger disk) down bytes right t.fit in
    let told : ledger (disk ++ Sent bytes ∷ []) ≡ listens (ledger disk) (Sent bytes) = ledger_push disk (Sent bytes) in
    record {
      same =
          up_push (ledger host) up bytes
          ∙ ap (λ (x : Ledger). listens x (Sent bytes)) t.same
          ∙ sym p.same
          ∙ ap (λ (x : Ledger). with_down x down) (sym told);
      right = right_push (ledger host) up bytes t.right (subst (λ (x : Ledger). IsRight x (seen bytes)) (sym t.same) p.right);
      fit = subst (λ (x : Ledger). AreFit x down) (sym told) p.fit;
      apart = t.apart;
    }

pub tie_takes : (disk host : List Happening) (down up : List (List ℕ)) (bytes : List ℕ) → Ties disk host down (bytes ∷ up) → Ties disk (host ++ Sent bytes ∷ []) down up
unfolding with_up AreRight
tie_takes disk host down up bytes t =
    let told : ledger (host ++ Sent bytes ∷ []) ≡ listens (ledger host) (Sent bytes) = ledger_push host (Sent bytes) in
    record {
      same = ap (λ (x : Ledger). with_up x up) told ∙ t.same;
      right = subst (λ (x : Ledger). AreRight x up) (sym told) t.right.1;
      fit = t.fit;
      apart = subst (λ (x : Ledger). AreApart x x.unanswered) (sym told) (apart_up (ledger host) bytes t.right.0 t.apart);
    }

page_asked : (plan : DiskPlan) (sectors : ℕ) (l : Ledger) (v : Option Moving) (bytes : List ℕ) → PageRight plan sectors l v bytes → PageAsked l v
page_asked plan sectors l None bytes right = λ e. subst (λ pages. IsPage plan sectors pages bytes) e right
page_asked plan sectors l (Some v) bytes right = tt

data_asked : (plan : DiskPlan) (sectors : ℕ) (l : Ledger) (s : Result Fis FisFault) → ErrsRight plan sectors l s → DataAsked l s
data_asked plan sectors l (Ok (view.Payload f)) right = page_asked plan sectors l l.moving (drop 4 f) right
data_asked plan sectors l other right = tt

module _ (plan : DiskPlan) (sectors : ℕ) (size : IsSize plan sectors) where
  pub sent_right : (disk : List Happening) (bytes : List ℕ) → IsDiskRun plan sectors (disk ++ Sent bytes ∷ []) → reports (seen bytes) ≡ false → IsRight (ledger disk) (seen bytes)
  sent_right disk bytes run fine = record {
    moves = moves_right plan sectors disk bytes size run;
    answers = answers_once plan sectors disk bytes size run;
    replies = answers_right plan sectors disk bytes size run;
    asked = data_asked plan sectors (ledger disk) (seen bytes) (errs_right plan sectors disk bytes size run);
    fine = fine;
  }

  pub run_before : (disk : List Happening) (e : Happening) → IsDiskRun plan sectors (disk ++ e ∷ []) → IsDiskRun plan sectors disk
  run_before disk e run = (last_may plan sectors (opening sectors) disk e run).0

  ties : {disk host : List Happening} {down up : List (List ℕ)} → IsLinked disk host down up → IsDiskRun plan sectors disk → IsCareful host → Ties disk host down up
  ties begins run careful = tie_begins
  ties (gives disk host down up bytes linked) run careful =
      let last = careful_last empty host (Received bytes) careful in
      tie_gives disk host down up bytes (ties linked run last.0) last.1
  ties (comes disk host front back up bytes linked) run careful =
      tie_comes disk host front back up bytes (ties linked (run_before disk (Received bytes) run) careful)
  ties (sends disk host down up bytes fine linked) run careful =
      tie_sends disk host down up bytes (ties linked (run_before disk (Sent bytes) run) careful) (sent_right disk bytes run fine)
  ties (takes disk host down up bytes linked) run careful =
      tie_takes disk host down up bytes (ties linked run (careful_last empty host (Sent bytes) careful).0)

  pub agree : (disk host : List Happening) (down up : List (List ℕ)) → IsDiskRun plan sectors disk → Ties disk host down up → EndsAgree sectors disk host down up
  agree disk host down up run t =
      let read : All (IsRead sectors) (ledger disk).reads = (agrees plan sectors disk size run).reads in
      let below : All (IsRead sectors) (with_down (ledger disk) down).reads = subst (λ (rs : List ReadOut). All (IsRead sectors) rs) (sym (all_reads_down (ledger disk) down t.fit)) read in
      record {
        same = t.same;
        right = t.right;
        reads = all_reads_up (IsRead sectors) (ledger host) up (subst (λ (x : Ledger). All (IsRead sectors) x.reads) (sym t.same) below);
        entered = λ next tag rest is. entered_by (ledger host) (ledger disk) up down tag t.same t.right t.fit (free_after (ledger host) up tag rest next t.right is t.apart);
      }

pub ends_agree : EndsTellTheSame
ends_agree plan sectors disk host down up size run linked careful = agree plan sectors size disk host down up run (ties plan sectors size linked run careful)

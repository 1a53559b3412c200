-- For `ends_tell_the_same_anew`. What was written stays written.
use Rattle.std.proofs.Common.{◌≡◌, ◌==◌, ◌&&◌, ℕ, ◌*◌, Bool, true, false, List, [], ◌∷◌, ◌++◌, append_assoc, Option, Some, None, Ok, Result, drop}
use Rattle.std.proofs.{Common.{length, refl, ap, sym, ◌∙◌}, lemmas.List.{append-nil}}
use Rattle.std.specs.{Prelude.{find, if◌then◌else◌}, List.list_any}
use Rattle.fis_view.specs.{Table.{Bits, BufferId, Error, Offset, Setup, field}, Seen.seen, declared.view.{Fis.Fis, FisFault.FisFault}}
use Rattle.fis_view.specs.Table as table
use Rattle.fis_view.specs.declared.view.Fis.TheVariants as view
use Rattle.disk_model.specs.declared.request.{Command.Command, Request.{Request, TheVariants.{Reset, Queue, ReadErrorLog, Identify, Flush, Other}}}
use Rattle.disk_model.specs.{Histories.{Happening, Received, Sent, Plugged, Loaded}, Requests.request_of, Ledger.{Accepts, Ledger, Moving, Written}}
use Rattle.disk_model.specs.Ledger.{activates, answers, asks, awaits, empty, ends, has_error, is_auto, ledger, ledger_after, listens, listens_down}
use Rattle.disk_model.specs.Ledger.{listens_up, mixes, moves, reads_log, refuses, restarts, sends_data, sets_up, starts_moving, takes_data, with_auto}
use Rattle.disk_model.specs.{Ledger.loaded, Anew.WritesStay, Ends.with_down, Between.with_bytes}
use Rattle.disk_model.proofs.both_ends.AnewLemmas.{after_more}

pub record GoesOn (l x : Ledger) : Type 0 where
  pub later : List Written
  pub same : x.writes ≡ l.writes ++ later

stays : (l x : Ledger) → x.writes ≡ l.writes → GoesOn l x
stays l x same = record { later = []; same = same ∙ sym (append-nil l.writes) }

-- ## What the host sends

mixed : (l x : Ledger) (cs : List Command) → x.writes ≡ l.writes → (mixes l x cs).writes ≡ l.writes
mixed l x [] same = same
mixed l x (c ∷ cs) same = refl

opened_or_not : (l : Ledger) (c : Command) (b : Bool) → (if b then refuses l else awaits (record l { outstanding = l.outstanding ++ c ∷ [] }) Accepts).writes ≡ l.writes
opened_or_not l c true = mixed l _ l.outstanding refl
opened_or_not l c false = refl

restarted : (l : Ledger) (b : Bool) → (restarts l b).writes ≡ l.writes
restarted l true = refl
restarted l false = refl

read_or_not : (l : Ledger) (b : Bool) → (if b then l else reads_log l).writes ≡ l.writes
read_or_not l true = refl
read_or_not l false = mixed l _ l.outstanding refl

asked : (l : Ledger) (r : Request) (failed : Bool) → (asks l r failed).writes ≡ l.writes
asked l (Reset true) failed = refl
asked l (Reset false) failed = restarted l l.resetting
asked l ReadErrorLog true = read_or_not l l.in_reset
asked l (Queue c) false = opened_or_not l c (list_any (λ q. q.tag == c.tag) l.outstanding)
asked l (Queue c) true = refl
asked l Flush true = refl
asked l Identify true = refl
asked l Other true = refl
asked l request false = mixed l _ l.outstanding refl

-- ## How data moves

ended : (l : Ledger) (v : Moving) (write : Bool) → GoesOn l (ends l v write)
ended l v true = record { later = record { tag = v.command.tag; at = 512 * v.command.lba; bytes = v.bytes } ∷ []; same = refl }
ended l v false = stays l (ends l v false) refl

went : (l : Ledger) (v : Moving) (b : Bool) → GoesOn l (if b then ends l v v.command.write else record l { moving = Some v })
went l v true = ended l v v.command.write
went l v false = stays l (record l { moving = Some v }) refl

moved : (l : Ledger) (v : Moving) (bytes : List ℕ) → GoesOn l (moves l v bytes)
moved l v bytes = went l (with_bytes v bytes) ((with_bytes v bytes).moved == 512 * v.command.count)

taken_or_not : (l : Ledger) (v : Moving) (bytes : List ℕ) (b : Bool) → GoesOn l (if b then moves l v bytes else l)
taken_or_not l v bytes true = moved l v bytes
taken_or_not l v bytes false = stays l l refl

taken : (l : Ledger) (v : Option Moving) (bytes : List ℕ) → GoesOn l (takes_data l v bytes)
taken l None bytes = stays l l refl
taken l (Some v) bytes = taken_or_not l v bytes (v.active && (length bytes == v.count))

sent : (l : Ledger) (v : Option Moving) (bytes : List ℕ) → GoesOn l (sends_data l v bytes)
sent l None bytes = stays l (sends_data l None bytes) refl
sent l (Some v) bytes = moved l v bytes

started : (l : Ledger) (offset count : ℕ) (o : Option Command) → (starts_moving l offset count o).writes ≡ l.writes
started l offset count None = refl
started l offset count (Some c) = refl

set_up : (l : Ledger) (v : Option Moving) (tag offset count : ℕ) → (sets_up l v tag offset count).writes ≡ l.writes
set_up l None tag offset count = started l offset count (find (λ c. c.tag == tag) l.outstanding)
set_up l (Some v) tag offset count = refl

activated : (l : Ledger) (v : Option Moving) → (activates l v).writes ≡ l.writes
activated l None = refl
activated l (Some v) = refl

autos : (l : Ledger) (b : Bool) → (with_auto b l).writes ≡ l.writes
autos l true = activated l l.moving
autos l false = refl

answered_so : (l : Ledger) (error : ℕ) (b : Bool) → (answers l error b).writes ≡ l.writes
answered_so l error true = refl
answered_so l error false = refl

-- ## Each happening

down : (l : Ledger) (r : Result Fis FisFault) → GoesOn l (listens_down l r)
down l (Ok (view.RegH2D f)) = stays l (asks l (request_of f) l.failed) (asked l (request_of f) l.failed)
down l (Ok (view.Payload f)) = taken l l.moving (drop 4 f)
down l other = stays l l refl

up : (l : Ledger) (r : Result Fis FisFault) → GoesOn l (listens_up l r)
up l (Ok (view.Payload f)) = sent l l.moving (drop 4 f)
up l (Ok (view.RegD2H f)) = stays l (listens_up l (Ok (view.RegD2H f))) refl
up l (Ok (view.SetBits f)) = stays l (answers l (field Bits Error f) (has_error f)) (answered_so l (field Bits Error f) (has_error f))
up l (Ok (view.DmaActivate f)) = stays l (activates l l.moving) (activated l l.moving)
up l (Ok (view.DmaSetup f)) =
    let up : Ledger = sets_up l l.moving (field Setup BufferId f) (field Setup Offset f) (field Setup table.Count f) in
    stays l (with_auto (is_auto f) up)
    (autos up (is_auto f) ∙ set_up l l.moving (field Setup BufferId f) (field Setup Offset f) (field Setup table.Count f))
up l (Ok (view.PioSetup f)) = stays l (listens_up l (Ok (view.PioSetup f))) refl
up l other = stays l l refl

one : (l : Ledger) (e : Happening) → GoesOn l (listens l e)
one l (Received bytes) = down l (seen bytes)
one l (Sent bytes) = up l (seen bytes)
one l Plugged = stays l (listens l Plugged) refl
one l (Loaded bytes) = record { later = loaded bytes ∷ []; same = refl }

all : (l : Ledger) (history : List Happening) → GoesOn l (ledger_after l history)
unfolding ledger_after
all l [] = stays l l refl
all l (e ∷ history) =
    let first : GoesOn l (listens l e) = one l e in
    let rest : GoesOn (listens l e) (ledger_after (listens l e) history) = all (listens l e) history in
    record {
      later = first.later ++ rest.later;
      same = rest.same ∙ ap (λ (ws : List Written). ws ++ rest.later) first.same ∙ append_assoc l.writes first.later rest.later;
    }

pub down_stays : (l : Ledger) (down : List (List ℕ)) → GoesOn l (with_down l down)
unfolding with_down
down_stays l [] = stays l l refl
down_stays l (bytes ∷ down) =
    let first : GoesOn l (listens l (Received bytes)) = one l (Received bytes) in
    let rest : GoesOn (listens l (Received bytes)) (with_down (listens l (Received bytes)) down) = down_stays (listens l (Received bytes)) down in
    record {
      later = first.later ++ rest.later;
      same = rest.same ∙ ap (λ (ws : List Written). ws ++ rest.later) first.same ∙ append_assoc l.writes first.later rest.later;
    }

pub writes_stay : WritesStay
writes_stay before more =
    let on : GoesOn (ledger before) (ledger_after (ledger before) more) = all (ledger before) more in
    record { later = on.later; same = ap (λ (x : Ledger). x.writes) (after_more empty before more) ∙ on.same }

-- For `reads_have_the_first_writes`. The writes that had ended when a read was started stay the first of all writes
-- in the ledger.
use Rattle.std.proofs.Common.{◌≡◌, ◌==◌, ◌&&◌, ℕ, zero, suc, subst, ◌*◌, Bool, true, false, List, [], ◌∷◌, ◌++◌, append_assoc, Option, Some, None, Ok}
use Rattle.std.proofs.{Common.{Result, drop, length, ap, sym, ◌∙◌}, lemmas.List.{append-nil}}
use Rattle.std.specs.{Prelude.{find, if◌then◌else◌, slice_get}, List.list_any}
use Rattle.fis_view.specs.{Table.{Bits, BufferId, Error, Offset, Setup, field}, Seen.seen, declared.view.{Fis.Fis, FisFault.FisFault}}
use Rattle.fis_view.specs.Table as table
use Rattle.fis_view.specs.declared.view.Fis.TheVariants as view
use Rattle.disk_model.specs.declared.request.{Command.Command, Request.{Request, TheVariants.{Reset, Queue, ReadErrorLog, Identify, Flush, Other}}}
use Rattle.disk_model.specs.{Histories.{Happening, Received, Sent, Plugged, Loaded}, Requests.request_of, Ledger.{Accepts, Ledger, Moving, ReadOut}}
use Rattle.disk_model.specs.Ledger.{Written, activates, answers, asks, awaits, empty, ends, has_error, is_auto, ledger, ledger_after, listens}
use Rattle.disk_model.specs.Ledger.{listens_down, listens_up, mixes, moves, reads_log, refuses, restarts, sends_data, sets_up, starts_moving}
use Rattle.disk_model.specs.{Ledger.{takes_data, with_auto, loaded}, Ends.with_down, Fronts.{BeforeIsFront, HostIsAhead, IsFront}, Between.with_bytes}
use Rattle.disk_model.proofs.both_ends.{EntersLemmas.all_writes_up, WrittenLemmas.{GoesOn, down_stays}}

further : (front whole : List Written) (w : Written) → IsFront front whole → IsFront front (whole ++ w ∷ [])
further front whole w f = record {
  later = f.later ++ w ∷ [];
  same = ap (λ (ws : List Written). ws ++ w ∷ []) f.same ∙ append_assoc front f.later (w ∷ []);
}

abbrev OfMoving : Option Moving → List Written → Type 0
OfMoving None writes = Unit {0}
OfMoving (Some v) writes = IsFront v.before writes

-- one for each read
abbrev Each : List Written → List ReadOut → Type 0
Each writes [] = Unit {0}
Each writes (r ∷ rs) = IsFront r.before writes × Each writes rs

-- for each read that ended, and for the one whose data moves
pub record AreFronts (l : Ledger) : Type 0 where
  pub reads : Each l.writes l.reads
  pub moving : OfMoving l.moving l.writes

all_further : (rs : List ReadOut) (writes : List Written) (w : Written) → Each writes rs
    → Each (writes ++ w ∷ []) rs
all_further [] writes w all = tt
all_further (r ∷ rs) writes w all = (further r.before writes w all.0, all_further rs writes w all.1)

one_more : (rs : List ReadOut) (r : ReadOut) (writes : List Written) → Each writes rs
    → IsFront r.before writes → Each writes (rs ++ r ∷ [])
one_more [] r writes all f = (f, tt)
one_more (q ∷ rs) r writes all f = (all.0, one_more rs r writes all.1 f)

each_at : (writes : List Written) (rs : List ReadOut) (at : ℕ) (r : ReadOut) → slice_get rs at ≡ Some r → Each writes rs → IsFront r.before writes
each_at writes [] at r there all = cc there
each_at writes (q ∷ rs) zero r there all = let same : q ≡ r = cc there in subst (λ (x : ReadOut). IsFront x.before writes) same all.0
each_at writes (q ∷ rs) (suc at) r there all = each_at writes rs at r there all.1

-- ## What the host sends

mixed : (l x : Ledger) (cs : List Command) → AreFronts l → AreFronts x → AreFronts (mixes l x cs)
mixed l x [] f g = g
mixed l x (c ∷ cs) f g = record { reads = f.reads; moving = tt }

opened_or_not : (l : Ledger) (c : Command) (b : Bool) → AreFronts l
    → AreFronts (if b then refuses l else awaits (record l { outstanding = l.outstanding ++ c ∷ [] }) Accepts)
opened_or_not l c true f = mixed l _ l.outstanding f (record { reads = f.reads; moving = f.moving })
opened_or_not l c false f = record { reads = f.reads; moving = f.moving }

restarted : (l : Ledger) (b : Bool) → AreFronts l → AreFronts (restarts l b)
restarted l true f = record { reads = f.reads; moving = f.moving }
restarted l false f = f

read_or_not : (l : Ledger) (b : Bool) → AreFronts l → AreFronts (if b then l else reads_log l)
read_or_not l true f = f
read_or_not l false f = mixed l _ l.outstanding f (record { reads = f.reads; moving = f.moving })

asked : (l : Ledger) (r : Request) (failed : Bool) → AreFronts l → AreFronts (asks l r failed)
asked l (Reset true) failed f = record { reads = f.reads; moving = tt }
asked l (Reset false) failed f = restarted l l.resetting f
asked l ReadErrorLog true f = read_or_not l l.in_reset f
asked l (Queue c) false f = opened_or_not l c (list_any (λ q. q.tag == c.tag) l.outstanding) f
asked l (Queue c) true f = f
asked l Flush true f = f
asked l Identify true f = f
asked l Other true f = f
asked l request false f = mixed l _ l.outstanding f (record { reads = f.reads; moving = f.moving })

-- ## How data moves

ended : (l : Ledger) (v : Moving) (write : Bool) → AreFronts l → IsFront v.before l.writes → AreFronts (ends l v write)
ended l v true f g = record { reads = all_further l.reads l.writes _ f.reads; moving = tt }
ended l v false f g = record {
  reads = one_more l.reads (record { command = v.command; before = v.before; bytes = v.bytes }) l.writes f.reads g;
  moving = tt;
}

went : (l : Ledger) (v : Moving) (b : Bool) → AreFronts l → IsFront v.before l.writes
    → AreFronts (if b then ends l v v.command.write else record l { moving = Some v })
went l v true f g = ended l v v.command.write f g
went l v false f g = record { reads = f.reads; moving = g }

moved : (l : Ledger) (v : Moving) (bytes : List ℕ) → AreFronts l → IsFront v.before l.writes → AreFronts (moves l v bytes)
moved l v bytes f g = went l (with_bytes v bytes) ((with_bytes v bytes).moved == 512 * v.command.count) f g

taken_or_not : (l : Ledger) (v : Moving) (bytes : List ℕ) (b : Bool) → AreFronts l → IsFront v.before l.writes
    → AreFronts (if b then moves l v bytes else l)
taken_or_not l v bytes true f g = moved l v bytes f g
taken_or_not l v bytes false f g = f

taken : (l : Ledger) (v : Option Moving) (bytes : List ℕ) → AreFronts l → OfMoving v l.writes → AreFronts (takes_data l v bytes)
taken l None bytes f g = f
taken l (Some v) bytes f g = taken_or_not l v bytes (v.active && (length bytes == v.count)) f g

sent : (l : Ledger) (v : Option Moving) (bytes : List ℕ) → AreFronts l → OfMoving v l.writes → AreFronts (sends_data l v bytes)
sent l None bytes f g = record { reads = f.reads; moving = f.moving }
sent l (Some v) bytes f g = moved l v bytes f g

started : (l : Ledger) (offset count : ℕ) (o : Option Command) → AreFronts l → AreFronts (starts_moving l offset count o)
started l offset count None f = f
started l offset count (Some c) f = record { reads = f.reads; moving = record { later = []; same = sym (append-nil l.writes) } }

set_up : (l : Ledger) (v : Option Moving) (tag offset count : ℕ) → AreFronts l → OfMoving v l.writes
    → AreFronts (sets_up l v tag offset count)
set_up l None tag offset count f g = started l offset count (find (λ c. c.tag == tag) l.outstanding) f
set_up l (Some v) tag offset count f g = record { reads = f.reads; moving = record { later = g.later; same = g.same } }

activated : (l : Ledger) (v : Option Moving) → AreFronts l → OfMoving v l.writes → AreFronts (activates l v)
activated l None f g = f
activated l (Some v) f g = record { reads = f.reads; moving = record { later = g.later; same = g.same } }

autos : (b : Bool) (l : Ledger) → AreFronts l → AreFronts (with_auto b l)
autos true l f = activated l l.moving f f.moving
autos false l f = f

answered_so : (l : Ledger) (error : ℕ) (b : Bool) → AreFronts l → AreFronts (answers l error b)
answered_so l error true f = record { reads = f.reads; moving = tt }
answered_so l error false f = record { reads = f.reads; moving = f.moving }

-- ## Each happening

down : (l : Ledger) (r : Result Fis FisFault) → AreFronts l → AreFronts (listens_down l r)
down l (Ok (view.RegH2D f)) g = asked l (request_of f) l.failed g
down l (Ok (view.Payload f)) g = taken l l.moving (drop 4 f) g g.moving
down l other g = g

up : (l : Ledger) (r : Result Fis FisFault) → AreFronts l → AreFronts (listens_up l r)
up l (Ok (view.Payload f)) g = sent l l.moving (drop 4 f) g g.moving
up l (Ok (view.RegD2H f)) g = record { reads = g.reads; moving = g.moving }
up l (Ok (view.SetBits f)) g = answered_so l (field Bits Error f) (has_error f) g
up l (Ok (view.DmaActivate f)) g = activated l l.moving g g.moving
up l (Ok (view.DmaSetup f)) g =
    autos (is_auto f) (sets_up l l.moving (field Setup BufferId f) (field Setup Offset f) (field Setup table.Count f))
    (set_up l l.moving (field Setup BufferId f) (field Setup Offset f) (field Setup table.Count f) g g.moving)
up l (Ok (view.PioSetup f)) g = record { reads = g.reads; moving = g.moving }
up l other g = g

one : (l : Ledger) (e : Happening) → AreFronts l → AreFronts (listens l e)
one l (Received bytes) f = down l (seen bytes) f
one l (Sent bytes) f = up l (seen bytes) f
one l Plugged f = record { reads = f.reads; moving = tt }
one l (Loaded bytes) f = record { reads = all_further l.reads l.writes (loaded bytes) f.reads; moving = moving_further l.moving f.moving }
  where
    moving_further : (v : Option Moving) → OfMoving v l.writes → OfMoving v (l.writes ++ loaded bytes ∷ [])
    moving_further None g = tt
    moving_further (Some v) g = further v.before l.writes (loaded bytes) g

all_of : (l : Ledger) (history : List Happening) → AreFronts l → AreFronts (ledger_after l history)
unfolding ledger_after
all_of l [] f = f
all_of l (e ∷ history) f = all_of (listens l e) history (one l e f)

fronts_of : (history : List Happening) → AreFronts (ledger history)
fronts_of history = all_of empty history (record { reads = tt; moving = tt })

pub host_is_ahead : HostIsAhead
host_is_ahead sectors disk host down up ends =
    let on : GoesOn (ledger disk) (with_down (ledger disk) down) = down_stays (ledger disk) down in
    record {
      later = on.later;
      same = sym (all_writes_up (ledger host) up ends.right) ∙ ap (λ (x : Ledger). x.writes) ends.same ∙ on.same;
    }

pub before_is_front : BeforeIsFront
before_is_front history at r there = each_at (ledger history).writes (ledger history).reads at r there (fronts_of history).reads

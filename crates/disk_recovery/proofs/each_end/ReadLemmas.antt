-- For `each_end_is_honest`. A read that ended at the host's end of a disk's link, from where both began anew, ended at
-- the disk.
use Rattle.std.proofs.Common.{◌≡◌, ◌==◌, ◌&&◌, ℕ, zero, suc, ◌+◌, ◌*◌, Bool, true, false, List, [], ◌∷◌, ◌++◌, append_assoc, drop, length, refl, sym}
use Rattle.std.proofs.{Common.{ap, subst, ◌∙◌, Option, Some, None, Result, Ok}, lemmas.List.{append-nil}}
use Rattle.std.specs.{Prelude.{if◌then◌else◌, slice_get, find, replicate}, List.list_any}
use Rattle.fis_view.specs.{Seen.seen, Table.{Bits, BufferId, Error, Offset, Setup, field}, declared.view.{Fis.Fis, FisFault.FisFault}}
use Rattle.fis_view.specs.Table as table
use Rattle.fis_view.specs.declared.view.Fis.TheVariants as view
use Rattle.disk_model.specs.{declared.{plan.DiskPlan.DiskPlan, request.{Command.Command, Request.Request}}, Chunks.put, Anew.IsCarefulSince}
use Rattle.disk_model.specs.{Anew.IsLinkedOn, Ends.{EndsAgree, with_down, with_up}, Histories.{Happening, Plugged, Loaded, Received, Sent}}
use Rattle.disk_model.specs.{Laws.{ActivatesRight, MovesRight, SetsUpNext, SetsUpRight, StartsOne}, Ledger.{Accepts, IsSize, Ledger, Moving, ReadOut}}
use Rattle.disk_model.specs.Ledger.{Refuses, activates, answers, asks, awaits, empty, ends, has_error, is_auto, ledger, ledger_after, listens}
use Rattle.disk_model.specs.Ledger.{listens_down, listens_up, mixes, moves, reads_log, refuses, restarts, sends_data, sets_up, starts_moving}
use Rattle.disk_model.specs.{Ledger.{takes_data, with_auto}, Requests.request_of, Runs.IsDiskRun}
use Rattle.disk_model.specs.declared.request.Request.TheVariants as asked
use Rattle.disk_model.proofs.Door.{ends_agree_anew, moves_right, write_of_auto}
use Rattle.disk_simulation.specs.Followed.{IsFollowed}
use Rattle.disk_simulation.proofs.Door.{run_to}

-- ## What a disk asks for is data of a write

abbrev IsAsked : Option Moving → Type 0
IsAsked None = Prim.Unit {0}
IsAsked (Some v) = v.active ≡ true → v.command.write ≡ true

not_asked : {P : Type 0} → false ≡ true → P
not_asked e = cc e

-- what goes down keeps it, and ends no read
record KeepsReads (l m : Ledger) : Type 0 where
  reads : m.reads ≡ l.reads
  asks : IsAsked m.moving

keep_mixes : (l alone : Ledger) (cs : List Command) → KeepsReads l alone → KeepsReads l (mixes l alone cs)
keep_mixes l alone [] k = k
keep_mixes l alone (c ∷ cs) k = record { reads = refl; asks = tt }

keep_same : (l : Ledger) → IsAsked l.moving → KeepsReads l l
keep_same l a = record { reads = refl; asks = a }

keep_refuses : (l : Ledger) → IsAsked l.moving → KeepsReads l (refuses l)
keep_refuses l a = keep_mixes l (awaits l Refuses) l.outstanding (record { reads = refl; asks = a })

keep_restarts : (l : Ledger) (b : Bool) → IsAsked l.moving → KeepsReads l (restarts l b)
keep_restarts l true a = record { reads = refl; asks = a }
keep_restarts l false a = keep_same l a

keep_opens : (l : Ledger) (c : Command) (b : Bool) → IsAsked l.moving
    → KeepsReads l (if b then refuses l else awaits (record l { outstanding = l.outstanding ++ c ∷ [] }) Accepts)
keep_opens l c true a = keep_refuses l a
keep_opens l c false a = record { reads = refl; asks = a }

keep_logs : (l : Ledger) (b : Bool) → IsAsked l.moving → KeepsReads l (if b then l else reads_log l)
keep_logs l true a = keep_same l a
keep_logs l false a = keep_mixes l _ l.outstanding (record { reads = refl; asks = a })

keep_asks : (l : Ledger) (r : Request) (failed : Bool) → IsAsked l.moving → KeepsReads l (asks l r failed)
keep_asks l (asked.Reset true) failed a = record { reads = refl; asks = tt }
keep_asks l (asked.Reset false) failed a = keep_restarts l l.resetting a
keep_asks l asked.ReadErrorLog true a = keep_logs l l.in_reset a
keep_asks l (asked.Queue c) false a = keep_opens l c (list_any (λ q. q.tag == c.tag) l.outstanding) a
keep_asks l asked.Other false a = keep_refuses l a
keep_asks l other true a = keep_same l a
keep_asks l rest false a = keep_mixes l _ l.outstanding (record { reads = refl; asks = a })

keep_ends : (l : Ledger) (w : Moving) (b : Bool) → b ≡ true → KeepsReads l (ends l w b)
keep_ends l w true is = record { reads = refl; asks = tt }
keep_ends l w false is = not_asked is

keep_goes : (l : Ledger) (w : Moving) (b : Bool) → w.active ≡ false → w.command.write ≡ true
    → KeepsReads l (if b then ends l w w.command.write else record l { moving = Some w })
keep_goes l w true idle writes = keep_ends l w w.command.write writes
keep_goes l w false idle writes = record { reads = refl; asks = λ e. writes }

keep_data : (l : Ledger) (o : Option Moving) (bytes : List ℕ) → IsAsked l.moving → IsAsked o → KeepsReads l (takes_data l o bytes)
keep_data l None bytes a b = keep_same l a
keep_data l (Some v) bytes a b = by_test v.active (length bytes == v.count) refl
  where
    by_test : (x y : Bool) → v.active ≡ x → KeepsReads l (if x && y then moves l v bytes else l)
    by_test true true is =
        keep_goes l (record v { bytes = put v.bytes v.offset bytes; moved = v.moved + length bytes; active = false })
        (v.moved + length bytes == 512 * v.command.count) refl (b is)
    by_test true false is = keep_same l a
    by_test false y is = keep_same l a

keep_down : (l : Ledger) (f : Result Fis FisFault) → IsAsked l.moving → KeepsReads l (listens_down l f)
keep_down l (Ok (view.RegH2D f)) a = keep_asks l (request_of f) l.failed a
keep_down l (Ok (view.Payload f)) a = keep_data l l.moving (drop 4 f) a a
keep_down l _ a = keep_same l a

reads_down : (l : Ledger) (down : List (List ℕ)) → IsAsked l.moving → (with_down l down).reads ≡ l.reads
unfolding with_down
reads_down l [] a = refl
reads_down l (bytes ∷ down) a =
    let k : KeepsReads l (listens_down l (seen bytes)) = keep_down l (seen bytes) a in
    reads_down (listens_down l (seen bytes)) down k.asks ∙ k.reads

-- ## What comes up

asked_ends : (l : Ledger) (w : Moving) (b : Bool) → IsAsked (ends l w b).moving
asked_ends l w true = tt
asked_ends l w false = tt

asked_goes : (l : Ledger) (w : Moving) (b : Bool) → w.active ≡ false
    → IsAsked (if b then ends l w w.command.write else record l { moving = Some w }).moving
asked_goes l w true idle = asked_ends l w w.command.write
asked_goes l w false idle = λ e. not_asked (sym idle ∙ e)

asked_setup : (l : Ledger) (o : Option Moving) (tag offset count : ℕ) → IsAsked l.moving → IsAsked (sets_up l o tag offset count).moving
asked_setup l None tag offset count a = by_found (find (λ c. c.tag == tag) l.outstanding)
  where
    by_found : (q : Option Command) → IsAsked (starts_moving l offset count q).moving
    by_found None = a
    by_found (Some c) = λ e. not_asked e
asked_setup l (Some v) tag offset count a = λ e. not_asked e

asked_activates : (l : Ledger) (o : Option Moving) → ActivatesRight o → IsAsked (activates l o).moving
asked_activates l None right = absurd right
asked_activates l (Some v) right = λ e. right.writes

-- a DMA Setup that is right and has auto-activate is that of a write
asked_auto : (b : Bool) (x : Ledger) (w : Moving) → x.moving ≡ Some w → (b ≡ true → w.command.write ≡ true) → IsAsked x.moving
    → IsAsked (with_auto b x).moving
asked_auto true x w moving writes a = subst (λ (m : Option Moving). IsAsked (activates x m).moving) (sym moving) (λ e. writes refl)
asked_auto false x w moving writes a = a

asked_set_up : (l : Ledger) (f : List ℕ) (m : Option Moving) (o : Option Command) → l.moving ≡ m
    → find (λ c. c.tag == field Setup BufferId f) l.outstanding ≡ o → SetsUpRight l l.moving f → IsAsked l.moving
    → IsAsked (listens_up l (Ok (view.DmaSetup f))).moving
asked_set_up l f None None moving found right a =
    let first : SetsUpRight l None f = subst (λ (m : Option Moving). SetsUpRight l m f) moving right in
    absurd (subst (λ (q : Option Command). StartsOne q f) found first)
asked_set_up l f None (Some q) moving found right a =
    let at = field Setup Offset f in
    let count = field Setup table.Count f in
    let x : Ledger = sets_up l l.moving (field Setup BufferId f) at count in
    let first : SetsUpRight l None f = subst (λ (m : Option Moving). SetsUpRight l m f) moving right in
    let next : SetsUpNext q 0 [] f = subst (λ (q : Option Command). StartsOne q f) found first in
    let now : Moving = record {
      command = q;
      before = l.writes;
      bytes = replicate (512 * q.count) 0;
      moved = 0;
      setups = record { at = at; count = count } ∷ [];
      offset = at;
      count = count;
      active = false;
    } in
    let moves_now : x.moving ≡ Some now =
    ap (λ (m : Option Moving). (sets_up l m (field Setup BufferId f) at count).moving) moving ∙ ap (λ (o : Option Command). (starts_moving l at count o).moving) found in
    asked_auto (is_auto f) x now moves_now (λ auto. write_of_auto (field Setup table.A f) (field Setup table.D f) q.write next.direction auto)
    (asked_setup l l.moving (field Setup BufferId f) at count a)
asked_set_up l f (Some v) o moving found right a =
    let at = field Setup Offset f in
    let count = field Setup table.Count f in
    let x : Ledger = sets_up l l.moving (field Setup BufferId f) at count in
    let right_now : SetsUpRight l (Some v) f = subst (λ (m : Option Moving). SetsUpRight l m f) moving right in
    let next : SetsUpNext v.command v.moved v.setups f = right_now.1 in
    let now : Moving = record v {
      setups = v.setups ++ record { at = at; count = count } ∷ [];
      offset = at;
      count = count;
      active = false;
    } in
    let moves_now : x.moving ≡ Some now =
    ap (λ (m : Option Moving). (sets_up l m (field Setup BufferId f) at count).moving) moving in
    asked_auto (is_auto f) x now moves_now (λ auto. write_of_auto (field Setup table.A f) (field Setup table.D f) v.command.write next.direction auto)
    (asked_setup l l.moving (field Setup BufferId f) at count a)

asked_data : (l : Ledger) (o : Option Moving) (bytes : List ℕ) → IsAsked l.moving → IsAsked (sends_data l o bytes).moving
asked_data l None bytes a = a
asked_data l (Some v) bytes a =
    asked_goes l (record v { bytes = put v.bytes v.offset bytes; moved = v.moved + length bytes; active = false })
    (v.moved + length bytes == 512 * v.command.count) refl

asked_answers : (l : Ledger) (error : ℕ) (b : Bool) → IsAsked l.moving → IsAsked (answers l error b).moving
asked_answers l error true a = tt
asked_answers l error false a = a

asked_up : (l : Ledger) (f : Result Fis FisFault) → MovesRight l f → IsAsked l.moving → IsAsked (listens_up l f).moving
asked_up l (Ok (view.DmaSetup f)) right a =
    asked_set_up l f l.moving (find (λ c. c.tag == field Setup BufferId f) l.outstanding) refl refl right a
asked_up l (Ok (view.DmaActivate f)) right a = asked_activates l l.moving right
asked_up l (Ok (view.Payload f)) right a = asked_data l l.moving (drop 4 f) a
asked_up l (Ok (view.SetBits f)) right a = asked_answers l (field Bits Error f) (has_error f) a
asked_up l _ right a = a

disk_front : (plan : DiskPlan) (sectors : ℕ) (xs ys : List Happening) → IsDiskRun plan sectors (xs ++ ys) → IsDiskRun plan sectors xs
disk_front plan sectors xs ys run = run_to plan sectors (xs ++ ys) xs ys refl run

-- ## A run of a disk

after_one : (l : Ledger) (h : List Happening) (e : Happening) → ledger_after l (h ++ e ∷ []) ≡ listens (ledger_after l h) e
unfolding ledger_after
after_one l [] e = refl
after_one l (x ∷ h) e = after_one (listens l x) h e

told : (h : List Happening) (e : Happening) → ledger (h ++ e ∷ []) ≡ listens (ledger h) e
told h e = after_one empty h e

first_asked : IsAsked (ledger []).moving
unfolding ledger_after
first_asked = tt

asked_none : (l : Ledger) → IsAsked (listens l Plugged).moving
asked_none l = tt

module _ (plan : DiskPlan) (sectors : ℕ) (size : IsSize plan sectors) where
  asked_next : (before : List Happening) (e : Happening) → IsDiskRun plan sectors (before ++ e ∷ []) → IsAsked (ledger before).moving
      → IsAsked (ledger (before ++ e ∷ [])).moving
  asked_next before (Received bytes) run a =
      let k : KeepsReads (ledger before) (listens_down (ledger before) (seen bytes)) = keep_down (ledger before) (seen bytes) a in
      subst (λ (l : Ledger). IsAsked l.moving) (sym (told before (Received bytes))) k.asks
  asked_next before (Sent bytes) run a =
      subst (λ (l : Ledger). IsAsked l.moving) (sym (told before (Sent bytes)))
      (asked_up (ledger before) (seen bytes) (moves_right plan sectors before bytes size run) a)
  asked_next before Plugged run a = subst (λ (l : Ledger). IsAsked l.moving) (sym (told before Plugged)) (asked_none (ledger before))
  asked_next before (Loaded bytes) run a = subst (λ (l : Ledger). IsAsked l.moving) (sym (told before (Loaded bytes))) a

  asked_more : (before later : List Happening) → IsDiskRun plan sectors (before ++ later) → IsAsked (ledger before).moving
      → IsAsked (ledger (before ++ later)).moving
  asked_more before [] run a = subst (λ (xs : List Happening). IsAsked (ledger xs).moving) (sym (append-nil before)) a
  asked_more before (e ∷ later) run a =
      let whole : (before ++ e ∷ []) ++ later ≡ before ++ e ∷ later = append_assoc before (e ∷ []) later in
      let rest : IsDiskRun plan sectors ((before ++ e ∷ []) ++ later) = subst (IsDiskRun plan sectors) (sym whole) run in
      subst (λ (xs : List Happening). IsAsked (ledger xs).moving) whole
      (asked_more (before ++ e ∷ []) later rest (asked_next before e (disk_front plan sectors (before ++ e ∷ []) later rest) a))

-- ## Reads only become more

record HasMore (l m : Ledger) : Type 0 where
  more : List ReadOut
  is : m.reads ≡ l.reads ++ more

none_more : (l m : Ledger) → m.reads ≡ l.reads → HasMore l m
none_more l m same = record { more = []; is = same ∙ sym (append-nil l.reads) }

more_ends : (l : Ledger) (w : Moving) (b : Bool) → HasMore l (ends l w b)
more_ends l w true = none_more l (ends l w true) refl
more_ends l w false = record { more = record { command = w.command; before = w.before; bytes = w.bytes } ∷ []; is = refl }

more_goes : (l : Ledger) (w : Moving) (b : Bool) → HasMore l (if b then ends l w w.command.write else record l { moving = Some w })
more_goes l w true = more_ends l w w.command.write
more_goes l w false = none_more l (record l { moving = Some w }) refl

more_setup : (l : Ledger) (o : Option Moving) (tag offset count : ℕ) → (sets_up l o tag offset count).reads ≡ l.reads
more_setup l None tag offset count = by_found (find (λ c. c.tag == tag) l.outstanding)
  where
    by_found : (q : Option Command) → (starts_moving l offset count q).reads ≡ l.reads
    by_found None = refl
    by_found (Some c) = refl
more_setup l (Some v) tag offset count = refl

more_activates : (l : Ledger) (o : Option Moving) → (activates l o).reads ≡ l.reads
more_activates l None = refl
more_activates l (Some v) = refl

more_auto : (b : Bool) (l : Ledger) → (with_auto b l).reads ≡ l.reads
more_auto true l = more_activates l l.moving
more_auto false l = refl

more_data : (l : Ledger) (o : Option Moving) (bytes : List ℕ) → HasMore l (sends_data l o bytes)
more_data l None bytes = none_more l (sends_data l None bytes) refl
more_data l (Some v) bytes =
    more_goes l (record v { bytes = put v.bytes v.offset bytes; moved = v.moved + length bytes; active = false })
    (v.moved + length bytes == 512 * v.command.count)

more_answers : (l : Ledger) (error : ℕ) (b : Bool) → (answers l error b).reads ≡ l.reads
more_answers l error true = refl
more_answers l error false = refl

more_up : (l : Ledger) (f : Result Fis FisFault) → HasMore l (listens_up l f)
more_up l (Ok (view.DmaSetup f)) =
    let x : Ledger = sets_up l l.moving (field Setup BufferId f) (field Setup Offset f) (field Setup table.Count f) in
    none_more l (with_auto (is_auto f) x)
    (more_auto (is_auto f) x ∙ more_setup l l.moving (field Setup BufferId f) (field Setup Offset f) (field Setup table.Count f))
more_up l (Ok (view.DmaActivate f)) = none_more l (activates l l.moving) (more_activates l l.moving)
more_up l (Ok (view.Payload f)) = more_data l l.moving (drop 4 f)
more_up l (Ok (view.SetBits f)) = none_more l (answers l (field Bits Error f) (has_error f)) (more_answers l (field Bits Error f) (has_error f))
more_up l (Ok (view.RegD2H f)) = none_more l (listens_up l (Ok (view.RegD2H f))) refl
more_up l (Ok (view.PioSetup f)) = none_more l (listens_up l (Ok (view.PioSetup f))) refl
more_up l _ = none_more l l refl

all_more : (l : Ledger) (up : List (List ℕ)) → HasMore l (with_up l up)
unfolding with_up
all_more l [] = none_more l l refl
all_more l (bytes ∷ up) =
    let one : HasMore l (listens_up l (seen bytes)) = more_up l (seen bytes) in
    let rest : HasMore (listens_up l (seen bytes)) (with_up (listens_up l (seen bytes)) up) = all_more (listens_up l (seen bytes)) up in
    record {
      more = one.more ++ rest.more;
      is = rest.is ∙ ap (λ (xs : List ReadOut). xs ++ rest.more) one.is ∙ append_assoc l.reads one.more rest.more;
    }

-- ## Both ends

front_get : (xs more : List ReadOut) (at : ℕ) (r : ReadOut) → slice_get xs at ≡ Some r → slice_get (xs ++ more) at ≡ Some r
front_get [] more at r is = cc is
front_get (x ∷ xs) more zero r is = is
front_get (x ∷ xs) more (suc at) r is = front_get xs more at r is

ended_linked : (plan : DiskPlan) (sectors : ℕ) (base disk host : List Happening) (down stale up : List (List ℕ)) → IsSize plan sectors
    → IsDiskRun plan sectors disk
    → IsLinkedOn base disk host down stale up → IsCarefulSince base host → (at : ℕ) (r : ReadOut) → slice_get (ledger host).reads at ≡ Some r
    → slice_get (ledger disk).reads at ≡ Some r
ended_linked plan sectors base disk host down stale up size run linked careful at r is =
    let agree : EndsAgree sectors disk host down up = ends_agree_anew plan sectors base disk host down stale up size run linked careful in
    let m : HasMore (ledger host) (with_up (ledger host) up) = all_more (ledger host) up in
    let asks : IsAsked (ledger disk).moving = asked_more plan sectors size [] disk run first_asked in
    let whole : (ledger disk).reads ≡ (ledger host).reads ++ m.more =
    sym (reads_down (ledger disk) down asks) ∙ sym (ap (λ (l : Ledger). l.reads) agree.same) ∙ m.is in
    subst (λ (xs : List ReadOut). slice_get xs at ≡ Some r) (sym whole) (front_get (ledger host).reads m.more at r is)

-- ## At a disk that is followed

opens_more : (l : Ledger) → HasMore l (listens l Plugged)
opens_more l = none_more l (listens l Plugged) refl

module _ (plan : DiskPlan) (sectors : ℕ) (size : IsSize plan sectors) where
  one_more : (before : List Happening) (e : Happening) → IsAsked (ledger before).moving → HasMore (ledger before) (listens (ledger before) e)
  one_more before (Received bytes) a =
      none_more (ledger before) (listens_down (ledger before) (seen bytes)) (keep_down (ledger before) (seen bytes) a).reads
  one_more before (Sent bytes) a = more_up (ledger before) (seen bytes)
  one_more before Plugged a = opens_more (ledger before)
  one_more before (Loaded bytes) a = none_more (ledger before) (listens (ledger before) (Loaded bytes)) refl

  -- reads that ended stay so, whatever the disk does later
  reads_stay : (before later : List Happening) → IsDiskRun plan sectors (before ++ later) → IsAsked (ledger before).moving
      → HasMore (ledger before) (ledger (before ++ later))
  reads_stay before [] run a = none_more (ledger before) (ledger (before ++ [])) (ap (λ (xs : List Happening). (ledger xs).reads) (append-nil before))
  reads_stay before (e ∷ later) run a =
      let whole : (before ++ e ∷ []) ++ later ≡ before ++ e ∷ later = append_assoc before (e ∷ []) later in
      let rest : IsDiskRun plan sectors ((before ++ e ∷ []) ++ later) = subst (IsDiskRun plan sectors) (sym whole) run in
      let one : HasMore (ledger before) (listens (ledger before) e) = one_more before e a in
      let on : HasMore (ledger (before ++ e ∷ [])) (ledger ((before ++ e ∷ []) ++ later)) =
      reads_stay (before ++ e ∷ []) later rest (asked_next plan sectors size before e (disk_front plan sectors (before ++ e ∷ []) later rest) a) in
      record {
        more = one.more ++ on.more;
        is = sym (ap (λ (xs : List Happening). (ledger xs).reads) whole) ∙ on.is
            ∙ ap (λ (l : Ledger). l.reads ++ on.more) (told before e)
            ∙ ap (λ (xs : List ReadOut). xs ++ on.more) one.is
            ∙ append_assoc (ledger before).reads one.more on.more;
      }

pub ended_followed : (plan : DiskPlan) (sectors : ℕ) (base disk host : List Happening) (down stale up : List (List ℕ)) → IsSize plan sectors
    → IsDiskRun plan sectors disk
    → IsFollowed base disk host down stale up → IsCarefulSince base host → (at : ℕ) (r : ReadOut) → slice_get (ledger host).reads at ≡ Some r
    → slice_get (ledger disk).reads at ≡ Some r
ended_followed plan sectors base disk host down stale up size run f careful at r is =
    let runs : IsDiskRun plan sectors (f.followed ++ f.later) = subst (IsDiskRun plan sectors) f.disk_is run in
    let first : IsDiskRun plan sectors f.followed = disk_front plan sectors f.followed f.later runs in
    let there : slice_get (ledger f.followed).reads at ≡ Some r =
    ended_linked plan sectors base f.followed host f.below stale f.before size first f.linked careful at r is in
    let m : HasMore (ledger f.followed) (ledger (f.followed ++ f.later)) =
    reads_stay plan sectors size f.followed f.later runs (asked_more plan sectors size [] f.followed first first_asked) in
    subst (λ (xs : List ReadOut). slice_get xs at ≡ Some r) (sym (ap (λ (xs : List Happening). (ledger xs).reads) f.disk_is ∙ m.is))
    (front_get (ledger f.followed).reads m.more at r there)

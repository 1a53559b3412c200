-- For `rested_disks_are_left`. The Data of a page fills its command, and no more than that page is announced: each Data that a disk
-- sends has 512 bytes or more, and E_Status of each PIO Setup has BSY, DRQ and ERR clear.
use Rattle.std.proofs.Common.{◌≡◌, ℕ, ◌<◌, ◌≤◌, Bool, true, false, List, [], ◌∷◌, ◌++◌, append_assoc, drop, length, refl, sym, ap, subst, ◌∙◌, arith}
use Rattle.std.proofs.Common.{Some, None, Ok, Err, Result}
use Rattle.std.specs.Prelude.{if◌then◌else◌}
use Rattle.fis_view.specs.{Built.cut, Frames.{IsFrame, marked}, Marks.IsMarked, Seen.{kind_of, may_have, seen, view_as}, Table.{EStatus, Kind, Pio}}
use Rattle.fis_view.specs.{Table.{field, places}, declared.view.{Fis.Fis, FisFault.{FisFault, TheVariants.WrongLength}}}
use Rattle.fis_view.specs.Table as table
use Rattle.fis_view.specs.declared.view.Fis.TheVariants as view
use Rattle.fis_view.proofs.Door.{is_marked}
use Rattle.hba_fbs.specs.Status.{is_quiet}
use Rattle.disk_model.specs.{declared.{answer.Answer.{Answer, TheVariants.{PageFollows, PageData}}, plan.DiskPlan.DiskPlan}, Anew.IsLinkedOn}
use Rattle.disk_model.specs.{Chunks.chunk_count, Disks.{Moment, Turn, after, opening, turn}, Histories.{Happening, Loaded, Plugged, Received, Sent}}
use Rattle.disk_model.specs.{Ledger.{IsSize, ledger}, Pages.page_bytes, Runs.{IsDiskRun, IsTurn, Runs, moment}, Sendings.{Carries, Sending}}
use Rattle.disk_model.specs.Sendings.{SetsUpPio, Shows, answer_sent}
use Rattle.disk_model.specs.Anew as anew
use Rattle.disk_model.proofs.Door.{agrees, last_may}
use Rattle.world_rests.proofs.{Owes.has_chunks, Shown.{HasChunks, OfEach, chunk_some, data_long, page_long, turn_of}}

abbrev pub IsFull : Result Fis FisFault → Type 0
IsFull (Ok (view.Payload f)) = 512 ≤ length (drop 4 f)
IsFull (Ok (view.PioSetup f)) = is_quiet (field Pio EStatus f) ≡ true
IsFull _ = Unit {0}

-- ---- what a disk sends

abbrev IsWhole : Sending → Type 0
IsWhole (Carries bytes) = 512 ≤ length bytes
IsWhole (SetsUpPio v) = v.e_status ≡ 0x50
IsWhole _ = Unit {0}

whole_answer : (sectors : ℕ) (plan : DiskPlan) (a : Answer) → IsWhole (answer_sent sectors plan a)
whole_answer sectors plan PageFollows = refl
whole_answer sectors plan (PageData page) = let long : length (page_bytes sectors plan page) ≡ 512 = page_long sectors plan page in omega (arith, long)
whole_answer sectors plan other = tt

whole_each : (plan : DiskPlan) (sectors : ℕ) → HasChunks plan → OfEach plan sectors IsWhole
whole_each plan sectors sized = record {
  answers = whole_answer sectors plan;
  reports = λ c f is. tt;
  setups = λ c left. tt;
  activates = tt;
  carries = λ medium c left long within some more among.
      let least : 0 < chunk_count plan c left = chunk_some plan c left sized.low some more among in
      let all = data_long plan sectors medium c left sized.low long within some more among in
      omega (arith, all, least);
}

shows_full : (s : Sending) (b : List ℕ) → Shows s b → IsWhole s → IsFull (seen b)
unfolding places cut
shows_full (SetsUpPio v) b shows whole =
    let e : field Pio EStatus b ≡ 0x50 = shows.fields EStatus ∙ ap (λ (n : ℕ). cut (places Pio EStatus) n) whole in
    rw shows.viewed (ap is_quiet e)
shows_full (Carries bytes) b shows whole = rw shows.1 (subst (λ (f : List ℕ). 512 ≤ length (drop 4 f)) (sym shows.0) whole)
shows_full other b shows whole = rw shows.viewed tt

by_turn : (o : Turn) (b : List ℕ) → ((t : Sending × Moment) → o ≡ Some t → IsWhole t.0) → IsTurn o b → IsFull (seen b)
by_turn None b whole is = absurd is
by_turn (Some t) b whole is = shows_full t.0 b is (whole t refl)

sent_full : (plan : DiskPlan) (sectors : ℕ) (before : List Happening) (b : List ℕ) → IsSize plan sectors → IsDiskRun plan sectors (before ++ Sent b ∷ []) → IsFull (seen b)
sent_full plan sectors before b size run =
    let may = last_may plan sectors (opening sectors) before (Sent b) run in
    let a = agrees plan sectors before size may.0 in
    let m : Moment = moment plan sectors before in
    let sized : HasChunks plan = has_chunks plan sectors size in
    by_turn (turn plan sectors m) b (turn_of plan sectors sized IsWhole (whole_each plan sectors sized) m m.owed m.started m.writing (ledger before).moving a.queue a.length_is a.moving) may.1

-- ---- over histories

abbrev pub AllFull : List Happening → Type 0
AllFull [] = Unit {0}
AllFull (Sent bytes ∷ later) = IsFull (seen bytes) × AllFull later
AllFull (Received bytes ∷ later) = AllFull later
AllFull (Plugged ∷ later) = AllFull later
AllFull (Loaded bytes ∷ later) = AllFull later

abbrev OneFull : Happening → Type 0
OneFull (Sent bytes) = IsFull (seen bytes)
OneFull _ = Unit {0}

next_full : (e : Happening) (later : List Happening) → OneFull e → AllFull later → AllFull (e ∷ later)
next_full (Sent bytes) later one all = (one, all)
next_full other later one all = all

pub full_more : (front : List Happening) (e : Happening) → AllFull front → OneFull e → AllFull (front ++ e ∷ [])
full_more [] e all one = next_full e [] one tt
full_more (Sent bytes ∷ front) e all one = (all.0, full_more front e all.1 one)
full_more (Received bytes ∷ front) e all one = full_more front e all one
full_more (Plugged ∷ front) e all one = full_more front e all one
full_more (Loaded bytes ∷ front) e all one = full_more front e all one

first_full : (e : Happening) → AllFull (e ∷ []) → OneFull e
first_full (Sent bytes) all = all.0
first_full other all = tt

pub full_last : (front : List Happening) (e : Happening) → AllFull (front ++ e ∷ []) → AllFull front × OneFull e
full_last [] e all = (tt, first_full e all)
full_last (Sent bytes ∷ front) e all = let rest = full_last front e all.1 in ((all.0, rest.0), rest.1)
full_last (Received bytes ∷ front) e all = full_last front e all
full_last (Plugged ∷ front) e all = full_last front e all
full_last (Loaded bytes ∷ front) e all = full_last front e all

runs_front : (plan : DiskPlan) (sectors : ℕ) (m : Moment) (front back : List Happening) → Runs plan sectors m (front ++ back) → Runs plan sectors m front
unfolding Runs
runs_front plan sectors m [] back run = tt
runs_front plan sectors m (e ∷ front) back run = (run.0, runs_front plan sectors (after plan sectors m e) front back run.1)

module _ (plan : DiskPlan) (sectors : ℕ) (size : IsSize plan sectors) where
  one_full : (before : List Happening) (e : Happening) → IsDiskRun plan sectors (before ++ e ∷ []) → OneFull e
  one_full before (Sent bytes) run = sent_full plan sectors before bytes size run
  one_full before other run = tt

  rest_full : (before later : List Happening) → IsDiskRun plan sectors (before ++ later) → AllFull later
  rest_full before [] run = tt
  rest_full before (e ∷ later) run =
      let all : IsDiskRun plan sectors ((before ++ e ∷ []) ++ later) = subst (IsDiskRun plan sectors) (sym (append_assoc before (e ∷ []) later)) run in
      next_full e later (one_full before e (runs_front plan sectors (opening sectors) (before ++ e ∷ []) later all)) (rest_full (before ++ e ∷ []) later all)

  pub run_full : (disk : List Happening) → IsDiskRun plan sectors disk → AllFull disk
  run_full disk run = rest_full [] disk run

-- ---- at the host's end

abbrev AreFull : List (List ℕ) → Type 0
AreFull [] = Unit {0}
AreFull (bytes ∷ later) = IsFull (seen bytes) × AreFull later

one_more : (front : List (List ℕ)) (bytes : List ℕ) → AreFull front → IsFull (seen bytes) → AreFull (front ++ bytes ∷ [])
one_more [] bytes all one = (one, tt)
one_more (x ∷ front) bytes all one = (all.0, one_more front bytes all.1 one)

both_full : (base disk given : List Happening) (down stale up : List (List ℕ)) → IsLinkedOn base disk given down stale up → AllFull disk → AllFull given × AreFull up
both_full base disk given down stale up (anew.begins s clear) full = (full, tt)
both_full base disk given down stale up (anew.gives d g below s above bytes linked) full =
    let rest = both_full base d g below s above linked full in (full_more g (Received bytes) rest.0 tt, rest.1)
both_full base disk given down stale up (anew.comes d g before behind s above bytes linked) full =
    both_full base d g (before ++ bytes ∷ behind) s above linked (full_last d (Received bytes) full).0
both_full base disk given down stale up (anew.sends d g below s above bytes fine linked) full =
    let parts = full_last d (Sent bytes) full in
    let rest = both_full base d g below s above linked parts.0 in
    (rest.0, one_more above bytes rest.1 parts.1)
both_full base disk given down stale up (anew.drops d g below s above bytes linked) full = both_full base d g below (bytes ∷ s) above linked full
both_full base disk given down stale up (anew.takes d g below above bytes linked) full =
    let rest = both_full base d g below [] (bytes ∷ above) linked full in
    (full_more g (Sent bytes) rest.0 rest.1.0, rest.1.1)

pub given_full : (plan : DiskPlan) (sectors : ℕ) (base disk given : List Happening) (down stale up : List (List ℕ)) → IsSize plan sectors → IsDiskRun plan sectors disk
    → IsLinkedOn base disk given down stale up → AllFull given
given_full plan sectors base disk given down stale up size run linked = (both_full base disk given down stale up linked (run_full plan sectors size disk run)).0

-- ---- with its PM Port

module _ (old new : List ℕ) (port : ℕ) (m : IsMarked port old new) where
  full_kind : (kind : Kind) → IsFull (Ok (view_as kind old)) → IsFull (Ok (view_as kind new))
  full_kind table.Data full = subst (λ (bytes : List ℕ). 512 ≤ length bytes) (sym m.payload) full
  full_kind Pio full = ap is_quiet (m.fields Pio EStatus (λ e. cc e)) ∙ full
  full_kind other full = tt

  full_new : IsFull (seen old) → IsFull (seen new)
  unfolding seen
  full_new full = subst IsFull (sym m.view) (by_test (may_have (kind_of old) (length old)) full)
    where
      by_test : (b : Bool) → IsFull (if b then Ok (view_as (kind_of old) old) else Err WrongLength) → IsFull (if b then Ok (view_as (kind_of old) new) else Err WrongLength)
      by_test true full = full_kind (kind_of old) full
      by_test false full = full

pub marked_full : (bytes : List ℕ) (port : ℕ) → IsFrame bytes → port < 16 → IsFull (seen bytes) → IsFull (seen (marked bytes port))
marked_full bytes port framed small full = full_new bytes (marked bytes port) port (is_marked bytes port framed small) full

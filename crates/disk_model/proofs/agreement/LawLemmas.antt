-- For `answers_each_command_once`. The laws of a disk's runs.
use Rattle.std.proofs.Common.{◌≡◌, ◌==◌, ◌&&◌, eqb, ℕ, ◌+◌, ◌*◌, ◌%◌, ◌^◌, ◌<◌, ◌≤◌, Bool, true, false, List, [], ◌∷◌, ◌++◌, Option, Some, None, Ok}
use Rattle.std.proofs.{Common.{Result, drop, length, refl, ap, sym, subst, ◌∙◌, arith}, lemmas.Bool.{Decides.nat_tests, and_parts}}
use Rattle.std.proofs.{lemmas.List.{append-nil, FromFn.{length-map-range_with_len}}, Math.{Seq.{drop-length}, Pow.{pow-lt}}}
use Rattle.std.specs.Prelude.{if◌then◌else◌, nat_le}
use Rattle.fis_view.proofs.Door.{bits-lt}
use Rattle.fis_view.specs.{Table.{H2d, C, Features, Count, Control, Bits, SActive, field, places, spelled}, Seen.seen, declared.view.Fis.Fis}
use Rattle.fis_view.specs.declared.view.FisFault.{FisFault}
use Rattle.fis_view.specs.Table as table
use Rattle.fis_view.specs.declared.view.Fis.TheVariants as view
use Rattle.disk_model.specs.declared.{plan.DiskPlan.DiskPlan, request.{Command.Command, Request.Request}, answer.Answer.Answer}
use Rattle.disk_model.specs.{declared.answer.{Answer.TheVariants.{Signature, Ended}, Fault.Fault}, Histories.{Happening, Received, Sent, Plugged}}
use Rattle.disk_model.specs.{Histories.Loaded, Requests.{Asks, IsCounted, queued_command, request_of, names_error_log}, Sendings.{Sending, SetsBits}}
use Rattle.disk_model.specs.{Sendings.{Activates, Carries, Shows, answer_sent}, Chunks.{chunks, chunk_setup, fault_of, put, report, error_of}}
use Rattle.disk_model.specs.Disks.{Moment, Started, Writing, turn, read_turn, write_turn, pick_turn, begun, picked, heard, after, moment_after}
use Rattle.disk_model.specs.{Disks.{new_with, opening, opening_byte, opening_medium}, Runs.{IsTurn, MayHappen, Runs, IsDiskRun, moment, most_sectors}}
use Rattle.disk_model.specs.Ledger.{Ledger, Moving, empty, listens, listens_down, ledger_after, ledger, loaded, medium_with, with_writes, Names}
use Rattle.disk_model.specs.{Ledger.{AnswersOne, IsSize}, Between.{Agrees, AreTags, Asked, Fresh, IsQueue, IsReading, IsSized, IsWriting, Moves}}
use Rattle.disk_model.specs.Between.{SetUp, Stage, begun_by, ended_tags}
use Rattle.disk_model.proofs.{turns.SendLemmas.sends_left_next, agreement.{ShowsLemmas.{error_tells, sactive_tells}, GeometryLemmas.some_chunks}}
use Rattle.disk_model.proofs.agreement.AgreeLemmas.{Beside, Stands, beside, gives_up, idle, ledger_is, reading, shown, step_request, under, writing}
use Rattle.disk_model.proofs.agreement.{TransferLemmas.step_data, StartLemmas.{step_sent, picked_in}, StoreLemmas.{with_writes-append}}

-- ## What a command asks for

if_asks : (b : Bool) (x y : Request) → Asks x → Asks y → Asks (if b then x else y)
if_asks true x y a c = a
if_asks false x y a c = c

some_asked_by : (n : ℕ) (none : Bool) → eqb n 0 ≡ none → 0 < (if none then 65536 else n)
some_asked_by n true e = omega arith
some_asked_by n false e = grind (arith, nat_tests, e)

most_asked_by : (n : ℕ) (none : Bool) → n < 65536 → (if none then 65536 else n) ≤ 65536
most_asked_by n true few = omega arith
most_asked_by n false few = omega (arith, few)

short_features : (f : List ℕ) → field H2d Features f < 65536
unfolding field spelled places
short_features f = omega (arith, bits-lt f 24 8, bits-lt f 88 8)

asks_queued : (f : List ℕ) (write : Bool) → IsCounted (queued_command f write) × ((queued_command f write).tag < 32)
asks_queued f write =
    let n = field H2d Features f in
    ((some_asked_by n _ refl, most_asked_by n (n == 0) (short_features f)), omega arith)

pub asks_of : (f : List ℕ) → Asks (request_of f)
asks_of f =
    let code = field H2d table.Command f in
    if_asks (field H2d C f == 1) _ _
    (if_asks (code == 0x60) _ _ (asks_queued f false)
    (if_asks (code == 0x61) _ _ (asks_queued f true)
    (if_asks ((code == 0x2F) && names_error_log f) _ _ tt
    (if_asks (code == 0xEC) _ _ tt
    (if_asks (code == 0xEA) _ _ tt tt)))))
    tt

-- ## One event

step_heard : (plan : DiskPlan) (sectors : ℕ) (m : Moment) (k : Beside) (s : Result Fis FisFault) → IsSized plan
    → Stands plan sectors m k → Agrees plan sectors (heard plan m s) (listens_down (shown m k) s)
step_heard plan sectors m k (Ok (view.RegH2D f)) sized a =
    step_request plan sectors m k m.queued m.fault m.resetting (request_of f) (asks_of f) a
step_heard plan sectors m k (Ok (view.Payload f)) sized a =
    step_data plan sectors m k m.started m.writing k.moving (drop 4 f) sized a.moving a
step_heard plan sectors m k other sized a = a

pub put_all : (xs ys : List ℕ) → length xs ≡ length ys → put xs 0 ys ≡ ys
put_all xs ys long =
    let whole : 0 + length ys ≡ length xs = omega (arith, long) in
    ap (λ (n : ℕ). ys ++ drop n xs) whole ∙ ap (λ (zs : List ℕ). ys ++ zs) (drop-length xs) ∙ append-nil ys

step_loaded : (plan : DiskPlan) (sectors : ℕ) (k : Beside) (bytes : List ℕ) → length bytes ≡ 512 * sectors
    → Stands plan sectors (opening sectors) k
    → Agrees plan sectors (new_with bytes) (listens (shown (opening sectors) k) (Loaded bytes))
step_loaded plan sectors k bytes long a = record {
  outstanding = refl;
  failed = refl;
  unanswered = refl;
  medium = sym (with_writes-append (opening_medium sectors) k.writes (loaded bytes)
      ∙ put_all (medium_with sectors k.writes) bytes (ap length (sym a.medium) ∙ a.length_is ∙ sym long));
  length_is = long;
  queue = tt;
  tags = tt;
  reads = a.reads;
  moving = by_moving k.moving a.moving;
  failure = a.failure;
  resetting = refl;
  in_reset = refl;
  awaited = refl;
  pages = a.pages;
}
  where
    by_moving : (v : Option Moving) → Moves plan sectors (opening_medium sectors) [] [] None None v → Moves plan sectors bytes [] [] None None v
    by_moving None moving = tt
    by_moving (Some v) moving = absurd moving

step_shown : (plan : DiskPlan) (sectors : ℕ) (m : Moment) (k : Beside) (e : Happening) → IsSized plan
    → Stands plan sectors m k → MayHappen plan sectors m e → Agrees plan sectors (after plan sectors m e) (listens (shown m k) e)
step_shown plan sectors m k (Received bytes) sized a may = step_heard plan sectors m k (seen bytes) sized a
step_shown plan sectors m k (Sent bytes) sized a may =
    step_sent plan sectors m k m.owed m.started m.writing k.moving bytes sized a.moving a may
step_shown plan sectors m k Plugged sized a may =
    gives_up plan sectors m (shown m k) a None None m.resetting (Signature ∷ []) tt refl refl
step_shown plan sectors m k (Loaded bytes) sized a may =
    subst (λ (x : Moment). Stands plan sectors x k → Agrees plan sectors (after plan sectors x (Loaded bytes)) (listens (shown x k) (Loaded bytes)))
    (sym may.0) (step_loaded plan sectors k bytes may.1) a

step : (plan : DiskPlan) (sectors : ℕ) (m : Moment) (l : Ledger) (e : Happening) → IsSized plan
    → Agrees plan sectors m l → MayHappen plan sectors m e → Agrees plan sectors (after plan sectors m e) (listens l e)
step plan sectors m l e sized a may =
    let is = ledger_is plan sectors m l a in
    subst (λ (x : Ledger). Agrees plan sectors (after plan sectors m e) (listens x e)) (sym is)
    (step_shown plan sectors m (beside l) e sized (subst (Agrees plan sectors m) is a) may)

-- ## Whole runs

agrees_after : (plan : DiskPlan) (sectors : ℕ) (m : Moment) (l : Ledger) (h : List Happening) → IsSized plan
    → Agrees plan sectors m l → Runs plan sectors m h → Agrees plan sectors (moment_after plan sectors m h) (ledger_after l h)
unfolding moment_after ledger_after Runs
agrees_after plan sectors m l [] sized a run = a
agrees_after plan sectors m l (e ∷ later) sized a run = agrees_after plan sectors (after plan sectors m e) (listens l e) later sized (step plan sectors m l e sized a run.0) run.1

opens_agreeing : (plan : DiskPlan) (sectors : ℕ) → Agrees plan sectors (opening sectors) empty
unfolding with_writes
opens_agreeing plan sectors = record {
  outstanding = refl;
  failed = refl;
  unanswered = refl;
  medium = refl;
  length_is = length-map-range_with_len opening_byte 0 (512 * sectors);
  queue = tt;
  tags = tt;
  reads = λ k d below. absurd (omega arith);
  moving = tt;
  failure = tt;
  resetting = refl;
  in_reset = refl;
  awaited = refl;
  pages = tt;
}

pub sized_by : (plan : DiskPlan) (sectors : ℕ) → IsSize plan sectors → IsSized plan
sized_by plan sectors size =
    let some : Bool = nat_le 1 sectors in
    let few : Bool = nat_le sectors (most_sectors plan.profile) in
    let low : Bool = nat_le 512 plan.chunk in
    let high : Bool = nat_le plan.chunk 8192 in
    let all = and_parts (some && few && low && high) (plan.chunk % 512 == 0) size in
    let most = and_parts (some && few && low) high all.0 in
    let two = and_parts (some && few) low most.0 in
    let is_low : nat_le 512 plan.chunk ≡ true = two.1 in
    record { low = grind (arith, nat_tests, is_low) }

pub agrees : (plan : DiskPlan) (sectors : ℕ) (h : List Happening) → IsSize plan sectors → IsDiskRun plan sectors h
    → Agrees plan sectors (moment plan sectors h) (ledger h)
agrees plan sectors h size run = agrees_after plan sectors (opening sectors) empty h (sized_by plan sectors size) (opens_agreeing plan sectors) run

-- ## Answers

-- a FIS that is no Set Device Bits FIS answers nothing
abbrev IsNoBits : Sending → Type 0
IsNoBits (SetsBits v) = ⊥
IsNoBits _ = Unit {0}

answers_nothing : (l : Ledger) (x : Sending) (b : List ℕ) → IsNoBits x → Shows x b → AnswersOne l (seen b)
answers_nothing l (SetsBits v) b none shows = absurd none
answers_nothing l (Carries d) b none shows = rw shows.1 tt
answers_nothing l other b none shows = rw shows.viewed tt

-- a FIS that reports an error answers nothing either
reports : (l : Ledger) (f : Fault) (b : List ℕ) → Shows (report f) b → AnswersOne l (seen b)
reports l f b shows = let e = error_tells (error_of f) b shows in rw shows.viewed (λ fine. cc (e, fine))

answers_by : (l : Ledger) (sectors : ℕ) (plan : DiskPlan) (a : Answer) (later : List Answer) (b : List ℕ) → l.unanswered ≡ ended_tags (a ∷ later)
    → AreTags (ended_tags (a ∷ later)) → Shows (answer_sent sectors plan a) b → AnswersOne l (seen b)
answers_by l sectors plan (Ended t) later b is tags shows =
    let within : t % 32 < 32 = omega arith in
    let small : 2 ^ (t % 32) < 4294967296 = pow-lt within in
    let same : t % 32 ≡ t = omega (arith, tags.0) in
    let sactive : field Bits SActive b ≡ 2 ^ t = sactive_tells (2 ^ (t % 32)) b small shows ∙ ap (λ k. 2 ^ k) same in
    rw shows.viewed (λ fine. subst (λ (xs : List ℕ). Names xs (field Bits SActive b)) (sym is) sactive)
answers_by l sectors plan other later b is tags shows = answers_nothing l (answer_sent sectors plan other) b tt shows

begins_answering : (plan : DiskPlan) (sectors : ℕ) (m : Moment) (l : Ledger) (c : Command) (bad : Option Fault) (write : Bool)
    (b : List ℕ) → IsSized plan → 0 < c.count → IsTurn (begun_by plan m c bad write) b → AnswersOne l (seen b)
begins_answering plan sectors m l c (Some f) write b sized some may = reports l f b may
begins_answering plan sectors m l c None true b sized some may = answers_nothing l (chunk_setup plan c (chunks plan c)) b tt may
begins_answering plan sectors m l c None false b sized some may =
    let next = sends_left_next plan m.medium c (chunks plan c) (some_chunks plan c sized.low some) in
    answers_nothing l (chunk_setup plan c (chunks plan c)) b tt (subst (λ (xs : List Sending). IsTurn (read_turn m c xs) b) next may)

pub same_turn : (plan : DiskPlan) (m : Moment) (c : Command) (bad : Option Fault) (b : List ℕ) → IsTurn (begun plan m c bad) b
    → IsTurn (begun_by plan m c bad c.write) b
same_turn plan m c None b may = may
same_turn plan m c (Some f) b may = may

picks_answering : (plan : DiskPlan) (sectors : ℕ) (m : Moment) (l : Ledger) (o : Option Command) (b : List ℕ)
    → IsSized plan → IsQueue m.queued → picked plan.order m.queued ≡ o → IsTurn (pick_turn plan sectors m o) b
    → AnswersOne l (seen b)
picks_answering plan sectors m l None b sized queue is may = absurd may
picks_answering plan sectors m l (Some c) b sized queue is may = begins_answering plan sectors m l c _ c.write b sized (picked_in plan.order m.queued c queue is).some (same_turn plan m c (fault_of plan sectors c) b may)

reads_answering : (plan : DiskPlan) (sectors : ℕ) (m : Moment) (l : Ledger) (medium : List ℕ) (s : Started) (v : Moving)
    (left : ℕ) (up : Bool) (b : List ℕ) → IsReading plan sectors medium s v left up → IsTurn (read_turn m s.command s.sends) b
    → AnswersOne l (seen b)
reads_answering plan sectors m l medium s v left false b r may =
    let next = sends_left_next plan medium s.command left r.moving.more in
    answers_nothing l (chunk_setup plan s.command left) b tt (subst (λ (xs : List Sending). IsTurn (read_turn m s.command xs) b) (r.stage ∙ next) may)
reads_answering plan sectors m l medium s v left true b r may =
    let next = sends_left_next plan medium s.command left r.moving.more in
    answers_nothing l (Carries _) b tt (subst (λ (xs : List Sending). IsTurn (read_turn m s.command xs) b) (r.stage.0 ∙ ap (drop 1) next) may)

writes_answering : (plan : DiskPlan) (sectors : ℕ) (m : Moment) (l : Ledger) (w : Writing) (v : Moving) (stage : Stage)
    (b : List ℕ) → IsWriting plan sectors w v stage → IsTurn (write_turn m w w.sends) b → AnswersOne l (seen b)
writes_answering plan sectors m l w v Fresh b r may = answers_nothing l (chunk_setup plan w.command w.left) b tt (subst (λ (xs : List Sending). IsTurn (write_turn m w xs) b) r.stage.0 may)
writes_answering plan sectors m l w v SetUp b r may = answers_nothing l Activates b tt (subst (λ (xs : List Sending). IsTurn (write_turn m w xs) b) r.stage.0 may)
writes_answering plan sectors m l w v Asked b r may = absurd (subst (λ (xs : List Sending). IsTurn (write_turn m w xs) b) r.stage.0 may)

turn_answers : (plan : DiskPlan) (sectors : ℕ) (m : Moment) (owed : List Answer) (s : Option Started) (w : Option Writing)
    (v : Option Moving) (l : Ledger) (b : List ℕ) → IsSized plan → IsQueue m.queued → l.unanswered ≡ ended_tags owed
    → AreTags (ended_tags owed) → Moves plan sectors m.medium m.queued owed s w v
    → IsTurn (turn plan sectors (under m owed s w)) b → AnswersOne l (seen b)
turn_answers plan sectors m (x ∷ later) s w v l b sized queue is tags moves may = answers_by l sectors plan x later b is tags may
turn_answers plan sectors m [] None None v l b sized queue is tags moves may =
    picks_answering plan sectors (idle m) l _ b sized queue refl may
turn_answers plan sectors m [] (Some s) None None l b sized queue is tags moves may = absurd moves
turn_answers plan sectors m [] (Some s) None (Some v) l b sized queue is tags moves may =
    reads_answering plan sectors (reading m s) l m.medium s v moves.0 moves.1 b moves.2 may
turn_answers plan sectors m [] None (Some w) None l b sized queue is tags moves may = absurd moves
turn_answers plan sectors m [] None (Some w) (Some v) l b sized queue is tags moves may =
    writes_answering plan sectors (writing m [] w) l w v moves.0 b moves.1 may
turn_answers plan sectors m [] (Some s) (Some w) v l b sized queue is tags moves may = absurd moves

-- the last event of a run
pub last_may : (plan : DiskPlan) (sectors : ℕ) (m : Moment) (h : List Happening) (e : Happening)
    → Runs plan sectors m (h ++ e ∷ []) → Runs plan sectors m h × MayHappen plan sectors (moment_after plan sectors m h) e
unfolding Runs moment_after
last_may plan sectors m [] e run = (tt, run.0)
last_may plan sectors m (x ∷ h) e run =
    let rest = last_may plan sectors (after plan sectors m x) h e run.1 in
    ((run.0, rest.0), rest.1)

pub answers_once : (plan : DiskPlan) (sectors : ℕ) (h : List Happening) (b : List ℕ) → IsSize plan sectors
    → IsDiskRun plan sectors (h ++ Sent b ∷ []) → AnswersOne (ledger h) (seen b)
answers_once plan sectors h b size run =
    let parts = last_may plan sectors (opening sectors) h (Sent b) run in
    let a = agrees plan sectors h size parts.0 in
    let m = moment plan sectors h in
    turn_answers plan sectors m m.owed m.started m.writing (ledger h).moving (ledger h) b
    (sized_by plan sectors size) a.queue a.unanswered a.tags a.moving parts.1

-- For `setups_name_what_moves`. Each FIS of a disk moves data as its command wants it.
use Rattle.std.proofs.Common.{◌≡◌, ℕ, ◌+◌, ◌*◌, ◌<◌, ◌≤◌, Bool, true, false, List, [], ◌∷◌, ◌++◌, Option, Some, None, length, drop, refl, ap, sym}
use Rattle.std.proofs.Common.{subst, ◌∙◌, arith}
use Rattle.std.specs.Prelude.{not}
use Rattle.fis_view.specs.Seen.{seen}
use Rattle.disk_model.specs.declared.{plan.DiskPlan.DiskPlan, request.Command.Command, answer.{Answer.{Answer, TheVariants.PageData}, Fault.Fault}}
use Rattle.disk_model.specs.{Histories.{Happening, Sent}, Sendings.{Sending, Shows, answer_sent}, Chunks.{chunks, chunk_from, chunk_count}}
use Rattle.disk_model.specs.{Chunks.{chunk_setup, sectors_at, fault_of}, Disks.{Moment, Started, Writing, turn, read_turn, write_turn, pick_turn}}
use Rattle.disk_model.specs.{Disks.{picked, opening}, Runs.{IsTurn, IsDiskRun, moment}, Ledger.{Ledger, Moving, Stretch, IsSize, ledger}}
use Rattle.disk_model.specs.{Laws.{SetsUpNext, AsksOnce, CarriesNext, MovesRight}, Between.{AreSetUp, Asked, ChunkPart, Fresh, IsIn, IsQueue}}
use Rattle.disk_model.specs.Between.{IsReading, IsSized, IsWriting, Moves, SetUp, Stage, TellsSetup, begun_by, is_page, moved_sectors}
use Rattle.disk_model.proofs.{turns.SendLemmas.sends_left_next, agreement.GeometryLemmas.{moved_none, chunk_part, some_chunks}}
use Rattle.disk_model.proofs.agreement.{SetupLemmas.{set_up_none, set_up_apart}, AgreeLemmas.{idle, reading, under, writing}, ListenLemmas.page_goes}
use Rattle.disk_model.proofs.agreement.{TransferLemmas.{length-sectors_at, setup_of_chunk}, StartLemmas.picked_in, LawLemmas.{agrees, sized_by}}
use Rattle.disk_model.proofs.agreement.LawLemmas.{last_may, same_turn}

-- an answer moves no command's data
answer_moves : (l : Ledger) (sectors : ℕ) (plan : DiskPlan) (a : Answer) (b : List ℕ) → (is_page a ≡ true → l.moving ≡ None)
    → Shows (answer_sent sectors plan a) b → MovesRight l (seen b)
answer_moves l sectors plan (PageData page) b none shows = let is : l.moving ≡ None = none refl in rw (shows.1, is) tt
answer_moves l sectors plan other b none shows = rw shows.viewed tt

-- the DMA Setup of a chunk
setup_next : (plan : DiskPlan) (c : Command) (moved left : ℕ) (setups : List Stretch) (b : List ℕ) → ChunkPart plan c left
    → AreSetUp plan c left setups → moved ≡ 512 * moved_sectors plan c left → TellsSetup c.tag (512 * chunk_from plan c left)
    (512 * chunk_count plan c left) (not c.write) b → SetsUpNext c moved setups b
setup_next plan c moved left setups b part was is told =
    let room : 512 * chunk_from plan c left + 512 * chunk_count plan c left ≤ 512 * c.count = omega (arith, part.inside) in
    record {
      tag = told.tag_is;
      direction = told.direction_is;
      in_turn = is ∙ sym was.named;
      inside = rw (told.offset_is, told.count_is) room;
      apart = rw (told.offset_is, told.count_is) (set_up_apart plan c left setups part was);
    }

start_moves : (plan : DiskPlan) (l : Ledger) (queued : List Command) (c : Command) (b : List ℕ)
    → IsSized plan → l.moving ≡ None → l.outstanding ≡ queued → IsIn queued c
    → Shows (chunk_setup plan c (chunks plan c)) b → MovesRight l (seen b)
start_moves plan l queued c b sized none out here shows =
    let all = chunks plan c in
    let more : 0 < chunks plan c = some_chunks plan c sized.low here.some in
    let part : ChunkPart plan c all = chunk_part plan c all sized.low here.some more (omega arith) in
    let told : TellsSetup c.tag (512 * chunk_from plan c all) (512 * chunk_count plan c all) (not c.write) b = setup_of_chunk plan c all b part here.few here.tag shows in
    let nothing : 0 ≡ 512 * moved_sectors plan c all = ap (λ k. 512 * k) (sym (moved_none plan c sized.low here.some)) in
    let next = setup_next plan c 0 all [] b part (set_up_none plan c sized.low here.some) nothing told in
    let viewed = told.viewed in
    let tag = told.tag_is in
    let found = here.found in
    rw (viewed, none, out, tag, found) next

begins_moving : (plan : DiskPlan) (m : Moment) (l : Ledger) (c : Command) (bad : Option Fault) (write : Bool)
    (b : List ℕ) → IsSized plan → l.moving ≡ None → l.outstanding ≡ m.queued
    → IsIn m.queued c → IsTurn (begun_by plan m c bad write) b → MovesRight l (seen b)
begins_moving plan m l c (Some f) write b sized none out here may = rw may.viewed tt
begins_moving plan m l c None true b sized none out here may = start_moves plan l m.queued c b sized none out here may
begins_moving plan m l c None false b sized none out here may =
    let next = sends_left_next plan m.medium c (chunks plan c) (some_chunks plan c sized.low here.some) in
    start_moves plan l m.queued c b sized none out here (subst (λ (xs : List Sending). IsTurn (read_turn m c xs) b) next may)

picks_moving : (plan : DiskPlan) (sectors : ℕ) (m : Moment) (l : Ledger) (o : Option Command) (b : List ℕ)
    → IsSized plan → IsQueue m.queued → l.moving ≡ None → l.outstanding ≡ m.queued → picked plan.order m.queued ≡ o
    → IsTurn (pick_turn plan sectors m o) b → MovesRight l (seen b)
picks_moving plan sectors m l None b sized queue none out is may = absurd may
picks_moving plan sectors m l (Some c) b sized queue none out is may = begins_moving plan m l c (fault_of plan sectors c) c.write b sized none out (picked_in plan.order m.queued c queue is) (same_turn plan m c (fault_of plan sectors c) b may)

reads_moving : (plan : DiskPlan) (sectors : ℕ) (m : Moment) (l : Ledger) (medium : List ℕ) (s : Started) (v : Moving) (left : ℕ)
    (up : Bool) (b : List ℕ) → IsSized plan → length medium ≡ 512 * sectors → l.moving ≡ Some v
    → IsReading plan sectors medium s v left up → IsTurn (read_turn m s.command s.sends) b → MovesRight l (seen b)
reads_moving plan sectors m l medium s v left false b sized size is r may =
    let c = s.command in
    let mv = r.moving in
    let next = sends_left_next plan medium c left mv.more in
    let shows = subst (λ (xs : List Sending). IsTurn (read_turn m c xs) b) (r.stage ∙ next) may in
    let part : ChunkPart plan c left = chunk_part plan c left sized.low mv.some mv.more mv.among in
    let told : TellsSetup c.tag (512 * chunk_from plan c left) (512 * chunk_count plan c left) (not c.write) b = setup_of_chunk plan c left b part mv.few mv.tag shows in
    let sets = setup_next plan c v.moved left v.setups b part r.setups mv.moved told in
    rw (told.viewed, is) (r.idle, subst (λ (x : Command). SetsUpNext x v.moved v.setups b) (sym mv.same) sets)
reads_moving plan sectors m l medium s v left true b sized size is r may =
    let c = s.command in
    let mv = r.moving in
    let d : List ℕ = sectors_at medium (c.lba + chunk_from plan c left) (chunk_count plan c left) in
    let next = sends_left_next plan medium c left mv.more in
    let shows = subst (λ (xs : List Sending). IsTurn (read_turn m c xs) b) (r.stage.0 ∙ ap (drop 1) next) may in
    let part : ChunkPart plan c left = chunk_part plan c left sized.low mv.some mv.more mv.among in
    let long : length (drop 4 b) ≡ 512 * chunk_count plan c left = ap (λ (xs : List ℕ). length (drop 4 xs)) shows.0 ∙ length-sectors_at medium (c.lba + chunk_from plan c left) (chunk_count plan c left) (omega (arith, part.inside, mv.inside)) in
    let named = r.setups.named in
    let carries : CarriesNext v (drop 4 b) = record {
      reads = ap (λ (x : Command). x.write) mv.same ∙ r.reads;
      count = long ∙ sym r.stage.2;
      in_turn = omega (arith, long, named, part.next, mv.moved);
    } in
    rw (shows.1, is) carries

writes_moving : (plan : DiskPlan) (sectors : ℕ) (m : Moment) (l : Ledger) (w : Writing) (v : Moving) (stage : Stage)
    (b : List ℕ) → IsSized plan → l.moving ≡ Some v → IsWriting plan sectors w v stage
    → IsTurn (write_turn m w w.sends) b → MovesRight l (seen b)
writes_moving plan sectors m l w v Fresh b sized is r may =
    let c = w.command in
    let mv = r.moving in
    let shows = subst (λ (xs : List Sending). IsTurn (write_turn m w xs) b) r.stage.0 may in
    let part : ChunkPart plan c w.left = chunk_part plan c w.left sized.low mv.some mv.more mv.among in
    let told : TellsSetup c.tag (512 * chunk_from plan c w.left) (512 * chunk_count plan c w.left) (not c.write) b = setup_of_chunk plan c w.left b part mv.few mv.tag shows in
    let sets = setup_next plan c v.moved w.left v.setups b part r.setups mv.moved told in
    rw (told.viewed, is) (r.stage.1, subst (λ (x : Command). SetsUpNext x v.moved v.setups b) (sym mv.same) sets)
writes_moving plan sectors m l w v SetUp b sized is r may =
    let c = w.command in
    let mv = r.moving in
    let shows = subst (λ (xs : List Sending). IsTurn (write_turn m w xs) b) r.stage.0 may in
    let part : ChunkPart plan c w.left = chunk_part plan c w.left sized.low mv.some mv.more mv.among in
    let named = r.setups.named in
    let count = r.stage.2.1 in
    let asks : AsksOnce v = record {
      writes = ap (λ (x : Command). x.write) mv.same ∙ r.writes;
      once = r.stage.1;
      in_turn = omega (arith, named, part.next, mv.moved, count);
    } in
    rw (shows.viewed, is) asks
writes_moving plan sectors m l w v Asked b sized is r may = absurd (subst (λ (xs : List Sending). IsTurn (write_turn m w xs) b) r.stage.0 may)

turn_moves : (plan : DiskPlan) (sectors : ℕ) (m : Moment) (owed : List Answer) (s : Option Started) (w : Option Writing)
    (v : Option Moving) (l : Ledger) (b : List ℕ) → IsSized plan → IsQueue m.queued
    → length m.medium ≡ 512 * sectors → l.outstanding ≡ m.queued → l.moving ≡ v
    → Moves plan sectors m.medium m.queued owed s w v → IsTurn (turn plan sectors (under m owed s w)) b → MovesRight l (seen b)
turn_moves plan sectors m (x ∷ later) s w v l b sized queue size out is moves may =
    answer_moves l sectors plan x b (λ page. is ∙ page_goes plan sectors m.medium m.queued x later s w v page moves) may
turn_moves plan sectors m [] None None None l b sized queue size out is moves may =
    picks_moving plan sectors (idle m) l _ b sized queue is out refl may
turn_moves plan sectors m [] None None (Some v) l b sized queue size out is moves may = absurd moves
turn_moves plan sectors m [] (Some s) None None l b sized queue size out is moves may = absurd moves
turn_moves plan sectors m [] (Some s) None (Some v) l b sized queue size out is moves may =
    reads_moving plan sectors (reading m s) l m.medium s v moves.0 moves.1 b sized size is moves.2 may
turn_moves plan sectors m [] None (Some w) None l b sized queue size out is moves may = absurd moves
turn_moves plan sectors m [] None (Some w) (Some v) l b sized queue size out is moves may =
    writes_moving plan sectors (writing m [] w) l w v moves.0 b sized is moves.1 may
turn_moves plan sectors m [] (Some s) (Some w) v l b sized queue size out is moves may = absurd moves

pub moves_right : (plan : DiskPlan) (sectors : ℕ) (h : List Happening) (b : List ℕ) → IsSize plan sectors
    → IsDiskRun plan sectors (h ++ Sent b ∷ []) → MovesRight (ledger h) (seen b)
moves_right plan sectors h b size run =
    let parts = last_may plan sectors (opening sectors) h (Sent b) run in
    let a = agrees plan sectors h size parts.0 in
    let m = moment plan sectors h in
    turn_moves plan sectors m m.owed m.started m.writing (ledger h).moving (ledger h) b
    (sized_by plan sectors size) a.queue a.length_is a.outstanding refl a.moving parts.1

-- For `hosts_are_careful`. No DMA Setup of a disk names more bytes than a Data FIS holds.
use Rattle.std.proofs.Common.{◌≡◌, ◌&&◌, ◌==◌, ℕ, ◌+◌, ◌*◌, ◌%◌, ◌<◌, ◌≤◌, Bool, true, false, List, [], ◌∷◌, ◌++◌, drop, refl, ap, sym, subst, ◌∙◌}
use Rattle.std.proofs.{Common.{Option, Some, None, arith}, lemmas.Bool.{and_parts, leb-true}}
use Rattle.std.specs.Prelude.{nat_le, not}
use Rattle.fis_view.specs.{Table.{Count, Setup, field}, Seen.seen}
use Rattle.disk_model.specs.declared.{plan.DiskPlan.DiskPlan, request.Command.Command, answer.{Answer.{Answer, TheVariants.PageData}, Fault.Fault}}
use Rattle.disk_model.specs.{Chunks.{chunk_count, chunk_from, chunk_setup, chunks, fault_of}, Disks.{Moment, Started, Writing, opening, pick_turn}}
use Rattle.disk_model.specs.{Disks.{picked, read_turn, turn, write_turn}, Anew.IsLinkedOn, Histories.{Happening, Plugged, Received, Sent}}
use Rattle.disk_model.specs.{Ledger.{IsSize, Moving, ledger}, Runs.{IsDiskRun, IsTurn, moment, most_sectors}, Sendings.{Sending, Shows, answer_sent}}
use Rattle.disk_model.specs.Between.{Asked, ChunkPart, Fresh, IsIn, IsQueue, IsReading, IsSized, IsWriting, Moves, SetUp, Stage, TellsSetup, at}
use Rattle.disk_model.specs.Between.{begun_by}
use Rattle.disk_model.specs.Anew as link
use Rattle.disk_model.proofs.Door.{agrees, chunk_part, last_may, linked_since_new, picked_in, same_turn, sends_left_next, setup_of_chunk, sized_by}
use Rattle.disk_model.proofs.Door.{some_chunks}
use Rattle.disk_simulation.specs.{Joined.IsShort, Hosted.NextIsShort}

answer_short : (sectors : ℕ) (plan : DiskPlan) (a : Answer) (b : List ℕ) → Shows (answer_sent sectors plan a) b → IsShort (seen b)
answer_short sectors plan (PageData page) b shows = rw shows.1 tt
answer_short sectors plan other b shows = rw shows.viewed tt

-- the DMA Setup of a chunk
chunk_short : (plan : DiskPlan) (c : Command) (left : ℕ) (b : List ℕ) → plan.chunk ≤ 8192
    → TellsSetup c.tag (512 * chunk_from plan c left) (512 * chunk_count plan c left) (not c.write) b → IsShort (seen b)
chunk_short plan c left b high told =
    let few : 512 * chunk_count plan c left ≤ 8192 = omega (arith, high) in
    let small : field Setup Count b ≤ 8192 = subst (λ (n : ℕ). n ≤ 8192) (sym told.count_is) few in
    rw told.viewed small

start_short : (plan : DiskPlan) (queued : List Command) (c : Command) (b : List ℕ) → plan.chunk ≤ 8192 → IsSized plan
    → IsIn queued c → Shows (chunk_setup plan c (chunks plan c)) b → IsShort (seen b)
start_short plan queued c b high sized here shows =
    let all = chunks plan c in
    let more : 0 < chunks plan c = some_chunks plan c sized.low here.some in
    let part : ChunkPart plan c all = chunk_part plan c all sized.low here.some more (omega arith) in
    chunk_short plan c all b high (setup_of_chunk plan c all b part here.few here.tag shows)

begin_short : (plan : DiskPlan) (m : Moment) (c : Command) (bad : Option Fault) (write : Bool) (b : List ℕ) → plan.chunk ≤ 8192
    → IsSized plan → IsIn m.queued c → IsTurn (begun_by plan m c bad write) b → IsShort (seen b)
begin_short plan m c (Some f) write b high sized here may = rw may.viewed tt
begin_short plan m c None true b high sized here may =
    start_short plan m.queued c b high sized here may
begin_short plan m c None false b high sized here may =
    let next = sends_left_next plan m.medium c (chunks plan c) (some_chunks plan c sized.low here.some) in
    start_short plan m.queued c b high sized here
    (subst (λ (xs : List Sending). IsTurn (read_turn m c xs) b) next may)

pick_short : (plan : DiskPlan) (sectors : ℕ) (m : Moment) (o : Option Command) (b : List ℕ) → plan.chunk ≤ 8192 → IsSized plan
    → IsQueue m.queued → picked plan.order m.queued ≡ o → IsTurn (pick_turn plan sectors m o) b → IsShort (seen b)
pick_short plan sectors m None b high sized queue is may = absurd may
pick_short plan sectors m (Some c) b high sized queue is may =
    begin_short plan m c (fault_of plan sectors c) c.write b high sized (picked_in plan.order m.queued c queue is)
    (same_turn plan m c (fault_of plan sectors c) b may)

read_short : (plan : DiskPlan) (sectors : ℕ) (m : Moment) (medium : List ℕ) (s : Started) (v : Moving) (left : ℕ) (up : Bool) (b : List ℕ)
    → plan.chunk ≤ 8192 → IsSized plan → IsReading plan sectors medium s v left up → IsTurn (read_turn m s.command s.sends) b
    → IsShort (seen b)
read_short plan sectors m medium s v left false b high sized r may =
    let c = s.command in
    let mv = r.moving in
    let next = sends_left_next plan medium c left mv.more in
    let shows = subst (λ (xs : List Sending). IsTurn (read_turn m c xs) b) (r.stage ∙ next) may in
    let part : ChunkPart plan c left = chunk_part plan c left sized.low mv.some mv.more mv.among in
    chunk_short plan c left b high (setup_of_chunk plan c left b part mv.few mv.tag shows)
read_short plan sectors m medium s v left true b high sized r may =
    let c = s.command in
    let mv = r.moving in
    let next = sends_left_next plan medium c left mv.more in
    let shows = subst (λ (xs : List Sending). IsTurn (read_turn m c xs) b) (r.stage.0 ∙ ap (drop 1) next) may in
    rw shows.1 tt

write_short : (plan : DiskPlan) (sectors : ℕ) (m : Moment) (w : Writing) (v : Moving) (stage : Stage) (b : List ℕ) → plan.chunk ≤ 8192
    → IsSized plan → IsWriting plan sectors w v stage → IsTurn (write_turn m w w.sends) b → IsShort (seen b)
write_short plan sectors m w v Fresh b high sized r may =
    let c = w.command in
    let mv = r.moving in
    let shows = subst (λ (xs : List Sending). IsTurn (write_turn m w xs) b) r.stage.0 may in
    let part : ChunkPart plan c w.left = chunk_part plan c w.left sized.low mv.some mv.more mv.among in
    chunk_short plan c w.left b high (setup_of_chunk plan c w.left b part mv.few mv.tag shows)
write_short plan sectors m w v SetUp b high sized r may =
    let shows = subst (λ (xs : List Sending). IsTurn (write_turn m w xs) b) r.stage.0 may in
    rw shows.viewed tt
write_short plan sectors m w v Asked b high sized r may = absurd (subst (λ (xs : List Sending). IsTurn (write_turn m w xs) b) r.stage.0 may)

turn_short : (plan : DiskPlan) (sectors : ℕ) (medium : List ℕ) (queued : List Command) (fault : Option Fault) (resetting : Bool) (owed : List Answer)
    (s : Option Started) (w : Option Writing) (v : Option Moving) (b : List ℕ)
    → plan.chunk ≤ 8192 → IsSized plan → IsQueue queued → Moves plan sectors medium queued owed s w v
    → IsTurn (turn plan sectors (at medium queued fault resetting owed s w)) b → IsShort (seen b)
turn_short plan sectors medium queued fault resetting (x ∷ later) s w v b high sized queue m may = answer_short sectors plan x b may
turn_short plan sectors medium queued fault resetting [] None None None b high sized queue m may =
    pick_short plan sectors (at medium queued fault resetting [] None None) _ b high sized queue refl may
turn_short plan sectors medium queued fault resetting [] None None (Some v) b high sized queue m may = absurd m
turn_short plan sectors medium queued fault resetting [] (Some s) None None b high sized queue m may = absurd m
turn_short plan sectors medium queued fault resetting [] (Some s) None (Some v) b high sized queue m may =
    read_short plan sectors (at medium queued fault resetting [] (Some s) None) medium s v m.0 m.1 b high sized m.2 may
turn_short plan sectors medium queued fault resetting [] None (Some w) None b high sized queue m may = absurd m
turn_short plan sectors medium queued fault resetting [] None (Some w) (Some v) b high sized queue m may =
    write_short plan sectors (at medium queued fault resetting [] None (Some w)) w v m.0 b high sized m.1 may
turn_short plan sectors medium queued fault resetting [] (Some s) (Some w) v b high sized queue m may = absurd m

chunk_high : (plan : DiskPlan) (sectors : ℕ) → IsSize plan sectors → plan.chunk ≤ 8192
chunk_high plan sectors size =
    let all = and_parts (nat_le 1 sectors && nat_le sectors (most_sectors plan.profile) && nat_le 512 plan.chunk && nat_le plan.chunk 8192) (plan.chunk % 512 == 0) size in
    let most = and_parts (nat_le 1 sectors && nat_le sectors (most_sectors plan.profile) && nat_le 512 plan.chunk) (nat_le plan.chunk 8192) all.0 in
    leb-true plan.chunk 8192 most.1

sent_short : (plan : DiskPlan) (sectors : ℕ) (h : List Happening) (b : List ℕ) → IsSize plan sectors → IsDiskRun plan sectors (h ++ Sent b ∷ [])
    → IsShort (seen b)
sent_short plan sectors h b size run =
    let parts = last_may plan sectors (opening sectors) h (Sent b) run in
    let a = agrees plan sectors h size parts.0 in
    let m = moment plan sectors h in
    turn_short plan sectors m.medium m.queued m.fault m.resetting m.owed m.started m.writing (ledger h).moving b (chunk_high plan sectors size)
    (sized_by plan sectors size) a.queue a.moving parts.1

-- ## What is on its way up

-- each of these FISes is such a one
abbrev pub AreEach : (List ℕ → Type 0) → List (List ℕ) → Type 0
AreEach P [] = Unit {0}
AreEach P (b ∷ up) = P b × AreEach P up

pub each_more : (P : List ℕ → Type 0) (up : List (List ℕ)) (b : List ℕ) → AreEach P up → P b → AreEach P (up ++ b ∷ [])
each_more P [] b all one = (one, tt)
each_more P (x ∷ up) b all one = (all.0, each_more P up b all.1 one)

-- what each FIS is that the disk sends each is that comes up
module _ (plan : DiskPlan) (sectors : ℕ) (base : List Happening) (P : List ℕ → Type 0)
    (each : (h : List Happening) (b : List ℕ) → IsDiskRun plan sectors (h ++ Sent b ∷ []) → P b) where
  pub up_each : (disk host : List Happening) (down stale up : List (List ℕ)) → IsDiskRun plan sectors disk → IsLinkedOn base disk host down stale up
      → AreEach P up
  up_each disk host down stale up run (link.begins s clear) = tt
  up_each disk host down stale up run (link.gives d h below s above bytes linked) = up_each d h below s above run linked
  up_each disk host down stale up run (link.comes d h before after s above bytes linked) =
      up_each d h (before ++ bytes ∷ after) s above (last_may plan sectors (opening sectors) d (Received bytes) run).0 linked
  up_each disk host down stale up run (link.sends d h below s above bytes fine linked) =
      each_more P above bytes (up_each d h below s above (last_may plan sectors (opening sectors) d (Sent bytes) run).0 linked) (each d bytes run)
  up_each disk host down stale up run (link.drops d h below s above bytes linked) = up_each d h below (bytes ∷ s) above run linked
  up_each disk host down stale up run (link.takes d h below above bytes linked) = (up_each d h below [] (bytes ∷ above) run linked).1

pub comes_short : (plan : DiskPlan) (sectors : ℕ) (base disk host : List Happening) (down stale up : List (List ℕ)) (bytes : List ℕ)
    → IsSize plan sectors → IsDiskRun plan sectors disk → IsLinkedOn base disk host down stale (bytes ∷ up) → IsShort (seen bytes)
comes_short plan sectors base disk host down stale up bytes size run linked =
    (up_each plan sectors base (λ b. IsShort (seen b)) (λ h b may. sent_short plan sectors h b size may) disk host down stale (bytes ∷ up) run linked).0

pub next_short : NextIsShort
next_short plan sectors disk given down up bytes size run linked =
    comes_short plan sectors (Plugged ∷ []) disk given down [] up bytes size run (linked_since_new disk given down (bytes ∷ up) linked)

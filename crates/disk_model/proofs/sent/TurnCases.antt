-- For `answers_commands_in_order`. The FISes that a disk may send next, by their purpose.
use Rattle.std.proofs.Common.{◌≡◌, ℕ, ◌+◌, Bool, true, false, List, [], ◌∷◌, ◌++◌, Option, Some, None, drop, refl, ap, subst, ◌∙◌}
use Rattle.disk_model.specs.{declared.{plan.DiskPlan.DiskPlan, request.Command.Command, answer.{Answer.Answer, Fault.Fault}}, Histories.Happening}
use Rattle.disk_model.specs.{Histories.Sent, Sendings.{Sending, Activates, Carries}, Chunks.{chunks, chunk_from, chunk_count, chunk_setup}}
use Rattle.disk_model.specs.{Chunks.{sectors_at, fault_of}, Disks.{Moment, Started, Writing, turn, read_turn, write_turn, pick_turn, picked, opening}}
use Rattle.disk_model.specs.{Runs.{IsTurn, IsDiskRun, moment}, Ledger.{Moving, IsSize, ledger}, Between.{Agrees, Asked, Fresh, InEachCase, IsIn}}
use Rattle.disk_model.specs.Between.{IsQueue, IsReading, IsSized, IsWriting, Moves, SetUp, Stage, begun_by}
use Rattle.disk_model.proofs.{turns.SendLemmas.sends_left_next, agreement.{GeometryLemmas.some_chunks, AgreeLemmas.{idle, reading, under, writing}}}
use Rattle.disk_model.proofs.agreement.{StartLemmas.picked_in, LawLemmas.{agrees, sized_by, last_may, same_turn}}

begins_by : (plan : DiskPlan) (sectors : ℕ) (m : Moment) (owed : List Answer) (c : Command) (bad : Option Fault) (write : Bool)
    (b : List ℕ) (P : Type 0) → IsSized plan → InEachCase plan sectors m.queued owed None b P
    → picked plan.order m.queued ≡ Some c → IsIn m.queued c → fault_of plan sectors c ≡ bad
    → IsTurn (begun_by plan m c bad write) b → P
begins_by plan sectors m owed c (Some f) write b P sized cases turn here is may = cases.fails c f turn is refl may
begins_by plan sectors m owed c None true b P sized cases turn here is may = cases.starts c turn here is refl may
begins_by plan sectors m owed c None false b P sized cases turn here is may =
    let next = sends_left_next plan m.medium c (chunks plan c) (some_chunks plan c sized.low here.some) in
    cases.starts c turn here is refl (subst (λ (xs : List Sending). IsTurn (read_turn m c xs) b) next may)

picks_by : (plan : DiskPlan) (sectors : ℕ) (m : Moment) (owed : List Answer) (o : Option Command) (b : List ℕ) (P : Type 0)
    → IsSized plan → IsQueue m.queued → InEachCase plan sectors m.queued owed None b P → picked plan.order m.queued ≡ o
    → IsTurn (pick_turn plan sectors m o) b → P
picks_by plan sectors m owed None b P sized queue cases is may = absurd may
picks_by plan sectors m owed (Some c) b P sized queue cases is may = begins_by plan sectors m owed c _ c.write b P sized cases is (picked_in plan.order m.queued c queue is) refl (same_turn plan m c (fault_of plan sectors c) b may)

reads_by : (plan : DiskPlan) (sectors : ℕ) (m : Moment) (queued : List Command) (owed : List Answer) (medium : List ℕ)
    (s : Started) (v : Moving) (left : ℕ) (up : Bool) (b : List ℕ) (P : Type 0)
    → InEachCase plan sectors queued owed (Some v) b P → IsReading plan sectors medium s v left up
    → IsTurn (read_turn m s.command s.sends) b → P
reads_by plan sectors m queued owed medium s v left false b P cases r may =
    let next = sends_left_next plan medium s.command left r.moving.more in
    cases.goes_on v (chunk_setup plan s.command left) refl tt (subst (λ (xs : List Sending). IsTurn (read_turn m s.command xs) b) (r.stage ∙ next) may)
reads_by plan sectors m queued owed medium s v left true b P cases r may =
    let c = s.command in
    let next = sends_left_next plan medium s.command left r.moving.more in
    cases.goes_on v (Carries (sectors_at medium (c.lba + chunk_from plan c left) (chunk_count plan c left))) refl tt (subst (λ (xs : List Sending). IsTurn (read_turn m s.command xs) b) (r.stage.0 ∙ ap (drop 1) next) may)

writes_by : (plan : DiskPlan) (sectors : ℕ) (m : Moment) (queued : List Command) (owed : List Answer) (w : Writing) (v : Moving)
    (stage : Stage) (b : List ℕ) (P : Type 0) → InEachCase plan sectors queued owed (Some v) b P
    → IsWriting plan sectors w v stage → IsTurn (write_turn m w w.sends) b → P
writes_by plan sectors m queued owed w v Fresh b P cases r may = cases.goes_on v (chunk_setup plan w.command w.left) refl tt (subst (λ (xs : List Sending). IsTurn (write_turn m w xs) b) r.stage.0 may)
writes_by plan sectors m queued owed w v SetUp b P cases r may = cases.goes_on v Activates refl tt (subst (λ (xs : List Sending). IsTurn (write_turn m w xs) b) r.stage.0 may)
writes_by plan sectors m queued owed w v Asked b P cases r may = absurd (subst (λ (xs : List Sending). IsTurn (write_turn m w xs) b) r.stage.0 may)

turn_by : (plan : DiskPlan) (sectors : ℕ) (m : Moment) (owed : List Answer) (s : Option Started) (w : Option Writing)
    (v : Option Moving) (b : List ℕ) (P : Type 0) → IsSized plan → IsQueue m.queued
    → Moves plan sectors m.medium m.queued owed s w v → InEachCase plan sectors m.queued owed v b P
    → IsTurn (turn plan sectors (under m owed s w)) b → P
turn_by plan sectors m (x ∷ later) s w v b P sized queue moves cases may = cases.answers x later refl may
turn_by plan sectors m [] None None None b P sized queue moves cases may =
    picks_by plan sectors (idle m) [] _ b P sized queue cases refl may
turn_by plan sectors m [] None None (Some v) b P sized queue moves cases may = absurd moves
turn_by plan sectors m [] (Some s) None None b P sized queue moves cases may = absurd moves
turn_by plan sectors m [] (Some s) None (Some v) b P sized queue moves cases may =
    reads_by plan sectors (reading m s) m.queued [] m.medium s v moves.0 moves.1 b P cases moves.2 may
turn_by plan sectors m [] None (Some w) None b P sized queue moves cases may = absurd moves
turn_by plan sectors m [] None (Some w) (Some v) b P sized queue moves cases may =
    writes_by plan sectors (writing m [] w) m.queued [] w v moves.0 b P cases moves.1 may
turn_by plan sectors m [] (Some s) (Some w) v b P sized queue moves cases may = absurd moves

-- after a run
pub sent_by : (plan : DiskPlan) (sectors : ℕ) (h : List Happening) (b : List ℕ) (P : Type 0) → IsSize plan sectors
    → IsDiskRun plan sectors (h ++ Sent b ∷ [])
    → (Agrees plan sectors (moment plan sectors h) (ledger h) → InEachCase plan sectors (moment plan sectors h).queued (moment plan sectors h).owed (ledger h).moving b P)
    → P
sent_by plan sectors h b P size run cases =
    let parts = last_may plan sectors (opening sectors) h (Sent b) run in
    let a = agrees plan sectors h size parts.0 in
    let m = moment plan sectors h in
    turn_by plan sectors m m.owed m.started m.writing (ledger h).moving b P
    (sized_by plan sectors size) a.queue a.moving (cases a) parts.1

-- For `is_silent_where_nothing_is_owed`. A disk that has nothing to send owes nothing.
use Rattle.std.proofs.Common.{◌≡◌, ◌≢◌, ℕ, ◌-◌, ◌<◌, Bool, true, false, List, [], ◌∷◌, Option, Some, None, length, drop, refl, ap, ◌∙◌, arith}
use Rattle.std.proofs.lemmas.Option.{slice_get-get_or}
use Rattle.disk_model.specs.declared.{plan.{DiskPlan.DiskPlan, Order.{Order, TheVariants.{Oldest, Newest}}}, request.Command.Command}
use Rattle.disk_model.specs.{declared.answer.{Answer.Answer, Fault.Fault}, Histories.Happening, Sendings.Sending, Chunks.{chunks, fault_of}}
use Rattle.disk_model.specs.{Disks.{Moment, Started, Writing, turn, read_turn, write_turn, pick_turn, begun, picked}, Runs.{IsDiskRun, moment}}
use Rattle.disk_model.specs.{Ledger.{Ledger, Moving, Wanted, IsSize, ledger}, Laws.{OwesNothing, SilentRight}, Between.{AreWanted, Asked, IsQueue}}
use Rattle.disk_model.specs.Between.{IsReading, IsSized, IsWriting, Moves, Stage, begun_by, ended_tags, pages_of, replies}
use Rattle.disk_model.proofs.{turns.{SendLemmas.sends_left_next, TurnLemmas.none_left}, agreement.{GeometryLemmas.some_chunks, AgreeLemmas.idle}}
use Rattle.disk_model.proofs.agreement.{AgreeLemmas.{reading, under, writing}, StartLemmas.picked_in, LawLemmas.{agrees, sized_by}}

-- ## No turn

asks_something : (m : Moment) (w : Writing) (sends later : List Sending) (s : Sending) → sends ≡ s ∷ later
    → write_turn m w sends ≢ None
asks_something m w sends later s is = λ none. let e = rw is at none in cc e

begins_something : (plan : DiskPlan) (sectors : ℕ) (m : Moment) (c : Command) (bad : Option Fault) (write : Bool)
    → IsSized plan → 0 < c.count → begun_by plan m c bad write ≢ None
begins_something plan sectors m c (Some f) write sized some = λ none. cc none
begins_something plan sectors m c None true sized some = λ none. cc none
begins_something plan sectors m c None false sized some = none_left m c _ _ _ (sends_left_next plan m.medium c (chunks plan c) (some_chunks plan c sized.low some))

by_begun : (plan : DiskPlan) (m : Moment) (c : Command) (bad : Option Fault) → begun plan m c bad ≡ None
    → begun_by plan m c bad c.write ≡ None
by_begun plan m c None none = none
by_begun plan m c (Some f) none = none

picked_none : (order : Order) (queued : List Command) → picked order queued ≡ None → queued ≡ []
picked_none order [] none = refl
picked_none Oldest (q ∷ qs) none = cc none
picked_none Newest (q ∷ qs) none = let e = slice_get-get_or (q ∷ qs) (length (q ∷ qs) - 1) q (omega arith) in cc (e, none)

picks_nothing : (plan : DiskPlan) (sectors : ℕ) (m : Moment) (o : Option Command) → IsSized plan → IsQueue m.queued
    → picked plan.order m.queued ≡ o → pick_turn plan sectors m o ≡ None → m.queued ≡ []
picks_nothing plan sectors m None sized queue is none = picked_none plan.order m.queued is
picks_nothing plan sectors m (Some c) sized queue is none = absurd (begins_something plan sectors m c (fault_of plan sectors c) c.write sized (picked_in plan.order m.queued c queue is).some (by_begun plan m c (fault_of plan sectors c) none))

reads_something : (plan : DiskPlan) (sectors : ℕ) (m : Moment) (medium : List ℕ) (s : Started) (v : Moving) (left : ℕ)
    (up : Bool) → IsReading plan sectors medium s v left up → read_turn m s.command s.sends ≢ None
reads_something plan sectors m medium s v left false r = none_left m s.command _ _ _ (r.stage ∙ sends_left_next plan medium s.command left r.moving.more)
reads_something plan sectors m medium s v left true r = none_left m s.command _ _ _ (r.stage.0 ∙ ap (drop 1) (sends_left_next plan medium s.command left r.moving.more))

-- ## What is then owed

none_wanted : (plan : DiskPlan) (sectors : ℕ) (ws : List Wanted) → AreWanted plan sectors [] ws → ws ≡ []
none_wanted plan sectors [] are = refl
none_wanted plan sectors (w ∷ ws) are = absurd are

writes_waiting : (plan : DiskPlan) (sectors : ℕ) (m : Moment) (w : Writing) (v : Moving) (stage : Stage)
    → IsWriting plan sectors w v stage → write_turn m w w.sends ≡ None → (v.command.write ≡ true) × (v.active ≡ true)
writes_waiting plan sectors m w v Asked r none = (ap (λ (c : Command). c.write) r.moving.same ∙ r.writes, r.stage.1)
writes_waiting plan sectors m w v other r none = absurd (asks_something m w _ _ _ r.stage.0 none)

silent_by : (plan : DiskPlan) (sectors : ℕ) (m : Moment) (owed : List Answer) (s : Option Started) (w : Option Writing)
    (v : Option Moving) (l : Ledger) → IsSized plan → IsQueue m.queued → l.outstanding ≡ m.queued
    → l.unanswered ≡ ended_tags owed → l.awaited ≡ replies owed → AreWanted plan sectors (pages_of owed) l.pages
    → l.moving ≡ v → Moves plan sectors m.medium m.queued owed s w v
    → turn plan sectors (under m owed s w) ≡ None → OwesNothing l
silent_by plan sectors m (x ∷ later) s w v l sized queue out tags replied are is moves none = cc none
silent_by plan sectors m [] None None None l sized queue out tags replied are is moves none =
    let nothing = out ∙ picks_nothing plan sectors (idle m) _ sized queue refl none in
    record { awaited = replied; unanswered = tags; pages = none_wanted plan sectors l.pages are; waits = rw is nothing }
silent_by plan sectors m [] None None (Some v) l sized queue out tags replied are is moves none = absurd moves
silent_by plan sectors m [] (Some s) None None l sized queue out tags replied are is moves none = absurd moves
silent_by plan sectors m [] (Some s) None (Some v) l sized queue out tags replied are is moves none =
    absurd (reads_something plan sectors (reading m s) m.medium s v moves.0 moves.1 moves.2 none)
silent_by plan sectors m [] None (Some w) None l sized queue out tags replied are is moves none = absurd moves
silent_by plan sectors m [] None (Some w) (Some v) l sized queue out tags replied are is moves none =
    let waits = writes_waiting plan sectors (writing m [] w) w v moves.0 moves.1 none in
    record { awaited = replied; unanswered = tags; pages = none_wanted plan sectors l.pages are; waits = rw is waits }
silent_by plan sectors m [] (Some s) (Some w) v l sized queue out tags replied are is moves none = absurd moves

pub silent_right : (plan : DiskPlan) (sectors : ℕ) (h : List Happening) → IsSize plan sectors → IsDiskRun plan sectors h
    → SilentRight plan sectors h
silent_right plan sectors h size run = λ none.
    let a = agrees plan sectors h size run in
    let m = moment plan sectors h in
    silent_by plan sectors m m.owed m.started m.writing (ledger h).moving (ledger h)
    (sized_by plan sectors size) a.queue a.outstanding a.unanswered a.awaited a.pages refl a.moving none

-- For `answers_each_command_once`. The ledger and the disk still agree after each FIS that the disk sends.
use Rattle.std.proofs.Common.{◌≡◌, eqb, ℕ, ◌+◌, ◌-◌, ◌*◌, ◌<◌, ◌≤◌, Bool, true, false, List, [], ◌∷◌, Option, Some, None, length, drop, refl, ap, sym}
use Rattle.std.proofs.{Common.{subst, ◌∙◌, arith}, lemmas.{Bool.{eq-eqb, Decides.nat_tests}, List.{length-replicate}}}
use Rattle.std.specs.Prelude.{replicate, not, ◌++◌}
use Rattle.fis_view.specs.{Seen.seen, Table.{Bits, BufferId, Error, Offset, Setup, field}}
use Rattle.disk_model.specs.declared.{plan.{DiskPlan.DiskPlan, Order.{Order, TheVariants.{Oldest, Newest}}}, request.Command.Command}
use Rattle.disk_model.specs.{declared.answer.{Answer.Answer, Fault.{Fault, TheVariants.{Failed, Held, Mixed}}}, Sendings.{Sending, Carries}}
use Rattle.disk_model.specs.{Chunks.{activations, chunks, chunk_from, chunk_count, sends_left, sectors_at, fault_of, error_of}, Disks.Moment}
use Rattle.disk_model.specs.{Disks.{Started, Writing, turn, read_turn, write_turn, begun, begun_write, starts, pick_turn, picked, went}, Runs.IsTurn}
use Rattle.disk_model.specs.{Ledger.{Failure, Ledger, Moving, is_auto, moves, listens_up, sets_up, with_auto}, Between.{Agrees, AreSetUp, Asked}}
use Rattle.disk_model.specs.Between.{ChunkPart, Fresh, IsHeld, IsIn, IsMoving, IsQueue, IsReading, IsSetUp, IsSized, IsWriting, Moves, SetUp, Stage}
use Rattle.disk_model.specs.Between.{TellsSetup, moved_bytes, moved_sectors}
use Rattle.disk_model.proofs.{turns.SendLemmas.sends_left_next, agreement.{ShowsLemmas.{error_tells, error_field_tells}, FaultLemmas.can_be_done}}
use Rattle.disk_model.proofs.agreement.{FaultLemmas.{fault_is, fault_small, noted}, GeometryLemmas.{moved_none, chunk_part, some_chunks}}
use Rattle.disk_model.proofs.agreement.{SetupLemmas.{chunk_stretch, set_up_none, set_up_next}, QueueLemmas.is_in, AgreeLemmas.{Beside, Stands, along}}
use Rattle.disk_model.proofs.agreement.{AgreeLemmas.{gives_up, idle, reading, shown, under, writing, only_moves}, TransferLemmas.auto_of_read}
use Rattle.disk_model.proofs.agreement.TransferLemmas.{auto_of_write, Carried, Follows, IsSending, chunk_bytes, length-sectors_at, none_moved}
use Rattle.disk_model.proofs.agreement.TransferLemmas.{read_ends, read_goes_on, read_sets_up, same_moving, sent_so_far, setup_of_chunk, so_far}
use Rattle.disk_model.proofs.agreement.ListenLemmas.{step_answer}
use Rattle.fis_view.specs.Table as table

-- ## A read's Data

read_carries_by : (plan : DiskPlan) (sectors : ℕ) (m : Moment) (k : Beside) (s : Started) (v : Moving) (left : ℕ) (last : Bool)
    → eqb left 1 ≡ last → IsSized plan → IsSending plan sectors m.medium s.command left v
    → IsHeld m.queued [] s.command.tag → AreSetUp plan s.command (left - 1) v.setups
    → Stands plan sectors (reading m s) (sent_so_far plan m k s.command left v)
    → Carried plan sectors (reading m s) k s.command left v (sends_left plan m.medium s.command (left - 1))
unfolding sends_left
read_carries_by plan sectors m k s v left true e sized sending held named a =
    let one : left ≡ 1 = grind (arith, nat_tests, e) in
    let none : sends_left plan m.medium s.command (left - 1) ≡ [] = ap (λ n. sends_left plan m.medium s.command (n - 1)) one in
    read_ends plan sectors m k s v left _ sized sending one none a
read_carries_by plan sectors m k s v left false e sized sending held named a =
    let other : left ≡ 1 → ⊥ = λ is. cc (eq-eqb left 1 is, e) in
    let some : 0 < left - 1 = omega (arith, sending.moving.more, other) in
    let next = sends_left_next plan m.medium s.command (left - 1) some in
    rw next (read_goes_on plan sectors m k s v left _ _ sized sending other next held named a)

read_carries : (plan : DiskPlan) (sectors : ℕ) (m : Moment) (k : Beside) (s : Started) (v : Moving) (left : ℕ) (b : List ℕ)
    → IsSized plan → IsReading plan sectors m.medium s v left true → IsHeld m.queued [] s.command.tag
    → Stands plan sectors (reading m s) (along k (Some v)) → IsTurn (read_turn (reading m s) s.command s.sends) b
    → Follows plan sectors (reading m s) (along k (Some v)) (read_turn (reading m s) s.command s.sends) b
read_carries plan sectors m k s v left b sized r held a may =
    let n : Moment = reading m s in
    let c = s.command in
    let mv = r.moving in
    let d : List ℕ = chunk_bytes plan m.medium c left in
    let rest = sends_left plan m.medium c (left - 1) in
    let next = sends_left_next plan m.medium c left mv.more in
    let sends : s.sends ≡ Carries d ∷ rest = r.stage.0 ∙ ap (drop 1) next in
    let shows = subst (λ (xs : List Sending). IsTurn (read_turn n c xs) b) sends may in
    let v0 : Moving = so_far plan m.medium c left v in
    let is : v ≡ v0 = same_moving v v0 mv.same r.bytes mv.moved r.stage.1 refl r.idle in
    let sending : IsSending plan sectors m.medium c left v = record {
      moving = record {
        same = refl;
        more = mv.more;
        among = mv.among;
        inside = mv.inside;
        some = mv.some;
        few = mv.few;
        tag = mv.tag;
        moved = refl;
      };
      reads = r.reads;
      before = r.before;
    } in
    let a0 = subst (λ (x : Moving). Stands plan sectors n (along k (Some x))) is a in
    let goes = read_carries_by plan sectors m k s v left _ refl sized sending held r.setups a0 in
    let l0 : Ledger = shown n (along k (Some v0)) in
    let told : listens_up l0 (seen b) ≡ moves l0 v0 d =
    ap (listens_up l0) shows.1 ∙ ap (λ (xs : List ℕ). moves l0 v0 (drop 4 xs)) shows.0 in
    let done = subst (λ (l : Ledger). Agrees plan sectors (went n c rest) l) (sym told) goes in
    let back = subst (λ (x : Moving). Agrees plan sectors (went n c rest) (listens_up (shown n (along k (Some x))) (seen b))) (sym is) done in
    subst (λ (xs : List Sending). Follows plan sectors n (along k (Some v)) (read_turn n c xs) b) (sym sends) back

-- ## A write asks

-- a write whose next chunk was just set up; with auto-activate its Data may come
write_set_up : (plan : DiskPlan) (sectors : ℕ) (m : Moment) (k : Beside) (s0 : Option Started) (w0 : Option Writing)
    (v0 : Option Moving) (w : Writing) (v : Moving) (auto : Bool) → IsMoving plan sectors w.command w.left v
    → w.command.write ≡ true → v.bytes ≡ w.staged → length w.staged ≡ 512 * w.command.count → v.active ≡ false
    → IsSetUp plan w.command w.left v → AreSetUp plan w.command (w.left - 1) v.setups → IsHeld m.queued [] w.command.tag
    → Stands plan sectors (under m [] s0 w0) (along k v0)
    → Agrees plan sectors (writing m [] (record w { sends = activations auto }))
    (with_auto auto (shown (writing m [] (record w { sends = activations auto })) (along k (Some v))))
write_set_up plan sectors m k s0 w0 v0 w v true mv writes bytes whole idle up setups held a = only_moves _ _ m k _ _ _ _ _ _ _ a (
  Asked,
  record {
    moving = record { same = mv.same; more = mv.more; among = mv.among; inside = mv.inside; some = mv.some; few = mv.few; tag = mv.tag; moved = mv.moved };
    writes = writes;
    bytes = bytes;
    whole = whole;
    stage = (refl, refl, up);
    setups = setups;
  },
  held,
)
write_set_up plan sectors m k s0 w0 v0 w v false mv writes bytes whole idle up setups held a = only_moves _ _ m k _ _ _ _ _ _ _ a (
  SetUp,
  record {
    moving = record { same = mv.same; more = mv.more; among = mv.among; inside = mv.inside; some = mv.some; few = mv.few; tag = mv.tag; moved = mv.moved };
    writes = writes;
    bytes = bytes;
    whole = whole;
    stage = (refl, idle, up);
    setups = setups;
  },
  held,
)

write_asks : (plan : DiskPlan) (sectors : ℕ) (m : Moment) (k : Beside) (w : Writing) (v : Moving) (stage : Stage) (b : List ℕ)
    → IsSized plan → IsWriting plan sectors w v stage → IsHeld m.queued [] w.command.tag
    → Stands plan sectors (writing m [] w) (along k (Some v)) → IsTurn (write_turn (writing m [] w) w w.sends) b
    → Follows plan sectors (writing m [] w) (along k (Some v)) (write_turn (writing m [] w) w w.sends) b
write_asks plan sectors m k w v Fresh b sized r held a may =
    let n : Moment = writing m [] w in
    let c = w.command in
    let mv = r.moving in
    let shows = subst (λ (xs : List Sending). IsTurn (write_turn n w xs) b) r.stage.0 may in
    let part : ChunkPart plan c w.left = chunk_part plan c w.left sized.low mv.some mv.more mv.among in
    let told : TellsSetup c.tag (512 * chunk_from plan c w.left) (512 * chunk_count plan c w.left) (not c.write) b =
    setup_of_chunk plan c w.left b part mv.few mv.tag shows in
    let offset : ℕ = 512 * chunk_from plan c w.left in
    let count : ℕ = 512 * chunk_count plan c w.left in
    let now : Moving = record v {
      setups = v.setups ++ record { at = offset; count = count } ∷ [];
      offset = offset;
      count = count;
      active = false;
    } in
    let auto : is_auto b ≡ plan.auto = auto_of_write plan c w.left b r.writes shows in
    let at : field Setup Offset b ≡ offset = told.offset_is in
    let long : field Setup table.Count b ≡ count = told.count_is in
    let goes = write_set_up plan sectors m k None (Some w) (Some v) w now plan.auto
    (record { same = mv.same; more = mv.more; among = mv.among; inside = mv.inside; some = mv.some; few = mv.few; tag = mv.tag; moved = mv.moved })
    r.writes r.bytes r.whole refl (refl, refl) (set_up_next plan c w.left v.setups part r.setups) held a in
    let heard : listens_up (shown n (along k (Some v))) (seen b) ≡ with_auto plan.auto (shown n (along k (Some now))) =
    ap (listens_up (shown n (along k (Some v)))) told.viewed
    ∙ ap (λ (t : Bool). with_auto t (sets_up (shown n (along k (Some v))) (Some v) (field Setup BufferId b) (field Setup Offset b) (field Setup table.Count b))) auto
    ∙ ap (λ (x : ℕ). with_auto plan.auto (sets_up (shown n (along k (Some v))) (Some v) (field Setup BufferId b) x (field Setup table.Count b))) at
    ∙ ap (λ (x : ℕ). with_auto plan.auto (sets_up (shown n (along k (Some v))) (Some v) (field Setup BufferId b) offset x)) long in
    let next : Moment = writing m [] (record w { sends = activations plan.auto }) in
    subst (λ (xs : List Sending). Follows plan sectors n (along k (Some v)) (write_turn n w xs) b) (sym r.stage.0)
    (subst (λ (l : Ledger). Agrees plan sectors next l) (sym heard) goes)
write_asks plan sectors m k w v SetUp b sized r held a may =
    let n : Moment = writing m [] w in
    let mv = r.moving in
    let shows = subst (λ (xs : List Sending). IsTurn (write_turn n w xs) b) r.stage.0 may in
    subst (λ (xs : List Sending). Follows plan sectors n (along k (Some v)) (write_turn n w xs) b) (sym r.stage.0) (rw shows.viewed (only_moves _ _ m k _ _ _ _ _ _ _ a (
      Asked,
      record {
        moving = record { same = mv.same; more = mv.more; among = mv.among; inside = mv.inside; some = mv.some; few = mv.few; tag = mv.tag; moved = mv.moved };
        writes = r.writes;
        bytes = r.bytes;
        whole = r.whole;
        stage = (refl, refl, r.stage.2);
        setups = r.setups;
      },
      held,
    )))
write_asks plan sectors m k w v Asked b sized r held a may =
    absurd (subst (λ (xs : List Sending). IsTurn (write_turn (writing m [] w) w xs) b) r.stage.0 may)

-- ## A command is started

pub picked_in : (order : Order) (queued : List Command) (c : Command) → IsQueue queued → picked order queued ≡ Some c
    → IsIn queued c
picked_in Oldest queued c queue is = is_in queued 0 c queue is
picked_in Newest queued c queue is = is_in queued (length queued - 1) c queue is

-- the data of a command, as its first DMA Setup leaves it
abbrev first_moving : DiskPlan → Beside → Command → Moving
first_moving plan k c = record {
  command = c;
  before = k.writes;
  bytes = replicate (512 * c.count) 0;
  moved = 0;
  setups = chunk_stretch plan c (chunks plan c) ∷ [];
  offset = 512 * chunk_from plan c (chunks plan c);
  count = 512 * chunk_count plan c (chunks plan c);
  active = false;
}

-- that DMA Setup, as a listener hears it
starts_told : (plan : DiskPlan) (m : Moment) (k : Beside) (c : Command) (b : List ℕ) → IsIn m.queued c
    → TellsSetup c.tag (512 * chunk_from plan c (chunks plan c)) (512 * chunk_count plan c (chunks plan c)) (not c.write) b
    → (auto : Bool) → is_auto b ≡ auto
    → listens_up (shown m (along k None)) (seen b) ≡ with_auto auto (shown m (along k (Some (first_moving plan k c))))
starts_told plan m k c b here told auto is =
    let found = here.found in
    let tag = told.tag_is in
    let offset = told.offset_is in
    let count = told.count_is in
    let viewed = told.viewed in
    rw (viewed, is, tag, offset, count, found) refl

start_of : (plan : DiskPlan) (sectors : ℕ) (m : Moment) (k : Beside) (c : Command) (write : Bool) (b : List ℕ)
    → IsSized plan → c.write ≡ write → IsIn m.queued c → c.lba + c.count ≤ sectors
    → Stands plan sectors (idle m) (along k None) → IsTurn (starts plan (idle m) c write) b
    → Follows plan sectors (idle m) (along k None) (starts plan (idle m) c write) b
start_of plan sectors m k c false b sized is here inside a may =
    let n : Moment = idle m in
    let all = chunks plan c in
    let more : 0 < chunks plan c = some_chunks plan c sized.low here.some in
    let next = sends_left_next plan m.medium c (chunks plan c) more in
    let shows = subst (λ (xs : List Sending). IsTurn (read_turn n c xs) b) next may in
    let part : ChunkPart plan c all = chunk_part plan c all sized.low here.some more (omega arith) in
    let told : TellsSetup c.tag (512 * chunk_from plan c all) (512 * chunk_count plan c all) (not c.write) b =
    setup_of_chunk plan c all b part here.few here.tag shows in
    let room : 512 * (c.lba + c.count) ≤ length m.medium = omega (arith, a.length_is) in
    let nothing : moved_sectors plan c all ≡ 0 = moved_none plan c sized.low here.some in
    let s : List ℕ = sectors_at m.medium c.lba c.count in
    let zeros = sym (none_moved plan.last_first s (512 * c.count) (length-sectors_at m.medium c.lba c.count room))
    ∙ ap (λ n. moved_bytes plan.last_first s (512 * c.count) (512 * n)) (sym nothing) in
    subst (λ (xs : List Sending). Follows plan sectors n (along k None) (read_turn n c xs) b) (sym next) (rw (starts_told plan n k c b here told false (auto_of_read plan c all b is shows)) (only_moves _ _ m k _ _ _ _ _ _ _ a (
      all,
      true,
      record {
        moving = record {
          same = refl;
          more = more;
          among = omega arith;
          inside = inside;
          some = here.some;
          few = here.few;
          tag = here.tag;
          moved = ap (λ n. 512 * n) (sym nothing);
        };
        reads = is;
        before = sym a.medium;
        bytes = zeros;
        idle = refl;
        stage = (sym (ap (drop 1) next), refl, refl);
        setups = set_up_next plan c all [] part (set_up_none plan c sized.low here.some);
      },
      record { has = here.has; quiet = refl },
    )))
start_of plan sectors m k c true b sized is here inside a may =
    let n : Moment = idle m in
    let all = chunks plan c in
    let more : 0 < chunks plan c = some_chunks plan c sized.low here.some in
    let part : ChunkPart plan c all = chunk_part plan c all sized.low here.some more (omega arith) in
    let told : TellsSetup c.tag (512 * chunk_from plan c all) (512 * chunk_count plan c all) (not c.write) b =
    setup_of_chunk plan c all b part here.few here.tag may in
    let nothing : moved_sectors plan c all ≡ 0 = moved_none plan c sized.low here.some in
    let moving : IsMoving plan sectors c all (first_moving plan k c) = record {
      same = refl;
      more = more;
      among = omega arith;
      inside = inside;
      some = here.some;
      few = here.few;
      tag = here.tag;
      moved = ap (λ n. 512 * n) (sym nothing);
    } in
    let goes = write_set_up plan sectors m k None None None (begun_write plan c) (first_moving plan k c) plan.auto moving is refl
    (length-replicate (512 * c.count) 0) refl (refl, refl) (set_up_next plan c all [] part (set_up_none plan c sized.low here.some))
    (record { has = here.has; quiet = refl }) a in
    let next : Moment = writing m [] (record (begun_write plan c) { sends = activations plan.auto }) in
    subst (λ (l : Ledger). Agrees plan sectors next l) (sym (starts_told plan n k c b here told plan.auto (auto_of_write plan c all b is may))) goes

begin_of : (plan : DiskPlan) (sectors : ℕ) (m : Moment) (k : Beside) (c : Command) (bad : Option Fault) (b : List ℕ)
    → IsSized plan → fault_of plan sectors c ≡ bad → picked plan.order m.queued ≡ Some c → IsIn m.queued c
    → Stands plan sectors (idle m) (along k None) → IsTurn (begun plan (idle m) c bad) b
    → Follows plan sectors (idle m) (along k None) (begun plan (idle m) c bad) b
begin_of plan sectors m k c (Some Held) b sized is turn here a may = absurd (fault_is plan sectors c Held is)
begin_of plan sectors m k c (Some Mixed) b sized is turn here a may = absurd (fault_is plan sectors c Mixed is)
begin_of plan sectors m k c (Some (Failed tag e lba)) b sized is turn here a may =
    let error = error_tells (error_of (Failed tag e lba)) b may in
    let fault = fault_is plan sectors c (Failed tag e lba) is in
    let told = error_field_tells (error_of (Failed tag e lba)) b (fault_small plan sectors c (Failed tag e lba) fault) may in
    let failure : Failure = record { error = field Bits Error b; among = m.queued } in
    rw (may.viewed, error) (gives_up plan sectors _ _ a (Some (Failed tag e lba)) (Some failure) m.resetting []
    (noted plan sectors c (Failed tag e lba) m.queued (field Bits Error b) turn fault told) refl refl)
begin_of plan sectors m k c None b sized is turn here a may =
    start_of plan sectors m k c c.write b sized refl here (can_be_done plan sectors c is).inside a may

pick_of : (plan : DiskPlan) (sectors : ℕ) (m : Moment) (k : Beside) (o : Option Command) (b : List ℕ) → IsSized plan
    → picked plan.order m.queued ≡ o → Stands plan sectors (idle m) (along k None)
    → IsTurn (pick_turn plan sectors (idle m) o) b
    → Follows plan sectors (idle m) (along k None) (pick_turn plan sectors (idle m) o) b
pick_of plan sectors m k None b sized is a may = absurd may
pick_of plan sectors m k (Some c) b sized is a may =
    begin_of plan sectors m k c _ b sized refl is (picked_in plan.order m.queued c a.queue is) a may

-- ## Each FIS

pub step_sent : (plan : DiskPlan) (sectors : ℕ) (m : Moment) (k : Beside) (owed : List Answer) (s : Option Started)
    (w : Option Writing) (v : Option Moving) (b : List ℕ) → IsSized plan
    → Moves plan sectors m.medium m.queued owed s w v → Stands plan sectors (under m owed s w) (along k v)
    → IsTurn (turn plan sectors (under m owed s w)) b
    → Follows plan sectors (under m owed s w) (along k v) (turn plan sectors (under m owed s w)) b
step_sent plan sectors m k (x ∷ later) s w v b sized moves a may =
    step_answer plan sectors (under m (x ∷ later) s w) (along k v) x later b may a
step_sent plan sectors m k [] None None None b sized moves a may = pick_of plan sectors m k _ b sized refl a may
step_sent plan sectors m k [] None None (Some v) b sized moves a may = absurd moves
step_sent plan sectors m k [] (Some s) None None b sized moves a may = absurd moves
step_sent plan sectors m k [] (Some s) None (Some v) b sized (left, false, r, held) a may =
    read_sets_up plan sectors m k s.command s.sends v left b sized r held a may
step_sent plan sectors m k [] (Some s) None (Some v) b sized (left, true, r, held) a may =
    read_carries plan sectors m k s v left b sized r held a may
step_sent plan sectors m k [] None (Some w) None b sized moves a may = absurd moves
step_sent plan sectors m k [] None (Some w) (Some v) b sized (stage, r, held) a may =
    write_asks plan sectors m k w v stage b sized r held a may
step_sent plan sectors m k [] (Some s) (Some w) v b sized moves a may = absurd moves

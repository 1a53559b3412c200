-- For `answers_each_command_once`. The ledger and the disk still agree while data moves.
use Rattle.std.proofs.Common.{◌≡◌, ◌==◌, eqb, ℕ, zero, suc, ◌+◌, ◌-◌, ◌*◌, ◌<◌, ◌≤◌, Bool, true, false, List, [], ◌∷◌, ◌++◌, Option, Some, None}
use Rattle.std.proofs.{Common.{length, drop, take, refl, ap, sym, subst, ◌∙◌, arith, length-drop}, lemmas.Bool.{eq-eqb, Decides.nat_tests}}
use Rattle.std.proofs.{lemmas.List.{length-take-le, append-nil, Elements.{All-append}}, Math.Seq.{take-length, drop-length}}
use Rattle.std.specs.Prelude.{All, not, replicate, if◌then◌else◌, ◌&&◌}
use Rattle.fis_view.specs.Seen.{seen}
use Rattle.disk_model.specs.{declared.{plan.DiskPlan.DiskPlan, request.Command.Command}, Sendings.{Sending, Shows}, Chunks.{activations, chunk_from}}
use Rattle.disk_model.specs.{Chunks.{chunk_count, chunk_setup, sends_left, sectors_at, put}, Disks.{Moment, Started, Turn, Writing, data_taken}}
use Rattle.disk_model.specs.{Disks.{stored, read_turn, went, after_turn}, Runs.IsTurn, Ledger.{Ledger, Moving, ReadOut, IsRead, is_auto, moves}}
use Rattle.disk_model.specs.{Ledger.{takes_data, listens_up, medium_with}, Between.{Agrees, AreSetUp, Asked, ChunkPart, Fresh, IsHeld, IsMoving}}
use Rattle.disk_model.specs.Between.{IsReading, IsSized, Moves, SetUp, TellsSetup, from_back, from_front, moved_bytes, moved_sectors}
use Rattle.disk_model.proofs.{turns.SendLemmas.sends_left_next, agreement.ShowsLemmas.{auto_none, auto_same, auto_tells, setup_tells}}
use Rattle.disk_model.proofs.agreement.{PlaceLemmas.{put_front, put_back, chunk_of_sectors}, GeometryLemmas.chunk_part, SetupLemmas.set_up_next}
use Rattle.disk_model.proofs.agreement.{QueueLemmas.{IsQueue-filter}, AgreeLemmas.{Beside, Stands, along, reading, shown, under, writing, only_moves}}
use Rattle.disk_model.proofs.agreement.StoreLemmas.{IsAsking, asked, asked_for, store_by}

-- ## Bytes of reads

-- nothing has moved yet
pub none_moved : (downwards : Bool) (s : List ℕ) (n : ℕ) → length s ≡ n → moved_bytes downwards s n 0 ≡ replicate n 0
none_moved true s n is =
    let rest : drop (n - 0) s ≡ [] = ap (λ i. drop i s) (let e : n - 0 ≡ length s = omega arith in e) ∙ drop-length s in
    ap (λ (xs : List ℕ). replicate (n - 0) 0 ++ xs) rest ∙ append-nil (replicate (n - 0) 0) ∙ ap (λ (i : ℕ). replicate i 0) (let e : n - 0 ≡ n = omega arith in e)
none_moved false s n is = ap (λ (i : ℕ). replicate i 0) (let e : n - 0 ≡ n = omega arith in e)

-- everything has moved
pub all_moved : (downwards : Bool) (s : List ℕ) (n : ℕ) → length s ≡ n → moved_bytes downwards s n n ≡ s
all_moved true s n is = let e : n - n ≡ 0 = omega arith in rw e refl
all_moved false s n is =
    let e : n - n ≡ 0 = omega arith in
    rw e (append-nil (take n s) ∙ ap (λ i. take i s) (sym is) ∙ take-length s)

-- one more chunk has moved
pub more_moved : (downwards : Bool) (s : List ℕ) (count from part moved : ℕ) → length s ≡ 512 * count → moved + part ≤ count
    → (downwards ≡ false → from ≡ moved) → (downwards ≡ true → from ≡ count - (moved + part))
    → put (moved_bytes downwards s (512 * count) (512 * moved)) (512 * from) (take (512 * part) (drop (512 * from) s))
    ≡ moved_bytes downwards s (512 * count) (512 * (moved + part))
more_moved true s count from part moved is fits up down =
    let d : from ≡ count - (moved + part) = down refl in
    let o : 512 * from ≡ 512 * count - (512 * moved + 512 * part) = omega (arith, d) in
    let room : 512 * moved + 512 * part ≤ 512 * count = omega arith in
    ap (λ i. put (from_back s (512 * count) (512 * moved)) i (take (512 * part) (drop i s))) o ∙ put_back s (512 * count) (512 * moved) (512 * part) is room ∙ ap (from_back s (512 * count)) (let e : 512 * moved + 512 * part ≡ 512 * (moved + part) = omega arith in e)
more_moved false s count from part moved is fits up down =
    let d : from ≡ moved = up refl in
    let o : 512 * from ≡ 512 * moved = omega (arith, d) in
    let room : 512 * moved + 512 * part ≤ 512 * count = omega arith in
    ap (λ i. put (from_front s (512 * count) (512 * moved)) i (take (512 * part) (drop i s))) o ∙ put_front s (512 * count) (512 * moved) (512 * part) is room ∙ ap (from_front s (512 * count)) (let e : 512 * moved + 512 * part ≡ 512 * (moved + part) = omega arith in e)

pub length-sectors_at : (medium : List ℕ) (lba count : ℕ) → 512 * (lba + count) ≤ length medium
    → length (sectors_at medium lba count) ≡ 512 * count
length-sectors_at medium lba count inside = length-take-le (512 * count) (drop (512 * lba) medium) (omega (arith, length-drop (512 * lba) medium))

-- ## Data of the host

-- the data that moves belongs to this command, with this many bytes moved and this DMA Setup
pub same_moving : (v w : Moving) → v.command ≡ w.command → v.bytes ≡ w.bytes → v.moved ≡ w.moved → v.offset ≡ w.offset
    → v.count ≡ w.count → v.active ≡ w.active
    → v ≡ record w { before = v.before; setups = v.setups }
same_moving v w a b c d e f = λ i. record {
  command = a i;
  before = v.before;
  bytes = b i;
  moved = c i;
  setups = v.setups;
  offset = d i;
  count = e i;
  active = f i;
}

write_takes : (plan : DiskPlan) (sectors : ℕ) (m : Moment) (k : Beside) (w : Writing) (v : Moving) (bytes : List ℕ) (fits : Bool)
    → eqb (length bytes) (512 * chunk_count plan w.command w.left) ≡ fits → w.sends ≡ [] → IsSized plan
    → IsAsking plan sectors w v → IsHeld m.queued m.owed w.command.tag → AreSetUp plan w.command (w.left - 1) v.setups
    → Stands plan sectors (writing m m.owed w) (asked plan k w v)
    → Agrees plan sectors (data_taken plan (writing m m.owed w) (Some w) bytes)
    (takes_data (shown (writing m m.owed w) (asked plan k w v)) (Some (asked_for plan w v)) bytes)
write_takes plan sectors m k w v bytes true e sends sized asking held named a =
    let none : (length w.sends == 0) ≡ true = rw sends refl in
    let fits : length bytes ≡ 512 * chunk_count plan w.command w.left = grind (arith, nat_tests, e) in
    rw (none, e) (store_by plan sectors m k w v bytes _ refl sized asking fits held named a)
write_takes plan sectors m k w v bytes false e sends sized asking held named a =
    let none : (length w.sends == 0) ≡ true = rw sends refl in
    rw (none, e) a

nothing_taken : (l : Ledger) (v : Moving) (bytes : List ℕ) → v.active ≡ false → takes_data l (Some v) bytes ≡ l
nothing_taken l v bytes e = ap (λ (b : Bool). if b && (length bytes == v.count) then moves l v bytes else l) e

nothing_stored : (plan : DiskPlan) (m : Moment) (w : Writing) (bytes : List ℕ) → (length w.sends == 0) ≡ false
    → data_taken plan m (Some w) bytes ≡ m
nothing_stored plan m w bytes e =
    ap (λ (b : Bool). if b && (length bytes == 512 * chunk_count plan w.command w.left) then stored plan m w bytes else m) e

-- a write asks for each chunk
some_asks : (x : Sending) (auto : Bool) → (length (x ∷ activations auto) == 0) ≡ false
some_asks x true = refl
some_asks x false = refl

-- Data that is not asked for changes nothing
not_asked : (plan : DiskPlan) (sectors : ℕ) (m : Moment) (k : Beside) (w : Writing) (v : Moving) (bytes : List ℕ)
    → (length w.sends == 0) ≡ false → v.active ≡ false → Stands plan sectors m (along k (Some v))
    → Agrees plan sectors (data_taken plan m (Some w) bytes) (takes_data (shown m (along k (Some v))) (Some v) bytes)
not_asked plan sectors m k w v bytes more idle a =
    rw (nothing_stored plan m w bytes more, nothing_taken (shown m (along k (Some v))) v bytes idle) a

pub step_data : (plan : DiskPlan) (sectors : ℕ) (m : Moment) (k : Beside) (s : Option Started) (w : Option Writing)
    (v : Option Moving) (bytes : List ℕ) → IsSized plan → Moves plan sectors m.medium m.queued m.owed s w v
    → Stands plan sectors (under m m.owed s w) (along k v)
    → Agrees plan sectors (data_taken plan (under m m.owed s w) w bytes)
    (takes_data (shown (under m m.owed s w) (along k v)) v bytes)
step_data plan sectors m k None None None bytes sized moves a = a
step_data plan sectors m k None None (Some v) bytes sized moves a = absurd moves
step_data plan sectors m k (Some s) None None bytes sized moves a = absurd moves
step_data plan sectors m k (Some s) None (Some v) bytes sized moves a =
    let idle : v.active ≡ false = moves.2.idle in
    rw (nothing_taken (shown (under m m.owed (Some s) None) (along k (Some v))) v bytes idle) a
step_data plan sectors m k None (Some w) None bytes sized moves a = absurd moves
step_data plan sectors m k None (Some w) (Some v) bytes sized (Fresh, r, held) a =
    let more : (length w.sends == 0) ≡ false = rw r.stage.0 (some_asks (chunk_setup plan w.command w.left) plan.auto) in
    not_asked plan sectors (writing m m.owed w) k w v bytes more r.stage.1 a
step_data plan sectors m k None (Some w) (Some v) bytes sized (SetUp, r, held) a =
    let more : (length w.sends == 0) ≡ false = rw r.stage.0 refl in
    not_asked plan sectors (writing m m.owed w) k w v bytes more r.stage.1 a
step_data plan sectors m k None (Some w) (Some v) bytes sized (Asked, r, held) a =
    let mv = r.moving in
    let n : Moment = writing m m.owed w in
    let is : v ≡ asked_for plan w v =
    same_moving v (asked_for plan w v) mv.same r.bytes mv.moved r.stage.2.0 r.stage.2.1 r.stage.1 in
    let a' = subst (λ (x : Moving). Stands plan sectors n (along k (Some x))) is a in
    let asking : IsAsking plan sectors w v = record {
      moving = record {
        same = refl;
        more = mv.more;
        among = mv.among;
        inside = mv.inside;
        some = mv.some;
        few = mv.few;
        tag = mv.tag;
        moved = refl;
      };
      writes = r.writes;
      whole = r.whole;
    } in
    subst (λ (x : Moving). Agrees plan sectors (data_taken plan n (Some w) bytes)
    (takes_data (shown n (along k (Some x))) (Some x) bytes)) (sym is)
    (write_takes plan sectors m k w v bytes _ refl r.stage.0 sized asking held r.setups a')
step_data plan sectors m k (Some s) (Some w) v bytes sized moves a = absurd moves

-- ## Reads send

-- the read's data, as its last FIS left it
abbrev pub so_far : DiskPlan → List ℕ → Command → ℕ → Moving → Moving
so_far plan medium c left v = record v {
  command = c;
  bytes = moved_bytes plan.last_first (sectors_at medium c.lba c.count) (512 * c.count) (512 * moved_sectors plan c left);
  moved = 512 * moved_sectors plan c left;
  offset = 512 * chunk_from plan c left;
  active = false;
}

-- the bytes of its next chunk
abbrev pub chunk_bytes : DiskPlan → List ℕ → Command → ℕ → List ℕ
chunk_bytes plan medium c left = sectors_at medium (c.lba + chunk_from plan c left) (chunk_count plan c left)

-- a read whose next FIS is the Data of that chunk
pub record IsSending (plan : DiskPlan) (sectors : ℕ) (medium : List ℕ) (c : Command) (left : ℕ) (v : Moving) : Type 0 where
  pub moving : IsMoving plan sectors c left (so_far plan medium c left v)
  pub reads : c.write ≡ false
  pub before : medium_with sectors v.before ≡ medium

-- what is known in addition for such a read
abbrev pub sent_so_far : DiskPlan → Moment → Beside → Command → ℕ → Moving → Beside
sent_so_far plan m k c left v = along k (Some (so_far plan m.medium c left v))

-- the Data is sent, and these FISes are still to come
abbrev pub Carried : DiskPlan → ℕ → Moment → Beside → Command → ℕ → Moving → List Sending → Type 0
Carried plan sectors m k c left v later =
    Agrees plan sectors (went m c later)
    (moves (shown m (sent_so_far plan m k c left v)) (so_far plan m.medium c left v) (chunk_bytes plan m.medium c left))

-- a turn of the disk, as a listener hears it
abbrev pub Follows : DiskPlan → ℕ → Moment → Beside → Turn → List ℕ → Type 0
Follows plan sectors m k t b = Agrees plan sectors (after_turn m t) (listens_up (shown m k) (seen b))

-- the place and the length of a chunk fit their fields
pub setup_of_chunk : (plan : DiskPlan) (c : Command) (left : ℕ) (b : List ℕ)
    → ChunkPart plan c left → c.count ≤ 65536 → c.tag < 32 → Shows (chunk_setup plan c left) b
    → TellsSetup c.tag (512 * chunk_from plan c left) (512 * chunk_count plan c left) (not c.write) b
setup_of_chunk plan c left b part few tag shows =
    let offset = 512 * chunk_from plan c left in
    let count = 512 * chunk_count plan c left in
    setup_tells c.tag offset count (not c.write) plan.auto b tag
    (omega (arith, part.inside, few)) (omega (arith, part.inside, few)) shows

-- the DMA Setup of a read has no auto-activate, and that of a write has what the plan says
pub auto_of_read : (plan : DiskPlan) (c : Command) (left : ℕ) (b : List ℕ) → c.write ≡ false → Shows (chunk_setup plan c left) b
    → is_auto b ≡ false
auto_of_read plan c left b reads shows =
    auto_tells c.tag (512 * chunk_from plan c left) (512 * chunk_count plan c left) (not c.write) plan.auto b shows
    ∙ auto_none plan.auto c.write reads

pub auto_of_write : (plan : DiskPlan) (c : Command) (left : ℕ) (b : List ℕ) → c.write ≡ true → Shows (chunk_setup plan c left) b
    → is_auto b ≡ plan.auto
auto_of_write plan c left b writes shows =
    auto_tells c.tag (512 * chunk_from plan c left) (512 * chunk_count plan c left) (not c.write) plan.auto b shows
    ∙ auto_same plan.auto c.write writes

pub read_sets_up : (plan : DiskPlan) (sectors : ℕ) (m : Moment) (k : Beside) (c : Command) (sends : List Sending) (v : Moving)
    (left : ℕ) (b : List ℕ) → IsSized plan
    → let s : Started = record { command = c; sends = sends } in
    IsReading plan sectors m.medium s v left false → IsHeld m.queued [] c.tag
    → Stands plan sectors (reading m s) (along k (Some v)) → IsTurn (read_turn (reading m s) c sends) b
    → Follows plan sectors (reading m s) (along k (Some v)) (read_turn (reading m s) c sends) b
read_sets_up plan sectors m k c sends v left b sized r held a may =
    let mv = r.moving in
    let next = sends_left_next plan m.medium c left mv.more in
    let is = r.stage ∙ next in
    let shows = rw is at may in
    let part : ChunkPart plan c left = chunk_part plan c left sized.low mv.some mv.more mv.among in
    let told : TellsSetup c.tag (512 * chunk_from plan c left) (512 * chunk_count plan c left) (not c.write) b =
    setup_of_chunk plan c left b part mv.few mv.tag shows in
    let plain : is_auto b ≡ false = auto_of_read plan c left b r.reads shows in
    rw (is, told.viewed, plain) (only_moves _ _ m k _ _ _ _ _ _ _ a (
      left,
      true,
      record {
        moving = record { same = mv.same; more = mv.more; among = mv.among; inside = mv.inside; some = mv.some; few = mv.few; tag = mv.tag; moved = mv.moved };
        reads = r.reads;
        before = r.before;
        bytes = r.bytes;
        idle = refl;
        stage = (sym (ap (drop 1) next), told.offset_is, told.count_is);
        setups = rw (told.offset_is, told.count_is) (set_up_next plan c left v.setups part r.setups);
      },
      held,
    ))

all_one : (sectors : ℕ) (x : ReadOut) → IsRead sectors x → All (IsRead sectors) (x ∷ [])
all_one sectors x is zero d below = is
all_one sectors x is (suc k) d below = absurd (omega arith)

-- the Data of a chunk, at its place
data_placed : (plan : DiskPlan) (sectors : ℕ) (medium : List ℕ) (c : Command) (left : ℕ) → IsSized plan
    → ChunkPart plan c left → length medium ≡ 512 * sectors → c.lba + c.count ≤ sectors
    → let bytes = moved_bytes plan.last_first (sectors_at medium c.lba c.count) (512 * c.count) in
    put (bytes (512 * moved_sectors plan c left)) (512 * chunk_from plan c left) (chunk_bytes plan medium c left)
    ≡ bytes (512 * (moved_sectors plan c left + chunk_count plan c left))
data_placed plan sectors medium c left sized part size inside =
    let s : List ℕ = sectors_at medium c.lba c.count in
    let from = chunk_from plan c left in
    let count = chunk_count plan c left in
    let moved = moved_sectors plan c left in
    let room : 512 * (c.lba + c.count) ≤ length medium = omega arith in
    ap (λ (xs : List ℕ). put (moved_bytes plan.last_first s (512 * c.count) (512 * moved)) (512 * from) xs)
    (chunk_of_sectors medium c.lba c.count from count part.inside room)
    ∙ more_moved plan.last_first s c.count from count moved (length-sectors_at medium c.lba c.count room)
    part.within part.upwards part.downwards_is

pub read_ends : (plan : DiskPlan) (sectors : ℕ) (m : Moment) (k : Beside) (s : Started) (v : Moving) (left : ℕ)
    (later : List Sending) → IsSized plan → IsSending plan sectors m.medium s.command left v → left ≡ 1 → later ≡ []
    → Stands plan sectors (reading m s) (sent_so_far plan m k s.command left v)
    → Carried plan sectors (reading m s) k s.command left v later
read_ends plan sectors m k s v left later sized sending one none a =
    let c = s.command in
    let mv = sending.moving in
    let reads = sending.reads in
    let part : ChunkPart plan c left = chunk_part plan c left sized.low mv.some mv.more mv.among in
    let d : List ℕ = chunk_bytes plan m.medium c left in
    let high : 512 * (c.lba + chunk_from plan c left + chunk_count plan c left) ≤ length m.medium =
    omega (arith, part.inside, mv.inside, a.length_is) in
    let size : length d ≡ 512 * chunk_count plan c left =
    length-sectors_at m.medium (c.lba + chunk_from plan c left) (chunk_count plan c left) high in
    let done : moved_sectors plan c left + chunk_count plan c left ≡ c.count = part.last one in
    let total : 512 * moved_sectors plan c left + length d ≡ 512 * c.count = omega (arith, size, done) in
    let is_all : (512 * moved_sectors plan c left + length d == 512 * c.count) ≡ true = eq-eqb _ _ total in
    let room : 512 * (c.lba + c.count) ≤ length m.medium = omega (arith, mv.inside, a.length_is) in
    let s : List ℕ = sectors_at m.medium c.lba c.count in
    let whole = data_placed plan sectors m.medium c left sized part a.length_is mv.inside
    ∙ ap (λ n. moved_bytes plan.last_first s (512 * c.count) (512 * n)) done
    ∙ all_moved plan.last_first s (512 * c.count) (length-sectors_at m.medium c.lba c.count room) in
    let bytes : List ℕ = put (so_far plan m.medium c left v).bytes (512 * chunk_from plan c left) d in
    let read : IsRead sectors (record { command = c; before = v.before; bytes = bytes }) =
    whole ∙ ap (λ (xs : List ℕ). sectors_at xs c.lba c.count) (sym sending.before) in
    rw (none, is_all, reads) (record {
      outstanding = refl;
      failed = refl;
      unanswered = refl;
      medium = a.medium;
      length_is = a.length_is;
      queue = IsQueue-filter _ m.queued a.queue;
      tags = (mv.tag, tt);
      reads = All-append (IsRead sectors) k.reads _ a.reads (all_one sectors _ read);
      moving = tt;
      failure = a.failure;
      resetting = refl;
      in_reset = refl;
      awaited = refl;
      pages = a.pages;
    })

pub read_goes_on : (plan : DiskPlan) (sectors : ℕ) (m : Moment) (k : Beside) (s : Started) (v : Moving) (left : ℕ) (x : Sending)
    (later : List Sending) → IsSized plan → IsSending plan sectors m.medium s.command left v → (left ≡ 1 → ⊥)
    → sends_left plan m.medium s.command (left - 1) ≡ x ∷ later → IsHeld m.queued [] s.command.tag
    → AreSetUp plan s.command (left - 1) v.setups → Stands plan sectors (reading m s) (sent_so_far plan m k s.command left v)
    → Carried plan sectors (reading m s) k s.command left v (x ∷ later)
read_goes_on plan sectors m k s v left x later sized sending other next held named a =
    let c = s.command in
    let mv = sending.moving in
    let part : ChunkPart plan c left = chunk_part plan c left sized.low mv.some mv.more mv.among in
    let d : List ℕ = chunk_bytes plan m.medium c left in
    let high : 512 * (c.lba + chunk_from plan c left + chunk_count plan c left) ≤ length m.medium =
    omega (arith, part.inside, mv.inside, a.length_is) in
    let size : length d ≡ 512 * chunk_count plan c left =
    length-sectors_at m.medium (c.lba + chunk_from plan c left) (chunk_count plan c left) high in
    let less : moved_sectors plan c left + chunk_count plan c left < c.count = part.more other in
    let not_all : (512 * moved_sectors plan c left + length d == 512 * c.count) ≡ false = grind (arith, nat_tests, less, size) in
    let moved : 512 * moved_sectors plan c left + length d ≡ 512 * moved_sectors plan c (left - 1) = omega (arith, size, part.next) in
    let placed = data_placed plan sectors m.medium c left sized part a.length_is mv.inside
    ∙ ap (λ n. moved_bytes plan.last_first (sectors_at m.medium c.lba c.count) (512 * c.count) (512 * n)) (sym part.next) in
    rw not_all (only_moves _ _ m k _ _ _ _ _ _ _ a (
      left - 1,
      false,
      record {
        moving = record {
          same = refl;
          more = omega (arith, mv.more, other);
          among = omega (arith, mv.among);
          inside = mv.inside;
          some = mv.some;
          few = mv.few;
          tag = mv.tag;
          moved = moved;
        };
        reads = sending.reads;
        before = sending.before;
        bytes = placed;
        idle = refl;
        stage = sym next;
        setups = named;
      },
      held,
    ))

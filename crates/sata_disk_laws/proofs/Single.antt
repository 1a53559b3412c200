-- The FIS of the command that moves sectors and is not queued is due to its host.
use Rattle.std.proofs.Common.{◌≡◌, ℕ, ◌-◌, ◌*◌, ◌/◌, ◌<◌, true, false, List, length, Some, refl, sym, ap, ◌∙◌, subst, arith, inl}
use Rattle.std.proofs.lemmas.Bool.{and_right}
use Rattle.std.specs.{Prelude.{Option, Bool, nat_le, nat_lt, not, ◌==◌, ◌&&◌, if◌then◌else◌}, Option.option_map}
use Rattle.block_command.specs.declared.command.{Command.Command, Protocol.{Protocol, TheVariants.Pio}, Stage.{Stage, TheVariants.SetUpRead}}
use Rattle.block_command.specs.{declared.command.Stage.TheVariants.{Announce, Sending, SetUpWrite, Activate, End, Fail}, Moments.{Moment, is_ended}}
use Rattle.block_command.specs.{Moments.part_of, Laws.{Goes, after}}
use Rattle.block_command.proofs.Door.{at}
use Rattle.block_disk.specs.Table.{is_under_way}
use Rattle.block_queue.specs.Line.{IsLine, Line, command_at, line_gone}
use Rattle.block_engine.specs.declared.aside.AsideStage.{AsideStage}
use Rattle.ata_reply.specs.declared.reply.Reply.{Reply}
use Rattle.ata_reply.specs.declared.reply.Reply.TheVariants as replies
use Rattle.ata_front.specs.{CommandFis.{announced_read, asks_by, failure_of}, Fronts.task_less, declared.{front.Front.Front, task.Moving.Moving}}
use Rattle.ata_front.specs.declared.task.{Task.Task, Trouble.Trouble}
use Rattle.ata_front.specs.declared.task.Task.TheVariants as tasks
use Rattle.sata_disk.specs.{State.{DiskState, IsBeside, commands, is_taken}, Sending.{moving_of, out_at, single_front, trouble_at}}
use Rattle.sata_disk.specs.declared.out.Out.TheVariants as out
use Rattle.sata_disk_laws.specs.Once.{ForEnd, ForLast, ForNothing, Host, IsFilling, IsSingle, Wait, announced, data_got, data_got_by, is_for_data}
use Rattle.sata_disk_laws.specs.Once.{none_open, single_over}
use Rattle.sata_disk_laws.proofs.{Left.{CountsAt, is_last, last_ends, sending_counts, sending_last}, Owed.single_refused, Replies.{IsGood, SentAs}}
use Rattle.sata_disk_laws.proofs.{Replies.by_reply, Speaks.{IsGone, gone_fits, gone_is}, Tracks.{IsPlace, LoneTags, MovesAs, TagsAs, Tracks, WaitsAs}}

-- ## Its task

pub record IsMoving (h : Host) (f : Front) (s : AsideStage) (l : Line) (m : Moment) : Type 0 where
  pub moving : Moving
  pub task : f.task ≡ tasks.Moves moving
  pub shut : h.open_at 32 ≡ true
  pub counts : CountsAt moving.left m
  pub waits : h.waits ≡ (if is_last m moving.left then ForLast else ForEnd)
  pub lone : LoneTags h l
  pub beside : IsBeside (tasks.Moves moving) s
  pub alive : is_ended m.stage ≡ false

no_task : (x : Option Moment) (P : Type 0) → is_under_way x ≡ true → is_under_way x ≡ false → P
no_task x P e f = absurd (cc)

moving_case : (h : Host) (f : Front) (s : AsideStage) (l : Line) (m : Moment) (t : Task) → f.task ≡ t → command_at l 32 ≡ Some m → is_under_way (Some m) ≡ true
    → IsBeside t s → WaitsAs h t (Some m) → TagsAs h t l → IsMoving h f s l m
moving_case h f s l m (tasks.Moves v) at' there alive beside w tags = record {
  moving = v;
  task = at';
  shut = w.0;
  counts = w.1.1;
  waits = w.1.2;
  lone = tags;
  beside = beside;
  alive = w.1.0;
}
moving_case h f s l m tasks.Idle at' there alive beside w tags = no_task (Some m) _ alive w.2
moving_case h f s l m (tasks.Gives x) at' there alive beside w tags = no_task (Some m) _ alive w.2
moving_case h f s l m other at' there alive beside w tags = no_task (Some m) _ alive w.1

pub moving_is : (h : Host) (f : Front) (s : AsideStage) (l : Line) (m : Moment) → command_at l 32 ≡ Some m → is_under_way (Some m) ≡ true → Tracks h f s l
    → IsMoving h f s l m
moving_is h f s l m there alive is =
    let P : Option Moment → Type 0 = λ x. WaitsAs h f.task x in
    moving_case h f s l m f.task refl there alive is.beside (subst P there is.waits) is.tags

-- ## Its FIS goes

front_is : (f : Front) (l : Line) (n : ℕ) (v : Moving) (b : Bool) → f.task ≡ tasks.Moves v → is_taken l 32 ≡ b
    → single_front f f.task (not (is_taken l 32)) n ≡ record f { task = task_less (tasks.Moves v) (not b) n }
front_is f l n v b e alive =
    ap (λ t. single_front f t (not (is_taken l 32)) n) e
    ∙ ap (λ t. record f { task = task_less t (not (is_taken l 32)) n }) e
    ∙ ap (λ x. record f { task = task_less (tasks.Moves v) (not x) n }) alive

module _ (h : Host) (d : DiskState) (n : ℕ) (m : Moment) (there : command_at (commands d) 32 ≡ Some m) (is : IsLine (commands d))
    (v : IsMoving h d.front d.engine.stage (commands d) m) (tracks : Tracks h d.front d.engine.stage (commands d)) where
  gone : IsGone (commands d) (line_gone (commands d) 32) 32
  gone = gone_is (commands d) 32 is (omega arith)

  now : command_at (line_gone (commands d) 32) 32 ≡ Some (after m Goes)
  now = gone.here ∙ ap (λ x. option_map (λ m. after m Goes) x) there

  others : (t : ℕ) → t < 32 → is_taken (line_gone (commands d) 32) t ≡ false
  others t low = ap is_under_way (gone.others t (λ e. omega (arith, e, low))) ∙ (v.lone t low).0

  not_idle : (P : Type 0) → d.front.in_reset ≡ true → P
  not_idle P e = absurd (let idle = sym v.task ∙ (tracks.idle e).0 in cc)

  -- it is under way as before
  pub single_stays : (h' : Host) → is_ended (after m Goes).stage ≡ false → h'.open_at 32 ≡ true → ((t : ℕ) → h'.open_at t ≡ h.open_at t) → h'.in_reset ≡ h.in_reset
      → CountsAt (v.moving.left - n) (after m Goes) → h'.waits ≡ (if is_last (after m Goes) (v.moving.left - n) then ForLast else ForEnd) → SentAs h' d 32 n
  single_stays h' alive shut same reset counts waits =
      let taken : is_taken (line_gone (commands d) 32) 32 ≡ true = ap is_under_way now ∙ ap (λ b. not b) alive in
      let P : Front → Type 0 = λ f. Tracks h' f d.engine.stage (line_gone (commands d) 32) in
      let Q : Option Moment → Type 0 = λ x. MovesAs h' (v.moving.left - n) x in
      subst P (sym (front_is d.front (line_gone (commands d) 32) n v.moving true v.task taken)) (record {
        beside = v.beside;
        fits = gone_fits (commands d) _ 32 gone tracks.fits;
        waits = (shut, subst Q (sym now) (alive, counts, waits));
        tags = λ t low. (others t low, same t ∙ (v.lone t low).1);
        reset = reset ∙ tracks.reset;
        idle = λ e. not_idle _ e;
        faulty = λ e. λ t low. others t low;
      })

  -- it ended
  pub single_ends : (h' : Host) → is_ended (after m Goes).stage ≡ true → h'.open_at 32 ≡ false → ((t : ℕ) → t < 32 → h'.open_at t ≡ false) → h'.in_reset ≡ h.in_reset
      → h'.waits ≡ ForNothing → SentAs h' d 32 n
  single_ends h' over' shut none reset waits =
      let taken : is_taken (line_gone (commands d) 32) 32 ≡ false = ap is_under_way now ∙ ap (λ b. not b) over' in
      let P : Front → Type 0 = λ f. Tracks h' f d.engine.stage (line_gone (commands d) 32) in
      subst P (sym (front_is d.front (line_gone (commands d) 32) n v.moving false v.task taken)) (record {
        beside = v.beside;
        fits = gone_fits (commands d) _ 32 gone tracks.fits;
        waits = (waits, shut, taken);
        tags = λ t low. others t low ∙ sym (none t low);
        reset = reset ∙ tracks.reset;
        idle = λ e. (refl, λ t low. others t low);
        faulty = λ e. λ t low. others t low;
      })

-- ## What each FIS tells

no_left : (n : ℕ) → n - 0 ≡ n
no_left n = omega arith

announced_open : (h : Host) (b : Bool) (t : ℕ) → (announced h b).open_at t ≡ h.open_at t
announced_open h true t = refl
announced_open h false t = refl

announced_reset : (h : Host) (b : Bool) → (announced h b).in_reset ≡ h.in_reset
announced_reset h true = refl
announced_reset h false = refl

announced_waits : (h : Host) (b : Bool) → h.waits ≡ ForEnd → (announced h b).waits ≡ (if b then ForLast else ForEnd)
announced_waits h true e = refl
announced_waits h false e = e

asks_good : (h : Host) (d : DiskState) (m : Moment) (p : Protocol) → IsSingle h → SentAs h d 32 0 → IsGood h d 32 (asks_by m p)
asks_good h d m Pio single sent = (single, refl, sent)
asks_good h d m other single sent = (inl single, tt, sent)

fails_single : (c : Command) (t : Trouble) (wide : Bool) → c.place ≡ 32
    → failure_of c t wide ≡ replies.Failed (record { error = t.error; lba = t.lba; wide = wide })
fails_single c t wide e = ap (λ k. if nat_lt k 32 then replies.Aborts t.error else replies.Failed (record { error = t.error; lba = t.lba; wide = wide })) e

pub single_reply : (h : Host) (d : DiskState) (r : Reply) (c : Command) (done : ℕ) (bytes : List ℕ) (sent : ℕ) (stage : Stage)
    → command_at (commands d) 32 ≡ Some (at c done bytes sent stage) → IsLine (commands d) → IsPlace 32 (at c done bytes sent stage)
    → Some (out.Of 32 r) ≡ out_at d 32 (Some (at c done bytes sent stage))
    → Tracks h d.front d.engine.stage (commands d) → IsGood h d 32 r × IsSingle h
single_reply h d r c done bytes sent SetUpRead there is place e tracks = absurd (let q = place.queued in let f = place.fits.0 in cc)
single_reply h d r c done bytes sent SetUpWrite there is place e tracks = absurd (let q = place.queued in let f = place.fits in cc)
single_reply h d r c done bytes sent Sending there is place e tracks = absurd (cc)
single_reply h d r c done bytes sent Announce there is place e tracks =
    let m = at c done bytes sent Announce in
    let v = moving_is h d.front d.engine.stage (commands d) m there refl tracks in
    let b = nat_le ((moving_of d.front.task).left * 512) (length (part_of m)) in
    let left : (moving_of d.front.task).left ≡ v.moving.left - 0 = ap (λ t. (moving_of t).left) v.task ∙ sym (no_left v.moving.left) in
    let last : b ≡ is_last (at c done bytes sent Sending) (v.moving.left - 0) =
    ap (λ k. nat_le (k * 512) (length (part_of m))) left ∙ sym (ap (λ x. x && nat_le ((v.moving.left - 0) * 512) (length (part_of m))) place.fits.0) in
    let P : ℕ → Type 0 = λ k. CountsAt k (at c done bytes sent Sending) in (
      by_reply h d 32 r (announced_read m (moving_of d.front.task).left) e (
        (v.shut, v.waits),
        refl,
        single_stays h d 0 m there is v tracks (announced h b) refl (announced_open h b 32 ∙ v.shut) (λ t. announced_open h b t) (announced_reset h b)
            (subst P (sym (no_left v.moving.left)) v.counts) (announced_waits h b v.waits ∙ ap (λ x. if x then ForLast else ForEnd) last),
      ),
      (v.shut, v.waits),
    )
single_reply h d r c done bytes sent Activate there is place e tracks =
    let m = at c done bytes sent Activate in
    let v = moving_is h d.front d.engine.stage (commands d) m there refl tracks in (
      by_reply h d 32 r (asks_by m c.protocol) e (asks_good h d m c.protocol (v.shut, v.waits)
          (single_stays h d 0 m there is v tracks h refl v.shut (λ t. refl) refl tt v.waits)),
      (v.shut, v.waits),
    )
single_reply h d r c done bytes sent End there is place e tracks =
    let m = at c done bytes sent End in
    let v = moving_is h d.front d.engine.stage (commands d) m there refl tracks in (
      by_reply h d 32 r replies.Done e (
        (v.shut, v.waits),
        refl,
        single_ends h d 0 m there is v tracks (single_over h) refl refl (λ t low. and_right (not (t == 32)) (h.open_at t) (v.lone t low).1) refl refl,
      ),
      (v.shut, v.waits),
    )
single_reply h d r c done bytes sent Fail there is place e tracks =
    let m = at c done bytes sent Fail in
    let v = moving_is h d.front d.engine.stage (commands d) m there refl tracks in (
      by_reply h d 32 r _ (e ∙ ap (λ x. Some (out.Of 32 x)) (fails_single c (trouble_at d.engine 32) (moving_of d.front.task).wide place.place)) (
        single_refused h (v.shut, v.waits),
        refl,
        single_ends h d 0 m there is v tracks (record h { open_at = none_open; waits = ForNothing }) refl refl (λ t low. refl) refl refl,
      ),
      (v.shut, v.waits),
    )
single_reply h d r c done bytes sent stage there is place e tracks = absurd (cc)

same_data : (p q n k : ℕ) → Some (out.Data p n) ≡ Some (out.Data q k) → n ≡ k
same_data p q n k e = cc

data_case : (h : Host) (d : DiskState) (c : Command) (done : ℕ) (bytes : List ℕ) (sent : ℕ) (b : Bool)
    → (v : IsMoving h d.front d.engine.stage (commands d) (at c done bytes sent Sending)) → is_last (at c done bytes sent Sending) v.moving.left ≡ b
    → command_at (commands d) 32 ≡ Some (at c done bytes sent Sending) → IsLine (commands d) → IsPlace 32 (at c done bytes sent Sending)
    → Tracks h d.front d.engine.stage (commands d)
    → (is_for_data (if b then ForLast else ForEnd) ≡ true)
    × SentAs (data_got_by h (if b then ForLast else ForEnd)) d 32 (length (part_of (at c done bytes sent Sending)) / 512)
data_case h d c done bytes sent true v last there is place tracks = (
  refl,
  single_ends h d _ (at c done bytes sent Sending) there is v tracks (single_over h)
      (last_ends c done bytes sent v.moving.left place.whole place.fits v.counts ∙ last) refl (λ t low. and_right (not (t == 32)) (h.open_at t) (v.lone t low).1) refl refl,
)
data_case h d c done bytes sent false v last there is place tracks = (
  refl,
  single_stays h d _ (at c done bytes sent Sending) there is v tracks h
      (last_ends c done bytes sent v.moving.left place.whole place.fits v.counts ∙ last) v.shut (λ t. refl) refl
      (sending_counts c done bytes sent v.moving.left place.whole place.fits v.counts)
      (v.waits ∙ ap (λ x. if x then ForLast else ForEnd) last ∙ ap (λ x. if x then ForLast else ForEnd) (sym (sending_last c done bytes sent _))),
)

pub single_data : (h : Host) (d : DiskState) (n : ℕ) (c : Command) (done : ℕ) (bytes : List ℕ) (sent : ℕ) (stage : Stage)
    → command_at (commands d) 32 ≡ Some (at c done bytes sent stage) → IsLine (commands d) → IsPlace 32 (at c done bytes sent stage)
    → Some (out.Data 32 n) ≡ out_at d 32 (Some (at c done bytes sent stage))
    → Tracks h d.front d.engine.stage (commands d) → IsFilling h × SentAs (data_got h) d 32 (n / 512)
single_data h d n c done bytes sent Sending there is place e tracks =
    let m = at c done bytes sent Sending in
    let v = moving_is h d.front d.engine.stage (commands d) m there refl tracks in
    let both = data_case h d c done bytes sent _ v refl there is place tracks in
    let P : ℕ → Type 0 = λ k. SentAs (data_got h) d 32 (k / 512) in
    let Q : Wait → Type 0 = λ w. SentAs (data_got_by h w) d 32 (length (part_of m) / 512) in
    ((v.shut, ap is_for_data v.waits ∙ both.0), subst P (sym (same_data 32 32 n _ e)) (subst Q (sym v.waits) both.1))
single_data h d n c done bytes sent stage there is place e tracks = absurd (cc)

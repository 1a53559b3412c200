-- What a disk owes of itself is due to its host.
use Rattle.std.proofs.{Common.{◌≡◌, ℕ, true, false, List, Some, None, refl, sym, ap, ◌∙◌, subst, inl}, lemmas.Bool.and_right}
use Rattle.std.specs.{Prelude.{Option, Bool, not, ◌==◌}, Option.is_some}
use Rattle.block_disk.specs.Table.{is_under_way}
use Rattle.block_queue.specs.Line.{IsLine, Line, command_at}
use Rattle.block_engine.specs.{declared.{aside.AsideStage.AsideStage, request.Range.Range}, Aside.is_over}
use Rattle.block_engine.specs.declared.aside.AsideStage.TheVariants as stages
use Rattle.ata_command.specs.declared.settings.Settings.{Settings}
use Rattle.ata_reply.specs.declared.reply.Reply.{Reply}
use Rattle.ata_reply.specs.declared.reply.Reply.TheVariants as replies
use Rattle.ata_front.specs.{Fronts.{beside_sent, heard_data, over, owed, said_by}, declared.{front.Front.Front, task.{Fault.Fault, Page.Page}}}
use Rattle.ata_front.specs.declared.task.{Task.Task, Trouble.Trouble}
use Rattle.ata_front.specs.declared.task.Owed.TheVariants as owe
use Rattle.ata_front.specs.declared.task.Task.TheVariants as tasks
use Rattle.sata_disk.specs.{State.{DiskState, IsBeside, commands, data_place}, Hearing.{data_by, discarding}}
use Rattle.sata_disk_laws.specs.Once.{ForEnd, ForLast, ForNothing, Host, IsDue, IsFilling, IsRefused, IsSingle, Wait, data_got, data_got_by}
use Rattle.sata_disk_laws.specs.Once.{is_for_data, none_open, reply_got, single_over}
use Rattle.sata_disk_laws.proofs.{Quiet.heard_quiet, Runs.place_low, Tracks.{LoneTags, NoTags, OwedTags, OwesAs, SameTags, TagsAs, Tracks, WaitsAs}}
use Rattle.sata_disk_laws.proofs.Tracks.{quiet_tracks}

-- ## The host waits for nothing any more

pub idle_tracks : (h h' : Host) (f : Front) (x : Option Fault) (st : Settings) (s s' : AsideStage) (l : Line) → Tracks h f s l → s' ≡ stages.Idle
    → h'.waits ≡ ForNothing → h'.open_at 32 ≡ false → h'.in_reset ≡ h.in_reset → is_under_way (command_at l 32) ≡ false → SameTags h' l
    → (is_some x ≡ true → NoTags l) → Tracks h' (record { task = tasks.Idle; fault = x; in_reset = f.in_reset; settings = st }) s' l
idle_tracks h h' f x st s s' l is beside waits shut reset over' tags faulty = record {
  beside = beside;
  fits = is.fits;
  waits = (waits, shut, over');
  tags = tags;
  reset = reset ∙ is.reset;
  idle = λ e. (refl, (is.idle e).1);
  faulty = faulty;
}

pub none_closed : (h : Host) (l : Line) → LoneTags h l → SameTags (single_over h) l
none_closed h l lone = λ t low. (lone t low).0 ∙ sym (and_right (not (t == 32)) (h.open_at t) (lone t low).1)

pub same_lone : (h : Host) (l : Line) → LoneTags h l → SameTags h l
same_lone h l lone = λ t low. (lone t low).0 ∙ sym (lone t low).1

pub no_lone : (h : Host) (l : Line) → LoneTags h l → NoTags l
no_lone h l lone = λ t low. (lone t low).0

-- the command that is not queued ended
pub single_tracks : (h : Host) (f : Front) (x : Option Fault) (st : Settings) (s s' : AsideStage) (l : Line) → Tracks h f s l → s' ≡ stages.Idle
    → is_under_way (command_at l 32) ≡ false → LoneTags h l
    → Tracks (single_over h) (record { task = tasks.Idle; fault = x; in_reset = f.in_reset; settings = st }) s' l
single_tracks h f x st s s' l is beside over' lone =
    idle_tracks h (single_over h) f x st s s' l is beside refl refl refl over' (none_closed h l lone) (λ e. no_lone h l lone)

-- a command failed
pub failed_tracks : (h : Host) (f : Front) (x : Option Fault) (st : Settings) (s s' : AsideStage) (l : Line) → Tracks h f s l → s' ≡ stages.Idle
    → is_under_way (command_at l 32) ≡ false → NoTags l
    → Tracks (record h { open_at = none_open; waits = ForNothing }) (record { task = tasks.Idle; fault = x; in_reset = f.in_reset; settings = st }) s' l
failed_tracks h f x st s s' l is beside over' none =
    idle_tracks h (record h { open_at = none_open; waits = ForNothing }) f x st s s' l is beside refl refl refl over' none (λ e. none)

-- ## A reply that the disk owes

owes_tracks : (h : Host) (f : Front) (s : AsideStage) (l : Line) (r : Reply) → Tracks h f s l → s ≡ stages.Idle → OwesAs h r
    → is_under_way (command_at l 32) ≡ false → OwedTags h r l → IsDue h r × Tracks (reply_got h r) (record f { task = tasks.Idle }) s l
owes_tracks h f s l replies.Signature is beside w over' tags =
    (w.0, idle_tracks h _ f f.fault f.settings s s l is beside refl w.1 refl over' (same_lone h l tags) is.faulty)
owes_tracks h f s l replies.Accepted is beside w over' tags =
    (w.0, idle_tracks h _ f f.fault f.settings s s l is beside refl w.1 refl over' tags is.faulty)
owes_tracks h f s l replies.Done is beside w over' tags = (w, single_tracks h f f.fault f.settings s s l is beside over' tags)
owes_tracks h f s l replies.Active is beside w over' tags = (w, single_tracks h f f.fault f.settings s s l is beside over' tags)
owes_tracks h f s l replies.Healthy is beside w over' tags = (w, single_tracks h f f.fault f.settings s s l is beside over' tags)
owes_tracks h f s l (replies.Failed x) is beside w over' tags = (w, failed_tracks h f f.fault f.settings s s l is beside over' tags)
owes_tracks h f s l r is beside w over' tags = absurd w

-- another task of the front, with the host as it is but for what it waits for
abbrev IsTask : Task → Type 0
IsTask t = t ≡ tasks.Idle → ⊥

lone_tracks : (h h' : Host) (f : Front) (x : Option Fault) (t u : Task) (s : AsideStage) (l : Line) → Tracks h f s l → f.task ≡ t → IsTask t → IsBeside u s
    → WaitsAs h' u (command_at l 32) → TagsAs h' u l → LoneTags h l → h'.in_reset ≡ h.in_reset
    → Tracks h' (record { task = u; fault = x; in_reset = f.in_reset; settings = f.settings }) s l
lone_tracks h h' f x t u s l is at' not' beside waits tags lone reset = record {
  beside = beside;
  fits = is.fits;
  waits = waits;
  tags = tags;
  reset = reset ∙ is.reset;
  idle = λ e. absurd (not' (sym at' ∙ (is.idle e).0));
  faulty = λ e. no_lone h l lone;
}

same_reply : (r r' : Reply) → Some (owe.Reply r') ≡ Some (owe.Reply r) → r' ≡ r
same_reply r r' e = cc

said_case : (h : Host) (f : Front) (s : AsideStage) (l : Line) (t : Task) (r : Reply) → f.task ≡ t → owed t ≡ Some (owe.Reply r) → Tracks h f s l
    → IsBeside t s → WaitsAs h t (command_at l 32) → TagsAs h t l → IsDue h r × Tracks (reply_got h r) (said_by f t) s l
said_case h f s l (tasks.Owes r') r at' e is beside waits tags =
    let P : Reply → Type 0 = λ x. IsDue h x × Tracks (reply_got h x) (record f { task = tasks.Idle }) s l in
    subst P (same_reply r r' e) (owes_tracks h f s l r' is beside waits.0 waits.1 tags)
said_case h f s l (tasks.Announces p) r at' e is beside waits tags =
    let P : Reply → Type 0 = λ x. IsDue h x × Tracks (reply_got h x) (record f { task = tasks.Gives p }) s l in
    subst P (same_reply r _ e) (
      waits.0,
      lone_tracks h (record h { waits = ForLast }) f f.fault _ (tasks.Gives p) s l is at' (λ x. cc) beside (waits.0.0, refl, waits.1) tags tags refl,
    )
said_case h f s l (tasks.Activates n) r at' e is beside waits tags =
    let P : Reply → Type 0 = λ x. IsDue h x × Tracks (reply_got h x) (record f { task = tasks.Expects n }) s l in
    subst P (same_reply r _ e) (inl waits.0, lone_tracks h h f f.fault _ (tasks.Expects n) s l is at' (λ x. cc) beside waits tags tags refl)
said_case h f s l t r at' e is beside waits tags = absurd (cc)

pub said_tracks : (h : Host) (f : Front) (s : AsideStage) (l : Line) (r : Reply) → owed f.task ≡ Some (owe.Reply r) → Tracks h f s l
    → IsDue h r × Tracks (reply_got h r) (said_by f f.task) s l
said_tracks h f s l r e is = said_case h f s l f.task r refl e is is.beside is.waits is.tags

-- ## A page

fills_last : (w : Wait) → w ≡ ForLast → is_for_data w ≡ true
fills_last w e = ap is_for_data e

fills_end : (w : Wait) → w ≡ ForEnd → is_for_data w ≡ true
fills_end w e = ap is_for_data e

page_case : (h : Host) (f : Front) (s : AsideStage) (l : Line) (t : Task) (p : Page) → f.task ≡ t → owed t ≡ Some (owe.Page p) → Tracks h f s l
    → IsBeside t s → WaitsAs h t (command_at l 32) → TagsAs h t l → IsFilling h × Tracks (data_got h) (said_by f t) s l
page_case h f s l (tasks.Gives q) p at' e is beside waits tags =
    let P : Wait → Type 0 = λ w. Tracks (data_got_by h w) (said_by f (tasks.Gives q)) s l in
    ((waits.0, fills_last h.waits waits.1), subst P (sym waits.1) (single_tracks h f _ f.settings s s l is beside waits.2 tags))
page_case h f s l (tasks.Sends q) p at' e is beside waits tags =
    let P : Wait → Type 0 = λ w. Tracks (data_got_by h w) (said_by f (tasks.Sends q)) s l in (
      (waits.0.0, fills_end h.waits waits.0.1),
      subst P (sym waits.0.1) (lone_tracks h h f _ _ (tasks.Owes replies.Done) s l is at' (λ x. cc) beside waits tags tags refl),
    )
page_case h f s l t p at' e is beside waits tags = absurd (cc)

pub page_tracks : (h : Host) (f : Front) (s : AsideStage) (l : Line) (p : Page) → owed f.task ≡ Some (owe.Page p) → Tracks h f s l
    → IsFilling h × Tracks (data_got h) (said_by f f.task) s l
page_tracks h f s l p e is = page_case h f s l f.task p refl e is is.beside is.waits is.tags

-- ## The end of a command beside the queue

pub single_refused : (h : Host) → IsSingle h → IsRefused h h.waits
single_refused h w = let P : Wait → Type 0 = λ x. IsRefused h x in subst P (sym w.1) w.0

over_case : (h : Host) (f : Front) (s : AsideStage) (l : Line) (st : Settings) (well : Bool) (t : Trouble) → Tracks h f s l → IsSingle h
    → is_under_way (command_at l 32) ≡ false → LoneTags h l
    → IsDue h (over well t) × Tracks (reply_got h (over well t)) (record f { task = tasks.Idle; settings = st }) stages.Idle l
over_case h f s l st true t is w over' tags = (w, single_tracks h f f.fault st s stages.Idle l is refl over' tags)
over_case h f s l st false t is w over' tags =
    (single_refused h w, failed_tracks h f f.fault st s stages.Idle l is refl over' (no_lone h l tags))

pub not_over : (s : AsideStage) (P : Type 0) → is_over s ≡ true → s ≡ stages.Idle → P
not_over s P e idle = absurd (let none = ap is_over (sym idle) ∙ e in cc)

beside_case : (h : Host) (f : Front) (s : AsideStage) (l : Line) (well : Bool) (x : Trouble) (t : Task) → is_over s ≡ true → Tracks h f s l
    → IsBeside t s → WaitsAs h t (command_at l 32) → TagsAs h t l
    → IsDue h (over well x) × Tracks (reply_got h (over well x)) (beside_sent f well) stages.Idle l
beside_case h f s l well x (tasks.Waits p) e is beside waits tags = over_case h f s l _ well x is waits.0 waits.1 tags
beside_case h f s l well x other e is beside waits tags = not_over s _ e beside

pub beside_tracks : (h : Host) (f : Front) (s : AsideStage) (l : Line) (well : Bool) (x : Trouble) → is_over s ≡ true → Tracks h f s l
    → IsDue h (over well x) × Tracks (reply_got h (over well x)) (beside_sent f well) stages.Idle l
beside_tracks h f s l well x e is = beside_case h f s l well x f.task e is is.beside is.waits is.tags

-- ## Data of the host

ranges_case : (h : Host) (d : DiskState) (t : Task) (blocks : ℕ) (x : Option (List Range)) → d.front.task ≡ t → heard_data t ≡ Some blocks
    → Tracks h d.front d.engine.stage (commands d) → IsBeside t d.engine.stage → WaitsAs h t (command_at (commands d) 32) → TagsAs h t (commands d)
    → Tracks h (discarding d x).front (discarding d x).engine.stage (commands (discarding d x))
ranges_case h d (tasks.Expects k) blocks None at' e is beside waits tags =
    lone_tracks h h d.front d.front.fault _ (tasks.Owes _) d.engine.stage (commands d) is at' (λ x. cc) beside
    (single_refused h waits.0, waits.1) (no_lone h (commands d) tags) tags refl
ranges_case h d (tasks.Expects k) blocks (Some ranges) at' e is beside waits tags = record {
  beside = tt;
  fits = is.fits;
  waits = waits;
  tags = tags;
  reset = is.reset;
  idle = λ r. absurd (let idle = sym at' ∙ (is.idle r).0 in cc);
  faulty = is.faulty;
}
ranges_case h d t blocks x at' e is beside waits tags = absurd (cc)

data_case : (h : Host) (d : DiskState) (x : Option ℕ) (bytes : List ℕ) → heard_data d.front.task ≡ x → Tracks h d.front d.engine.stage (commands d)
    → IsLine (commands d) → Tracks h (data_by d x bytes).front (data_by d x bytes).engine.stage (commands (data_by d x bytes))
data_case h d None bytes e is line' =
    quiet_tracks h d.front d.engine.stage (commands d) _ (heard_quiet (commands d) (data_place (commands d)) bytes line' (place_low (commands d))) is
data_case h d (Some blocks) bytes e is line' = ranges_case h d d.front.task blocks _ refl e is is.beside is.waits is.tags

pub data_tracks : (h : Host) (d : DiskState) (bytes : List ℕ) → Tracks h d.front d.engine.stage (commands d) → IsLine (commands d)
    → Tracks h (data_by d (heard_data d.front.task) bytes).front (data_by d (heard_data d.front.task) bytes).engine.stage
    (commands (data_by d (heard_data d.front.task) bytes))
data_tracks h d bytes is line' = data_case h d _ bytes refl is line'

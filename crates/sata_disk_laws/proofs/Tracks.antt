-- What its host has open, and what a disk is: each call keeps them alike.
use Rattle.std.proofs.Common.{◌≡◌, ℕ, ◌<◌, true, false, Some, None, refl, sym, ap, ◌∙◌, subst, arith}
use Rattle.std.specs.{Prelude.{Option, nat_lt, not, if◌then◌else◌}, Option.{is_some, option_map}}
use Rattle.block_command.specs.{Moments.{Moment, is_ended, is_queued}, Laws.{Input, after}}
use Rattle.block_command.proofs.Door.{same_command}
use Rattle.block_disk.specs.Table.{is_under_way}
use Rattle.block_queue.specs.Line.{Line, command_at}
use Rattle.block_engine.specs.declared.aside.AsideStage.{AsideStage}
use Rattle.ata_reply.specs.declared.reply.Reply.{Reply}
use Rattle.ata_reply.specs.declared.reply.Reply.TheVariants as replies
use Rattle.ata_front.specs.declared.{front.Front.Front, task.Task.Task}
use Rattle.ata_front.specs.declared.task.Task.TheVariants as tasks
use Rattle.sata_disk.specs.State.{IsBeside, is_taken}
use Rattle.sata_disk_laws.specs.Once.{ForEnd, ForLast, ForNothing, ForSignature, Host, IsAccepted, IsRefused, IsSingle}
use Rattle.sata_disk_laws.proofs.{Fits.{FitsAt, IsWhole, fits_after}, Left.{CountsAt, is_last, quiet_counts, quiet_ended, quiet_last}, Quiet.AreQuiet}
use Rattle.sata_disk_laws.proofs.Quiet.{Given, Quiet, Same, is_quiet_at}

-- ## One place

pub record IsPlace (p : ℕ) (m : Moment) : Type 0 where
  pub place : m.command.place ≡ p
  pub queued : is_queued m.command.protocol ≡ nat_lt p 32
  pub whole : IsWhole m.command
  pub fits : FitsAt m

abbrev pub FitsPlace : ℕ → Option Moment → Type 0
FitsPlace p None = Unit {0}
FitsPlace p (Some m) = IsPlace p m

pub place_after : (p : ℕ) (m : Moment) (i : Input) → IsPlace p m → IsPlace p (after m i)
place_after p m i is =
    let same = same_command m.command m.done m.bytes m.sent m.stage i in
    record {
      place = ap (λ c. c.place) same ∙ is.place;
      queued = ap (λ c. is_queued c.protocol) same ∙ is.queued;
      whole = subst (λ c. IsWhole c) (sym same) is.whole;
      fits = fits_after m.command m.done m.bytes m.sent m.stage i is.whole is.fits;
    }

pub fits_then : (p : ℕ) (x : Option Moment) (i : Input) → FitsPlace p x → FitsPlace p (option_map (λ m. after m i) x)
fits_then p None i fits = tt
fits_then p (Some m) i fits = place_after p m i fits

-- ## The command that is not queued

-- the command that moves sectors is under way, with so many sectors left
abbrev pub MovesAs : Host → (left : ℕ) → Option Moment → Type 0
MovesAs h left None = ⊥
MovesAs h left (Some m) = (is_ended m.stage ≡ false) × CountsAt left m × (h.waits ≡ (if is_last m left then ForLast else ForEnd))

abbrev pub OwesAs : Host → Reply → Type 0
OwesAs h replies.Signature = (h.waits ≡ ForSignature) × (h.open_at 32 ≡ false)
OwesAs h replies.Accepted = IsAccepted h h.waits × (h.open_at 32 ≡ false)
OwesAs h replies.Done = IsSingle h
OwesAs h replies.Active = IsSingle h
OwesAs h replies.Healthy = IsSingle h
OwesAs h (replies.Failed f) = IsRefused h h.waits
OwesAs h _ = ⊥

abbrev pub WaitsAs : Host → Task → Option Moment → Type 0
WaitsAs h tasks.Idle x = (h.waits ≡ ForNothing) × (h.open_at 32 ≡ false) × (is_under_way x ≡ false)
WaitsAs h (tasks.Owes r) x = OwesAs h r × (is_under_way x ≡ false)
WaitsAs h (tasks.Moves m) x = (h.open_at 32 ≡ true) × MovesAs h m.left x
WaitsAs h (tasks.Gives p) x = (h.open_at 32 ≡ true) × (h.waits ≡ ForLast) × (is_under_way x ≡ false)
WaitsAs h _ x = IsSingle h × (is_under_way x ≡ false)

-- ## Tags

abbrev pub SameTags : Host → Line → Type 0
SameTags h l = (t : ℕ) → t < 32 → is_taken l t ≡ h.open_at t

abbrev pub NoTags : Line → Type 0
NoTags l = (t : ℕ) → t < 32 → is_taken l t ≡ false

abbrev pub LoneTags : Host → Line → Type 0
LoneTags h l = (t : ℕ) → t < 32 → (is_taken l t ≡ false) × (h.open_at t ≡ false)

abbrev pub OwedTags : Host → Reply → Line → Type 0
OwedTags h replies.Accepted l = SameTags h l
OwedTags h (replies.Failed f) l = NoTags l
OwedTags h _ l = LoneTags h l

abbrev pub TagsAs : Host → Task → Line → Type 0
TagsAs h tasks.Idle l = SameTags h l
TagsAs h (tasks.Owes r) l = OwedTags h r l
TagsAs h _ l = LoneTags h l

pub record Tracks (h : Host) (f : Front) (s : AsideStage) (l : Line) : Type 0 where
  pub beside : IsBeside f.task s
  pub fits : (p : ℕ) → p < 33 → FitsPlace p (command_at l p)
  pub waits : WaitsAs h f.task (command_at l 32)
  pub tags : TagsAs h f.task l
  pub reset : h.in_reset ≡ f.in_reset
  pub idle : f.in_reset ≡ true → (f.task ≡ tasks.Idle) × NoTags l
  pub faulty : is_some f.fault ≡ true → NoTags l

-- ## What no FIS tells

given_fits : (p : ℕ) (x y : Option Moment) → Quiet x y → FitsPlace p x → FitsPlace p y
given_fits p x y (Same e) fits = let P : Option Moment → Type 0 = λ z. FitsPlace p z in subst P (sym e) fits
given_fits p x y (Given i q e) fits = let P : Option Moment → Type 0 = λ z. FitsPlace p z in subst P (sym e) (fits_then p x i fits)

then_alive : (x : Option Moment) (i : Input) → is_quiet_at x i ≡ true → is_under_way (option_map (λ m. after m i) x) ≡ is_under_way x
then_alive None i q = refl
then_alive (Some m) i q = ap (λ b. not b) (quiet_ended m.command m.done m.bytes m.sent m.stage i q)

pub quiet_alive : (x y : Option Moment) → Quiet x y → is_under_way y ≡ is_under_way x
quiet_alive x y (Same e) = ap is_under_way e
quiet_alive x y (Given i q e) = ap is_under_way e ∙ then_alive x i q

then_moves : (h : Host) (left : ℕ) (x : Option Moment) (i : Input) → is_quiet_at x i ≡ true → MovesAs h left x
    → MovesAs h left (option_map (λ m. after m i) x)
then_moves h left None i q moves = moves
then_moves h left (Some m) i q moves = (
  quiet_ended m.command m.done m.bytes m.sent m.stage i q ∙ moves.0,
  quiet_counts m.command m.done m.bytes m.sent left m.stage i q moves.1,
  moves.2 ∙ ap (λ b. if b then ForLast else ForEnd) (sym (quiet_last m.command m.done m.bytes m.sent left m.stage i q)),
)

quiet_moves : (h : Host) (left : ℕ) (x y : Option Moment) → Quiet x y → MovesAs h left x → MovesAs h left y
quiet_moves h left x y (Same e) moves = let P : Option Moment → Type 0 = λ z. MovesAs h left z in subst P (sym e) moves
quiet_moves h left x y (Given i q e) moves = let P : Option Moment → Type 0 = λ z. MovesAs h left z in subst P (sym e) (then_moves h left x i q moves)

quiet_waits : (h : Host) (t : Task) (x y : Option Moment) → Quiet x y → WaitsAs h t x → WaitsAs h t y
quiet_waits h tasks.Idle x y q w = (w.0, w.1, quiet_alive x y q ∙ w.2)
quiet_waits h (tasks.Moves m) x y q w = (w.0, quiet_moves h m.left x y q w.1)
quiet_waits h (tasks.Gives p) x y q w = (w.0, w.1, quiet_alive x y q ∙ w.2)
quiet_waits h other x y q w = (w.0, quiet_alive x y q ∙ w.1)

-- the same tags are taken
abbrev pub AsTaken : Line → Line → Type 0
AsTaken l k = (t : ℕ) → t < 32 → is_taken k t ≡ is_taken l t

same_tags : (h : Host) (l k : Line) → AsTaken l k → SameTags h l → SameTags h k
same_tags h l k as' tags = λ t low. as' t low ∙ tags t low

no_tags : (l k : Line) → AsTaken l k → NoTags l → NoTags k
no_tags l k as' tags = λ t low. as' t low ∙ tags t low

lone_tags : (h : Host) (l k : Line) → AsTaken l k → LoneTags h l → LoneTags h k
lone_tags h l k as' tags = λ t low. (as' t low ∙ (tags t low).0, (tags t low).1)

owed_tags : (h : Host) (r : Reply) (l k : Line) → AsTaken l k → OwedTags h r l → OwedTags h r k
owed_tags h replies.Accepted l k as' tags = same_tags h l k as' tags
owed_tags h (replies.Failed f) l k as' tags = no_tags l k as' tags
owed_tags h r l k as' tags = lone_tags h l k as' tags

pub tags_as : (h : Host) (t : Task) (l k : Line) → AsTaken l k → TagsAs h t l → TagsAs h t k
tags_as h tasks.Idle l k as' tags = same_tags h l k as' tags
tags_as h (tasks.Owes r) l k as' tags = owed_tags h r l k as' tags
tags_as h t l k as' tags = lone_tags h l k as' tags

pub quiet_tracks : (h : Host) (f : Front) (s : AsideStage) (l k : Line) → AreQuiet l k → Tracks h f s l → Tracks h f s k
quiet_tracks h f s l k quiet is =
    let as' : AsTaken l k = λ t low. quiet_alive (command_at l t) (command_at k t) (quiet t (omega (arith, low))) in
    record {
      beside = is.beside;
      fits = λ p low. given_fits p (command_at l p) (command_at k p) (quiet p low) (is.fits p low);
      waits = quiet_waits h f.task (command_at l 32) (command_at k 32) (quiet 32 (omega arith)) is.waits;
      tags = tags_as h f.task l k as' is.tags;
      reset = is.reset;
      idle = λ e. ((is.idle e).0, no_tags l k as' (is.idle e).1);
      faulty = λ e. no_tags l k as' (is.faulty e);
    }

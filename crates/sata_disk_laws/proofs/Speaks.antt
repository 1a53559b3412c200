-- The FIS of a command is due to its host: the queued ones.
use Rattle.std.proofs.{Common.{◌≡◌, ℕ, ◌<◌, true, false, Some, None, refl, sym, ap, ◌∙◌, subst, arith, inl, inr}, lemmas.Bool.{and_right, cases_eq}}
use Rattle.std.proofs.lemmas.{Bool.{lt-ltb}, List.{get_or-set_same, get_or-set_other}}
use Rattle.std.specs.{Prelude.{Option, Bool, nat_lt, not, ◌&&◌, if◌then◌else◌}, Option.option_map}
use Rattle.block_command.specs.{Moments.Moment, Laws.{Goes, after}}
use Rattle.block_disk.specs.Table.{is_under_way}
use Rattle.block_queue.specs.Line.{IsLine, Line, command_at, line_gone, line_reset}
use Rattle.block_scheduler.specs.{Sets.{is_fail, sends_at, turn_at}, Schedule.{IsNextFis, Schedule, ends_all, line_sent}}
use Rattle.block_scheduler.specs.declared.scheduler.NextFis.TheVariants as fis
use Rattle.block_engine.specs.{declared.aside.AsideStage.AsideStage, Engine.line}
use Rattle.ata_front.specs.{Fronts.{owed, queued_failed}, declared.{front.Front.Front, task.{Task.Task, Trouble.Trouble}}}
use Rattle.ata_front.specs.declared.task.Task.TheVariants as tasks
use Rattle.sata_disk.specs.{State.{DiskState, commands, is_taken}, Sending.{command_sent, front_sent, place_sent, single_front, trouble_at}}
use Rattle.sata_disk_laws.specs.Once.{ForNothing, Host, IsQueued, none_open}
use Rattle.sata_disk_laws.proofs.{Commands.{none_alive, none_fits}, Tracks.{FitsPlace, TagsAs, Tracks, WaitsAs, fits_then, tags_as}}

-- ## A FIS of a command goes

pub record IsGone (l k : Line) (p : ℕ) : Type 0 where
  pub here : command_at k p ≡ option_map (λ m. after m Goes) (command_at l p)
  pub others : (q : ℕ) → (q ≡ p → ⊥) → command_at k q ≡ command_at l q

pub gone_is : (l : Line) (p : ℕ) → IsLine l → p < 33 → IsGone l (line_gone l p) p
gone_is l p is low = record {
  here = get_or-set_same l.queue.table.places p _ None (let long = is.places in omega (arith, long, low));
  others = λ q apart. get_or-set_other l.queue.table.places p q _ None apart;
}

pub gone_fits : (l k : Line) (p : ℕ) → IsGone l k p → ((q : ℕ) → q < 33 → FitsPlace q (command_at l q)) → (q : ℕ) → q < 33 → FitsPlace q (command_at k q)
gone_fits l k p gone fits q low = elim (cases_eq q p) [
  | inl same ↦ let P : Option Moment → Type 0 = λ x. FitsPlace q x in
      let there : command_at k q ≡ option_map (λ m. after m Goes) (command_at l q) =
      ap (command_at k) same ∙ gone.here ∙ ap (λ j. option_map (λ m. after m Goes) (command_at l j)) (sym same) in
      subst P (sym there) (fits_then q (command_at l q) Goes (fits q low))
  | inr apart ↦ let P : Option Moment → Type 0 = λ x. FitsPlace q x in subst P (sym (gone.others q apart)) (fits q low)
]

pub next_sends : (l : Line) (wire : Option ℕ) (p : ℕ) → IsNextFis l wire (Some (fis.Alone p)) → sends_at l p ≡ true
next_sends l None p is = is.1.passes
next_sends l (Some h) p is = ap (sends_at l) is.0 ∙ is.1

pub tracks_as : (h : Host) (f g : Front) (s : AsideStage) (l k : Line) → g ≡ f → k ≡ l → Tracks h f s l → Tracks h g s k
tracks_as h f g s l k e e' is =
    let P : Front → Type 0 = λ x. Tracks h x s k in let Q : Line → Type 0 = λ x. Tracks h f s x in
    subst P (sym e) (subst Q (sym e') is)

-- ## A queued command

no_tag : (t : Bool) (P : Type 0) → t ≡ true → t ≡ false → P
no_tag t P e f = absurd (cc)

idle_case : (h : Host) (l : Line) (p : ℕ) (t : Task) → p < 32 → is_taken l p ≡ true → owed t ≡ None → WaitsAs h t (command_at l 32) → TagsAs h t l
    → (t ≡ tasks.Idle) × IsQueued h p
idle_case h l p tasks.Idle low is free waits tags = (refl, (low, sym (tags p low) ∙ is, waits.0))
idle_case h l p (tasks.Owes r) low is free waits tags = absurd (cc)
idle_case h l p other low is free waits tags = no_tag _ _ is (tags p low).0

-- a queued command that is under way where the disk owes nothing of itself
pub queued_idle : (h : Host) (f : Front) (s : AsideStage) (l : Line) (p : ℕ) → p < 32 → is_taken l p ≡ true → owed f.task ≡ None → Tracks h f s l
    → (f.task ≡ tasks.Idle) × IsQueued h p
queued_idle h f s l p low is free tracks = idle_case h l p f.task low is free tracks.waits tracks.tags

queued_goes : (h : Host) (f : Front) (s : AsideStage) (l k : Line) (p : ℕ) → p < 32 → IsGone l k p → is_taken k p ≡ is_taken l p → Tracks h f s l → Tracks h f s k
queued_goes h f s l k p low gone alive is =
    let as' : (t : ℕ) → t < 32 → is_taken k t ≡ is_taken l t = λ t below. elim (cases_eq t p) [
      | inl same ↦ ap (is_taken k) same ∙ alive ∙ ap (is_taken l) (sym same)
      | inr apart ↦ ap is_under_way (gone.others t apart)
    ] in
    let P : Option Moment → Type 0 = λ x. WaitsAs h f.task x in
    record {
      beside = is.beside;
      fits = gone_fits l k p gone is.fits;
      waits = subst P (sym (gone.others 32 (λ e. omega (arith, e, low)))) is.waits;
      tags = tags_as h f.task l k as' is.tags;
      reset = is.reset;
      idle = λ e. ((is.idle e).0, λ t below. as' t below ∙ (is.idle e).1 t below);
      faulty = λ e. λ t below. as' t below ∙ is.faulty e t below;
    }

-- its error ends all
failed_all : (h : Host) (f : Front) (s : AsideStage) (l k : Line) (p : ℕ) (x : Trouble) → f.task ≡ tasks.Idle → h.waits ≡ ForNothing → Tracks h f s l
    → Tracks (record h { open_at = none_open }) (queued_failed f p x) s (line_reset k)
failed_all h f s l k p x idle waits is =
    let P : Task → Type 0 = λ t. WaitsAs (record h { open_at = none_open }) t (command_at (line_reset k) 32) in
    let Q : Task → Type 0 = λ t. TagsAs (record h { open_at = none_open }) t (line_reset k) in
    record {
      beside = is.beside;
      fits = λ q low. none_fits k q;
      waits = subst P (sym idle) (waits, refl, none_alive k 32);
      tags = subst Q (sym idle) (λ t low. none_alive k t);
      reset = is.reset;
      idle = λ e. ((is.idle e).0, λ t low. none_alive k t);
      faulty = λ e. λ t low. none_alive k t;
    }

sent_stays : (s : Schedule) (p : ℕ) → ends_all s.line p ≡ false → (line_sent s p).line ≡ line_gone s.line p
sent_stays s p e = ap (λ b. (if b then record s { line = line_reset (line_gone s.line p); fault = Some p } else record s { line = line_gone s.line p }).line) e

sent_ends : (s : Schedule) (p : ℕ) → ends_all s.line p ≡ true → (line_sent s p).line ≡ line_reset (line_gone s.line p)
sent_ends s p e = ap (λ b. (if b then record s { line = line_reset (line_gone s.line p); fault = Some p } else record s { line = line_gone s.line p }).line) e

pub front_case : (d : DiskState) (p n : ℕ) (a b : Bool) → nat_lt p 32 ≡ a → ends_all (commands d) p ≡ b → a ≡ true
    → front_sent d p n ≡ (if b then queued_failed d.front p (trouble_at d.engine p) else d.front)
front_case d p n false b e g is = absurd (cc)
front_case d p n true b e g is =
    ap (λ x. if x then (if ends_all (commands d) p then queued_failed d.front p (trouble_at d.engine p) else d.front)
    else single_front d.front d.front.task (not (is_taken (line (place_sent d.engine p)) p)) n) e
    ∙ ap (λ x. if x then queued_failed d.front p (trouble_at d.engine p) else d.front) g

-- its FIS goes, and it is under way as before
pub queued_stays : (h : Host) (d : DiskState) (p n : ℕ) → p < 32 → IsLine (commands d) → is_fail (turn_at (command_at (commands d) p)) ≡ false
    → is_under_way (option_map (λ m. after m Goes) (command_at (commands d) p)) ≡ is_taken (commands d) p
    → Tracks h d.front d.engine.stage (commands d)
    → Tracks h (command_sent d p n).front (command_sent d p n).engine.stage (commands (command_sent d p n))
queued_stays h d p n low is none alive tracks =
    let gone = gone_is (commands d) p is (omega (arith, low)) in
    let stays : ends_all (commands d) p ≡ false = ap (λ b. nat_lt p 32 && b) none ∙ and_right (nat_lt p 32) false refl in
    tracks_as h d.front _ d.engine.stage (line_gone (commands d) p) _ (front_case d p n _ _ (lt-ltb p 32 low) stays refl) (sent_stays d.engine.schedule p stays)
    (queued_goes h d.front d.engine.stage (commands d) _ p low gone (ap is_under_way gone.here ∙ alive) tracks)

pub queued_fails : (h : Host) (d : DiskState) (p n : ℕ) → p < 32 → is_fail (turn_at (command_at (commands d) p)) ≡ true → d.front.task ≡ tasks.Idle → h.waits ≡ ForNothing
    → Tracks h d.front d.engine.stage (commands d)
    → Tracks (record h { open_at = none_open }) (command_sent d p n).front (command_sent d p n).engine.stage (commands (command_sent d p n))
queued_fails h d p n low fails idle waits tracks =
    let ends : ends_all (commands d) p ≡ true = ap (λ b. nat_lt p 32 && b) fails ∙ ap (λ b. b && true) (lt-ltb p 32 low) in
    tracks_as (record h { open_at = none_open }) (queued_failed d.front p (trouble_at d.engine p)) _ d.engine.stage _ _
    (front_case d p n _ _ (lt-ltb p 32 low) ends refl) (sent_ends d.engine.schedule p ends)
    (failed_all h d.front d.engine.stage (commands d) (line_gone (commands d) p) p _ idle waits tracks)

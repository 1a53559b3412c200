-- A FIS of the host keeps what it has open and what the disk is alike.
use Rattle.std.proofs.{Common.{◌≡◌, ℕ, ◌<◌, ◌⊎◌, true, false, Some, None, refl, sym, ap, ◌∙◌, subst, arith, inl, inr}, lemmas.Bool.{cases_eq, eq-eqb}}
use Rattle.std.proofs.lemmas.{Bool.{ne_eqb, lt-ltb, or_left}, List.{get_or-set_same, get_or-set_other}}
use Rattle.std.specs.{Prelude.{Option, Bool, nat_lt, ◌==◌, ◌||◌, if◌then◌else◌}, Option.is_some, Int.bit_at}
use Rattle.block_command.specs.{declared.command.Command.Command, Moments.{IsCommand, Moment, is_queued, opening}}
use Rattle.block_disk.specs.{Table.{is_under_way, with_command}, Requests.with_table}
use Rattle.block_disk.proofs.Door.{each_is}
use Rattle.block_queue.specs.Line.{IsLine, Line, command_at, line_reset, line_taken, moved_back}
use Rattle.block_queue.proofs.Door.{of_and}
use Rattle.block_engine.specs.{declared.aside.AsideStage.AsideStage, Engine.{EngineState, line}}
use Rattle.block_engine.specs.declared.aside.AsideStage.TheVariants as stages
use Rattle.ata_reply.specs.declared.reply.{Failure.Failure, Reply.Reply}
use Rattle.ata_reply.specs.declared.reply.Reply.TheVariants as replies
use Rattle.ata_command.specs.{Courses.{course, is_error_log, is_queued_free, stands_beside, tag_course}, declared.asked.{Asked.Asked, Move.Move}}
use Rattle.ata_command.specs.declared.{asked.{PowerTask.PowerTask, Refusal.Refusal, SmartTask.SmartTask}, control.Course.TheVariants.Refuse}
use Rattle.ata_command.specs.declared.{control.Course.TheVariants.{AbortAll, Take}, settings.Setting.Setting}
use Rattle.ata_command.specs.declared.asked.Asked.TheVariants as ask
use Rattle.ata_command.specs.declared.asked.PowerTask.TheVariants as power
use Rattle.ata_command.specs.declared.asked.SmartTask.TheVariants as smart
use Rattle.ata_command.specs.declared.control.Standing.TheVariants as stand
use Rattle.ata_command.specs.declared.settings.Setting.TheVariants as set'
use Rattle.ata_front.specs.{Fronts.{after_plug, commanded_by, controlled, refused_by, standing, standing_by, taken}, declared.front.Front.Front}
use Rattle.ata_front.specs.declared.{front.Heard.Heard, task.{Fault.Fault, Task.Task}}
use Rattle.ata_front.specs.declared.task.Act.TheVariants as act
use Rattle.ata_front.specs.declared.task.Task.TheVariants as tasks
use Rattle.sata_disk.specs.{State.{IsBeside, is_taken, tags_of}, Hearing.{MayAct, command_unheard, engine_acted}, declared.unheard.Unheard.Unheard}
use Rattle.sata_disk.specs.declared.unheard.Unheard.TheVariants.{Busy, InReset}
use Rattle.sata_disk_laws.specs.Once.{ForAnswer, ForEnd, ForLast, ForSignature, Host, IsAccepted, IsRefused, IsSingle, Wait, command_given}
use Rattle.sata_disk_laws.specs.Once.{control_given, none_open, opened, unheard_of, wait_for, waits_for_nothing}
use Rattle.sata_disk_laws.proofs.{Fits.IsWhole, Tracks.{FitsPlace, IsPlace, LoneTags, MovesAs, NoTags, OwesAs, SameTags, TagsAs, Tracks, WaitsAs}}
use Rattle.sata_disk_laws.proofs.AskedPlaces.{AskedAt, IsBlock, no_tags}

abbrev pub TracksOf : Host → Heard → EngineState → Type 0
TracksOf h x e = Tracks h x.front (engine_acted e x.act).stage (line (engine_acted e x.act))

-- ## A reset

pub none_at : (l : Line) (q : ℕ) → command_at (line_reset l) q ≡ None
none_at l q = each_is (Option Moment) 33 q None

pub none_fits : (l : Line) (p : ℕ) → FitsPlace p (command_at (line_reset l) p)
none_fits l p = let P : Option Moment → Type 0 = λ x. FitsPlace p x in subst P (sym (none_at l p)) tt

pub none_alive : (l : Line) (p : ℕ) → is_taken (line_reset l) p ≡ false
none_alive l p = ap is_under_way (none_at l p)

pub plug_tracks : (h : Host) (f : Front) (e : EngineState) → TracksOf (record { open_at = none_open; waits = ForSignature; in_reset = false }) (after_plug f) e
plug_tracks h f e = record {
  beside = refl;
  fits = λ p low. none_fits (line e) p;
  waits = ((refl, refl), none_alive (line e) 32);
  tags = λ t low. (none_alive (line e) t, refl);
  reset = refl;
  idle = λ is. absurd (cc);
  faulty = λ is. absurd (cc);
}

cleared_tracks : (h : Host) (f : Front) (s : AsideStage) (l : Line) (a b : Bool) → h.in_reset ≡ a → f.in_reset ≡ b → Tracks h f s l
    → Tracks (if a then record { open_at = none_open; waits = ForSignature; in_reset = false } else h)
    (if b then record f { task = tasks.Owes replies.Signature; in_reset = false } else f) s l
cleared_tracks h f s l false false e g is = is
cleared_tracks h f s l true false e g is = absurd (let same = is.reset in cc)
cleared_tracks h f s l false true e g is = absurd (let same = is.reset in cc)
cleared_tracks h f s l true true e g is =
    let idle = is.idle g in
    let P : Task → Type 0 = λ t. IsBeside t s in
    let Q : Task → Type 0 = λ t. WaitsAs h t (command_at l 32) in
    let w : WaitsAs h tasks.Idle (command_at l 32) = subst Q idle.0 is.waits in
    record {
      beside = subst P idle.0 is.beside;
      fits = is.fits;
      waits = ((refl, refl), w.2);
      tags = λ t low. (idle.1 t low, refl);
      reset = refl;
      idle = λ no. absurd (cc);
      faulty = is.faulty;
    }

pub control_tracks : (h : Host) (f : Front) (e : EngineState) (srst : Bool) → Tracks h f e.stage (line e) → TracksOf (control_given h srst) (controlled f srst) e
control_tracks h f e true is = record {
  beside = refl;
  fits = λ p low. none_fits (line e) p;
  waits = (refl, refl, none_alive (line e) 32);
  tags = λ t low. none_alive (line e) t;
  reset = refl;
  idle = λ yes'. (refl, λ t low. none_alive (line e) t);
  faulty = λ no. absurd (cc);
}
control_tracks h f e false is = cleared_tracks h f e.stage (line e) h.in_reset f.in_reset refl refl is

-- ## A disk that hears a command

pub record Ready (h : Host) (f : Front) (s : AsideStage) (l : Line) : Type 0 where
  pub stage : s ≡ stages.Idle
  pub fits : (p : ℕ) → p < 33 → FitsPlace p (command_at l p)
  pub single : is_under_way (command_at l 32) ≡ false
  pub shut : h.open_at 32 ≡ false
  pub tags : SameTags h l
  pub heard : f.in_reset ≡ false
  pub faulty : is_some f.fault ≡ true → NoTags l

ready : (h : Host) (f : Front) (s : AsideStage) (l : Line) → f.in_reset ≡ false → f.task ≡ tasks.Idle → Tracks h f s l → Ready h f s l
ready h f s l clear idle is =
    let P : Task → Type 0 = λ t. IsBeside t s in
    let Q : Task → Type 0 = λ t. WaitsAs h t (command_at l 32) in
    let R : Task → Type 0 = λ t. TagsAs h t l in
    let w : WaitsAs h tasks.Idle (command_at l 32) = subst Q idle is.waits in
    record {
      stage = subst P idle is.beside;
      fits = is.fits;
      single = w.2;
      shut = w.1;
      tags = subst R idle is.tags;
      heard = clear;
      faulty = is.faulty;
    }

abbrev pub host_with : Host → (place : ℕ) → Host
host_with h place = record { open_at = opened h.open_at place; waits = wait_for place; in_reset = false }

place_opens : (h : Host) (place : ℕ) → opened h.open_at place place ≡ true
place_opens h place = or_left (place == place) (h.open_at place) (eq-eqb place place refl)

others_open : (h : Host) (place t : ℕ) → (t ≡ place → ⊥) → opened h.open_at place t ≡ h.open_at t
others_open h place t apart = ap (λ b. b || h.open_at t) (ne_eqb t place apart)

-- what a new command is told, and what is under way, where the disk does not take it
opened_tracks : (h : Host) (place : ℕ) (f g : Front) (s s' : AsideStage) (l : Line) → Ready h f s l → NoTags l → g.in_reset ≡ f.in_reset → IsBeside g.task s'
    → WaitsAs (host_with h place) g.task (command_at l 32) → TagsAs (host_with h place) g.task l → Tracks (host_with h place) g s' l
opened_tracks h place f g s s' l r none same beside waits tags = record {
  beside = beside;
  fits = r.fits;
  waits = waits;
  tags = tags;
  reset = sym (same ∙ r.heard);
  idle = λ e. absurd (let clear = same ∙ r.heard in cc);
  faulty = λ e. none;
}

-- the command that is not queued
single_opens : (h : Host) → IsSingle (host_with h 32)
single_opens h = (refl, refl)

lone : (h : Host) (f : Front) (s : AsideStage) (l : Line) → Ready h f s l → NoTags l → LoneTags (host_with h 32) l
lone h f s l r none = λ t low. (none t low, others_open h 32 t (λ e. omega (arith, low, e)) ∙ sym (r.tags t low) ∙ none t low)

refused_case : (h : Host) (place : ℕ) (b : Bool) → nat_lt place 32 ≡ b → (place < 32) ⊎ (place ≡ 32)
    → IsRefused (host_with h place) (if b then ForAnswer place else ForEnd)
refused_case h place true e (inl low) = (low, place_opens h place)
refused_case h place true e (inr same) = absurd (let f = ap (λ p. nat_lt p 32) same in cc)
refused_case h place false e (inl low) = absurd (let f = lt-ltb place 32 low in cc)
refused_case h place false e (inr same) = ap (λ p. opened h.open_at place p) (sym same) ∙ place_opens h place

refused_opens : (h : Host) (place : ℕ) → (place < 32) ⊎ (place ≡ 32) → IsRefused (host_with h place) (wait_for place)
refused_opens h place low = refused_case h place _ refl low

-- ## A command is taken

taken_not : (l : Line) (c : Command) → is_under_way (command_at l c.place) ≡ true → line_taken l c ≡ l
taken_not l c e = ap (λ b. if b then l else record l {
  queue = with_table l.queue (if is_under_way (command_at l c.place) then l.queue.table else with_command l.queue.table c.place (Some (opening c)));
  ranks = moved_back l.ranks c.place;
}) e

abbrev line_with : Line → Command → Line
line_with l c = record l { queue = with_table l.queue (with_command l.queue.table c.place (Some (opening c))); ranks = moved_back l.ranks c.place }

taken_new : (l : Line) (c : Command) → is_under_way (command_at l c.place) ≡ false → line_taken l c ≡ line_with l c
taken_new l c e = ap (λ b. if b then l else record l {
  queue = with_table l.queue (if b then l.queue.table else with_command l.queue.table c.place (Some (opening c)));
  ranks = moved_back l.ranks c.place;
}) e

new_here : (l : Line) (c : Command) → IsLine l → c.place < 33 → command_at (line_with l c) c.place ≡ Some (opening c)
new_here l c is low = get_or-set_same l.queue.table.places c.place (Some (opening c)) None (let long = is.places in omega (arith, low, long))

new_other : (l : Line) (c : Command) (q : ℕ) → (q ≡ c.place → ⊥) → command_at (line_with l c) q ≡ command_at l q
new_other l c q apart = get_or-set_other l.queue.table.places c.place q (Some (opening c)) None apart

new_place : (p : ℕ) (c : Command) → c.place ≡ p → is_queued c.protocol ≡ nat_lt c.place 32 → IsWhole c → IsPlace p (opening c)
new_place p c e queued whole = record { place = e; queued = queued ∙ ap (λ k. nat_lt k 32) e; whole = whole; fits = (refl, refl) }

new_fits : (l : Line) (c : Command) → IsLine l → c.place < 33 → is_queued c.protocol ≡ nat_lt c.place 32 → IsWhole c
    → ((p : ℕ) → p < 33 → FitsPlace p (command_at l p)) → (p : ℕ) → p < 33 → FitsPlace p (command_at (line_with l c) p)
new_fits l c is low queued whole fits p below = elim (cases_eq p c.place) [
  | inl same ↦ let P : Option Moment → Type 0 = λ x. FitsPlace p x in
      subst P (sym (ap (command_at (line_with l c)) same ∙ new_here l c is low)) (new_place p c (sym same) queued whole)
  | inr apart ↦ let P : Option Moment → Type 0 = λ x. FitsPlace p x in subst P (sym (new_other l c p apart)) (fits p below)
]

whole_of : (c : Command) → IsCommand c → IsBlock c.block → IsWhole c
whole_of c is b = record { some = is.some; sectors = b.sectors; block = b.is; least = b.least; most = b.most }

-- a queued command: its host waits for the answer
queued_tracks : (h : Host) (f : Front) (s : AsideStage) (l : Line) (c : Command) (b : Bool) → is_under_way (command_at l c.place) ≡ b
    → Ready h f s l → IsLine l → c.place < 32 → is_queued c.protocol ≡ nat_lt c.place 32 → IsWhole c → is_some f.fault ≡ false
    → Tracks (record { open_at = opened h.open_at c.place; waits = ForAnswer c.place; in_reset = false })
    (record f { task = tasks.Owes replies.Accepted }) s (line_taken l c)
queued_tracks h f s l c true e r is low queued whole sound =
    let P : Line → Type 0 = λ k. Tracks (record { open_at = opened h.open_at c.place; waits = ForAnswer c.place; in_reset = false })
    (record f { task = tasks.Owes replies.Accepted }) s k in
    subst P (sym (taken_not l c e)) (record {
      beside = r.stage;
      fits = r.fits;
      waits = (((low, place_opens h c.place), others_open h c.place 32 (λ same. omega (arith, low, same)) ∙ r.shut), r.single);
      tags = λ t below. elim (cases_eq t c.place) [
        | inl same ↦ ap (is_taken l) same ∙ e ∙ sym (place_opens h c.place) ∙ sym (ap (opened h.open_at c.place) same)
        | inr apart ↦ r.tags t below ∙ sym (others_open h c.place t apart)
      ];
      reset = sym r.heard;
      idle = λ no. absurd (let clear = r.heard in cc);
      faulty = λ no. absurd (cc);
    })
queued_tracks h f s l c false e r is low queued whole sound =
    let P : Line → Type 0 = λ k. Tracks (record { open_at = opened h.open_at c.place; waits = ForAnswer c.place; in_reset = false })
    (record f { task = tasks.Owes replies.Accepted }) s k in
    subst P (sym (taken_new l c e)) (record {
      beside = r.stage;
      fits = new_fits l c is (omega (arith, low)) queued whole r.fits;
      waits = (
        ((low, place_opens h c.place), others_open h c.place 32 (λ same. omega (arith, low, same)) ∙ r.shut),
        ap is_under_way (new_other l c 32 (λ same. omega (arith, low, same))) ∙ r.single,
      );
      tags = λ t below. elim (cases_eq t c.place) [
        | inl same ↦ ap (is_taken (line_with l c)) same ∙ ap is_under_way (new_here l c is (omega (arith, low)))
            ∙ sym (place_opens h c.place) ∙ sym (ap (opened h.open_at c.place) same)
        | inr apart ↦ ap is_under_way (new_other l c t apart) ∙ r.tags t below ∙ sym (others_open h c.place t apart)
      ];
      reset = sym r.heard;
      idle = λ no. absurd (let clear = r.heard in cc);
      faulty = λ no. absurd (cc);
    })

-- one that is not queued: its host waits for the end
moves_tracks : (h : Host) (f : Front) (s : AsideStage) (l : Line) (c : Command) (wide : Bool) → c.place ≡ 32
    → Ready h f s l → NoTags l → IsLine l → is_queued c.protocol ≡ nat_lt c.place 32 → IsWhole c → is_some f.fault ≡ false
    → Tracks (host_with h 32) (record f { task = tasks.Moves (record { wide = wide; left = c.count }) }) s (line_taken l c)
moves_tracks h f s l c wide at' r none is queued whole sound =
    let free : is_under_way (command_at l c.place) ≡ false = ap (λ p. is_under_way (command_at l p)) at' ∙ r.single in
    let P : Line → Type 0 = λ k. Tracks (host_with h 32) (record f { task = tasks.Moves (record { wide = wide; left = c.count }) }) s k in
    let Q : Option Moment → Type 0 = λ x. MovesAs (host_with h 32) c.count x in
    let there : command_at (line_with l c) 32 ≡ Some (opening c) = ap (command_at (line_with l c)) (sym at') ∙ new_here l c is (omega (arith, at')) in
    subst P (sym (taken_new l c free)) (record {
      beside = r.stage;
      fits = new_fits l c is (omega (arith, at')) queued whole r.fits;
      waits = (refl, subst Q (sym there) (refl, (λ pio. omega arith), refl));
      tags = λ t below. (
        ap is_under_way (new_other l c t (λ same. omega (arith, same, at', below))) ∙ none t below,
        (lone h f s l r none t below).1,
      );
      reset = sym r.heard;
      idle = λ no. absurd (let clear = r.heard in cc);
      faulty = λ no. absurd (cc);
    })

-- ## What a command asks for is taken

moves_case : (h : Host) (f : Front) (s : AsideStage) (l : Line) (m : Move) (b : Bool) → nat_lt m.command.place 32 ≡ b
    → (m.command.place < 32) ⊎ (m.command.place ≡ 32) → Ready h f s l → (b ≡ false → NoTags l) → IsLine l
    → is_queued m.command.protocol ≡ nat_lt m.command.place 32 → IsWhole m.command → is_some f.fault ≡ false
    → Tracks (record { open_at = opened h.open_at m.command.place; waits = if b then ForAnswer m.command.place else ForEnd; in_reset = false })
    (record f { task = if b then tasks.Owes replies.Accepted else tasks.Moves (record { wide = m.wide; left = m.command.count }) }) s (line_taken l m.command)
moves_case h f s l m true e (inl low) r none is queued whole sound = queued_tracks h f s l m.command _ refl r is low queued whole sound
moves_case h f s l m true e (inr same) r none is queued whole sound = absurd (let g = ap (λ p. nat_lt p 32) same in cc)
moves_case h f s l m false e (inl low) r none is queued whole sound = absurd (let g = lt-ltb m.command.place 32 low in cc)
moves_case h f s l m false e (inr same) r none is queued whole sound =
    let P : ℕ → Type 0 = λ p. Tracks (record { open_at = opened h.open_at p; waits = ForEnd; in_reset = false })
    (record f { task = tasks.Moves (record { wide = m.wide; left = m.command.count }) }) s (line_taken l m.command) in
    subst P (sym same) (moves_tracks h f s l m.command m.wide same r (none refl) is queued whole sound)

-- the command is at its place, and may be taken
moves_taken : (h : Host) (f : Front) (e : EngineState) (place : ℕ) (m : Move) → (place < 32) ⊎ (place ≡ 32) → m.command.place ≡ place → IsBlock m.command.block
    → Ready h f e.stage (line e) → (nat_lt m.command.place 32 ≡ false → NoTags (line e)) → IsLine (line e)
    → MayAct e.stage (taken f (ask.Moves m)).front.task (taken f (ask.Moves m)).act → is_some f.fault ≡ false
    → TracksOf (host_with h place) (taken f (ask.Moves m)) e
moves_taken h f e place m low at' b r none is may sound =
    let P : ℕ → Type 0 = λ p. TracksOf (host_with h p) (taken f (ask.Moves m)) e in
    let Q : ℕ → Type 0 = λ p. (p < 32) ⊎ (p ≡ 32) in
    subst P at' (moves_case h f e.stage (line e) m _ refl (subst Q (sym at') low) r none is may.2 (whole_of m.command may.1 b) sound)

owes_tracks : (h : Host) (f g : Front) (s : AsideStage) (l : Line) → Ready h f s l → NoTags l → g.in_reset ≡ f.in_reset → g.task ≡ tasks.Owes replies.Done
    → Tracks (host_with h 32) g s l
owes_tracks h f g s l r none same task =
    let P : Task → Type 0 = λ t. IsBeside t s in
    let Q : Task → Type 0 = λ t. WaitsAs (host_with h 32) t (command_at l 32) in
    let R : Task → Type 0 = λ t. TagsAs (host_with h 32) t l in
    opened_tracks h 32 f g s s l r none same (subst P (sym task) r.stage) (subst Q (sym task) (single_opens h, r.single)) (subst R (sym task) (lone h f s l r none))

flush_tracks : (h : Host) (f g : Front) (s : AsideStage) (l : Line) → Ready h f s l → NoTags l → g.in_reset ≡ f.in_reset
    → WaitsAs (host_with h 32) g.task (command_at l 32) → TagsAs (host_with h 32) g.task l → IsBeside g.task stages.Waiting
    → Tracks (host_with h 32) g stages.Waiting l
flush_tracks h f g s l r none same waits tags beside = opened_tracks h 32 f g s stages.Waiting l r none same beside waits tags

set_tracks : (h : Host) (f : Front) (e : EngineState) (x : Setting) → Ready h f e.stage (line e) → NoTags (line e)
    → TracksOf (host_with h 32) (taken f (ask.Sets x)) e
set_tracks h f e (set'.WriteCache false) r none =
    flush_tracks h f (record f { task = tasks.Waits _ }) e.stage (line e) r none refl (single_opens h, r.single) (lone h f e.stage (line e) r none) tt
set_tracks h f e (set'.WriteCache true) r none = owes_tracks h f _ e.stage (line e) r none refl refl
set_tracks h f e (set'.LookAhead on) r none = owes_tracks h f _ e.stage (line e) r none refl refl
set_tracks h f e (set'.AutoActivate on) r none = owes_tracks h f _ e.stage (line e) r none refl refl
set_tracks h f e (set'.Mode mode) r none = owes_tracks h f _ e.stage (line e) r none refl refl
set_tracks h f e (set'.Reverts on) r none = owes_tracks h f _ e.stage (line e) r none refl refl

-- a task that the front has of its own
own_tracks : (h : Host) (f : Front) (s : AsideStage) (l : Line) (t : Task) → Ready h f s l → NoTags l → (s ≡ stages.Idle → IsBeside t s)
    → (IsSingle (host_with h 32) → is_under_way (command_at l 32) ≡ false → WaitsAs (host_with h 32) t (command_at l 32))
    → (LoneTags (host_with h 32) l → TagsAs (host_with h 32) t l) → Tracks (host_with h 32) (record f { task = t }) s l
own_tracks h f s l t r none beside waits tags =
    opened_tracks h 32 f (record f { task = t }) s s l r none refl (beside r.stage) (waits (single_opens h) r.single) (tags (lone h f s l r none))

either_task : (h : Host) (f : Front) (s : AsideStage) (l : Line) (b : Bool) (t u : Task) → Tracks (host_with h 32) (record f { task = t }) s l
    → Tracks (host_with h 32) (record f { task = u }) s l → Tracks (host_with h 32) (record f { task = if b then t else u }) s l
either_task h f s l true t u x y = x
either_task h f s l false t u x y = y

smart_tracks : (h : Host) (f : Front) (e : EngineState) (t : SmartTask) → Ready h f e.stage (line e) → NoTags (line e)
    → TracksOf (host_with h 32) (taken f (ask.Smart t)) e
smart_tracks h f e smart.Nothing r none = own_tracks h f e.stage (line e) (tasks.Owes replies.Done) r none (λ x. x) (λ x y. (x, y)) (λ x. x)
smart_tracks h f e smart.ReturnStatus r none = own_tracks h f e.stage (line e) (tasks.Owes replies.Healthy) r none (λ x. x) (λ x y. (x, y)) (λ x. x)
smart_tracks h f e other r none = own_tracks h f e.stage (line e) (tasks.Announces _) r none (λ x. x) (λ x y. (x, y)) (λ x. x)

either_heard : (h : Host) (e : EngineState) (b : Bool) (x y : Heard) → TracksOf h x e → TracksOf h y e → TracksOf h (if b then x else y) e
either_heard h e true x y is is' = is
either_heard h e false x y is is' = is'

power_tracks : (h : Host) (f : Front) (e : EngineState) (t : PowerTask) → Ready h f e.stage (line e) → NoTags (line e)
    → TracksOf (host_with h 32) (taken f (ask.Power t)) e
power_tracks h f e power.Check r none = own_tracks h f e.stage (line e) (tasks.Owes replies.Active) r none (λ x. x) (λ x y. (x, y)) (λ x. x)
power_tracks h f e power.Idle r none = own_tracks h f e.stage (line e) (tasks.Owes replies.Done) r none (λ x. x) (λ x y. (x, y)) (λ x. x)
power_tracks h f e power.Standby r none = either_heard (host_with h 32) e f.settings.write_cache _ _
    (flush_tracks h f (record f { task = tasks.Waits _ }) e.stage (line e) r none refl (single_opens h, r.single) (lone h f e.stage (line e) r none) tt)
    (own_tracks h f e.stage (line e) (tasks.Owes replies.Done) r none (λ x. x) (λ x y. (x, y)) (λ x. x))

-- ## A command is refused

-- it leaves all else as it is
pub refused_tracks : (h : Host) (f : Front) (e : EngineState) (place : ℕ) (x : Failure) → (place < 32) ⊎ (place ≡ 32) → Ready h f e.stage (line e) → NoTags (line e)
    → TracksOf (host_with h place) (record { front = record f { task = tasks.Owes (replies.Failed x) }; act = act.Nothing }) e
refused_tracks h f e place x low r none =
    opened_tracks h place f (record f { task = tasks.Owes (replies.Failed x) }) e.stage e.stage (line e) r none refl r.stage
    (refused_opens h place low, r.single) none

-- it ends all
aborted_tracks : (h : Host) (f : Front) (e : EngineState) (place : ℕ) (x : Failure) (fault : Fault) → (place < 32) ⊎ (place ≡ 32) → f.in_reset ≡ false
    → TracksOf (host_with h place) (record { front = record f { task = tasks.Owes (replies.Failed x); fault = Some fault }; act = act.Resets }) e
aborted_tracks h f e place x fault low heard = record {
  beside = refl;
  fits = λ p below. none_fits (line e) p;
  waits = (refused_opens h place low, none_alive (line e) 32);
  tags = λ t below. none_alive (line e) t;
  reset = sym heard;
  idle = λ no. absurd (let clear = heard in cc);
  faulty = λ faulty. λ t below. none_alive (line e) t;
}

refuses : (h : Host) (f : Front) (e : EngineState) (place : ℕ) (r : Refusal) (tag : Option ℕ) → (place < 32) ⊎ (place ≡ 32) → Ready h f e.stage (line e)
    → NoTags (line e) → TracksOf (host_with h place) (refused_by f r tag) e
refuses h f e place r None low is none = refused_tracks h f e place _ low is none
refuses h f e place r (Some tag) low is none = aborted_tracks h f e place _ _ low is.heard

-- ## Any command

at_32 : (h : Host) (x : Heard) (e : EngineState) (place : ℕ) → place ≡ 32 → TracksOf (host_with h 32) x e → TracksOf (host_with h place) x e
at_32 h x e place same is = let P : ℕ → Type 0 = λ p. TracksOf (host_with h p) x e in subst P (sym same) is

abbrev is_moves : Asked → Bool
is_moves (ask.Moves m) = true
is_moves _ = false

taken_tracks : (h : Host) (f : Front) (e : EngineState) (place : ℕ) (a : Asked) → (place < 32) ⊎ (place ≡ 32) → AskedAt place a
    → Ready h f e.stage (line e) → NoTags (line e) → IsLine (line e) → MayAct e.stage (taken f a).front.task (taken f a).act
    → (is_moves a ≡ true → is_some f.fault ≡ false) → TracksOf (host_with h place) (taken f a) e
taken_tracks h f e place (ask.Moves m) low at' r none is may sound = moves_taken h f e place m low at'.0 at'.1 r (λ single. none) is may (sound refl)
taken_tracks h f e place ask.Flushes low at' r none is may sound = at_32 h (taken f ask.Flushes) e place at'
    (flush_tracks h f (record f { task = tasks.Waits _ }) e.stage (line e) r none refl (single_opens h, r.single) (lone h f e.stage (line e) r none) tt)
taken_tracks h f e place (ask.Sets s) low at' r none is may sound = at_32 h (taken f (ask.Sets s)) e place at' (set_tracks h f e s r none)
taken_tracks h f e place (ask.SetsMultiple m) low at' r none is may sound = at_32 h (taken f (ask.SetsMultiple m)) e place at' (owes_tracks h f _ e.stage (line e) r none refl refl)
taken_tracks h f e place (ask.Trims n) low at' r none is may sound =
    at_32 h (taken f (ask.Trims n)) e place at' (own_tracks h f e.stage (line e) (tasks.Activates n) r none (λ x. x) (λ x y. (x, y)) (λ x. x))
taken_tracks h f e place ask.Identifies low at' r none is may sound =
    at_32 h (taken f ask.Identifies) e place at' (own_tracks h f e.stage (line e) (tasks.Announces _) r none (λ x. x) (λ x y. (x, y)) (λ x. x))
taken_tracks h f e place (ask.ReadsLog p) low at' r none is may sound =
    at_32 h (taken f (ask.ReadsLog p)) e place at' (either_task h f e.stage (line e) p.dma (tasks.Sends _) (tasks.Announces _)
    (own_tracks h f e.stage (line e) (tasks.Sends _) r none (λ x. x) (λ x y. (x, y)) (λ x. x))
    (own_tracks h f e.stage (line e) (tasks.Announces _) r none (λ x. x) (λ x y. (x, y)) (λ x. x)))
taken_tracks h f e place (ask.Smart t) low at' r none is may sound = at_32 h (taken f (ask.Smart t)) e place at' (smart_tracks h f e t r none)
taken_tracks h f e place (ask.Power t) low at' r none is may sound = at_32 h (taken f (ask.Power t)) e place at' (power_tracks h f e t r none)
taken_tracks h f e place (ask.Refused x) low at' r none is may sound = refuses h f e place x x.tag low r none

-- an error stands: only its log is read
error_case : (h : Host) (f : Front) (e : EngineState) (place : ℕ) (a : Asked) (b : Bool) → is_error_log a ≡ b → (place < 32) ⊎ (place ≡ 32) → AskedAt place a
    → Ready h f e.stage (line e) → NoTags (line e) → IsLine (line e)
    → MayAct e.stage (commanded_by f a (if b then Take else Refuse)).front.task (commanded_by f a (if b then Take else Refuse)).act
    → TracksOf (host_with h place) (commanded_by f a (if b then Take else Refuse)) e
error_case h f e place a false error low at' r none is may = refused_tracks h f e place _ low r none
error_case h f e place a true error low at' r none is may = taken_tracks h f e place a low at' r none is may (λ moves. not_log a error moves)
  where
    not_log : (a : Asked) → is_error_log a ≡ true → is_moves a ≡ true → is_some f.fault ≡ false
    not_log (ask.Moves m) error moves = absurd (cc)
    not_log a error moves = absurd (cc)

beside_case : (h : Host) (f : Front) (e : EngineState) (place : ℕ) (a : Asked) (tags : ℕ) (b : Bool) → stands_beside a tags ≡ b → (place < 32) ⊎ (place ≡ 32)
    → AskedAt place a → Ready h f e.stage (line e) → IsLine (line e) → is_some f.fault ≡ false
    → MayAct e.stage (commanded_by f a (if b then Take else AbortAll)).front.task (commanded_by f a (if b then Take else AbortAll)).act
    → TracksOf (host_with h place) (commanded_by f a (if b then Take else AbortAll)) e
beside_case h f e place a tags false stands low at' r is sound may = aborted_tracks h f e place _ _ low r.heard
beside_case h f e place (ask.Moves m) tags true stands low at' r is sound may =
    moves_taken h f e place m low at'.0 at'.1 r (λ single. absurd (let tag = (of_and (nat_lt m.command.place 32) (bit_at tags m.command.place == 0) stands).0 in cc)) is may sound
beside_case h f e place (ask.Refused x) tags true stands low at' r is sound may = queued_ends x.tag stands
  where
    queued_ends : (tag : Option ℕ) → is_queued_free tags tag ≡ true → TracksOf (host_with h place) (refused_by f x tag) e
    queued_ends None free = absurd (cc)
    queued_ends (Some tag) free = aborted_tracks h f e place _ _ low r.heard
beside_case h f e place a tags true stands low at' r is sound may = absurd (cc)

free_case : (h : Host) (f : Front) (e : EngineState) (place : ℕ) (a : Asked) (b : Bool) → (tags_of (line e) == 0) ≡ b → (place < 32) ⊎ (place ≡ 32)
    → AskedAt place a → Ready h f e.stage (line e) → IsLine (line e) → is_some f.fault ≡ false
    → MayAct e.stage (commanded_by f a (if b then Take else tag_course a (tags_of (line e)))).front.task (commanded_by f a (if b then Take else tag_course a (tags_of (line e)))).act
    → TracksOf (host_with h place) (commanded_by f a (if b then Take else tag_course a (tags_of (line e)))) e
free_case h f e place a true tags low at' r is sound may = taken_tracks h f e place a low at' r (no_tags (line e) tags) is may (λ moves. sound)
free_case h f e place a false tags low at' r is sound may = beside_case h f e place a (tags_of (line e)) _ refl low at' r is sound may

task_case : (h : Host) (f : Front) (e : EngineState) (place : ℕ) (a : Asked) (t : Task) (x : Option Fault) → f.in_reset ≡ false → f.task ≡ t → f.fault ≡ x
    → (place < 32) ⊎ (place ≡ 32) → AskedAt place a → Tracks h f e.stage (line e) → IsLine (line e)
    → MayAct e.stage (commanded_by f a (course a (standing_by t x (tags_of (line e))))).front.task (commanded_by f a (course a (standing_by t x (tags_of (line e))))).act
    → TracksOf (command_given h place (command_unheard (standing_by t x (tags_of (line e))))) (commanded_by f a (course a (standing_by t x (tags_of (line e))))) e
task_case h f e place a tasks.Idle None clear idle sound low at' tracks is may =
    free_case h f e place a _ refl low at' (ready h f e.stage (line e) clear idle tracks) is (ap is_some sound) may
task_case h f e place a tasks.Idle (Some fault) clear idle faulty low at' tracks is may =
    error_case h f e place a _ refl low at' (ready h f e.stage (line e) clear idle tracks) (tracks.faulty (ap is_some faulty)) is may
task_case h f e place a other x clear idle fault low at' tracks is may = tracks

reset_case : (h : Host) (f : Front) (e : EngineState) (place : ℕ) (a : Asked) (b : Bool) → f.in_reset ≡ b
    → (place < 32) ⊎ (place ≡ 32) → AskedAt place a → Tracks h f e.stage (line e) → IsLine (line e)
    → MayAct e.stage (commanded_by f a (course a (if b then stand.Reset else standing_by f.task f.fault (tags_of (line e))))).front.task
    (commanded_by f a (course a (if b then stand.Reset else standing_by f.task f.fault (tags_of (line e))))).act
    → TracksOf (command_given h place (command_unheard (if b then stand.Reset else standing_by f.task f.fault (tags_of (line e)))))
    (commanded_by f a (course a (if b then stand.Reset else standing_by f.task f.fault (tags_of (line e))))) e
reset_case h f e place a true clear low at' tracks is may = tracks
reset_case h f e place a false clear low at' tracks is may = task_case h f e place a f.task f.fault clear refl refl low at' tracks is may

-- ## Which commands are heard

pub owes_waits : (h : Host) (r : Reply) → OwesAs h r → waits_for_nothing h.waits ≡ false
owes_waits h replies.Signature w = ap waits_for_nothing w.0
owes_waits h replies.Accepted w = accepted h.waits w.0
  where
    accepted : (w : Wait) → IsAccepted h w → waits_for_nothing w ≡ false
    accepted (ForAnswer t) is = refl
    accepted w is = absurd is
owes_waits h replies.Done w = ap waits_for_nothing w.1
owes_waits h replies.Active w = ap waits_for_nothing w.1
owes_waits h replies.Healthy w = ap waits_for_nothing w.1
owes_waits h (replies.Failed f) w = refused h.waits w
  where
    refused : (w : Wait) → IsRefused h w → waits_for_nothing w ≡ false
    refused (ForAnswer t) is = refl
    refused ForEnd is = refl
    refused w is = absurd is
owes_waits h r w = absurd w

last_waits : (b : Bool) → waits_for_nothing (if b then ForLast else ForEnd) ≡ false
last_waits true = refl
last_waits false = refl

moves_waits : (h : Host) (left : ℕ) (x : Option Moment) → MovesAs h left x → waits_for_nothing h.waits ≡ false
moves_waits h left None w = absurd w
moves_waits h left (Some m) w = ap waits_for_nothing w.2 ∙ last_waits _

heard_by : (h : Host) (t : Task) (fault : Option Fault) (tags : ℕ) (x : Option Moment) → WaitsAs h t x
    → command_unheard (standing_by t fault tags) ≡ (if waits_for_nothing h.waits then None else Some Busy)
heard_by h tasks.Idle None tags x w = ap (λ v. if waits_for_nothing v then None else Some Busy) (sym w.0)
heard_by h tasks.Idle (Some fault) tags x w = ap (λ v. if waits_for_nothing v then None else Some Busy) (sym w.0)
heard_by h (tasks.Owes r) fault tags x w = ap (λ b. if b then None else Some Busy) (sym (owes_waits h r w.0))
heard_by h (tasks.Moves m) fault tags x w = ap (λ b. if b then None else Some Busy) (sym (moves_waits h m.left x w.1))
heard_by h (tasks.Gives p) fault tags x w = ap (λ v. if waits_for_nothing v then None else Some Busy) (sym w.1)
heard_by h t fault tags x w = ap (λ v. if waits_for_nothing v then None else Some Busy) (sym w.0.1)

heard_case : (h : Host) (f : Front) (s : AsideStage) (l : Line) (tags : ℕ) (a b : Bool) → h.in_reset ≡ a → f.in_reset ≡ b → Tracks h f s l
    → command_unheard (if b then stand.Reset else standing_by f.task f.fault tags) ≡ (if a then Some InReset else (if waits_for_nothing h.waits then None else Some Busy))
heard_case h f s l tags true true e g is = refl
heard_case h f s l tags false false e g is = heard_by h f.task f.fault tags (command_at l 32) is.waits
heard_case h f s l tags true false e g is = absurd (let same = is.reset in cc)
heard_case h f s l tags false true e g is = absurd (let same = is.reset in cc)

pub heard_is : (h : Host) (f : Front) (s : AsideStage) (l : Line) (tags : ℕ) → Tracks h f s l → command_unheard (standing f tags) ≡ unheard_of h
heard_is h f s l tags is = heard_case h f s l tags h.in_reset f.in_reset refl refl is

pub command_tracks : (h : Host) (f : Front) (e : EngineState) (place : ℕ) (a : Asked) → (place < 32) ⊎ (place ≡ 32) → AskedAt place a
    → Tracks h f e.stage (line e) → IsLine (line e)
    → MayAct e.stage (commanded_by f a (course a (standing f (tags_of (line e))))).front.task (commanded_by f a (course a (standing f (tags_of (line e))))).act
    → TracksOf (command_given h place (unheard_of h)) (commanded_by f a (course a (standing f (tags_of (line e))))) e
command_tracks h f e place a low at' tracks is may =
    let P : Option Unheard → Type 0 = λ x. TracksOf (command_given h place x) (commanded_by f a (course a (standing f (tags_of (line e))))) e in
    subst P (heard_is h f e.stage (line e) (tags_of (line e)) tracks) (reset_case h f e place a f.in_reset refl low at' tracks is may)

-- The error that stands by the FISes, and that of the front: the FISes of the host, and what the disk owes of itself, keep them alike.
use Rattle.std.proofs.Common.{◌≡◌, ℕ, zero, suc, ◌^◌, ◌<◌, true, false, List, Some, None, refl, sym, ap, ◌∙◌, subst, arith, inl, inr}
use Rattle.std.proofs.lemmas.Bool.{cases_Bool, eq-eqb, ltb-true}
use Rattle.std.specs.{Prelude.{Option, Bool, not, nat_lt, ◌==◌, ◌&&◌, if◌then◌else◌}, Option.is_some, Int.bit_at}
use Rattle.block_queue.specs.Line.{Line, any_below}
use Rattle.block_queue.proofs.Door.{any_found, any_none, of_and}
use Rattle.block_engine.specs.declared.aside.AsideStage.{AsideStage}
use Rattle.ata_reply.specs.declared.reply.{Failure.Failure, Reply.Reply}
use Rattle.ata_reply.specs.declared.reply.Reply.TheVariants as replies
use Rattle.ata_command.specs.{Asks.tag_of_place, Courses.{course, is_error_log, is_queued_free, is_tag_free, stands_beside, tag_course}}
use Rattle.ata_command.specs.declared.asked.{Asked.Asked, LogPage.LogPage, PowerTask.PowerTask, Refusal.Refusal, SmartTask.SmartTask}
use Rattle.ata_command.specs.declared.{control.Course.TheVariants.{AbortAll, Refuse, Take}, settings.Setting.Setting}
use Rattle.ata_command.specs.declared.asked.Asked.TheVariants as ask
use Rattle.ata_command.specs.declared.asked.PowerTask.TheVariants as power
use Rattle.ata_command.specs.declared.asked.SmartTask.TheVariants as smart
use Rattle.ata_command.specs.declared.control.Standing.TheVariants as stand
use Rattle.ata_command.specs.declared.settings.Setting.TheVariants as set'
use Rattle.ata_front.specs.Fronts.{aborted, commanded_by, controlled, is_log_10, log_task, moves_task, owed, refused_by, said_by, standing}
use Rattle.ata_front.specs.{Fronts.{standing_by, taken, task_of_smart}, declared.{front.{Front.Front, Heard.Heard}, task.Fault.Fault}}
use Rattle.ata_front.specs.declared.task.{Fault.TheVariants.{Mixed, Queued}, Moving.Moving, Owed.Owed, Page.Page, Task.Task}
use Rattle.ata_front.specs.declared.task.Owed.TheVariants as owe
use Rattle.ata_front.specs.declared.task.Page.TheVariants as pages
use Rattle.ata_front.specs.declared.task.Task.TheVariants as tasks
use Rattle.sata_disk.specs.{State.{is_taken, tags_below, tags_of}, Hearing.command_unheard, declared.unheard.Unheard.Unheard}
use Rattle.sata_disk_laws.specs.Once.{Host, Wait, ForAnswer, ForEnd, ForLast, ForSignature, command_given, control_given, data_got, data_got_by}
use Rattle.sata_disk_laws.specs.{Once.{none_open, reply_got, unheard_of, wait_for}, Errors.{Watch, command_watched, goes_beside, or_fault}}
use Rattle.sata_disk_laws.specs.Errors.{page_watched, reads_error, refused_for, reply_watched, reset_watched}
use Rattle.sata_disk_laws.specs.Errors as errors
use Rattle.sata_disk_laws.proofs.{AskedPlaces.{AskedAt, no_tags, tag_free}, Commands.heard_is, Tracks.{NoTags, SameTags, TagsAs, Tracks}}

-- ## What is alike

abbrev pub OwesFault : Wait → (beside : Bool) → Option Fault → Option Fault → Reply → Type 0
OwesFault wait beside stands x (replies.Failed f) = x ≡ or_fault stands (errors.refused_by beside wait f)
OwesFault wait beside stands x r = x ≡ stands

-- the front has the error that stands, or that will stand once its answer went
abbrev pub FaultAs : Wait → (beside : Bool) → Option Fault → Option Fault → Task → Type 0
FaultAs wait beside stands x (tasks.Owes r) = OwesFault wait beside stands x r
FaultAs wait beside stands x (tasks.Moves m) = (x ≡ stands) × (beside ≡ true)
FaultAs wait beside stands x (tasks.Waits p) = (x ≡ stands) × (beside ≡ true)
FaultAs wait beside stands x (tasks.Activates n) = (x ≡ stands) × (beside ≡ true)
FaultAs wait beside stands x (tasks.Expects n) = (x ≡ stands) × (beside ≡ true)
FaultAs wait beside stands x t = x ≡ stands

-- what the front does while an error stands
abbrev pub ForError : Task → Type 0
ForError tasks.Idle = Unit {0}
ForError (tasks.Owes r) = r ≡ aborted
ForError (tasks.Announces p) = is_log_10 p ≡ true
ForError (tasks.Gives p) = is_log_10 p ≡ true
ForError (tasks.Sends p) = is_log_10 p ≡ true
ForError _ = ⊥

pub record Watches (h : Host) (w : Watch) (x : Option Fault) (t : Task) : Type 0 where
  pub fault : FaultAs h.waits w.beside w.fault x t
  pub only : is_some w.fault ≡ true → ForError t
  pub aborts : w.aborts ≡ true → t ≡ tasks.Owes aborted
  pub reset : h.in_reset ≡ true → w.fault ≡ None

abbrev pub WatchesOf : Host → Watch → Front → Type 0
WatchesOf h w f = Watches h w f.fault f.task

pub no_some : (x : Option Fault) (P : Type 0) → x ≡ None → is_some x ≡ true → P
no_some x P e some = absurd (let not' = ap is_some e in cc)

pub not_both : (b : Bool) (P : Type 0) → b ≡ false → b ≡ true → P
not_both b P e f = absurd (cc)

abbrev pub is_failure : Task → Bool
is_failure (tasks.Owes (replies.Failed f)) = true
is_failure _ = false

owes_calm : (wait : Wait) (beside : Bool) (stands x : Option Fault) (r : Reply) → x ≡ stands → is_failure (tasks.Owes r) ≡ false → OwesFault wait beside stands x r
owes_calm wait beside stands x (replies.Failed f) e not' = absurd (cc)
owes_calm wait beside stands x r e not' = e

fault_calm : (wait : Wait) (beside : Bool) (stands x : Option Fault) (t : Task) → x ≡ stands → beside ≡ true → is_failure t ≡ false
    → FaultAs wait beside stands x t
fault_calm wait beside stands x (tasks.Owes r) e lone not' = owes_calm wait beside stands x r e not'
fault_calm wait beside stands x (tasks.Moves m) e lone not' = (e, lone)
fault_calm wait beside stands x (tasks.Waits p) e lone not' = (e, lone)
fault_calm wait beside stands x (tasks.Activates n) e lone not' = (e, lone)
fault_calm wait beside stands x (tasks.Expects n) e lone not' = (e, lone)
fault_calm wait beside stands x t e lone not' = e

-- nothing is under way
abbrev is_plain : Task → Bool
is_plain tasks.Idle = true
is_plain (tasks.Owes replies.Done) = true
is_plain _ = false

fault_plain : (wait : Wait) (beside : Bool) (stands x : Option Fault) (t : Task) → x ≡ stands → is_plain t ≡ true → FaultAs wait beside stands x t
fault_plain wait beside stands x tasks.Idle e plain = e
fault_plain wait beside stands x (tasks.Owes replies.Done) e plain = e
fault_plain wait beside stands x t e plain = absurd (cc)

-- no error stands, and nothing was in the way of the command
pub calm : (h : Host) (w : Watch) (x : Option Fault) (t : Task) → x ≡ w.fault → w.fault ≡ None → w.aborts ≡ false → w.beside ≡ true
    → is_failure t ≡ false → Watches h w x t
calm h w x t e none aborts beside not' = record {
  fault = fault_calm h.waits w.beside w.fault x t e beside not';
  only = λ some. no_some w.fault _ none some;
  aborts = λ yes'. not_both w.aborts _ aborts yes';
  reset = λ e'. none;
}

-- ## Tags

none_open' : (h : Host) (l : Line) → SameTags h l → NoTags l → any_below h.open_at 32 ≡ false
none_open' h l same none = any_none h.open_at 32 (λ t low. sym (same t low) ∙ none t low)

tags_none : (l : Line) (n : ℕ) → ((t : ℕ) → t < n → is_taken l t ≡ false) → tags_below l n ≡ 0
unfolding tags_below
tags_none l zero none = refl
tags_none l (suc n) none =
    let below = tags_none l n (λ t low. none t (omega (arith, low))) in
    let here = ap (λ b. if b then 2 ^ n else 0) (none n (omega arith)) in omega (arith, below, here)

tags_zero : (l : Line) → NoTags l → (tags_of l == 0) ≡ true
unfolding tags_of
tags_zero l none = eq-eqb (tags_below l 32) 0 (tags_none l 32 none)

untaken : (h : Host) (l : Line) → SameTags h l → any_below h.open_at 32 ≡ false → NoTags l
untaken h l same none t low = elim (cases_Bool (h.open_at t)) [
  | inl open' ↦ not_both _ _ none (any_found h.open_at 32 t low open')
  | inr shut ↦ same t low ∙ shut
]

some_open : (h : Host) (l : Line) → SameTags h l → (tags_of l == 0) ≡ false → any_below h.open_at 32 ≡ true
some_open h l same some = elim (cases_Bool (any_below h.open_at 32)) [
  | inl yes' ↦ yes'
  | inr none ↦ not_both _ _ some (tags_zero l (untaken h l same none))
]

-- ## Which commands go beside those that are open

-- where nothing is open, each does
goes_free : (h : Host) (place : ℕ) → any_below h.open_at 32 ≡ false → goes_beside h place ≡ true
goes_free h place none = elim (cases_Bool (nat_lt place 32)) [
  | inl low ↦ ap (λ b. if b then not (h.open_at place) else not (any_below h.open_at 32)) low ∙ ap (λ b. not b) (shut_at h place (ltb-true place 32 low) none)
  | inr high ↦ ap (λ b. if b then not (h.open_at place) else not (any_below h.open_at 32)) high ∙ ap (λ b. not b) none
]
  where
    shut_at : (h : Host) (place : ℕ) → place < 32 → any_below h.open_at 32 ≡ false → h.open_at place ≡ false
    shut_at h place low none = elim (cases_Bool (h.open_at place)) [
      | inl open' ↦ not_both _ _ none (any_found h.open_at 32 place low open')
      | inr shut ↦ shut
    ]

-- where some tags are open, each whose tag is free
goes_tagged : (h : Host) (l : Line) (place : ℕ) → SameTags h l → any_below h.open_at 32 ≡ true → goes_beside h place ≡ is_tag_free (tags_of l) place
goes_tagged h l place same some = elim (cases_Bool (nat_lt place 32)) [
  | inl low ↦
      let below = ltb-true place 32 low in
      ap (λ b. if b then not (h.open_at place) else not (any_below h.open_at 32)) low
      ∙ ap (λ b. not b) (sym (same place below)) ∙ sym (tag_free l place below) ∙ sym (ap (λ b. b && (bit_at (tags_of l) place == 0)) low)
  | inr high ↦
      ap (λ b. if b then not (h.open_at place) else not (any_below h.open_at 32)) high ∙ ap (λ b. not b) some
      ∙ sym (ap (λ b. b && (bit_at (tags_of l) place == 0)) high)
]

-- one that may stand there has a tag that is free, and no other has
stands_free : (a : Asked) (tags place : ℕ) → AskedAt place a → (b : Bool) → stands_beside a tags ≡ b → b ≡ is_tag_free tags place
stands_free (ask.Moves m) tags place at' b e = sym e ∙ ap (is_tag_free tags) at'.0
stands_free (ask.Refused r) tags place at' b e = sym e ∙ ap (is_queued_free tags) at' ∙ tag_case tags place (nat_lt place 32) refl
  where
    tag_case : (tags place : ℕ) (c : Bool) → nat_lt place 32 ≡ c → is_queued_free tags (if c then Some place else None) ≡ is_tag_free tags place
    tag_case tags place true low = refl
    tag_case tags place false high = sym (ap (λ b. b && (bit_at tags place == 0)) high)
stands_free other tags place at' b e = sym e ∙ sym (ap (is_tag_free tags) at')

-- ## A command is taken where no error stands and nothing is in its way

abbrev given : Host → (place : ℕ) → Host
given h place = command_given h place None

abbrev told : Host → Watch → (place : ℕ) → List ℕ → Watch
told h w place bytes = command_watched h w place bytes None

sound_aborts : (x : Option Fault) (b : Bool) → x ≡ None → (is_some x && b) ≡ false
sound_aborts x b e = ap (λ y. is_some y && b) e

abbrev WatchesAs : Host → Watch → Heard → Type 0
WatchesAs h w x = Watches h w x.front.fault x.front.task

either_heard : (h : Host) (w : Watch) (b : Bool) (x y : Heard) → WatchesAs h w x → WatchesAs h w y → WatchesAs h w (if b then x else y)
either_heard h w true x y is is' = is
either_heard h w false x y is is' = is'

moves_calm : (b : Bool) (m : Moving) → is_failure (if b then tasks.Owes replies.Accepted else tasks.Moves m) ≡ false
moves_calm true m = refl
moves_calm false m = refl

log_calm : (b : Bool) (p : Page) → is_failure (if b then tasks.Sends p else tasks.Announces p) ≡ false
log_calm true p = refl
log_calm false p = refl

smart_calm : (t : SmartTask) → is_failure (task_of_smart t) ≡ false
smart_calm smart.ReadData = refl
smart_calm other = refl

single_case : (place : ℕ) (f : Failure) (b : Bool) → None ≡ (if b then Some place else None) → refused_for (if b then ForAnswer place else ForEnd) f ≡ None
single_case place f true e = absurd (cc)
single_case place f false e = refl

-- a command that is not queued
single_refused : (place : ℕ) (f : Failure) → None ≡ tag_of_place place → refused_for (wait_for place) f ≡ None
single_refused place f e = single_case place f (nat_lt place 32) e

queued_case : (place tag : ℕ) (f : Failure) (b : Bool) → Some tag ≡ (if b then Some place else None)
    → refused_for (if b then ForAnswer place else ForEnd) f ≡ Some (Queued tag (record { error = f.error; lba = f.lba }))
queued_case place tag f true e = let same : place ≡ tag = cc in ap (λ t. Some (Queued t (record { error = f.error; lba = f.lba }))) same
queued_case place tag f false e = absurd (cc)

-- a queued one
queued_refused : (place tag : ℕ) (f : Failure) → Some tag ≡ tag_of_place place
    → refused_for (wait_for place) f ≡ Some (Queued tag (record { error = f.error; lba = f.lba }))
queued_refused place tag f e = queued_case place tag f (nat_lt place 32) e

-- what stands once the answer went to a command that nothing was in the way of
free_refused : (wait : Wait) (beside : Bool) (stands : Option Fault) (f : Failure) → stands ≡ None → beside ≡ true
    → or_fault stands (errors.refused_by beside wait f) ≡ refused_for wait f
free_refused wait beside stands f none lone =
    ap (λ s. or_fault s (errors.refused_by beside wait f)) none ∙ ap (λ b. errors.refused_by b wait f) lone

module _ (h : Host) (w : Watch) (bytes : List ℕ) (place : ℕ) (f : Front) (none : w.fault ≡ None) (sound : f.fault ≡ None)
    (lone : goes_beside h place ≡ true) where
  goes_calm : (t : Task) → is_failure t ≡ false → Watches (given h place) (told h w place bytes) f.fault t
  goes_calm t not' = calm (given h place) (told h w place bytes) f.fault t (sound ∙ sym none) none (sound_aborts w.fault _ none) lone not'

  set_watches : (s : Setting) → WatchesAs (given h place) (told h w place bytes) (taken f (ask.Sets s))
  set_watches (set'.WriteCache true) = goes_calm _ refl
  set_watches (set'.WriteCache false) = goes_calm _ refl
  set_watches (set'.LookAhead on) = goes_calm _ refl
  set_watches (set'.AutoActivate on) = goes_calm _ refl
  set_watches (set'.Mode mode) = goes_calm _ refl
  set_watches (set'.Reverts on) = goes_calm _ refl

  power_watches : (t : PowerTask) → WatchesAs (given h place) (told h w place bytes) (taken f (ask.Power t))
  power_watches power.Standby = either_heard (given h place) (told h w place bytes) f.settings.write_cache _ _ (goes_calm _ refl) (goes_calm _ refl)
  power_watches other = goes_calm _ refl

  answered : (x : Option Fault) (a : Failure) → x ≡ refused_for (wait_for place) a
      → Watches (given h place) (told h w place bytes) x (tasks.Owes (replies.Failed a))
  answered x a e = record {
    fault = e ∙ sym (free_refused (wait_for place) _ w.fault a none lone);
    only = λ some. no_some w.fault _ none some;
    aborts = λ yes'. not_both _ _ (sound_aborts w.fault _ none) yes';
    reset = λ e'. none;
  }

  refused_watches : (r : Refusal) (tag : Option ℕ) → tag ≡ tag_of_place place → WatchesAs (given h place) (told h w place bytes) (refused_by f r tag)
  refused_watches r None e = answered f.fault _ (sound ∙ sym (single_refused place _ e))
  refused_watches r (Some tag) e = answered _ _ (sym (queued_refused place tag _ e))

  taken_watches : (a : Asked) → AskedAt place a → WatchesAs (given h place) (told h w place bytes) (taken f a)
  taken_watches (ask.Moves m) at' = goes_calm (moves_task m) (moves_calm _ _)
  taken_watches (ask.Sets s) at' = set_watches s
  taken_watches (ask.ReadsLog p) at' = goes_calm (log_task p) (log_calm _ _)
  taken_watches (ask.Smart t) at' = goes_calm (task_of_smart t) (smart_calm t)
  taken_watches (ask.Power t) at' = power_watches t
  taken_watches (ask.Refused r) at' = refused_watches r r.tag at'
  taken_watches other at' = goes_calm _ refl

-- ## Any command

module _ (h : Host) (w : Watch) (bytes : List ℕ) (place : ℕ) (f : Front) where
  -- an error stands: the log is read, or the command is aborted
  log_watches : (p : LogPage) (b : Bool) → f.fault ≡ w.fault → is_error_log (ask.ReadsLog p) ≡ true → reads_error bytes ≡ true → h.in_reset ≡ false
      → Watches (given h place) (told h w place bytes) f.fault (if b then tasks.Sends (pages.Log p) else tasks.Announces (pages.Log p))
  log_watches p true same error reads clear = record {
    fault = same;
    only = λ some. (of_and (p.log == 0x10) (p.page == 0) (of_and ((p.log == 0x10) && (p.page == 0)) (p.count == 1) error).0).0;
    aborts = λ yes'. not_both _ _ (reading w.fault (reads_error bytes) reads) yes';
    reset = λ e. absurd (cc);
  }
    where
      reading : (x : Option Fault) (b : Bool) → b ≡ true → (is_some x && not b) ≡ false
      reading None b e = refl
      reading (Some x) b e = ap (λ c. not c) e
  log_watches p false same error reads clear = record {
    fault = same;
    only = λ some. (of_and (p.log == 0x10) (p.page == 0) (of_and ((p.log == 0x10) && (p.page == 0)) (p.count == 1) error).0).0;
    aborts = λ yes'. not_both _ _ (reading w.fault (reads_error bytes) reads) yes';
    reset = λ e. absurd (cc);
  }
    where
      reading : (x : Option Fault) (b : Bool) → b ≡ true → (is_some x && not b) ≡ false
      reading None b e = refl
      reading (Some x) b e = ap (λ c. not c) e

  stands_still : (x : Fault) (other : Option Fault) → w.fault ≡ Some x → or_fault w.fault other ≡ w.fault
  stands_still x other e = ap (λ z. or_fault z other) e ∙ sym e

  error_watches : (a : Asked) (x : Fault) (b : Bool) → is_error_log a ≡ b → is_error_log a ≡ reads_error bytes → f.fault ≡ w.fault → w.fault ≡ Some x
      → h.in_reset ≡ false → WatchesAs (given h place) (told h w place bytes) (commanded_by f a (if b then Take else Refuse))
  error_watches a x false error reads same is clear = record {
    fault = same ∙ sym (stands_still x _ is);
    only = λ some. refl;
    aborts = λ yes'. refl;
    reset = λ e. absurd (cc);
  }
  error_watches (ask.ReadsLog p) x true error reads same is clear = log_watches p p.dma same error (sym reads ∙ error) clear
  error_watches a x true error reads same is clear = absurd (cc)

  -- it may not stand beside the queued commands, and ends them
  mixed_watches : (x : Failure) → w.fault ≡ None → goes_beside h place ≡ false
      → Watches (given h place) (told h w place bytes) (Some Mixed) (tasks.Owes (replies.Failed x))
  mixed_watches x none apart = record {
    fault = sym (ap (λ s. or_fault s (errors.refused_by (goes_beside h place) (wait_for place) x)) none
        ∙ ap (λ b. errors.refused_by b (wait_for place) x) apart);
    only = λ e. no_some w.fault _ none e;
    aborts = λ yes'. not_both _ _ (sound_aborts w.fault _ none) yes';
    reset = λ e. none;
  }

  tag_watches : (m : Moving) (b : Bool) → b ≡ true → f.fault ≡ w.fault → w.fault ≡ None
      → Watches (given h place) (told h w place bytes) f.fault (if b then tasks.Owes replies.Accepted else tasks.Moves m)
  tag_watches m false e same none = absurd (cc)
  tag_watches m true e same none = record {
    fault = same;
    only = λ some. no_some w.fault _ none some;
    aborts = λ yes'. not_both _ _ (sound_aborts w.fault _ none) yes';
    reset = λ e'. none;
  }

  beside_watches : (a : Asked) (tags : ℕ) (b : Bool) → stands_beside a tags ≡ b → AskedAt place a → goes_beside h place ≡ is_tag_free tags place
      → f.fault ≡ None → w.fault ≡ None → WatchesAs (given h place) (told h w place bytes) (commanded_by f a (if b then Take else AbortAll))
  beside_watches a tags false e at' goes sound none = mixed_watches _ none (goes ∙ sym (stands_free a tags place at' false e))
  beside_watches (ask.Moves m) tags true e at' goes sound none =
      tag_watches _ (nat_lt m.command.place 32) (of_and (nat_lt m.command.place 32) _ e).0 (sound ∙ sym none) none
  beside_watches (ask.Refused r) tags true e at' goes sound none =
      refused_watches h w bytes place f none sound (goes ∙ sym (stands_free (ask.Refused r) tags place at' true e)) r r.tag at'
  beside_watches a tags true e at' goes sound none = absurd (cc)

  free_watches : (a : Asked) (l : Line) (b : Bool) → (tags_of l == 0) ≡ b → AskedAt place a → SameTags h l → f.fault ≡ None → w.fault ≡ None
      → WatchesAs (given h place) (told h w place bytes) (commanded_by f a (if b then Take else tag_course a (tags_of l)))
  free_watches a l true e at' same sound none =
      taken_watches h w bytes place f none sound (goes_free h place (none_open' h l same (no_tags l e))) a at'
  free_watches a l false e at' same sound none =
      beside_watches a (tags_of l) _ refl at' (goes_tagged h l place same (some_open h l same e)) sound none

  task_watches : (a : Asked) (l : Line) (t : Task) (x : Option Fault) → f.task ≡ t → f.fault ≡ x → AskedAt place a → is_error_log a ≡ reads_error bytes
      → h.in_reset ≡ false → TagsAs h t l → FaultAs h.waits w.beside w.fault x t → WatchesOf h w f
      → WatchesAs (command_given h place (command_unheard (standing_by t x (tags_of l))))
      (command_watched h w place bytes (command_unheard (standing_by t x (tags_of l)))) (commanded_by f a (course a (standing_by t x (tags_of l))))
  task_watches a l tasks.Idle None idle sound at' reads clear tags as' is =
      free_watches a l _ refl at' tags sound (sym as')
  task_watches a l tasks.Idle (Some x) idle faulty at' reads clear tags as' is =
      error_watches a x _ refl reads (faulty ∙ as') (sym as') clear
  task_watches a l other x idle faulty at' reads clear tags as' is = is

  reset_watches : (a : Asked) (l : Line) (b : Bool) → f.in_reset ≡ b → h.in_reset ≡ f.in_reset → AskedAt place a → is_error_log a ≡ reads_error bytes
      → TagsAs h f.task l → WatchesOf h w f
      → WatchesAs (command_given h place (command_unheard (if b then stand.Reset else standing_by f.task f.fault (tags_of l))))
      (command_watched h w place bytes (command_unheard (if b then stand.Reset else standing_by f.task f.fault (tags_of l))))
      (commanded_by f a (course a (if b then stand.Reset else standing_by f.task f.fault (tags_of l))))
  reset_watches a l true e same at' reads tags is = is
  reset_watches a l false e same at' reads tags is = task_watches a l f.task f.fault refl refl at' reads (same ∙ e) tags is.fault is

pub command_watches : (h : Host) (w : Watch) (bytes : List ℕ) (place : ℕ) (f : Front) (s : AsideStage) (l : Line) (a : Asked) → AskedAt place a
    → is_error_log a ≡ reads_error bytes → Tracks h f s l → WatchesOf h w f
    → WatchesAs (command_given h place (unheard_of h)) (command_watched h w place bytes (unheard_of h)) (commanded_by f a (course a (standing f (tags_of l))))
command_watches h w bytes place f s l a at' reads tracks is =
    let P : Option Unheard → Type 0 = λ x. WatchesAs (command_given h place x) (command_watched h w place bytes x) (commanded_by f a (course a (standing f (tags_of l)))) in
    subst P (heard_is h f s l (tags_of l) tracks) (reset_watches h w bytes place f a l _ refl tracks.reset at' reads tracks.tags is)

-- ## A reset

pub plug_watches : (h : Host) (w : Watch) (t : Task) → FaultAs h.waits w.beside None None t → Watches h (reset_watched w) None t
plug_watches h w t as' = record { fault = as'; only = λ some. absurd (cc); aborts = λ yes'. absurd (cc); reset = λ e'. refl }

cleared_watches : (h : Host) (w : Watch) (f : Front) (a b : Bool) → h.in_reset ≡ a → f.in_reset ≡ b → h.in_reset ≡ f.in_reset
    → (f.in_reset ≡ true → f.task ≡ tasks.Idle) → WatchesOf h w f
    → WatchesOf (if a then record { open_at = none_open; waits = ForSignature; in_reset = false } else h) w
    (if b then record f { task = tasks.Owes replies.Signature; in_reset = false } else f)
cleared_watches h w f false false e g same idle is = is
cleared_watches h w f true false e g same idle is = absurd (cc)
cleared_watches h w f false true e g same idle is = absurd (cc)
cleared_watches h w f true true e g same idle is =
    let none = is.reset e in
    let P : Task → Type 0 = λ t. FaultAs h.waits w.beside w.fault f.fault t in
    let as' : f.fault ≡ w.fault = subst P (idle g) is.fault in
    record {
      fault = as';
      only = λ some. no_some w.fault _ none some;
      aborts = λ yes'. absurd (let not' = sym (idle g) ∙ is.aborts yes' in cc);
      reset = λ e'. none;
    }

pub control_watches : (h : Host) (w : Watch) (f : Front) (s : AsideStage) (l : Line) (srst : Bool) → Tracks h f s l → WatchesOf h w f
    → WatchesOf (control_given h srst) (if srst then reset_watched w else w) (controlled f srst).front
control_watches h w f s l true tracks is = plug_watches (control_given h true) w tasks.Idle refl
control_watches h w f s l false tracks is =
    cleared_watches h w f h.in_reset f.in_reset refl refl tracks.reset (λ e. (tracks.idle e).0) is

-- ## What the disk owes of itself

pub got_reset : (h : Host) (r : Reply) → (reply_got h r).in_reset ≡ h.in_reset
got_reset h (replies.Announce a) = announced_case h (a.to_host && a.last)
  where
    announced_case : (h : Host) (b : Bool) → (if b then record h { waits = ForLast } else h).in_reset ≡ h.in_reset
    announced_case h true = refl
    announced_case h false = refl
got_reset h r = refl

-- the answer went
pub goes_watches : (h : Host) (w : Watch) (x : Option Fault) (r : Reply) → OwesFault h.waits w.beside w.fault x r
    → (w.aborts ≡ true → r ≡ aborted) → (h.in_reset ≡ true → w.fault ≡ None) → (h.in_reset ≡ true → ⊥) → Watches (reply_got h r) (reply_watched h w r) x tasks.Idle
goes_watches h w x (replies.Failed f) as' aborts reset clear =
    record { fault = as'; only = λ some. tt; aborts = λ yes'. absurd (cc); reset = λ e. absurd (clear e) }
goes_watches h w x (replies.Announce a) as' aborts reset clear = record {
  fault = as';
  only = λ some. tt;
  aborts = λ yes'. absurd (let not' = aborts yes' in cc);
  reset = λ e. reset (sym (got_reset h (replies.Announce a)) ∙ e);
}
goes_watches h w x r as' aborts reset clear =
    record { fault = as'; only = λ some. tt; aborts = λ yes'. absurd (let not' = aborts yes' in cc); reset = reset }

owes_same : (r q : Reply) → tasks.Owes r ≡ tasks.Owes q → r ≡ q
owes_same r q e = cc

pub same_reply : (r q : Reply) → Some (owe.Reply q) ≡ Some (owe.Reply r) → q ≡ r
same_reply r q e = cc

pub same_page : (p q : Page) → Some (owe.Page q) ≡ Some (owe.Page p) → q ≡ p
same_page p q e = cc

said_case : (h : Host) (w : Watch) (f : Front) (t : Task) (r : Reply) → owed t ≡ Some (owe.Reply r) → Watches h w f.fault t → (h.in_reset ≡ true → ⊥)
    → Watches (reply_got h r) (reply_watched h w r) (said_by f t).fault (said_by f t).task
said_case h w f (tasks.Owes q) r e is clear =
    let P : Reply → Type 0 = λ k. Watches (reply_got h k) (reply_watched h w k) f.fault tasks.Idle in
    subst P (same_reply r q e) (goes_watches h w f.fault q is.fault (λ yes'. owes_same q aborted (is.aborts yes')) is.reset clear)
said_case h w f (tasks.Announces p) r e is clear =
    let P : Reply → Type 0 = λ k. Watches (reply_got h k) (reply_watched h w k) f.fault (tasks.Gives p) in
    subst P (same_reply r _ e) (record { fault = is.fault; only = is.only; aborts = λ yes'. absurd (let not' = is.aborts yes' in cc); reset = is.reset })
said_case h w f (tasks.Activates n) r e is clear =
    let P : Reply → Type 0 = λ k. Watches (reply_got h k) (reply_watched h w k) f.fault (tasks.Expects n) in
    subst P (same_reply r _ e) (record { fault = is.fault; only = is.only; aborts = λ yes'. absurd (let not' = is.aborts yes' in cc); reset = is.reset })
said_case h w f t r e is clear = absurd (cc)

-- while SRST is set the disk owes nothing
owed_clear : (h : Host) (f : Front) (s : AsideStage) (l : Line) (o : Owed) → Tracks h f s l → owed f.task ≡ Some o → h.in_reset ≡ true → ⊥
owed_clear h f s l o tracks e reset = let idle = ap owed (tracks.idle (sym tracks.reset ∙ reset)).0 in absurd (cc)

pub said_watches : (h : Host) (w : Watch) (f : Front) (s : AsideStage) (l : Line) (r : Reply) → owed f.task ≡ Some (owe.Reply r) → Tracks h f s l → WatchesOf h w f
    → WatchesOf (reply_got h r) (reply_watched h w r) (said_by f f.task)
said_watches h w f s l r e tracks is = said_case h w f f.task r e is (owed_clear h f s l _ tracks e)

pub data_reset : (h : Host) (v : Wait) → (data_got_by h v).in_reset ≡ h.in_reset
data_reset h ForLast = refl
data_reset h v = refl

-- a page went, and the error with its log
gone_watches : (k : Host) (w : Watch) (x : Option Fault) (t : Task) (b : Bool) → x ≡ w.fault → (is_some w.fault ≡ true → b ≡ true) → (w.aborts ≡ true → ⊥)
    → is_plain t ≡ true → (k.in_reset ≡ true → ⊥)
    → Watches k (record { beside = w.beside; aborts = w.aborts; fault = if b then None else w.fault; failures = w.failures }) (if b then None else x) t
gone_watches k w x t true same log aborts plain clear = record {
  fault = fault_plain k.waits w.beside None None t refl plain;
  only = λ some. absurd (cc);
  aborts = λ yes'. absurd (aborts yes');
  reset = λ e. refl;
}
gone_watches k w x t false same log aborts plain clear = record {
  fault = fault_plain k.waits w.beside w.fault x t same plain;
  only = λ some. absurd (let not' = log some in cc);
  aborts = λ yes'. absurd (aborts yes');
  reset = λ e. absurd (clear e);
}

page_case : (h : Host) (w : Watch) (f : Front) (t : Task) (p : Page) → owed t ≡ Some (owe.Page p) → Watches h w f.fault t → (h.in_reset ≡ true → ⊥)
    → Watches (data_got h) (page_watched w p) (said_by f t).fault (said_by f t).task
page_case h w f (tasks.Gives q) p e is clear =
    let P : Page → Type 0 = λ k. Watches (data_got h) (page_watched w k) (said_by f (tasks.Gives q)).fault tasks.Idle in
    subst P (same_page p q e) (gone_watches (data_got h) w f.fault tasks.Idle (is_log_10 q) is.fault is.only
    (λ yes'. let not' = is.aborts yes' in absurd (cc)) refl (λ reset. clear (sym (data_reset h h.waits) ∙ reset)))
page_case h w f (tasks.Sends q) p e is clear =
    let P : Page → Type 0 = λ k. Watches (data_got h) (page_watched w k) (said_by f (tasks.Sends q)).fault (tasks.Owes replies.Done) in
    subst P (same_page p q e) (gone_watches (data_got h) w f.fault (tasks.Owes replies.Done) (is_log_10 q) is.fault is.only
    (λ yes'. let not' = is.aborts yes' in absurd (cc)) refl (λ reset. clear (sym (data_reset h h.waits) ∙ reset)))
page_case h w f t p e is clear = absurd (cc)

pub page_watches : (h : Host) (w : Watch) (f : Front) (s : AsideStage) (l : Line) (p : Page) → owed f.task ≡ Some (owe.Page p) → Tracks h f s l → WatchesOf h w f
    → WatchesOf (data_got h) (page_watched w p) (said_by f f.task)
page_watches h w f s l p e tracks is = page_case h w f f.task p e is (owed_clear h f s l _ tracks e)

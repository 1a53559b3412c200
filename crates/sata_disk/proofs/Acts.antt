-- What becomes of the commands may be done.
use Rattle.std.proofs.Common.{◌≡◌, ℕ, ◌+◌, ◌≤◌, true, false, Some, None, refl, sym, subst}
use Rattle.std.specs.Prelude.{Option, Bool, if◌then◌else◌}
use Rattle.ata_reply.specs.declared.reply.Reply.TheVariants as reply
use Rattle.block_command.specs.declared.command.Command.{Command}
use Rattle.block_engine.specs.declared.aside.AsideStage.{AsideStage}
use Rattle.block_engine.specs.declared.aside.AsideStage.TheVariants as stages
use Rattle.ata_command.specs.{Asks.{DiskFacts, IsAsked}, Courses.course, declared.asked.{Asked.Asked, PowerTask.PowerTask, SmartTask.SmartTask}}
use Rattle.ata_command.specs.declared.{asked.{Move.Move, Refusal.Refusal}, control.Course.{Course, TheVariants.{Drop, Refuse, AbortAll, Take}}}
use Rattle.ata_command.specs.declared.settings.Setting.{Setting}
use Rattle.ata_command.specs.declared.asked.Asked.TheVariants as ask
use Rattle.ata_command.specs.declared.asked.PowerTask.TheVariants as power
use Rattle.ata_command.specs.declared.asked.SmartTask.TheVariants as smart
use Rattle.ata_command.specs.declared.control.Standing.TheVariants as stand
use Rattle.ata_command.specs.declared.settings.Setting.TheVariants as set
use Rattle.ata_front.specs.Fronts.{IsOf, MayTake, commanded, commanded_by, controlled, refused_by, set_by, standing_by, taken, taken_power}
use Rattle.ata_front.specs.{Fronts.task_of_smart, declared.{front.{Front.Front, Heard.Heard}, task.{Act.Act, Fault.Fault, Page.Page, Task.Task}}}
use Rattle.ata_front.specs.declared.task.Task.TheVariants.{Idle, Owes, Moves, Waits, Announces, Gives, Sends, Activates, Expects}
use Rattle.ata_front.specs.declared.task.Act.TheVariants as act
use Rattle.sata_disk.specs.{State.IsBeside, Hearing.{MayAct, TakesWithin}}

-- ## Where a command is heard, nothing is under way beside the queue

is_single : (t : Task) (fault : Option Fault) (tags : ℕ) (a : Asked) (s : AsideStage) → (course a (standing_by t fault tags) ≡ Drop → ⊥) → IsBeside t s
    → s ≡ stages.Idle
is_single Idle fault tags a s heard beside = beside
is_single (Owes r) fault tags a s heard beside = beside
is_single (Moves m) fault tags a s heard beside = beside
is_single (Waits p) fault tags a s heard beside = absurd (heard refl)
is_single (Announces p) fault tags a s heard beside = beside
is_single (Gives p) fault tags a s heard beside = beside
is_single (Sends p) fault tags a s heard beside = beside
is_single (Activates n) fault tags a s heard beside = beside
is_single (Expects n) fault tags a s heard beside = beside

is_idle : (reset : Bool) (t : Task) (fault : Option Fault) (tags : ℕ) (a : Asked) (s : AsideStage)
    → (course a (if reset then stand.Reset else standing_by t fault tags) ≡ Drop → ⊥) → IsBeside t s → s ≡ stages.Idle
is_idle true t fault tags a s heard beside = absurd (heard refl)
is_idle false t fault tags a s heard beside = is_single t fault tags a s heard beside

-- ## A command that is taken

moves_beside : (m : Move) (s : AsideStage) (b : Bool) → s ≡ stages.Idle
    → IsBeside (if b then Owes reply.Accepted else Moves (record { wide = m.wide; left = m.command.count })) s
moves_beside m s true e = e
moves_beside m s false e = e

abbrev May : AsideStage → Heard → Type 0
May s h = MayAct s h.front.task h.act

set_may : (f : Front) (x : Setting) (s : AsideStage) → s ≡ stages.Idle → May s (set_by f x)
set_may f (set.WriteCache false) s e = (e, tt)
set_may f (set.WriteCache true) s e = e
set_may f (set.LookAhead on) s e = e
set_may f (set.AutoActivate on) s e = e
set_may f (set.Mode mode) s e = e
set_may f (set.Reverts on) s e = e

log_beside : (page : Page) (s : AsideStage) (b : Bool) → s ≡ stages.Idle → IsBeside (if b then Sends page else Announces page) s
log_beside page s true e = e
log_beside page s false e = e

smart_beside : (t : SmartTask) (s : AsideStage) → s ≡ stages.Idle → IsBeside (task_of_smart t) s
smart_beside smart.ReadData s e = e
smart_beside smart.ReadThresholds s e = e
smart_beside smart.Nothing s e = e
smart_beside smart.ReturnStatus s e = e

either_may : (s : AsideStage) (b : Bool) (x y : Heard) → May s x → May s y → May s (if b then x else y)
either_may s true x y m n = m
either_may s false x y m n = n

power_may : (f : Front) (t : PowerTask) (s : AsideStage) → s ≡ stages.Idle → May s (taken_power f t)
power_may f power.Check s e = e
power_may f power.Idle s e = e
power_may f power.Standby s e = either_may s f.settings.write_cache _ _ (e, tt) e

refused_may : (f : Front) (r : Refusal) (tag : Option ℕ) (s : AsideStage) → s ≡ stages.Idle → May s (refused_by f r tag)
refused_may f r None s e = e
refused_may f r (Some tag) s e = tt

taken_may : (d : DiskFacts) (f : Front) (a : Asked) (s : AsideStage) → IsAsked d a → s ≡ stages.Idle → May s (taken f a)
taken_may d f (ask.Moves m) s is e = (is.place, is.is, is.queued, moves_beside m s _ e)
taken_may d f ask.Flushes s is e = (e, tt)
taken_may d f (ask.Sets x) s is e = set_may f x s e
taken_may d f (ask.SetsMultiple m) s is e = e
taken_may d f (ask.Trims blocks) s is e = e
taken_may d f ask.Identifies s is e = e
taken_may d f (ask.ReadsLog p) s is e = log_beside _ s p.dma e
taken_may d f (ask.Smart t) s is e = smart_beside t s e
taken_may d f (ask.Power t) s is e = power_may f t s e
taken_may d f (ask.Refused r) s is e = refused_may f r r.tag s e

course_may : (d : DiskFacts) (f : Front) (a : Asked) (s : AsideStage) (x : Course) → IsAsked d a → IsBeside f.task s
    → ((x ≡ Drop → ⊥) → s ≡ stages.Idle) → May s (commanded_by f a x)
course_may d f a s Drop is beside idle = beside
course_may d f a s Refuse is beside idle = idle (λ e. absurd (cc))
course_may d f a s AbortAll is beside idle = tt
course_may d f a s Take is beside idle = taken_may d f a s is (idle (λ e. absurd (cc)))

pub command_may : (d : DiskFacts) (f : Front) (a : Asked) (tags : ℕ) (s : AsideStage) → IsAsked d a → IsBeside f.task s
    → MayAct s (commanded f a tags).front.task (commanded f a tags).act
command_may d f a tags s is beside = course_may d f a s _ is beside (λ heard. is_idle f.in_reset f.task f.fault tags a s heard beside)

-- ## Resets

control_case : (f : Front) (s : AsideStage) (b : Bool) → f.in_reset ≡ b → IsBeside f.task s → (f.in_reset ≡ true → f.task ≡ Idle)
    → IsBeside (if b then record f { task = Owes reply.Signature; in_reset = false } else f).task s
control_case f s true e beside reset = let P : Task → Type 0 = λ t. IsBeside t s in subst P (reset e) beside
control_case f s false e beside reset = beside

pub control_may : (f : Front) (srst : Bool) (s : AsideStage) → IsBeside f.task s → (f.in_reset ≡ true → f.task ≡ Idle)
    → MayAct s (controlled f srst).front.task (controlled f srst).act
control_may f true s beside reset = tt
control_may f false s beside reset = control_case f s f.in_reset refl beside reset

-- ## While SRST is set nothing is heard

not_reset : (reset : Bool) (t : Task) (fault : Option Fault) (tags : ℕ) (a : Asked)
    → (course a (if reset then stand.Reset else standing_by t fault tags) ≡ Drop → ⊥) → reset ≡ false
not_reset true t fault tags a heard = absurd (heard refl)
not_reset false t fault tags a heard = refl

set_resets : (f : Front) (x : Setting) → (set_by f x).front.in_reset ≡ f.in_reset
set_resets f (set.WriteCache false) = refl
set_resets f (set.WriteCache true) = refl
set_resets f (set.LookAhead on) = refl
set_resets f (set.AutoActivate on) = refl
set_resets f (set.Mode mode) = refl
set_resets f (set.Reverts on) = refl

either_reset : (b : Bool) (x y : Heard) (r : Bool) → x.front.in_reset ≡ r → y.front.in_reset ≡ r → (if b then x else y).front.in_reset ≡ r
either_reset true x y r e f = e
either_reset false x y r e f = f

power_resets : (f : Front) (t : PowerTask) → (taken_power f t).front.in_reset ≡ f.in_reset
power_resets f power.Check = refl
power_resets f power.Idle = refl
power_resets f power.Standby = either_reset f.settings.write_cache _ _ _ refl refl

refused_resets : (f : Front) (r : Refusal) (tag : Option ℕ) → (refused_by f r tag).front.in_reset ≡ f.in_reset
refused_resets f r None = refl
refused_resets f r (Some tag) = refl

taken_resets : (f : Front) (a : Asked) → (taken f a).front.in_reset ≡ f.in_reset
taken_resets f (ask.Moves m) = refl
taken_resets f ask.Flushes = refl
taken_resets f (ask.Sets x) = set_resets f x
taken_resets f (ask.SetsMultiple m) = refl
taken_resets f (ask.Trims blocks) = refl
taken_resets f ask.Identifies = refl
taken_resets f (ask.ReadsLog p) = refl
taken_resets f (ask.Smart t) = refl
taken_resets f (ask.Power t) = power_resets f t
taken_resets f (ask.Refused r) = refused_resets f r r.tag

not_here : (f : Front) (x y : Bool) (t : Task) → x ≡ y → y ≡ false → x ≡ true → t ≡ Idle
not_here f x y t e clear is = absurd (cc)

course_reset : (f : Front) (a : Asked) (x : Course) → (f.in_reset ≡ true → f.task ≡ Idle) → ((x ≡ Drop → ⊥) → f.in_reset ≡ false)
    → (commanded_by f a x).front.in_reset ≡ true → (commanded_by f a x).front.task ≡ Idle
course_reset f a Drop idle clear is = idle is
course_reset f a Refuse idle clear is = not_here f _ _ _ refl (clear (λ e. absurd (cc))) is
course_reset f a AbortAll idle clear is = not_here f _ _ _ refl (clear (λ e. absurd (cc))) is
course_reset f a Take idle clear is = not_here f _ _ _ (taken_resets f a) (clear (λ e. absurd (cc))) is

pub command_reset : (f : Front) (a : Asked) (tags : ℕ) → (f.in_reset ≡ true → f.task ≡ Idle)
    → (commanded f a tags).front.in_reset ≡ true → (commanded f a tags).front.task ≡ Idle
command_reset f a tags idle is = course_reset f a _ idle (λ heard. not_reset f.in_reset f.task f.fault tags a heard) is

cleared_case : (f : Front) (b : Bool) → (f.in_reset ≡ true → f.task ≡ Idle) → f.in_reset ≡ b
    → (if b then record f { task = Owes reply.Signature; in_reset = false } else f).in_reset ≡ true
    → (if b then record f { task = Owes reply.Signature; in_reset = false } else f).task ≡ Idle
cleared_case f true idle e is = absurd (cc)
cleared_case f false idle e is = idle is

pub control_reset : (f : Front) (srst : Bool) → (f.in_reset ≡ true → f.task ≡ Idle)
    → (controlled f srst).front.in_reset ≡ true → (controlled f srst).front.task ≡ Idle
control_reset f true idle is = refl
control_reset f false idle is = cleared_case f f.in_reset idle refl is

-- ## What is taken is there

moves_within : (d : DiskFacts) (a : Asked) (c : Command) → IsAsked d a → IsOf a c → c.lba + c.count ≤ d.sectors
moves_within d (ask.Moves m) c is of' = let P : Command → Type 0 = λ k. k.lba + k.count ≤ d.sectors in subst P (sym of') is.within
moves_within d a c is of' = absurd of'

pub takes_within : (d : DiskFacts) (a : Asked) (x : Act) → IsAsked d a → MayTake x a → TakesWithin d.sectors x
takes_within d a (act.Takes c) is may = moves_within d a c is may
takes_within d a other is may = tt

pub control_takes : (n : ℕ) (f : Front) (srst : Bool) → TakesWithin n (controlled f srst).act
control_takes n f true = tt
control_takes n f false = tt

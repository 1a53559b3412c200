-- What a FIS of the commands that was sent keeps of a disk.
use Rattle.std.proofs.Common.{◌≡◌, ℕ, ◌<◌, true, false, refl, sym, ◌∙◌, subst, arith}
use Rattle.std.specs.Prelude.{Bool}
use Rattle.block_scheduler.specs.Schedule.{ends_sent}
use Rattle.block_engine.specs.{declared.aside.AsideStage.AsideStage, Engine.{EngineState, on_line}}
use Rattle.block_engine.specs.declared.aside.AsideStage.TheVariants as stages
use Rattle.ata_front.specs.{Fronts.{queued_failed, task_less}, declared.{front.Front.Front, task.Task.{Task, TheVariants.{Idle, Moves}}}}
use Rattle.ata_front.specs.declared.task.Trouble.{Trouble}
use Rattle.sata_disk.specs.{State.{DiskState, IsBeside, IsDisk, commands, sectors_of}, Sending.{place_sent, single_front}}
use Rattle.sata_disk.proofs.Within.{ends_within, sent_within}

less_beside : (t : Task) (b : Bool) (n : ℕ) (s : AsideStage) → s ≡ stages.Idle → IsBeside (task_less t b n) s
less_beside (Moves m) false n s e = e
less_beside t b n s e = e

single_beside : (f : Front) (t : Task) (b : Bool) (n : ℕ) (s : AsideStage) → f.task ≡ t → IsBeside f.task s → IsBeside (single_front f t b n).task s
single_beside f (Moves m) b n s e is = let P : Task → Type 0 = λ t. IsBeside t s in less_beside f.task b n s (subst P e is)
single_beside f t b n s e is = is

single_reset : (f : Front) (t : Task) (b : Bool) (n : ℕ) → f.task ≡ t → (f.in_reset ≡ true → f.task ≡ Idle) → (single_front f t b n).in_reset ≡ true
    → (single_front f t b n).task ≡ Idle
single_reset f (Moves m) b n e reset on = absurd (let idle = sym e ∙ reset on in cc)
single_reset f t b n e reset on = reset on

pub record FrontFits (d : DiskState) (f : Front) : Type 0 where
  pub beside : IsBeside f.task d.engine.stage
  pub reset : f.in_reset ≡ true → f.task ≡ Idle

pub ends_keep : (d : DiskState) (new : EngineState) → IsDisk d → new ≡ on_line d.engine (ends_sent (commands d) 32) → IsDisk (record d { engine = new })
ends_keep d new is e =
    let P : EngineState → Type 0 = λ x. IsDisk (record d { engine = x }) in
    subst P (sym e) (record {
      fault = is.fault;
      beside = is.beside;
      reset = is.reset;
      within = record { commands = ends_within (sectors_of d) (commands d) 32 (omega arith) is.within.commands; ranges = is.within.ranges };
    })

pub fits_failed : (d : DiskState) (f : Front) (p : ℕ) (t : Trouble) → IsDisk d → f ≡ queued_failed d.front p t → FrontFits d f
fits_failed d f p t is e = let P : Front → Type 0 = λ x. FrontFits d x in subst P (sym e) (record { beside = is.beside; reset = is.reset })

pub fits_same : (d : DiskState) (f : Front) → IsDisk d → f ≡ d.front → FrontFits d f
fits_same d f is e = let P : Front → Type 0 = λ x. FrontFits d x in subst P (sym e) (record { beside = is.beside; reset = is.reset })

pub fits_single : (d : DiskState) (f : Front) (b : Bool) (n : ℕ) → IsDisk d → f ≡ single_front d.front d.front.task b n → FrontFits d f
fits_single d f b n is e =
    let P : Front → Type 0 = λ x. FrontFits d x in
    subst P (sym e) (record {
      beside = single_beside d.front d.front.task b n d.engine.stage refl is.beside;
      reset = single_reset d.front d.front.task b n refl is.reset;
    })

pub command_keeps : (d : DiskState) (f : Front) (new : EngineState) (p : ℕ) → p < 33 → IsDisk d → FrontFits d f → new ≡ place_sent d.engine p
    → IsDisk (record { profile = d.profile; front = f; engine = new })
command_keeps d f new p here is fits e =
    let P : EngineState → Type 0 = λ x. IsDisk (record { profile = d.profile; front = f; engine = x }) in
    subst P (sym e) (record {
      fault = refl;
      beside = fits.beside;
      reset = fits.reset;
      within = record { commands = sent_within (sectors_of d) d.engine p here is.within.commands; ranges = is.within.ranges };
    })

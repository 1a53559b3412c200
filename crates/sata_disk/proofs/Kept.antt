-- What each call keeps of a disk.
use Rattle.std.proofs.Common.{◌≡◌, ℕ, zero, suc, ◌*◌, ◌/◌, ◌<◌, true, false, List, length, map, Some, None, refl, sym, ap, ◌∙◌, subst, arith}
use Rattle.std.proofs.lemmas.List.Elements.{All-nil}
use Rattle.std.specs.{Prelude.{Option, Bool, ◌==◌, IfSome, IfOk, Result, Ok, Err, OnOk, OnErr, if◌then◌else◌}, List.All}
use Rattle.std.specs.declared.alloc.AllocError.{AllocError}
use Rattle.block_command.specs.{declared.answer.AnswerError.AnswerError, Laws.{Input, Comes, Fails, Loads}}
use Rattle.block_queue.specs.Line.{Line, awaits, first_below, line_answered, or_this}
use Rattle.block_queue.proofs.Door.{of_and}
use Rattle.block_scheduler.specs.Schedule.{with_line}
use Rattle.block_engine.specs.declared.{aside.{AsideKind.TheVariants.Discard, AsideStage.AsideStage}, request.{Answer.Answer, Failure.Failure}}
use Rattle.block_engine.specs.{declared.request.{Range.Range, Request.Request}, Aside.{asks_for, is_waiting, settled}, Engine.EngineState}
use Rattle.block_engine.specs.Engine.{IsAskedOf, IsEngineStart, IsRequested, answered, aside_taken, done_at, done_of, failed_by, failed_own, line}
use Rattle.block_engine.specs.Engine.{loaded_at, place_of, started}
use Rattle.block_engine.specs.declared.aside.AsideStage.TheVariants as stages
use Rattle.block_engine.specs.declared.request.Answer.TheVariants as answers
use Rattle.ata_command.specs.Trims.{extents_in, is_past_in}
use Rattle.ata_front.specs.{Fronts.{after_discard, heard_data}, declared.{front.Front.Front, task.{Act.Act, Task.{Task, TheVariants.{Idle, Owes}}}}}
use Rattle.ata_front.specs.declared.task.Task.TheVariants.{Moves, Waits, Announces, Gives, Sends, Activates, Expects}
use Rattle.ata_front.specs.declared.task.Act.TheVariants as act
use Rattle.disk_pages.specs.{Profiles.facts_of, declared.profile.Profile.Profile}
use Rattle.sata_disk.specs.State.{AreWithin, DiskState, IsBeside, IsDisk, IsWithin, data_place, has_link, new_disk, or_single, sectors_of}
use Rattle.sata_disk.specs.Hearing.{MayAct, TakesWithin, came_for, discarding, engine_acted, range_of, ranges_of, unless_past}
use Rattle.sata_disk.proofs.Within.{answered_within, gone_within, input_within, none_within, ranges_within, reset_within, taken_within}

-- ## What becomes of the commands

abbrev acting : DiskState → Front → Act → DiskState
acting d f a = record { profile = d.profile; front = f; engine = engine_acted d.engine a }

-- where nothing is under way beside the queue, any task may stand
at_rest : (t : Task) → IsBeside t stages.Idle
at_rest (Waits p) = tt
at_rest Idle = refl
at_rest (Owes r) = refl
at_rest (Moves m) = refl
at_rest (Announces p) = refl
at_rest (Gives p) = refl
at_rest (Sends p) = refl
at_rest (Activates n) = refl
at_rest (Expects n) = refl

act_within : (n : ℕ) (e : EngineState) (a : Act) → TakesWithin n a → AreWithin n e → AreWithin n (engine_acted e a)
act_within n e act.Nothing may within = within
act_within n e (act.Takes c) may within = record { commands = taken_within n (line e) c may within.commands; ranges = within.ranges }
act_within n e act.Flushes may within = record { commands = within.commands; ranges = within.ranges }
act_within n e act.Resets may within = record { commands = reset_within n (line e); ranges = within.ranges }

act_case : (d : DiskState) (f : Front) (a : Act) → IsDisk d → MayAct d.engine.stage f.task a → (f.in_reset ≡ true → f.task ≡ Idle)
    → AreWithin (sectors_of d) (engine_acted d.engine a) → IsDisk (acting d f a)
act_case d f act.Nothing is may reset within = record { fault = is.fault; beside = may; reset = reset; within = within }
act_case d f (act.Takes c) is may reset within = record { fault = is.fault; beside = may.3; reset = reset; within = within }
act_case d f act.Flushes is may reset within = record { fault = is.fault; beside = may.1; reset = reset; within = within }
act_case d f act.Resets is may reset within = record { fault = refl; beside = at_rest f.task; reset = reset; within = within }

pub acts : (d : DiskState) (f : Front) (a b : Act) (new : EngineState) → IsDisk d → MayAct d.engine.stage f.task a → (f.in_reset ≡ true → f.task ≡ Idle)
    → TakesWithin (sectors_of d) a → a ≡ b → new ≡ engine_acted d.engine b → IsDisk (record { profile = d.profile; front = f; engine = new })
acts d f a b new is may reset takes same e =
    let P : EngineState → Type 0 = λ x. IsDisk (record { profile = d.profile; front = f; engine = x }) in
    let Q : Act → Type 0 = λ x. MayAct d.engine.stage f.task x in
    let R : Act → Type 0 = λ x. TakesWithin (sectors_of d) x in
    subst P (sym e) (act_case d f b is (subst Q same may) reset (act_within (sectors_of d) d.engine b (subst R same takes) is.within))

-- ## Answers

not_asked : (s : AsideStage) (number : ℕ) (new : AsideStage) → asks_for s number ≡ true → s ≡ stages.Idle → new ≡ stages.Idle
not_asked s number new e is = absurd (let none = ap (λ x. asks_for x number) is in cc)

beside_asked : (t : Task) (s : AsideStage) (number : ℕ) (new : AsideStage) → asks_for s number ≡ true → IsBeside t s → IsBeside t new
beside_asked (Waits p) s number new e is = tt
beside_asked Idle s number new e is = not_asked s number new e is
beside_asked (Owes r) s number new e is = not_asked s number new e is
beside_asked (Moves m) s number new e is = not_asked s number new e is
beside_asked (Announces p) s number new e is = not_asked s number new e is
beside_asked (Gives p) s number new e is = not_asked s number new e is
beside_asked (Sends p) s number new e is = not_asked s number new e is
beside_asked (Activates n) s number new e is = not_asked s number new e is
beside_asked (Expects n) s number new e is = not_asked s number new e is

settle_case : (d : DiskState) (number : ℕ) (well b : Bool) (failures : List (Option Failure)) → asks_for d.engine.stage number ≡ b → IsDisk d
    → IsDisk (record d { engine = record (if b then record d.engine { stage = settled well } else record d.engine { dropped = None }) { failures = failures } })
settle_case d number well true failures e is =
    record { fault = is.fault; beside = beside_asked d.front.task d.engine.stage number (settled well) e is.beside; reset = is.reset; within = record { commands = is.within.commands; ranges = is.within.ranges } }
settle_case d number well false failures e is = record { fault = is.fault; beside = is.beside; reset = is.reset; within = record { commands = is.within.commands; ranges = is.within.ranges } }

done_case : (d : DiskState) (number : ℕ) (well b : Bool) → asks_for d.engine.stage number ≡ b → IsDisk d
    → IsDisk (record d { engine = if b then record d.engine { stage = settled well } else record d.engine { dropped = None } })
done_case d number well true e is =
    record { fault = is.fault; beside = beside_asked d.front.task d.engine.stage number (settled well) e is.beside; reset = is.reset; within = record { commands = is.within.commands; ranges = is.within.ranges } }
done_case d number well false e is = record { fault = is.fault; beside = is.beside; reset = is.reset; within = record { commands = is.within.commands; ranges = is.within.ranges } }

low_case : (x : Option ℕ) (n : ℕ) (b : Bool) → IfSome x (λ p. p < n) → IfSome (or_this x (if b then Some n else None)) (λ p. p < suc n)
low_case None n true low = omega arith
low_case None n false low = tt
low_case (Some p) n b low = omega (arith, low)

first_low : (test : ℕ → Bool) (n : ℕ) → IfSome (first_below test n) (λ p. p < n)
unfolding first_below
first_low test zero = tt
first_low test (suc n) = low_case (first_below test n) n (test n) (first_low test n)

-- an answer to the command of a place
place_within : (n : ℕ) (e : EngineState) (p number : ℕ) (i : Input) (failures : List (Option Failure)) → p < 33 → AreWithin n e
    → AreWithin n (record e { schedule = with_line e.schedule (line_answered (line e) p number i); failures = failures })
place_within n e p number i failures low within =
    record { commands = answered_within n (line e) p number i low within.commands; ranges = within.ranges }

abbrev IsPlace : Option ℕ → Type 0
IsPlace x = IfSome x (λ p. p < 33)

loaded_keeps : (d : DiskState) (x : Option ℕ) (number : ℕ) (bytes : List ℕ) → IsPlace x → IsDisk d → IsDisk (record d { engine = loaded_at d.engine x number bytes })
loaded_keeps d None number bytes low is = is
loaded_keeps d (Some p) number bytes low is =
    record { fault = is.fault; beside = is.beside; reset = is.reset; within = place_within (sectors_of d) d.engine p number (Loads bytes) _ low is.within }

done_keeps : (d : DiskState) (x : Option ℕ) (number : ℕ) → IsPlace x → IsDisk d → IsDisk (record d { engine = done_at d.engine x number })
done_keeps d None number low is = done_case d number true _ refl is
done_keeps d (Some p) number low is =
    record { fault = is.fault; beside = is.beside; reset = is.reset; within = place_within (sectors_of d) d.engine p number (done_of (line d.engine) p number) _ low is.within }

failed_keeps : (d : DiskState) (x : Option ℕ) (number : ℕ) (f : Failure) → IsPlace x → IsDisk d → IsDisk (record d { engine = failed_by d.engine x number f })
failed_keeps d None number f low is = settle_case d number false _ (failed_own d.engine 32 f (asks_for d.engine.stage number)) refl is
failed_keeps d (Some p) number f low is =
    record { fault = is.fault; beside = is.beside; reset = is.reset; within = place_within (sectors_of d) d.engine p number Fails _ low is.within }

answer_keeps : (d : DiskState) (number : ℕ) (a : Answer) → IsDisk d → IsDisk (record d { engine = answered d.engine number a })
answer_keeps d number (answers.Loaded bytes) is = loaded_keeps d (place_of d.engine number) number bytes.items (first_low (awaits (line d.engine) number) 33) is
answer_keeps d number answers.Done is = done_keeps d (place_of d.engine number) number (first_low (awaits (line d.engine) number) 33) is
answer_keeps d number (answers.Failed f) is = failed_keeps d (place_of d.engine number) number f (first_low (awaits (line d.engine) number) 33) is

pub answers_keep : (d : DiskState) (number : ℕ) (a : Answer) (result : Result Unit AnswerError) (new : EngineState) → IsDisk d
    → OnOk result (new ≡ answered d.engine number a) → OnErr result (new ≡ d.engine) → IsDisk (record d { engine = new })
answers_keep d number a (Ok x) new is ok err = let P : EngineState → Type 0 = λ e. IsDisk (record d { engine = e }) in subst P (sym ok) (answer_keeps d number a is)
answers_keep d number a (Err x) new is ok err = let P : EngineState → Type 0 = λ e. IsDisk (record d { engine = e }) in subst P (sym err) is

-- ## Other calls

pub opens : (p : Profile) (limit : ℕ) → IsDisk (new_disk p limit)
opens p limit = record {
  fault = refl;
  beside = refl;
  reset = λ e. absurd (cc);
  within = record { commands = λ q low. none_within (facts_of p).sectors q low; ranges = All-nil (IsWithin (facts_of p).sectors) };
}

start_case : (d : DiskState) (place : Option ℕ) → IsPlace place → IsDisk d → IsDisk (record d { engine = started d.engine place })
start_case d None low is = is
start_case d (Some p) low is = record {
  fault = is.fault;
  beside = is.beside;
  reset = is.reset;
  within = record { commands = gone_within (sectors_of d) (line d.engine) p low is.within.commands; ranges = is.within.ranges };
}

start_low : (e : EngineState) (place : Option ℕ) → IsEngineStart e place → IsPlace place
start_low e None is = tt
start_low e (Some p) is = is.1.0.below

pub starts_keep : (d : DiskState) (result : Result (Option ℕ) AllocError) (new : EngineState) → IsDisk d → IfOk result (λ place. IsEngineStart d.engine place)
    → IfOk result (λ place. new ≡ started d.engine place) → OnErr result (new ≡ d.engine) → IsDisk (record d { engine = new })
starts_keep d (Ok place) new is start ok err =
    let P : EngineState → Type 0 = λ e. IsDisk (record d { engine = e }) in subst P (sym ok) (start_case d place (start_low d.engine place start) is)
starts_keep d (Err x) new is start ok err = let P : EngineState → Type 0 = λ e. IsDisk (record d { engine = e }) in subst P (sym err) is

not_waiting : (s new : AsideStage) → is_waiting s ≡ true → s ≡ stages.Idle → new ≡ stages.Idle
not_waiting s new e is = absurd (let none = ap is_waiting is in cc)

waiting_stays : (t : Task) (s new : AsideStage) → is_waiting s ≡ true → IsBeside t s → IsBeside t new
waiting_stays (Waits p) s new e is = tt
waiting_stays Idle s new e is = not_waiting s new e is
waiting_stays (Owes r) s new e is = not_waiting s new e is
waiting_stays (Moves m) s new e is = not_waiting s new e is
waiting_stays (Announces p) s new e is = not_waiting s new e is
waiting_stays (Gives p) s new e is = not_waiting s new e is
waiting_stays (Sends p) s new e is = not_waiting s new e is
waiting_stays (Activates n) s new e is = not_waiting s new e is
waiting_stays (Expects n) s new e is = not_waiting s new e is

asked_case : (d : DiskState) (new : EngineState) (r : Request) (place : Option ℕ) → IsDisk d → IsAskedOf d.engine new r place → IsDisk (record d { engine = new })
asked_case d new r None is asked =
    let P : EngineState → Type 0 = λ e. IsDisk (record d { engine = e }) in
    subst P (sym asked.2) (record {
      fault = is.fault;
      beside = waiting_stays d.front.task d.engine.stage _ (of_and _ _ (of_and _ _ asked.1).0).0 is.beside;
      reset = is.reset;
      within = record { commands = is.within.commands; ranges = is.within.ranges };
    })
asked_case d new r (Some p) is asked =
    let P : EngineState → Type 0 = λ e. IsDisk (record d { engine = e }) in
    subst P (sym asked.1) (record {
      fault = is.fault;
      beside = is.beside;
      reset = is.reset;
      within = record { commands = gone_within (sectors_of d) (line d.engine) p asked.0.below is.within.commands; ranges = is.within.ranges };
    })

pub requests_keep : (d : DiskState) (new : EngineState) (r : Option Request) → IsDisk d → IsRequested d.engine new r → IsDisk (record d { engine = new })
requests_keep d new None is asked = let P : EngineState → Type 0 = λ e. IsDisk (record d { engine = e }) in subst P (sym asked.0) is
requests_keep d new (Some r) is asked = asked_case d new r r.place is asked.1

-- ## The ranges of a DATA SET MANAGEMENT

abbrev pub RangesWithin : (sectors : ℕ) → Option (List Range) → Type 0
RangesWithin n None = Unit {0}
RangesWithin n (Some ranges) = All (IsWithin n) ranges

whole_ranges : (n : ℕ) (x : Option (List Range)) (b : Bool) → RangesWithin n x → RangesWithin n (if b then x else None)
whole_ranges n x true within = within
whole_ranges n x false within = tt

there_ranges : (n : ℕ) (bytes : List ℕ) (k : ℕ) (b : Bool) → is_past_in bytes n k ≡ b → RangesWithin n (if b then None else Some (map range_of (extents_in bytes k)))
there_ranges n bytes k true past = tt
there_ranges n bytes k false past = ranges_within bytes n k past

pub named_within : (blocks n : ℕ) (bytes : List ℕ) → RangesWithin n (ranges_of blocks n bytes)
named_within blocks n bytes = whole_ranges n (unless_past n bytes) (length bytes == blocks * 512) (there_ranges n bytes (length bytes / 8) _ refl)

heard_rest : (t : Task) (s : AsideStage) (blocks : ℕ) → heard_data t ≡ Some blocks → IsBeside t s → s ≡ stages.Idle
heard_rest (Expects n) s blocks e is = is
heard_rest t s blocks e is = absurd (cc)

heard_busy : (t : Task) (blocks : ℕ) (P : Type 0) → heard_data t ≡ Some blocks → t ≡ Idle → P
heard_busy t blocks P e idle = absurd (let none = ap heard_data (sym idle) ∙ e in cc)

discard_case : (d : DiskState) (blocks : ℕ) (x : Option (List Range)) → heard_data d.front.task ≡ Some blocks → IsDisk d → RangesWithin (sectors_of d) x
    → IsDisk (discarding d x)
discard_case d blocks None heard is within = record {
  fault = is.fault;
  beside = heard_rest d.front.task d.engine.stage blocks heard is.beside;
  reset = λ on. heard_busy d.front.task blocks _ heard (is.reset on);
  within = is.within;
}
discard_case d blocks (Some ranges) heard is within = record {
  fault = is.fault;
  beside = tt;
  reset = λ on. heard_busy d.front.task blocks _ heard (is.reset on);
  within = record { commands = is.within.commands; ranges = within };
}

pub ranges_keep : (d : DiskState) (f : Front) (new : EngineState) (blocks : ℕ) (bytes : List ℕ) (ranges : List Range) → IsDisk d
    → heard_data d.front.task ≡ Some blocks → f ≡ after_discard d.front true → ranges_of blocks (sectors_of d) bytes ≡ Some ranges
    → new ≡ aside_taken d.engine Discard ranges → IsDisk (record { profile = d.profile; front = f; engine = new })
ranges_keep d f new blocks bytes ranges is heard front named e =
    let P : EngineState → Type 0 = λ x. IsDisk (record { profile = d.profile; front = f; engine = x }) in
    let Q : Front → Type 0 = λ x. IsDisk (record { profile = d.profile; front = x; engine = aside_taken d.engine Discard ranges }) in
    let R : Option (List Range) → Type 0 = λ x. RangesWithin (sectors_of d) x in
    subst P (sym e) (subst Q (sym front) (discard_case d blocks (Some ranges) heard is (subst R named (named_within blocks (sectors_of d) bytes))))

-- ## Data

place_low : (l : Line) → data_place l < 33
unfolding data_place
place_low l = or_low (first_below (has_link l) 32) (first_low (has_link l) 32)
  where
    or_low : (x : Option ℕ) → IfSome x (λ p. p < 32) → or_single x < 33
    or_low None low = omega arith
    or_low (Some p) low = omega (arith, low)

pub came_keeps : (d : DiskState) (new : EngineState) (bytes : List ℕ) → IsDisk d → new ≡ came_for d.engine (data_place (line d.engine)) bytes
    → IsDisk (record d { engine = new })
came_keeps d new bytes is e =
    let P : EngineState → Type 0 = λ x. IsDisk (record d { engine = x }) in
    subst P (sym e) (record {
      fault = is.fault;
      beside = is.beside;
      reset = is.reset;
      within = record {
        commands = input_within (sectors_of d) (line d.engine) (data_place (line d.engine)) (Comes bytes) (place_low (line d.engine)) is.within.commands;
        ranges = is.within.ranges;
      };
    })

pub bytes_keep : (d : DiskState) (result : Result Bool AllocError) (new : EngineState) (bytes : List ℕ) → IsDisk d
    → OnOk result (new ≡ came_for d.engine (data_place (line d.engine)) bytes) → OnErr result (new ≡ d.engine) → IsDisk (record d { engine = new })
bytes_keep d (Ok x) new bytes is ok err = came_keeps d new bytes is ok
bytes_keep d (Err x) new bytes is ok err = let P : EngineState → Type 0 = λ e. IsDisk (record d { engine = e }) in subst P (sym err) is

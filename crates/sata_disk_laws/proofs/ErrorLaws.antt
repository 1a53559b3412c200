-- While an error stands, commands are aborted and the log tells of it.
use Rattle.std.proofs.{Common.{◌≡◌, ℕ, ◌<◌, ◌⊎◌, true, false, drop, Some, None, refl, sym, ap, ◌∙◌, subst, arith, inl, inr}, lemmas.Bool.cases_lt}
use Rattle.std.specs.{Prelude.{Option, Bool}, Option.is_some}
use Rattle.block_command.specs.{declared.command.Stage.{Stage, TheVariants.Ended}, Moments.{Moment, turn_of}}
use Rattle.block_disk.specs.{Table.is_under_way, Requests.{asks_at, is_request}}
use Rattle.block_queue.specs.Line.{Line, command_at, has_bit, may_start_at, starts}
use Rattle.block_queue.proofs.Door.{of_and}
use Rattle.block_scheduler.specs.{Sets.{IsTagsOf, ends_at, is_end, turn_at}, Schedule.IsNextFis}
use Rattle.block_scheduler.specs.declared.scheduler.NextFis.TheVariants as fis
use Rattle.block_engine.specs.{declared.{aside.AsideStage.AsideStage, request.Request.Request}, Aside.is_waiting, Engine.{EngineState, IsAskedOf}}
use Rattle.block_engine.specs.declared.aside.AsideStage.TheVariants as stages
use Rattle.block_engine.specs.Laws as engine
use Rattle.ata_reply.specs.declared.reply.Reply.{Reply}
use Rattle.ata_front.specs.{Fronts.{aborted, is_log_10, owed, page_announced}, declared.task.{Fault.Fault, Page.Page, Task.Task}}
use Rattle.ata_front.specs.declared.task.Owed.TheVariants as owe
use Rattle.ata_front.specs.declared.task.Task.TheVariants as tasks
use Rattle.disk_pages.specs.declared.log.LogPage as log
use Rattle.sata_disk.specs.{State.{DiskState, IsBeside, commands, is_taken}, Pages.{IsErrorLog, IsLog}, Sending.IsOut, declared.out.Out.Out}
use Rattle.sata_disk.specs.declared.out.Out.TheVariants as out
use Rattle.sata_disk_laws.specs.{Laws.reached, Once.{ForNothing, Host, Wait, host_of, new_host, waits_for_nothing}, Errors.AbortedUntilRead}
use Rattle.sata_disk_laws.specs.Errors.{IsOfError, LogTellsOfFailure, Watch, or_fault, watch_in}
use Rattle.sata_disk_laws.proofs.{Answered.Knows, Calls.{known, sent_is}, Commands.owes_waits, Owed.not_over, Tracks.WaitsAs, Watched.watches_in}
use Rattle.sata_disk_laws.proofs.Watching.{FaultAs, ForError, OwesFault, WatchesOf, not_both, same_page, same_reply}

-- ## A command is aborted

aborted_next : (d : DiskState) (o : Option Out) → d.front.task ≡ tasks.Owes aborted → IsOut d o → o ≡ Some (out.Own aborted)
aborted_next d (Some (out.Own r)) task is = ap (λ x. Some (out.Own x)) (sym (same_reply r aborted (ap owed (sym task) ∙ is)))
aborted_next d (Some (out.Page p)) task is = let owes = ap owed (sym task) ∙ is in absurd (cc)
aborted_next d other task is = let owes = ap owed (sym task) ∙ is.0 in absurd (cc)

-- ## Nothing is under way while an error stands

still_some : (s other x : Option Fault) → x ≡ or_fault s other → is_some s ≡ true → is_some x ≡ true
still_some None other x e some = absurd (cc)
still_some (Some f) other x e some = ap is_some e

some_fault : (wait : Wait) (beside : Bool) (stands x : Option Fault) (r : Reply) → r ≡ aborted → OwesFault wait beside stands x r → is_some stands ≡ true → is_some x ≡ true
some_fault wait beside stands x r same as' some =
    let P : Reply → Type 0 = λ k. OwesFault wait beside stands x k in still_some stands _ x (subst P same as') some

faulty_is : (wait : Wait) (beside : Bool) (stands x : Option Fault) (t : Task) → ForError t → FaultAs wait beside stands x t → is_some stands ≡ true → is_some x ≡ true
faulty_is wait beside stands x tasks.Idle for' as' some = ap is_some as' ∙ some
faulty_is wait beside stands x (tasks.Owes r) for' as' some = some_fault wait beside stands x r for' as' some
faulty_is wait beside stands x (tasks.Announces p) for' as' some = ap is_some as' ∙ some
faulty_is wait beside stands x (tasks.Gives p) for' as' some = ap is_some as' ∙ some
faulty_is wait beside stands x (tasks.Sends p) for' as' some = ap is_some as' ∙ some
faulty_is wait beside stands x t for' as' some = absurd for'

single_none : (h : Host) (t : Task) (x : Option Moment) → ForError t → WaitsAs h t x → is_under_way x ≡ false
single_none h tasks.Idle x for' w = w.2
single_none h (tasks.Owes r) x for' w = w.1
single_none h (tasks.Announces p) x for' w = w.1
single_none h (tasks.Gives p) x for' w = w.2
single_none h (tasks.Sends p) x for' w = w.1
single_none h t x for' w = absurd for'

at_rest : (t : Task) (s : AsideStage) → ForError t → IsBeside t s → s ≡ stages.Idle
at_rest tasks.Idle s for' b = b
at_rest (tasks.Owes r) s for' b = b
at_rest (tasks.Announces p) s for' b = b
at_rest (tasks.Gives p) s for' b = b
at_rest (tasks.Sends p) s for' b = b
at_rest t s for' b = absurd for'

record Nothing (d : DiskState) : Type 0 where
  pub places : (p : ℕ) → p < 33 → is_taken (commands d) p ≡ false
  pub stage : d.engine.stage ≡ stages.Idle
  pub task : ForError d.front.task

nothing_is : (h : Host) (w : Watch) (d : DiskState) → Knows h d → WatchesOf h w d.front → is_some w.fault ≡ true → Nothing d
nothing_is h w d knows is some =
    let for' = is.only some in
    let none = knows.faulty (faulty_is h.waits w.beside w.fault d.front.fault d.front.task for' is.fault some) in
    record {
      places = λ p low. elim (cases_lt p 32) [
        | inl below ↦ none p below
        | inr high ↦ let same : p ≡ 32 = omega (arith, low, high) in
            ap (is_taken (commands d)) same ∙ single_none h d.front.task (command_at (commands d) 32) for' knows.waits
      ];
      stage = at_rest d.front.task d.engine.stage for' knows.beside;
      task = for';
    }

owed_reply : (t : Task) (r : Reply) → ForError t → owed t ≡ Some (owe.Reply r) → (r ≡ aborted) ⊎ (r ≡ page_announced)
owed_reply (tasks.Owes q) r for' e = inl (sym (same_reply r q e) ∙ for')
owed_reply (tasks.Announces p) r for' e = inr (sym (same_reply r _ e))
owed_reply tasks.Idle r for' e = absurd (cc)
owed_reply (tasks.Gives p) r for' e = absurd (cc)
owed_reply (tasks.Sends p) r for' e = absurd (cc)
owed_reply t r for' e = absurd for'

owed_page : (t : Task) (p : Page) → ForError t → owed t ≡ Some (owe.Page p) → is_log_10 p ≡ true
owed_page (tasks.Gives q) p for' e = ap is_log_10 (sym (same_page p q e)) ∙ for'
owed_page (tasks.Sends q) p for' e = ap is_log_10 (sym (same_page p q e)) ∙ for'
owed_page tasks.Idle p for' e = absurd (cc)
owed_page (tasks.Owes q) p for' e = absurd (cc)
owed_page (tasks.Announces q) p for' e = absurd (cc)
owed_page t p for' e = absurd for'

ended_case : (m : Moment) (stage : Stage) → m.stage ≡ stage → is_under_way (Some (record m { stage = stage })) ≡ false → is_end (turn_of stage) ≡ false
ended_case m Ended same e = refl
ended_case m stage same e = absurd (cc)

no_end : (x : Option Moment) → is_under_way x ≡ false → is_end (turn_at x) ≡ false
no_end None e = refl
no_end (Some m) e = ended_case m m.stage refl e

tags_are : (l : Line) (w : Option ℕ) (tags : ℕ) → IsNextFis l w (Some (fis.Ends tags)) → IsTagsOf tags (ends_at l)
tags_are l None tags is = is.0
tags_are l (Some h) tags is = absurd is

no_tags : (d : DiskState) (tags : ℕ) → Nothing d → IsOut d (Some (out.Ends tags)) → (t : ℕ) → t < 32 → has_bit tags t ≡ false
no_tags d tags none is = λ t low. tags_are (commands d) _ tags is.1.1 t low ∙ no_end (command_at (commands d) t) (none.places t (omega (arith, low)))

only_error : (d : DiskState) (o : Option Out) → Nothing d → IsOut d o → IsOfError o
only_error d None none is = tt
only_error d (Some (out.Own r)) none is = owed_reply d.front.task r none.task is
only_error d (Some (out.Page p)) none is = owed_page d.front.task p none.task is
only_error d (Some (out.Beside r)) none is = not_over d.engine.stage _ (of_and _ _ is.1).0 none.stage
only_error d (Some (out.Ends tags)) none is = no_tags d tags none is
only_error d (Some (out.Of p r)) none is =
    let x = sent_is d p (out.Of p r) is in not_both _ _ (none.places p is.2.0) (ap is_under_way x.1.there ∙ x.1.alive)
only_error d (Some (out.Data p n)) none is =
    let x = sent_is d p (out.Data p n) is in not_both _ _ (none.places p is.2.0) (ap is_under_way x.1.there ∙ x.1.alive)

-- ## Nothing starts, and nothing is asked

start_stage : (m : Moment) (stage : Stage) → m.stage ≡ stage → starts (turn_of stage) ≡ true → is_under_way (Some (record m { stage = stage })) ≡ true
start_stage m Ended same e = absurd (cc)
start_stage m stage same e = refl

start_way : (l : Line) (p : ℕ) (x : Option Moment) → may_start_at l p x ≡ true → is_under_way x ≡ true
start_way l p None e = absurd (cc)
start_way l p (Some m) e = start_stage m m.stage refl (of_and _ _ e).0

asks_stage : (m : Moment) (stage : Stage) → m.stage ≡ stage → is_request (turn_of stage) ≡ true → is_under_way (Some (record m { stage = stage })) ≡ true
asks_stage m Ended same e = absurd (cc)
asks_stage m stage same e = refl

asks_way : (x : Option Moment) → asks_at x ≡ true → is_under_way x ≡ true
asks_way None e = absurd (cc)
asks_way (Some m) e = asks_stage m m.stage refl e

no_request : (d : DiskState) (new : EngineState) (r : Request) (x : Option ℕ) → Nothing d → IsAskedOf d.engine new r x → ⊥
no_request d new r None none is =
    let waits = (of_and _ _ (of_and _ _ is.1).0).0 in
    let idle = ap is_waiting (sym none.stage) ∙ waits in absurd (cc)
no_request d new r (Some p) none is = not_both _ _ (none.places p is.0.below) (asks_way (command_at (commands d) p) is.0.passes)

-- ## Where the host may send a command

idle_fault : (h : Host) (w : Watch) (x : Option Fault) (t : Task) (y : Option Moment) → WaitsAs h t y → FaultAs h.waits w.beside w.fault x t → h.waits ≡ ForNothing → x ≡ w.fault
idle_fault h w x (tasks.Owes r) y waits as' free =
    absurd (let busy = owes_waits h r waits.0 in let none = ap waits_for_nothing free in cc)
idle_fault h w x (tasks.Moves m) y waits as' free = as'.0
idle_fault h w x (tasks.Waits p) y waits as' free = as'.0
idle_fault h w x (tasks.Activates n) y waits as' free = as'.0
idle_fault h w x (tasks.Expects n) y waits as' free = as'.0
idle_fault h w x t y waits as' free = as'

pub aborted_until_read : engine.FailuresAreOwn → AbortedUntilRead
aborted_until_read own p limit calls are =
    let h = host_of new_host calls in
    let w = watch_in p limit calls in
    let d = reached p limit calls in
    let knows = known p limit calls are in
    let is = watches_in own p limit calls are in
    record {
      aborted = λ aborts o next. aborted_next d o (is.aborts aborts) next;
      only = λ some o next. only_error d o (nothing_is h w d knows is some) next;
      still = λ some place next. let none = nothing_is h w d knows is some in
          not_both _ _ (none.places place next.1.0.below) (start_way (commands d) place (command_at (commands d) place) next.1.0.passes);
      quiet = λ some new r next. no_request d new r r.place (nothing_is h w d knows is some) next.1;
      known = λ free. idle_fault h w d.front.fault d.front.task _ knows.waits is.fault free;
    }

-- ## The log

page_fault : (wait : Wait) (beside : Bool) (stands x : Option Fault) (t : Task) (p : Page) → owed t ≡ Some (owe.Page p) → FaultAs wait beside stands x t → x ≡ stands
page_fault wait beside stands x (tasks.Gives q) p e as' = as'
page_fault wait beside stands x (tasks.Sends q) p e as' = as'
page_fault wait beside stands x t p e as' = absurd (cc)

pub log_tells_of_failure : engine.FailuresAreOwn → LogTellsOfFailure
log_tells_of_failure own p limit calls page b are named out' fis' =
    let w = watch_in p limit calls in
    let d = reached p limit calls in
    let is = watches_in own p limit calls are in
    let same = page_fault _ w.beside w.fault d.front.fault d.front.task _ out' is.fault in
    let P : Option log.LogPage → Type 0 = λ x. IsLog d.profile d.front x (drop 4 b) in
    let Q : Option Fault → Type 0 = λ x. IsErrorLog x (drop 4 b) in
    (subst Q same (subst P named fis'.0), fis'.1)

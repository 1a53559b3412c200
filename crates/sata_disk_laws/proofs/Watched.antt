-- The error that stands by the FISes is that of the front, over every run.
use Rattle.std.proofs.Common.{◌≡◌, ℕ, ◌/◌, ◌<◌, true, false, List, [], ◌∷◌, ◌++◌, drop, get_or, Some, None, refl, sym, ap, ◌∙◌, subst, arith, inl}
use Rattle.std.proofs.{Common.inr, lemmas.Bool.{and_right, cases_lt, lt-ltb}}
use Rattle.std.specs.{Prelude.{Option, Bool, Result, Ok, not, nat_lt, ◌&&◌, if◌then◌else◌}, Option.is_some}
use Rattle.fis_view.specs.{Seen.seen, declared.view.{Fis.Fis, FisFault.FisFault}}
use Rattle.fis_view.specs.declared.view.Fis.TheVariants as view
use Rattle.block_command.specs.declared.command.{Stage.{Stage, TheVariants.{Activate, Announce, End, Fail, SetUpRead, SetUpWrite}}, Command.Command}
use Rattle.block_command.specs.{declared.command.Protocol.Protocol, Moments.{Moment, turn_of}}
use Rattle.block_command.specs.declared.command.Protocol.TheVariants as protocol
use Rattle.block_command.proofs.Door.{at}
use Rattle.block_disk.specs.Table.{is_under_way}
use Rattle.block_queue.specs.Line.{IsLine, command_at}
use Rattle.block_queue.proofs.Door.{new_line, of_and}
use Rattle.block_scheduler.specs.{Sets.{is_fail, turn_at}, Schedule.ends_all}
use Rattle.block_engine.specs.{declared.{aside.AsideStage.AsideStage, request.Range.Range}, Aside.is_over, Engine.{EngineState, line}, Laws.AreSteps}
use Rattle.block_engine.specs.Laws.{Step, after_step, after_steps, failure_after, failure_in}
use Rattle.block_engine.specs.declared.request.Failure as caller
use Rattle.block_engine.specs.Laws as engine
use Rattle.ata_reply.specs.declared.reply.{AtaError.AtaError, Failure.Failure, Reply.Reply}
use Rattle.ata_reply.specs.declared.reply.Reply.TheVariants as replies
use Rattle.ata_command.specs.Courses.{resets}
use Rattle.ata_front.specs.{CommandFis.{announced_read, asks_by, set_up}, Fronts.{controlled, heard_data, over, owed, task_less}}
use Rattle.ata_front.specs.declared.{front.Front.Front, task.{Fault.{Fault, TheVariants.Queued}, Moving.Moving, Task.Task, Trouble.Trouble}}
use Rattle.ata_front.specs.declared.task.Task.TheVariants as tasks
use Rattle.disk_pages.specs.{Profiles.facts_of, declared.profile.Profile.Profile}
use Rattle.sata_disk.specs.{State.{DiskState, IsBeside, commands, is_taken, new_disk}, Hearing.{command_told, data_by, discarding, fis_heard}}
use Rattle.sata_disk.specs.{Hearing.is_command, Sending.{IsCommandOut, IsOut, after_sent, front_sent, is_done, moving_of, out_at, place_sent}}
use Rattle.sata_disk.specs.{Sending.{single_front, trouble_at, trouble_by}, declared.out.Out.Out}
use Rattle.sata_disk.specs.declared.out.Out.TheVariants as out
use Rattle.sata_disk_laws.specs.{Calls.{AreCalls, Call, Hears, IsCall, Plugs, Sends, after_call, after_calls, steps_of}, Laws.reached, Once.Host}
use Rattle.sata_disk_laws.specs.Once.{IsCallDue, IsOfPlace, IsOutDue, IsSingle, command_given, control_given, data_got, fis_given, host_after}
use Rattle.sata_disk_laws.specs.{Once.{host_of, new_host, out_got, place_in, reply_got, unheard_of}, Errors.{Watch, command_watched, failures_then}}
use Rattle.sata_disk_laws.specs.Errors.{fis_watched, new_watch, of_watched, or_fault, out_watched, reply_watched, reset_watched, watch_after}
use Rattle.sata_disk_laws.specs.Errors.{watch_of, watched}
use Rattle.sata_disk_laws.specs.Errors as errors
use Rattle.sata_disk_laws.proofs.{Answered.Knows, AskedPlaces.asked_at, Calls.{IsSent, call_due, first_knows, next_line, sent_is}}
use Rattle.sata_disk_laws.proofs.{LogReads.asked_reads, Owed.not_over, Runs.{after_both, are_both, call_after, call_are}, Single.moving_is}
use Rattle.sata_disk_laws.proofs.{Speaks.{front_case, queued_idle}, Tracks.WaitsAs, Watching.{FaultAs, Watches, WatchesOf, command_watches}}
use Rattle.sata_disk_laws.proofs.Watching.{control_watches, data_reset, got_reset, no_some, page_watches, plug_watches, said_watches}

-- ## A command alone ended

-- the one that the host waits for, where no error stands: its failure is none of a queued command
failed_none : (h : Host) (w : Watch) (f : Failure) → IsSingle h → w.beside ≡ true → w.fault ≡ None
    → or_fault w.fault (errors.refused_by w.beside h.waits f) ≡ None
failed_none h w f single lone none =
    ap (λ s. or_fault s (errors.refused_by w.beside h.waits f)) none ∙ ap (λ b. errors.refused_by b h.waits f) lone
    ∙ ap (λ v. errors.refused_for v f) single.1

pub over_watches : (h : Host) (w : Watch) (x : Option Fault) (r : Reply) → IsSingle h → x ≡ w.fault → w.beside ≡ true → w.fault ≡ None → (w.aborts ≡ true → ⊥)
    → (reply_got h r).in_reset ≡ h.in_reset → Watches (reply_got h r) (reply_watched h w r) x tasks.Idle
over_watches h w x (replies.Failed f) single same lone none calm reset =
    let stays = failed_none h w f single lone none in
    record { fault = same ∙ none ∙ sym stays; only = λ some. tt; aborts = λ yes'. absurd (cc); reset = λ e. stays }
over_watches h w x r single same lone none calm reset =
    record { fault = same; only = λ some. tt; aborts = λ yes'. absurd (calm yes'); reset = λ e. none }

-- ## The end of a command beside the queue

waits_none : (w : Watch) → (is_some w.fault ≡ true → ⊥) → w.fault ≡ None
waits_none w not' = none_case w.fault not'
  where
    none_case : (x : Option Fault) → (is_some x ≡ true → ⊥) → x ≡ None
    none_case None not' = refl
    none_case (Some f) not' = absurd (not' refl)

over_reset : (h : Host) (well : Bool) (t : Trouble) → (reply_got h (over well t)).in_reset ≡ h.in_reset
over_reset h true t = refl
over_reset h false t = refl

beside_case : (h : Host) (w : Watch) (f : Front) (s : AsideStage) (well : Bool) (x : Trouble) (t : Task) (y : Option Moment) → is_over s ≡ true → IsBeside t s → WaitsAs h t y
    → Watches h w f.fault t → Watches (reply_got h (over well x)) (reply_watched h w (over well x)) f.fault tasks.Idle
beside_case h w f s well x (tasks.Waits p) y e beside waits is =
    over_watches h w f.fault (over well x) waits.0 is.fault.0 is.fault.1 (waits_none w (λ some. is.only some)) (λ yes'. let not' = is.aborts yes' in absurd (cc)) (over_reset h well x)
beside_case h w f s well x other y e beside waits is = not_over s _ e beside

-- ## The FIS of a command

-- a FIS that fails nothing
abbrev is_neutral : Reply → Bool
is_neutral (replies.Failed f) = false
is_neutral (replies.Aborts e) = false
is_neutral _ = true

neutral_of : (d : DiskState) (h : Host) (w : Watch) (p : ℕ) (r : Reply) → is_neutral r ≡ true → of_watched d h w p r ≡ w
neutral_of d h w p (replies.Failed f) e = absurd (cc)
neutral_of d h w p (replies.Aborts x) e = absurd (cc)
neutral_of d h w p r e = refl

-- a queued command goes on
idle_goes : (h k : Host) (w : Watch) (f : Front) → f.task ≡ tasks.Idle → k.in_reset ≡ h.in_reset → WatchesOf h w f → WatchesOf k w f
idle_goes h k w f idle reset is =
    let P : Task → Type 0 = λ t. FaultAs h.waits w.beside w.fault f.fault t in
    let Q : Task → Type 0 = λ t. FaultAs k.waits w.beside w.fault f.fault t in
    let same : f.fault ≡ w.fault = subst P idle is.fault in
    record { fault = subst Q (sym idle) same; only = is.only; aborts = is.aborts; reset = λ e. is.reset (sym reset ∙ e) }

less_goes : (h k : Host) (w : Watch) (x : Option Fault) (m : Moving) (b : Bool) (n : ℕ) → (k.in_reset ≡ true → h.in_reset ≡ true) → Watches h w x (tasks.Moves m)
    → Watches k w x (task_less (tasks.Moves m) b n)
less_goes h k w x m true n reset is =
    record { fault = is.fault.0; only = λ some. tt; aborts = λ yes'. absurd (let not' = is.aborts yes' in cc); reset = λ e. is.reset (reset e) }
less_goes h k w x m false n reset is =
    record { fault = is.fault; only = is.only; aborts = λ yes'. absurd (let not' = is.aborts yes' in cc); reset = λ e. is.reset (reset e) }

-- the ends of queued commands went
ends_watches : (h : Host) (w : Watch) (f : Front) (t : Task) (tags : ℕ) → f.task ≡ t → owed t ≡ None → WatchesOf h w f
    → WatchesOf (out_got h (out.Ends tags)) w f
ends_watches h w f t tags e free is = record { fault = is.fault; only = is.only; aborts = is.aborts; reset = is.reset }

-- what the front of a command that is not queued is then
single_goes : (h k : Host) (w : Watch) (f : Front) (m : Moving) (b : Bool) (n : ℕ) → f.task ≡ tasks.Moves m → k.in_reset ≡ h.in_reset → WatchesOf h w f
    → WatchesOf k w (single_front f f.task b n)
single_goes h k w f m b n task reset is =
    let P : Task → Type 0 = λ t. Watches h w f.fault t in
    let Q : Task → Type 0 = λ t. Watches k w (single_front f t b n).fault (single_front f t b n).task in
    let R : Task → Type 0 = λ t. Watches k w f.fault (task_less t b n) in
    subst Q (sym task) (subst R (sym task) (less_goes h k w f.fault m b n (λ e. sym reset ∙ e) (subst P task is)))

same_out : (p : ℕ) (r q : Reply) → Some (out.Of p r) ≡ Some (out.Of p q) → q ≡ r
same_out p r q e = cc

abbrev OfWatches : Host → DiskState → Watch → ℕ → Reply → Type 0
OfWatches h d w p r = WatchesOf (reply_got h r) (of_watched d h w p r) (front_sent d p 0)

queued_neutral : (h : Host) (d : DiskState) (w : Watch) (p : ℕ) (r : Reply) → is_neutral r ≡ true → p < 32 → is_fail (turn_at (command_at (commands d) p)) ≡ false
    → d.front.task ≡ tasks.Idle → WatchesOf h w d.front → OfWatches h d w p r
queued_neutral h d w p r not' low stays idle is =
    let P : Watch → Type 0 = λ v. WatchesOf (reply_got h r) v (front_sent d p 0) in
    let Q : Front → Type 0 = λ f. WatchesOf (reply_got h r) w f in
    let ends : ends_all (commands d) p ≡ false = ap (λ b. nat_lt p 32 && b) stays ∙ and_right (nat_lt p 32) false refl in
    subst P (sym (neutral_of d h w p r not')) (subst Q (sym (front_case d p 0 _ _ (lt-ltb p 32 low) ends refl))
    (idle_goes h (reply_got h r) w d.front idle (got_reset h r) is))

-- its error is the one that stands now
queued_aborts : (h : Host) (d : DiskState) (w : Watch) (p : ℕ) (x : AtaError) → p < 32 → is_fail (turn_at (command_at (commands d) p)) ≡ true
    → d.front.task ≡ tasks.Idle → (h.in_reset ≡ true → ⊥) → w.failures p ≡ get_or d.engine.failures p None → WatchesOf h w d.front
    → OfWatches h d w p (replies.Aborts x)
queued_aborts h d w p x low fails idle clear own is =
    let ends : ends_all (commands d) p ≡ true = ap (λ b. nat_lt p 32 && b) fails ∙ ap (λ b. b && true) (lt-ltb p 32 low) in
    let v = of_watched d h w p (replies.Aborts x) in
    let k = reply_got h (replies.Aborts x) in
    let P : Front → Type 0 = λ f. WatchesOf k v f in
    let Q : Task → Type 0 = λ t. Watches k v (Some (Queued p (trouble_at d.engine p))) t in
    subst P (sym (front_case d p 0 _ _ (lt-ltb p 32 low) ends refl)) (subst Q (sym idle) (record {
      fault = ap (λ y. Some (Queued p (trouble_by y (command_at (commands d) p)))) (sym own);
      only = λ some. tt;
      aborts = λ yes'. absurd (let not' = sym idle ∙ is.aborts yes' in cc);
      reset = λ e. absurd (clear e);
    }))

fail_case : (h : Host) (d : DiskState) (w : Watch) (p : ℕ) (r : Reply) (x : AtaError) (y : Failure) (b : Bool) → p < 32 → IsOfPlace p r
    → (if b then replies.Aborts x else replies.Failed y) ≡ r
    → ((x : AtaError) → OfWatches h d w p (replies.Aborts x)) → OfWatches h d w p r
fail_case h d w p r x y true low of' e then' = let P : Reply → Type 0 = λ q. OfWatches h d w p q in subst P e (then' x)
fail_case h d w p r x y false low of' e then' =
    let P : Reply → Type 0 = λ q. IsOfPlace p q in absurd (let same = subst P (sym e) of' in omega (arith, same, low))

asks_neutral : (m : Moment) (p : Protocol) → is_neutral (asks_by m p) ≡ true
asks_neutral m protocol.Queued = refl
asks_neutral m other = refl

queued_case : (h : Host) (d : DiskState) (w : Watch) (p : ℕ) (r : Reply) (c : Command) (done : ℕ) (bytes : List ℕ) (sent : ℕ) (stage : Stage)
    → command_at (commands d) p ≡ Some (at c done bytes sent stage) → p < 32 → Some (out.Of p r) ≡ out_at d p (Some (at c done bytes sent stage)) → IsOfPlace p r
    → d.front.task ≡ tasks.Idle → (h.in_reset ≡ true → ⊥) → w.failures p ≡ get_or d.engine.failures p None → WatchesOf h w d.front → OfWatches h d w p r
queued_case h d w p r c done bytes sent Fail there low e of' idle clear own is =
    fail_case h d w p r _ _ (nat_lt c.place 32) low of' (same_out p r _ e)
    (λ x. queued_aborts h d w p x low (ap (λ x. is_fail (turn_at x)) there) idle clear own is)
queued_case h d w p r c done bytes sent SetUpRead there low e of' idle clear own is =
    let P : Reply → Type 0 = λ q. OfWatches h d w p q in
    subst P (same_out p r (set_up c) e) (queued_neutral h d w p (set_up c) refl low (ap (λ x. is_fail (turn_at x)) there) idle is)
queued_case h d w p r c done bytes sent SetUpWrite there low e of' idle clear own is =
    let P : Reply → Type 0 = λ q. OfWatches h d w p q in
    subst P (same_out p r (set_up c) e) (queued_neutral h d w p (set_up c) refl low (ap (λ x. is_fail (turn_at x)) there) idle is)
queued_case h d w p r c done bytes sent Announce there low e of' idle clear own is =
    let P : Reply → Type 0 = λ q. OfWatches h d w p q in
    subst P (same_out p r (announced_read (at c done bytes sent Announce) (moving_of d.front.task).left) e) (queued_neutral h d w p (announced_read (at c done bytes sent Announce) (moving_of d.front.task).left) refl low (ap (λ x. is_fail (turn_at x)) there) idle is)
queued_case h d w p r c done bytes sent Activate there low e of' idle clear own is =
    let P : Reply → Type 0 = λ q. OfWatches h d w p q in
    subst P (same_out p r (asks_by (at c done bytes sent Activate) c.protocol) e)
    (queued_neutral h d w p (asks_by (at c done bytes sent Activate) c.protocol) (asks_neutral (at c done bytes sent Activate) c.protocol) low (ap (λ x. is_fail (turn_at x)) there) idle is)
queued_case h d w p r c done bytes sent End there low e of' idle clear own is =
    let P : Reply → Type 0 = λ q. OfWatches h d w p q in
    subst P (same_out p r replies.Done e) (queued_neutral h d w p replies.Done refl low (ap (λ x. is_fail (turn_at x)) there) idle is)
queued_case h d w p r c done bytes sent stage there low e of' idle clear own is = absurd (cc)

-- the command that is not queued fails where no error stands
fails_goes : (h : Host) (w : Watch) (x : Option Fault) (f : Failure) (m : Moving) (b : Bool) (n : ℕ) → IsSingle h → Watches h w x (tasks.Moves m)
    → Watches (reply_got h (replies.Failed f)) (reply_watched h w (replies.Failed f)) x (task_less (tasks.Moves m) b n)
fails_goes h w x f m true n single is =
    over_watches h w x (replies.Failed f) single is.fault.0 is.fault.1 (waits_none w (λ some. is.only some)) (λ yes'. let not' = is.aborts yes' in absurd (cc)) refl
fails_goes h w x f m false n single is =
    let none = waits_none w (λ some. is.only some) in
    let stays = failed_none h w f single is.fault.1 none in record {
      fault = (is.fault.0 ∙ none ∙ sym stays, is.fault.1);
      only = λ some. no_some _ _ stays some;
      aborts = λ yes'. absurd (cc);
      reset = λ e. stays;
    }

single_fails : (h : Host) (d : DiskState) (w : Watch) (f : Failure) (m : Moving) → IsSingle h → d.front.task ≡ tasks.Moves m → WatchesOf h w d.front
    → OfWatches h d w 32 (replies.Failed f)
single_fails h d w f m single task is =
    let b = not (is_taken (line (place_sent d.engine 32)) 32) in
    let k = reply_got h (replies.Failed f) in
    let v = reply_watched h w (replies.Failed f) in
    let P : Task → Type 0 = λ t. Watches h w d.front.fault t in
    let Q : Task → Type 0 = λ t. Watches k v (single_front d.front t b 0).fault (single_front d.front t b 0).task in
    let R : Task → Type 0 = λ t. Watches k v d.front.fault (task_less t b 0) in
    subst Q (sym task) (subst R (sym task) (fails_goes h w d.front.fault f m b 0 single (subst P task is)))

single_case : (h : Host) (d : DiskState) (w : Watch) (r : Reply) (m : Moving) → IsSingle h → IsOfPlace 32 r → d.front.task ≡ tasks.Moves m → WatchesOf h w d.front
    → OfWatches h d w 32 r
single_case h d w (replies.Failed f) m single of' task is = single_fails h d w f m single task is
single_case h d w (replies.Aborts x) m single of' task is = absurd (omega (arith, of'))
single_case h d w (replies.Announce a) m single of' task is = single_goes h (reply_got h (replies.Announce a)) w d.front m _ 0 task (got_reset h (replies.Announce a)) is
single_case h d w r m single of' task is = single_goes h (reply_got h r) w d.front m _ 0 task (got_reset h r) is

moves_now : (h : Host) (d : DiskState) (o : Out) (m : Moment) → IsSent d 32 o m → Knows h d → (v : Moving) × (d.front.task ≡ tasks.Moves v)
moves_now h d o m s knows = let v = moving_is h d.front d.engine.stage (commands d) m s.there s.alive knows in (v.moving, v.task)

-- while SRST is set no command is under way
sent_clear : (h : Host) (d : DiskState) (p : ℕ) (o : Out) (m : Moment) → IsSent d p o m → p < 32 → Knows h d → h.in_reset ≡ true → ⊥
sent_clear h d p o m s low knows e =
    let none = (knows.idle (sym knows.reset ∙ e)).1 p low in
    let some = ap is_under_way s.there ∙ s.alive in absurd (cc)

of_watches : (h : Host) (d : DiskState) (w : Watch) (p : ℕ) (r : Reply) → IsCommandOut d p (out.Of p r) → IsOutDue h (out.Of p r) → Knows h d
    → (p < 33 → w.failures p ≡ get_or d.engine.failures p None) → WatchesOf h w d.front → OfWatches h d w p r
of_watches h d w p r is due knows own watches = elim (cases_lt p 32) [
  | inl low ↦
      let x = sent_is d p (out.Of p r) is in
      let m = x.0 in
      let q = queued_idle h d.front d.engine.stage (commands d) p low (ap is_under_way x.1.there ∙ x.1.alive) x.1.free knows in
      queued_case h d w p r m.command m.done m.bytes m.sent m.stage x.1.there low x.1.is due.2 q.0 (sent_clear h d p (out.Of p r) m x.1 low knows)
      (own (omega (arith, low))) watches
  | inr high ↦
      let same : p ≡ 32 = let low = is.2.0 in omega (arith, low, high) in
      let P : ℕ → Type 0 = λ k. IsCommandOut d k (out.Of k r) → IsOutDue h (out.Of k r) → OfWatches h d w k r in
      subst P (sym same) (λ is' due'. let x = sent_is d 32 (out.Of 32 r) is' in
      let v = moves_now h d (out.Of 32 r) x.0 x.1 knows in single_case h d w r v.0 due'.1.1 due'.2 v.1 watches) is due
]

abbrev DataWatches : Host → DiskState → Watch → (p n : ℕ) → Type 0
DataWatches h d w p n = WatchesOf (data_got h) w (front_sent d p (n / 512))

data_case : (p n : ℕ) (d : DiskState) (m : Moment) (stage : Stage) → Some (out.Data p n) ≡ out_at d p (Some (record m { stage = stage })) → is_fail (turn_of stage) ≡ false
data_case p n d m Fail e = absurd (cc)
data_case p n d m stage e = refl

data_watches : (h : Host) (d : DiskState) (w : Watch) (p n : ℕ) → IsCommandOut d p (out.Data p n) → Knows h d → WatchesOf h w d.front → DataWatches h d w p n
data_watches h d w p n is knows watches = elim (cases_lt p 32) [
  | inl low ↦
      let x = sent_is d p (out.Data p n) is in
      let q = queued_idle h d.front d.engine.stage (commands d) p low (ap is_under_way x.1.there ∙ x.1.alive) x.1.free knows in
      let stays = ap (λ y. is_fail (turn_at y)) x.1.there ∙ data_case p n d x.0 x.0.stage x.1.is in
      let ends : ends_all (commands d) p ≡ false = ap (λ b. nat_lt p 32 && b) stays ∙ and_right (nat_lt p 32) false refl in
      let Q : Front → Type 0 = λ f. WatchesOf (data_got h) w f in
      subst Q (sym (front_case d p (n / 512) _ _ (lt-ltb p 32 low) ends refl)) (idle_goes h (data_got h) w d.front q.0 (data_reset h h.waits) watches)
  | inr high ↦
      let same : p ≡ 32 = let low = is.2.0 in omega (arith, low, high) in
      let P : ℕ → Type 0 = λ k. IsCommandOut d k (out.Data k n) → DataWatches h d w k n in
      subst P (sym same) (λ is'. let x = sent_is d 32 (out.Data 32 n) is' in
      let v = moves_now h d (out.Data 32 n) x.0 x.1 knows in
      single_goes h (data_got h) w d.front v.0 _ (n / 512) v.1 (data_reset h h.waits) watches) is
]

-- ## Any FIS of the disk

out_watches : (h : Host) (d : DiskState) (w : Watch) (o : Out) → IsOut d (Some o) → IsOutDue h o → Knows h d
    → ((p : ℕ) → p < 33 → w.failures p ≡ get_or d.engine.failures p None) → WatchesOf h w d.front
    → WatchesOf (out_got h o) (out_watched d h w o) (after_sent d o).front
out_watches h d w (out.Own r) is due knows own watches = said_watches h w d.front d.engine.stage (commands d) r is knows watches
out_watches h d w (out.Page p) is due knows own watches = page_watches h w d.front d.engine.stage (commands d) p is knows watches
out_watches h d w (out.Beside r) is due knows own watches =
    let P : Reply → Type 0 = λ q. Watches (reply_got h q) (reply_watched h w q) d.front.fault tasks.Idle in
    subst P (sym is.2) (beside_case h w d.front d.engine.stage (is_done d.engine.stage) (trouble_at d.engine 32) d.front.task _ (of_and _ _ is.1).0
    knows.beside knows.waits watches)
out_watches h d w (out.Ends tags) is due knows own watches = ends_watches h w d.front d.front.task tags refl is.0 watches
out_watches h d w (out.Of p r) is due knows own watches = of_watches h d w p r is due knows (own p) watches
out_watches h d w (out.Data p n) is due knows own watches = data_watches h d w p n is knows watches

-- ## A FIS of the host

register_case : (h : Host) (d : DiskState) (w : Watch) (f : List ℕ) (b : Bool) → Knows h d → WatchesOf h w d.front
    → WatchesOf (if b then command_given h (place_in f) (unheard_of h) else control_given h (resets f))
    (if b then command_watched h w (place_in f) f (unheard_of h) else (if resets f then reset_watched w else w))
    (if b then command_told d f else controlled d.front (resets f)).front
register_case h d w f true knows watches =
    command_watches h w f (place_in f) d.front d.engine.stage (commands d) _ (asked_at f (facts_of d.profile) d.front.settings)
    (asked_reads f (facts_of d.profile) d.front.settings) knows watches
register_case h d w f false knows watches = control_watches h w d.front d.engine.stage (commands d) (resets f) knows watches

ranges_case : (h : Host) (d : DiskState) (w : Watch) (t : Task) (blocks : ℕ) (x : Option (List Range)) → heard_data t ≡ Some blocks → WaitsAs h t (command_at (commands d) 32)
    → Watches h w d.front.fault t → WatchesOf h w (discarding d x).front
ranges_case h d w (tasks.Expects k) blocks None e waits is =
    let none = waits_none w (λ some. is.only some) in record {
      fault = is.fault.0 ∙ none ∙ sym (failed_none h w _ waits.0 is.fault.1 none);
      only = λ some. absurd (is.only some);
      aborts = λ yes'. absurd (let not' = is.aborts yes' in cc);
      reset = λ r. none;
    }
ranges_case h d w (tasks.Expects k) blocks (Some ranges) e waits is =
    record { fault = is.fault; only = is.only; aborts = λ yes'. absurd (let not' = is.aborts yes' in cc); reset = is.reset }
ranges_case h d w t blocks x e waits is = absurd (cc)

bytes_watches : (h : Host) (d : DiskState) (w : Watch) (x : Option ℕ) (bytes : List ℕ) → heard_data d.front.task ≡ x → Knows h d → WatchesOf h w d.front
    → WatchesOf h w (data_by d x bytes).front
bytes_watches h d w None bytes e knows watches = watches
bytes_watches h d w (Some blocks) bytes e knows watches = ranges_case h d w d.front.task blocks _ e knows.waits watches

fis_watches : (h : Host) (d : DiskState) (w : Watch) (x : Result Fis FisFault) → Knows h d → WatchesOf h w d.front
    → WatchesOf (fis_given h x) (fis_watched h w x) (fis_heard d x).front
fis_watches h d w (Ok (view.RegH2D f)) knows watches = register_case h d w f (is_command f) knows watches
fis_watches h d w (Ok (view.Payload f)) knows watches = bytes_watches h d w _ (drop 4 f) refl knows watches
fis_watches h d w other knows watches = watches

-- ## What the caller answered

-- whatever comes, the engine keeps of each place what the caller answered to its command
abbrev pub Owned : EngineState → (ℕ → Option caller.Failure) → Type 0
Owned e known = (steps : List Step) → AreSteps e steps → (p : ℕ) → p < 33 → get_or (after_steps e steps).failures p None ≡ failure_in e p steps (known p)

owned_now : (e : EngineState) (known : ℕ → Option caller.Failure) → Owned e known → (p : ℕ) → p < 33 → known p ≡ get_or e.failures p None
unfolding after_steps failure_in
owned_now e known own p low = sym (own [] tt p low)

failures_both : (ss ts : List Step) (e : EngineState) (p : ℕ) (f : Option caller.Failure)
    → failure_in e p (ss ++ ts) f ≡ failure_in (after_steps e ss) p ts (failure_in e p ss f)
unfolding failure_in after_steps
failures_both [] ts e p f = refl
failures_both (s ∷ ss) ts e p f = failures_both ss ts (after_step e s) p (failure_after e p s f)

owned_after : (e : EngineState) (known : ℕ → Option caller.Failure) (ss : List Step) → AreSteps e ss → Owned e known
    → Owned (after_steps e ss) (λ p. failure_in e p ss (known p))
owned_after e known ss are own = λ ts later p low.
    ap (λ x. get_or x.failures p None) (sym (after_both ss ts e)) ∙ own (ss ++ ts) (are_both ss ts e are later) p low ∙ failures_both ss ts e p (known p)

-- ## Any call

other_failures : (h : Host) (w : Watch) (known : ℕ → Option caller.Failure) (x : Option Fault) (t : Task) → Watches h w x t
    → Watches h (record w { failures = known }) x t
other_failures h w known x t is = record { fault = is.fault; only = is.only; aborts = is.aborts; reset = is.reset }

call_case : (h : Host) (d : DiskState) (w : Watch) (c : Call) → IsCall d c → IsCallDue h c → Knows h d
    → ((p : ℕ) → p < 33 → w.failures p ≡ get_or d.engine.failures p None) → WatchesOf h w d.front
    → WatchesOf (host_after h c) (watched d h w c) (after_call d c).front
call_case h d w Plugs is due knows own watches = plug_watches (host_after h Plugs) w (tasks.Owes replies.Signature) refl
call_case h d w (Hears f) is due knows own watches = fis_watches h d w (seen f) knows watches
call_case h d w (Sends o) is due knows own watches = out_watches h d w o is due knows own watches
call_case h d w other is due knows own watches = watches

all_watches : (calls : List Call) (h : Host) (d : DiskState) (w : Watch) → AreCalls d calls → IsLine (commands d) → Knows h d → Owned d.engine w.failures
    → WatchesOf h w d.front → WatchesOf (host_of h calls) (watch_of d h w calls) (after_calls d calls).front
unfolding host_of watch_of after_calls
all_watches [] h d w are line' knows own watches = watches
all_watches (c ∷ later) h d w are line' knows own watches =
    let both = call_due h d c are.0 line' knows in
    let P : EngineState → Type 0 = λ e. Owned e (failures_then d c w.failures) in
    let next = call_case h d w c are.0 both.0 knows (owned_now d.engine w.failures own) watches in
    all_watches later (host_after h c) (after_call d c) (watch_after d h w c) are.1 (next_line d c are.0 line') both.1
    (subst P (sym (call_after d c)) (owned_after d.engine w.failures (steps_of d c) (call_are d c are.0) own))
    (other_failures (host_after h c) (watched d h w c) _ _ _ next)

first_watches : (p : Profile) (limit : ℕ) → WatchesOf new_host new_watch (new_disk p limit).front
first_watches p limit = record { fault = refl; only = λ some. absurd (cc); aborts = λ yes'. absurd (cc); reset = λ e. refl }

pub watches_in : engine.FailuresAreOwn → (p : Profile) (limit : ℕ) (calls : List Call) → AreCalls (new_disk p limit) calls
    → WatchesOf (host_of new_host calls) (watch_of (new_disk p limit) new_host new_watch calls) (reached p limit calls).front
watches_in own p limit calls are =
    all_watches calls new_host (new_disk p limit) new_watch are new_line (first_knows p limit) (λ steps are' place low. own limit steps place are' low) (first_watches p limit)

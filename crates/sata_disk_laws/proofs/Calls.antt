-- Every call, every run: each FIS is due.
use Rattle.std.proofs.Common.{◌≡◌, ℕ, ◌/◌, ◌<◌, true, false, List, [], ◌∷◌, drop, Some, None, refl, sym, ap, ◌∙◌, subst, arith, inl, inr, ◌⊎◌}
use Rattle.std.proofs.lemmas.Bool.{cases_lt, lt-ltb}
use Rattle.std.specs.Prelude.{Option, Bool, Result, Ok, if◌then◌else◌}
use Rattle.fis_view.specs.{Seen.seen, declared.view.{Fis.Fis, FisFault.FisFault}}
use Rattle.fis_view.specs.declared.view.Fis.TheVariants as view
use Rattle.block_command.specs.{declared.command.Stage.{Stage, TheVariants.{Sending, Ended}}, Moments.{Moment, turn_of}}
use Rattle.block_disk.specs.Table.{is_under_way}
use Rattle.block_disk.proofs.Door.{each_is}
use Rattle.block_queue.specs.Line.{IsLine, Line, command_at}
use Rattle.block_queue.proofs.Door.{new_line, of_and}
use Rattle.block_scheduler.specs.Sets.{sends_alone, turn_at}
use Rattle.block_engine.specs.{declared.{aside.AsideStage.AsideStage, request.{Answer.Answer, Failure.Failure, Request.Request}}, Aside.asks_for}
use Rattle.block_engine.specs.{Aside.{is_waiting, settled}, Engine.{EngineState, IsAskedOf, IsEngineStart, answered, done_at, failed_by, line}}
use Rattle.block_engine.specs.Engine.{loaded_at, place_of, started}
use Rattle.block_engine.specs.declared.aside.AsideStage.TheVariants as stages
use Rattle.block_engine.specs.declared.request.Answer.TheVariants as answers
use Rattle.ata_reply.specs.declared.reply.Reply.{Reply}
use Rattle.ata_reply.specs.declared.reply.Reply.TheVariants as replies
use Rattle.ata_command.specs.Courses.{resets}
use Rattle.ata_front.specs.{Fronts.{controlled, owed, standing}, declared.{front.Front.Front, task.Task.Task}}
use Rattle.ata_front.specs.declared.task.Task.TheVariants as tasks
use Rattle.disk_pages.specs.{Profiles.facts_of, declared.profile.Profile.Profile}
use Rattle.sata_disk.specs.{State.{DiskState, IsBeside, commands, is_taken, new_disk, tags_of}, Hearing.{MayAct, MayHear, command_told}}
use Rattle.sata_disk.specs.{Hearing.{command_unheard, fis_heard, is_command, register_unheard}, Sending.{IsCommandOut, IsOut, after_sent, is_done}}
use Rattle.sata_disk.specs.{Sending.{out_at, trouble_at}, declared.out.Out.Out}
use Rattle.sata_disk.specs.declared.out.Out.TheVariants as out
use Rattle.sata_disk_laws.specs.Calls.{Answers, AreCalls, Asks, Call, Hears, IsCall, Plugs, Sends, Starts, after_call, after_calls, asked_by}
use Rattle.sata_disk_laws.specs.{Calls.steps_of, Once.{AreDue, ForNothing, Host, IsCallDue, IsDataAt, IsFilling, IsOpenAt, IsOutDue, IsQueued}}
use Rattle.sata_disk_laws.specs.Once.{IsSingle, command_given, control_given, fis_given, host_after, host_of, new_host, out_got, place_in, unheard_of}
use Rattle.sata_disk_laws.specs.{Once.{waits_for_nothing, IsHostOf}, Laws.reached}
use Rattle.sata_disk_laws.specs.Once as wanted
use Rattle.sata_disk_laws.proofs.{Answered.{Knows, ends_due}, AskedPlaces.{asked_at, place_low}, Commands.{TracksOf, command_tracks, control_tracks}}
use Rattle.sata_disk_laws.proofs.{Commands.{heard_is, owes_waits, plug_tracks}, Left.{IsSome, part_some_sectors}, Owed.{beside_tracks, data_tracks}}
use Rattle.sata_disk_laws.proofs.{Owed.{page_tracks, said_tracks}, Quiet.{Same, answered_quiet, asked_quiet, started_quiet}, Replies.SentAs}
use Rattle.sata_disk_laws.proofs.{Replies.{queued_data, queued_reply}, Runs.{call_after, call_are}, Silent.steps_line, Single.single_data}
use Rattle.sata_disk_laws.proofs.{Single.single_reply, Speaks.{next_sends, queued_idle}, Tracks.{FitsPlace, IsPlace, LoneTags, OwedTags, OwesAs}}
use Rattle.sata_disk_laws.proofs.Tracks.{TagsAs, Tracks, WaitsAs, quiet_tracks}

-- ## The FIS of a command

sends_alive : (p : ℕ) (m : Moment) (stage : Stage) → m.stage ≡ stage → sends_alone p (turn_of stage) ≡ true → is_under_way (Some (record m { stage = stage })) ≡ true
sends_alive p m Ended e is = absurd (cc)
sends_alive p m stage e is = refl

-- what goes is of a command
pub record IsSent (d : DiskState) (p : ℕ) (o : Out) (m : Moment) : Type 0 where
  pub free : owed d.front.task ≡ None
  pub there : command_at (commands d) p ≡ Some m
  pub sends : sends_alone p (turn_of m.stage) ≡ true
  pub alive : is_under_way (Some m) ≡ true
  pub is : Some o ≡ out_at d p (Some m)

sent_case : (d : DiskState) (p : ℕ) (o : Out) (x : Option Moment) → command_at (commands d) p ≡ x → IsCommandOut d p o → sends_alone p (turn_at x) ≡ true
    → (m : Moment) × IsSent d p o m
sent_case d p o None there is sends = absurd (let none = is.3 ∙ ap (out_at d p) there in cc)
sent_case d p o (Some m) there is sends = (
  m,
  record {
    free = is.0;
    there = there;
    sends = sends;
    alive = sends_alive p m m.stage refl sends;
    is = is.3 ∙ ap (out_at d p) there;
  },
)

pub sent_is : (d : DiskState) (p : ℕ) (o : Out) → IsCommandOut d p o → (m : Moment) × IsSent d p o m
sent_is d p o is = sent_case d p o (command_at (commands d) p) refl is (next_sends (commands d) _ p is.1.1)

pub fit_at : (h : Host) (d : DiskState) (p : ℕ) (m : Moment) → p < 33 → command_at (commands d) p ≡ Some m → Knows h d → IsPlace p m
fit_at h d p m low there knows = let P : Option Moment → Type 0 = λ x. FitsPlace p x in subst P there (knows.fits p low)

of_queued : (h : Host) (d : DiskState) (p : ℕ) (r : Reply) (m : Moment) → IsSent d p (out.Of p r) m → p < 32 → IsLine (commands d) → Knows h d
    → IsOutDue h (out.Of p r) × SentAs (out_got h (out.Of p r)) d p 0
of_queued h d p r m s low line' knows =
    let q = queued_idle h d.front d.engine.stage (commands d) p low (ap is_under_way s.there ∙ s.alive) s.free knows in
    let good = queued_reply h d p r m.command m.done m.bytes m.sent m.stage s.there low line' (fit_at h d p m (omega (arith, low)) s.there knows) s.sends s.is q.1 q.0 knows in
    let P : Bool → Type 0 = λ b. IsOpenAt h p b in
    ((good.0, subst P (sym (lt-ltb p 32 low)) q.1, good.1), good.2)

of_single : (h : Host) (d : DiskState) (r : Reply) (m : Moment) → IsSent d 32 (out.Of 32 r) m → IsLine (commands d) → Knows h d
    → IsOutDue h (out.Of 32 r) × SentAs (out_got h (out.Of 32 r)) d 32 0
of_single h d r m s line' knows =
    let x = single_reply h d r m.command m.done m.bytes m.sent m.stage s.there line' (fit_at h d 32 m (omega arith) s.there knows) s.is knows in
    ((x.0.0, (refl, x.1), x.0.1), x.0.2)

of_due : (h : Host) (d : DiskState) (p : ℕ) (r : Reply) → IsCommandOut d p (out.Of p r) → IsLine (commands d) → Knows h d
    → IsOutDue h (out.Of p r) × SentAs (out_got h (out.Of p r)) d p 0
of_due h d p r is line' knows = elim (cases_lt p 32) [
  | inl low ↦ let x = sent_is d p (out.Of p r) is in of_queued h d p r x.0 x.1 low line' knows
  | inr high ↦
      let same : p ≡ 32 = let low = is.2.0 in omega (arith, low, high) in
      let P : ℕ → Type 0 = λ k. IsCommandOut d k (out.Of k r) → IsOutDue h (out.Of k r) × SentAs (out_got h (out.Of k r)) d k 0 in
      subst P (sym same) (λ is'. let x = sent_is d 32 (out.Of 32 r) is' in of_single h d r x.0 x.1 line' knows) is
]

data_queued : (h : Host) (d : DiskState) (p n : ℕ) (m : Moment) → IsSent d p (out.Data p n) m → p < 32 → IsLine (commands d) → Knows h d
    → IsOutDue h (out.Data p n) × SentAs (out_got h (out.Data p n)) d p (n / 512)
data_queued h d p n m s low line' knows =
    let q = queued_idle h d.front d.engine.stage (commands d) p low (ap is_under_way s.there ∙ s.alive) s.free knows in
    let P : Bool → Type 0 = λ b. IsDataAt h p b in (
      subst P (sym (lt-ltb p 32 low)) q.1,
      queued_data h d p n m.command m.done m.bytes m.sent m.stage s.there low line' (fit_at h d p m (omega (arith, low)) s.there knows) s.is q.1 knows,
    )

data_single : (h : Host) (d : DiskState) (n : ℕ) (m : Moment) → IsSent d 32 (out.Data 32 n) m → IsLine (commands d) → Knows h d
    → IsOutDue h (out.Data 32 n) × SentAs (out_got h (out.Data 32 n)) d 32 (n / 512)
data_single h d n m s line' knows =
    let x = single_data h d n m.command m.done m.bytes m.sent m.stage s.there line' (fit_at h d 32 m (omega arith) s.there knows) s.is knows in
    ((refl, x.0), x.1)

data_due : (h : Host) (d : DiskState) (p n : ℕ) → IsCommandOut d p (out.Data p n) → IsLine (commands d) → Knows h d
    → IsOutDue h (out.Data p n) × SentAs (out_got h (out.Data p n)) d p (n / 512)
data_due h d p n is line' knows = elim (cases_lt p 32) [
  | inl low ↦ let x = sent_is d p (out.Data p n) is in data_queued h d p n x.0 x.1 low line' knows
  | inr high ↦
      let same : p ≡ 32 = let low = is.2.0 in omega (arith, low, high) in
      let P : ℕ → Type 0 = λ k. IsCommandOut d k (out.Data k n) → IsOutDue h (out.Data k n) × SentAs (out_got h (out.Data k n)) d k (n / 512) in
      subst P (sym same) (λ is'. let x = sent_is d 32 (out.Data 32 n) is' in data_single h d n x.0 x.1 line' knows) is
]

-- ## Any FIS

out_due : (h : Host) (d : DiskState) (o : Out) → IsOut d (Some o) → IsLine (commands d) → Knows h d
    → IsOutDue h o × Knows (out_got h o) (after_sent d o)
out_due h d (out.Own r) is line' knows = said_tracks h d.front d.engine.stage (commands d) r is knows
out_due h d (out.Page p) is line' knows = page_tracks h d.front d.engine.stage (commands d) p is knows
out_due h d (out.Beside r) is line' knows =
    let P : Reply → Type 0 = λ x. IsOutDue h (out.Beside x) × Knows (out_got h (out.Beside x)) (after_sent d (out.Beside x)) in
    subst P (sym is.2) (beside_tracks h d.front d.engine.stage (commands d) (is_done d.engine.stage) (trouble_at d.engine 32) (of_and _ _ is.1).0 knows)
out_due h d (out.Ends tags) is line' knows = ends_due h d tags is line' knows
out_due h d (out.Of p r) is line' knows = of_due h d p r is line' knows
out_due h d (out.Data p n) is line' knows = data_due h d p n is line' knows

-- ## A FIS of the host

register_case : (h : Host) (d : DiskState) (f : List ℕ) (b : Bool) → IsLine (commands d) → Knows h d
    → MayAct d.engine.stage (if b then command_told d f else controlled d.front (resets f)).front.task (if b then command_told d f else controlled d.front (resets f)).act
    → TracksOf (if b then command_given h (place_in f) (unheard_of h) else control_given h (resets f))
    (if b then command_told d f else controlled d.front (resets f)) d.engine
register_case h d f true line' knows may =
    command_tracks h d.front d.engine (place_in f) _ (place_low f) (asked_at f (facts_of d.profile) d.front.settings) knows line' may
register_case h d f false line' knows may = control_tracks h d.front d.engine (resets f) knows

fis_knows : (h : Host) (d : DiskState) (x : Result Fis FisFault) → MayHear d x → IsLine (commands d) → Knows h d → Knows (fis_given h x) (fis_heard d x)
fis_knows h d (Ok (view.RegH2D f)) may line' knows = register_case h d f (is_command f) line' knows may
fis_knows h d (Ok (view.Payload f)) may line' knows = data_tracks h d (drop 4 f) knows line'
fis_knows h d other may line' knows = knows

-- ## The caller

-- what is under way beside the queue goes on
stage_case : (t : Task) (s s' : AsideStage) → (s ≡ stages.Idle → ⊥) → IsBeside t s → IsBeside t s'
stage_case (tasks.Waits p) s s' busy is = tt
stage_case other s s' busy is = absurd (busy is)

stage_tracks : (h : Host) (f : Front) (s s' : AsideStage) (l : Line) → (s' ≡ s) ⊎ (s ≡ stages.Idle → ⊥) → Tracks h f s l → Tracks h f s' l
stage_tracks h f s s' l (inl same) is = let P : AsideStage → Type 0 = λ x. Tracks h f x l in subst P (sym same) is
stage_tracks h f s s' l (inr busy) is = record {
  beside = stage_case f.task s s' busy is.beside;
  fits = is.fits;
  waits = is.waits;
  tags = is.tags;
  reset = is.reset;
  idle = is.idle;
  faulty = is.faulty;
}

not_waiting : (s : AsideStage) → is_waiting s ≡ true → s ≡ stages.Idle → ⊥
not_waiting s e idle = let none = ap is_waiting (sym idle) ∙ e in cc

settle_stage : (e : EngineState) (number : ℕ) (stage : AsideStage) (b : Bool) → asks_for e.stage number ≡ b
    → ((if b then record e { stage = stage } else record e { dropped = None }).stage ≡ e.stage) ⊎ (e.stage ≡ stages.Idle → ⊥)
settle_stage e number stage false asks = inl refl
settle_stage e number stage true asks = inr (λ idle. let none = ap (λ s. asks_for s number) (sym idle) ∙ asks in cc)

done_stage : (e : EngineState) (x : Option ℕ) (number : ℕ) → ((done_at e x number).stage ≡ e.stage) ⊎ (e.stage ≡ stages.Idle → ⊥)
done_stage e None number = settle_stage e number (settled true) _ refl
done_stage e (Some p) number = inl refl

loaded_stage : (e : EngineState) (x : Option ℕ) (number : ℕ) (bytes : List ℕ) → ((loaded_at e x number bytes).stage ≡ e.stage) ⊎ (e.stage ≡ stages.Idle → ⊥)
loaded_stage e None number bytes = inl refl
loaded_stage e (Some p) number bytes = inl refl

failed_stage : (e : EngineState) (x : Option ℕ) (number : ℕ) (f : Failure) → ((failed_by e x number f).stage ≡ e.stage) ⊎ (e.stage ≡ stages.Idle → ⊥)
failed_stage e None number f = settle_stage e number (settled false) _ refl
failed_stage e (Some p) number f = inl refl

answered_stage : (e : EngineState) (number : ℕ) (a : Answer) → ((answered e number a).stage ≡ e.stage) ⊎ (e.stage ≡ stages.Idle → ⊥)
answered_stage e number (answers.Loaded bytes) = loaded_stage e (place_of e number) number bytes.items
answered_stage e number answers.Done = done_stage e (place_of e number) number
answered_stage e number (answers.Failed f) = failed_stage e (place_of e number) number f

start_knows : (h : Host) (d : DiskState) (x : Option ℕ) → IsEngineStart d.engine x → IsLine (commands d) → Knows h d
    → Tracks h d.front (started d.engine x).stage (line (started d.engine x))
start_knows h d None is line' knows = knows
start_knows h d (Some p) is line' knows =
    quiet_tracks h d.front d.engine.stage (commands d) _ (started_quiet (commands d) p line' is.1.0.below is.1.0.passes) knows

ask_knows : (h : Host) (d : DiskState) (r : Request) (x : Option ℕ) → IsAskedOf d.engine (asked_by d.engine x) r x → IsLine (commands d) → Knows h d
    → Tracks h d.front (asked_by d.engine x).stage (line (asked_by d.engine x))
ask_knows h d r None is line' knows =
    stage_tracks h d.front d.engine.stage _ _ (inr (not_waiting d.engine.stage (of_and _ _ (of_and _ _ is.1).0).0))
    (quiet_tracks h d.front d.engine.stage (commands d) _ (λ q low. Same refl) knows)
ask_knows h d r (Some p) is line' knows =
    quiet_tracks h d.front d.engine.stage (commands d) _ (asked_quiet (commands d) p line' is.0.below is.0.passes) knows

-- ## Any call

pub call_due : (h : Host) (d : DiskState) (c : Call) → IsCall d c → IsLine (commands d) → Knows h d → IsCallDue h c × Knows (host_after h c) (after_call d c)
call_due h d Plugs is line' knows = (tt, plug_tracks h d.front d.engine)
call_due h d (Hears f) is line' knows = (tt, fis_knows h d (seen f) is line' knows)
call_due h d (Starts x) is line' knows = (tt, start_knows h d x is line' knows)
call_due h d (Asks r) is line' knows = (tt, ask_knows h d r r.place is.1 line' knows)
call_due h d (Answers number a) is line' knows = (
  tt,
  stage_tracks h d.front d.engine.stage _ _ (answered_stage d.engine number a)
      (quiet_tracks h d.front d.engine.stage (commands d) _ (answered_quiet d.engine number a line') knows),
)
call_due h d (Sends o) is line' knows = out_due h d o is line' knows

-- ## Every run

pub next_line : (d : DiskState) (c : Call) → IsCall d c → IsLine (commands d) → IsLine (commands (after_call d c))
next_line d c is line' = subst (λ e. IsLine (line e)) (sym (call_after d c)) (steps_line (steps_of d c) d.engine (call_are d c is) line')

all_due : (calls : List Call) (h : Host) (d : DiskState) → AreCalls d calls → IsLine (commands d) → Knows h d → AreDue h calls
all_due [] h d are line' knows = tt
all_due (c ∷ later) h d are line' knows =
    let both = call_due h d c are.0 line' knows in
    (both.0, all_due later (host_after h c) (after_call d c) are.1 (next_line d c are.0 line') both.1)

all_known : (calls : List Call) (h : Host) (d : DiskState) → AreCalls d calls → IsLine (commands d) → Knows h d
    → Knows (host_of h calls) (after_calls d calls)
unfolding host_of after_calls
all_known [] h d are line' knows = knows
all_known (c ∷ later) h d are line' knows =
    all_known later (host_after h c) (after_call d c) are.1 (next_line d c are.0 line') (call_due h d c are.0 line' knows).1

first_at : (p : Profile) (limit q : ℕ) → command_at (commands (new_disk p limit)) q ≡ None
first_at p limit q = each_is (Option Moment) 33 q None

pub first_knows : (p : Profile) (limit : ℕ) → Knows new_host (new_disk p limit)
first_knows p limit = record {
  beside = refl;
  fits = λ q low. let P : Option Moment → Type 0 = λ x. FitsPlace q x in subst P (sym (first_at p limit q)) tt;
  waits = (refl, refl, ap is_under_way (first_at p limit 32));
  tags = λ t low. ap is_under_way (first_at p limit t);
  reset = refl;
  idle = λ no. absurd (cc);
  faulty = λ no. absurd (cc);
}

-- ## The laws

pub answers_are_single : wanted.AnswersAreSingle
answers_are_single p limit calls are = all_due calls new_host (new_disk p limit) are new_line (first_knows p limit)

pub known : (p : Profile) (limit : ℕ) (calls : List Call) → AreCalls (new_disk p limit) calls → Knows (host_of new_host calls) (reached p limit calls)
known p limit calls are = all_known calls new_host (new_disk p limit) are new_line (first_knows p limit)

heard_case : (h : Host) (d : DiskState) (f : List ℕ) → Knows h d → is_command f ≡ true → register_unheard d f ≡ unheard_of h
heard_case h d f knows e =
    ap (λ b. if b then command_unheard (standing d.front (tags_of (commands d))) else None) e ∙ heard_is h d.front d.engine.stage (commands d) (tags_of (commands d)) knows

lone_case : (h : Host) (l : Line) → LoneTags h l → (t : ℕ) → t < 32 → is_taken l t ≡ h.open_at t
lone_case h l lone t low = (lone t low).0 ∙ sym (lone t low).1

owed_case : (h : Host) (l : Line) (r : Reply) → OwesAs h r → OwedTags h r l → h.waits ≡ ForNothing → (t : ℕ) → t < 32 → is_taken l t ≡ h.open_at t
owed_case h l (replies.Failed f) owes tags free t low = absurd (let busy = owes_waits h (replies.Failed f) owes in let none = ap waits_for_nothing free in cc)
owed_case h l replies.Accepted owes tags free t low = tags t low
owed_case h l r owes tags free t low = lone_case h l tags t low

queued_case : (h : Host) (l : Line) (t' : Task) (x : Option Moment) → WaitsAs h t' x → TagsAs h t' l → h.waits ≡ ForNothing → (t : ℕ) → t < 32
    → is_taken l t ≡ h.open_at t
queued_case h l tasks.Idle x waits tags free t low = tags t low
queued_case h l (tasks.Owes r) x waits tags free t low = owed_case h l r waits.0 tags free t low
queued_case h l t' x waits tags free t low = lone_case h l tags t low

pub open_is_under_way : wanted.OpenIsUnderWay
open_is_under_way p limit calls are =
    let knows = known p limit calls are in
    record {
      heard = λ f e. heard_case (host_of new_host calls) (reached p limit calls) f knows e;
      queued = λ t low free.
          queued_case (host_of new_host calls) (commands (reached p limit calls)) _ _ knows.waits knows.tags free t low;
    }

chunk_is : (n k : ℕ) → n ≡ k → IsSome k → wanted.IsChunk n
chunk_is n k same is =
    let at' = is.is in let some = is.some in let most = is.most in
    record { some = omega (arith, same, at', some); most = omega (arith, same, at', most); whole = omega (arith, same, at') }

same_data : (p n k : ℕ) → Some (out.Data p n) ≡ Some (out.Data p k) → n ≡ k
same_data p n k e = cc

chunk_case : (d : DiskState) (p n : ℕ) (m : Moment) (stage : Stage) → IsPlace p (record m { stage = stage })
    → Some (out.Data p n) ≡ out_at d p (Some (record m { stage = stage })) → wanted.IsChunk n
chunk_case d p n m Sending fit e = chunk_is n _ (same_data p n _ e) (part_some_sectors m.command m.done m.bytes m.sent fit.whole fit.fits)
chunk_case d p n m stage fit e = absurd (cc)

pub parts_are_frames : wanted.PartsAreFrames
parts_are_frames p limit calls place n are is =
    let d = reached p limit calls in
    let x = sent_is d place (out.Data place n) is in
    chunk_case d place n x.0 x.0.stage (fit_at (host_of new_host calls) d place x.0 is.2.0 x.1.there (known p limit calls are)) x.1.is

-- A command that is under way at a place of a disk was under way there before a call, unless the call takes it.
use Rattle.std.proofs.Common.{◌≡◌, ℕ, zero, suc, true, false, List, [], ◌∷◌, ◌++◌, get_or, set, Some, None, refl, sym, ap, ◌∙◌, ◌⊎◌, inl, inr}
use Rattle.std.proofs.lemmas.Option.{same_Some}
use Rattle.std.specs.{Prelude.{Option, Bool, ◌&&◌, if◌then◌else◌}, Option.option_map}
use Rattle.block_command.specs.{declared.command.{Command.Command, Stage.{Stage, TheVariants.Ended}}, Moments.{Moment, after_came, after_failed}}
use Rattle.block_command.specs.{Moments.{after_flushed, after_loaded, after_stored, gone, is_ended, opening}, Laws.{Input, Goes, Comes, Loads}}
use Rattle.block_command.specs.Laws.{Stores, Flushes, Fails, after}
use Rattle.block_command.proofs.Door.{same_command}
use Rattle.block_disk.specs.{Requests.{Queue, is_out, with_table}, Table.{Table, is_under_way, with_command, with_input, with_taken}}
use Rattle.block_disk.proofs.Door.{each_is}
use Rattle.block_queue.specs.Deeds as deed
use Rattle.block_queue.specs.{Deeds.{Deed, after_deed}, Line.{Line, command_at, may_send, moved_back}}
use Rattle.block_scheduler.specs.{Sets.ends_at, Schedule.{Schedule, ends_all, ends_sent}, Laws.{Move, after_move, after_moves, deeds_of, end_deeds}}
use Rattle.block_scheduler.specs.Laws.{ends_deeds}
use Rattle.block_scheduler.specs.Laws as move
use Rattle.block_engine.specs.{declared.request.{Answer.Answer, Range.Range}, Engine.{EngineState, line, place_of}, Laws.{Step, after_step}}
use Rattle.block_engine.specs.Laws.{after_steps, answer_moves, moves_of}
use Rattle.block_engine.specs.declared.request.Answer.TheVariants as answers
use Rattle.block_engine.specs.Laws as engine
use Rattle.block_engine.proofs.Runs as engine_runs
use Rattle.sata_disk.specs.{State.{DiskState, commands}, declared.out.Out.Out}
use Rattle.sata_disk.specs.declared.out.Out.TheVariants as out
use Rattle.sata_disk_laws.specs.Calls as call
use Rattle.sata_disk_laws.specs.Calls.{Call, after_call, ask_steps, out_steps, range_steps, start_steps, steps_of}
use Rattle.sata_disk_books.proofs.Door.{after_deeds, call_after, moved}

-- ---- the command of a place, if it is under way

abbrev pub held_of : Option Moment → Option Command
held_of None = None
held_of (Some m) = if is_ended m.stage then None else Some m.command

some_case : (b : Bool) (x c : Command) → (if b then None else Some x) ≡ Some c → (b ≡ false) × (x ≡ c)
some_case true x c h = absurd (cc)
some_case false x c h = (refl, same_Some x c h)

pub held_parts : (m : Moment) (c : Command) → held_of (Some m) ≡ Some c → (is_ended m.stage ≡ false) × (m.command ≡ c)
held_parts m c h = some_case (is_ended m.stage) m.command c h

pub held_is : (m : Moment) → is_ended m.stage ≡ false → held_of (Some m) ≡ Some m.command
held_is m e = ap (λ (b : Bool). if b then None else Some m.command) e

ended_is : (s : Stage) → is_ended s ≡ true → s ≡ Ended
ended_is Ended e = refl
ended_is s e = absurd (cc)

after_ended : (m : Moment) (i : Input) → m.stage ≡ Ended → after m i ≡ m
after_ended m Goes e = ap (λ (s : Stage). gone m s) e
after_ended m (Loads bytes) e = ap (λ (s : Stage). after_loaded m s bytes) e
after_ended m (Comes part) e = ap (λ (s : Stage). after_came m s part) e
after_ended m Stores e = ap (λ (s : Stage). after_stored m s) e
after_ended m Flushes e = ap (λ (s : Stage). after_flushed m s) e
after_ended m Fails e = ap (λ (s : Stage). after_failed m s) e

held_after : (m : Moment) (i : Input) (c : Command) → held_of (Some (after m i)) ≡ Some c → held_of (Some m) ≡ Some c
held_after m i c h = by (is_ended m.stage) refl
  where
    by : (b : Bool) → is_ended m.stage ≡ b → held_of (Some m) ≡ Some c
    by true e = ap (λ (x : Moment). held_of (Some x)) (sym (after_ended m i (ended_is m.stage e))) ∙ h
    by false e =
        held_is m e ∙ ap Some (sym (same_command m.command m.done m.bytes m.sent m.stage i) ∙ (held_parts (after m i) c h).1)

pub held_map : (x : Option Moment) (i : Input) (c : Command) → held_of (option_map (λ m. after m i) x) ≡ Some c → held_of x ≡ Some c
held_map None i c h = h
held_map (Some m) i c h = held_after m i c h

-- ---- deeds of a line

pub set_held : (xs : List (Option Moment)) (place tag : ℕ) (y : Option Moment) (c : Command)
    → (held_of y ≡ Some c → held_of (get_or xs place None) ≡ Some c)
    → held_of (get_or (set xs place y) tag None) ≡ Some c → held_of (get_or xs tag None) ≡ Some c
set_held [] place tag y c step h = h
set_held (x ∷ xs) zero zero y c step h = step h
set_held (x ∷ xs) zero (suc tag) y c step h = h
set_held (x ∷ xs) (suc place) zero y c step h = h
set_held (x ∷ xs) (suc place) (suc tag) y c step h = set_held xs place tag y c step h

given : (xs : List (Option Moment)) (place tag : ℕ) (i : Input) (c : Command)
    → held_of (get_or (set xs place (option_map (λ m. after m i) (get_or xs place None))) tag None) ≡ Some c → held_of (get_or xs tag None) ≡ Some c
given xs place tag i c h = set_held xs place tag (option_map (λ m. after m i) (get_or xs place None)) c (held_map (get_or xs place None) i c) h

abbrev pub held_at : Line → ℕ → Option Command
held_at l tag = held_of (command_at l tag)

either_held : (q r : Queue) (tag : ℕ) (c : Command) (b : Bool)
    → (held_of (get_or r.table.places tag None) ≡ Some c → held_of (get_or q.table.places tag None) ≡ Some c)
    → held_of (get_or (if b then r else q).table.places tag None) ≡ Some c → held_of (get_or q.table.places tag None) ≡ Some c
either_held q r tag c true step h = step h
either_held q r tag c false step h = h

abbrev TakesNone : Deed → Type 0
TakesNone (deed.Takes c) = ⊥
TakesNone other = Unit {0}

abbrev TakeNone : List Deed → Type 0
TakeNone [] = Unit {0}
TakeNone (d ∷ later) = TakesNone d × TakeNone later

deed_held : (l : Line) (d : Deed) (tag : ℕ) (c : Command) → TakesNone d → held_at (after_deed l d) tag ≡ Some c → held_at l tag ≡ Some c
deed_held l (deed.Takes k) tag c none h = absurd none
deed_held l (deed.Starts place) tag c none h = given l.queue.table.places place tag Goes c h
deed_held l (deed.Sends place) tag c none h = given l.queue.table.places place tag Goes c h
deed_held l (deed.Asks place) tag c none h = given l.queue.table.places place tag Goes c h
deed_held l (deed.Hears place part) tag c none h = given l.queue.table.places place tag (Comes part) c h
deed_held l (deed.Answers place number i) tag c none h =
    let other : Queue = record l.queue { table = with_input l.queue.table place i; out = set l.queue.out place 0 } in
    either_held l.queue other tag c (is_out l.queue.out place number) (given l.queue.table.places place tag i c) h
deed_held l deed.Resets tag c none h = absurd (by (ap held_of (sym (each_is (Option Moment) 33 tag None)) ∙ h))
  where
    by : held_of None ≡ Some c → ⊥
    by e = cc
deed_held l deed.Draws tag c none h = h

deeds_held : (ds : List Deed) (l : Line) (tag : ℕ) (c : Command) → TakeNone ds → held_at (after_deeds l ds) tag ≡ Some c → held_at l tag ≡ Some c
deeds_held [] l tag c none h = h
deeds_held (d ∷ later) l tag c none h = deed_held l d tag c none.0 (deeds_held later (after_deed l d) tag c none.1 h)

-- ---- moves of a scheduler

none_both : (ds es : List Deed) → TakeNone ds → TakeNone es → TakeNone (ds ++ es)
none_both [] es a b = b
none_both (d ∷ ds) es a b = (a.0, none_both ds es a.1 b)

end_none : (tag : ℕ) (b : Bool) → TakeNone (if b then deed.Sends tag ∷ [] else [])
end_none tag true = (tt, tt)
end_none tag false = tt

ends_none : (l : Line) (n : ℕ) → TakeNone (ends_deeds l n)
unfolding ends_deeds
ends_none l zero = tt
ends_none l (suc n) = none_both (ends_deeds l n) (end_deeds (ends_sent l n) n) (ends_none l n) (end_none n (ends_at (ends_sent l n) n && may_send (ends_sent l n) n))

sent_none : (place : ℕ) (b : Bool) → TakeNone (if b then deed.Sends place ∷ deed.Resets ∷ [] else deed.Sends place ∷ [])
sent_none place true = (tt, (tt, tt))
sent_none place false = (tt, tt)

abbrev MovesNone : Move → Type 0
MovesNone (move.Takes c) = ⊥
MovesNone other = Unit {0}

abbrev MoveNone : List Move → Type 0
MoveNone [] = Unit {0}
MoveNone (m ∷ later) = MovesNone m × MoveNone later

move_none : (s : Schedule) (m : Move) → MovesNone m → TakeNone (deeds_of s m)
move_none s (move.Takes c) none = absurd none
move_none s (move.Sends place) none = sent_none place (ends_all s.line place)
move_none s move.SendsEnds none = ends_none s.line 32
move_none s move.Forgives none = tt
move_none s (move.Starts place) none = (tt, tt)
move_none s (move.Asks place) none = (tt, tt)
move_none s (move.Hears place part) none = (tt, tt)
move_none s (move.Answers place number i) none = (tt, tt)
move_none s move.Draws none = (tt, tt)
move_none s move.Resets none = (tt, tt)

move_held : (s : Schedule) (m : Move) (tag : ℕ) (c : Command) → MovesNone m → held_at (after_move s m).line tag ≡ Some c → held_at s.line tag ≡ Some c
move_held s m tag c none h = deeds_held (deeds_of s m) s.line tag c (move_none s m none) (ap (λ (l : Line). held_at l tag) (sym (moved s m)) ∙ h)

moves_held : (ms : List Move) (s : Schedule) (tag : ℕ) (c : Command) → MoveNone ms → held_at (after_moves s ms).line tag ≡ Some c → held_at s.line tag ≡ Some c
unfolding after_moves
moves_held [] s tag c none h = h
moves_held (m ∷ later) s tag c none h = move_held s m tag c none.0 (moves_held later (after_move s m) tag c none.1 h)

-- ---- steps of an engine

abbrev pub StepsNone : Step → Type 0
StepsNone (engine.Takes c) = ⊥
StepsNone other = Unit {0}

abbrev pub StepNone : List Step → Type 0
StepNone [] = Unit {0}
StepNone (s ∷ later) = StepsNone s × StepNone later

answer_none : (e : EngineState) (x : Option ℕ) (number : ℕ) (a : Answer) → MoveNone (answer_moves e x number a)
answer_none e None number a = tt
answer_none e (Some p) number (answers.Loaded bytes) = (tt, tt)
answer_none e (Some p) number answers.Done = (tt, tt)
answer_none e (Some p) number (answers.Failed f) = (tt, tt)

step_none : (e : EngineState) (s : Step) → StepsNone s → MoveNone (moves_of e s)
step_none e (engine.Takes c) none = absurd none
step_none e (engine.TakesAside k ranges) none = tt
step_none e (engine.Answers number a) none = answer_none e (place_of e number) number a
step_none e engine.SendsAside none = tt
step_none e (engine.Starts p) none = (tt, tt)
step_none e (engine.Asks p) none = (tt, tt)
step_none e engine.AsksAside none = (tt, tt)
step_none e (engine.Hears p part) none = (tt, tt)
step_none e (engine.Sends p) none = (tt, tt)
step_none e engine.SendsEnds none = (tt, tt)
step_none e engine.Forgives none = (tt, tt)
step_none e engine.Resets none = (tt, tt)

step_held : (e : EngineState) (s : Step) (tag : ℕ) (c : Command) → StepsNone s → held_at (line (after_step e s)) tag ≡ Some c → held_at (line e) tag ≡ Some c
step_held e s tag c none h =
    moves_held (moves_of e s) e.schedule tag c (step_none e s none) (ap (λ (x : Schedule). held_at x.line tag) (sym (engine_runs.moved e s)) ∙ h)

steps_held : (ss : List Step) (e : EngineState) (tag : ℕ) (c : Command) → StepNone ss → held_at (line (after_steps e ss)) tag ≡ Some c → held_at (line e) tag ≡ Some c
unfolding after_steps
steps_held [] e tag c none h = h
steps_held (s ∷ later) e tag c none h = step_held e s tag c none.0 (steps_held later (after_step e s) tag c none.1 h)

-- ---- calls of a disk

pub call_held : (d : DiskState) (x : Call) (tag : ℕ) (c : Command) → StepNone (steps_of d x) → held_at (commands (after_call d x)) tag ≡ Some c → held_at (commands d) tag ≡ Some c
call_held d x tag c none h =
    steps_held (steps_of d x) d.engine tag c none (ap (λ (e : EngineState). held_at (line e) tag) (sym (call_after d x)) ∙ h)

pub range_none : (x : Option (List Range)) → StepNone (range_steps x)
range_none None = tt
range_none (Some ranges) = (tt, tt)

start_none : (x : Option ℕ) → StepNone (start_steps x)
start_none None = tt
start_none (Some p) = (tt, tt)

ask_none : (x : Option ℕ) → StepNone (ask_steps x)
ask_none None = (tt, tt)
ask_none (Some p) = (tt, tt)

out_none : (o : Out) → StepNone (out_steps o)
out_none (out.Own r) = tt
out_none (out.Page p) = tt
out_none (out.Beside r) = (tt, tt)
out_none (out.Ends tags) = (tt, tt)
out_none (out.Of p r) = (tt, (tt, tt))
out_none (out.Data p n) = (tt, (tt, tt))

abbrev pub IsNoFis : Call → Type 0
IsNoFis (call.Hears f) = ⊥
IsNoFis other = Unit {0}

-- only a FIS has a command taken
pub others_none : (d : DiskState) (x : Call) → IsNoFis x → StepNone (steps_of d x)
others_none d (call.Hears f) is = absurd is
others_none d call.Plugs is = (tt, tt)
others_none d (call.Starts x) is = start_none x
others_none d (call.Asks r) is = ask_none r.place
others_none d (call.Answers number a) is = (tt, tt)
others_none d (call.Sends o) is = out_none o

-- ---- a command that is taken

-- it was there, or it is this one, and this is its place
abbrev pub WasOr : (was : Option Command) → (k : Command) → (tag : ℕ) → (c : Command) → Type 0
WasOr was k tag c = (was ≡ Some c) ⊎ ((c ≡ k) × (k.place ≡ tag))

set_new : (xs : List (Option Moment)) (place tag : ℕ) (y : Option Moment) (c : Command) → held_of (get_or (set xs place y) tag None) ≡ Some c
    → (held_of (get_or xs tag None) ≡ Some c) ⊎ ((held_of y ≡ Some c) × (place ≡ tag))
set_new [] place tag y c h = inl h
set_new (x ∷ xs) zero zero y c h = inr (h, refl)
set_new (x ∷ xs) zero (suc tag) y c h = inl h
set_new (x ∷ xs) (suc place) zero y c h = inl h
set_new (x ∷ xs) (suc place) (suc tag) y c h = elim (set_new xs place tag y c h) [
  | inl was ↦ inl was
  | inr new ↦ inr (new.0, ap suc new.1)
]

table_takes : (t : Table) (k : Command) (tag : ℕ) (c : Command) (b : Bool) → held_of (get_or (if b then t else with_command t k.place (Some (opening k))).places tag None) ≡ Some c
    → WasOr (held_of (get_or t.places tag None)) k tag c
table_takes t k tag c true h = inl h
table_takes t k tag c false h = elim (set_new t.places k.place tag (Some (opening k)) c h) [
  | inl was ↦ inl was
  | inr new ↦ inr (sym (held_parts (opening k) c new.0).1, new.1)
]

line_takes : (l : Line) (k : Command) (tag : ℕ) (c : Command) (b : Bool) (ranks : List ℕ)
    → held_at (if b then l else record l { queue = with_table l.queue (with_taken l.queue.table k); ranks = ranks }) tag ≡ Some c → WasOr (held_at l tag) k tag c
line_takes l k tag c true ranks h = inl h
line_takes l k tag c false ranks h = table_takes l.queue.table k tag c (is_under_way (command_at l k.place)) h

step_takes : (e : EngineState) (k : Command) (tag : ℕ) (c : Command) → held_at (line (after_steps e (engine.Takes k ∷ []))) tag ≡ Some c → WasOr (held_at (line e) tag) k tag c
unfolding after_steps
step_takes e k tag c h = line_takes (line e) k tag c (is_under_way (command_at (line e) k.place)) (moved_back (line e).ranks k.place) h

pub call_takes : (d : DiskState) (x : Call) (k : Command) (tag : ℕ) (c : Command) → steps_of d x ≡ engine.Takes k ∷ [] → held_at (commands (after_call d x)) tag ≡ Some c
    → WasOr (held_at (commands d) tag) k tag c
call_takes d x k tag c is h =
    step_takes d.engine k tag c (ap (λ (ss : List Step). held_at (line (after_steps d.engine ss)) tag) (sym is) ∙ ap (λ (e : EngineState). held_at (line e) tag) (sym (call_after d x)) ∙ h)

-- A run that goes on: what it shows is what it showed before, and then what the last calls show where the disk stands then.
use Rattle.std.proofs.Common.{◌≡◌, ℕ, zero, suc, true, false, List, [], ◌∷◌, ◌++◌, drop, Some, None, refl, sym, ap, ◌∙◌, append_assoc}
use Rattle.std.specs.Prelude.{Option, Bool, if◌then◌else◌, Result, Ok}
use Rattle.fis_view.specs.{Seen.seen as view_seen, declared.view.{Fis.Fis, FisFault.FisFault}}
use Rattle.fis_view.specs.declared.view.Fis.TheVariants as view
use Rattle.block_disk.specs.Requests.{AreSeenRightly, Books, Seen, entered_by, seen}
use Rattle.block_queue.specs.Deeds as deed
use Rattle.block_queue.specs.{Deeds.{Deed, act_of, after_deed, seen_of}, Line.{Line, line_gone, line_reset}}
use Rattle.block_scheduler.specs.{Schedule.{Schedule, ends_sent, with_line}, Laws.{Move, Sends, SendsEnds, after_move, after_moves, all_deeds}}
use Rattle.block_scheduler.specs.Laws.{deeds_of, ends_deeds}
use Rattle.block_engine.specs.{declared.request.Range.Range, Engine.{EngineState, started}, Laws.{Step, after_step, after_steps, all_moves, moves_of}}
use Rattle.block_engine.specs.Laws as engine
use Rattle.block_engine.proofs.Runs as engine_runs
use Rattle.ata_front.specs.{Fronts.heard_data, declared.task.Act.Act}
use Rattle.ata_front.specs.declared.task.Act.TheVariants as act
use Rattle.sata_disk.specs.{State.{DiskState, commands}, Hearing.{data_by, discarding, engine_acted, fis_heard, register_told}, Sending.after_sent}
use Rattle.sata_disk.specs.declared.out.Out.{Out}
use Rattle.sata_disk.specs.declared.out.Out.TheVariants as out
use Rattle.sata_disk_laws.specs.Calls as call
use Rattle.sata_disk_laws.specs.Calls.{Call, act_steps, after_call, after_calls, all_steps, ask_steps, asked_by, data_steps, fis_steps, out_steps}
use Rattle.sata_disk_laws.specs.Calls.{range_steps, start_steps, steps_of}
use Rattle.sata_disk_books.specs.Books.{books_after}

-- ## Books

pub books_both : (xs ys : List Seen) (b : Books) → books_after b (xs ++ ys) ≡ books_after (books_after b xs) ys
unfolding books_after
books_both [] ys b = refl
books_both (x ∷ xs) ys b = books_both xs ys (entered_by b x)

pub rightly_first : (xs ys : List Seen) (b : Books) → AreSeenRightly b (xs ++ ys) → AreSeenRightly b xs
rightly_first [] ys b are = tt
rightly_first (x ∷ xs) ys b are = (are.0, rightly_first xs ys (entered_by b x) are.1)

pub rightly_then : (xs ys : List Seen) (b : Books) → AreSeenRightly b (xs ++ ys) → AreSeenRightly (books_after b xs) ys
unfolding books_after
rightly_then [] ys b are = are
rightly_then (x ∷ xs) ys b are = rightly_then xs ys (entered_by b x) are.1

-- ## Deeds of a line

abbrev pub after_deeds : Line → List Deed → Line
after_deeds l [] = l
after_deeds l (d ∷ later) = after_deeds (after_deed l d) later

pub deeds_both : (ds es : List Deed) (l : Line) → after_deeds l (ds ++ es) ≡ after_deeds (after_deeds l ds) es
deeds_both [] es l = refl
deeds_both (d ∷ ds) es l = deeds_both ds es (after_deed l d)

pub seen_both : (ds es : List Deed) (l : Line) → seen_of l (ds ++ es) ≡ seen_of l ds ++ seen_of (after_deeds l ds) es
unfolding seen_of
seen_both [] es l = refl
seen_both (d ∷ ds) es l = ap (λ x. seen l.queue (act_of d) ∷ x) (seen_both ds es (after_deed l d))

-- ## Moves of a scheduler

end_case : (l : Line) (tag : ℕ) (b : Bool) → after_deeds l (if b then deed.Sends tag ∷ [] else []) ≡ (if b then line_gone l tag else l)
end_case l tag true = refl
end_case l tag false = refl

pub ends_after : (l : Line) (n : ℕ) → after_deeds l (ends_deeds l n) ≡ ends_sent l n
unfolding ends_sent ends_deeds
ends_after l zero = refl
ends_after l (suc n) =
    deeds_both (ends_deeds l n) _ l ∙ rw (ends_after l n) (end_case (ends_sent l n) n _)

sent_case : (s : Schedule) (place : ℕ) (b : Bool)
    → (if b then record { line = line_reset (line_gone s.line place); limit = s.limit; fault = Some place } else with_line s (line_gone s.line place)).line
    ≡ after_deeds s.line (if b then deed.Sends place ∷ deed.Resets ∷ [] else deed.Sends place ∷ [])
sent_case s place true = refl
sent_case s place false = refl

pub moved : (s : Schedule) (m : Move) → (after_move s m).line ≡ after_deeds s.line (deeds_of s m)
moved s (Sends place) = sent_case s place _
moved s SendsEnds = sym (ends_after s.line 32)
moved s other = refl

pub line_after : (ms : List Move) (s : Schedule) → (after_moves s ms).line ≡ after_deeds s.line (all_deeds s ms)
unfolding after_moves all_deeds
line_after [] s = refl
line_after (m ∷ later) s = line_after later (after_move s m) ∙ ap (λ x. after_deeds x (all_deeds (after_move s m) later)) (moved s m)
    ∙ sym (deeds_both (deeds_of s m) (all_deeds (after_move s m) later) s.line)

moves_both : (ms ns : List Move) (s : Schedule) → after_moves s (ms ++ ns) ≡ after_moves (after_moves s ms) ns
unfolding after_moves
moves_both [] ns s = refl
moves_both (m ∷ ms) ns s = moves_both ms ns (after_move s m)

pub all_deeds_both : (ms ns : List Move) (s : Schedule) → all_deeds s (ms ++ ns) ≡ all_deeds s ms ++ all_deeds (after_moves s ms) ns
unfolding after_moves all_deeds
all_deeds_both [] ns s = refl
all_deeds_both (m ∷ ms) ns s = ap (λ x. deeds_of s m ++ x) (all_deeds_both ms ns (after_move s m)) ∙ sym (append_assoc (deeds_of s m) (all_deeds (after_move s m) ms) _)

-- ## Steps of an engine

none_moves : (s : Schedule) → s ≡ after_moves s []
unfolding after_moves
none_moves s = refl

schedule_after : (ss : List Step) (e : EngineState) → (after_steps e ss).schedule ≡ after_moves e.schedule (all_moves e ss)
unfolding after_steps all_moves
schedule_after [] e = none_moves e.schedule
schedule_after (s ∷ later) e = schedule_after later (after_step e s) ∙ ap (λ x. after_moves x (all_moves (after_step e s) later)) (engine_runs.moved e s)
    ∙ sym (moves_both (moves_of e s) (all_moves (after_step e s) later) e.schedule)

steps_both : (ss ts : List Step) (e : EngineState) → after_steps e (ss ++ ts) ≡ after_steps (after_steps e ss) ts
unfolding after_steps
steps_both [] ts e = refl
steps_both (s ∷ ss) ts e = steps_both ss ts (after_step e s)

all_moves_both : (ss ts : List Step) (e : EngineState) → all_moves e (ss ++ ts) ≡ all_moves e ss ++ all_moves (after_steps e ss) ts
unfolding after_steps all_moves
all_moves_both [] ts e = refl
all_moves_both (s ∷ ss) ts e = ap (λ x. moves_of e s ++ x) (all_moves_both ss ts (after_step e s)) ∙ sym (append_assoc (moves_of e s) (all_moves (after_step e s) ss) _)

-- ## Calls of a disk

none_steps : (e : EngineState) → e ≡ after_steps e []
unfolding after_steps
none_steps e = refl

one_step : (e : EngineState) (s : Step) → after_step e s ≡ after_steps e (s ∷ [])
unfolding after_steps
one_step e s = refl

two_steps : (e : EngineState) (s t : Step) → after_step (after_step e s) t ≡ after_steps e (s ∷ t ∷ [])
unfolding after_steps
two_steps e s t = refl

act_after : (e : EngineState) (a : Act) → engine_acted e a ≡ after_steps e (act_steps e a)
act_after e act.Nothing = none_steps e
act_after e act.Resets = one_step e engine.Resets
act_after e other = one_step e _

range_after : (d : DiskState) (x : Option (List Range)) → (discarding d x).engine ≡ after_steps d.engine (range_steps x)
range_after d None = none_steps d.engine
range_after d (Some ranges) = one_step d.engine _

data_after : (d : DiskState) (x : Option ℕ) (bytes : List ℕ) → (data_by d x bytes).engine ≡ after_steps d.engine (data_steps d x bytes)
data_after d None bytes = one_step d.engine _
data_after d (Some blocks) bytes = range_after d _

fis_after : (d : DiskState) (x : Result Fis FisFault) → (fis_heard d x).engine ≡ after_steps d.engine (fis_steps d x)
fis_after d (Ok (view.RegH2D f)) = act_after d.engine (register_told d f).act
fis_after d (Ok (view.Payload f)) = data_after d (heard_data d.front.task) (drop 4 f)
fis_after d other = none_steps d.engine

start_after : (e : EngineState) (x : Option ℕ) → started e x ≡ after_steps e (start_steps x)
start_after e None = none_steps e
start_after e (Some p) = one_step e _

ask_after : (e : EngineState) (x : Option ℕ) → asked_by e x ≡ after_steps e (ask_steps x)
ask_after e None = one_step e engine.AsksAside
ask_after e (Some p) = one_step e _

out_after : (d : DiskState) (o : Out) → (after_sent d o).engine ≡ after_steps d.engine (out_steps o)
out_after d (out.Beside r) = one_step d.engine engine.SendsAside
out_after d (out.Ends tags) = one_step d.engine engine.SendsEnds
out_after d (out.Of p r) = two_steps d.engine (engine.Sends p) engine.Forgives
out_after d (out.Data p n) = two_steps d.engine (engine.Sends p) engine.Forgives
out_after d other = none_steps d.engine

pub call_after : (d : DiskState) (c : Call) → (after_call d c).engine ≡ after_steps d.engine (steps_of d c)
call_after d call.Plugs = one_step d.engine engine.Resets
call_after d (call.Hears f) = fis_after d (view_seen f)
call_after d (call.Starts x) = start_after d.engine x
call_after d (call.Asks r) = ask_after d.engine r.place
call_after d (call.Answers number a) = one_step d.engine _
call_after d (call.Sends o) = out_after d o

engine_after : (calls : List Call) (d : DiskState) → (after_calls d calls).engine ≡ after_steps d.engine (all_steps d calls)
unfolding after_calls all_steps
engine_after [] d = none_steps d.engine
engine_after (c ∷ later) d = engine_after later (after_call d c) ∙ ap (λ e. after_steps e (all_steps (after_call d c) later)) (call_after d c)
    ∙ sym (steps_both (steps_of d c) (all_steps (after_call d c) later) d.engine)

all_steps_both : (calls later : List Call) (d : DiskState) → all_steps d (calls ++ later) ≡ all_steps d calls ++ all_steps (after_calls d calls) later
unfolding after_calls all_steps
all_steps_both [] later d = refl
all_steps_both (c ∷ calls) later d = ap (λ x. steps_of d c ++ x) (all_steps_both calls later (after_call d c)) ∙ sym (append_assoc (steps_of d c) (all_steps (after_call d c) calls) _)

-- ## All of them

-- what a disk shows by these calls from where it stands
abbrev pub shown_from : DiskState → List Call → List Seen
shown_from d calls = seen_of (commands d) (all_deeds d.engine.schedule (all_moves d.engine (all_steps d calls)))

pub line_then : (d : DiskState) (calls : List Call) → commands (after_calls d calls) ≡ after_deeds (commands d) (all_deeds d.engine.schedule (all_moves d.engine (all_steps d calls)))
line_then d calls = ap (λ (e : EngineState). e.schedule.line) (engine_after calls d) ∙ ap (λ (s : Schedule). s.line) (schedule_after (all_steps d calls) d.engine)
    ∙ line_after (all_moves d.engine (all_steps d calls)) d.engine.schedule

schedule_then : (d : DiskState) (calls : List Call) → (after_calls d calls).engine.schedule ≡ after_moves d.engine.schedule (all_moves d.engine (all_steps d calls))
schedule_then d calls = ap (λ (e : EngineState). e.schedule) (engine_after calls d) ∙ schedule_after (all_steps d calls) d.engine

pub shown_both : (d : DiskState) (calls later : List Call) → shown_from d (calls ++ later) ≡ shown_from d calls ++ shown_from (after_calls d calls) later
shown_both d calls later =
    ap (λ x. seen_of (commands d) (all_deeds d.engine.schedule (all_moves d.engine x))) (all_steps_both calls later d)
    ∙ ap (λ x. seen_of (commands d) (all_deeds d.engine.schedule x)) (all_moves_both (all_steps d calls) (all_steps (after_calls d calls) later) d.engine)
    ∙ ap (λ x. seen_of (commands d) x) (all_deeds_both (all_moves d.engine (all_steps d calls)) (all_moves (after_steps d.engine (all_steps d calls)) (all_steps (after_calls d calls) later)) d.engine.schedule)
    ∙ seen_both (all_deeds d.engine.schedule (all_moves d.engine (all_steps d calls)))
    (all_deeds (after_moves d.engine.schedule (all_moves d.engine (all_steps d calls))) (all_moves (after_steps d.engine (all_steps d calls)) (all_steps (after_calls d calls) later))) (commands d)
    ∙ ap (λ x. shown_from d calls ++ x) (
    ap (λ (l : Line). seen_of l (all_deeds (after_moves d.engine.schedule (all_moves d.engine (all_steps d calls))) (all_moves (after_steps d.engine (all_steps d calls)) (all_steps (after_calls d calls) later)))) (sym (line_then d calls))
    ∙ ap (λ (s : Schedule). seen_of (commands (after_calls d calls)) (all_deeds s (all_moves (after_steps d.engine (all_steps d calls)) (all_steps (after_calls d calls) later)))) (sym (schedule_then d calls))
    ∙ ap (λ (e : EngineState). seen_of (commands (after_calls d calls)) (all_deeds (after_calls d calls).engine.schedule (all_moves e (all_steps (after_calls d calls) later)))) (sym (engine_after calls d)))

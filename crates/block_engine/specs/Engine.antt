-- The engine of a block disk: what it asks the caller for, what it makes of the answers, and which FIS goes next.
use Rattle.std.specs.Prelude.{ℕ, ◌≡◌, ◌+◌, ◌^◌, ◌<◌, ◌≤◌, ◌==◌, nat_lt, nat_le, Bool, true, false, not, ◌&&◌, ◌||◌, ◌⊎◌, List, [], Option, Some, None}
use Rattle.std.specs.Prelude.{is_none, replicate, slice_set, if◌then◌else◌}
use Rattle.block_command.specs.declared.{answer.AnswerError.{AnswerError, TheVariants.{NotOut, OtherKind, OtherSector}}, command.Command.Command}
use Rattle.block_command.specs.{declared.command.Turn.Turn, Moments.{Moment, is_storing, part_count, part_lba, runs, turn_of}, Laws.{Input, Loads}}
use Rattle.block_command.specs.Laws.{Stores, Flushes, Fails}
use Rattle.block_command.specs.declared.command.Turn.TheVariants as turn
use Rattle.block_disk.specs.{Table.{is_under_way, starts_write_at}, Requests.{number_at, with_asked, with_drawn}}
use Rattle.block_queue.specs.Line.{IsOldest, Line, PassesNowhere, awaits, command_at, first_below, line_answered, line_gone, line_refusal, line_reset}
use Rattle.block_queue.specs.Line.{line_taken, may_send, with_queue}
use Rattle.block_scheduler.specs.declared.scheduler.NextFis.TheVariants as fis
use Rattle.block_scheduler.specs.{Sets.asks_at, Schedule.{IsNextFis, IsNextStart, Schedule, is_quiet, none_scheduled, with_line}}
use Rattle.block_engine.specs.declared.aside.{AsideKind.AsideKind, AsideStage.{AsideStage, TheVariants.{Idle, Waiting, Asked}}}
use Rattle.block_engine.specs.declared.{engine.EngineFis.{EngineFis, TheVariants.{Ends, Of, Aside}}, request.Answer.{Answer, TheVariants.Loaded}}
use Rattle.block_engine.specs.declared.request.{Answer.TheVariants.{Done, Failed}, Failure.Failure, ErrorKind.{ErrorKind, TheVariants.Uncorrectable}}
use Rattle.block_engine.specs.{declared.request.{Range.Range, Request.Request, What.What}, Aside.{asks_for, is_over, is_waiting, settled}}
use Rattle.block_engine.specs.Numbers.{is_number}
use Rattle.block_engine.specs.declared.aside.AsideKind.TheVariants as kinds
use Rattle.block_engine.specs.declared.request.What.TheVariants as what

pub record EngineState : Type 0 where
  pub schedule : Schedule
  -- the command beside the queue, and what it discards
  pub kind : AsideKind
  pub stage : AsideStage
  pub ranges : List Range
  -- the number of the discard that a reset dropped while it was out, and that is not answered
  pub dropped : Option ℕ
  -- of the command of each place what the caller answered, if that is a failure; of place 32 also of the command beside the queue
  pub failures : List (Option Failure)

abbrev pub none_engaged : ℕ → EngineState
none_engaged limit = record {
  schedule = none_scheduled limit;
  kind = kinds.Flush;
  stage = Idle;
  ranges = [];
  dropped = None;
  failures = replicate 33 None;
}

abbrev pub line : EngineState → Line
line e = e.schedule.line

abbrev pub with_schedule : EngineState → Schedule → EngineState
with_schedule e s = record e { schedule = s }

abbrev pub on_line : EngineState → Line → EngineState
on_line e l = record e { schedule = with_line e.schedule l }

-- ## Commands are taken: none has failed yet

abbrev pub unfailed : EngineState → ℕ → List (Option Failure)
unfailed e p = slice_set e.failures p None

abbrev pub taken : EngineState → Command → EngineState
taken e c = record e {
  schedule = with_line e.schedule (line_taken (line e) c);
  failures = if is_under_way (command_at (line e) c.place) then e.failures else unfailed e c.place;
}

abbrev pub aside_taken : EngineState → AsideKind → List Range → EngineState
aside_taken e k ranges = record e { kind = k; stage = Waiting; ranges = ranges; failures = unfailed e 32 }

abbrev pub is_discard : AsideKind → Bool
is_discard kinds.Discard = true
is_discard kinds.Flush = false

abbrev pub is_asked : AsideStage → Bool
is_asked (Asked number) = true
is_asked _ = false

-- a discard is out: nothing starts, since it may have any sector
abbrev pub discards : EngineState → Bool
discards e = (is_discard e.kind && is_asked e.stage) || not (is_none e.dropped)

-- it may ask: no command is under way, no dropped store is out, and no dropped discard
abbrev pub may_ask : EngineState → Bool
may_ask e = is_waiting e.stage && is_quiet (line e) && is_none e.dropped

abbrev pub with_failures : EngineState → List (Option Failure) → EngineState
with_failures e failures = record e { failures = failures }

-- ## What starts

abbrev pub IsEngineStart : EngineState → Option ℕ → Type 0
IsEngineStart e (Some p) = (discards e ≡ false) × IsNextStart e.schedule (Some p)
IsEngineStart e None = (discards e ≡ true) ⊎ IsNextStart e.schedule None

-- what starts next is a write: its start takes memory
pub record StartsWrite (e : EngineState) : Type 0 where
  pub place : ℕ
  pub next : IsEngineStart e (Some place)
  pub writes : starts_write_at (command_at (line e) place) ≡ true

abbrev pub started : EngineState → Option ℕ → EngineState
started e None = e
started e (Some p) = on_line e (line_gone (line e) p)

-- ## What the caller is asked for

abbrev pub what_of : Moment → Turn → What
what_of m turn.Load = what.Load (part_lba m) (part_count m.command m.done)
what_of m turn.Store = what.Store (part_lba m) (part_count m.command m.done)
what_of m _ = what.Flush

abbrev pub what_at : Option Moment → What
what_at None = what.Flush
what_at (Some m) = what_of m (turn_of m.stage)

abbrev pub aside_what : AsideKind → What
aside_what kinds.Flush = what.Flush
aside_what kinds.Discard = what.Discard

abbrev pub place_asked : EngineState → ℕ → EngineState
place_asked e p = on_line e (with_queue (line e) (with_asked (line e).queue p))

abbrev pub aside_asked : EngineState → EngineState
aside_asked e = record e {
  schedule = with_line e.schedule (with_queue (line e) (with_drawn (line e).queue));
  stage = Asked (line e).queue.next;
}

-- 2 ^ 63 numbers were given, or nothing is to be asked
abbrev pub AsksNothing : EngineState → Type 0
AsksNothing e = (2 ^ 63 ≤ (line e).queue.next) ⊎ ((may_ask e ≡ false) × PassesNowhere (asks_at (line e)))

abbrev pub IsAskedOf : EngineState → EngineState → Request → Option ℕ → Type 0
IsAskedOf old new r (Some p) = IsOldest (line old).ranks (asks_at (line old)) p × (new ≡ place_asked old p) × (r.what ≡ what_at (command_at (line old) p))
IsAskedOf old new r None = PassesNowhere (asks_at (line old)) × (may_ask old ≡ true) × (new ≡ aside_asked old) × (r.what ≡ aside_what old.kind)

-- the request of the oldest command that has one, or else that of the command beside the queue
abbrev pub IsRequested : EngineState → EngineState → Option Request → Type 0
IsRequested old new None = (new ≡ old) × AsksNothing old
IsRequested old new (Some r) = (r.number ≡ (line old).queue.next) × IsAskedOf old new r r.place

-- ## Answers

abbrev pub is_uncorrectable : ErrorKind → Bool
is_uncorrectable Uncorrectable = true
is_uncorrectable _ = false

-- the request that is out of a command is about the sectors of its part: not so a flush
abbrev pub has_part : Moment → Bool
has_part m = runs m.stage && (not m.command.write || is_storing m.stage)

abbrev pub runs_at : Option Moment → Bool
runs_at None = false
runs_at (Some m) = runs m.stage

abbrev pub is_in_part : Moment → ℕ → Bool
is_in_part m lba = nat_le (part_lba m) lba && nat_lt lba (part_lba m + part_count m.command m.done)

-- a failure names a sector of its request, and only a load has sectors that cannot be read
abbrev pub failure_misfit : Option Moment → Failure → Option AnswerError
failure_misfit None f = None
failure_misfit (Some m) f = if has_part m && not (is_in_part m f.lba) then Some OtherSector
    else (if m.command.write && runs m.stage && is_uncorrectable f.error then Some OtherKind else None)

-- done: the store, where it is that, or else the flush
abbrev pub done_of : Line → (place number : ℕ) → Input
done_of l p number = if is_none (line_refusal l p number Stores) then Stores else Flushes

abbrev pub or_else : Option AnswerError → Option AnswerError → Option AnswerError
or_else None other = other
or_else found other = found

-- the failure is that of the command of a place, and not that of what a reset dropped
abbrev pub failed_own : EngineState → ℕ → Failure → (own : Bool) → List (Option Failure)
failed_own e p f own = if own then slice_set e.failures p (Some f) else e.failures

-- no command runs in a place of which a dropped store is out
abbrev pub failed_at : EngineState → (place number : ℕ) → Failure → EngineState
failed_at e p number f = record e {
  schedule = with_line e.schedule (line_answered (line e) p number Fails);
  failures = failed_own e p f (runs_at (command_at (line e) p));
}

-- the number is of the command beside the queue, or of a dropped discard
abbrev pub is_beside : EngineState → ℕ → Bool
is_beside e number = asks_for e.stage number || is_number e.dropped number

abbrev pub beside_refusal : EngineState → ℕ → Option AnswerError
beside_refusal e number = if is_beside e number then None else Some NotOut

abbrev pub beside_answered : EngineState → (number : ℕ) → (well : Bool) → EngineState
beside_answered e number well = if asks_for e.stage number then record e { stage = settled well } else record e { dropped = None }

abbrev pub beside_failed : EngineState → (number : ℕ) → Failure → EngineState
beside_failed e number f = with_failures (beside_answered e number false) (failed_own e 32 f (asks_for e.stage number))

abbrev pub beside_other : EngineState → ℕ → AnswerError
beside_other e number = if is_beside e number then OtherKind else NotOut

-- why an answer is refused, where the number is that of a place, or of none
abbrev pub load_refusal : EngineState → Option ℕ → ℕ → List ℕ → Option AnswerError
load_refusal e None number bytes = Some (beside_other e number)
load_refusal e (Some p) number bytes = line_refusal (line e) p number (Loads bytes)

abbrev pub done_refusal : EngineState → Option ℕ → ℕ → Option AnswerError
done_refusal e None number = beside_refusal e number
done_refusal e (Some p) number = line_refusal (line e) p number (done_of (line e) p number)

abbrev pub fail_refusal : EngineState → Option ℕ → ℕ → Failure → Option AnswerError
fail_refusal e None number f = beside_refusal e number
fail_refusal e (Some p) number f = or_else (failure_misfit (command_at (line e) p) f) (line_refusal (line e) p number Fails)

-- what an answer leaves that is taken
abbrev pub loaded_at : EngineState → Option ℕ → ℕ → List ℕ → EngineState
loaded_at e None number bytes = e
loaded_at e (Some p) number bytes = on_line e (line_answered (line e) p number (Loads bytes))

abbrev pub done_at : EngineState → Option ℕ → ℕ → EngineState
done_at e None number = beside_answered e number true
done_at e (Some p) number = on_line e (line_answered (line e) p number (done_of (line e) p number))

abbrev pub failed_by : EngineState → Option ℕ → ℕ → Failure → EngineState
failed_by e None number f = beside_failed e number f
failed_by e (Some p) number f = failed_at e p number f

-- the place of a request by its number
abbrev pub place_of : EngineState → ℕ → Option ℕ
place_of e number = first_below (awaits (line e) number) 33

abbrev pub answer_refusal : EngineState → ℕ → Answer → Option AnswerError
answer_refusal e number (Loaded bytes) = load_refusal e (place_of e number) number bytes.items
answer_refusal e number Done = done_refusal e (place_of e number) number
answer_refusal e number (Failed f) = fail_refusal e (place_of e number) number f

abbrev pub answered : EngineState → ℕ → Answer → EngineState
answered e number (Loaded bytes) = loaded_at e (place_of e number) number bytes.items
answered e number Done = done_at e (place_of e number) number
answered e number (Failed f) = failed_by e (place_of e number) number f

-- ## What is handed out of a request that is out, by its number

abbrev pub bytes_to_store : Option Moment → Option (List ℕ)
bytes_to_store None = None
bytes_to_store (Some m) = if is_storing m.stage then Some m.bytes else None

-- the bytes of the store of this number that is out of the command of a place
abbrev pub stored_at : EngineState → (place number : ℕ) → Option (List ℕ)
stored_at e p number = if nat_lt p 33 && is_number (number_at (line e).queue.out p) number then bytes_to_store (command_at (line e) p) else None

-- the sectors of the discard of this number that is out of the command beside the queue
abbrev pub discarded_at : EngineState → ℕ → Option (List Range)
discarded_at e number = if is_discard e.kind && asks_for e.stage number then Some e.ranges else None

-- ## Which FIS goes

-- the end or the error of the command beside the queue may go
abbrev pub aside_due : EngineState → Bool
aside_due e = is_over e.stage && is_none (line e).queue.table.wire

abbrev pub IsEngineFis : EngineState → Option EngineFis → Type 0
IsEngineFis e None = (aside_due e ≡ false) × IsNextFis (line e) (line e).queue.table.wire None
IsEngineFis e (Some Aside) = aside_due e ≡ true
IsEngineFis e (Some (Ends tags)) = (aside_due e ≡ false) × IsNextFis (line e) (line e).queue.table.wire (Some (fis.Ends tags))
IsEngineFis e (Some (Of p)) = (aside_due e ≡ false) × IsNextFis (line e) (line e).queue.table.wire (Some (fis.Alone p))

abbrev pub MayGo : EngineState → EngineFis → Type 0
MayGo e (Of p) = (p < 33) × (may_send (line e) p ≡ true)
MayGo e (Ends tags) = (line e).queue.table.wire ≡ None
MayGo e Aside = aside_due e ≡ true

abbrev pub aside_sent : EngineState → EngineState
aside_sent e = record e { stage = Idle }

-- ## Resets

abbrev pub dropped_by : AsideKind → AsideStage → Option ℕ → Option ℕ
dropped_by kinds.Discard (Asked number) was = Some number
dropped_by _ _ was = was

abbrev pub engine_reset : EngineState → EngineState
engine_reset e = record e {
  schedule = record { line = line_reset (line e); limit = e.schedule.limit; fault = None };
  stage = Idle;
  dropped = dropped_by e.kind e.stage e.dropped;
  failures = replicate 33 None;
}

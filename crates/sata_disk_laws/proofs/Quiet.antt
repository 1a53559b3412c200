-- What no FIS of the disk tells: each place is as it was, or what it was given changes nothing that its host sees.
use Rattle.std.proofs.Common.{◌≡◌, ℕ, ◌<◌, true, false, List, length, get_or, set, Some, None, refl, sym, ap, ◌∙◌, arith, inl, inr}
use Rattle.std.proofs.lemmas.{Bool.cases_eq, List.{get_or-set_same, get_or-set_other}}
use Rattle.std.specs.{Prelude.{Option, Bool, if◌then◌else◌}, Option.option_map}
use Rattle.block_command.specs.{declared.command.Stage.{Stage, TheVariants.{Waiting, Load, Store, Flush}}, Moments.{Moment, turn_of}, Laws.Input}
use Rattle.block_command.specs.Laws.{Goes, Comes, Loads, Stores, Flushes, Fails, after}
use Rattle.block_disk.specs.{Requests.{asks, asks_at, is_answer, is_request, with_asked, with_table}, Table.with_input}
use Rattle.block_queue.specs.Line.{IsLine, Line, awaits, command_at, line_answered, line_gone, may_start, may_start_at, starts, with_queue}
use Rattle.block_queue.proofs.Door.{of_and}
use Rattle.block_engine.specs.{declared.{aside.AsideStage.AsideStage, request.{Answer.Answer, Failure.Failure}}, Aside.settled, Engine.EngineState}
use Rattle.block_engine.specs.Engine.{answered, done_at, done_of, failed_by, line, loaded_at, place_of}
use Rattle.block_engine.specs.declared.request.Answer.TheVariants as answers
use Rattle.sata_disk_laws.proofs.Left.{is_quiet}
use Rattle.block_engine.proofs.Runs.{found_low}

abbrev pub is_quiet_at : Option Moment → Input → Bool
is_quiet_at None i = true
is_quiet_at (Some m) i = is_quiet m.stage i

pub data Quiet (x y : Option Moment) : Type 0 where
  Same : y ≡ x → Quiet x y
  Given : (i : Input) → is_quiet_at x i ≡ true → y ≡ option_map (λ m. after m i) x → Quiet x y

abbrev pub AreQuiet : Line → Line → Type 0
AreQuiet l k = (q : ℕ) → q < 33 → Quiet (command_at l q) (command_at k q)

places_quiet : (xs : List (Option Moment)) (p : ℕ) (i : Input) (q : ℕ) → length xs ≡ 33 → p < 33 → is_quiet_at (get_or xs p None) i ≡ true
    → Quiet (get_or xs q None) (get_or (set xs p (option_map (λ m. after m i) (get_or xs p None))) q None)
places_quiet xs p i q long low quiet = elim (cases_eq q p) [
  | inl same ↦ Given i (ap (λ k. is_quiet_at (get_or xs k None) i) same ∙ quiet)
      (ap (λ k. get_or (set xs p (option_map (λ m. after m i) (get_or xs p None))) k None) same
      ∙ get_or-set_same xs p _ None (omega (arith, low, long))
      ∙ sym (ap (λ k. option_map (λ m. after m i) (get_or xs k None)) same))
  | inr apart ↦ Same (get_or-set_other xs p q _ None apart)
]

-- ## Each step

start_quiet : (stage : Stage) → starts (turn_of stage) ≡ true → is_quiet stage Goes ≡ true
start_quiet Waiting e = refl
start_quiet stage e = absurd (cc)

starts_quiet : (l : Line) (p : ℕ) (x : Option Moment) → may_start_at l p x ≡ true → is_quiet_at x Goes ≡ true
starts_quiet l p None e = refl
starts_quiet l p (Some m) e = start_quiet m.stage (of_and _ _ e).0

pub started_quiet : (l : Line) (p : ℕ) → IsLine l → p < 33 → may_start l p ≡ true → AreQuiet l (line_gone l p)
started_quiet l p is low may = λ q below. places_quiet l.queue.table.places p Goes q is.places low (starts_quiet l p (command_at l p) may)

request_quiet : (stage : Stage) → is_request (turn_of stage) ≡ true → is_quiet stage Goes ≡ true
request_quiet Load e = refl
request_quiet Store e = refl
request_quiet Flush e = refl
request_quiet stage e = absurd (cc)

requests_quiet : (x : Option Moment) → asks_at x ≡ true → is_quiet_at x Goes ≡ true
requests_quiet None e = refl
requests_quiet (Some m) e = request_quiet m.stage e

pub asked_quiet : (l : Line) (p : ℕ) → IsLine l → p < 33 → asks l.queue p ≡ true → AreQuiet l (with_queue l (with_asked l.queue p))
asked_quiet l p is low may = λ q below. places_quiet l.queue.table.places p Goes q is.places low (requests_quiet (command_at l p) may)

pub heard_quiet : (l : Line) (p : ℕ) (part : List ℕ) → IsLine l → p < 33
    → AreQuiet l (with_queue l (with_table l.queue (with_input l.queue.table p (Comes part))))
heard_quiet l p part is low = λ q below. places_quiet l.queue.table.places p (Comes part) q is.places low (any_quiet (command_at l p))
  where
    any_quiet : (x : Option Moment) → is_quiet_at x (Comes part) ≡ true
    any_quiet None = refl
    any_quiet (Some m) = refl

answer_quiet : (x : Option Moment) (i : Input) → is_answer i ≡ true → is_quiet_at x i ≡ true
answer_quiet None i e = refl
answer_quiet (Some m) Goes e = absurd (cc)
answer_quiet (Some m) (Comes part) e = absurd (cc)
answer_quiet (Some m) (Loads bytes) e = refl
answer_quiet (Some m) Stores e = refl
answer_quiet (Some m) Flushes e = refl
answer_quiet (Some m) Fails e = refl

answer_case : (l : Line) (p : ℕ) (i : Input) (out : List ℕ) (b : Bool) (q : ℕ) → IsLine l → p < 33 → is_answer i ≡ true
    → Quiet (command_at l q) (get_or (if b then record { table = with_input l.queue.table p i; out = out; next = l.queue.next } else l.queue).table.places q None)
answer_case l p i out true q is low e = places_quiet l.queue.table.places p i q is.places low (answer_quiet (command_at l p) i e)
answer_case l p i out false q is low e = Same refl

line_quiet : (l : Line) (p number : ℕ) (i : Input) → IsLine l → p < 33 → is_answer i ≡ true → AreQuiet l (line_answered l p number i)
line_quiet l p number i is low e = λ q below. answer_case l p i _ _ q is low e

done_answers : (b : Bool) → is_answer (if b then Stores else Flushes) ≡ true
done_answers true = refl
done_answers false = refl

beside_quiet : (e : EngineState) (stage : AsideStage) (b : Bool) → AreQuiet (line e) (line (if b then record e { stage = stage } else record e { dropped = None }))
beside_quiet e stage true = λ q below. Same refl
beside_quiet e stage false = λ q below. Same refl

loaded_quiet : (e : EngineState) (x : Option ℕ) (number : ℕ) (bytes : List ℕ) → ((p : ℕ) → x ≡ Some p → p < 33) → IsLine (line e)
    → AreQuiet (line e) (line (loaded_at e x number bytes))
loaded_quiet e None number bytes low is = λ q below. Same refl
loaded_quiet e (Some p) number bytes low is = line_quiet (line e) p number (Loads bytes) is (low p refl) refl

done_quiet : (e : EngineState) (x : Option ℕ) (number : ℕ) → ((p : ℕ) → x ≡ Some p → p < 33) → IsLine (line e)
    → AreQuiet (line e) (line (done_at e x number))
done_quiet e None number low is = beside_quiet e (settled true) _
done_quiet e (Some p) number low is = line_quiet (line e) p number (done_of (line e) p number) is (low p refl) (done_answers _)

failed_quiet : (e : EngineState) (x : Option ℕ) (number : ℕ) (f : Failure) → ((p : ℕ) → x ≡ Some p → p < 33) → IsLine (line e)
    → AreQuiet (line e) (line (failed_by e x number f))
failed_quiet e None number f low is = beside_quiet e (settled false) _
failed_quiet e (Some p) number f low is = line_quiet (line e) p number Fails is (low p refl) refl

pub answered_quiet : (e : EngineState) (number : ℕ) (a : Answer) → IsLine (line e) → AreQuiet (line e) (line (answered e number a))
answered_quiet e number (answers.Loaded bytes) is =
    loaded_quiet e (place_of e number) number bytes.items (λ p f. found_low (awaits (line e) number) 33 p f) is
answered_quiet e number answers.Done is = done_quiet e (place_of e number) number (λ p f. found_low (awaits (line e) number) 33 p f) is
answered_quiet e number (answers.Failed f) is = failed_quiet e (place_of e number) number f (λ p f. found_low (awaits (line e) number) 33 p f) is

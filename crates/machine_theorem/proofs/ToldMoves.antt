-- All payload that the controller of a machine has for the guest is told to the caller.
use Rattle.std.proofs.Common.{◌≡◌, ◌∙◌, ℕ, Bool, true, false, List, [], ◌∷◌, ◌++◌, Option, Some, None, Result, Ok, Err, ap, append_assoc, inl, inr, refl, sym}
use Rattle.std.proofs.lemmas.Bool.{false≢true}
use Rattle.std.specs.{Bool.MatchBool, declared.alloc.AllocError.AllocError}
use Rattle.std.specs.Prelude.{MatchOption}
use Rattle.fis_view.specs.Frames.{Stamped}
use Rattle.guest_fetch.specs.declared.moves.Move.{Move}
use Rattle.ahci_controller.specs.declared.{next.Next.Next, taking.Hindrance.Hindrance}
use Rattle.ahci_controller.specs.declared.next.Next.TheVariants as next
use Rattle.controller_laws.specs.{Carrying.{moves_in, moves_said}, Events.Event}
use Rattle.controller_laws.specs.Events as call
use Rattle.ahci_machine.specs.Acts as acts
use Rattle.ahci_machine.specs.Answers.{IsStale, MissesFor, MissesMachine, SuppliesMachine, is_wanted}
use Rattle.ahci_machine.specs.{Gathers.GatheringState, States.{MachineState, gathering_at}, declared.{act.Act.Act, answers.Told.Told}}
use Rattle.ahci_machine.specs.declared.act.Act.TheVariants as act
use Rattle.ahci_machine.specs.declared.request.Wanted.{Wanted, TheVariants.{Command, Data}}
use Rattle.machine_laws.specs.ControllerLaws.{RunsRuled, TurnsWriteNothing, calls_in, is_write}
use Rattle.machine_laws.specs.Controllers.{data_calls, deed_calls, lost_calls, miss_calls, move_calls, rest_calls, supply_calls}
use Rattle.machine_laws.specs.Deeds.{Deed, Does, Missed, Moved, Supplied, Wrote}
use Rattle.machine_theorem.specs.ReadsWritten.{moves_of, told_moves}

-- what a controller has for the guest, told or handed out as what is next
abbrev pub said_by : Event → List Move
said_by (call.Turned next) = moves_in next
said_by event = moves_of event

abbrev pub all_said : List Event → List Move
all_said [] = []
all_said (event ∷ later) = said_by event ++ all_said later

no_write : (said : Next) → is_write said ≡ false → moves_in said ≡ []
no_write next.Nothing e = refl
no_write (next.Order dev slot fis) e = refl
no_write (next.Feed dev number slot offset len) e = refl
no_write (next.Payload m) e = absurd (false≢true (sym e))
no_write (next.Posted m) e = refl
no_write (next.Counted c) e = refl
no_write (next.Read ask) e = refl

all_append : (xs ys : List Event) → all_said (xs ++ ys) ≡ all_said xs ++ all_said ys
all_append [] ys = refl
all_append (x ∷ xs) ys = ap (λ (l : List Move). said_by x ++ l) (all_append xs ys) ∙ sym (append_assoc (said_by x) (all_said xs) (all_said ys))

told_append : (xs ys : List Event) → told_moves (xs ++ ys) ≡ told_moves xs ++ told_moves ys
told_append [] ys = refl
told_append (x ∷ xs) ys = ap (λ (l : List Move). moves_of x ++ l) (told_append xs ys) ∙ sym (append_assoc (moves_of x) (told_moves xs) (told_moves ys))

abbrev AreTold : List Event → Type 0
AreTold events = all_said events ≡ told_moves events

rests : (old new : MachineState) (r : acts.RestsNow old new) → AreTold (rest_calls old new r)
rests old new (inl same) = refl
rests old new (inr turns) = refl

lost : (o : Option Stamped) (why : Hindrance) → AreTold (lost_calls o why)
lost None why = refl
lost (Some frame) why = refl

supplied : (wanted : Wanted) (bytes : List ℕ) (old : MachineState) (answer : Result Told AllocError) (new : MachineState) (s : SuppliesMachine wanted bytes old answer new)
    → AreTold (supply_calls wanted bytes old answer new s)
supplied (Command slot number) bytes old answer new s = refl
supplied (Data dev number done) bytes old answer new s = refl

missed_data : (wanted : Bool) (there : Option GatheringState) (dev : ℕ) (old : MachineState) (it : Told) (new : MachineState)
    (m : MatchBool wanted (MatchOption there ⊥ (λ g. MissesFor g dev old it new)) (IsStale old it new)) → AreTold (data_calls wanted there dev old it new m)
missed_data true None dev old it new m = refl
missed_data true (Some g) dev old it new m = refl
missed_data false there dev old it new m = refl

missed : (wanted : Wanted) (old : MachineState) (answer : Result Told AllocError) (new : MachineState) (m : MissesMachine wanted old answer new)
    → AreTold (miss_calls wanted old answer new m)
missed (Command slot number) old answer new m = refl
missed (Data dev number done) old (Ok it) new m = missed_data (is_wanted old dev number done) (gathering_at old dev) dev old it new m
missed (Data dev number done) old (Err e) new m = refl

deed_told : TurnsWriteNothing → (old : MachineState) (deed : Deed) (new : MachineState) (does : Does old deed new) → AreTold (deed_calls old deed new does)
deed_told law old (Moved act.Rests) new does = rests old does.middle does.does
deed_told law old (Moved (act.Turns said)) new does = ap (λ (l : List Move). l ++ []) (no_write said (law old said new does))
deed_told law old (Moved (act.Loses why)) new does = lost old.incoming why
deed_told law old (Moved a) new does = refl
deed_told law old (Supplied wanted bytes) new does = supplied wanted bytes old does.answer new does.supplies
deed_told law old (Missed wanted) new does = missed wanted old does.answer new does.misses
deed_told law old deed new does = refl

-- so it is over a run of the machine
pub all_told : TurnsWriteNothing → (old : MachineState) (deeds : List Deed) (new : MachineState) (run : RunsRuled old deeds new)
    → all_said (calls_in old deeds new run) ≡ told_moves (calls_in old deeds new run)
all_told law old [] new run = refl
all_told law old (deed ∷ later) new run =
    let events : List Event = deed_calls old deed run.1.0 run.1.1 in
    let rest : List Event = calls_in run.1.0 later new run.1.2 in
    all_append events rest ∙ ap (λ (l : List Move). l ++ all_said rest) (deed_told law old deed run.1.0 run.1.1)
    ∙ ap (λ (l : List Move). told_moves events ++ l) (all_told law run.1.0 later new run.1.2) ∙ sym (told_append events rest)

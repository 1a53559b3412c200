-- A deed of a machine is at most one call of its controller.
use Rattle.std.proofs.Common.{ℕ, Bool, true, false, List, [], ◌∷◌, Option, Some, None, Result, Ok, Err, inl, inr}
use Rattle.std.specs.{Prelude.MatchOption, Bool.MatchBool, declared.alloc.AllocError.AllocError}
use Rattle.fis_view.specs.Frames.{Stamped}
use Rattle.ahci_controller.specs.declared.taking.Hindrance.{Hindrance}
use Rattle.controller_laws.specs.Events.{Event}
use Rattle.ahci_machine.specs.Acts as acts
use Rattle.ahci_machine.specs.{Answers.{IsStale, MissesFor, MissesMachine, SuppliesMachine, is_wanted}, Gathers.GatheringState, States.MachineState}
use Rattle.ahci_machine.specs.{States.gathering_at, declared.{act.Act.Act, answers.Told.Told, request.Wanted.{Wanted, TheVariants.{Command, Data}}}}
use Rattle.ahci_machine.specs.declared.act.Act.TheVariants as act
use Rattle.machine_laws.specs.{Controllers.{data_calls, deed_calls, lost_calls, miss_calls, move_calls, rest_calls, supply_calls}, Deeds.{Deed, Does}}
use Rattle.machine_laws.specs.Deeds.{Missed, Moved, Supplied, Wrote}

abbrev pub AreFew : List Event → Type 0
AreFew [] = Unit {0}
AreFew (e ∷ []) = Unit {0}
AreFew (e ∷ f ∷ later) = ⊥

rests : (old new : MachineState) (does : acts.RestsNow old new) → AreFew (rest_calls old new does)
rests old new (inl same) = tt
rests old new (inr turns) = tt

loses : (frame : Option Stamped) (why : Hindrance) → AreFew (lost_calls frame why)
loses None why = tt
loses (Some frame) why = tt

moves : (a : Act) (old new : MachineState) (does : acts.Does old a new) → AreFew (move_calls old a new does)
moves act.Rests old new does = rests old new does
moves (act.Writes w) old new does = tt
moves act.LetsGo old new does = tt
moves (act.Turns said) old new does = tt
moves (act.Gathers dev answer) old new does = tt
moves (act.Misses slot answer) old new does = tt
moves (act.Takes took) old new does = tt
moves (act.Loses why) old new does = loses old.incoming why
moves other old new does = tt

supplies : (w : Wanted) (bytes : List ℕ) (old : MachineState) (answer : Result Told AllocError) (new : MachineState) (h : SuppliesMachine w bytes old answer new) → AreFew (supply_calls w bytes old answer new h)
supplies (Command slot number) bytes old answer new h = tt
supplies (Data dev number done) bytes old answer new h = tt

misses_data : (wanted : Bool) (there : Option GatheringState) (dev : ℕ) (old : MachineState) (it : Told) (new : MachineState)
    (h : MatchBool wanted (MatchOption there ⊥ (λ g. MissesFor g dev old it new)) (IsStale old it new)) → AreFew (data_calls wanted there dev old it new h)
misses_data true None dev old it new h = tt
misses_data true (Some g) dev old it new h = tt
misses_data false there dev old it new h = tt

misses : (w : Wanted) (old : MachineState) (answer : Result Told AllocError) (new : MachineState) (h : MissesMachine w old answer new) → AreFew (miss_calls w old answer new h)
misses (Command slot number) old answer new h = tt
misses (Data dev number done) old (Ok it) new h = misses_data (is_wanted old dev number done) (gathering_at old dev) dev old it new h
misses (Data dev number done) old (Err e) new h = tt

pub are_few : (deed : Deed) (old new : MachineState) (does : Does old deed new) → AreFew (deed_calls old deed new does)
are_few (Moved a) old new does = moves a old does.middle does.does
are_few (Wrote offset width value written) old new does = tt
are_few (Supplied w bytes) old new does = supplies w bytes old does.answer new does.supplies
are_few (Missed w) old new does = misses w old does.answer new does.misses
are_few other old new does = tt

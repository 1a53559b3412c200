-- The Data FIS of which payload is written was taken at a moment of the run.
use Rattle.std.proofs.Common.{◌≡◌, ◌⊎◌, ℕ, Bool, true, false, List, [], ◌∷◌, ◌++◌, refl, sym, ap, subst, inl, inr, Option, Some, None, Result, Ok}
use Rattle.std.proofs.Common.{Err}
use Rattle.std.specs.{Prelude.MatchOption, Bool.MatchBool, declared.alloc.AllocError.AllocError}
use Rattle.fis_view.specs.Frames.{Stamped}
use Rattle.slots.specs.Slots.{match_some}
use Rattle.guest_fetch.specs.{Commands.Fetched, declared.moves.Move.Move}
use Rattle.hba_fbs.specs.declared.report.Wrote.{Wrote}
use Rattle.ahci_controller.specs.{Access.fits, States.{ControllerState, kept}, Wide.WritesFitting, declared.access.Width.Width}
use Rattle.ahci_controller.specs.declared.{taking.Hindrance.Hindrance, wide.WideWritten.WideWritten}
use Rattle.controller_laws.specs.Carrying.{Carrying, carrying_after, carrying_after_call, carrying_by, carrying_of, cut_behind, cut_if, cut_wide}
use Rattle.controller_laws.specs.{Carrying.{moves_in, moves_said, said_more}, Events.{Does as Calls, Event, Runs}}
use Rattle.controller_laws.specs.Events as call
use Rattle.ahci_machine.specs.Acts as acts
use Rattle.ahci_machine.specs.{Answers.{IsStale, MissesFor, MissesMachine, SuppliesMachine, is_wanted}, Gathers.GatheringState, States.HasRules}
use Rattle.ahci_machine.specs.{States.{MachineState, gathering_at}, declared.{act.Act.Act, answers.Told.Told, request.Wanted.Wanted}}
use Rattle.ahci_machine.specs.declared.request.Wanted.TheVariants.{Command, Data}
use Rattle.ahci_machine.specs.declared.act.Act.TheVariants as act
use Rattle.machine_laws.specs.{ControllerLaws.{RunsRuled, calls_in}, Controllers.{data_calls, deed_calls, lost_calls, miss_calls, move_calls}}
use Rattle.machine_laws.specs.{Controllers.{rest_calls, supply_calls}, Deeds.{Deed, Does, Missed, Moved, Supplied, Wrote as WroteDeed}}
use Rattle.machine_theorem.specs.{ReadsWritten.NoneTaken, OwnSlots.{CarriedWereTaken, WasTaken}}

-- ---- over calls

-- the FIS of this call brought the bytes
abbrev IsTook : Carrying → Event → Type 0
IsTook d (call.Took frame took) = (frame ≡ d.frame) × (took.brought ≡ Some d.wrote)
IsTook d e = ⊥

abbrev AnyTook : Carrying → List Event → Type 0
AnyTook d [] = ⊥
AnyTook d (e ∷ later) = IsTook d e ⊎ AnyTook d later

record SameFis (w d : Carrying) : Type 0 where
  frame : w.frame ≡ d.frame
  wrote : w.wrote ≡ d.wrote

abbrev IsFrom : Carrying → Option Carrying → Type 0
IsFrom d None = ⊥
IsFrom d (Some w) = SameFis w d

from_cut : (d : Carrying) (b : Bool) (was : Option Carrying) → IsFrom d (cut_if b was) → IsFrom d was
from_cut d b None is = is
from_cut d b (Some w) is = record { frame = is.frame; wrote = is.wrote }

from_said : (d : Carrying) (moves : List Move) (was : Option Carrying) → IsFrom d (said_more moves was) → IsFrom d was
from_said d moves None is = is
from_said d moves (Some w) is = record { frame = is.frame; wrote = is.wrote }

from_wide : (d : Carrying) (b : Bool) (old : ControllerState) (offset : ℕ) (width : Width) (value : ℕ) (written : WideWritten) (new : ControllerState)
    (does : WritesFitting b old offset width value written new) (was : Option Carrying) → IsFrom d (cut_wide b old offset width value written new does was) → IsFrom d was
from_wide d true old offset width value written new does was is = from_cut d _ was (from_cut d _ (cut_behind does.middle was) is)
from_wide d false old offset width value written new does was is = is

from_kept : (d : Carrying) (frame : List ℕ) (wrote : Wrote) (o : Option Fetched) → IsFrom d (match_some o None (λ command. Some (carrying_of frame wrote command)))
    → (frame ≡ d.frame) × (wrote ≡ d.wrote)
from_kept d frame wrote None is = absurd is
from_kept d frame wrote (Some command) is = (is.frame, is.wrote)

from_brought : (d : Carrying) (old : ControllerState) (frame : List ℕ) (o : Option Wrote) → IsFrom d (carrying_by old frame o) → (frame ≡ d.frame) × (o ≡ Some d.wrote)
from_brought d old frame None is = absurd is
from_brought d old frame (Some wrote) is = let both = from_kept d frame wrote (kept old wrote.slot) is in (both.0, ap (λ (w : Wrote). Some w) both.1)

call_from : (d : Carrying) (e : Event) (old new : ControllerState) (does : Calls old e new) (was : Option Carrying) → IsFrom d (carrying_after_call old e new does was)
    → IsFrom d was ⊎ IsTook d e
call_from d (call.Took frame took) old new does was is = inr (from_brought d old frame took.brought is)
call_from d (call.Wrote offset value written) old new does was is = inl (from_cut d _ was is)
call_from d (call.WroteWide offset width value written) old new does was is = inl (from_wide d (fits width offset) old offset width value written new does was is)
call_from d (call.Turned next) old new does was is = inl (from_said d (moves_in next) was is)
call_from d (call.Said write) old new does was is = inl (from_said d (moves_said write) was is)
call_from d (call.Supplied slot number bytes supply) old new does was is = inl is
call_from d (call.Missed slot number supply) old new does was is = inl is
call_from d (call.Left frame why) old new does was is = inl is
call_from d (call.Gathered dev number frame fed) old new does was is = inl is
call_from d (call.NotThere dev number fed) old new does was is = inl is

calls_from : (d : Carrying) (events : List Event) (old new : ControllerState) (run : Runs old events new) (was : Option Carrying) → IsFrom d (carrying_after was old events new run)
    → IsFrom d was ⊎ AnyTook d events
calls_from d [] old new run was is = inl is
calls_from d (e ∷ later) old new run was is =
    elim (calls_from d later run.1.0 new run.1.2 (carrying_after_call old e run.1.0 run.1.1 was) is) [
      | inl first ↦ elim (call_from d e old run.1.0 run.1.1 was first) [
        | inl before ↦ inl before
        | inr here ↦ inr (inl here)
      ]
      | inr there ↦ inr (inr there)
    ]

any_both : (d : Carrying) (xs ys : List Event) → AnyTook d (xs ++ ys) → AnyTook d xs ⊎ AnyTook d ys
any_both d [] ys is = inr is
any_both d (x ∷ xs) ys (inl here) = inl (inl here)
any_both d (x ∷ xs) ys (inr there) = elim (any_both d xs ys there) [
  | inl first ↦ inl (inr first)
  | inr later ↦ inr later
]

-- ---- deeds that take none

none_took : {A : Type 0} (d : Carrying) (events : List Event) → NoneTaken events → AnyTook d events → A
none_took d [] none is = absurd is
none_took d (call.Took frame took ∷ later) none is = absurd none
none_took d (call.Wrote offset value written ∷ later) none (inr is) = none_took d later none is
none_took d (call.WroteWide offset width value written ∷ later) none (inr is) = none_took d later none is
none_took d (call.Supplied slot number bytes supply ∷ later) none (inr is) = none_took d later none is
none_took d (call.Missed slot number supply ∷ later) none (inr is) = none_took d later none is
none_took d (call.Left frame why ∷ later) none (inr is) = none_took d later none is
none_took d (call.Turned next ∷ later) none (inr is) = none_took d later none is
none_took d (call.Said write ∷ later) none (inr is) = none_took d later none is
none_took d (call.Gathered dev number frame fed ∷ later) none (inr is) = none_took d later none is
none_took d (call.NotThere dev number fed ∷ later) none (inr is) = none_took d later none is
none_took d (e ∷ later) none (inl is) = absurd is

rests : (old new : MachineState) (h : acts.RestsNow old new) → NoneTaken (rest_calls old new h)
rests old new (inl same) = tt
rests old new (inr turns) = tt

loses : (frame : Option Stamped) (why : Hindrance) → NoneTaken (lost_calls frame why)
loses None why = tt
loses (Some f) why = tt

supplies : (w : Wanted) (bytes : List ℕ) (old : MachineState) (answer : Result Told AllocError) (new : MachineState) (h : SuppliesMachine w bytes old answer new)
    → NoneTaken (supply_calls w bytes old answer new h)
supplies (Command slot number) bytes old answer new h = tt
supplies (Data dev number done) bytes old answer new h = tt

misses_data : (wanted : Bool) (there : Option GatheringState) (dev : ℕ) (old : MachineState) (it : Told) (new : MachineState)
    (h : MatchBool wanted (MatchOption there ⊥ (λ g. MissesFor g dev old it new)) (IsStale old it new)) → NoneTaken (data_calls wanted there dev old it new h)
misses_data true None dev old it new h = tt
misses_data true (Some g) dev old it new h = tt
misses_data false there dev old it new h = tt

misses : (w : Wanted) (old : MachineState) (answer : Result Told AllocError) (new : MachineState) (h : MissesMachine w old answer new)
    → NoneTaken (miss_calls w old answer new h)
misses (Command slot number) old answer new h = tt
misses (Data dev number done) old (Ok it) new h = misses_data (is_wanted old dev number done) (gathering_at old dev) dev old it new h
misses (Data dev number done) old (Err e) new h = tt

abbrev pub IsNoTaking : Deed → Type 0
IsNoTaking (Moved (act.Takes took)) = ⊥
IsNoTaking deed = Unit {0}

move_none : (old : MachineState) (a : Act) (new : MachineState) (does : Does old (Moved a) new) → IsNoTaking (Moved a) → NoneTaken (deed_calls old (Moved a) new does)
move_none old (act.Takes took) new does none = absurd none
move_none old act.Rests new does none = rests old does.middle does.does
move_none old (act.Loses why) new does none = loses old.incoming why
move_none old (act.Writes write) new does none = tt
move_none old act.LetsGo new does none = tt
move_none old (act.Turns said) new does none = tt
move_none old (act.Gathers dev answer) new does none = tt
move_none old (act.Misses slot answer) new does none = tt
move_none old a new does none = tt

pub deed_none : (old : MachineState) (deed : Deed) (new : MachineState) (does : Does old deed new) → IsNoTaking deed → NoneTaken (deed_calls old deed new does)
deed_none old (Moved a) new does none = move_none old a new does none
deed_none old (WroteDeed offset width value written) new does none = tt
deed_none old (Supplied w bytes) new does none = supplies w bytes old does.answer new does.supplies
deed_none old (Missed w) new does none = misses w old does.answer new does.misses
deed_none old deed new does none = tt

-- ---- each deed

module _ (d : Carrying) where
  move_taken : (old : MachineState) (later : List Deed) (a : Act) (new : MachineState) (does : Does old (Moved a) new) → HasRules old → AnyTook d (move_calls old a does.middle does.does)
      → WasTaken old (Moved a ∷ later) d
  move_taken old later (act.Takes took) new does rules (inl is) = record {
    before = [];
    mid = old;
    first = (rules, refl);
    took = took;
    after = new;
    does = does;
    later = later;
    is = refl;
    frame = is.0;
    brought = is.1;
  }
  move_taken old later (act.Takes took) new does rules (inr is) = absurd is
  move_taken old later act.Rests new does rules is = none_took d (rest_calls old does.middle does.does) (rests old does.middle does.does) is
  move_taken old later (act.Loses why) new does rules is = none_took d (lost_calls old.incoming why) (loses old.incoming why) is
  move_taken old later (act.Writes write) new does rules is = none_took d (move_calls old (act.Writes write) does.middle does.does) tt is
  move_taken old later act.LetsGo new does rules is = none_took d (move_calls old act.LetsGo does.middle does.does) tt is
  move_taken old later (act.Turns said) new does rules is = none_took d (move_calls old (act.Turns said) does.middle does.does) tt is
  move_taken old later (act.Gathers dev answer) new does rules is = none_took d (move_calls old (act.Gathers dev answer) does.middle does.does) tt is
  move_taken old later (act.Misses slot answer) new does rules is = none_took d (move_calls old (act.Misses slot answer) does.middle does.does) tt is
  move_taken old later a new does rules is = none_took d [] tt is

  deed_taken : (old : MachineState) (later : List Deed) (deed : Deed) (new : MachineState) (does : Does old deed new) → HasRules old → AnyTook d (deed_calls old deed new does)
      → WasTaken old (deed ∷ later) d
  deed_taken old later (Moved a) new does rules is = move_taken old later a new does rules is
  deed_taken old later (WroteDeed offset width value written) new does rules is = none_took d (call.WroteWide offset width value written ∷ []) tt is
  deed_taken old later (Supplied w bytes) new does rules is = none_took d (supply_calls w bytes old does.answer new does.supplies) (supplies w bytes old does.answer new does.supplies) is
  deed_taken old later (Missed w) new does rules is = none_took d (miss_calls w old does.answer new does.misses) (misses w old does.answer new does.misses) is
  deed_taken old later deed new does rules is = none_took d [] tt is

  was_taken : (deeds : List Deed) (old now : MachineState) (run : RunsRuled old deeds now) → AnyTook d (calls_in old deeds now run) → WasTaken old deeds d
  was_taken [] old now run is = absurd is
  was_taken (deed ∷ later) old now run is =
      elim (any_both d (deed_calls old deed run.1.0 run.1.1) (calls_in run.1.0 later now run.1.2) is) [
        | inl here ↦ deed_taken old later deed run.1.0 run.1.1 run.0 here
        | inr there ↦ (
            let rest : WasTaken run.1.0 later d = was_taken later run.1.0 now run.1.2 there in
            record {
              before = deed ∷ rest.before;
              mid = rest.mid;
              first = (run.0, (run.1.0, run.1.1, rest.first));
              took = rest.took;
              after = rest.after;
              does = rest.does;
              later = rest.later;
              is = ap (λ l. deed ∷ l) rest.is;
              frame = rest.frame;
              brought = rest.brought;
            })
      ]

some_from : (d : Carrying) (o : Option Carrying) → o ≡ Some d → IsFrom d o
some_from d o e = subst (IsFrom d) (sym e) (record { frame = refl; wrote = refl })

pub carried_were_taken : CarriedWereTaken
carried_were_taken old deeds now run runs d is =
    elim (calls_from d (calls_in old deeds now run) old.controller now.controller runs.calls None (some_from d _ is)) [
      | inl none ↦ absurd none
      | inr took ↦ was_taken d deeds old now run took
    ]

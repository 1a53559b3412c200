-- What the caller is told about a run that has not finished.
use Rattle.std.specs.Prelude.{⊤, Option, Some, None, Result, Ok, Err}
use Rattle.pm_threads.specs.{Halts.{Halt, IsWhy}, declared.run.{RunError.RunError, RunFailure.RunFailure}}
use Rattle.pm_threads.specs.declared.run.RunError.TheVariants as error

-- the error of a run that has not finished
abbrev pub error_of : {T D : Type 0} → Result T (RunFailure D) → Option RunError
error_of (Ok x) = None
error_of (Err failure) = Some failure.error

-- The error says why a run that ended like this has not finished. If there are no ends, memory was refused or
-- the setup is not one that a run can have.
abbrev pub IsToldOf : {D : Type 0} → Option (Halt D) → RunError → Type 0
IsToldOf (Some h) e = IsWhy e h
IsToldOf None error.OutOfMemory = ⊤
IsToldOf None error.BadSetup = ⊤
IsToldOf None error.GateShut = ⊥
IsToldOf None error.TurnsSpent = ⊥
IsToldOf None error.Unexplained = ⊥

abbrev pub IsTold : {D : Type 0} → RunFailure D → Type 0
IsTold failure = IsToldOf failure.left failure.error

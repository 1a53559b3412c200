-- how a run in threads ends

use Rattle.std.specs.Prelude.{ℕ}
use Rattle.trace_threads.specs.declared.threads.Ending.{Ending, TheVariants.{Done, TurnsSpent}}

-- the exit status of a run in threads in which nothing failed
abbrev pub status_of_ending : Ending → ℕ
status_of_ending Done = 0
status_of_ending TurnsSpent = 5

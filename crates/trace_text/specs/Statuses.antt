-- how a run ends

use Rattle.std.specs.Prelude.{ℕ}
use Rattle.trace_text.specs.declared.failure.Failure.{Failure, TheVariants.{Line, CommandLine, OutOfMemory, ReadOrWrite, DiskFile, Unexpected}}

-- the exit status of a run that ends for this reason; 0 is the status of one whose work is done
abbrev pub status_of : Failure → ℕ
status_of (Line _ _ _ _) = 1
status_of CommandLine = 2
status_of OutOfMemory = 3
status_of ReadOrWrite = 4
status_of (DiskFile _) = 4
status_of (Unexpected _) = 6

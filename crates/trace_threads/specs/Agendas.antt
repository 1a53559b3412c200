-- what lines ask of a run in threads

use Rattle.std.specs.Prelude.{ℕ, Bool, true, false, nat_lt, not, length}
use Rattle.pm_threads.specs.Setups.{lies_in}
use Rattle.trace_run.specs.declared.parse.Common.TheVariants.{Submit, Put, See}
use Rattle.trace_threads.specs.declared.entry.Entry.{Entry}
use Rattle.trace_threads.specs.declared.entry.Entry.TheVariants as entry

-- whether a line puts a byte outside the client area of a memory of this many bytes
abbrev pub puts_outside : ℕ → Entry → Bool
puts_outside memory (entry.Common (Put at bytes)) = not (lies_in memory at (length bytes))
puts_outside memory _ = false

-- whether a run of this many ports and bytes of memory can have what a line asks: the port is there,
-- and what is put lies in client memory
abbrev pub is_fitting_entry : ℕ → ℕ → Entry → Bool
is_fitting_entry ports memory (entry.Common (Submit dev _)) = nat_lt dev ports
is_fitting_entry ports memory (entry.Common (Put at bytes)) = lies_in memory at (length bytes)
is_fitting_entry ports memory (entry.Common (See _)) = true
is_fitting_entry ports memory entry.Barrier = true
is_fitting_entry ports memory (entry.Pull dev _) = nat_lt dev ports

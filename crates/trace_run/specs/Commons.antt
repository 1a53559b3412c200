-- what lines ask in either kind of run

use Rattle.std.specs.Prelude.{ℕ, Bool, true, nat_le}
use Rattle.trace_run.specs.declared.parse.Common.{Common, TheVariants.{Submit, Put, See}}

-- whether a line that may stand in either kind of run names a port up to this one, if it names any
abbrev pub names_up_to : ℕ → Common → Bool
names_up_to last (Submit dev _) = nat_le dev last
names_up_to last (Put _ _) = true
names_up_to last (See _) = true

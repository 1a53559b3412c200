use Rattle.std.proofs.Common.{◌≡◌, ◌-◌, length, take}
use Rattle.std.specs.Prelude.{map}
use Rattle.host_memory.specs.Memory.{client_start}
use Rattle.pm_threads.specs.Setups.{memory_of}
use Rattle.pm_threads.proofs.setup.filled.Given as goal

abbrev pub invariant-loop-put : goal.invariant-loop-put
invariant-loop-put l =
    (l.memory ≡ memory_of l.len (map (λ put. (put.0, put.1.items)) (take l.put-index l.puts))) × (length l.memory.client ≡ l.len - client_start)

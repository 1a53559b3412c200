-- What a run is given.
use Rattle.std.specs.{Prelude.{ℕ, ◌-◌, nat_le, nat_lt, ◌==◌, ◌&&◌, not, Bool, List, [], ◌∷◌, filter, length, map}, List.list_all}
use Rattle.host_memory.specs.Memory.{Memory, client_start, is_memory_size, overwritten, zeroed}
use Rattle.pm_threads.specs.{Links.LinksState, declared.setup.Setup.Setup}

-- whether this many bytes from this address on lie in the client area of a memory
abbrev pub lies_in : ℕ → ℕ → ℕ → Bool
lies_in memory at count = nat_le client_start at && nat_le at memory && nat_le count (memory - at)

-- whether there may be this many ports, units, turns and bytes of memory: 1 to 15 ports, a unit for
-- each, 1 to 16,777,216 turns, and a memory of a permitted size
abbrev pub are_numbers : ℕ → ℕ → ℕ → ℕ → Bool
are_numbers ports units turns memory =
    nat_le 1 ports && nat_le ports 15 && (units == ports) && nat_le 1 turns && nat_le turns 0x1000000
    && is_memory_size memory

-- Whether a run with this many ports can have this setup: its numbers fit, its puts lie in the client
-- area, and its requests and pulls are for ports that are there.
abbrev pub is_fitting : {D : Type 0} → ℕ → Setup D → Bool
is_fitting ports s =
    are_numbers ports (length s.units.items) s.turns s.memory
    && list_all (λ put. lies_in s.memory put.0 (length put.1.items)) s.puts.items
    && list_all (λ planned. nat_lt planned.dev ports) s.plan.items
    && list_all (λ pull. nat_lt pull.0 ports) s.pulls.items

-- Whether there may be a run: the setup fits, and no run has taken the seats of these links.
abbrev pub can_run : {D : Type 0} → LinksState → Setup D → Bool
can_run l s = not l.given && is_fitting (length l.devices) s

-- after how many FISes of the device at port n each of its pulls is due
abbrev pub pulls_at : ℕ → List (ℕ × ℕ) → List ℕ
pulls_at n pulls = map (λ pull. pull.1) (filter (λ pull. pull.0 == n) pulls)

-- a memory with these bytes put at their addresses, one after another
abbrev pub put_all : Memory → List (ℕ × List ℕ) → Memory
put_all m [] = m
put_all m (p ∷ ps) =
    put_all (record { structure = m.structure; client = overwritten m.client (p.0 - client_start) p.1 }) ps

-- a memory of this many bytes, all 0 except these
abbrev pub memory_of : ℕ → List (ℕ × List ℕ) → Memory
memory_of len puts = put_all (zeroed len) puts

-- which bytes lie in client memory

use Rattle.std.specs.Prelude.{ℕ, ◌-◌, Bool, ◌&&◌, nat_le}
use Rattle.host_memory.specs.Memory.{client_start}

-- whether this many bytes from this address on lie in the client area of a memory of this many bytes
abbrev pub lies_in_client : ℕ → ℕ → ℕ → Bool
lies_in_client memory at count = nat_le client_start at && nat_le at memory && nat_le count (memory - at)

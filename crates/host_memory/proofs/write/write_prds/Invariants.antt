use Rattle.std.proofs.Common.{◌≡◌, take}
use Rattle.std.specs.List.{AllByRecursion}
use Rattle.host_memory.specs.{Memory.overwritten, Writing.table_bytes}
use Rattle.host_memory.proofs.WriteLemmas.{IsEntry}
use Rattle.host_memory.proofs.write.write_prds.Given as goal

-- the first entries are written, and have 32 bits for their addresses
abbrev pub invariant-loop-i : goal.invariant-loop-i
invariant-loop-i l = record {
  written : l.structure ≡ overwritten l.fn.structure l.at-2 (table_bytes (take l.i l.prds));
  entries : AllByRecursion IsEntry (take l.i l.prds);
}

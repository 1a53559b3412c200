use Rattle.std.proofs.Common.{◌≡◌, slice_index_or}
use Rattle.pm_registers.specs.{Bits.{shares, bits_where}, Port.opening_port}
use Rattle.pm_registers.proofs.registers.PmRegisters.summary.Given as goal

abbrev pub invariant-loop-n : goal.invariant-loop-n
invariant-loop-n l = l.bits ≡ bits_where (λ k. shares (slice_index_or l.self-inside.bank k opening_port).error l.self-inside.mask) l.n

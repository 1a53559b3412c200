use Rattle.std.proofs.Common.{refl}
use Rattle.host_memory.specs.Memory.{zeros}
use Rattle.hba_commands.specs.Writing.{header_bytes}
use Rattle.hba_commands.proofs.write.header.Goals as goal

pub returns : goal.returns
unfolding header_bytes zeros
returns c = rw (c.write_u32-2.ensures, c.write_u32.ensures, c.first_dword.ensures) refl

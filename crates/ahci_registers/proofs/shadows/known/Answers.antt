use Rattle.std.proofs.Common.{◌∙◌}
use Rattle.bitflags.specs.Sets.{known_from}
use Rattle.ahci_registers.proofs.shadows.known.Goals as goal

-- the flags' bits together
pub returns : goal.returns
unfolding known_from
returns c = c.bits.ensures tt ∙ c.all.ensures tt

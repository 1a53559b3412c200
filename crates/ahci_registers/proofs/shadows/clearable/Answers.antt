use Rattle.std.proofs.Common.{◌∙◌, ap, ℕ}
use Rattle.bitflags.specs.Sets.{known_from, without}
use Rattle.ahci_registers.proofs.shadows.clearable.Goals as goal

-- the flags' bits together, without UFS, PCS and PRCS
pub returns : goal.returns
unfolding known_from
returns c = c.bits.ensures tt ∙ c.difference-3.ensures tt ∙ ap (λ (n : ℕ). without 32 n 0x400000)
    (c.difference-2.ensures tt ∙ ap (λ (n : ℕ). without 32 n 0x40)
    (c.difference.ensures tt ∙ ap (λ (n : ℕ). without 32 n 0x10) (c.all.ensures tt)))

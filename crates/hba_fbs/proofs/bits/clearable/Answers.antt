use Rattle.std.proofs.Common.{◌∙◌, ap, ℕ}
use Rattle.bitflags.specs.Sets.{known_from, without}
use Rattle.hba_fbs.proofs.bits.clearable.Goals as goal

-- the flags' bits together, without UFS
pub returns : goal.returns
unfolding known_from
returns c = c.bits.ensures tt ∙ c.difference.ensures tt ∙ ap (λ (n : ℕ). without 32 n 16) (c.all.ensures tt)

use Rattle.hba_laws.proofs.soundness.SoundLemmas.{opens_sound, registers_stay_sound, sizes_stay}
use Rattle.hba_laws.proofs.laws.stays_sound.Goals as goal

pub returns-clause-opens : goal.returns-clause-opens
returns-clause-opens c = opens_sound

pub returns-clause-registers : goal.returns-clause-registers
returns-clause-registers c = registers_stay_sound

pub returns-clause-sizes : goal.returns-clause-sizes
returns-clause-sizes c = sizes_stay

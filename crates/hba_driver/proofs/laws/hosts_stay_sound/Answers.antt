use Rattle.hba_driver.proofs.events.SoundLemmas.{hosts_stay_sound}
use Rattle.hba_driver.proofs.laws.hosts_stay_sound.Goals as goal

pub returns : goal.returns
returns c = hosts_stay_sound

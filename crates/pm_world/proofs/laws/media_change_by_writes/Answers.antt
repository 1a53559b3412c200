use Rattle.pm_world.proofs.media.MediaLemmas.{media_are_of_writes}
use Rattle.pm_world.proofs.laws.media_change_by_writes.Goals as goal

pub returns : goal.returns
returns c = media_are_of_writes

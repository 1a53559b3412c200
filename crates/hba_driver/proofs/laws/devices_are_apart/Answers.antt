use Rattle.hba_driver.proofs.recovers.{ApartTakes.takes_lead, ApartPushes.{is_alone, pushes_on, stays_on}, ApartTicks.ticks_lead}
use Rattle.hba_driver.proofs.recovers.UnsoughtLemmas.{stays_unsought}
use Rattle.hba_driver.proofs.laws.devices_are_apart.Goals as goal

pub returns : goal.returns
returns c = λ n. record { alone = is_alone n; pushes = pushes_on n; ticks = ticks_lead n; takes = takes_lead n; stays = stays_on n; unsought = stays_unsought n }

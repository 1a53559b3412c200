-- What the laws say of reads behind writes, over the runs that led here.
use Rattle.std.proofs.Common.{subst}
use Rattle.sata_disk.specs.State.{DiskState, new_disk}
use Rattle.sata_disk_laws.specs.Calls.{AreCalls}
use Rattle.ahci_machine.specs.States.{MachineState}
use Rattle.machine_laws.specs.Heard.{life_in, no_life}
use Rattle.machine_theorem.specs.{Between.ReadsFollowAmong, OverAll.{DataFollowOverAll, EndedWritesAreSettled, SeenReadsFollow}}
use Rattle.machine_theorem.specs.Unheard.{SlotsTellOfWrites, UnheardIsSpared}
use Rattle.uses_machine_theorem.specs.OverAll.{KnowsAmong, KnowsOverAll, KnowsSentOverAll, KnowsSettled, KnowsSpared, KnowsStanding}

pub over_all : SeenReadsFollow → (now : MachineState) → KnowsOverAll now
over_all law now at led n p limit base deeds mid run between begins on later rest over w f write more second r g read free =
    law n p limit base at deeds mid run between begins on later now rest over led.first led.deeds led.run w f write more second r g read free

pub sent : DataFollowOverAll → (now : MachineState) → KnowsSentOverAll now
sent law now at led n p limit base deeds mid run between begins on later rest over write read free =
    law n p limit base at deeds mid run between begins on later now rest over write read free

pub settled : EndedWritesAreSettled → (now : MachineState) → KnowsSettled now
settled law now at led n p limit base are there deeds run stays write is_write s covered =
    law n p limit base are at there deeds now run stays write is_write s covered

pub spared : UnheardIsSpared → (now : MachineState) → KnowsSpared now
spared law now led n d there lived p limit new first later is s quiet hears =
    law p limit first later s (subst (AreCalls (new_disk p limit)) is
    (subst (λ (x : DiskState). AreCalls x (life_in n no_life led.first led.deeds now led.run).calls) new lived.are)) quiet hears

pub standing : SlotsTellOfWrites → (now : MachineState) → KnowsStanding now
standing law now at led many n tag below low rest deeds run linked lasts keeps p limit base are same s stands m there going =
    law led.ports led.legacy led.first led.opens led.deeds at led.run many n tag below low rest deeds now run linked lasts keeps p limit base are same s stands
    m there going

pub among : ReadsFollowAmong → (now : MachineState) → KnowsAmong now
among law now at led many n w r below w_low r_low rests deeds run linked lasts keeps p limit base are same honest k end falls took new does rules fell =
    law led.ports led.legacy led.first led.opens led.deeds at led.run many n w r below w_low r_low rests deeds now run linked lasts keeps p limit base are same
    honest k end falls took new does rules fell

-- What the laws say of each byte of a read that is not queued, of the runs that led here.
use Rattle.std.proofs.Common.{◌++◌, Some, subst}
use Rattle.sata_disk.specs.{Sending.IsOut, State.DiskState}
use Rattle.sata_disk.specs.declared.out.Out.TheVariants as out
use Rattle.ahci_machine.specs.States.{MachineState}
use Rattle.machine_laws.specs.{ControllerLaws.calls_in, Heard.{life_in, no_life}}
use Rattle.machine_theorem.specs.{SingleBytes.{SingleDataGoInTurn, SinglesAreSent}, SingleNumbers.SingleDataAreCounted}
use Rattle.machine_theorem.specs.SingleReads.{FilledSinglesWereBrought, SinglesAreBrought, SinglesAreBroughtSince, SinglesAreWritten}
use Rattle.uses_machine_theorem.specs.SingleReads.{KnowsSingleCounts, KnowsSingleTurns, KnowsSinglesBrought, KnowsSinglesBroughtSince}
use Rattle.uses_machine_theorem.specs.{SingleReads.{KnowsSinglesFilled, KnowsSinglesSent, KnowsSinglesWritten}, Slots.stretch_of}
use Rattle.uses_machine_theorem.proofs.SlotLemmas.{new_one}

pub brought : SinglesAreBrought → (now : MachineState) → KnowsSinglesBrought now
brought law now led slot low issue done k below = law led.ports led.legacy led.first led.opens led.deeds now led.run slot low issue done k below

pub since : SinglesAreBroughtSince → (now : MachineState) → KnowsSinglesBroughtSince now
since law now at led deeds run slot low issue done none k below =
    law led.ports led.legacy led.first led.opens led.deeds at led.run deeds now run slot low issue done none k below

pub written : SinglesAreWritten → (now : MachineState) → KnowsSinglesWritten now
written law now led slot low issue done k below = law led.ports led.legacy led.first led.opens led.deeds now led.run slot low issue done k below

pub filled : FilledSinglesWereBrought → (now : MachineState) → KnowsSinglesFilled now
filled law now at deeds run runs n low slot slot_low past told none issue is own single k over =
    law n low slot slot_low at.controller now.controller (calls_in at deeds now run) runs.calls past told none issue is own single k over

pub sent : SinglesAreSent → (now : MachineState) → KnowsSinglesSent now
sent law now at led many n c dev slot below dev_low low begins p limit base are same idle deeds run linked lasts line on keeps issue done of_it own other k small =
    law led.ports led.legacy (stretch_of many n slot at led deeds now run p limit base) led.opens c dev below dev_low low begins are same idle linked lasts line
    on keeps issue done of_it own other k small

pub turns : SingleDataGoInTurn → (now : MachineState) → KnowsSingleTurns now
turns law now led n d there lived p limit new base calls is idle on len next page books =
    let it = new_one p limit (life_in n no_life led.first led.deeds now led.run) d lived (base ++ calls) new is in
    law p limit base calls it.0 idle on len (subst (λ (x : DiskState). IsOut x (Some (out.Data 32 len))) it.1 next) page books

pub counts : SingleDataAreCounted → (now : MachineState) → KnowsSingleCounts now
counts law now led n d there lived p limit new base calls fises is clear on single fis few len next page books =
    let it = new_one p limit (life_in n no_life led.first led.deeds now led.run) d lived (base ++ calls) new is in
    law p limit base calls fises it.0 clear on single fis few len (subst (λ (x : DiskState). IsOut x (Some (out.Data 32 len))) it.1 next) page books

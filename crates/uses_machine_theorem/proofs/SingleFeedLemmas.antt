-- What the laws say of the Data of writes that are not queued in the runs that led here.
use Rattle.std.proofs.Common.{◌∷◌, ◌++◌, Some, subst}
use Rattle.ata_reply.specs.declared.reply.Reply.TheVariants as replies
use Rattle.sata_disk.specs.{Sending.IsOut, State.DiskState}
use Rattle.sata_disk.specs.declared.out.Out.TheVariants as out
use Rattle.sata_disk_laws.specs.Calls.{Hears}
use Rattle.ahci_machine.specs.States.{MachineState}
use Rattle.machine_laws.specs.{Heard.{life_in, no_life}, ControllerLaws.calls_in}
use Rattle.machine_theorem.specs.{DataCame.DataComeBehind, SingleData.SingleDataGoInOrder, SingleWrites.SingleWritesAreAsSupplied}
use Rattle.uses_machine_theorem.specs.SingleFeeding.{KnowsCame, KnowsDataInOrder, KnowsSingleWrites}
use Rattle.uses_machine_theorem.proofs.SlotLemmas.{new_one}

pub in_order : SingleDataGoInOrder → (now : MachineState) → KnowsDataInOrder now
in_order law now at dev slot fis later run runs dev_low low commanded past told clear none some message line new last next =
    law dev dev_low slot low fis (calls_in run.1.0 later now run.1.2) at.controller now.controller next.calls.1.0 runs.calls commanded past told clear none some _ _ message line next.calls.1.1

pub came : DataComeBehind → (now : MachineState) → KnowsCame now
came law now led n d there lived p limit new before bytes later is idle none next page books =
    let it = new_one p limit (life_in n no_life led.first led.deeds now led.run) d lived (before ++ Hears bytes ∷ later) new is in
    law p limit before bytes later it.0 idle none (subst (λ (x : DiskState). IsOut x (Some (out.Of 32 replies.Done))) it.1 next) page books

pub single_writes : SingleWritesAreAsSupplied → (now : MachineState) → KnowsSingleWrites now
single_writes law now at led many n c dev slot below dev_low low begins p limit base are same idle deeds run linked lasts keeps on unqueued none_queued own_data took new does rules own shows hides none issue is mine plain =
    law led.ports led.legacy led.first led.opens led.deeds at led.run many n c dev slot below dev_low low begins p limit base are same idle deeds now run linked lasts keeps on unqueued none_queued own_data took new
    does rules own shows hides none issue is mine plain

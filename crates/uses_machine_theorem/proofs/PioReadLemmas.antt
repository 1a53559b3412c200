-- What a caller of a machine knows of the bytes of reads that are not queued, by DMA or by PIO.
use Rattle.ahci_machine.specs.States.{MachineState}
use Rattle.machine_theorem.specs.PioReads.{UnqueuedReadsAreRead}
use Rattle.uses_machine_theorem.specs.{PioReads.KnowsUnqueuedRead, Slots.stretch_of}

pub read : UnqueuedReadsAreRead → (now : MachineState) → KnowsUnqueuedRead now
read law now at led many n c dev slot below dev_low low begins p limit base are same idle deeds run linked lasts line on keeps taken lost sends
    issue done of_it
    own k small =
    law led.ports led.legacy (stretch_of many n slot at led deeds now run p limit base) led.opens c dev below dev_low low begins are same idle
    linked lasts line
    on keeps taken lost sends issue done of_it own k small

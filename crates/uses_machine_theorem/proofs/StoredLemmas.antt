-- What the laws say of the queued writes of a guest that sends queued commands alone, in the runs that led here.
use Rattle.ahci_machine.specs.States.{MachineState}
use Rattle.machine_theorem.specs.QueuedWrites.{DataGoOfQueuedWrites, QueuedAloneIsServed, QueuedWritesAreAsSupplied}
use Rattle.machine_theorem.specs.StoredWrites.{CompletedWritesAreStored}
use Rattle.uses_machine_theorem.specs.{Slots.stretch_of, StoredWrites.{KnowsGone, KnowsQueuedWrites, KnowsServed, KnowsStored}}

pub gone : DataGoOfQueuedWrites → (now : MachineState) → KnowsGone now
gone law now led dev queued message line new does = law led.ports led.legacy led.first led.opens led.deeds now led.run dev queued message line new does

pub served : QueuedAloneIsServed → (now : MachineState) → KnowsServed now
served law now at led many n tag below low rest deeds run linked lasts keeps p limit base are same queued owes takes =
    law led.ports led.legacy (stretch_of many n tag at led deeds now run p limit base) led.opens below low rest linked lasts keeps are same queued owes takes

pub writes : QueuedWritesAreAsSupplied → (now : MachineState) → KnowsQueuedWrites now
writes law now at led many n c dev tag below dev_low low rest begins deeds run linked lasts keeps line well lost own p limit base are same awaits queued all owes takes f down v payload receiving =
    law led.ports led.legacy (stretch_of many n tag at led deeds now run p limit base) led.opens c dev below dev_low low rest begins linked lasts keeps line well lost own are same awaits
    queued all owes takes f down v payload receiving

pub stored : CompletedWritesAreStored → (now : MachineState) → KnowsStored now
stored law now at led many n c dev tag below dev_low low rest begins deeds run linked lasts keeps line well lost own p limit base are same awaits queued all owes takes took new does rules shows hides issue is mine =
    law led.ports led.legacy (stretch_of many n tag at led deeds now run p limit base) led.opens c dev below dev_low low rest begins linked lasts keeps line well lost own are same awaits
    queued all owes takes took new does rules shows hides issue is mine

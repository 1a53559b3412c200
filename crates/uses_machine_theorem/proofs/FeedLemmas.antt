-- What the laws say of the Data of writes in the runs that led here.
use Rattle.ahci_machine.specs.States.{MachineState}
use Rattle.machine_theorem.specs.{Crossing.OrderedLinksKeepPlaces, Fed.FedDataAreOfTheirSlots, TakenWrites.WritesAreAsSupplied}
use Rattle.uses_machine_theorem.specs.Feeding.{KnowsFed, KnowsPlaces, KnowsWrites}

pub fed : FedDataAreOfTheirSlots → (now : MachineState) → KnowsFed now
fed law now led dev message line new does slot offset len is =
    law led.ports led.legacy led.first led.opens led.deeds now led.run dev message line new does slot offset len is

pub places : OrderedLinksKeepPlaces → (now : MachineState) → KnowsPlaces now
places law now at deeds run runs dev low past told none well message line new last next p limit base calls are awaits queue place inside receives extra up within =
    law dev low at.controller now.controller new.controller _ runs.calls past told none well _ _ message line next.calls p limit base calls are awaits queue place inside receives
    extra up within

pub writes : WritesAreAsSupplied → (now : MachineState) → KnowsWrites now
writes law now at led many n c dev tag below dev_low low rest begins deeds run linked lasts keeps line well lost own p limit base are same awaits queue f down v payload receiving =
    law led.ports led.legacy led.first led.opens led.deeds at led.run many n c dev tag below dev_low low rest begins deeds now run linked lasts keeps line well lost own p limit base are same
    awaits queue f down v payload receiving

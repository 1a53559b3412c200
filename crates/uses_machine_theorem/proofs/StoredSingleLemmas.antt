-- What the laws say of writes that are not queued, and that the guest sees completed, in the runs that led here.
use Rattle.std.proofs.Common.{ℕ, List}
use Rattle.ahci_controller.specs.States.{ControllerState}
use Rattle.controller_laws.specs.Events.{Event, Runs}
use Rattle.ahci_machine.specs.States.{MachineState}
use Rattle.machine_theorem.specs.{CountedAlike.CommandsAreCountedAlike, IssuedWork.IssuesMoveAsSupplied, StoredSingles.CompletedSinglesAreStored}
use Rattle.machine_theorem.specs.{StoredSingles.WritesAreNamed, WholeQueued.QueuedCompletionsAreWhole, WholeSingles.UnqueuedAreWholeIf}
use Rattle.uses_machine_theorem.specs.StoredSingles.{KnowsCounts, KnowsNames, KnowsStoredSingles, KnowsWhole, KnowsWholeUnqueuedIf, KnowsWork}

pub work : IssuesMoveAsSupplied → (now : MachineState) → KnowsWork now
work law now led slot low issue there fis is = law led.ports led.legacy led.first led.opens led.deeds now led.run slot low issue there fis is

pub counts : CommandsAreCountedAlike → (now : MachineState) → KnowsCounts now
counts law now n d there fis is move asks moves = law d fis is move asks moves

pub names : WritesAreNamed → (now : MachineState) → KnowsNames now
names law now n d there fis is move asks = law d fis is move asks

pub stored : CompletedSinglesAreStored → (now : MachineState) → KnowsStoredSingles now
stored law now at led many n c dev slot below dev_low low begins p limit base are same idle deeds run linked lasts keeps on unqueued none_queued own_data took new
    does rules own shows hides none issue is mine plain =
    law led.ports led.legacy led.first led.opens led.deeds at led.run many n c dev slot below dev_low low begins p limit base are same idle deeds
    now run linked lasts keeps on unqueued none_queued own_data took new does rules own shows hides none issue is mine plain

pub whole : QueuedCompletionsAreWhole → (now : MachineState) → KnowsWhole now
whole law now at led many n tag below low rest deeds run linked lasts keeps p limit base are same took new does rules shows hides issue is mine =
    law led.ports led.legacy led.first led.opens led.deeds at led.run many n tag below low rest deeds now run linked lasts keeps p limit base are same
    took new does rules shows hides issue is mine

pub whole_unqueued : (Waits : (dev : ℕ) → (old : ControllerState) → (events : List Event) → (now : ControllerState) → Runs old events now → Type 0)
    → UnqueuedAreWholeIf Waits → (now : MachineState) → KnowsWholeUnqueuedIf Waits now
whole_unqueued Waits law now at led many n c dev slot below dev_low low begins p limit base are same idle deeds run linked lasts keeps on runs
    of waiting took new does rules own shows hides none issue is mine plain clear =
    law led.ports led.legacy led.first led.opens led.deeds at led.run many n c dev slot below dev_low low begins p limit base are same idle
    deeds now run linked lasts keeps on runs of waiting took new does rules own shows hides none issue is mine plain clear

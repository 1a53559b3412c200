-- What the laws say of the commands that are not queued, in the runs that led here.
use Rattle.std.proofs.Common.{◌≡◌, ℕ, List, ◌++◌, subst}
use Rattle.ahci_controller.specs.States.{ControllerState}
use Rattle.controller_laws.specs.Events.{Event, Runs}
use Rattle.disk_pages.specs.declared.profile.Profile.{Profile}
use Rattle.sata_disk.specs.State.{DiskState, new_disk}
use Rattle.sata_disk_laws.specs.Calls.{AreCalls, Call}
use Rattle.ahci_machine.specs.States.{MachineState}
use Rattle.machine_laws.specs.Heard.{HasLived, Life, life_in, no_life}
use Rattle.machine_theorem.specs.{Ending.{CommandsAwaitEnds, SentLastWait}, PioIn.UnqueuedAreOfSlotsIf, Settled.CommandsAreSettledInTurn}
use Rattle.machine_theorem.specs.Settled.{SectorsEndByData}
use Rattle.uses_machine_theorem.specs.PioIn.{KnowsEnding, KnowsLast, KnowsSectors, KnowsSettled, KnowsUnqueuedIf}

-- some calls of a new disk
of_new : (p : Profile) (limit : ℕ) (life : Life) (d : DiskState) (lived : HasLived life d) (calls : List Call) → lived.disk ≡ new_disk p limit
    → life.calls ≡ calls
    → AreCalls (new_disk p limit) calls
of_new p limit life d lived calls new is = subst (λ (l : List Call). AreCalls (new_disk p limit) l) is (subst (λ (x : DiskState). AreCalls x life.calls) new lived.are)

pub settled : CommandsAreSettledInTurn → (now : MachineState) → KnowsSettled now
settled law now led n d there lived p limit new base calls is idle on =
    law p limit base calls (of_new p limit (life_in n no_life led.first led.deeds now led.run) d lived (base ++ calls) new is) idle on

pub sectors : SectorsEndByData → (now : MachineState) → KnowsSectors now
sectors law now led n d there lived p limit new base calls is idle on =
    law p limit base calls (of_new p limit (life_in n no_life led.first led.deeds now led.run) d lived (base ++ calls) new is) idle on

pub ending : CommandsAwaitEnds → (now : MachineState) → KnowsEnding now
ending law now at led deeds run runs dev keeps = law dev at.controller now.controller _ runs.calls keeps

pub last : SentLastWait → (now : MachineState) → KnowsLast now
last law now led dev below slot low fis later is past told waits = law dev below slot low fis later now.controller is past told waits

-- whatever has commands wait
abbrev Keeping : Type 1
Keeping = (dev : ℕ) → (old : ControllerState) → (events : List Event) → (now : ControllerState) → Runs old events now → Type 0

pub unqueued : (Waits : Keeping) → UnqueuedAreOfSlotsIf Waits → (now : MachineState) → KnowsUnqueuedIf Waits now
unqueued Waits law now at led many n c dev slot below dev_low low begins p limit base are same idle deeds run linked lasts keeps on runs of waiting took new does rules own shows hides none issue is mine plain clear =
    law led.ports led.legacy led.first led.opens led.deeds at led.run many n c dev slot below dev_low low begins p limit base are same idle deeds now run linked lasts keeps on runs of waiting took new does
    rules own shows hides none issue is mine plain clear

-- What the laws say of the runs that led here.
use Rattle.std.proofs.Common.{◌≡◌, ℕ, List, ◌∷◌, ◌++◌, Some, ap, subst, ◌∙◌}
use Rattle.disk_pages.specs.declared.profile.Profile.{Profile}
use Rattle.sata_disk.specs.{Sending.IsOut, State.{DiskState, new_disk}}
use Rattle.sata_disk_laws.specs.{Calls.{AreCalls, Call, Hears, after_calls}, Laws.reached}
use Rattle.ahci_machine.specs.States.{MachineState}
use Rattle.machine_laws.specs.{ControllerLaws.calls_in, Heard.{HasLived, Life, life_in, no_life}}
use Rattle.machine_theorem.specs.{Brought.{CompletedReadsAreBrought, ReadsAreBrought, ReadsAreBroughtSince}, Completions.CompletionsAreOfSlots}
use Rattle.machine_theorem.specs.{Filled.FilledWereBrought, Given.{CommandsAreGiven, DataAreGiven}, Identity.CommandsAreTheSlots}
use Rattle.machine_theorem.specs.{InTurn.CommandsGoInTurn, Orders.CommandsAreSentOnce, QueuedOnly.QueuedReadsAreBrought, ReadBack.GuestsReadBack}
use Rattle.machine_theorem.specs.{Reads.ReadsAreAsSupplied, ReadsFollow.CompletedReadsFollowWrites, Tags.TagsOfNewDisks, ReadsWritten.ReadsAreWritten}
use Rattle.machine_theorem.specs.Transfers.{TransfersEndSo}
use Rattle.uses_machine_theorem.specs.Slots.{KnowsBrought, KnowsBroughtSince, KnowsBytes, KnowsData, KnowsEnds, KnowsFilled, KnowsGiven, KnowsOrders}
use Rattle.uses_machine_theorem.specs.Slots.{KnowsQueued, KnowsReads, KnowsSlots, KnowsTags, stretch_of, KnowsFollowing, KnowsReadBack, KnowsWritten}
use Rattle.uses_machine_theorem.specs.Slots.{KnowsTransfers, KnowsTurns}

pub tags : TagsOfNewDisks → (now : MachineState) → KnowsTags now
tags law now led n d there lived p limit new tag low = law led.ports led.legacy led.first led.opens led.deeds now led.run n d there lived p limit new tag low

pub orders : CommandsAreSentOnce → (now : MachineState) → KnowsOrders now
orders law now at led deeds run own slot low = law led.ports led.legacy led.first led.opens led.deeds at led.run deeds now run own slot low

pub slots : CommandsAreTheSlots → (now : MachineState) → KnowsSlots now
slots law now at led many n tag below low rest deeds run linked lasts keeps p limit base are same d there m is going =
    law led.ports led.legacy led.first led.opens led.deeds at led.run many n tag below low rest deeds now run linked lasts keeps p limit base are same d there m is going

pub given : CommandsAreGiven → (now : MachineState) → KnowsGiven now
given law now at led many n tag below low rest deeds run linked lasts keeps p limit base are same d there m is going =
    law led.ports led.legacy led.first led.opens led.deeds at led.run many n tag below low rest deeds now run linked lasts keeps p limit base are same d there m is going

pub data_are : DataAreGiven → (now : MachineState) → KnowsData now
data_are law now at led many n tag below low rest deeds run linked lasts keeps p limit base are same len new does =
    law led.ports led.legacy led.first led.opens led.deeds at led.run many n tag below low rest deeds now run linked lasts keeps p limit base are same len new does

pub ends : CompletionsAreOfSlots → (now : MachineState) → KnowsEnds now
ends law now at led many n tag below low rest deeds run linked lasts keeps p limit base are same took new does rules shows hides issue is mine =
    law led.ports led.legacy led.first led.opens led.deeds at led.run many n tag below low rest deeds now run linked lasts keeps p limit base are same took new does rules shows hides
    issue is mine

pub reads : ReadsAreAsSupplied → (now : MachineState) → KnowsReads now
reads law now at led many n c dev tag below dev_low low rest begins deeds run linked lasts keeps line runs well lost p limit base are same took new does mine port calm wrote brought named issue is kind =
    law led.ports led.legacy led.first led.opens led.deeds at led.run many n c dev tag below dev_low low rest begins deeds now run linked lasts keeps line runs well lost p limit base are same took new
    does mine port calm wrote brought named issue is kind

pub brought : ReadsAreBrought → (now : MachineState) → KnowsBrought now
brought law now led slot low issue done k below = law led.ports led.legacy led.first led.opens led.deeds now led.run slot low issue done k below

pub brought_since : ReadsAreBroughtSince → (now : MachineState) → KnowsBroughtSince now
brought_since law now at led deeds run slot low issue done none k below =
    law led.ports led.legacy led.first led.opens led.deeds at led.run deeds now run slot low issue done none k below

pub written : ReadsAreWritten → (now : MachineState) → KnowsWritten now
written law now led slot low issue done k below = law led.ports led.legacy led.first led.opens led.deeds now led.run slot low issue done k below

pub bytes : CompletedReadsAreBrought → (now : MachineState) → KnowsBytes now
bytes law now at led many n c dev tag below dev_low low rest begins deeds run linked lasts keeps line well lost p limit base are same issue done own mine k small =
    law led.ports led.legacy (stretch_of many n tag at led deeds now run p limit base) led.opens c dev below dev_low low rest begins linked lasts keeps line well lost are same issue
    done own mine k small

pub queued : QueuedReadsAreBrought → (now : MachineState) → KnowsQueued now
queued law now at led many n c dev tag below dev_low low rest begins deeds run linked lasts keeps line well lost p limit base are same sends issue done own mine k small =
    law led.ports led.legacy (stretch_of many n tag at led deeds now run p limit base) led.opens c dev below dev_low low rest begins linked lasts keeps line well lost are same sends issue
    done own mine k small

pub filled : FilledWereBrought → (now : MachineState) → KnowsFilled now
filled law now at deeds run runs n low slot slot_low past told none issue is own kind k over =
    law n low slot slot_low at.controller now.controller (calls_in at deeds now run) runs.calls past told none issue is own kind k over

pub read_back : GuestsReadBack → (now : MachineState) → KnowsReadBack now
read_back law now at led many n c dev w r below dev_low w_low r_low rest rest_r begins deeds run linked lasts keeps keeps_r line runs well lost p limit base
    are same honest k end falls took new does mine port calm wrote brought named issue is kind =
    law led.ports led.legacy led.first led.opens led.deeds at led.run many n c dev w r below dev_low w_low r_low rest rest_r begins deeds now run linked lasts
    keeps keeps_r line runs well lost p limit base are same honest k end falls took new does mine port calm wrote brought named issue is kind

pub following : CompletedReadsFollowWrites → (now : MachineState) → KnowsFollowing now
following law now at led many n w r below w_low r_low rest rest_r deeds run linked lasts keeps keeps_r p limit base are same honest k end falls took new does
    rules fell =
    law led.ports led.legacy led.first led.opens led.deeds at led.run many n w r below w_low r_low rest rest_r deeds now run linked lasts keeps keeps_r p limit
    base are same honest k end falls took new does rules fell

-- what some calls of a new disk led to
pub new_one : (p : Profile) (limit : ℕ) (life : Life) (d : DiskState) (lived : HasLived life d) (calls : List Call) → lived.disk ≡ new_disk p limit → life.calls ≡ calls
    → AreCalls (new_disk p limit) calls × (d ≡ reached p limit calls)
new_one p limit life d lived calls new is = (
  subst (λ (l : List Call). AreCalls (new_disk p limit) l) is (subst (λ (x : DiskState). AreCalls x life.calls) new lived.are),
  lived.is ∙ ap (λ (x : DiskState). after_calls x life.calls) new ∙ ap (reached p limit) is,
)

pub turns : CommandsGoInTurn → (now : MachineState) → KnowsTurns now
turns law now led n d there lived p limit new base calls is idle on =
    law p limit base calls (new_one p limit (life_in n no_life led.first led.deeds now led.run) d lived (base ++ calls) new is).0 idle on

pub ends_so : TransfersEndSo → (now : MachineState) → KnowsTransfers now
ends_so law now led n d there lived p limit new before bytes later is transfers idle on heard answered o next answer =
    let it = new_one p limit (life_in n no_life led.first led.deeds now led.run) d lived (before ++ Hears bytes ∷ later) new is in
    law p limit before bytes later it.0 transfers idle on heard answered o (subst (λ (x : DiskState). IsOut x (Some o)) it.1 next) answer

-- A command that the guest sees completed behind a stretch is what the laws of reads behind writes ask for.
use Rattle.std.proofs.Common.{◌≡◌, false, List, ◌++◌, inl, sym, subst, ◌∙◌}
use Rattle.sata_disk.specs.State.{DiskState, commands, is_taken}
use Rattle.sata_disk_laws.specs.{Calls.Call, Laws.reached}
use Rattle.ahci_machine.specs.{States.MachineState}
use Rattle.machine_theorem.specs.{Completions.CompletionsAreOfSlots, FlushesFollow.{DisksAreReachedStill, IsReachedStill}, Identity.calls_of}
use Rattle.machine_theorem.specs.{OverAll.{IsSeen.{Queued, Single}, SeenReadsFollow}, PioIn.UnqueuedAreOfSlotsIf}
use Rattle.uses_machine_theorem.specs.Seen.{KnowsQueuedReadBack, KnowsSeenQueued, KnowsSeenSingle}
use Rattle.uses_machine_theorem.proofs.FlushLemmas.{Keeping, disk_is, keeps_left, no_pio}

pub seen_queued : CompletionsAreOfSlots → (now : MachineState) → KnowsSeenQueued now
seen_queued law now at led many n tag below low rest deeds run linked lasts keeps p limit base are same took new does rules shows hides issue is mine =
    Queued many low (law led.ports led.legacy led.first led.opens led.deeds at led.run many n tag below low rest deeds now run linked lasts keeps p limit base are same
    took new does rules shows hides issue is mine)

pub seen_single : (Waits : Keeping) → UnqueuedAreOfSlotsIf Waits → (now : MachineState) → KnowsSeenSingle Waits now
seen_single Waits law now at led many n c dev slot below dev_low low begins p limit base are same idle deeds run linked lasts keeps on runs of waiting took new does rules own shows hides none issue is mine plain other =
    let done = law led.ports led.legacy led.first led.opens led.deeds at led.run many n c dev slot below dev_low low begins p limit base are same idle deeds now run linked lasts keeps on runs of waiting
    took new does rules own shows hides none issue is mine plain (no_pio other) in
    (done, done.register other, λ transfers. Single dev issue done ((done.answers (done.register other)).ends transfers))

pub queued_back : CompletionsAreOfSlots → SeenReadsFollow → DisksAreReachedStill → (now : MachineState) → KnowsQueuedReadBack now
queued_back completions law still now at led many n w r below w_low r_low rest_w deeds mid run linked lasts keeps p limit base same end fallen falls fell shows_w hides_w writes is_w mine_w
    between begins on left later rest over more second rest_r linked_r lasts_r keeps_r took new does rules shows hides reads is mine =
    let calls : List Call = base ++ calls_of n at deeds mid run ++ calls_of n mid between begins on in
    let it : IsReachedStill n begins p limit calls =
    still n at p limit base (record { are = over.are; there = over.there }) deeds mid run (keeps_left many n w deeds at mid run keeps) between begins on left in
    let is_read : rest_r.disk ≡ reached p limit calls = disk_is rest_r.disk (reached p limit calls) (sym rest_r.there ∙ it.there) in
    let write = completions led.ports led.legacy led.first led.opens led.deeds at led.run many n w below w_low rest_w deeds mid run linked lasts keeps p limit base over.are same
    end fallen falls fell shows_w hides_w writes is_w mine_w in
    let read = completions led.ports led.legacy led.first led.opens more begins second many n r below r_low rest_r later now rest linked_r lasts_r keeps_r p limit calls it.are is_read
    took new does rules shows hides reads is mine in (
      write,
      read,
      law n p limit base at deeds mid run between begins on later now rest over led.first led.deeds led.run w falls.does.frame (Queued many w_low write)
          more second r does.does.frame (Queued many r_low read) (inl (subst (λ (d : DiskState). is_taken (commands d) r ≡ false) is_read rest_r.free)),
    )

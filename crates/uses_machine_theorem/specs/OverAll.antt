-- What a caller of a machine knows of the reads of its guest behind its writes, over anything that happens in between.
use Rattle.std.specs.Prelude.{◌≡◌, ◌<◌, ℕ, Bool, true, false, List, [], ◌∷◌, ◌++◌, Some}
use Rattle.fis_view.specs.Frames.{Stamped}
use Rattle.block_command.specs.Moments.{Moment}
use Rattle.block_disk.specs.Table.{is_under_way}
use Rattle.block_queue.specs.Line.{command_at}
use Rattle.ahci_controller.specs.declared.taking.Took.{Took}
use Rattle.disk_pages.specs.declared.profile.Profile.{Profile}
use Rattle.sata_disk.specs.State.{DiskState, commands, new_disk}
use Rattle.sata_disk_laws.specs.{Calls.{AreCalls, Call, Sends}, Laws.reached}
use Rattle.sata_disk_media.specs.{Cells.covers, Laws.AreSparing, Media.IsHonest, Settled.IsSettled}
use Rattle.ahci_machine.specs.{States.{HasRules, MachineState, bay_at}, declared.bay.Unit.TheVariants.Disk}
use Rattle.ahci_machine.specs.declared.act.Act.TheVariants as act
use Rattle.machine_laws.specs.{ControllerLaws.RunsRuled, Deeds.{Deed, Does, Moved}, Falling.{AllLast, HasLink}, Heard.{HasLived, life_in, no_life}}
use Rattle.machine_theorem.specs.{Between.IsFollowedAmong, Identity.{AllKeep, IsAtRest, calls_of, own_of}, OverAll.{AllStay, HasFollowed, IsEnded}}
use Rattle.machine_theorem.specs.{OverAll.{IsFollowedSoFar, IsOver, IsSeen, IsSending, IsVacant, calls_to, end_of}, ReadBack.{Falls, FallsAt}}
use Rattle.machine_theorem.specs.Unheard.{AllHearNone, IsQuiet, StandsNoWrite}
use Rattle.uses_machine_theorem.specs.Led.{IsLed}

-- The guest saw a command completed behind a stretch from a machine that some run led to, then anything happened, and then, behind a stretch that leads here, it
-- sees another completed, whose place was vacant as this stretch began: if the one is a write and the other a read, the Data that the disk sent for the read
-- have what came for the write, if the medium and what was stored in between are so. Each of them is queued or not.
abbrev pub KnowsOverAll : MachineState → Type 0
KnowsOverAll now = (at : MachineState) (led : IsLed at) (n : ℕ) (p : Profile) (limit : ℕ) (base : List Call) (deeds : List Deed) (mid : MachineState)
    (run : RunsRuled at deeds mid) (between : List Deed) (begins : MachineState) (on : RunsRuled mid between begins) (later : List Deed)
    (rest : RunsRuled begins later now) → IsOver n p limit base at deeds mid run between begins on later now rest
    → (w : ℕ) (f : Stamped) (write : IsSeen n w led.first led.deeds at led.run deeds mid run p limit base f)
    → (more : List Deed) (second : RunsRuled led.first more begins) (r : ℕ) (g : Stamped)
    → (read : IsSeen n r led.first more begins second later now rest p limit (base ++ calls_of n at deeds mid run ++ calls_of n mid between begins on) g)
    → IsVacant p limit (base ++ calls_of n at deeds mid run ++ calls_of n mid between begins on)
    (end_of n r led.first more begins second later now rest p limit (base ++ calls_of n at deeds mid run ++ calls_of n mid between begins on) g read).place
    → HasFollowed p limit (calls_to n at deeds mid run base (end_of n w led.first led.deeds at led.run deeds mid run p limit base f write).end
    ++ Sends (end_of n w led.first led.deeds at led.run deeds mid run p limit base f write).end.said ∷ [])
    (calls_to n begins later now rest (base ++ calls_of n at deeds mid run ++ calls_of n mid between begins on)
    (end_of n r led.first more begins second later now rest p limit (base ++ calls_of n at deeds mid run ++ calls_of n mid between begins on) g read).end)
    (end_of n w led.first led.deeds at led.run deeds mid run p limit base f write).page
    (end_of n r led.first more begins second later now rest p limit (base ++ calls_of n at deeds mid run ++ calls_of n mid between begins on) g read).page

-- So it is of all that a disk has sent of a read by any moment of such a stretch.
abbrev pub KnowsSentOverAll : MachineState → Type 0
KnowsSentOverAll now = (at : MachineState) → IsLed at → (n : ℕ) (p : Profile) (limit : ℕ) (base : List Call) (deeds : List Deed) (mid : MachineState)
    (run : RunsRuled at deeds mid) (between : List Deed) (begins : MachineState) (on : RunsRuled mid between begins) (later : List Deed)
    (rest : RunsRuled begins later now) → IsOver n p limit base at deeds mid run between begins on later now rest
    → (write : IsEnded n p limit base at deeds mid run)
    → (read : IsSending n p limit (base ++ calls_of n at deeds mid run ++ calls_of n mid between begins on) begins later now rest)
    → IsVacant p limit (base ++ calls_of n at deeds mid run ++ calls_of n mid between begins on) read.place
    → IsFollowedSoFar p limit (calls_to n at deeds mid run base write.end ++ Sends write.end.said ∷ [])
    (calls_to n begins later now rest (base ++ calls_of n at deeds mid run ++ calls_of n mid between begins on) read.data') write.page read.place read.page

-- As a write ended on the way here, nothing was out that has a sector of it.
abbrev pub KnowsSettled : MachineState → Type 0
KnowsSettled now = (at : MachineState) → IsLed at → (n : ℕ) (p : Profile) (limit : ℕ) (base : List Call) → AreCalls (new_disk p limit) base
    → (bay_at at n).unit ≡ Disk (reached p limit base) → (deeds : List Deed) (run : RunsRuled at deeds now) → AllStay n deeds
    → (write : IsEnded n p limit base at deeds now run) → write.page.command.write ≡ true
    → (s : ℕ) → covers write.page.command.lba write.page.command.count s ≡ true → IsSettled p limit (calls_to n at deeds now run base write.end) s

-- Of the calls of a disk that was new as it was put at its port, take the later ones: where nothing of a sector is under way as they begin, and it hears no write
-- of it and no DATA SET MANAGEMENT since, it asks for no store and no discard of it.
abbrev pub KnowsSpared : MachineState → Type 0
KnowsSpared now = (led : IsLed now) (n : ℕ) (d : DiskState) → (bay_at now n).unit ≡ Disk d
    → (lived : HasLived (life_in n no_life led.first led.deeds now led.run) d)
    → (p : Profile) (limit : ℕ) → lived.disk ≡ new_disk p limit → (first later : List Call)
    → (life_in n no_life led.first led.deeds now led.run).calls ≡ first ++ later → (s : ℕ) → IsQuiet s (reached p limit first)
    → AllHearNone (reached p limit first) s later → AreSparing (reached p limit first) s later

-- Behind a moment at rest, while the guest keeps to the standard, no write of a sector is under way at a disk under a tag where none stands in the slot.
abbrev pub KnowsStanding : MachineState → Type 0
KnowsStanding now = (at : MachineState) (led : IsLed at) (many : Bool) (n tag : ℕ) → n < 15 → tag < 32
    → (rest : IsAtRest many n tag led.first led.deeds at led.run) → (deeds : List Deed) (run : RunsRuled at deeds now) → HasLink deeds → AllLast n at deeds now run
    → AllKeep many n tag at deeds now run
    → (p : Profile) (limit : ℕ) (base : List Call) → AreCalls (new_disk p limit) base → rest.disk ≡ reached p limit base
    → (s : ℕ) → StandsNoWrite many n tag s led.first led.deeds at led.run deeds now run
    → (m : Moment) → command_at (commands (reached p limit (base ++ calls_of n at deeds now run))) tag ≡ Some m → is_under_way (Some m) ≡ true
    → m.command.write ≡ true → covers m.command.lba m.command.count s ≡ false

-- The bit of w falls behind such a moment, at rest for all tags, as a FIS is taken, then slot r is free, and then the bit of r falls as a FIS is taken: the read has
-- what was written, where no other write of the sector stood in a slot in between, and no request but those of queued commands stored to it or discarded it.
abbrev pub KnowsAmong : MachineState → Type 0
KnowsAmong now = (at : MachineState) (led : IsLed at) (many : Bool) (n w r : ℕ) → n < 15 → w < 32 → r < 32
    → (rests : (tag : ℕ) → tag < 32 → IsAtRest many n tag led.first led.deeds at led.run)
    → (deeds : List Deed) (run : RunsRuled at deeds now) → HasLink deeds → AllLast n at deeds now run
    → ((tag : ℕ) → tag < 32 → AllKeep many n tag at deeds now run)
    → (p : Profile) (limit : ℕ) (base : List Call) → AreCalls (new_disk p limit) base
    → ((tag : ℕ) (low : tag < 32) → (rests tag low).disk ≡ reached p limit base) → IsHonest p limit (base ++ calls_of n at deeds now run)
    → (k : ℕ) (end : Stamped) → FallsAt (own_of many n) w r end k at deeds now run
    → (took : Took) (new : MachineState) (does : Does now (Moved (act.Takes took)) new) → HasRules new → Falls (own_of many n) r now new
    → IsFollowedAmong many n w r k led.first led.deeds at led.run deeds now run p limit base end does.does.frame

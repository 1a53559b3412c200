-- A read brings what a write stored before it, over anything that happens in between (ACS-3, 4, protocols; Serial ATA 3.x, 10.5, Register, Data and Set
-- Device Bits FISes, 11.4, software reset, and 13.6, native command queuing). A disk at a port says that a write ended well, queued or not. Then it may be
-- pulled and plugged, its link and the disk itself are reset, commands fail and others run: anything, but it is not taken from the port. Behind that a read
-- is issued, queued or not, and the disk sends Data of it, or says that it ended well. If its medium gives what it was last told to keep
-- (`sata_disk_media`), these Data have the bytes that came for the write, at each sector of which no other store and no discard was asked for since the write ended.
use Rattle.std.specs.Prelude.{ℕ, ◌≡◌, ◌⊎◌, ◌<◌, ◌≤◌, ◌+◌, ◌-◌, ◌*◌, Bool, true, false, List, [], ◌∷◌, ◌++◌, length, Some}
use Rattle.std.proofs.Common.{refl, subst, sym}
use Rattle.fis_view.specs.Frames.{Stamped}
use Rattle.slots.specs.Slots.{Issue}
use Rattle.block_command.specs.{Laws.IsEarned, Moments.is_verify}
use Rattle.block_disk.specs.Laws.{Page}
use Rattle.ata_reply.specs.declared.reply.Reply.TheVariants as replies
use Rattle.disk_pages.specs.declared.profile.Profile.{Profile}
use Rattle.sata_disk.specs.{State.{commands, is_taken, new_disk}, declared.out.Out.Out}
use Rattle.sata_disk.specs.declared.out.Out.TheVariants as out
use Rattle.sata_disk_books.specs.Books.{page_in}
use Rattle.sata_disk_laws.specs.{Calls.{AreCalls, Call, Sends}, Laws.reached, Once.{host_of, new_host}}
use Rattle.sata_disk_media.specs.{Cells.{covers, sector_of}, Laws.{EndsWell, next_data}, Media.IsHonest, Settled.IsSettled}
use Rattle.ahci_machine.specs.{States.{MachineState, bay_at}, declared.bay.Unit.TheVariants.Disk}
use Rattle.ahci_machine.specs.declared.act.Act.TheVariants as act
use Rattle.machine_laws.specs.{ControllerLaws.RunsRuled, Deeds.{Deed, Does, Moved}, Disks.is_removed}
use Rattle.machine_theorem.specs.{Completions.IsDone, Identity.calls_of, InTurn.IsIdle, PioIn.IsDoneThere, ReadBack.IsUntouched}

-- ---- what a disk says

-- At a moment of a run the disk at a port says this.
pub record IsSaid (n : ℕ) (at : MachineState) (deeds : List Deed) (now : MachineState) (run : RunsRuled at deeds now) : Type 0 where
  pub sooner : List Deed
  pub mid : MachineState
  pub led : RunsRuled at sooner mid
  pub said : Out
  pub after : MachineState
  pub does : Does mid (Moved (act.Speaks n said)) after
  pub later : List Deed
  pub rest : RunsRuled after later now
  pub is : deeds ≡ sooner ++ Moved (act.Speaks n said) ∷ later
  -- Of its calls in the run it is this one.
  pub own : calls_of n at deeds now run ≡ calls_of n at sooner mid led ++ Sends said ∷ calls_of n after later now rest

-- its calls until then, behind some of a new disk
abbrev pub calls_to : (n : ℕ) → (at : MachineState) → (deeds : List Deed) → (now : MachineState) → (run : RunsRuled at deeds now) → (base : List Call)
    → IsSaid n at deeds now run → List Call
calls_to n at deeds now run base s = base ++ calls_of n at s.sooner s.mid s.led

-- It says that the command of a page ended well, and this had earned it.
pub record IsEnded (n : ℕ) (p : Profile) (limit : ℕ) (base : List Call) (at : MachineState) (deeds : List Deed) (now : MachineState)
    (run : RunsRuled at deeds now) : Type 0 where
  pub end : IsSaid n at deeds now run
  pub place : ℕ
  pub ends : EndsWell end.said place
  pub page : Page
  pub books : page_in p limit (calls_to n at deeds now run base end) place ≡ Some page
  pub earned : IsEarned page.command page.ledger page.command.write

-- It sends Data for the command of a page.
pub record IsSending (n : ℕ) (p : Profile) (limit : ℕ) (base : List Call) (at : MachineState) (deeds : List Deed) (now : MachineState)
    (run : RunsRuled at deeds now) : Type 0 where
  pub data' : IsSaid n at deeds now run
  pub place : ℕ
  pub len : ℕ
  pub goes : data'.said ≡ out.Data place len
  pub page : Page
  pub books : page_in p limit (calls_to n at deeds now run base data') place ≡ Some page

-- ---- what the guest sees of it

-- A bit falls behind a stretch as this FIS is taken: the bit of PxSACT of a queued command, or that of PxCI of one that is not. By the FIS the disk says that
-- its command ended well.
pub data IsSeen (n slot : ℕ) (old : MachineState) (before : List Deed) (at : MachineState) (first : RunsRuled old before at) (deeds : List Deed)
    (now : MachineState) (run : RunsRuled at deeds now) (p : Profile) (limit : ℕ) (base : List Call) (fis : Stamped) : Type 0 where
  Queued : (many : Bool) → slot < 32 → IsDone many n slot old before at first deeds now run p limit base fis
      → IsSeen n slot old before at first deeds now run p limit base fis
  Single : (dev : ℕ) → (issue : Issue) → (done : IsDoneThere n dev slot old before at first deeds now run p limit base issue fis)
      → done.said ≡ out.Of 32 replies.Done → IsSeen n slot old before at first deeds now run p limit base fis

-- so the disk said at a moment of the stretch that the command ended well
abbrev pub end_of : (n slot : ℕ) → (old : MachineState) → (before : List Deed) → (at : MachineState) → (first : RunsRuled old before at) → (deeds : List Deed)
    → (now : MachineState) → (run : RunsRuled at deeds now) → (p : Profile) → (limit : ℕ) → (base : List Call) → (fis : Stamped)
    → IsSeen n slot old before at first deeds now run p limit base fis → IsEnded n p limit base at deeds now run
end_of n slot old before at first deeds now run p limit base fis (Queued many low done) = record {
  end = record {
    sooner = done.end.before;
    mid = done.end.moment;
    led = done.end.first;
    said = out.Ends done.end.tags;
    after = done.end.new;
    does = done.end.says;
    later = done.end.later;
    rest = done.end.rest;
    is = done.end.is;
    own = done.end.own;
  };
  place = slot;
  ends = (low, done.end.named);
  page = done.page;
  books = done.books;
  earned = done.earned;
}
end_of n slot old before at first deeds now run p limit base fis (Single dev issue done well) = record {
  end = record {
    sooner = done.sooner;
    mid = done.mid;
    led = done.led;
    said = done.said;
    after = done.after;
    does = done.does;
    later = done.later;
    rest = done.rest;
    is = done.is;
    own = done.own;
  };
  place = 32;
  ends = subst (λ (o : Out). EndsWell o 32) (sym well) refl;
  page = (done.slots well).page;
  books = (done.slots well).books;
  earned = (done.slots well).earned;
}

-- ---- a run in three parts

-- the disk is not taken from the port
abbrev pub AllStay : ℕ → List Deed → Type 0
AllStay n [] = Unit {0}
AllStay n (deed ∷ later) = (is_removed deed n ≡ false) × AllStay n later

-- A stretch of a run, then any deeds, then another stretch. A disk that some calls of a new one led to is at the port as the first begins, it is not taken
-- from there, and its medium gives what it was last told to keep.
pub record IsOver (n : ℕ) (p : Profile) (limit : ℕ) (base : List Call) (at : MachineState) (deeds : List Deed) (now : MachineState)
    (run : RunsRuled at deeds now) (between : List Deed) (begins : MachineState) (led : RunsRuled now between begins) (later : List Deed) (end : MachineState)
    (rest : RunsRuled begins later end) : Type 0 where
  pub are : AreCalls (new_disk p limit) base
  pub there : (bay_at at n).unit ≡ Disk (reached p limit base)
  pub stays : AllStay n deeds
  pub stays_between : AllStay n between
  pub stays_later : AllStay n later
  pub honest : IsHonest p limit (base ++ calls_of n at deeds now run ++ calls_of n now between begins led ++ calls_of n begins later end rest)

-- As the second begins, nothing is under way at a place of the disk: it has no command under the tag (`IsAtRest`), or its host waits for nothing (`IsIdle`).
abbrev pub IsVacant : Profile → (limit : ℕ) → List Call → (place : ℕ) → Type 0
IsVacant p limit calls place = (is_taken (commands (reached p limit calls)) place ≡ false) ⊎ ((place ≡ 32) × IsIdle (host_of new_host calls))

-- ---- what is read

-- By the first calls of a disk the write of a page ended, and then came others, behind which the read of a page ends. Each sector of both has, in the Data that
-- went for the read, the bytes that came for the write, unless another store or a discard of it was asked for in between. READ VERIFY sends none.
pub record HasFollowed (p : Profile) (limit : ℕ) (ended calls : List Call) (written read : Page) : Type 0 where
  pub since : List Call
  pub is : calls ≡ ended ++ since
  pub same : written.command.write ≡ true → read.command.write ≡ false → is_verify read.command.protocol ≡ false
      → (s : ℕ) → covers written.command.lba written.command.count s ≡ true → covers read.command.lba read.command.count s ≡ true
      → IsUntouched p limit ended since s → sector_of read.command.lba s read.ledger.sent ≡ sector_of written.command.lba s written.ledger.came

-- the sector is whole in these bytes for a command
pub record HasWhole (read : Page) (bytes : List ℕ) (s : ℕ) : Type 0 where
  pub first : read.command.lba ≤ s
  pub last : (s - read.command.lba) * 512 + 512 ≤ length bytes

-- Behind them Data of the read go next. So it is of each sector that is whole in what went for the read, with these Data.
pub record IsFollowedSoFar (p : Profile) (limit : ℕ) (ended calls : List Call) (written : Page) (place : ℕ) (read : Page) : Type 0 where
  pub since : List Call
  pub is : calls ≡ ended ++ since
  pub same : written.command.write ≡ true → (s : ℕ) → covers written.command.lba written.command.count s ≡ true
      → HasWhole read (read.ledger.sent ++ next_data p limit calls place) s → IsUntouched p limit ended since s
      → sector_of read.command.lba s (read.ledger.sent ++ next_data p limit calls place) ≡ sector_of written.command.lba s written.ledger.came

-- ---- the laws

-- A disk says in the first stretch that a write ended well, and in the second that a read did, whose place was vacant as this began.
abbrev pub ReadsFollowOverAll : Type 0
ReadsFollowOverAll = (n : ℕ) (p : Profile) (limit : ℕ) (base : List Call) (at : MachineState) (deeds : List Deed) (now : MachineState)
    (run : RunsRuled at deeds now) (between : List Deed) (begins : MachineState) (led : RunsRuled now between begins) (later : List Deed) (end : MachineState)
    (rest : RunsRuled begins later end) → IsOver n p limit base at deeds now run between begins led later end rest
    → (write : IsEnded n p limit base at deeds now run)
    → (read : IsEnded n p limit (base ++ calls_of n at deeds now run ++ calls_of n now between begins led) begins later end rest)
    → IsVacant p limit (base ++ calls_of n at deeds now run ++ calls_of n now between begins led) read.place
    → HasFollowed p limit (calls_to n at deeds now run base write.end ++ Sends write.end.said ∷ [])
    (calls_to n begins later end rest (base ++ calls_of n at deeds now run ++ calls_of n now between begins led) read.end) write.page read.page

-- In the second it sends Data for a read whose place was vacant as this began.
abbrev pub DataFollowOverAll : Type 0
DataFollowOverAll = (n : ℕ) (p : Profile) (limit : ℕ) (base : List Call) (at : MachineState) (deeds : List Deed) (now : MachineState)
    (run : RunsRuled at deeds now) (between : List Deed) (begins : MachineState) (led : RunsRuled now between begins) (later : List Deed) (end : MachineState)
    (rest : RunsRuled begins later end) → IsOver n p limit base at deeds now run between begins led later end rest
    → (write : IsEnded n p limit base at deeds now run)
    → (read : IsSending n p limit (base ++ calls_of n at deeds now run ++ calls_of n now between begins led) begins later end rest)
    → IsVacant p limit (base ++ calls_of n at deeds now run ++ calls_of n now between begins led) read.place
    → IsFollowedSoFar p limit (calls_to n at deeds now run base write.end ++ Sends write.end.said ∷ [])
    (calls_to n begins later end rest (base ++ calls_of n at deeds now run ++ calls_of n now between begins led) read.data') write.page read.place read.page

-- So it is of what the guest sees completed: in the first stretch a write, and in the second a read, each queued or not.
abbrev pub SeenReadsFollow : Type 0
SeenReadsFollow = (n : ℕ) (p : Profile) (limit : ℕ) (base : List Call) (at : MachineState) (deeds : List Deed) (now : MachineState)
    (run : RunsRuled at deeds now) (between : List Deed) (begins : MachineState) (led : RunsRuled now between begins) (later : List Deed) (end : MachineState)
    (rest : RunsRuled begins later end) → IsOver n p limit base at deeds now run between begins led later end rest
    → (old : MachineState) (before : List Deed) (first : RunsRuled old before at) (w : ℕ) (f : Stamped)
    → (write : IsSeen n w old before at first deeds now run p limit base f)
    → (more : List Deed) (second : RunsRuled old more begins) (r : ℕ) (g : Stamped)
    → (read : IsSeen n r old more begins second later end rest p limit (base ++ calls_of n at deeds now run ++ calls_of n now between begins led) g)
    → IsVacant p limit (base ++ calls_of n at deeds now run ++ calls_of n now between begins led)
    (end_of n r old more begins second later end rest p limit (base ++ calls_of n at deeds now run ++ calls_of n now between begins led) g read).place
    → HasFollowed p limit (calls_to n at deeds now run base (end_of n w old before at first deeds now run p limit base f write).end
    ++ Sends (end_of n w old before at first deeds now run p limit base f write).end.said ∷ [])
    (calls_to n begins later end rest (base ++ calls_of n at deeds now run ++ calls_of n now between begins led)
    (end_of n r old more begins second later end rest p limit (base ++ calls_of n at deeds now run ++ calls_of n now between begins led) g read).end)
    (end_of n w old before at first deeds now run p limit base f write).page
    (end_of n r old more begins second later end rest p limit (base ++ calls_of n at deeds now run ++ calls_of n now between begins led) g read).page

-- ---- what was asked for before the write ended

-- As a write ends, nothing is out that has a sector of it: each store and each discard of it that the disk asked for before was answered, also one that a
-- plug, a reset or an error dropped while it was out. So what the calls since then ask for is all that can change what the write stored.
abbrev pub EndedWritesAreSettled : Type 0
EndedWritesAreSettled = (n : ℕ) (p : Profile) (limit : ℕ) (base : List Call) → AreCalls (new_disk p limit) base
    → (at : MachineState) → (bay_at at n).unit ≡ Disk (reached p limit base)
    → (deeds : List Deed) (now : MachineState) (run : RunsRuled at deeds now) → AllStay n deeds
    → (write : IsEnded n p limit base at deeds now run) → write.page.command.write ≡ true
    → (s : ℕ) → covers write.page.command.lba write.page.command.count s ≡ true → IsSettled p limit (calls_to n at deeds now run base write.end) s
